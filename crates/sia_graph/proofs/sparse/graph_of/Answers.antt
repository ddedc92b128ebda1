use Rattle.std.proofs.Common.{◌≡◌, ◌≢◌, ◌∷◌, [], ◌++◌, ◌*◌, ◌+◌, ◌-◌, ◌<◌, ◌≤◌, ℕ, Vec, Global, List, Some, length, get_or, refl, ap, sym, subst, ◌∙◌, arith, ◌↔◌, Contains}
use Rattle.sia_events.specs.declared.event.Event.{Event}
use Rattle.sia_parts.specs.Sights.{Adds}
use Rattle.sia_events.specs.Transactions.{IsCommitted}
use Rattle.sia_events.proofs.Worked.OneList.{one_list_by}
use Rattle.sia_graph.specs.NarrowSteps.{node_of}
use Rattle.sia_graph.specs.SparseGraphs.{HasNodes, IsBlockStep}
use Rattle.sia_graph.proofs.Shared.MemberSteps.{leaf_put, size_few}
use Rattle.sia_graph.proofs.Shared.RowLists.{block_sources, block_targets, member_targets, nodes_more, nodes_to}
use Rattle.sia_graph.proofs.SparseGraphs.StepsPut.{few_first}
use Rattle.sia_graph.proofs.SparseGraphs.SparseStands.{sparse}
use Rattle.sia_parts.proofs.EdgeRows.Readings.{few_txns}
use Rattle.sia_graph.proofs.sparse.graph_of.Goals.{then-block-size+in_ok-put_other, else-block-size+then-block-gt0+in_ok-push+in_ok-push-2, else-block-size+else-block-gt0}
use Rattle.sia_graph.proofs.Shared.MakersTold.{first_told}
use Rattle.sia_graph.proofs.sparse.graph_of.Goals as goal

-- a block leads to its halves, and the block 0 nowhere
halves : (h : List Event) (size b : ℕ) → 0 < b → b < size → (n : ℕ) → Contains ((2 * b) ∷ (2 * b + 1) ∷ []) n ↔ IsBlockStep h size b n
halves h size b some below n = grind arith

nowhere : (h : List Event) (size b : ℕ) → b ≤ 0 → b < size → (n : ℕ) → Contains [] n ↔ IsBlockStep h size b n
nowhere h size b none below n = grind arith

pub put_other-requires : goal.put_other-requires
put_other-requires c =
    let e = c.args.evidence.now in (
      size_few c.args.size e.index.now e.accesses.now c.requires.evidence.well_formed c.requires.size,
      λ i is.
          let zero = c.first_position-zero.ensures in
          let told = first_told e.index.now (c.loop-block.block - c.args.size) c.first_position-zero.result zero.0 zero.1 zero.2 zero.3 i in
          few_first e.index.now c.requires.evidence.well_formed (c.loop-block.block - c.args.size) i (told.0 ((c.next_maker-first.ensures i).0 is)),
    )

pub overflow_mul-block-end : goal.overflow_mul-block-end
overflow_mul-block-end c = let e = c.args.evidence.now in let few = size_few c.args.size e.index.now e.accesses.now c.requires.evidence.well_formed c.requires.size in omega arith

pub loop-block-preserved : goal.loop-block-preserved
loop-block-preserved c =
    let e = c.args.evidence.now in
    let h = e.index.now in
    let a = e.accesses.now in
    let size = c.args.size in
    let b = c.loop-block.block in
    let row = c.if-block-size.targets.items in
    let old = c.loop-block.graph in
    let below : b < 2 * size = c.loop-block-test.true in
    let are = λ (v : Vec ℕ Global). (n : ℕ) → Contains v.items n ↔ IsBlockStep h size b n in
    let steps : are c.if-block-size.targets = elim c.if-block-size.branch [
      | then-block-size+in_ok-put_other w ↦
          let zero = w.first_position-zero.ensures in
          let first = w.next_maker-first in
          subst are (sym w.targets-is)
          (leaf_put h size b c.requires.evidence.well_formed (b - size) (omega arith) (omega arith) first.result
          (λ i. let told = first_told h (b - size) w.first_position-zero.result zero.0 zero.1 zero.2 zero.3 i in ((λ e. told.0 ((first.ensures i).0 e)), (λ m. (first.ensures i).1 (told.1 m))))
          w.put_other.new.row.items
          (subst (λ (l : List ℕ). Adds (λ n. (i : ℕ) × (first.result ≡ Some i) × (i ≢ 4294967295) × (n ≡ node_of size i)) l w.put_other.new.row.items) c.clear.ensures.items w.in_ok-put_other.ensures))
      | else-block-size+then-block-gt0+in_ok-push+in_ok-push-2 w ↦
          let items : w.push-then-block-gt0.new.self.items ≡ (2 * b) ∷ (2 * b + 1) ∷ [] =
          w.in_ok-push-2.ensures.items ∙ ap (λ (l : List ℕ). l ++ (2 * b + 1) ∷ []) (w.in_ok-push.ensures.items ∙ ap (λ (l : List ℕ). l ++ (2 * b) ∷ []) c.clear.ensures.items) in
          subst are (sym w.targets-is) (subst (λ (l : List ℕ). (n : ℕ) → Contains l n ↔ IsBlockStep h size b n) (sym items) (halves h size b w.if-block-gt0.true w.if-block-size.false))
      | else-block-size+else-block-gt0 w ↦
          subst are (sym w.targets-is) (subst (λ (l : List ℕ). (n : ℕ) → Contains l n ↔ IsBlockStep h size b n) (sym c.clear.ensures.items) (nowhere h size b w.if-block-gt0.false w.if-block-size.false))
    ] in (
      nodes_more h a size b old _ row [] c.loop-block.invariant.0
          (c.in_ok-put_row.ensures ∙ ap (λ (l : List ℕ). old.targets ++ (l ∷ [])) c.deref.ensures.value)
          c.in_ok-put_row-2.ensures
          (block_targets h a size b row below steps)
          (block_sources h a size b below),
      omega arith,
    )

pub overflow_cast-txn-end : goal.overflow_cast-txn-end
overflow_cast-txn-end c = let few = few_txns c.args.evidence.now.index.now c.requires.evidence.well_formed c.committed-2.result.now c.committed-2.ensures in omega arith

pub loop-txn-init : goal.loop-txn-init
loop-txn-init c =
    let e = c.args.evidence.now in
    let same : c.loop-block.block ≡ 2 * c.args.size + 0 = omega arith in
    (subst (λ n. HasNodes e.index.now e.accesses.now c.args.size n c.loop-block.graph) same c.loop-block.invariant.0, omega arith)

pub fill-requires-clause-txn : goal.fill-requires-clause-txn
fill-requires-clause-txn c =
    (get_or c.committed-2.result.now c.loop-txn.txn 0, (c.committed-2.result.now, c.committed-2.ensures, omega arith, refl))

pub put_member_steps-requires-clause-txn : goal.put_member_steps-requires-clause-txn
put_member_steps-requires-clause-txn c =
    (get_or c.committed-2.result.now c.loop-txn.txn 0, (c.committed-2.result.now, c.committed-2.ensures, omega arith, refl))

pub loop-txn-preserved : goal.loop-txn-preserved
loop-txn-preserved c =
    let e = c.args.evidence.now in
    let h = e.index.now in
    let a = e.accesses.now in
    let size = c.args.size in
    let i = c.loop-txn.txn in
    let old = c.loop-txn.graph in
    let put = c.in_ok-put_member_steps.ensures in
    let next : 2 * size + i + 1 ≡ 2 * size + (i + 1) = omega arith in (
      nodes_to h a size (node_of size i) (2 * size + (i + 1)) next old _ c.put_member_steps.new.targets.items c.put_member_steps.new.sources.items c.loop-txn.invariant.0
          (c.in_ok-put_row-3.ensures ∙ ap (λ (l : List ℕ). old.targets ++ (l ∷ [])) c.deref-in-loop-txn.ensures.value)
          (c.in_ok-put_row-4.ensures ∙ ap (λ (l : List ℕ). old.sources ++ (l ∷ [])) c.deref-in-loop-txn-2.ensures.value)
          (member_targets h a size i c.put_member_steps.new.targets.items put.targets) put.sources,
      (let l = c.loop-txn-test.true in omega arith),
    )

pub returns : goal.returns
returns c txns are =
    let e = c.args.evidence.now in
    let size = c.args.size in
    let same : length c.committed-2.result.now ≡ length txns = ap (length {A = ℕ}) (one_list_by (λ x. x ∷ []) (IsCommitted e.index.now) c.committed-2.result.now txns c.committed-2.ensures are) in
    let last : 2 * size + c.loop-txn.txn ≡ 2 * size + length txns = let most = c.loop-txn.invariant.1 in let end = c.loop-txn-test.false in omega arith in
    sparse e.index.now c.requires.evidence.well_formed e.accesses.now c.requires.evidence.accesses txns are c.position_count-positions.ensures.0 c.position_count-positions.ensures.1 size c.requires.size _
    (subst (λ n. HasNodes e.index.now e.accesses.now size n c.loop-txn.graph) last c.loop-txn.invariant.0)
