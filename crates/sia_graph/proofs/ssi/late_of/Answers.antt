use Rattle.std.proofs.Common.{◌≡◌, ◌⊎◌, ◌*◌, ◌<◌, ◌≤◌, inl, inr, ℕ, List, [], length, get_or, refl, ap, sym, subst, ◌∙◌, arith, drop, ◌↔◌, Contains}
use Rattle.std.proofs.lemmas.List.{take-append-le, take_all}
use Rattle.std.proofs.lemmas.List.Elements.{Contains-get_or}
use Rattle.sia_index.proofs.Shared.KeyChains.{key_number}
use Rattle.sia_index.specs.Numbers.{IsCommittedAt}
use Rattle.sia_parts.specs.declared.accesses.RangeMiss.{RangeMiss}
use Rattle.sia_graph.specs.KeyBlocks.{IsUnderSome}
use Rattle.sia_graph.specs.Late.{AreLate, ArePassedMarks, AreSeenMarks, IsMarkedOver}
use Rattle.sia_graph.specs.Passed.{IsHeldBy, IsOwnPassed}
use Rattle.sia_graph.proofs.SsiTest.Marks.{passed_marked, passed_unmarked, seen_marked, seen_unmarked}
use Rattle.sia_graph.proofs.SsiTest.LateEdges.{lates, last_all, last_more, last_none}
use Rattle.sia_graph.proofs.Shared.MemberSteps.{size_few}
use Rattle.sia_parts.proofs.EdgeRows.Room.{one_count}
use Rattle.sia_graph.proofs.SsiTest.Raised.{below_max}
use Rattle.sia_parts.proofs.EdgeRows.Readings.{few_txns}
use Rattle.sia_graph.proofs.ssi.late_of.Goals.{After-commit_at, then-commit_at-eq0, else-commit_at-eq0}
use Rattle.sia_graph.proofs.ssi.late_of.Goals as goal
use Rattle.sia_parts.proofs.EdgeRows.PositionOrder.{has_position}

pub loop-txn-init : goal.loop-txn-init
loop-txn-init c =
    let e = c.args.evidence.now in
    let size = c.size_for-size.result in
    ((seen_unmarked e.index.now e.accesses.now c.args.values.now c.position_count.result c.as_mut_slice-seen.result.now c.position_count.ensures (c.as_mut_slice-seen.ensures.value ∙ c.in_ok-late.ensures.items_if_clones_equal (λ y e. e))), passed_unmarked e.index.now e.accesses.now c.args.values.now size (2 * size) c.as_mut_slice-most.result.now refl (c.as_mut_slice-most.ensures.value ∙ c.in_ok-block_marks.ensures.items_if_clones_equal (λ y e. e)), omega arith)

pub fill-requires-clause-txn : goal.fill-requires-clause-txn
fill-requires-clause-txn c =
    let txns = c.requires.values in
    (get_or txns.0 c.loop-txn.txn 0, (txns.0, txns.1, (let e = txns.2 in omega arith), refl))

pub raise_stands-requires-clause-txn : goal.raise_stands-requires-clause-txn
raise_stands-requires-clause-txn c =
    let txns = c.requires.values in
    (get_or txns.0 c.loop-txn.txn 0, (txns.0, txns.1, (let e = txns.2 in omega arith), refl))

pub raise_stands-requires-clause-own : goal.raise_stands-requires-clause-own
raise_stands-requires-clause-own c =
    subst (λ (l : List ℕ). (j : ℕ) → Contains l j ↔ IsOwnPassed c.args.evidence.now.index.now c.args.evidence.now.accesses.now c.loop-txn.txn j) (sym c.deref.ensures.value) c.in_ok-fill.ensures.own

pub put_all_blocks-requires : goal.put_all_blocks-requires
put_all_blocks-requires c = let e = c.args.evidence.now in let few = size_few c.size_for-size.result e.index.now e.accesses.now c.requires.evidence.well_formed c.size_for-size.ensures in omega arith

pub raise_all-requires : goal.raise_all-requires
raise_all-requires c k d l =
    let blocks = c.deref-in-loop-txn-2.result.now in
    let b = get_or blocks k d in
    elim (c.in_ok-put_all_blocks.ensures.within b (subst (λ (xs : List ℕ). Contains xs b) c.deref-in-loop-txn-2.ensures.value (Contains-get_or blocks k d l))) [
      | inl none ↦ let l = (subst (λ (xs : List ℕ). Contains xs b) c.clear.ensures.items none).1 in absurd (omega arith)
      | inr w ↦ let l = w.1 in omega arith
    ]

pub returns : goal.returns
returns c =
    let e = c.args.evidence.now in
    let size = c.size_for-size.result in
    let txns = c.requires.values in
    let marks = c.loop-txn.invariant in
    let last : c.loop-txn.txn ≡ length txns.0 = let e = txns.2 in let most = marks.2 in omega arith in
    let long = one_count e.index.now _ _ c.position_count-position-end.ensures marks.0.long in
    let table = c.in_ok-late.late in
    let seen = c.loop-position.seen in
    let many : table.len ≡ length seen = let a = table.ok.0 in let b = ap (length {A = ℕ}) c.as_mut_slice-seen.ensures.value in let d = c.loop-txn.auto.seen in let f = c.loop-position.auto.seen in omega arith in
    subst (AreLate e.index.now c.args.values.now) (sym (take-append-le table.len seen (drop (length seen) table.items) (omega arith) ∙ take_all table.len seen (omega arith)))
    (lates e.index.now c.requires.evidence.well_formed c.requires.kept e.accesses.now c.requires.evidence.accesses txns.0 txns.1 size
    (λ j k at. elim c.size_for-size.ensures [
      | inl all ↦ let l = (key_number e.index.now all.0 all.1 j k at).0 in let e = all.2 in inr (omega arith)
      | inr none ↦ inl none.0
    ])
    (λ i j none m. elim c.size_for-size.ensures [
      | inl all ↦ let w = c.requires.evidence.accesses.missed i j m in let l = (key_number e.index.now all.0 all.1 j w.1 w.3).0 in let e = all.2 in absurd (omega arith)
      | inr never ↦ never.1 i j m
    ])
    c.args.values.now c.loop-txn.seen c.loop-txn.most c.loop-position.seen
    (subst (λ n. AreSeenMarks e.index.now e.accesses.now c.args.values.now n c.loop-txn.seen) last marks.0) (subst (λ n. ArePassedMarks e.index.now e.accesses.now c.args.values.now size n c.loop-txn.most) last marks.1)
    (last_all e.index.now size c.loop-txn.seen c.loop-txn.most c.loop-position.position c.loop-position.seen c.loop-position.last marks.0.long (let most = c.loop-position.invariant.1 in omega arith) c.loop-position.invariant.0))

pub overflow_cast-txn : goal.overflow_cast-txn
overflow_cast-txn c = let txns = c.requires.values in let few = few_txns c.args.evidence.now.index.now c.requires.evidence.well_formed txns.0 txns.1 in let e = txns.2 in omega arith

pub overflow_cast-txn-in-loop-txn : goal.overflow_cast-txn-in-loop-txn
overflow_cast-txn-in-loop-txn c = let txns = c.requires.values in let few = few_txns c.args.evidence.now.index.now c.requires.evidence.well_formed txns.0 txns.1 in let e = txns.2 in let l = c.loop-txn-test.true in omega arith

pub loop-txn-preserved : goal.loop-txn-preserved
loop-txn-preserved c =
    let e = c.args.evidence.now in
    let h = e.index.now in
    let a = e.accesses.now in
    let n = c.loop-txn.txn in
    let values = c.args.values.now in
    let value = get_or values n 0 in
    let size = c.size_for-size.result in
    let txns = c.requires.values in
    let t = get_or txns.0 n 0 in
    let at : IsCommittedAt h n t = let l = c.loop-txn-test.true in (txns.0, txns.1, (let e = txns.2 in omega arith), refl) in
    let blocks = c.put_all_blocks.new.blocks.items in
    let put = c.in_ok-put_all_blocks.ensures in (
      seen_marked h a values n t value at refl c.loop-txn.seen c.raise_stands.new.table c.loop-txn.invariant.0 c.raise_stands.ensures,
      passed_marked h a values n t value at refl c.loop-txn.most c.raise_all.new.table blocks c.raise_all.ensures.long
          (subst (λ (l : List ℕ). (q x : ℕ) → (x ≤ get_or c.raise_all.new.table q 0) ↔ ((x ≤ get_or c.loop-txn.most q 0) ⊎ (Contains l q × (x ≤ value)))) c.deref-in-loop-txn-2.ensures.value c.raise_all.ensures.raised)
          size c.loop-txn.invariant.1 (IsHeldBy c.fill.new.self.stretches.items)
          (subst (λ (l : List RangeMiss). (j : ℕ) → j < size → IsUnderSome size blocks j ↔ (IsUnderSome size [] j ⊎ IsHeldBy l j)) c.deref-in-loop-txn.ensures.value
          (subst (λ (l : List ℕ). (j : ℕ) → j < size → IsUnderSome size blocks j ↔ (IsUnderSome size l j ⊎ IsHeldBy c.deref-in-loop-txn.result.now j)) c.clear.ensures.items put.over))
          (subst (λ (l : List ℕ). (b : ℕ) → Contains blocks b → Contains l b ⊎ ((0 < b) × (b < 2 * size))) c.clear.ensures.items put.within)
          c.in_ok-fill.ensures.stretches,
      (let l = c.loop-txn-test.true in omega arith),
    )

pub loop-position-init : goal.loop-position-init
loop-position-init c = (last_none c.args.evidence.now.index.now c.size_for-size.result c.loop-txn.seen c.loop-txn.most, omega arith)

pub commit_at-requires : goal.commit_at-requires
commit_at-requires c = has_position c.args.evidence.now.index.now c.position_count-position-end.result c.loop-position.position c.position_count-position-end.ensures c.loop-position-test.true

pub key_at-requires : goal.key_at-requires
key_at-requires c = has_position c.args.evidence.now.index.now c.position_count-position-end.result c.loop-position.position c.position_count-position-end.ensures c.loop-position-test.true

pub top_of-last-requires-clause-within : goal.top_of-last-requires-clause-within
top_of-last-requires-clause-within c =
    let at = has_position c.args.evidence.now.index.now c.position_count-position-end.result c.loop-position.position c.position_count-position-end.ensures c.loop-position-test.true in
    elim c.size_for-size.ensures [
      | inl all ↦ let l = (key_number c.args.evidence.now.index.now all.0 all.1 c.key_at.result at.0.key (c.key_at.ensures at.0 at.1)).0 in let e = all.2 in inr (omega arith)
      | inr none ↦ inl none.0
    ]

inside : (c : After-commit_at) → c.loop-position.position < length c.loop-position.seen
inside c =
    let e = one_count c.args.evidence.now.index.now _ _ c.position_count-position-end.ensures c.loop-txn.invariant.0.long in
    omega arith

pub bounds-seen-position : goal.bounds-seen-position
bounds-seen-position c = inside (goal.at.bounds-seen-position c).After-commit_at

pub bounds-seen-position-in-loop-position : goal.bounds-seen-position-in-loop-position
bounds-seen-position-in-loop-position c = inside (goal.at.bounds-seen-position-in-loop-position c).After-commit_at

pub loop-position-preserved : goal.loop-position-preserved
loop-position-preserved c =
    let h = c.args.evidence.now.index.now in
    let q = c.loop-position.position in
    let at = has_position h c.position_count-position-end.result q c.position_count-position-end.ensures c.loop-position-test.true in
    let last = c.if-commit_at-eq0.last in
    let is = c.commit_at.ensures at.0 at.1 in (
      last_more h c.size_for-size.result c.loop-txn.seen c.loop-txn.most q c.loop-position.seen c.loop-position.last last c.max-last.result at.0 at.1 (inside (goal.at.loop-position-preserved c).After-commit_at) c.loop-position.invariant.0
          (λ some. elim c.if-commit_at-eq0.branch [ then-commit_at-eq0 w ↦ absurd (let zero = w.if-commit_at-eq0.true in omega arith) | else-commit_at-eq0 w ↦ w.last-is ])
          (λ none. elim c.if-commit_at-eq0.branch [
            | then-commit_at-eq0 w ↦ (w.key_at.result, w.key_at.ensures at.0 at.1, subst (λ n. (x : ℕ) → 0 < x → (x ≤ n) ↔ IsMarkedOver c.size_for-size.result c.loop-txn.most w.key_at.result x) (sym w.last-is) w.top_of-last.ensures)
            | else-commit_at-eq0 w ↦ absurd (w.if-commit_at-eq0.false (is ∙ none))
          ])
          (below_max last (get_or c.loop-position.seen q 0) c.max-last.result c.max-last.ensures),
      (let l = c.loop-position-test.true in omega arith),
    )
