use Rattle.std.proofs.Common.{◌≡◌, ◌≢◌, ◌↔◌, ◌⊎◌, ◌%◌, ◌-◌, ◌++◌, ◌∷◌, [], ℕ, List, get_or, inl, inr, sym, subst, arith, Contains}
use Rattle.std.proofs.lemmas.Bool.{cases_lt}
use Rattle.std.proofs.lemmas.List.Elements.{Contains-append_left, Contains-push, Contains-push_cases}
use Rattle.sia_parts.specs.declared.accesses.RangeMiss.{RangeMiss}
use Rattle.sia_graph.proofs.SparseGraphs.KeyBlocks.{climb_none, climb_more, climbed}
use Rattle.sia_graph.proofs.SparseGraphs.StretchBlocks.{blocks_all, blocks_more, held_below}
use Rattle.sia_graph.proofs.sparse.put_all_blocks.Goals.{then-low-eq1+in_ok-push, else-low-eq1, then-high-eq1+in_ok-push-2, else-high-eq1}
use Rattle.sia_graph.proofs.sparse.put_all_blocks.Goals as goal

-- a block more, if the number is odd
abbrev HasOdd : ℕ → ℕ → List ℕ → List ℕ → Type 0
HasOdd n block old new = (b : ℕ) → Contains new b ↔ (Contains old b ⊎ ((b ≡ block) × (n % 2 ≡ 1)))

odd_put : (n block : ℕ) (old : List ℕ) → n % 2 ≡ 1 → HasOdd n block old (old ++ block ∷ [])
odd_put n block old odd b = (
  (λ has. elim (Contains-push_cases old block b has) [ inl before ↦ inl before | inr same ↦ inr (sym same, odd) ]),
  (λ so. elim so [
    | inl before ↦ Contains-append_left old (block ∷ []) b before
    | inr w ↦ subst (Contains (old ++ block ∷ [])) (sym w.0) (Contains-push old block)
  ]),
)

even_left : (n block : ℕ) (old : List ℕ) → n % 2 ≢ 1 → HasOdd n block old old
even_left n block old even b = ((λ has. inl has), (λ so. elim so [ inl before ↦ before | inr w ↦ absurd (even w.1) ]))

pub loop-low-init : goal.loop-low-init
loop-low-init c = climb_none c.args.size c.min-from.result c.min-to.result (omega arith) c.loop-stretch.blocks.items

pub loop-low-preserved : goal.loop-low-preserved
loop-low-preserved c =
    let low = c.loop-low.low in
    let high = c.loop-low.high in
    let first : HasOdd low low c.loop-low.blocks.items c.if-low-eq1.blocks.items = elim c.if-low-eq1.branch [
      | then-low-eq1+in_ok-push w ↦ rw (w.blocks-is, w.in_ok-push.ensures.items) (odd_put low low c.loop-low.blocks.items w.if-low-eq1.true)
      | else-low-eq1 w ↦ rw w.blocks-is (even_left low low c.loop-low.blocks.items w.if-low-eq1.false)
    ] in
    let last : HasOdd high (high - 1) c.if-low-eq1.blocks.items c.if-high-eq1.blocks.items = elim c.if-high-eq1.branch [
      | then-high-eq1+in_ok-push-2 w ↦ rw (w.blocks-is, w.in_ok-push-2.ensures.items) (odd_put high (high - 1) c.if-low-eq1.blocks.items w.if-high-eq1.true)
      | else-high-eq1 w ↦ rw w.blocks-is (even_left high (high - 1) c.if-low-eq1.blocks.items w.if-high-eq1.false)
    ] in
    climb_more c.args.size _ _ c.loop-stretch.blocks.items c.loop-low.blocks.items low high c.loop-low.invariant c.loop-low-test.true
    c.if-low-eq1.blocks.items c.if-high-eq1.blocks.items first last

pub loop-stretch-preserved : goal.loop-stretch-preserved
loop-stretch-preserved c =
    let put = c.loop-low.invariant in
    let size = c.args.size in
    let none : RangeMiss = record { from = 0; to = 0 } in
    let n = c.loop-stretch.stretch-index in
    let stretch = get_or c.args.stretches.now n none in
    let over = climbed size _ _ c.loop-stretch.blocks.items c.loop-low.blocks.items c.loop-low.low c.loop-low.high put (omega arith) in
    let same =
    held_below size stretch.from stretch.to c.min-from.result c.min-to.result
    (elim (cases_lt stretch.from size) [ inl less ↦ inl (omega arith) | inr more ↦ inr (omega arith) ]) (omega arith) (omega arith)
    (elim (cases_lt stretch.to size) [ inl less ↦ inl (omega arith) | inr more ↦ inr (omega arith) ]) (omega arith) (omega arith) in
    blocks_more size c.args.stretches.now n none c.args.blocks.now.items c.loop-stretch.blocks.items c.loop-low.blocks.items c.loop-stretch-test.true
    c.loop-stretch.invariant
    (λ j l. (
      (λ u. elim ((over j l).0 u) [ inl o ↦ inl o | inr w ↦ inr ((same j l).0 w) ]),
      (λ e. (over j l).1 (elim e [ inl o ↦ inl o | inr w ↦ inr ((same j l).1 w) ])),
    ))
    put.keeps put.within

pub returns-clause-over : goal.returns-clause-over
returns-clause-over c = blocks_all c.args.size c.args.stretches.now c.loop-stretch.stretch-index c.args.blocks.now.items c.loop-stretch.blocks.items (omega arith) c.loop-stretch.invariant
