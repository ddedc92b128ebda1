use Rattle.std.proofs.Common.{◌≡◌, ◌∙◌, [], Bool, List, true, length, inl, inr, sym, arith, ◌↔◌, ◌==◌}
use Rattle.std.proofs.lemmas.Bool.{false≢true, not-false, not_from_true}
use Rattle.std.proofs.lemmas.Grind.{common_steps}
use Rattle.sia_graph.proofs.SsiTest.FoundFirsts.{there_or_not}
use Rattle.sia_graph.proofs.Shared.NoFirsts.{kept, no_bad_reads, no_bad_writes}
use Rattle.sia_graph.proofs.ssi.passes.Goals.{then-not-is_empty-via-then-not-is_empty, then-not-is_empty-via-else-not-is_empty+then-not-is_empty-2}
use Rattle.sia_graph.proofs.ssi.passes.Goals as goal

is_nil : {A : Type 0} (xs : List A) (empty : Bool) → empty ≡ (length xs == 0) → (empty ≡ true) ↔ (xs ≡ [])
is_nil xs empty is = grind (arith, common_steps)

pub returns-then-not-is_empty : goal.returns-then-not-is_empty
returns-then-not-is_empty c = (
  (λ never. cc),
  (λ passes.
      let h = c.args.evidence.now.index.now in
      let reads = no_bad_reads h c.args.bad_reads.now c.args.bad_writes.now c.requires.bad_reads c.requires.bad_writes passes.0 in
      let writes = no_bad_writes h c.args.bad_reads.now c.args.bad_writes.now c.requires.bad_reads c.requires.bad_writes passes.0 in
      elim c.then-not-is_empty.branch [
        | then-not-is_empty-via-then-not-is_empty w ↦ sym w.if-not-is_empty.true ∙ (is_nil c.args.bad_reads.now _ c.is_empty.ensures).1 reads
        | then-not-is_empty-via-else-not-is_empty+then-not-is_empty-2 w ↦ sym w.if-not-is_empty-2.true ∙ (is_nil c.args.bad_writes.now _ w.is_empty-else-not-is_empty.ensures).1 writes
      ]),
)

pub least_pivot-requires-clause-kept : goal.least_pivot-requires-clause-kept
least_pivot-requires-clause-kept c =
    let none : (c.args.bad_reads.now ≡ []) × (c.args.bad_writes.now ≡ []) = ((is_nil c.args.bad_reads.now _ c.is_empty.ensures).0 c.if-not-is_empty.false, (is_nil c.args.bad_writes.now _ c.is_empty-else-not-is_empty.ensures).0 c.if-not-is_empty-2.false) in
    kept c.args.evidence.now.index.now c.args.bad_reads.now c.args.bad_writes.now c.requires.bad_reads c.requires.bad_writes none.0 none.1

pub returns : goal.returns
returns c =
    let h = c.args.evidence.now.index.now in
    let none : (c.args.bad_reads.now ≡ []) × (c.args.bad_writes.now ≡ []) = ((is_nil c.args.bad_reads.now _ c.is_empty.ensures).0 c.if-not-is_empty.false, (is_nil c.args.bad_writes.now _ c.is_empty-else-not-is_empty.ensures).0 c.if-not-is_empty-2.false) in
    let isolated = kept h c.args.bad_reads.now c.args.bad_writes.now c.requires.bad_reads c.requires.bad_writes none.0 none.1 in
    elim (there_or_not _ _ c.in_ok-least_pivot.field-0 c.in_ok-least_pivot.ensures) [
      | inl w ↦ ((λ is. absurd (false≢true (sym (not_from_true c.is_none.result is) ∙ sym c.is_none.ensures ∙ w.0))), (λ passes. absurd (passes.1 w.2.0 w.2.2.0.0 w.2.2.0.1)))
      | inr w ↦ ((λ is. (isolated, w.1)), (λ passes. not-false c.is_none.result (sym c.is_none.ensures ∙ w.0)))
    ]
