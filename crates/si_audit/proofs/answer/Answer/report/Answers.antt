-- Nothing is given yet: the lines are those of all numbers.
use Rattle.std.proofs.Common.{List, ℕ, ◌++◌, ◌∙◌, ap, append_assoc, subst, sym}
use Rattle.si_audit.specs.Engine.{AreLinesOf}
use Rattle.si_audit.proofs.answer.Answer.report.Goals as goal

pub returns : goal.returns
returns c bytes (lines, are, all) =
    let (edges, pivots, edges_are, pivots_are, both) = subst (λ f. AreLinesOf f lines) c.in-Some.is are in
    let edges_left = c.in_ok-edges.ensures.all edges (c.of.ensures.all edges edges_are) in
    let pivots_left = c.in_ok-pivots.ensures.all pivots (c.in_ok-of.ensures.all pivots pivots_are) in (
      edges,
      pivots,
      rw c.in_ok-edges.ensures.told edges_left,
      rw c.in_ok-pivots.ensures.told pivots_left,
      all ∙ (λ i. sym c.deref.ensures.value i ++ both i ++ sym c.deref-2.ensures.value i)
          ∙ ap (λ (xs : List ℕ). xs ++ c.deref-2.result.now) (sym (append_assoc c.deref.result.now edges pivots)),
    )
