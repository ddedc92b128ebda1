use Rattle.std.proofs.Common.{◌≡◌, ◌⊎◌, inl, inr, ◌+◌, ◌<◌, length, refl, subst, arith, ◌↔◌, IsTrue}
use Rattle.std.proofs.lemmas.Bool.{cases_lt}
use Rattle.std.proofs.lemmas.Option.{slice_get_within}
use Rattle.sia_events.proofs.Shared.Faults.{true_false}
use Rattle.sia_graph.specs.Allowed.{IsAllowedAt, IsRwOverlap}
use Rattle.sia_graph.proofs.OfLaws.AllowedCycles.{at_it, both_at, edge_at}
use Rattle.sia_graph.proofs.allowed.is_allowed.Goals as goal
use Rattle.sia_graph.proofs.allowed.is_allowed.Goals.{then-i-edges, else-i-edges, else-is_rw_overlap-via-then-is_rw_overlap+else-is_rw_overlap-2, else-is_rw_overlap-via-else-is_rw_overlap}

pub returns-then-is_rw_overlap-2 : goal.returns-then-is_rw_overlap-2
returns-then-is_rw_overlap-2 c =
    let h = c.args.ix.now in
    let edges = c.args.edges.now in
    let i = c.loop-i.i in
    let next = c.if-i-edges.next in
    let at : (next < length edges) × ((next ≡ i + 1) ⊎ ((i + 1 ≡ length edges) × (next ≡ 0))) = elim c.if-i-edges.branch [
      | then-i-edges w ↦ let on = w.if-i-edges.true in let is = w.next-is in (omega arith, inl is)
      | else-i-edges w ↦ let past = w.if-i-edges.false in let is = w.next-is in (omega arith, inr (omega arith, is))
    ] in
    let other : IsTrue c.is_rw_overlap-then-is_rw_overlap.result ↔ IsRwOverlap h (edge_at edges next) = c.is_rw_overlap-then-is_rw_overlap.ensures in
    ((λ yes. (i, (both_at h edges i next c.loop-i-test.true at.0 at.1).1 (c.is_rw_overlap.ensures.0 c.if-is_rw_overlap.true, other.0 c.if-is_rw_overlap-2.true))), (λ is. refl))

pub loop-i-preserved : goal.loop-i-preserved
loop-i-preserved c = λ j below is. elim (cases_lt j c.loop-i.i) [
  | inl less ↦ c.loop-i.invariant j less is
  | inr more ↦
      let h = c.args.ix.now in
      let edges = c.args.edges.now in
      let i = c.loop-i.i in
      let next = c.if-i-edges.next in
      let inside = c.loop-i-test.true in
      let at : (next < length edges) × ((next ≡ i + 1) ⊎ ((i + 1 ≡ length edges) × (next ≡ 0))) = elim c.if-i-edges.branch [
        | then-i-edges w ↦ let on = w.if-i-edges.true in let e = w.next-is in (omega arith, inl e)
        | else-i-edges w ↦ let past = w.if-i-edges.false in let e = w.next-is in (omega arith, inr (omega arith, e))
      ] in
      let same : j ≡ i = omega arith in
      let here = subst (IsAllowedAt h edges) same is in
      elim c.else-is_rw_overlap.branch [
        | else-is_rw_overlap-via-then-is_rw_overlap+else-is_rw_overlap-2 w ↦
            absurd (true_false _ (w.is_rw_overlap-then-is_rw_overlap.ensures.1 ((both_at h edges i next inside at.0 at.1).0 here).1) w.if-is_rw_overlap-2.false)
        | else-is_rw_overlap-via-else-is_rw_overlap w ↦ absurd (true_false _ (c.is_rw_overlap.ensures.1 (at_it h edges i inside here)) w.if-is_rw_overlap.false)
      ]
]

pub returns : goal.returns
returns c = (
  (λ no. absurd (true_false _ no refl)),
  (λ is.
      let inside : is.0 < length c.args.edges.now = slice_get_within c.args.edges.now is.0 is.1.0 is.1.2.1 in
      absurd (c.loop-i.invariant is.0 (omega arith) is.1)),
)
