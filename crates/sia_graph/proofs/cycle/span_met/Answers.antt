use Rattle.std.proofs.Common.{◌<◌, ◌≤◌, ◌+◌, inl, inr, refl, subst, sym, arith, ◌↔◌}
use Rattle.std.proofs.lemmas.Bool.{cases_lt}
use Rattle.sia_parts.proofs.Shared.FewNumbers.{few_keys}
use Rattle.sia_parts.specs.declared.finding.Kind.{Kind}
use Rattle.sia_parts.specs.declared.finding.Kind.TheVariants.{Ww, Wr, Rw}
use Rattle.sia_graph.specs.LeastEdges.{IsKeyOf, Meets}
use Rattle.sia_graph.specs.Twos.{HaveOneKey}
use Rattle.sia_graph.proofs.Cycles.MetEdges.{begins_at, met}
use Rattle.sia_graph.proofs.cycle.span_met.Goals.{After-first_or_end-end}
use Rattle.sia_graph.proofs.cycle.span_met.Goals as goal

pub overflow_add-key : goal.overflow_add-key
overflow_add-key c =
    let v = c.requires in
    omega (arith, few_keys c.args.index.now c.law.ensures c.key_at-key.result v.0.key (c.key_at-key.ensures v.0 v.1))

its_key : (c : After-first_or_end-end) → IsKeyOf c.args.index.now c.args.position c.key_at-key.result
its_key c = let v = c.requires in (v.0, v.1, c.key_at-key.ensures v.0 v.1)

-- the position stands below the end
below : (c : After-first_or_end-end) → c.args.position < c.first_or_end-end.result
below c = elim (cases_lt c.args.position c.first_or_end-end.result) [
  | inl less ↦ less
  | inr more ↦ let l = (begins_at c.args.index.now c.first_or_end-end.result (c.key_at-key.result + 1) c.args.position c.key_at-key.result c.first_or_end-end.ensures.parts (its_key c)).0 more in absurd (omega arith)
]

pub overflow_add-result : goal.overflow_add-result
overflow_add-result c = let l = below (goal.at.overflow_add-result c).After-first_or_end-end in omega arith

pub overflow_add-result-in-Rw : goal.overflow_add-result-in-Rw
overflow_add-result-in-Rw c = let l = below (goal.at.overflow_add-result-in-Rw c).After-first_or_end-end in omega arith

pub returns-in-Ww : goal.returns-in-Ww
returns-in-Ww c q i of =
    let p = c.args.position in
    let start = c.first_or_end-start.result in
    subst (λ (kind : Kind). ((start ≤ q) × (q < p)) ↔ (HaveOneKey c.args.index.now q p × Meets kind q p)) (sym c.in-Ww.is)
    (met c.args.index.now Ww p c.key_at-key.result q i start c.first_or_end-end.result start p (its_key (goal.at.returns-in-Ww c).After-first_or_end-end) of (begins_at c.args.index.now c.first_or_end-start.result c.key_at-key.result q i c.first_or_end-start.ensures.parts of) (begins_at c.args.index.now c.first_or_end-end.result (c.key_at-key.result + 1) q i c.first_or_end-end.ensures.parts of) (refl, refl))

pub returns-in-Wr : goal.returns-in-Wr
returns-in-Wr c q i of =
    let p = c.args.position in
    let start = c.first_or_end-start.result in
    subst (λ (kind : Kind). ((start ≤ q) × (q < p + 1)) ↔ (HaveOneKey c.args.index.now q p × Meets kind q p)) (sym c.in-Wr.is)
    (met c.args.index.now Wr p c.key_at-key.result q i start c.first_or_end-end.result start (p + 1) (its_key (goal.at.returns-in-Wr c).After-first_or_end-end) of (begins_at c.args.index.now c.first_or_end-start.result c.key_at-key.result q i c.first_or_end-start.ensures.parts of) (begins_at c.args.index.now c.first_or_end-end.result (c.key_at-key.result + 1) q i c.first_or_end-end.ensures.parts of) (refl, refl))

pub returns-in-Rw : goal.returns-in-Rw
returns-in-Rw c q i of =
    let p = c.args.position in
    let end = c.first_or_end-end.result in
    subst (λ (kind : Kind). ((p + 1 ≤ q) × (q < end)) ↔ (HaveOneKey c.args.index.now q p × Meets kind q p)) (sym c.in-Rw.is)
    (met c.args.index.now Rw p c.key_at-key.result q i c.first_or_end-start.result end (p + 1) end (its_key (goal.at.returns-in-Rw c).After-first_or_end-end) of (begins_at c.args.index.now c.first_or_end-start.result c.key_at-key.result q i c.first_or_end-start.ensures.parts of) (begins_at c.args.index.now c.first_or_end-end.result (c.key_at-key.result + 1) q i c.first_or_end-end.ensures.parts of) (refl, refl))
