-- How the run ends at a level.
use Rattle.std.proofs.Common.{◌≡◌, ◌⊎◌, inl, inr, Bool, Option, None, Some, List, ◌↔◌, subst, sym}
use Rattle.std.specs.Prelude.{IsTrue, MatchOption}
use Rattle.sia_events.specs.declared.event.Event.{Event}
use Rattle.si_audit.specs.declared.options.Level.{Level}
use Rattle.si_audit.specs.declared.options.Level.TheVariants.{Gsi}
use Rattle.si_audit.specs.Outcomes.{Meets}
use Rattle.si_audit.proofs.engine.outcome_of.Goals.{in-Some, in-None+in_ok-meets-in-None}
use Rattle.si_audit.proofs.engine.outcome_of.Goals as goal

-- what the judgement tells of the level, or what the snapshots do
met : (h : List Event) (level : Level) (answer : Option Bool) (meets : Bool) → MatchOption answer (level ≡ Gsi) (λ m. IsTrue m ↔ Meets level h)
    → ((m : Bool) × (answer ≡ Some m) × (meets ≡ m)) ⊎ ((answer ≡ None) × (IsTrue meets ↔ Meets Gsi h)) → IsTrue meets ↔ Meets level h
met h level answer meets told (inl (m, is, same)) = subst (λ (b : Bool). IsTrue b ↔ Meets level h) (sym same) (subst (λ (a : Option Bool). MatchOption a (level ≡ Gsi) (λ b. IsTrue b ↔ Meets level h)) is told)
met h level answer meets told (inr (none, gsi)) =
    subst (λ (l : Level). IsTrue meets ↔ Meets l h) (sym (subst (λ (a : Option Bool). MatchOption a (level ≡ Gsi) (λ b. IsTrue b ↔ Meets level h)) none told)) gsi

pub returns : goal.returns
returns c =
    let h = c.args.ix.now in
    let is = met h c.args.level c.meets.result c.match-meets.meets (c.meets.ensures h c.requires.judgement) (elim c.match-meets.branch [
      | in-Some w ↦ inl (_, w.in-Some.is, w.meets-is)
      | in-None+in_ok-meets-in-None w ↦ let same = (rw w.unwrap.ensures at c.requires.log) in inr (w.in-None.is, subst (λ (of : List Event). IsTrue c.match-meets.meets ↔ Meets Gsi of) same (subst (λ (meets : Bool). IsTrue meets ↔ Meets Gsi w.unwrap.result.now) (sym w.meets-is) w.in_ok-meets-in-None.ensures))
    ]) in
    c.outcome_where.ensures c.args.level h is
