use Rattle.std.proofs.Common.{◌∙◌, ◌++◌, List, ℕ, ap, append_assoc, inl, inr, subst, sym}
use Rattle.sia_events.specs.Transactions.{IsCommitted}
use Rattle.sia_events.proofs.Shared.Faults.{true_false}
use Rattle.sia_parts.specs.Entries.{IsEdge}
use Rattle.sia_graph.specs.Verdicts.{IsVerdict}
use Rattle.si_audit.specs.Explained.{TellsVerdict, edges_round}
use Rattle.si_audit.specs.Lines.{verdict_line}
use Rattle.si_audit.specs.Reasons.{TellsClass}
use Rattle.si_audit.proofs.OfReasons.Rounds.{AreRound, cycle_edges, tells_cycle}
use Rattle.si_audit.proofs.Shared.Telling.{with_reasons}
use Rattle.si_audit.proofs.explain.push_verdict_reasons.Goals as goal
use Rattle.si_audit.proofs.explain.push_verdict_reasons.Goals.{then-is_allowed, else-is_allowed}

pub push_steps-requires-clause-edges : goal.push_steps-requires-clause-edges
push_steps-requires-clause-edges c =
    let M = IsCommitted c.args.of.now.history.now in
    let E = IsEdge c.args.of.now.history.now in
    let is = (subst (IsVerdict M E) c.in-Cycle.is c.requires.verdict).1 in
    let so : AreRound c.in-Cycle.steps c.deref.result.now = λ home rest e.
    c.deref.ensures.value ∙ c.in_ok-edges.ensures home rest (c.as_slice.ensures ∙ e) ∙ ap (λ xs. edges_round xs home.txn) c.as_slice.ensures in
    cycle_edges M E c.in-Cycle.steps c.deref.result.now is so

pub returns : goal.returns
returns c =
    let h = c.args.of.now.history.now in
    let M = IsCommitted h in
    let E = IsEdge h in
    let steps = c.in-Cycle.steps in
    let edges = c.deref.result.now in
    let is = (subst (IsVerdict M E) c.in-Cycle.is c.requires.verdict).1 in
    let so : AreRound steps edges = λ home rest e.
    c.deref.ensures.value ∙ c.in_ok-edges.ensures home rest (c.as_slice.ensures ∙ e) ∙ ap (λ xs. edges_round xs home.txn) c.as_slice.ensures in
    let told = c.in_ok-push_steps.ensures in
    let words = c.if-is_allowed.class.now in
    let class : TellsClass c.args.of.now.index.now c.deref-2.result.now words = elim c.if-is_allowed.branch [
      | then-is_allowed w ↦ inl (c.is_allowed.ensures.0 w.if-is_allowed.true, ap (λ class. class.now) w.class-is)
      | else-is_allowed w ↦ inr ((λ is. true_false _ (c.is_allowed.ensures.1 is) w.if-is_allowed.false), ap (λ class. class.now) w.class-is)
    ] in
    with_reasons verdict_line (TellsVerdict h) c.args.verdict.now c.args.out.now.items c.push_verdict.new.out.items c.extend_from_slice.new.self.items c.in_ok-push_verdict.ensures (
      told.0 ++ words,
      subst (λ v. TellsVerdict h v (told.0 ++ words)) (sym c.in-Cycle.is) (tells_cycle h M E steps edges told.0 words is so told.1 (subst (λ es. TellsClass h es words) (c.deref-2.ensures.value ∙ sym c.deref.ensures.value) (subst (λ g. TellsClass g c.deref-2.result.now words) c.requires.index class))),
      c.in_ok-extend_from_slice.ensures.items ∙ ap (λ (y : List ℕ). y ++ words) told.2 ∙ append_assoc c.push_verdict.new.out.items told.0 words,
    )
