use Rattle.std.proofs.Common.{◌≡◌, ◌↔◌, ◌∙◌, [], ◌==◌, ℕ, Bool, List, length, sym, subst, arith, IsTrue, eq-eqb, eqb-true}
use Rattle.std.proofs.lemmas.List.{nil_from_length}
use Rattle.sia_events.proofs.Shared.Faults.{true_false}
use Rattle.sia_parts.specs.declared.finding.Unexplained.{Unexplained}
use Rattle.sia_graph.specs.declared.judgement.Verdict.{Verdict}
use Rattle.sia_graph.specs.declared.judgement.Verdict.TheVariants.{Order}
use Rattle.sia_graph.specs.Verdicts.{IsOrderVerdict}
use Rattle.sia_graph.proofs.OnEvidence.Judging.{passed_is_serializable, serializable_where}
use Rattle.sia_graph.proofs.judgement.judge.Goals.{After-deref-2, After-ssi_law, in-Order, in_default, then-matches, else-matches}
use Rattle.sia_graph.proofs.judgement.judge.Goals as goal

none_if_empty : (xs : List Unexplained) (n : ℕ) (empty : Bool) → length xs ≡ n → empty ≡ (n == 0) → IsTrue empty ↔ (xs ≡ [])
none_if_empty xs n empty long is = grind (arith, nil_from_length, eqb-true, eq-eqb)

no_order : (verdict : Verdict) → IsOrderVerdict verdict → ((order : List ℕ) → verdict ≡ Order order → ⊥) → ⊥
no_order verdict p q = grind arith

pub passes-requires : goal.passes-requires
passes-requires c = record {
  evidence = record {
    well_formed = c.law.ensures;
    accesses = c.requires.found.accesses;
  };
  bad_reads = rw (c.deref.ensures.value) c.requires.found.bad_reads;
  bad_writes = rw (c.deref-2.ensures.value) c.requires.found.bad_writes;
}

pub settle_accesses-requires : goal.settle_accesses-requires
settle_accesses-requires c = record { evidence = (passes-requires (goal.at.settle_accesses-requires c).After-deref-2).evidence }

-- the answer is whether an order was found and no read is unexplained
serial : (c : After-ssi_law) → IsTrue c.if-matches.serializable ↔ (IsOrderVerdict c.in_ok-verdict.verdict × (c.args.found.unexplained.items ≡ []))
serial c = elim c.match-matches.branch [
  | in-Order v ↦ elim c.if-matches.branch [
    | then-matches w ↦
        let none = none_if_empty c.args.found.unexplained.items _ w.is_empty-serializable.result (let ok = c.args.found.unexplained.ok.0 in omega arith) w.is_empty-serializable.ensures in
        ((λ yes. (subst IsOrderVerdict (sym v.in-Order.is) tt, none.0 (sym w.serializable-is ∙ yes))), (λ are. w.serializable-is ∙ none.1 are.1))
    | else-matches w ↦ absurd (true_false _ v.matches-is w.if-matches.false)
  ]
  | in_default v ↦ elim c.if-matches.branch [
    | then-matches w ↦ absurd (true_false _ w.if-matches.true v.matches-is)
    | else-matches w ↦ ((λ yes. absurd (true_false _ yes (w.serializable-is ∙ v.matches-is))), (λ are. absurd (no_order c.in_ok-verdict.verdict are.0 v.in_default.not-Order)))
  ]
]

pub returns-clause-exact : goal.returns-clause-exact
returns-clause-exact c =
    let h = c.args.ix.now in
    let wf = c.law.ensures in
    let is = c.requires.found in
    let verdict = c.in_ok-verdict in
    record {
      counts = c.requires.counts;
      bad_reads = is.bad_reads;
      bad_writes = is.bad_writes;
      unexplained = is.unexplained;
      pass = c.in_ok-pass.ensures;
      serializable = serializable_where h wf verdict.verdict verdict.ensures c.args.found.unexplained.items is.unexplained (c.replay_law.ensures h wf) c.if-matches.serializable (serial (goal.at.returns-clause-exact c).After-ssi_law);
      verdict = verdict.ensures;
    }

pub returns-clause-pass : goal.returns-clause-pass
returns-clause-pass c =
    let h = c.args.ix.now in
    let wf = c.law.ensures in
    passed_is_serializable h wf c.in_ok-verdict.verdict c.in_ok-verdict.ensures c.args.found.unexplained.items c.requires.found.unexplained (c.ssi_law.ensures h wf)
    c.if-matches.serializable c.in_ok-pass.pass (serial (goal.at.returns-clause-pass c).After-ssi_law) c.in_ok-pass.ensures
