use Rattle.std.proofs.Common.{◌≡◌, ℕ, List, inl, inr, [], ◌∷◌, ◌++◌, ◌∙◌, codes, refl, subst, sym, append-nil, MatchOption}
use Rattle.std.proofs.lemmas.List.Elements.{All-cons, All-nil}
use Rattle.sia_events.specs.declared.event.Event.{Event}
use Rattle.sia_events.specs.DangerousStructures.{NoFirst}
use Rattle.sia_events.specs.Isolation.{IsolationKept}
use Rattle.sia_parts.specs.declared.finding.Edge.{Edge}
use Rattle.sia_parts.specs.declared.finding.Kind.TheVariants.{Rw}
use Rattle.sia_parts.specs.Entries.{IsEdge}
use Rattle.sia_graph.specs.Dangerous.{IsDangerous}
use Rattle.si_audit.specs.Explained.{TellsAll, dangerous_edges, dangerous_line}
use Rattle.si_audit.specs.Lines.{line, edge_word}
use Rattle.si_audit.specs.Reasons.{TellsStep}
use Rattle.si_audit.proofs.Shared.Results.{ok_map}
use Rattle.si_audit.proofs.Shared.Telling.{with_reasons}
use Rattle.si_audit.proofs.explain.push_danger.Goals as goal

pub returns-in_default : goal.returns-in_default
returns-in_default c =
    let g = c.args.of.now.index.now in
    let none : IsolationKept g → NoFirst g = subst (λ o. MatchOption o (IsolationKept g → NoFirst g) (λ d. IsolationKept g × IsDangerous g d)) c.in_default.is c.in_ok-d.ensures in
    ([], inl (subst (λ (h : List Event). IsolationKept h → NoFirst h) c.requires.index none, refl), sym (append-nil c.args.out.now.items))

pub push_steps-requires-clause-edges : goal.push_steps-requires-clause-edges
push_steps-requires-clause-edges c =
    let E = IsEdge c.args.of.now.history.now in
    let g = c.args.of.now.index.now in
    let is : IsolationKept g × IsDangerous g c.in-Some.d = subst (λ o. MatchOption o (IsolationKept g → NoFirst g) (λ d. IsolationKept g × IsDangerous g d)) c.in-Some.is c.in_ok-d.ensures in
    let dangerous = subst (λ h. IsDangerous h c.in-Some.d) c.requires.index is.1 in
    let d = c.in-Some.d in
    let ahead : Edge = record { src = d.first; kind = Rw; dst = d.pivot; key = d.first_key } in
    let behind : Edge = record { src = d.pivot; kind = Rw; dst = d.last; key = d.last_key } in
    All-cons E ahead (behind ∷ []) dangerous.first_key.0 (All-cons E behind [] dangerous.last_key.0 (All-nil E))

pub returns : goal.returns
returns c =
    let g = c.args.of.now.index.now in
    let h = c.args.of.now.history.now in
    let d = c.in-Some.d in
    let is : IsolationKept g × IsDangerous g d = subst (λ o. MatchOption o (IsolationKept g → NoFirst g) (λ d. IsolationKept g × IsDangerous g d)) c.in-Some.is c.in_ok-d.ensures in
    let o = c.args.out.now.items in
    let m = c.push_line.new.out.items in
    let n = c.push_steps.new.out.items in
    let words : List (List ℕ) → List (List ℕ) → List (List ℕ) → List ℕ =
    λ x y z. o ++ line (codes "dangerous" ∷ (x ++ edge_word Rw d.first_key ∷ (y ++ edge_word Rw d.last_key ∷ (z ++ [])))) in
    let pushed : m ≡ o ++ dangerous_line d = c.in_ok-push_line.ensures ∙ (λ i. words (c.number.ensures i) (c.number-2.ensures i) (c.number-3.ensures i)) in
    ok_map _ _ c.push_steps.result
    (λ x steps.
    let all = with_reasons dangerous_line (λ d. TellsAll (TellsStep h) (dangerous_edges d)) d o m n pushed steps in
    (all.0, inr (subst IsolationKept c.requires.index is.0, d, subst (λ h. IsDangerous h d) c.requires.index is.1, all.1), all.2))
    c.push_steps.ensures
