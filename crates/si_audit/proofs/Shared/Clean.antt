-- What an account and a judgement say of how a run ends, and that an account can be printed.
use Rattle.std.proofs.Common.{◌≡◌, ◌≢◌, ℕ, List, [], length, map, get_or, subst, arith, rules}
use Rattle.std.specs.Prelude.{⊤, All, Contains}
use Rattle.std.proofs.lemmas.List.{get_or-map, length-map}
use Rattle.std.proofs.lemmas.List.Elements.{All-contains_itself}
use Rattle.sia_events.specs.declared.event.Event.{Event}
use Rattle.sia_events.specs.DangerousStructures.{IsPivot}
use Rattle.sia_parts.specs.declared.finding.Edge.{Edge}
use Rattle.sia_parts.specs.Findings.{ListsEdges}
use Rattle.sia_parts.proofs.Auditing.Members.{contains_none}
use Rattle.sia_graph.specs.declared.pivot.Pivot.{Pivot}
use Rattle.sia_graph.specs.declared.judgement.Verdict.{Verdict}
use Rattle.sia_graph.specs.Pivots.{ArePivots}
use Rattle.sia_graph.specs.Verdicts.{IsVerdict}
use Rattle.sia_graph.specs.declared.judgement.Judgement.{Judgement}
use Rattle.si_audit.specs.Account.{Account, IsAccount, account_with}
use Rattle.sia_graph.specs.Judgements.{IsJudgement}
use Rattle.si_audit.specs.Report.{HasStep, CanBePrinted}

has_step : (M : ℕ → Type 0) (E : _ → Type 0) (v : Verdict) → IsVerdict M E v → HasStep v
has_step M E v is = grind arith

contains_some : (xs : List ℕ) (x : ℕ) → Contains xs x → xs ≢ []
contains_some xs x c none = contains_none x (subst (λ ys. Contains ys x) none c)

has_neighbours : (h : List Event) (ps : List Pivot) → ArePivots h ps → All (λ p. (p.ins ≢ []) × (p.outs ≢ [])) ps
has_neighbours h ps pivots k d below =
    let p = get_or ps k d in
    let txns = map (λ (q : Pivot). q.txn) ps in
    let len : length txns ≡ length ps = length-map ps (λ (q : Pivot). q.txn) in
    let at : get_or txns k p.txn ≡ p.txn = get_or-map (λ (q : Pivot). q.txn) ps k d p.txn below in
    let is : IsPivot h p.txn = subst (IsPivot h) at ((pivots.txns.each (get_or txns k p.txn)).0 (All-contains_itself txns k p.txn (omega arith))) in
    let lists = pivots.neighbours k d below in (
      contains_some p.ins is.0.0 ((lists.ins.each is.0.0).1 is.0.1),
      contains_some p.outs is.1.0 ((lists.outs.each is.1.0).1 is.1.1),
    )

-- the account of a history can be printed
pub can_be_printed : (h : List Event) (a : Account) → IsAccount h a → CanBePrinted a
can_be_printed h a is = search (rules, has_step, has_neighbours)

-- with the edges and the pivots of the history a judgement of it is its account
pub account_is : (h : List Event) (j : Judgement) → IsJudgement h j → (edges : List Edge) → ListsEdges h (λ _. ⊤) edges → (pivots : List Pivot) → ArePivots h pivots → IsAccount h (account_with j edges pivots)
account_is h j is edges edges_are pivots pivots_are = grind arith
