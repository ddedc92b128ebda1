use Rattle.sia_events.specs.DangerousStructures.{NoFirst}
use Rattle.sia_graph.specs.EarlyVersions.{IsLimit}
use Rattle.std.proofs.Common.{Option, Some, ◌≡◌, ℕ, List, sym, subst, MatchOption}
use Rattle.sia_events.specs.declared.event.Event.{Event}
use Rattle.sia_events.specs.Dependencies.{RwEdge}
use Rattle.sia_index.specs.Numbers.{IsCommittedAt}
use Rattle.sia_index.proofs.Shared.KeyChains.{key_number}
use Rattle.sia_graph.specs.Dangerous.{HasFirst, IsLeast, MayBeFirst}
use Rattle.sia_graph.proofs.SsiTest.FoundFirsts.{named, commit_lived}
use Rattle.sia_graph.proofs.Shared.Numbered.{txn_number}
use Rattle.sia_graph.proofs.ssi.dangerous_of.Goals.{In_ok-first}
use Rattle.sia_graph.proofs.ssi.dangerous_of.Goals as goal

abbrev IsChosen : List Event → ℕ → ℕ → Type 0
IsChosen h pivot limit = (t : ℕ) × IsCommittedAt h pivot t × IsLeast (HasFirst h) t × IsLimit h t limit

chosen : (h : List Event) (found : Option (ℕ × ℕ)) (pivot limit : ℕ) → found ≡ Some (pivot, limit) → MatchOption found (NoFirst h) (λ (w : ℕ × ℕ). IsChosen h w.0 w.1) → IsChosen h pivot limit
chosen h found pivot limit is told = subst (λ (o : Option (ℕ × ℕ)). MatchOption o (NoFirst h) (λ (w : ℕ × ℕ). IsChosen h w.0 w.1)) is told

pub least_last-requires-clause-pivot : goal.least_last-requires-clause-pivot
least_last-requires-clause-pivot c =
    let w = chosen c.args.evidence.now.index.now c.in_ok-pivot.field-0 c.in-Some.pivot c.in-Some.limit c.in-Some.is c.in_ok-pivot.ensures in
    (w.0, w.1, w.2.0, w.3)

pub bounds-lifetimes-last : goal.bounds-lifetimes-last
bounds-lifetimes-last c =
    let pivot = chosen c.args.evidence.now.index.now c.in_ok-pivot.field-0 c.in-Some.pivot c.in-Some.limit c.in-Some.is c.in_ok-pivot.ensures in
    let last = c.in_ok-last.ensures pivot.0 pivot.1 in
    (commit_lived c.args.evidence.now.index.now c.lifetimes-2.result.now c.lifetimes-2.ensures c.in_ok-last.last last.0 last.1).0

pub least_first-requires-clause-pivot : goal.least_first-requires-clause-pivot
least_first-requires-clause-pivot c =
    let pivot = chosen c.args.evidence.now.index.now c.in_ok-pivot.field-0 c.in-Some.pivot c.in-Some.limit c.in-Some.is c.in_ok-pivot.ensures in
    let last = c.in_ok-last.ensures pivot.0 pivot.1 in
    let ends = (commit_lived c.args.evidence.now.index.now c.lifetimes-2.result.now c.lifetimes-2.ensures c.in_ok-last.last last.0 last.1).1 (record { start = 0; commit = 0 }) in
    (pivot.0, last.0, pivot.1, ends, last.2.0)

-- the first, by its number
first_of : (c : In_ok-first) → (pivot : IsChosen c.args.evidence.now.index.now c.in-Some.pivot c.in-Some.limit) → (v : ℕ) × IsCommittedAt c.args.evidence.now.index.now c.in_ok-first.first v
    × IsLeast (MayBeFirst c.args.evidence.now.index.now pivot.0 (c.in_ok-last.ensures pivot.0 pivot.1).0) v
first_of c pivot =
    let last = c.in_ok-last.ensures pivot.0 pivot.1 in
    let ends = (commit_lived c.args.evidence.now.index.now c.lifetimes-2.result.now c.lifetimes-2.ensures c.in_ok-last.last last.0 last.1).1 (record { start = 0; commit = 0 }) in
    c.in_ok-first.ensures pivot.0 last.0 pivot.1 ends last.2.0

pub least_rw-into-requires-clause-leads : goal.least_rw-into-requires-clause-leads
least_rw-into-requires-clause-leads c =
    let pivot = chosen c.args.evidence.now.index.now c.in_ok-pivot.field-0 c.in-Some.pivot c.in-Some.limit c.in-Some.is c.in_ok-pivot.ensures in
    let first = first_of (goal.at.least_rw-into-requires-clause-leads c).In_ok-first pivot in
    let may = first.2.0 in
    (first.0, pivot.0, first.1, pivot.1, (may.0.1, may.0.2))

pub least_rw-out-requires-clause-leads : goal.least_rw-out-requires-clause-leads
least_rw-out-requires-clause-leads c =
    let pivot = chosen c.args.evidence.now.index.now c.in_ok-pivot.field-0 c.in-Some.pivot c.in-Some.limit c.in-Some.is c.in_ok-pivot.ensures in
    let last = c.in_ok-last.ensures pivot.0 pivot.1 in
    let is = last.2.0 in
    (pivot.0, last.0, pivot.1, last.1, (is.0.1, is.0.2))

pub bounds-txns-first : goal.bounds-txns-first
bounds-txns-first c =
    let pivot = chosen c.args.evidence.now.index.now c.in_ok-pivot.field-0 c.in-Some.pivot c.in-Some.limit c.in-Some.is c.in_ok-pivot.ensures in
    let first = first_of (goal.at.bounds-txns-first c).In_ok-first pivot in
    (txn_number c.args.evidence.now.index.now c.committed-txns.result.now c.committed-txns.ensures c.in_ok-first.first first.0 first.1).0

pub bounds-keys-into : goal.bounds-keys-into
bounds-keys-into c =
    let pivot = chosen c.args.evidence.now.index.now c.in_ok-pivot.field-0 c.in-Some.pivot c.in-Some.limit c.in-Some.is c.in_ok-pivot.ensures in
    let first = first_of (goal.at.bounds-keys-into c).In_ok-first pivot in
    let key = c.least_rw-into.ensures first.0 pivot.0 first.1 pivot.1 in
    (key_number c.args.evidence.now.index.now c.written_keys-keys.result.now c.written_keys-keys.ensures c.least_rw-into.result key.0 key.1).0

pub bounds-keys-out : goal.bounds-keys-out
bounds-keys-out c =
    let pivot = chosen c.args.evidence.now.index.now c.in_ok-pivot.field-0 c.in-Some.pivot c.in-Some.limit c.in-Some.is c.in_ok-pivot.ensures in
    let last = c.in_ok-last.ensures pivot.0 pivot.1 in
    let key = c.least_rw-out.ensures pivot.0 last.0 pivot.1 last.1 in
    (key_number c.args.evidence.now.index.now c.written_keys-keys.result.now c.written_keys-keys.ensures c.least_rw-out.result key.0 key.1).0

pub bounds-txns-last : goal.bounds-txns-last
bounds-txns-last c =
    let pivot = chosen c.args.evidence.now.index.now c.in_ok-pivot.field-0 c.in-Some.pivot c.in-Some.limit c.in-Some.is c.in_ok-pivot.ensures in
    let last = c.in_ok-last.ensures pivot.0 pivot.1 in
    (txn_number c.args.evidence.now.index.now c.committed-txns.result.now c.committed-txns.ensures c.in_ok-last.last last.0 last.1).0

pub returns : goal.returns
returns c =
    let h = c.args.evidence.now.index.now in
    let number = λ (i t : ℕ) (at : IsCommittedAt h i t). (txn_number h c.committed-txns.result.now c.committed-txns.ensures i t at).1 in
    let keys = c.written_keys-keys.result.now in
    let pivot = chosen c.args.evidence.now.index.now c.in_ok-pivot.field-0 c.in-Some.pivot c.in-Some.limit c.in-Some.is c.in_ok-pivot.ensures in
    let last = c.in_ok-last.ensures pivot.0 pivot.1 in
    let first = first_of (goal.at.returns c).In_ok-first pivot in
    let into = c.least_rw-into.ensures first.0 pivot.0 first.1 pivot.1 in
    let out = c.least_rw-out.ensures pivot.0 last.0 pivot.1 last.1 in
    named h _ first.0 pivot.0 last.0 (number c.in_ok-first.first first.0 first.1, number c.in-Some.pivot pivot.0 pivot.1, number c.in_ok-last.last last.0 last.1) pivot.2 last.2 first.2
    (subst (IsLeast (RwEdge h first.0 pivot.0)) (sym (key_number h keys c.written_keys-keys.ensures c.least_rw-into.result into.0 into.1).1) into.2)
    (subst (IsLeast (RwEdge h pivot.0 last.0)) (sym (key_number h keys c.written_keys-keys.ensures c.least_rw-out.result out.0 out.1).1) out.2)
