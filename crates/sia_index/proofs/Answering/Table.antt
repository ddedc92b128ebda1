-- The table of transactions: what a row of it says, and what no row says.
use Rattle.std.proofs.Common.{◌≡◌, ℕ, ◌<◌, List, Option, Some, None, subst, arith}
use Rattle.std.specs.Prelude.{◌↔◌}
use Rattle.sia_events.specs.declared.event.Event.{Event}
use Rattle.sia_events.specs.Refusals.{IsWellFormed}
use Rattle.sia_events.specs.Transactions.{HasEvent, StartsAt, CommitsAt, StartsBeforeCommit, IsCommitted, Overlap}
use Rattle.sia_events.proofs.Shared.Starts.{one_start}
use Rattle.sia_events.proofs.Writing.WellFormed.{one_commit}
use Rattle.sia_events.proofs.OfLaws.Endings.{one_end}
use Rattle.sia_index.specs.declared.info.Lifetime.{Lifetime}
use Rattle.sia_index.specs.declared.info.TxnInfo.{TxnInfo}
use Rattle.sia_index.specs.declared.info.Fate.TheVariants.{Aborted}
use Rattle.sia_index.specs.Info.{EndsAs, IsInfo}
use Rattle.sia_index.specs.Lifetimes.{IsLifetime}

-- what has a start has an event
pub start_has_event : (h : List Event) (t s : ℕ) → StartsAt h t s → HasEvent h t
start_has_event h t s a = (a.0, (a.1, a.2.0, a.2.1))

-- where the start of t and the commit of u are known, they tell whether t starts before u commits
starts_before : (h : List Event) → IsWellFormed h → (t u s c : ℕ) → StartsAt h t s → CommitsAt h u c → (s < c) ↔ StartsBeforeCommit h t u
starts_before h wf t u s c starts commits = (
  λ less. (s, c, starts, commits, less),
  λ before.
      let start : before.0 ≡ s = one_start h t before.0 s before.2 starts in
      let commit : before.1 ≡ c = one_commit h wf u before.1 c before.3 commits in
      let less : before.0 < before.1 = before.4 in
      omega arith,
)

-- both say that the two overlap
pub overlap_by : (h : List Event) → IsWellFormed h → (t u : ℕ) (a b : Lifetime) → IsLifetime h t a → IsLifetime h u b → ((a.start < b.commit) × (b.start < a.commit)) ↔ Overlap h t u
overlap_by h wf t u a b is other =
    let first = starts_before h wf t u a.start b.commit is.0 other.1 in
    let second = starts_before h wf u t b.start a.commit other.0 is.1 in
    ((λ both. (first.0 both.0, second.0 both.1)), (λ both. (first.1 both.0, second.1 both.1)))

-- what aborted didn't commit
pub aborted_not_committed : (h : List Event) → IsWellFormed h → (t : ℕ) (info : TxnInfo) → IsInfo h t info → info.fate ≡ Aborted → ¬ IsCommitted h t
aborted_not_committed h wf t info is aborted done = of_end info.ended (subst (λ f. EndsAs h t f info.ended) aborted is.1)
  where
    of_end : (e : Option ℕ) → EndsAs h t Aborted e → ⊥
    of_end None ends = ends
    of_end (Some p) ends = one_end h wf t done.0 p done.1 ends
