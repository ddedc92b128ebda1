-- Facts of well-formed histories: when a transaction starts and commits.
use Rattle.std.proofs.Common.{◌≡◌, ◌⊎◌, inl, inr, ℕ, ◌<◌, ◌≤◌, List, refl, arith}
use Rattle.std.proofs.lemmas.Bool.{cases_lt}
use Rattle.sia_events.specs.declared.event.Event.{Event}
use Rattle.sia_events.specs.declared.event.Event.TheVariants.{Write, Commit}
use Rattle.sia_events.specs.Refusals.{IsWellFormed}
use Rattle.sia_events.specs.Transactions.{ActsAt, StartsAt, CommitsAt, IsCommitted, Wrote, Sees, CommitsBefore}
use Rattle.sia_events.proofs.Writing.WellFormed.{one_commit}
use Rattle.sia_events.proofs.Shared.Decisions.{Decided}
use Rattle.sia_events.proofs.OfLaws.Seen.{actor_is_txn}
use Rattle.sia_events.proofs.Shared.Starts.{one_event, one_start}
use Rattle.sia_events.proofs.OfLaws.StartsBelow.{start_below}
use Rattle.sia_events.proofs.Shared.TransactionDecisions.{committed_or_not, has_start}

-- a place holds one commit
pub same_committer : (h : List Event) (t u c d : ℕ) → c ≡ d → CommitsAt h t c → CommitsAt h u d → t ≡ u
same_committer h t u c d same a b = let e = one_event h c d (Commit t) (Commit u) same a b in cc

module _ (h : List Event) (wf : IsWellFormed h) where
  -- 0 is no transaction
  pub committed_positive : (t : ℕ) → IsCommitted h t → 0 < t
  committed_positive t c = (actor_is_txn h wf t c.0 (Commit t, c.1, refl)).0

  pub writer_positive : (t k : ℕ) → Wrote h t k → 0 < t
  writer_positive t k w = (actor_is_txn h wf t w.0 (Write t k, w.1, refl)).0

  -- a transaction starts before each of its events
  pub start_of : (t p : ℕ) → ActsAt h t p → (s : ℕ) × (s < p) × StartsAt h t s
  start_of t p acts = let s = has_start h t (p, acts) in (s.0, start_below h wf t s.0 p s.1 acts, s.1)

-- when a committed transaction starts and commits
pub record Lifetime (h : List Event) (t : ℕ) : Type 0 where
  pub start : ℕ
  pub commit : ℕ
  pub starts : StartsAt h t start
  pub commits : CommitsAt h t commit
  pub ordered : start < commit

module _ (h : List Event) (wf : IsWellFormed h) where
  pub lifetime_of : (t : ℕ) → IsCommitted h t → Lifetime h t
  lifetime_of t c =
      let s = start_of h wf t c.0 (Commit t, c.1, refl) in
      record { start = s.0; commit = c.0; starts = s.2; commits = c.1; ordered = s.1 }

  pub sees_le : (t u s c : ℕ) → StartsAt h t s → CommitsAt h u c → Sees h t u → c ≤ s
  sees_le t u s c starts commits sees =
      let a : sees.0 ≡ s = one_start h t sees.0 s sees.2 starts in
      let b : sees.1 ≡ c = one_commit h wf u sees.1 c sees.3 commits in
      omega arith

  pub commits_lt : (t u c d : ℕ) → CommitsAt h t c → CommitsAt h u d → CommitsBefore h t u → c < d
  commits_lt t u c d at_c at_d before = grind (arith, one_commit)

  pub commits_before_decided : (t u : ℕ) → Decided (CommitsBefore h t u)
  commits_before_decided t u = elim (committed_or_not h t) [
    | inr fails ↦ inr (λ b. fails (b.0, b.2))
    | inl c ↦ elim (committed_or_not h u) [
      | inr fails ↦ inr (λ b. fails (b.1, b.3))
      | inl d ↦ elim (cases_lt c.0 d.0) [
        | inl less ↦ inl (c.0, d.0, c.1, d.1, less)
        | inr more ↦ inr (λ b. let l = commits_lt t u c.0 d.0 c.1 d.1 b in omega arith)
      ]
    ]
  ]

  -- of two committed transactions one commits first, or they are one
  pub commit_cases : (t u : ℕ) → IsCommitted h t → IsCommitted h u → (t ≡ u) ⊎ (CommitsBefore h t u ⊎ CommitsBefore h u t)
  commit_cases t u c d = elim (cases_lt c.0 d.0) [
    | inl less ↦ inr (inl (c.0, d.0, c.1, d.1, less))
    | inr more ↦ grind (arith, cases_lt, same_committer)
  ]
