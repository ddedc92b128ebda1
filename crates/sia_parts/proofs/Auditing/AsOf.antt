-- As of which place a version is.
use Rattle.std.proofs.Common.{◌≡◌, inl, inr, ℕ, ◌<◌, List, sym, subst, ◌∙◌, arith, refl}
use Rattle.sia_events.specs.declared.event.Event.{Event}
use Rattle.sia_events.specs.declared.event.Event.TheVariants.{Commit}
use Rattle.sia_events.specs.NarrowDependencies.{IsAsOf}
use Rattle.sia_events.specs.Refusals.{IsWellFormed}
use Rattle.sia_events.specs.Transactions.{CommitsAt}
use Rattle.sia_events.proofs.OfLaws.Seen.{actor_is_txn}
use Rattle.sia_events.proofs.Shared.TransactionDecisions.{place_within}
use Rattle.sia_events.proofs.Writing.WellFormed.{one_commit}

module _ (h : List Event) (wf : IsWellFormed h) where
  pub commit_positive : (t c : ℕ) → CommitsAt h t c → 0 < c
  commit_positive t c at = (place_within h c (Commit t) at).0

  pub zero_commits_not : (c : ℕ) → ¬ CommitsAt h 0 c
  zero_commits_not c at = let positive : 0 < 0 = (actor_is_txn h wf 0 c (Commit 0, at, refl)).0 in omega arith

  -- a version is as of one place
  pub one_as_of : (v c d : ℕ) → IsAsOf h v c → IsAsOf h v d → c ≡ d
  one_as_of v c d (inl a) (inl b) = a.1 ∙ sym b.1
  one_as_of v c d (inl a) (inr b) = absurd (zero_commits_not d (subst (λ u. CommitsAt h u d) a.0 b))
  one_as_of v c d (inr a) (inl b) = absurd (zero_commits_not c (subst (λ u. CommitsAt h u c) b.0 a))
  one_as_of v c d (inr a) (inr b) = one_commit h wf v c d a b
