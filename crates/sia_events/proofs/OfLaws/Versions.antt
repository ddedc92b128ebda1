-- In a well-formed history the versions of a key are in one order, 0 first, and each edge leads from one committed
-- transaction to another.
use Rattle.std.proofs.Common.{◌≢◌, ◌⊎◌, inl, inr, ℕ, ◌<◌, List, refl, subst, arith}
use Rattle.std.proofs.lemmas.Bool.{cases_order}
use Rattle.sia_events.specs.declared.event.Event.{Event}
use Rattle.sia_events.specs.declared.event.Event.TheVariants.{Write}
use Rattle.sia_events.specs.Refusals.{IsWellFormed}
use Rattle.sia_events.specs.Transactions.{IsCommitted, Wrote, CommitsBefore}
use Rattle.sia_events.specs.Dependencies.{IsCommittedWriter, IsVersionBefore, HasEdge}
use Rattle.sia_events.proofs.OfLaws.Endings.{two_commits}
use Rattle.sia_events.proofs.OfLaws.Seen.{actor_is_txn}
use Rattle.sia_events.proofs.Writing.WellFormed.{one_commit}

module _ (h : List Event) (wf : IsWellFormed h) where
  -- nothing commits before itself
  pub commits_not_before_itself : (t : ℕ) → ¬ CommitsBefore h t t
  commits_not_before_itself t b = grind (arith, one_commit)

  pub commits_before_both : (t u v : ℕ) → CommitsBefore h t u → CommitsBefore h u v → CommitsBefore h t v
  commits_before_both t u v a b = grind (arith, one_commit)

  -- of two transactions that committed one did first
  pub one_commits_first : (t u : ℕ) → t ≢ u → IsCommitted h t → IsCommitted h u → CommitsBefore h t u ⊎ CommitsBefore h u t
  one_commits_first t u other a b = elim (cases_order a.0 b.0) [
    | inl same ↦ absurd (two_commits h t u a.0 b.0 other a.1 b.1 same)
    | inr differ ↦ elim differ [
      | inl less ↦ inl (a.0, b.0, a.1, b.1, less)
      | inr more ↦ inr (b.0, a.0, b.1, a.1, more)
    ]
  ]

  -- a writer isn't 0
  pub writer_not_zero : (t k : ℕ) → Wrote h t k → t ≢ 0
  writer_not_zero t k w is = let above : 0 < t = (actor_is_txn h wf t w.0 (Write t k, w.1, refl)).0 in omega arith

  -- the order of the versions of a key: none is before itself, and what is before one is before those after it
  pub version_not_before_itself : (k v : ℕ) → ¬ IsVersionBefore h k v v
  version_not_before_itself k v (inl b) = writer_not_zero v k b.1.0 b.0
  version_not_before_itself k v (inr b) = commits_not_before_itself v b.2

  pub version_before_both : (k u v w : ℕ) → IsVersionBefore h k u v → IsVersionBefore h k v w → IsVersionBefore h k u w
  version_before_both k u v w (inl a) (inl b) = inl (a.0, b.1)
  version_before_both k u v w (inl a) (inr b) = inl (a.0, (b.1, (b.2.1, b.2.3)))
  version_before_both k u v w (inr a) (inl b) = absurd (writer_not_zero v k a.1 b.0)
  version_before_both k u v w (inr a) (inr b) = inr (a.0, b.1, commits_before_both u v w a.2 b.2)

  -- of two committed writers one's version is before the other's. And 0 is before each, by definition
  pub one_version_first : (k v w : ℕ) → v ≢ w → IsCommittedWriter h k v → IsCommittedWriter h k w → IsVersionBefore h k v w ⊎ IsVersionBefore h k w v
  one_version_first k v w other a b = elim (one_commits_first v w other a.1 b.1) [
    | inl first ↦ inl (inr (a.0, b.0, first))
    | inr second ↦ inr (inr (b.0, a.0, second))
  ]

  -- an edge leads from one committed transaction to another
  pub edge_between : (t u : ℕ) → HasEdge h t u → (t ≢ u) × IsCommitted h t × IsCommitted h u
  edge_between t u (k, inl ww) = ((λ is. commits_not_before_itself u (subst (λ x. CommitsBefore h x u) is ww.2)), (ww.2.0, ww.2.2), (ww.2.1, ww.2.3))
  edge_between t u (k, inr (inl wr)) = (wr.0, wr.1.1, wr.2)
  edge_between t u (k, inr (inr rw)) = (rw.0, rw.1, rw.2.1)
