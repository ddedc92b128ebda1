-- Versions and their positions: which version stands at one, and which is due.
use Rattle.std.proofs.Common.{◌≡◌, ◌≢◌, ◌⊎◌, inl, inr, ℕ, List, ap, sym, ◌∙◌, refl, arith}
use Rattle.std.specs.List.{slice_get}
use Rattle.std.proofs.lemmas.Option.{get_or_from_slice_get, slice_get_within, same_Some}
use Rattle.sia_events.specs.declared.event.Event.{Event}
use Rattle.sia_events.specs.NarrowDependencies.{IsAsOf}
use Rattle.sia_events.specs.Reads.{IsDue, IsNewestVisible, IsVisible}
use Rattle.sia_events.specs.Refusals.{IsWellFormed}
use Rattle.sia_events.specs.Transactions.{StartsAt, Wrote, WroteBefore}
use Rattle.sia_events.proofs.Worked.OneList.{one_list_by}
use Rattle.sia_events.proofs.Shared.Starts.{one_start}
use Rattle.sia_events.proofs.Writing.WellFormed.{one_commit}
use Rattle.sia_index.specs.declared.info.KeyVersion.{KeyVersion}
use Rattle.sia_index.specs.Positions.{IsAtPosition, HasVersionUpTo, IsNewestAsOf, IsVersion}
use Rattle.sia_parts.proofs.Auditing.AsOf.{commit_positive}

-- a version other than 0 is due only at a written key
pub due_is_written : (h : List Event) (t p k v : ℕ) → IsDue h t p k v → v ≢ 0 → (u : ℕ) × Wrote h u k
due_is_written h t p k v (inl own) other = (t, (own.0.0, own.0.2))
due_is_written h t p k v (inr rest) other = of_newest rest.1
  where
    of_newest : IsNewestVisible h t k v ⊎ (((u : ℕ) → ¬ IsVisible h t k u) × (v ≡ 0)) → (u : ℕ) × Wrote h u k
    of_newest (inl newest) = (v, newest.0.0)
    of_newest (inr none) = absurd (other none.1)

module _ (h : List Event) where
  pub at_is_version : (q : ℕ) (v : KeyVersion) → IsAtPosition h q v → IsVersion h v
  at_is_version q v at = (at.1.each v).0 (q, slice_get_within at.0 q v at.2, get_or_from_slice_get at.0 q v v at.2)

  -- one version stands at a position
  pub one_at : (q : ℕ) (v w : KeyVersion) → IsAtPosition h q v → IsAtPosition h q w → v ≡ w
  one_at q v w at other =
      let same = one_list_by _ _ at.0 other.0 at.1 other.1 in
      same_Some v w (sym at.2 ∙ ap (λ l. slice_get l q) same ∙ other.2)

  written_of : (v : KeyVersion) → IsVersion h v → (u : ℕ) × Wrote h u v.key
  written_of v (inl zero) = zero.0
  written_of v (inr version) = (v.txn, version.0)

  -- the key of a version is written
  pub version_written : (q : ℕ) (v : KeyVersion) → IsAtPosition h q v → (u : ℕ) × Wrote h u v.key
  version_written q v at = written_of v (at_is_version q v at)

  version_as_of : (v : KeyVersion) → IsVersion h v → IsAsOf h v.txn v.commit
  version_as_of v (inl zero) = inl (zero.2, zero.1)
  version_as_of v (inr version) = inr version.1

  -- it is as of its commit
  pub at_as_of : (q : ℕ) (v : KeyVersion) → IsAtPosition h q v → IsAsOf h v.txn v.commit
  at_as_of q v at = version_as_of v (at_is_version q v at)

  module _ (wf : IsWellFormed h) where
    zero_made : (v : KeyVersion) → IsVersion h v → v.commit ≡ 0 → v.txn ≡ 0
    zero_made v (inl zero) none = zero.2
    zero_made v (inr version) none = absurd (let positive = commit_positive h wf v.txn v.commit version.1 in omega arith)

    -- nobody made version 0
    pub at_zero : (q : ℕ) (v : KeyVersion) → IsAtPosition h q v → v.commit ≡ 0 → v.txn ≡ 0
    at_zero q v at none = zero_made v (at_is_version q v at) none

    version_is_due : (t p s : ℕ) (v : KeyVersion) → IsVersion h v → StartsAt h t s → ¬ WroteBefore h t v.key p → IsNewestAsOf h s v → IsDue h t p v.key v.txn
    version_is_due t p s v (inl zero) starts other newest = inr (
      other,
      inr (
        (λ u seen.
            let sees = seen.1 in
            let same : sees.0 ≡ s = one_start h t sees.0 s sees.2 starts in
            let positive = commit_positive h wf u sees.1 sees.3 in
            let within = sees.4 in
            let late = newest.1 u sees.1 (seen.0, sees.3) (omega arith) in
            let none = zero.1 in
            absurd (omega arith)),
        zero.2,
      ),
    )
    version_is_due t p s v (inr version) starts other newest = inr (
      other,
      inl (
        (version.0, (s, v.commit, starts, version.1, newest.0)),
        λ w c d seen commits own.
            (let sees = seen.1 in
            let same : sees.0 ≡ s = one_start h t sees.0 s sees.2 starts in
            let here : sees.1 ≡ c = one_commit h wf w sees.1 c sees.3 commits in
            let there : v.commit ≡ d = one_commit h wf v.txn v.commit d version.1 own in
            let within = sees.4 in
            let le = newest.1 w sees.1 (seen.0, sees.3) (omega arith) in
            omega arith),
      ),
    )

    -- the newest version as of a start is due, where the reader hadn't written the key
    pub newest_is_due : (t p s q : ℕ) (v : KeyVersion) → IsAtPosition h q v → StartsAt h t s → ¬ WroteBefore h t v.key p → IsNewestAsOf h s v → IsDue h t p v.key v.txn
    newest_is_due t p s q v at starts other newest = version_is_due t p s v (at_is_version q v at) starts other newest

    -- where no version is committed up to a start, version 0 is due
    pub none_is_due : (t p k s : ℕ) → StartsAt h t s → ¬ WroteBefore h t k p → ¬ HasVersionUpTo h k s → IsDue h t p k 0
    none_is_due t p k s starts other none = inr (
      other,
      inr (
        (λ u seen.
            let sees = seen.1 in
            let same : sees.0 ≡ s = one_start h t sees.0 s sees.2 starts in
            let within = sees.4 in
            none (u, sees.1, (seen.0, sees.3), omega arith)),
        refl,
      ),
    )
