-- Reads of worked histories: of an aborted version, of a commit after the start, and of an old version.
use Rattle.std.proofs.Common.{◌≡◌, inl, inr, ℕ, ◌<◌, ◌≤◌, List, [], ◌∷◌, codes, None, refl, subst, arith}
use Rattle.sia_events.specs.declared.event.Event.{Event}
use Rattle.sia_events.specs.declared.event.Event.TheVariants.{Begin, Read, Write, Commit, Abort}
use Rattle.sia_events.specs.Text.{numeral, canonical}
use Rattle.sia_events.specs.Transactions.{CommitsAt, StartsAt}
use Rattle.sia_events.specs.Reads.{IsVisible, IsNewestVisible}
use Rattle.sia_events.specs.Isolation.{IsBadRead, IsUnexplained}
use Rattle.sia_events.proofs.Shared.Starts.{none_seen_from_zero}
use Rattle.sia_events.proofs.Shared.EventTests.{starts_before, not_committed, not_wrote_before, one_writer, commits_up_to, commits_after}

-- a version is read whose transaction aborts
abbrev pub aborted_read : List Event
aborted_read = Write 1 1 ∷ Read 2 1 1 ∷ Commit 2 ∷ Abort 1 ∷ []

aborted_read_text : canonical aborted_read ≡ codes "w1[1] r2[1:1] c2 a1"
unfolding numeral
aborted_read_text = refl

aborted_invisible : (u : ℕ) → ¬ IsVisible aborted_read 2 1 u
aborted_invisible u v =
    let only : u ≡ 1 = one_writer aborted_read 1 1 refl u v.0 in
    not_committed aborted_read 1 refl (v.1.1, subst (λ w. CommitsAt aborted_read w v.1.1) only v.1.3)

aborted_read_is_bad : IsBadRead aborted_read 2 2 1 1 0
aborted_read_is_bad = (
  (Read 2 1 1, refl, refl, (refl, refl)),
  inr (not_wrote_before aborted_read 2 1 1 refl, inr (aborted_invisible, refl)),
  (λ e. omega arith),
)

aborted_read_is_unexplained : IsUnexplained aborted_read 2 2 1 1
aborted_read_is_unexplained = (
  (3, refl),
  (Read 2 1 1, refl, refl, (refl, refl)),
  inr ((λ e. omega arith), (λ e. omega arith), not_committed aborted_read 1 refl),
)

-- a version is read that was committed after the start: due is what was there at the start, not at the read's place
abbrev pub late_commit_read : List Event
late_commit_read = Read 1 2 0 ∷ Write 2 1 ∷ Commit 2 ∷ Read 1 1 2 ∷ Commit 1 ∷ []

late_commit_read_text : canonical late_commit_read ≡ codes "r1[2:0] w2[1] c2 r1[1:2] c1"
unfolding numeral
late_commit_read_text = refl

late_start : StartsAt late_commit_read 1 0
late_start = starts_before late_commit_read 1 0 (Read 1 2 0) refl refl refl refl

late_commit_read_is_bad : IsBadRead late_commit_read 4 1 1 2 0
late_commit_read_is_bad = (
  (Read 1 1 2, refl, refl, (refl, refl)),
  inr (not_wrote_before late_commit_read 1 1 3 refl, inr ((λ u v. none_seen_from_zero late_commit_read 1 u late_start v.1), refl)),
  (λ e. omega arith),
)

-- an old version is read after another one was committed
abbrev pub old_version_read : List Event
old_version_read = Write 1 1 ∷ Commit 1 ∷ Begin 2 None ∷ Read 2 1 0 ∷ Commit 2 ∷ []

old_version_read_text : canonical old_version_read ≡ codes "w1[1] c1 b2 r2[1:0] c2"
unfolding numeral
old_version_read_text = refl

old_start : StartsAt old_version_read 2 2
old_start = starts_before old_version_read 2 2 (Begin 2 None) refl refl refl refl

newest_of_old : IsNewestVisible old_version_read 2 1 1
newest_of_old = (
  ((1, refl), (2, 2, old_start, refl, omega arith)),
  (λ w c d v at last.
      let only : w ≡ 1 = one_writer old_version_read 1 1 refl w v.0 in
      let up_to : c ≤ 2 = commits_up_to old_version_read 1 2 c refl (subst (λ u. CommitsAt old_version_read u c) only at) in
      let after : 1 < d = commits_after old_version_read 1 1 d refl last in
      omega arith),
)

old_version_read_is_bad : IsBadRead old_version_read 4 2 1 0 1
old_version_read_is_bad = (
  (Read 2 1 0, refl, refl, (refl, refl)),
  inr (not_wrote_before old_version_read 2 1 3 refl, inl newest_of_old),
  (λ e. omega arith),
)
