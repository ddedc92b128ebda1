-- Named starts of worked histories: they decide which version is due, what overlaps, and which write is bad.
use Rattle.std.proofs.Common.{◌≡◌, ◌⊎◌, inl, inr, ℕ, zero, suc, ◌<◌, ◌≤◌, List, [], ◌∷◌, codes, Some, refl, ap, sym, subst, ◌∙◌, arith}
use Rattle.sia_events.specs.declared.event.Event.{Event}
use Rattle.sia_events.specs.declared.event.Event.TheVariants.{Begin, Read, Write, Commit}
use Rattle.sia_events.specs.Places.{at_place}
use Rattle.sia_events.specs.Events.{actor, Saw}
use Rattle.sia_events.specs.Text.{numeral, canonical}
use Rattle.sia_events.specs.Transactions.{StartsAt, WroteBefore, StartsBeforeCommit, CommitsBefore, Overlap}
use Rattle.sia_events.specs.Reads.{SawAt, IsDue}
use Rattle.sia_events.specs.Isolation.{IsBadRead, IsBadWrite}
use Rattle.sia_events.proofs.Shared.TransactionDecisions.{place_within}
use Rattle.sia_events.proofs.Shared.Starts.{one_event, one_start, none_seen_from_zero}
use Rattle.sia_events.proofs.OfLaws.Due.{one_due}
use Rattle.sia_events.proofs.Shared.EventTests.{starts_before, starts_named, not_wrote_before, commits_up_to, commits_after}

-- transaction 2 begins after 1 committed, and names the start before it. Where it names none, its read is a bad one
abbrev pub early_start : List Event
early_start = Write 1 1 ∷ Commit 1 ∷ Begin 2 (Some 0) ∷ Read 2 1 0 ∷ Commit 2 ∷ []

early_start_text : canonical early_start ≡ codes "w1[1] c1 b2@0 r2[1:0] c2"
unfolding numeral
early_start_text = refl

starts_at_zero : StartsAt early_start 2 0
starts_at_zero = starts_named early_start 2 2 0 (Begin 2 (Some 0)) refl refl refl refl

none_written : ¬ WroteBefore early_start 2 1 4
none_written = not_wrote_before early_start 2 1 3 refl

zero_is_due : IsDue early_start 2 4 1 0
zero_is_due = inr (none_written, inr ((λ u v. none_seen_from_zero early_start 2 u starts_at_zero v.1), refl))

-- what place 4 saw
seen_at_four : (t k v : ℕ) → SawAt early_start 4 t k v → (t ≡ 2) × (k ≡ 1) × (v ≡ 0)
seen_at_four t k v saw =
    let is : saw.0 ≡ Read 2 1 0 = one_event early_start 4 4 saw.0 (Read 2 1 0) refl saw.1 refl in
    let here : Saw (Read 2 1 0) k v = subst (λ e. Saw e k v) is saw.3 in
    (sym saw.2 ∙ ap actor is, here.0, here.1)

no_bad_read : (t k saw due : ℕ) → ¬ IsBadRead early_start 4 t k saw due
no_bad_read t k saw due bad =
    let seen = seen_at_four t k saw bad.0 in
    let due_here : IsDue early_start 2 4 1 due = subst (λ j. IsDue early_start 2 4 j due) seen.1 (subst (λ u. IsDue early_start u 4 k due) seen.0 bad.1) in
    bad.2 (seen.2 ∙ sym (one_due early_start 2 4 1 due 0 due_here zero_is_due))

they_overlap : Overlap early_start 1 2
they_overlap = (
  (0, 5, starts_before early_start 1 0 (Write 1 1) refl refl refl refl, refl, omega arith),
  (0, 2, starts_at_zero, refl, omega arith),
)

-- 2 names a start before the commit of 1, and writes what 1 wrote
abbrev pub start_before_commit : List Event
start_before_commit = Write 1 1 ∷ Commit 1 ∷ Begin 2 (Some 1) ∷ Write 2 1 ∷ Commit 2 ∷ []

start_before_commit_text : canonical start_before_commit ≡ codes "w1[1] c1 b2@1 w2[1] c2"
unfolding numeral
start_before_commit_text = refl

second_write_is_bad : IsBadWrite start_before_commit 1 1 2
second_write_is_bad = (
  (1, refl),
  (4, refl),
  (1, 2, starts_named start_before_commit 2 2 1 (Begin 2 (Some 1)) refl refl refl refl, refl, omega arith),
  (2, 5, refl, refl, omega arith),
)

-- 2 names the start right after the commit of 1
abbrev pub start_after_commit : List Event
start_after_commit = Write 1 1 ∷ Commit 1 ∷ Begin 2 (Some 2) ∷ Write 2 1 ∷ Commit 2 ∷ []

start_after_commit_text : canonical start_after_commit ≡ codes "w1[1] c1 b2@2 w2[1] c2"
unfolding numeral
start_after_commit_text = refl

writer_is : (p t k : ℕ) → at_place start_after_commit p ≡ Some (Write t k) → (t ≡ 1) ⊎ (t ≡ 2)
writer_is (suc zero) t k at = inl (let q : 1 ≡ t = cc in sym q)
writer_is (suc (suc (suc (suc zero)))) t k at = inr (let q : 2 ≡ t = cc in sym q)
writer_is (suc (suc (suc (suc (suc zero))))) t k at = cc
writer_is _ t k at = cc

-- 2 starts no earlier than 1 commits
not_before : ¬ StartsBeforeCommit start_after_commit 2 1
not_before b =
    let start : b.0 ≡ 2 = one_start start_after_commit 2 b.0 2 b.2 (starts_named start_after_commit 2 2 2 (Begin 2 (Some 2)) refl refl refl refl) in
    let up_to : b.1 ≤ 2 = commits_up_to start_after_commit 1 2 b.1 refl b.3 in
    let less : b.0 < b.1 = b.4 in
    omega arith

-- nothing commits after 2, nor 1 after itself
none_after_second : (u : ℕ) → ¬ CommitsBefore start_after_commit 2 u
none_after_second u b =
    let after : 4 < b.0 = commits_after start_after_commit 2 4 b.0 refl b.2 in
    let within : b.1 ≤ 5 = (place_within start_after_commit b.1 (Commit u) b.3).1 in
    let less : b.0 < b.1 = b.4 in
    omega arith

not_itself : ¬ CommitsBefore start_after_commit 1 1
not_itself b =
    let after : 1 < b.0 = commits_after start_after_commit 1 1 b.0 refl b.2 in
    let up_to : b.1 ≤ 2 = commits_up_to start_after_commit 1 2 b.1 refl b.3 in
    let less : b.0 < b.1 = b.4 in
    omega arith

no_bad_write : (k first second : ℕ) → ¬ IsBadWrite start_after_commit k first second
no_bad_write k first second bad = of_two (writer_is bad.0.0 first k bad.0.1) (writer_is bad.1.0 second k bad.1.1)
  where
    of_two : (first ≡ 1) ⊎ (first ≡ 2) → (second ≡ 1) ⊎ (second ≡ 2) → ⊥
    of_two (inl a) (inl b) = not_itself (subst (CommitsBefore start_after_commit 1) b (subst (λ t. CommitsBefore start_after_commit t second) a bad.3))
    of_two (inl a) (inr b) = not_before (subst (StartsBeforeCommit start_after_commit 2) a (subst (λ t. StartsBeforeCommit start_after_commit t first) b bad.2))
    of_two (inr a) b = none_after_second second (subst (λ t. CommitsBefore start_after_commit t second) a bad.3)
