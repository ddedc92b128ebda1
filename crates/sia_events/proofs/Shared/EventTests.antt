-- What a test of each event says of a list of events and its transactions. At a list that is written out it computes.
use Rattle.std.proofs.Common.{◌≡◌, ℕ, zero, suc, ◌+◌, ◌<◌, ◌≤◌, Bool, true, false, List, [], ◌∷◌, slice_get, take, drop, Some, None, refl, sym, subst, arith}
use Rattle.std.specs.Prelude.{MatchOption, not, ◌&&◌, ◌==◌}
use Rattle.std.specs.List.{list_any}
use Rattle.std.proofs.lemmas.Bool.{or_parts, both_ways, eqb-true, eq-eqb, and_from}
use Rattle.sia_events.specs.declared.event.Event.{Event}
use Rattle.sia_events.specs.declared.event.Event.TheVariants.{Read, Range, Write, Commit}
use Rattle.sia_events.specs.Places.{at_place}
use Rattle.sia_events.specs.Events.{actor, named_start}
use Rattle.sia_events.specs.Transactions.{IsFirstEvent, StartsAt, CommitsAt, IsCommitted, Wrote, WroteBefore}
use Rattle.sia_events.specs.Reads.{SawAt}
use Rattle.sia_events.proofs.Shared.Faults.{same_true}

-- the event is one of t
abbrev pub acts : ℕ → Event → Bool
acts t e = actor e == t

-- t commits
abbrev pub commits : ℕ → Event → Bool
commits t (Commit u) = u == t
commits t e = false

-- t writes k
abbrev pub writes : ℕ → ℕ → Event → Bool
writes t k (Write u j) = (u == t) && (j == k)
writes t k e = false

-- another transaction than t writes k
abbrev pub others_write : ℕ → ℕ → Event → Bool
others_write t k (Write u j) = (j == k) && not (u == t)
others_write t k e = false

-- t writes another key than k
abbrev pub writes_others : ℕ → ℕ → Event → Bool
writes_others t k (Write u j) = (u == t) && not (j == k)
writes_others t k e = false

-- another transaction than t reads k, or someone reads a range
abbrev pub others_read : ℕ → ℕ → Event → Bool
others_read t k (Read u j v) = (j == k) && not (u == t)
others_read t k (Range u lo hi listed) = true
others_read t k e = false

-- t reads another key than k, or someone reads a range
abbrev pub reads_others : ℕ → ℕ → Event → Bool
reads_others t k (Read u j v) = (u == t) && not (j == k)
reads_others t k (Range u lo hi listed) = true
reads_others t k e = false

module _ (test : Event → Bool) where
  -- what passes has an index from n on, where none of the first n does, and one below n, where none of the later ones does
  from_index : (h : List Event) (n i : ℕ) (e : Event) → list_any test (take n h) ≡ false → slice_get h i ≡ Some e → test e ≡ true → n ≤ i
  from_index [] n i e none at pass = cc
  from_index (f ∷ h) zero i e none at pass = omega arith
  from_index (f ∷ h) (suc n) zero e none at pass = grind (arith, both_ways, or_parts)
  from_index (f ∷ h) (suc n) (suc i) e none at pass = grind (arith, or_parts, from_index h n i e (or_parts (test f) (list_any test (take n h)) none).1 at pass)

  below_index : (h : List Event) (n i : ℕ) (e : Event) → list_any test (drop n h) ≡ false → slice_get h i ≡ Some e → test e ≡ true → i < n
  below_index [] n i e none at pass = cc
  below_index (f ∷ h) zero zero e none at pass = grind (arith, both_ways, or_parts)
  below_index (f ∷ h) zero (suc i) e none at pass = absurd (let less : i < 0 = below_index h zero i e (or_parts (test f) (list_any test h) none).1 at pass in omega arith)
  below_index (f ∷ h) (suc n) zero e none at pass = omega arith
  below_index (f ∷ h) (suc n) (suc i) e none at pass = let less : i < n = below_index h n i e none at pass in omega arith

  -- what passes stands after the first n events, where none of these does
  pub after_place : (h : List Event) (n p : ℕ) (e : Event) → list_any test (take n h) ≡ false → at_place h p ≡ Some e → test e ≡ true → n < p
  after_place h n p e none at pass = grind (arith, from_index)

  -- what passes stands at one of the first n places, where none of the later events does
  pub up_to_place : (h : List Event) (n p : ℕ) (e : Event) → list_any test (drop n h) ≡ false → at_place h p ≡ Some e → test e ≡ true → p ≤ n
  up_to_place h n p e none at pass = grind (arith, below_index)

  -- no event passes
  pub nowhere : (h : List Event) (p : ℕ) (e : Event) → list_any test h ≡ false → at_place h p ≡ Some e → ¬ (test e ≡ true)
  nowhere h zero e none at pass = cc
  nowhere h (suc i) e none at pass = let less : i < 0 = below_index h 0 i e none at pass in omega arith

-- the other part of a test that fails
other_part : (a b : Bool) → a ≡ true → ¬ ((a && not b) ≡ true) → b ≡ true
other_part a b p n = grind (arith, and_from)

-- a first event, where the events before it are of others
pub first_at : (h : List Event) (t n : ℕ) (e : Event) → at_place h (suc n) ≡ Some e → actor e ≡ t → list_any (acts t) (take n h) ≡ false → IsFirstEvent h t (suc n) e
first_at h t n e at is none = (at, is, λ q a. after_place (acts t) h n q a.0 none a.1 (eq-eqb (actor a.0) t a.2))

-- a start right before a first event that names none
pub starts_before : (h : List Event) (t n : ℕ) (e : Event) → at_place h (suc n) ≡ Some e → actor e ≡ t → list_any (acts t) (take n h) ≡ false → named_start e ≡ None → StartsAt h t n
starts_before h t n e at is none plain = (suc n, e, first_at h t n e at is none, subst (λ o. MatchOption o (n + 1 ≡ suc n) (λ m. n ≡ m)) (sym plain) (omega arith))

-- a start that a first event names
pub starts_named : (h : List Event) (t n s : ℕ) (e : Event) → at_place h (suc n) ≡ Some e → actor e ≡ t → list_any (acts t) (take n h) ≡ false → named_start e ≡ Some s → StartsAt h t s
starts_named h t n s e at is none names = (suc n, e, first_at h t n e at is none, subst (λ o. MatchOption o (s + 1 ≡ suc n) (λ m. s ≡ m)) (sym names) refl)

-- a commit stands after the first n places, and up to place n, where no other place has it
pub commits_after : (h : List Event) (t n c : ℕ) → list_any (commits t) (take n h) ≡ false → CommitsAt h t c → n < c
commits_after h t n c none at = after_place (commits t) h n c (Commit t) none at (same_true t)

pub commits_up_to : (h : List Event) (t n c : ℕ) → list_any (commits t) (drop n h) ≡ false → CommitsAt h t c → c ≤ n
commits_up_to h t n c none at = up_to_place (commits t) h n c (Commit t) none at (same_true t)

pub not_committed : (h : List Event) (t : ℕ) → list_any (commits t) h ≡ false → ¬ IsCommitted h t
not_committed h t none c = nowhere (commits t) h c.0 (Commit t) none c.1 (same_true t)

pub not_wrote : (h : List Event) (t k : ℕ) → list_any (writes t k) h ≡ false → ¬ Wrote h t k
not_wrote h t k none w = nowhere (writes t k) h w.0 (Write t k) none w.1 (and_from (t == t) (k == k) (same_true t) (same_true k))

pub not_wrote_before : (h : List Event) (t k n : ℕ) → list_any (writes t k) (take n h) ≡ false → ¬ WroteBefore h t k (suc n)
not_wrote_before h t k n none w = grind (arith, after_place, and_from, same_true)

-- t alone wrote k
pub one_writer : (h : List Event) (t k : ℕ) → list_any (others_write t k) h ≡ false → (u : ℕ) → Wrote h u k → u ≡ t
one_writer h t k none u w = eqb-true u t (other_part (k == k) (u == t) (same_true k) (nowhere (others_write t k) h w.0 (Write u k) none w.1))

-- t wrote k alone
pub one_key_written : (h : List Event) (t k : ℕ) → list_any (writes_others t k) h ≡ false → (j : ℕ) → Wrote h t j → j ≡ k
one_key_written h t k none j w = eqb-true j k (other_part (t == t) (j == k) (same_true t) (nowhere (writes_others t k) h w.0 (Write t j) none w.1))

-- t alone read k
pub one_reader : (h : List Event) (t k : ℕ) → list_any (others_read t k) h ≡ false → (p u v : ℕ) → SawAt h p u k v → u ≡ t
one_reader h t k none p u v q = grind (arith, eqb-true, other_part, eq-eqb, nowhere)

-- t read k alone
pub one_key_read : (h : List Event) (t k : ℕ) → list_any (reads_others t k) h ≡ false → (p j v : ℕ) → SawAt h p t j v → j ≡ k
one_key_read h t k none p j v q = grind (arith, eqb-true, other_part, eq-eqb, nowhere)
