-- The numbers that transactions, keys and writes have in a log.
use Rattle.std.proofs.Common.{◌≡◌, ◌⊎◌, inl, inr, ℕ, zero, suc, ◌||◌, Bool, true, false, List, [], ◌∷◌, ◌++◌, length, map, Some, None, refl, sym, subst, ◌∙◌, ap, ap₂, slice_get}
use Rattle.std.specs.Prelude.{◌==◌, if◌then◌else◌}
use Rattle.std.specs.List.{list_any, fold, flat_map}
use Rattle.std.proofs.Math.Bool.{or-true}
use Rattle.std.proofs.lemmas.Bool.{eqb-true}
use Rattle.std.proofs.lemmas.List.Folds.{list_any-append}
use Rattle.sia_events.specs.declared.event.Event.{Event}
use Rattle.sia_events.specs.declared.event.Event.TheVariants.{Begin, Read, Range, Write, Commit, Abort}
use Rattle.sia_events.specs.Places.{at_place}
use Rattle.sia_events.specs.Events.{actor}
use Rattle.sia_events.specs.Known.{acts, writes}
use Rattle.sia_events.specs.Numbering.{entered, distinct, same_number, same_pair, keys_in, writes_in, txns_of, keys_of, writes_of}
use Rattle.sia_events.specs.Transactions.{HasEvent, Wrote}
use Rattle.sia_events.proofs.Shared.Faults.{any_among, among_any, same_true}
use Rattle.sia_events.proofs.LogRows.Distinct.{Tells, numbers_tell, pairs_tell, any_distinct, numbered_acts, numbered_writes}
use Rattle.sia_index.specs.Rows.{IsWritten}

-- nothing stands twice
abbrev pub StandOnce : {A : Type 0} → List A → Type 0
StandOnce {A} xs = (i j : ℕ) (x : A) → slice_get xs i ≡ Some x → slice_get xs j ≡ Some x → i ≡ j

read_push : {A : Type 0} (xs : List A) (x : A) (i : ℕ) (v : A) → slice_get (xs ++ x ∷ []) i ≡ Some v → (slice_get xs i ≡ Some v) ⊎ ((i ≡ length xs) × (v ≡ x))
read_push [] x zero v at = inr (refl, (let e : Some x ≡ Some v = at in cc))
read_push [] x (suc i) v at = inl at
read_push (y ∷ ys) x zero v at = inl at
read_push (y ∷ ys) x (suc i) v at = elim (read_push ys x i v at) [
  | inl there ↦ inl there
  | inr here ↦ inr (ap suc here.0, here.1)
]

module _ {A : Type 0} (same : A → A → Bool) (tells : Tells same) (own : (x : A) → same x x ≡ true) where
  any_there : (xs : List A) (n : ℕ) (x : A) → slice_get xs n ≡ Some x → list_any (same x) xs ≡ true
  any_there [] n x at = absurd (let e : None ≡ Some x = at in cc)
  any_there (y ∷ ys) zero x at = let e : y ≡ x = (let e : Some y ≡ Some x = at in cc) in rw (e, own x) refl
  any_there (y ∷ ys) (suc n) x at = rw (any_there ys n x at) (or-true (same x y))

  number_of : (xs : List A) (x : A) → list_any (same x) xs ≡ true → (i : ℕ) × (slice_get xs i ≡ Some x)
  number_of [] x is = absurd cc
  number_of (y ∷ ys) x is = by_head (number_of ys x) (same x y) refl is where
    by_head : (list_any (same x) ys ≡ true → (i : ℕ) × (slice_get ys i ≡ Some x)) → (b : Bool) → same x y ≡ b → (b || list_any (same x) ys) ≡ true → (i : ℕ) × (slice_get (y ∷ ys) i ≡ Some x)
    by_head later true e there = (0, ap Some (sym (tells x y e)))
    by_head later false e there = let found = later there in (suc found.0, found.1)

  push_once : (xs : List A) (x : A) → StandOnce xs → list_any (same x) xs ≡ false → StandOnce (xs ++ x ∷ [])
  push_once xs x once new i j v at_i at_j = elim (read_push xs x i v at_i) [
    | inl a ↦ elim (read_push xs x j v at_j) [
      | inl b ↦ once i j v a b
      | inr b ↦ let there = any_there xs i x (subst (λ u. slice_get xs i ≡ Some u) b.1 a) in absurd cc
    ]
    | inr a ↦ elim (read_push xs x j v at_j) [
      | inl b ↦ let there = any_there xs j x (subst (λ u. slice_get xs j ≡ Some u) a.1 b) in absurd cc
      | inr b ↦ a.0 ∙ sym b.0
    ]
  ]

  entered_once : (xs : List A) (x : A) → StandOnce xs → StandOnce (entered same xs x)
  entered_once xs x once = by_there (list_any (same x) xs) refl where
    by_there : (b : Bool) → list_any (same x) xs ≡ b → StandOnce (if b then xs else xs ++ x ∷ [])
    by_there true there = once
    by_there false none = push_once xs x once none

  fold_once : (xs ys : List A) → StandOnce xs → StandOnce (fold (entered same) xs ys)
  fold_once xs [] once = once
  fold_once xs (y ∷ ys) once = fold_once (entered same xs y) ys (entered_once xs y once)

  distinct_once : (ys : List A) → StandOnce (distinct same ys)
  distinct_once ys = fold_once [] ys (λ i j x none. let e : None ≡ Some x = none in absurd cc)

same_own : (p : ℕ × ℕ) → same_pair p p ≡ true
same_own p = rw (same_true p.0, same_true p.1) refl

-- no transaction, no key and no write has two numbers
pub txns_stand_once : (h : List Event) → StandOnce (txns_of h)
unfolding txns_of
txns_stand_once h = distinct_once same_number numbers_tell same_true (map actor h)

pub keys_stand_once : (h : List Event) → StandOnce (keys_of h)
unfolding keys_of
keys_stand_once h = distinct_once same_number numbers_tell same_true (flat_map keys_in h)

pub writes_stand_once : (h : List Event) → StandOnce (writes_of h)
unfolding writes_of
writes_stand_once h = distinct_once same_pair pairs_tell same_own (flat_map writes_in h)

-- a transaction has a number exactly if it has an event
event_at : (h : List Event) (t p : ℕ) (e : Event) → at_place h p ≡ Some e → actor e ≡ t → list_any (acts t) h ≡ true
event_at h t zero e at same = absurd cc
event_at h t (suc i) e at same = among_any (acts t) h e (i, at) (subst (λ u. (t == u) ≡ true) (sym same) (same_true t))

pub numbered_has_event : (h : List Event) (i t : ℕ) → slice_get (txns_of h) i ≡ Some t → HasEvent h t
numbered_has_event h i t at =
    let (e, (j, there), same) = any_among (acts t) h (sym (numbered_acts t h) ∙ any_there same_number numbers_tell same_true (txns_of h) i t at) in
    (suc j, (e, there, sym (eqb-true t (actor e) same)))

pub event_has_number : (h : List Event) (t : ℕ) → HasEvent h t → (i : ℕ) × (slice_get (txns_of h) i ≡ Some t)
event_has_number h t has = number_of same_number numbers_tell same_true (txns_of h) t (numbered_acts t h ∙ event_at h t has.0 has.1.0 has.1.1 has.1.2)

-- and a first write exactly if it stands in the history
write_event : (h : List Event) (t k p : ℕ) → at_place h p ≡ Some (Write t k) → list_any (writes (k, t)) h ≡ true
write_event h t k zero at = absurd cc
write_event h t k (suc i) at = among_any (writes (k, t)) h (Write t k) (i, at) (same_own (k, t))

pub write_has_number : (h : List Event) (t k : ℕ) → Wrote h t k → (w : ℕ) × (slice_get (writes_of h) w ≡ Some (k, t))
write_has_number h t k wrote = number_of same_pair pairs_tell same_own (writes_of h) (k, t) (numbered_writes (k, t) h ∙ write_event h t k wrote.0 wrote.1)

written : (k t : ℕ) (e : Event) → writes (k, t) e ≡ true → e ≡ Write t k
written k t (Write u j) is = let p = pairs_tell (k, t) (j, u) is in ap₂ (λ a b. Write a b) (sym (ap (λ (q : ℕ × ℕ). q.1) p)) (sym (ap (λ (q : ℕ × ℕ). q.0) p))
written k t (Begin u start) is = absurd cc
written k t (Read u j v) is = absurd cc
written k t (Range u lo hi listed) is = absurd cc
written k t (Commit u) is = absurd cc
written k t (Abort u) is = absurd cc

pub numbered_wrote : (h : List Event) (w k t : ℕ) → slice_get (writes_of h) w ≡ Some (k, t) → Wrote h t k
numbered_wrote h w k t at =
    let (e, (j, there), same) = any_among (writes (k, t)) h (sym (numbered_writes (k, t) h) ∙ any_there same_pair pairs_tell same_own (writes_of h) w (k, t) at) in
    (suc j, there ∙ ap Some (written k t e same))

-- a written key has a number
key_event : (h : List Event) (t k i : ℕ) → slice_get h i ≡ Some (Write t k) → list_any (same_number k) (flat_map keys_in h) ≡ true
key_event [] t k i at = absurd (let e : None ≡ Some (Write t k) = at in cc)
key_event (e ∷ es) t k zero at =
    let is : e ≡ Write t k = (let s : Some e ≡ Some (Write t k) = at in cc) in
    rw is (list_any-append (same_number k) (k ∷ []) (flat_map keys_in es) ∙ rw (same_true k) refl)
key_event (e ∷ es) t k (suc i) at = list_any-append (same_number k) (keys_in e) (flat_map keys_in es) ∙ rw (key_event es t k i at) (or-true (list_any (same_number k) (keys_in e)))

key_at_place : (h : List Event) (t k p : ℕ) → at_place h p ≡ Some (Write t k) → list_any (same_number k) (flat_map keys_in h) ≡ true
key_at_place h t k zero at = absurd cc
key_at_place h t k (suc i) at = key_event h t k i at

pub written_has_number : (h : List Event) (k : ℕ) → IsWritten h k → (i : ℕ) × (slice_get (keys_of h) i ≡ Some k)
unfolding keys_of
written_has_number h k is = number_of same_number numbers_tell same_true (keys_of h) k (any_distinct same_number numbers_tell (same_number k) (flat_map keys_in h) ∙ key_at_place h is.0 k is.1.0 is.1.1)
