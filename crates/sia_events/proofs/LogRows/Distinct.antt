-- Lists in which nothing stands twice, and what one event more makes of the numbers.
use Rattle.std.proofs.Common.{◌≡◌, inl, inr, ℕ, zero, suc, ◌||◌, Bool, true, false, List, [], ◌∷◌, ◌++◌, map, Some, None, refl, sym, ◌∙◌, ap, ap₂, slice_get, arith}
use Rattle.std.specs.Prelude.{◌==◌}
use Rattle.std.specs.List.{list_any, fold, flat_map}
use Rattle.std.proofs.Math.Bool.{or-false, or-true}
use Rattle.std.proofs.lemmas.Bool.{eqb-true}
use Rattle.std.proofs.lemmas.Grind.{fold-append, flat_map-append}
use Rattle.std.proofs.lemmas.List.Folds.{list_any-append}
use Rattle.std.proofs.lemmas.List.{map-append, append-nil}
use Rattle.sia_events.specs.declared.event.Event.{Event}
use Rattle.sia_events.specs.Events.{actor}
use Rattle.sia_events.specs.Known.{acts, writes}
use Rattle.sia_events.specs.Drafts.{IsNew}
use Rattle.sia_events.specs.LogTables.{AreOnce}
use Rattle.sia_events.specs.Numbering.{entered, distinct, same_number, same_pair, keys_in, writes_in, ranges_in, txns_of, keys_of, writes_of, ranges_of, Names, names_of}
use Rattle.sia_events.proofs.Shared.Faults.{same_true}
use Rattle.sia_events.proofs.LogRows.RowsRead.{push_cases}

abbrev pub Tells : {A : Type 0} → (A → A → Bool) → Type 0
Tells {A} same = (x y : A) → same x y ≡ true → x ≡ y

pub numbers_tell : Tells same_number
numbers_tell x y is = eqb-true x y is

pub pairs_tell : Tells same_pair
pairs_tell p q is = grind (arith, eqb-true)

module _ {A : Type 0} (same : A → A → Bool) (tells : Tells same) (p : A → Bool) where
  any_has : (xs : List A) (x : A) → list_any (same x) xs ≡ true → p x ≡ true → list_any p xs ≡ true
  any_has [] x is has = absurd cc
  any_has (y ∷ ys) x is has = by_head (same x y) refl is (λ there. any_has ys x there has) where
    by_head : (b : Bool) → same x y ≡ b → (b || list_any (same x) ys) ≡ true → (list_any (same x) ys ≡ true → list_any p ys ≡ true) → (p y || list_any p ys) ≡ true
    by_head true e is rest = rw (← tells x y e, has) refl
    by_head false e is rest = rw (rest is) (or-true (p y))

  any_entered : (xs : List A) (x : A) → list_any p (entered same xs x) ≡ (list_any p xs || p x)
  any_entered xs x = grind (arith, any_has, or-true, or-false, list_any-append)

  any_fold : (xs ys : List A) → list_any p (fold (entered same) xs ys) ≡ (list_any p xs || list_any p ys)
  any_fold xs [] = sym (or-false (list_any p xs))
  any_fold xs (y ∷ ys) = grind (arith, any_entered, any_fold (entered same xs y) ys)

  pub any_distinct : (ys : List A) → list_any p (distinct same ys) ≡ list_any p ys
  any_distinct ys = any_fold [] ys

any_map : (t : ℕ) (h : List Event) → list_any (same_number t) (map actor h) ≡ list_any (acts t) h
any_map t [] = refl
any_map t (e ∷ es) = ap (λ b. (t == actor e) || b) (any_map t es)

-- a transaction has a number exactly if it acts
pub numbered_acts : (t : ℕ) (h : List Event) → list_any (same_number t) (txns_of h) ≡ list_any (acts t) h
unfolding txns_of
numbered_acts t h = any_distinct same_number numbers_tell (same_number t) (map actor h) ∙ any_map t h

any_writes_in : (q : ℕ × ℕ) (e : Event) → list_any (same_pair q) (writes_in e) ≡ writes q e
any_writes_in q e = grind (arith, or-false)

any_writes : (q : ℕ × ℕ) (h : List Event) → list_any (same_pair q) (flat_map writes_in h) ≡ list_any (writes q) h
any_writes q [] = refl
any_writes q (e ∷ es) = list_any-append (same_pair q) (writes_in e) (flat_map writes_in es) ∙ ap₂ (λ a b. a || b) (any_writes_in q e) (any_writes q es)

-- a write has a number exactly if it stands in the history
pub numbered_writes : (q : ℕ × ℕ) (h : List Event) → list_any (same_pair q) (writes_of h) ≡ list_any (writes q) h
unfolding writes_of
numbered_writes q h = any_distinct same_pair pairs_tell (same_pair q) (flat_map writes_in h) ∙ any_writes q h

-- one event more
flat_push : {A : Type 0} (f : Event → List A) (h : List Event) (e : Event) → flat_map f (h ++ e ∷ []) ≡ flat_map f h ++ f e
flat_push f h e = flat_map-append f h (e ∷ []) ∙ ap (λ xs. flat_map f h ++ xs) (append-nil (f e))

abbrev all_four : List ℕ → List ℕ → List (ℕ × ℕ) → List (ℕ × ℕ × List (ℕ × ℕ)) → Names
all_four txns keys writes ranges = record { txns = txns; keys = keys; writes = writes; ranges = ranges }

pub four : {a a' b b' : List ℕ} {c c' : List (ℕ × ℕ)} {d d' : List (ℕ × ℕ × List (ℕ × ℕ))} → a ≡ a' → b ≡ b' → c ≡ c' → d ≡ d' → all_four a b c d ≡ all_four a' b' c' d'
four p q r s = λ i. all_four (p i) (q i) (r i) (s i)

pub names_push : (h : List Event) (e : Event) → names_of (h ++ e ∷ []) ≡ record { txns = entered same_number (txns_of h) (actor e); keys = fold (entered same_number) (keys_of h) (keys_in e); writes = fold (entered same_pair) (writes_of h) (writes_in e); ranges = ranges_of h ++ ranges_in e }
unfolding txns_of keys_of writes_of ranges_of
names_push h e = grind (arith, four, map-append, fold-append, flat_push)

-- names that stand once
pub once_push : (xs : List ℕ) (x : ℕ) → AreOnce xs → IsNew xs x → AreOnce (xs ++ x ∷ [])
once_push xs x once new = λ i j v at_i at_j. elim (push_cases xs x i v at_i) [
  | inl a ↦ elim (push_cases xs x j v at_j) [
    | inl b ↦ once i j v a b
    | inr b ↦ absurd (new i (rw (← b.1) a))
  ]
  | inr a ↦ elim (push_cases xs x j v at_j) [
    | inl b ↦ absurd (new j (rw (← a.1) b))
    | inr b ↦ a.0 ∙ sym b.0
  ]
]

pub new_none : (xs : List ℕ) (x : ℕ) → IsNew xs x → list_any (same_number x) xs ≡ false
new_none [] x new = refl
new_none (y ∷ ys) x new = by_head (x == y) refl (new_none ys x (λ n. new (suc n))) where
  by_head : (b : Bool) → (x == y) ≡ b → list_any (same_number x) ys ≡ false → ((x == y) || list_any (same_number x) ys) ≡ false
  by_head true e rest = absurd (new 0 (ap Some (sym (eqb-true x y e))))
  by_head false e rest = rw (e) rest

pub there_some : (xs : List ℕ) (n x : ℕ) → slice_get xs n ≡ Some x → list_any (same_number x) xs ≡ true
there_some [] n x at = absurd (let e : None ≡ Some x = at in cc)
there_some (y ∷ ys) zero x at = let e : y ≡ x = (let e : Some y ≡ Some x = at in cc) in rw (e, same_true x) refl
there_some (y ∷ ys) (suc n) x at = rw (there_some ys n x at) (or-true (x == y))

pub entered_new : (xs : List ℕ) (x : ℕ) → IsNew xs x → entered same_number xs x ≡ xs ++ x ∷ []
entered_new xs x new = rw (new_none xs x new) refl

pub entered_there : (xs : List ℕ) (n x : ℕ) → slice_get xs n ≡ Some x → entered same_number xs x ≡ xs
entered_there xs n x at = rw (there_some xs n x at) refl
