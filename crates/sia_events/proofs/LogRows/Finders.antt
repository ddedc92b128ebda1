-- A finder that finds names goes on finding them where one more is taken in.
use Rattle.std.proofs.Common.{Bor, ◌≡◌, ◌≢◌, ◌⊎◌, inl, inr, ℕ, ◌+◌, ◌-◌, ◌<◌, ◌≤◌, ltb, nat_lt, Bool, true, false, List, get_or, [], ◌∷◌, ◌++◌, length, set, Option, Some, None, refl, sym, subst, ◌∙◌, arith, slice_get, ap}
use Rattle.std.specs.Prelude.{◌==◌, IfSome, is_some}
use Rattle.std.specs.Option.{option_copied, option_eq}
use Rattle.std.specs.BTreeMap.{is_at, get}
use Rattle.std.specs.Ordering.{nat_cmp}
use Rattle.std.proofs.lemmas.Bool.Decides.{nat_tests}
use Rattle.std.proofs.lemmas.Bool.{eqb-true, ltb-false, ltb-true}
use Rattle.std.proofs.lemmas.Option.{slice_get_past, slice_get_read, slice_get_within}
use Rattle.sia_events.specs.declared.finder.Finder.{Finder}
use Rattle.sia_events.specs.Finding.{home, AreTaken, IsOther, Reaches, Finds, FindsBelow}
use Rattle.sia_events.proofs.LogRows.RowsRead.{set_here, get_more, get_less, set_cases, set_apart}

moved : (old now slots : List ℕ) (here there e : ℕ) → slots ≡ now → there ≡ here → slice_get slots (there + e) ≡ Some 0 → slice_get now (here + e) ≡ Some 0
moved old now slots here there e is at free = rw (← is, ← at) free

-- a free slot is filled
pub record IsFilled (f g : Finder) (s n : ℕ) : Type 0 where
  pub factor : g.factor ≡ f.factor
  pub mask : g.mask ≡ f.mask
  pub tree : g.tree ≡ f.tree
  pub slots : g.slots.items ≡ set f.slots.items s (n + 1)
  pub free : slice_get f.slots.items s ≡ Some 0

module _ (f g : Finder) (s n : ℕ) (p : IsFilled f g s n) where
  same_home : (name : ℕ) → home g name ≡ home f name
  unfolding home
  same_home name = rw (p.factor, p.mask) refl

  still_taken : (name d : ℕ) → AreTaken f.slots.items (home f name) d → AreTaken g.slots.items (home g name) d
  still_taken name d taken = grind (arith, set_cases, moved, same_home)

  pub filled_keeps : (names : List ℕ) (name : ℕ) → Reaches f names name → Reaches g names name
  unfolding Reaches
  filled_keeps names name (inl (d, m, less, at, named, taken)) = inl (d, m, less, rw (same_home name, p.slots) (set_apart f.slots.items s (home f name + d) (n + 1) (m + 1) (λ e. let zero_there : Some (m + 1) ≡ Some 0 = sym at ∙ ap (slice_get f.slots.items) e ∙ p.free in absurd (let z : m + 1 ≡ 0 = cc in omega arith)) at), named, still_taken name d taken)
  filled_keeps names name (inr (m, at, named, taken)) = inr (m, rw (p.tree) at, named, still_taken name 8 taken)

  pub filled_finds : (names : List ℕ) (name d : ℕ) → s ≡ home f name + d → d < 8 → AreTaken f.slots.items (home f name) d → slice_get names n ≡ Some name → Reaches g names name
  unfolding Reaches
  filled_finds names name d here less taken named = inl (d, n, less, rw (same_home name, ← here, p.slots) (set_here f.slots.items s (n + 1) 0 p.free), named, still_taken name d taken)

-- the tree gets one more
pub record IsGrown (f g : Finder) (name n : ℕ) : Type 0 where
  pub factor : g.factor ≡ f.factor
  pub mask : g.mask ≡ f.mask
  pub slots : g.slots.items ≡ f.slots.items
  pub here : get nat_cmp g.tree name ≡ Some n
  pub others : (q : ℕ) → is_at (nat_cmp name) q ≡ false → get nat_cmp g.tree q ≡ get nat_cmp f.tree q
  pub taken : AreTaken f.slots.items (home f name) 8

other_in_tree : (u t : ℕ) → (t == u) ≡ false → is_at (nat_cmp u) t ≡ false
other_in_tree u t other = grind (arith, nat_tests)

module _ (f g : Finder) (name n : ℕ) (p : IsGrown f g name n) where
  same_home_grown : (x : ℕ) → home g x ≡ home f x
  unfolding home
  same_home_grown x = rw (p.factor, p.mask) refl

  taken_grown : (x d : ℕ) → AreTaken f.slots.items (home f x) d → AreTaken g.slots.items (home g x) d
  taken_grown x d taken = λ e less free. taken e less (moved f.slots.items f.slots.items g.slots.items (home f x) (home g x) e p.slots (same_home_grown x) free)

  pub grown_finds : (names : List ℕ) → slice_get names n ≡ Some name → Reaches g names name
  unfolding Reaches
  grown_finds names named = inr (n, p.here, named, taken_grown name 8 p.taken)

  pub grown_keeps : (names : List ℕ) (x : ℕ) → slice_get names n ≡ Some name → Reaches f names x → Reaches g names x
  unfolding Reaches
  grown_keeps names x named h = grind (arith, same_home_grown, taken_grown, eqb-true, other_in_tree)

-- more names leave those before as they are
reaches_more : (f : Finder) (names more : List ℕ) (x : ℕ) → Reaches f names x → Reaches f (names ++ more) x
unfolding Reaches
reaches_more f names more x h = grind (arith, get_more)

pub below_last : (f : Finder) (names before : List ℕ) (last end : ℕ) → names ≡ before ++ last ∷ [] → end ≡ length before → Finds f before → FindsBelow f names end
unfolding Finds FindsBelow
below_last f names before last end is at finds = rw (is) (λ n x less here. reaches_more f before (last ∷ []) x (finds n x (get_less before (last ∷ []) n x (rw (← at) less) here)))

pub below_append : (f : Finder) (names more : List ℕ) (end : ℕ) → end ≤ length names → FindsBelow f names end → FindsBelow f (names ++ more) end
unfolding FindsBelow
below_append f names more end within below = λ n x less here. reaches_more f names more x (below n x less (get_less names more n x (omega arith) here))

pub finds_below : (f : Finder) (names : List ℕ) (end : ℕ) → Finds f names → FindsBelow f names end
unfolding Finds FindsBelow
finds_below f names end finds = λ n x less here. finds n x here

pub below_none : (f : Finder) (names : List ℕ) → FindsBelow f names 0
unfolding FindsBelow
below_none f names = λ n x less here. absurd (omega arith)

pub below_all : (f : Finder) (names : List ℕ) (end : ℕ) → length names ≤ end → FindsBelow f names end → Finds f names
unfolding Finds FindsBelow
below_all f names end all finds = λ n x here. let less = slice_get_within names n x here in finds n x (omega arith) here

pub below_more : (f g : Finder) (names : List ℕ) (n x : ℕ) → slice_get names n ≡ Some x → ((y : ℕ) → Reaches f names y → Reaches g names y) → Reaches g names x → FindsBelow f names n → FindsBelow g names (n + 1)
unfolding FindsBelow
below_more f g names n x named keeps taken finds = grind (arith, eqb-true)

-- all names are those below their number
pub from_below : (f : Finder) (names : List ℕ) (name : ℕ) → (FindsBelow f names (length names) → (n : ℕ) → n < length names → slice_get names n ≢ Some name) → Finds f names → (n : ℕ) → slice_get names n ≢ Some name
unfolding Finds FindsBelow
from_below f names name none finds n here = none (λ m x less at. finds m x at) n (slice_get_within names n name here) here

pub nothing_found : (f : Finder) → Finds f []
unfolding Finds
nothing_found f = λ n x here. absurd cc

-- the slots and the tree have been looked at
pub not_found : (f : Finder) (names : List ℕ) (name from step end : ℕ) → from ≡ home f name → 8 ≤ step → ((e : ℕ) → e < step → IsOther f.slots.items names (from + e) name) → ((n : ℕ) → get nat_cmp f.tree name ≡ Some n → slice_get names n ≢ Some name) → FindsBelow f names end → (n : ℕ) → n < end → slice_get names n ≢ Some name
unfolding FindsBelow Reaches
not_found f names name from step end is all others none finds n within here = elim (finds n name within here) [
  | inl (d, m, less, at, named, taken) ↦ (others d (omega arith)).1 m (rw (is) at) named
  | inr (m, at, named, taken) ↦ none m at named
]

-- what is copied from a list
pub copied_is : {X : Type 0} (xs : List X) (i : ℕ) (got : Option (Bor X)) → is_some got ≡ ltb i (length xs) → IfSome got (λ x. x.now ≡ get_or xs i x.now) → option_copied got ≡ slice_get xs i
copied_is xs i None none at = sym (slice_get_past xs i (ltb-false i (length xs) (sym none)))
copied_is xs i (Some x) some at = sym (slice_get_read xs (length xs) i x.now refl (ltb-true i (length xs) (sym some)) at)

pub equal_some : (o : Option ℕ) (n : ℕ) → true ≡ option_eq (λ x y. x == y) o (Some n) → o ≡ Some n
equal_some None n e = absurd cc
equal_some (Some m) n e = ap Some (eqb-true m n (sym e))

-- a slot that isn't free, and whose row hasn't the name
pub other_slot : (slots names : List ℕ) (at name : ℕ) (found : Option ℕ) (slot : ℕ) → found ≡ slice_get slots at → found ≡ Some slot → slot ≢ 0 → slice_get names (slot - 1) ≢ Some name → IsOther slots names at name
other_slot slots names at name found slot is there taken other = (
  (λ free. let same : Some slot ≡ Some 0 = sym there ∙ is ∙ free in taken cc),
  λ n here named.
      let same : Some slot ≡ Some (n + 1) = sym there ∙ is ∙ here in
      let e : slot ≡ n + 1 = cc in
      let less : n ≡ slot - 1 = omega arith in
      other (subst (λ m. slice_get names m ≡ Some name) less named),
)

pub no_slot : (slots names : List ℕ) (at name : ℕ) (found : Option ℕ) → found ≡ slice_get slots at → found ≡ None → IsOther slots names at name
no_slot slots names at name found is none = ((λ free. let same : None ≡ Some 0 = sym none ∙ is ∙ free in absurd cc), λ n here named. let same : None ≡ Some (n + 1) = sym none ∙ is ∙ here in absurd cc)

pub one_more_other : (slots names : List ℕ) (from name step : ℕ) → ((e : ℕ) → e < step → IsOther slots names (from + e) name) → IsOther slots names (from + step) name → (e : ℕ) → e < step + 1 → IsOther slots names (from + e) name
one_more_other slots names from name step others one e less = by_step (e == step) refl where
  by_step : (b : Bool) → (e == step) ≡ b → IsOther slots names (from + e) name
  by_step true same = let is : e ≡ step = eqb-true e step same in subst (λ i. IsOther slots names (from + i) name) (sym is) one
  by_step false other = let ne : e ≢ step = grind (arith, nat_tests) in others e (omega arith)

-- a slot is free before one that has it
pub free_first : (f : Finder) (names : List ℕ) (name from step end : ℕ) → from ≡ home f name → step < 8 → ((e : ℕ) → e < step → IsOther f.slots.items names (from + e) name) → slice_get f.slots.items (from + step) ≡ Some 0 → FindsBelow f names end → (n : ℕ) → n < end → slice_get names n ≢ Some name
unfolding FindsBelow Reaches
free_first f names name from step end is within others free finds n below here = elim (finds n name below here) [
  | inl (d, m, less, at, named, taken) ↦ by_step d m (rw (is) at) named (λ e below. rw (is) (taken e below)) (nat_lt step d) (nat_lt d step) refl refl
  | inr (m, at, named, taken) ↦ taken step within (rw (← is) free)
]
  where
    by_step : (d m : ℕ) → slice_get f.slots.items (from + d) ≡ Some (m + 1) → slice_get names m ≡ Some name → AreTaken f.slots.items from d → (before behind : Bool) → nat_lt step d ≡ before → nat_lt d step ≡ behind → ⊥
    by_step d m at is taken true behind e o = let less : step < d = grind (arith, nat_tests) in taken step less free
    by_step d m at is taken false true e o = let less : d < step = grind (arith, nat_tests) in (others d less).1 m at is
    by_step d m at is taken false false e o = let same : d ≡ step = grind (arith, nat_tests) in let here : slice_get f.slots.items (from + step) ≡ Some (m + 1) = rw (← same) at in let no : m + 1 ≡ 0 = cc in omega arith

-- what a search of the tree says of a number there
pub of_tree : (names : List ℕ) (name number : ℕ) (found : Option ℕ) → Some number ≡ found → slice_get names number ≢ Some name → (n : ℕ) → found ≡ Some n → slice_get names n ≢ Some name
of_tree names name number found is other n at = let e : number ≡ n = (let j : Some number ≡ Some n = is ∙ at in cc) in subst (λ m. slice_get names m ≢ Some name) e other

pub none_in_tree : (names : List ℕ) (name : ℕ) (found : Option ℕ) → None ≡ found → (n : ℕ) → found ≡ Some n → slice_get names n ≢ Some name
none_in_tree names name found is n at = let j : None ≡ Some n = is ∙ at in absurd cc
