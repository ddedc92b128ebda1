-- What is told of the things of a list, one after another, and that it is one.
use Rattle.std.proofs.Common.{◌≡◌, ℕ, List, [], ◌∷◌, ◌++◌, refl, sym, ◌∙◌, Contains, Bor, Option, Some, None, ◌+◌, ◌<◌, length, take, flat_map, get_or, ap, ap₂, subst, append_assoc, append-nil, arith}
use Rattle.sia_parts.proofs.Auditing.Members.{contains_first, contains_later}
use Rattle.si_audit.specs.Explained.{TellsAll, WithReasons, TellsIf}
use Rattle.std.proofs.lemmas.List.{take_more}
use Rattle.sia_events.specs.declared.event.Event.{Event}
use Rattle.sia_parts.specs.declared.reasons.Recorded.{Recorded}

-- two answers of one relation to one question are one
abbrev pub IsOne : (List ℕ → Type 0) → Type 0
IsOne Tells = (a b : List ℕ) → Tells a → Tells b → a ≡ b

-- if what is told of each is one, so is what is told of all
pub one_all : {A : Type 0} (Tells : A → List ℕ → Type 0) → ((x : A) → IsOne (Tells x)) → (xs : List A) → IsOne (TellsAll Tells xs)
one_all Tells one [] a b x y = x ∙ sym y
one_all Tells one (z ∷ zs) a b x y = x.4 ∙ (λ i. one z x.0 y.0 x.2 y.2 i ++ one_all Tells one zs x.1 y.1 x.3 y.3 i) ∙ sym y.4

-- there is an answer
abbrev pub Told : (List ℕ → Type 0) → Type 0
Told Tells = (bytes : List ℕ) × Tells bytes

-- if there is one of each, so there is one of all
pub all_told : {A : Type 0} (Tells : A → List ℕ → Type 0) (xs : List A) → ((x : A) → Contains xs x → Told (Tells x)) → Told (TellsAll Tells xs)
all_told Tells [] each = ([], refl)
all_told Tells (x ∷ xs) each =
    let one = each x (contains_first x xs) in
    let rest = all_told Tells xs (λ y c. each y (contains_later x y xs c)) in
    (one.0 ++ rest.0, (one.0, rest.0, one.1, rest.1, refl))

-- the bytes behind some are told of what has P
abbrev pub IsToldBehind : (List ℕ → Type 0) → List ℕ → List ℕ → Type 0
IsToldBehind Tells before all = (bytes : List ℕ) × Tells bytes × (all ≡ before ++ bytes)

-- one more
told_more : {A : Type 0} (Tells : A → List ℕ → Type 0) (xs : List A) (x : A) (a b : List ℕ) → TellsAll Tells xs a → Tells x b → TellsAll Tells (xs ++ x ∷ []) (a ++ b)
told_more Tells [] x a b none one = (b, [], one, refl, ap (λ (c : List ℕ). c ++ b) none ∙ sym (append-nil b))
told_more Tells (y ∷ ys) x a b some one =
    (some.0, some.1 ++ b, some.2, told_more Tells ys x some.1 b some.3 one, ap (λ (c : List ℕ). c ++ b) some.4 ∙ append_assoc some.0 some.1 b)

-- what is told of nothing
pub told_none : {A : Type 0} (Tells : A → List ℕ → Type 0) (o : List ℕ) → IsToldBehind (TellsAll Tells []) o o
told_none Tells o = ([], refl, sym (append-nil o))

-- the next thing of a list is told
pub next_told : {A : Type 0} (Tells : A → List ℕ → Type 0) (xs : List A) (i : ℕ) (d : A) (o m n : List ℕ) → i < length xs
    → IsToldBehind (TellsAll Tells (take i xs)) o m → IsToldBehind (Tells (get_or xs i d)) m n → IsToldBehind (TellsAll Tells (take (i + 1) xs)) o n
next_told Tells xs i d o m n inside before one = grind (arith, take_more, told_more, append_assoc)

-- the same of an element of a type that may own memory
pub next_item_told : {A : Type 0} (Tells : A → List ℕ → Type 0) (xs : List A) (i : ℕ) (x : A) (o m n : List ℕ) → i < length xs → x ≡ get_or xs i x
    → IsToldBehind (TellsAll Tells (take i xs)) o m → IsToldBehind (Tells x) m n → IsToldBehind (TellsAll Tells (take (i + 1) xs)) o n
next_item_told Tells xs i x o m n inside is before one = next_told Tells xs i x o m n inside before (subst (λ y. IsToldBehind (Tells y) m n) is one)

-- a line, and what is told below it
pub with_reasons : {A : Type 0} (line_of : A → List ℕ) (Tells : A → List ℕ → Type 0) (x : A) (o m n : List ℕ) → m ≡ o ++ line_of x → IsToldBehind (Tells x) m n → IsToldBehind (WithReasons line_of Tells x) o n
with_reasons line_of Tells x o m n line below = grind (arith, append_assoc)

-- below a line, where reasons are wanted
pub told_if_some : {A : Type 0} (o : Option (Bor Recorded)) (of : Bor Recorded) (Tells : List Event → A → List ℕ → Type 0) (x : A) (m n : List ℕ) → o ≡ Some of → IsToldBehind (Tells of.now.history.now x) m n → IsToldBehind (TellsIf o Tells x) m n
told_if_some o of Tells x m n is told = subst (λ (p : Option (Bor Recorded)). IsToldBehind (TellsIf p Tells x) m n) (sym is) told

-- and where none are
pub told_if_none : {A : Type 0} (o : Option (Bor Recorded)) (Tells : List Event → A → List ℕ → Type 0) (x : A) (m : List ℕ) → o ≡ None → IsToldBehind (TellsIf o Tells x) m m
told_if_none o Tells x m is = subst (λ (p : Option (Bor Recorded)). IsToldBehind (TellsIf p Tells x) m m) (sym is) ([], refl, sym (append-nil m))

-- what is told of things without reasons is their lines
pub lines_alone : {A : Type 0} (line_of : A → List ℕ) (xs : List A) (bytes : List ℕ) → TellsAll (WithReasons line_of (λ x below. below ≡ [])) xs bytes → bytes ≡ flat_map line_of xs
lines_alone line_of [] bytes none = none
lines_alone line_of (x ∷ xs) bytes (one, rest, told, more, is) =
    is ∙ ap₂ (λ (a b : List ℕ). a ++ b) (told.2 ∙ ap (λ (r : List ℕ). line_of x ++ r) told.1 ∙ append-nil (line_of x)) (lines_alone line_of xs rest more)
