-- What is told of an option.
use Rattle.std.proofs.Common.{◌≡◌, ◌<◌, ◌≤◌, ℕ, true, false, Bool, Option, Some, None, refl, sym, arith}
use Rattle.std.specs.Prelude.{◌↔◌, IfSome, IsTrue, MatchOption}
use Rattle.std.specs.Bool.{then_some}
use Rattle.std.specs.Option.{is_some}
use Rattle.std.proofs.lemmas.Bool.{false≢true}

-- what an option tells, said otherwise
pub some_of : {A : Type 0} (P : Type 0) (Q S : A → Type 0) (o : Option A) → ((a : A) → Q a → S a) → MatchOption o P Q → IfSome o S
some_of P Q S None g m = tt
some_of P Q S (Some a) g m = g a m

-- what is told of an option that is there, and of one that isn't
pub if_there : {A : Type 0} (P : Type 0) (o : Option A) → is_some o ≡ true → IfSome o (λ a. P) → P
if_there P None is some = absurd (false≢true is)
if_there P (Some a) is some = some

pub if_not_there : {A : Type 0} (P : Type 0) (Q : A → Type 0) (o : Option A) → is_some o ≡ false → MatchOption o P Q → P
if_not_there P Q None is m = m
if_not_there P Q (Some a) is m = absurd (false≢true (sym is))

-- what is chosen where one number is below another
pub then_some_below : {A : Type 0} (P : Type 0) (Q : A → Type 0) (x : A) (i j : ℕ) → (j ≤ i → P) → (i < j → Q x) → (test : Bool) → (IsTrue test ↔ (i < j)) → MatchOption (then_some test x) P Q
then_some_below P Q x i j most less true is = less (is.0 refl)
then_some_below P Q x i j most less false is = most (grind (arith, is.1))
