-- What holds of the answer, where there is one, and of what is owed.
use Rattle.std.proofs.Common.{◌≡◌, ℕ, suc, ◌<◌, List, [], ◌∷◌, length, slice_index_or, arith, IfSome, Result, Ok, IfOk, MatchResult, IsErrAnd}
use Rattle.std.specs.List.{AllZip, slice_get}

-- as many answers as parts, each owed to the part at its place
pub each_owed : {A B : Type 0} (R : A → B → Type 0) (parts : List A) (outs : List B) → length outs ≡ length parts
    → ((k : ℕ) (d : B) → k < length parts → IfSome (slice_get parts k) (λ part. R part (slice_index_or outs k d))) → AllZip R parts outs
each_owed R [] [] len owed = tt
each_owed R (x ∷ parts) (y ∷ outs) len owed = (
  owed 0 y (omega arith),
  each_owed R parts outs (omega arith) (λ k d below. owed (suc k) d (omega arith)),
)
each_owed R parts outs len owed = absurd (omega arith)

-- a fact of the answer from another
pub ok_map : {A E : Type 0} (P Q : A → Type 0) (r : Result A E) → ((x : A) → P x → Q x) → IfOk r P → IfOk r Q
ok_map P Q r f p = grind arith

-- and a fact of the answer where only an error is another
pub other_error : {A D E : Type 0} (P : A → Type 0) (Q : E → D → Type 0) (r : Result A E) (s : Result A D) → MatchResult r (λ x. s ≡ Ok x) (λ e. IsErrAnd s (Q e)) → IfOk r P → IfOk s P
other_error P Q r s is p = grind arith
