-- What precedes what precedes a third precedes it.
use Rattle.std.proofs.Common.{inl, inr, ℕ, List, [], ◌∷◌, ◌∙◌, arith}
use Rattle.sia_events.specs.Lists.{Precedes}

pub precedes_trans : (xs ys zs : List ℕ) → Precedes xs ys → Precedes ys zs → Precedes xs zs
precedes_trans [] [] zs p q = absurd p
precedes_trans [] (y ∷ ys) [] p q = absurd q
precedes_trans [] (y ∷ ys) (z ∷ zs) p q = tt
precedes_trans (x ∷ xs) [] zs p q = absurd p
precedes_trans (x ∷ xs) (y ∷ ys) [] p q = absurd q
precedes_trans (x ∷ xs) (y ∷ ys) (z ∷ zs) (inl a) (inl b) = inl (omega arith)
precedes_trans (x ∷ xs) (y ∷ ys) (z ∷ zs) (inl a) (inr b) = let e = b.0 in inl (omega arith)
precedes_trans (x ∷ xs) (y ∷ ys) (z ∷ zs) (inr a) (inl b) = let e = a.0 in inl (omega arith)
precedes_trans (x ∷ xs) (y ∷ ys) (z ∷ zs) (inr a) (inr b) = inr (a.0 ∙ b.0, precedes_trans xs ys zs a.1 b.1)
