-- A loop that appends what each element spells.
use Rattle.std.proofs.Common.{◌≡◌, ℕ, ◌+◌, ◌<◌, ◌++◌, List, length, get_or, take, flat_map, arith}
use Rattle.std.proofs.lemmas.List.{flat_map_more, take_more}

pub spelled_more : {X : Type 0} (f : X → List ℕ) (front out next : List ℕ) (xs : List X) (i : ℕ) (d : X) → i < length xs → out ≡ front ++ flat_map f (take i xs) → next ≡ out ++ f (get_or xs i d) → next ≡ front ++ flat_map f (take (i + 1) xs)
spelled_more f front out next xs i d within so_far more = grind (arith, flat_map_more, flat_map, take_more)
