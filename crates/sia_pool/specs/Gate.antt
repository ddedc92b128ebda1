-- The condition of the gate.
use Rattle.std.specs.Prelude.{◌≡◌, ℕ, List, [], ◌∷◌, ◌++◌}

-- this part is the last of the share
abbrev pub EndsWith : List ℕ → ℕ → Type 0
EndsWith share part = (front : List ℕ) × (share ≡ front ++ part ∷ [])
