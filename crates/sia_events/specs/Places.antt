-- Places in a list. This project counts the events of a history, and the tokens of a text, from 1.
use Rattle.std.specs.Prelude.{ℕ, zero, suc, List, Option, None, slice_get}

-- what stands at a place, counted from 1
abbrev pub at_place : {A : Type 0} → List A → ℕ → Option A
at_place xs zero = None
at_place xs (suc i) = slice_get xs i
