-- Answers, and the parts to which they are owed. `owes` is the job's relation.
use Rattle.std.specs.Prelude.{ℕ, ◌<◌, List, map, slice_index_or}
use Rattle.std.specs.List.{AllByRecursion}
use Rattle.std.specs.Global.{Vec}

-- the items of each of these vectors
abbrev pub lists_of : List (Vec ℕ) → List (List ℕ)
lists_of vs = map (λ v. v.items) vs

module _ {Out : Type 0} where
  -- the answer at each place below `count` is owed to the part of that number
  abbrev pub AnswersEach : (ℕ → Out → Type 0) → ℕ → List Out → Type 0
  AnswersEach owes count outs = (k : ℕ) (d : Out) → k < count → owes k (slice_index_or outs k d)

  -- the parts of a list of answers that stand beside their parts
  abbrev pub parts_of : List (ℕ × Out) → List ℕ
  parts_of answers = map (λ a. a.0) answers

  -- each of these answers is owed to the part beside it
  abbrev pub Owed : (ℕ → Out → Type 0) → List (ℕ × Out) → Type 0
  Owed owes answers = AllByRecursion (λ a. owes a.0 a.1) answers
