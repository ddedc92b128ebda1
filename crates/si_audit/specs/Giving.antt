-- What is yet to be given of the text of transactions, one after another.
use Rattle.std.specs.Prelude.{◌≡◌, ◌≤◌, ◌+◌, ◌-◌, ◌*◌, ◌++◌, ℕ, List, [], ◌∷◌, Option, None, Some, length, vec_capacity, ⊤}
use Rattle.std.specs.List.{concat}
use Rattle.si_audit.specs.declared.giving.Giving.{Giving}
use Rattle.si_audit.specs.declared.giving.Stretch.{Stretch}

-- the texts of the numbers from this one on
abbrev pub AreTexts : (ℕ → List ℕ → Type 0) → ℕ → List (List ℕ) → Type 0
AreTexts Tells from [] = ⊤
AreTexts Tells from (text ∷ texts) = Tells from text × AreTexts Tells (from + 1) texts

-- the text of all numbers from one to before another
abbrev pub IsTextOf : (ℕ → List ℕ → Type 0) → ℕ → ℕ → List ℕ → Type 0
IsTextOf Tells from to text = (texts : List (List ℕ)) × AreTexts Tells from texts × (from + length texts ≡ to) × (text ≡ concat texts)

-- there is room for the rows of a transaction, and the stretch is of so many transactions
pub record CanFill {R : Type 0} (count most : ℕ) (s : Stretch R) : Type 0 where
  pub room : most ≤ vec_capacity s.rows
  pub few : length s.rows.items ≤ vec_capacity s.rows
  pub row : s.row ≤ length s.rows.items
  pub next : s.next ≤ s.end
  pub end : s.end ≤ count

-- the text is what the rows tell, and what is told of the transactions from the next one on
abbrev pub IsLeft : {R : Type 0} → (ℕ → List ℕ → Type 0) → (ℕ → List R → ℕ → List ℕ) → Stretch R → List ℕ → Type 0
IsLeft Tells text_of s text = (rest : List ℕ) × IsTextOf Tells s.next s.end rest × (text ≡ text_of (s.next - 1) s.rows.items s.row ++ rest)

-- how many rows and transactions are left at most
abbrev pub rows_left : {R : Type 0} → Stretch R → ℕ
rows_left s = (s.end - s.next) * (vec_capacity s.rows + 1) + (length s.rows.items - s.row)

-- what is told can be given, if it is told
abbrev pub CanGive : {T R : Type 0} → (T → Type 0) → (T → ℕ) → (T → ℕ) → Option (Giving T R) → Type 0
CanGive IsReady count most None = ⊤
CanGive IsReady count most (Some g) = IsReady g.told × CanFill (count g.told) (most g.told) g.stretch

-- this text is left of it, none where it isn't told
abbrev pub IsLeftOf : {T R : Type 0} → (T → ℕ → List ℕ → Type 0) → (T → ℕ → List R → ℕ → List ℕ) → Option (Giving T R) → List ℕ → Type 0
IsLeftOf tells text_of None text = text ≡ []
IsLeftOf tells text_of (Some g) text = IsLeft (tells g.told) (text_of g.told) g.stretch text

abbrev pub left_of : {T R : Type 0} → Option (Giving T R) → ℕ
left_of None = 0
left_of (Some g) = rows_left g.stretch
