-- The text of transactions in turn: that of the next one, and that of the later ones.
use Rattle.std.proofs.Common.{◌≡◌, ℕ, ◌+◌, ◌-◌, ◌*◌, ◌<◌, ◌≤◌, List, [], ◌∷◌, ◌++◌, refl, ap, sym, ◌∙◌, arith, append_assoc, take}
use Rattle.std.specs.List.{concat}
use Rattle.std.proofs.Math.Nat.{mul_comm}
use Rattle.std.proofs.lemmas.Nat.{mul-add-lt}
use Rattle.si_audit.specs.declared.sheet.Sheet.{Sheet}
use Rattle.si_audit.specs.Sheet.{text_on}
use Rattle.si_audit.specs.Giving.{IsTextOf}

module _ (Tells : ℕ → List ℕ → Type 0) where
  -- where some are left there is a next one
  pub next_told : (from to : ℕ) (text : List ℕ) → IsTextOf Tells from to text → from < to
      → (own : List ℕ) × (rest : List ℕ) × Tells from own × IsTextOf Tells (from + 1) to rest × (text ≡ own ++ rest)
  next_told from to text ([], are, long, is) less = absurd (omega arith)
  next_told from to text (own ∷ texts, are, long, is) less = (own, concat texts, are.0, (texts, are.1, omega arith, refl), is)

  -- where none is left there is no text
  none_told : (from to : ℕ) (text : List ℕ) → IsTextOf Tells from to text → to ≤ from → text ≡ []
  none_told from to text ([], are, long, is) past = is
  none_told from to text (own ∷ texts, are, long, is) past = absurd (omega arith)

  -- and where no row is left either, nothing is left
  pub over : (from to : ℕ) (mine rest left : List ℕ) → IsTextOf Tells from to rest → to ≤ from → left ≡ mine ++ rest → mine ≡ [] → left ≡ []
  over from to mine rest left is past at none = at ∙ (λ i. none i ++ none_told from to rest is past i)

-- a piece was put on the sheet
pub piece_put : (on piece mine more rest left text : List ℕ) → text ≡ on ++ left → left ≡ mine ++ rest → mine ≡ piece ++ more → text ≡ (on ++ piece) ++ (more ++ rest)
piece_put on piece mine more rest left text all at parted =
    all ∙ ap (λ (xs : List ℕ). on ++ xs) (at ∙ ap (λ (xs : List ℕ). xs ++ rest) parted ∙ append_assoc piece more rest) ∙ sym (append_assoc on piece (more ++ rest))

-- the next one was taken where nothing of the one before was left
pub next_taken : (mine own rest later left : List ℕ) → left ≡ mine ++ rest → mine ≡ [] → rest ≡ own ++ later → left ≡ own ++ later
next_taken mine own rest later left all none next = all ∙ ap (λ (xs : List ℕ). xs ++ rest) none ∙ next

-- so less is left
pub fewer_taken : (end next most few : ℕ) → next < end → few ≤ most → (end - (next + 1)) * (most + 1) + few < (end - next) * (most + 1)
fewer_taken end next most few more within =
    omega (arith, mul-add-lt (end - (next + 1)) (most + 1) few (end - next) (omega arith) (omega arith), mul_comm (end - next) (most + 1))

-- nothing stands on the sheet, and nothing is left
pub blank : (s : Sheet) (rest text : List ℕ) → text ≡ text_on s ++ rest → s.end ≡ 0 → rest ≡ [] → text ≡ []
blank s rest text all zero none = all ∙ (λ i. take (zero i) s.bytes.items ++ none i)
