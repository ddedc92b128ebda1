-- What is left of a report behind a piece.
use Rattle.std.proofs.Common.{◌≡◌, ◌<◌, ℕ, List, [], ◌∷◌, ◌++◌, length, refl, sym, ◌∙◌, append_assoc, arith}
use Rattle.si_audit.specs.Left.{first_of}

first_some : (shown others : List ℕ) → 0 < length shown → first_of shown others ≡ shown
first_some [] others some = absurd (omega arith)
first_some (byte ∷ bytes) others some = refl

pub no_bytes : (xs : List ℕ) → length xs ≡ 0 → xs ≡ []
no_bytes [] none = refl
no_bytes (byte ∷ bytes) none = absurd (omega arith)

first_piece : (p r s b : List ℕ) → p ++ r ++ s ++ b ≡ p ++ (r ++ s ++ b)
first_piece p r s b = simp append_assoc

-- what stands before the lines
pub front_shown : (bytes front edges pivots back shown none others : List ℕ) → bytes ≡ front ++ edges ++ pivots ++ back → shown ≡ front → none ≡ [] → 0 < length shown
    → bytes ≡ first_of shown others ++ (none ++ edges ++ pivots ++ back)
front_shown bytes front edges pivots back shown none others all same gone some =
    all ∙ first_piece front edges pivots back ∙ (λ i. (sym same ∙ sym (first_some shown others some)) i ++ (sym gone i ++ edges ++ pivots ++ back))

-- a piece of the lines of edges, before which nothing is left
pub edges_shown : (bytes front edges pivots back shown none on rest : List ℕ) → bytes ≡ front ++ edges ++ pivots ++ back → shown ≡ front → none ≡ [] → shown ≡ [] → edges ≡ on ++ rest
    → bytes ≡ first_of shown on ++ (none ++ rest ++ pivots ++ back)
edges_shown bytes front edges pivots back shown none on rest all same gone empty parted =
    all ∙ (λ i. (sym same ∙ empty) i ++ parted i ++ pivots ++ back) ∙ rw (append_assoc on rest pivots) (append_assoc on (rest ++ pivots) back)
    ∙ (λ i. first_of (sym empty i) on ++ (sym gone i ++ rest ++ pivots ++ back))

-- and one of the lines of pivots
pub pivots_shown : (bytes front edges pivots back shown none past on rest : List ℕ) → bytes ≡ front ++ edges ++ pivots ++ back → shown ≡ front → none ≡ [] → shown ≡ [] → edges ≡ [] → past ≡ [] → pivots ≡ on ++ rest
    → bytes ≡ first_of shown on ++ (none ++ past ++ rest ++ back)
pivots_shown bytes front edges pivots back shown none past on rest all same gone empty over after parted =
    all ∙ (λ i. (sym same ∙ empty) i ++ over i ++ parted i ++ back) ∙ append_assoc on rest back
    ∙ (λ i. first_of (sym empty i) on ++ (sym gone i ++ sym after i ++ rest ++ back))
