-- A text that is written from left to right, one more part at its end.
use Rattle.std.proofs.Common.{◌≡◌, ◌≢◌, ℕ, ◌<◌, List, [], ◌∷◌, ◌++◌, map, length, refl, ap, sym, ◌∙◌, append-nil, append_assoc, arith}
use Rattle.std.specs.List.{join_with_byte}
use Rattle.std.specs.Prelude.{OnOk, Result, if◌then◌else◌, is_ok}
use Rattle.sia_events.specs.declared.event.Event.{Event}
use Rattle.sia_events.specs.Text.{spell_pair, spell_list, spell, canonical}

-- one more at the end, after the byte
pub join_push : (c : ℕ) (x : List ℕ) (xs : List (List ℕ)) (y : List ℕ) → join_with_byte c (x ∷ (xs ++ y ∷ [])) ≡ join_with_byte c (x ∷ xs) ++ (c ∷ y)
join_push c x [] y = refl
join_push c x (z ∷ xs) y = ap (λ (bs : List ℕ). x ++ (c ∷ bs)) (join_push c z xs y) ∙ sym (append_assoc x (c ∷ join_with_byte c (z ∷ xs)) (c ∷ y))

map_last : {A : Type 0} (f : A → List ℕ) (xs : List A) (y : A) → map f (xs ++ y ∷ []) ≡ map f xs ++ f y ∷ []
map_last f [] y = refl
map_last f (x ∷ xs) y = ap (λ (ys : List (List ℕ)). f x ∷ ys) (map_last f xs y)

pub list_push : (q : ℕ × ℕ) (ps : List (ℕ × ℕ)) (p : ℕ × ℕ) → spell_list (q ∷ (ps ++ p ∷ [])) ≡ spell_list (q ∷ ps) ++ (44 ∷ spell_pair p)
list_push q ps p = ap (λ (xs : List (List ℕ)). 59 ∷ join_with_byte 44 (spell_pair q ∷ xs)) (map_last spell_pair ps p) ∙ ap (λ (bs : List ℕ). 59 ∷ bs) (join_push 44 (spell_pair q) (map spell_pair ps) (spell_pair p))

pub canonical_push : (f : Event) (es : List Event) (e : Event) → canonical (f ∷ (es ++ e ∷ [])) ≡ canonical (f ∷ es) ++ (32 ∷ spell e)
canonical_push f es e = ap (λ (xs : List (List ℕ)). join_with_byte 32 (spell f ∷ xs)) (map_last spell es e) ∙ join_push 32 (spell f) (map spell es) (spell e)

-- the next listed key, after the byte that comes before it
pub list_step : (front : List (ℕ × ℕ)) (p : ℕ × ℕ) (b : ℕ) → (length front ≡ 0 → b ≡ 59) → (length front ≢ 0 → b ≡ 44) → spell_list (front ++ p ∷ []) ≡ spell_list front ++ (b ∷ spell_pair p)
list_step front p b first later = grind (arith, list_push)

-- a listed key as it is written, with nothing before and behind its version
pub pair_put : (o l m k c v : List ℕ) → (((((((o ++ l) ++ m) ++ k) ++ c) ++ []) ++ v) ++ []) ≡ o ++ (l ++ (m ++ ((k ++ c) ++ v)))
pair_put o l m k c v = simp (append_assoc, append-nil)

pub canonical_first : (es : List Event) (e : Event) → length es ≡ 0 → canonical (es ++ e ∷ []) ≡ canonical es ++ spell e
canonical_first [] e none = refl
canonical_first (f ∷ es) e none = absurd (omega arith)

pub canonical_later : (es : List Event) (e : Event) → 0 < length es → canonical (es ++ e ∷ []) ≡ (canonical es ++ 32 ∷ []) ++ spell e
canonical_later [] e some = absurd (omega arith)
canonical_later (f ∷ es) e some = canonical_push f es e ∙ sym (append_assoc (canonical (f ∷ es)) (32 ∷ []) (spell e))

-- what is there where the call succeeded
pub when_ok : {A E X : Type 0} (r : Result A E) (n a b : X) → n ≡ (if is_ok r then a else b) → OnOk r (n ≡ a)
when_ok r n a b e = grind (arith)
