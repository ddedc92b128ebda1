-- The places of rows, dealt by a number and then counted from 1.
use Rattle.std.proofs.Common.{◌≡◌, inl, inr, ℕ, ◌+◌, ◌<◌, ◌≤◌, List, length, map, drop, take, get_or, set, ◌-◌, ◌++◌, ap, subst, sym, ◌∙◌, arith}
use Rattle.std.specs.Prelude.{All, Contains, slice_index}
use Rattle.std.specs.List.{range_with_len}
use Rattle.std.proofs.lemmas.Bool.{cases_eq}
use Rattle.std.proofs.lemmas.List.{append-nil, drop_all, get_or-map, get_or-set_other, length-set, take_all}
use Rattle.std.proofs.lemmas.Grind.{get_or_default_zero, get_or-set_at}
use Rattle.std.proofs.Math.Nat.{le_refl}
use Rattle.std.proofs.lemmas.List.FromFn.{get_or-range_with_len, length-range_with_len}
use Rattle.std.proofs.lemmas.List.Elements.{All-weaker}
use Rattle.sia_index.specs.Lists.{joined, places_by}
use Rattle.sia_index.proofs.VersionRows.StableDeal.{dealt_have, dealt_within}

module _ {A : Type 0} (by : A → ℕ) (count : ℕ) (rows : List A) where
  abbrev by_place : ℕ → ℕ
  by_place = slice_index (map by rows)

  abbrev all_places : List ℕ
  all_places = range_with_len 0 (length rows)

  -- no place of a number below the count is lost, and none is beyond the rows
  pub places_have : (i : ℕ) (row : A) → i < length rows → by (get_or rows i row) < count → Contains (joined (places_by by count rows)) i
  places_have i row below less =
      let long = length-range_with_len 0 (length rows) in
      let at = get_or-range_with_len 0 (length rows) i i below in
      dealt_have by_place all_places count i (i, omega arith, omega arith) (subst (λ n. n < count) (sym (get_or-map by rows i row 0 below)) less)

  pub places_within : All (λ i. i < length rows) (joined (places_by by count rows))
  places_within = All-weaker (Contains all_places) (λ i. i < length rows) (λ i c.
      let long = length-range_with_len 0 (length rows) in
      let at = c.2 in
      let is = get_or-range_with_len 0 (length rows) c.0 i (omega arith) in
      omega arith) (joined (places_by by count rows)) (dealt_within by_place all_places count)

-- the first n of the places are counted from 1, and the others still from 0
pub record CountsTo (n : ℕ) (old new : List ℕ) : Type 0 where
  pub long : length new ≡ length old
  pub ahead : (i : ℕ) → i < n → i < length old → slice_index new i ≡ slice_index old i + 1
  pub behind : (i : ℕ) → n ≤ i → slice_index new i ≡ slice_index old i

pub count_more : (n : ℕ) (old new : List ℕ) → n < length old → CountsTo n old new → CountsTo (n + 1) old (set new n (get_or new n 0 + 1))
count_more n old new below counts = record {
  long = length-set new n (get_or new n 0 + 1) ∙ counts.long;
  ahead = λ i less inside. elim (cases_eq i n) [
    | inl same ↦ get_or-set_at new n i (get_or new n 0 + 1) 0 same (let long = counts.long in omega arith) ∙ ap (λ m. m + 1) (counts.behind n (le_refl n) ∙ ap (slice_index old) (sym same))
    | inr other ↦ get_or-set_other new n i (get_or new n 0 + 1) 0 other ∙ counts.ahead i (omega arith) inside
  ];
  behind = λ i past. get_or-set_other new n i (get_or new n 0 + 1) 0 (λ same. omega arith) ∙ counts.behind i (omega arith);
}

pub count_all : (n len : ℕ) (old new rest : List ℕ) → length old ≤ n → CountsTo n old new → len ≡ length old → length rest ≡ length old → (p : ℕ) → 0 < p → Contains old (p - 1) → Contains (take len (new ++ drop (length new) rest)) p
count_all n len old new rest enough counts same more p some c =
    let long = counts.long in
    let none = drop_all (length new) rest (omega arith) in
    let is : take len (new ++ drop (length new) rest) ≡ new = ap (λ l. take len (new ++ l)) none ∙ ap (take len) (append-nil new) ∙ take_all len new (omega arith) in
    let below = c.1 in
    let at = c.2 in
    let one = get_or_default_zero old c.0 (p - 1) below in
    let next = counts.ahead c.0 (omega arith) below in
    let moved = get_or_default_zero new c.0 p (omega arith) in
    subst (λ l. Contains l p) (sym is) (c.0, omega arith, omega arith)
