-- How many steps that are told at nodes that aren't done lead to a node.
use Rattle.std.proofs.Common.{◌≡◌, inl, inr, ℕ, zero, suc, ◌+◌, ◌<◌, Bool, true, false, List, [], ◌∷◌, length, get_or, set, take, eqb, refl, ap, ◌∙◌, arith, Contains, subst}
use Rattle.std.proofs.lemmas.Bool.{cases_Bool, cases_lt, eqb-true, eq-eqb}
use Rattle.sia_graph.proofs.Shared.Counted.{count_first, count_later}
use Rattle.sia_graph.specs.UnderWay.{IsDone, times, told}
use Rattle.std.proofs.lemmas.List.{get_or_default}
use Rattle.sia_graph.specs.Graphs.{IsGraph}
use Rattle.sia_graph.specs.declared.order.Graph.{Graph}

-- an element that is counted, and a count that isn't 0
pub some_times : (t : ℕ) (xs : List ℕ) → 0 < times t xs → Contains xs t
some_times t [] l = absurd (omega arith)
some_times t (x ∷ xs) l = elim (cases_Bool (eqb x t)) [
  | inl same ↦ (0, omega arith, eqb-true x t same)
  | inr other ↦
      let e : times t (x ∷ xs) ≡ times t xs = count_later (λ y. eqb y t) x xs other in
      let c = some_times t xs (omega arith) in
      (suc c.0, omega arith, c.2)
]

pub times_some : (t : ℕ) (xs : List ℕ) → Contains xs t → 0 < times t xs
times_some t [] c = let l = c.1 in absurd (omega arith)
times_some t (x ∷ xs) c = by_place (times_some t xs) c.0 c.1 c.2
  where
    by_place : (Contains xs t → 0 < times t xs) → (k : ℕ) → k < length (x ∷ xs) → get_or (x ∷ xs) k t ≡ t → 0 < times t (x ∷ xs)
    by_place rest zero l e = let f : times t (x ∷ xs) ≡ 1 + times t xs = count_first (λ y. eqb y t) x xs (eq-eqb x t e) in omega arith
    by_place rest (suc k) l e = elim (cases_Bool (eqb x t)) [
      | inl same ↦ let f : times t (x ∷ xs) ≡ 1 + times t xs = count_first (λ y. eqb y t) x xs same in omega arith
      | inr other ↦ grind (arith, count_first, eqb, eq-eqb, cases_Bool, count_later)
    ]

-- a node that becomes done tells no more
pub told_done : (rows : List (List ℕ)) (done : List Bool) (t s : ℕ) → s < length rows → s < length done → get_or done s false ≡ false
    → told rows done t ≡ told rows (set done s true) t + times t (get_or rows s [])
told_done [] done t s a b out = absurd (omega arith)
told_done (row ∷ rows) [] t s a b out = absurd (omega arith)
told_done (row ∷ rows) (true ∷ done) t zero a b out = cc
told_done (row ∷ rows) (false ∷ done) t zero a b out = omega arith
told_done (row ∷ rows) (true ∷ done) t (suc s) a b out = told_done rows done t s (omega arith) (omega arith) out
told_done (row ∷ rows) (false ∷ done) t (suc s) a b out = let e = told_done rows done t s (omega arith) (omega arith) out in omega arith

-- where nothing is told, each node that tells of t is done
pub none_told : (rows : List (List ℕ)) (done : List Bool) (t s : ℕ) → told rows done t ≡ 0 → s < length rows → Contains (get_or rows s []) t → IsDone done s
none_told [] done t s none l c = absurd (omega arith)
none_told (row ∷ rows) [] t zero none l c = let a = times_some t row c in absurd (omega arith)
none_told (row ∷ rows) (true ∷ done) t zero none l c = refl
none_told (row ∷ rows) (false ∷ done) t zero none l c = let a = times_some t row c in absurd (omega arith)
none_told (row ∷ rows) [] t (suc s) none l c = none_told rows [] t s (omega arith) (omega arith) c
none_told (row ∷ rows) (true ∷ done) t (suc s) none l c = none_told rows done t s none (omega arith) c
none_told (row ∷ rows) (false ∷ done) t (suc s) none l c = none_told rows done t s (omega arith) (omega arith) c

-- where something is, some node that isn't done tells of t
abbrev Teller : List (List ℕ) → List Bool → ℕ → Type 0
Teller rows done t = (s : ℕ) × (s < length rows) × (¬ IsDone done s) × Contains (get_or rows s []) t

pub some_told : (rows : List (List ℕ)) (done : List Bool) (t : ℕ) → 0 < told rows done t → Teller rows done t
some_told [] done t l = absurd (omega arith)
some_told (row ∷ rows) [] t l = elim (cases_lt 0 (times t row)) [
  | inl here ↦ (0, omega arith, (λ d. cc), some_times t row here)
  | inr none ↦ let w = some_told rows [] t (omega arith) in let b = w.1 in (suc w.0, omega arith, w.2, w.3)
]
some_told (row ∷ rows) (true ∷ done) t l = let w = some_told rows done t l in let b = w.1 in (suc w.0, omega arith, w.2, w.3)
some_told (row ∷ rows) (false ∷ done) t l = elim (cases_lt 0 (times t row)) [
  | inl here ↦ (0, omega arith, (λ d. cc), some_times t row here)
  | inr none ↦ let w = some_told rows done t (omega arith) in let b = w.1 in (suc w.0, omega arith, w.2, w.3)
]

-- as long as nothing is done
pub told_first : (rows : List (List ℕ)) (done : List Bool) (t : ℕ) → ((s : ℕ) → ¬ IsDone done s) → told rows done t ≡ told rows [] t
told_first [] done t none = refl
told_first (row ∷ rows) [] t none = refl
told_first (row ∷ rows) (true ∷ done) t none = absurd (none 0 refl)
told_first (row ∷ rows) (false ∷ done) t none = ap (λ n. times t row + n) (told_first rows done t (λ s. none (suc s)))

-- counted list by list
pub told_more : (rows : List (List ℕ)) (t i : ℕ) → i < length rows → told (take (i + 1) rows) [] t ≡ told (take i rows) [] t + times t (get_or rows i [])
told_more [] t i l = absurd (omega arith)
told_more (row ∷ rows) t zero l = omega arith
told_more (row ∷ rows) t (suc i) l =
    let a : times t row + (told (take i rows) [] t + times t (get_or rows i [])) ≡ times t row + told (take i rows) [] t + times t (get_or rows i []) = omega arith in
    let z : suc i + 1 ≡ suc (i + 1) = omega arith in
    ap (λ n. told (take n (row ∷ rows)) [] t) z ∙ ap (λ n. times t row + n) (told_more rows t i (omega arith)) ∙ a

-- a target is a node
pub target_within : (g : Graph) (n node i : ℕ) → IsGraph n g → (row : List ℕ) → row ≡ get_or g.targets node [] → i < length row → get_or row i 0 < n
target_within g n node i graph row is l =
    (graph.within node (get_or row i 0) (inl (subst (λ xs. Contains xs (get_or row i 0)) is (i, l, get_or_default row i (get_or row i 0) 0 l)))).1
