-- Marks of the commits of those who stand at positions, and of those who passed over keys.
use Rattle.std.proofs.Common.{◌≡◌, ◌⊎◌, inl, inr, ℕ, ◌+◌, ◌*◌, ◌/◌, ◌^◌, ◌<◌, ◌≤◌, List, [], length, get_or, replicate, ap, sym, subst, ◌∙◌, arith, ◌↔◌, Contains}
use Rattle.std.proofs.lemmas.Bool.{cases_lt}
use Rattle.std.proofs.lemmas.List.{get_or-replicate, get_or_past, length-replicate}
use Rattle.sia_events.specs.declared.event.Event.{Event}
use Rattle.sia_index.specs.Numbers.{IsCommittedAt}
use Rattle.sia_index.specs.Positions.{ArePositions}
use Rattle.sia_parts.specs.declared.accesses.Accesses.{Accesses}
use Rattle.sia_graph.specs.KeyBlocks.{IsUnderSome}
use Rattle.sia_graph.specs.Late.{ArePassedMarks, AreSeenMarks, IsLookAt, IsMarkedOver, IsRaised, StandsAt}
use Rattle.sia_graph.specs.Passed.{IsPassed}
use Rattle.sia_graph.proofs.SparseGraphs.KeyBlocks.{half_over, lower_over, one_block}

-- one transaction more, where it stands
pub seen_marked : (h : List Event) (a : Accesses) (values : List ℕ) (n t c : ℕ) → IsCommittedAt h n t → get_or values n 0 ≡ c → (old new : List ℕ) → AreSeenMarks h a values n old
    → IsRaised h n (IsLookAt h a n) old new c → AreSeenMarks h a values (n + 1) new
seen_marked h a values n t c at value old new marks raised = record {
  long = subst (ArePositions h) (sym raised.long) marks.long;
  sound = λ e x some le. elim (raised.sound e x le) [
    | inl before ↦ marks.sound e x some before
    | inr w ↦ let l = w.3 in (n, t, w.0, at, w.1, w.2, omega arith)
  ];
  has = λ i u p below there look. elim (cases_lt i n) [
    | inl less ↦ let w = marks.has i u p less there look in (w.0, w.1, (let l = w.2 in let k = raised.kept w.0 in omega arith))
    | inr more ↦
        let same : i ≡ n = omega arith in
        let w = raised.has p (subst (λ k. IsLookAt h a k p) same look) in
        let e : get_or values i 0 ≡ c = ap (λ k. get_or values k 0) same ∙ value in
        (w.0, subst (λ k. StandsAt h k p w.0) (sym same) w.1, (let l = w.2 in omega arith))
  ];
}

module _ (h : List Event) (a : Accesses) (values : List ℕ) (n t c : ℕ) (at : IsCommittedAt h n t) (value : get_or values n 0 ≡ c) (old new places : List ℕ) (long : length new ≡ length old)
    (raised : (q x : ℕ) → (x ≤ get_or new q 0) ↔ ((x ≤ get_or old q 0) ⊎ (Contains places q × (x ≤ c)))) where
  -- one transaction more, at blocks over the keys that it passed over
  pub passed_marked : (size : ℕ) → ArePassedMarks h a values size n old → (Held : ℕ → Type 0) → ((j : ℕ) → j < size → IsUnderSome size places j ↔ (IsUnderSome size [] j ⊎ Held j))
      → ((b : ℕ) → Contains places b → Contains {X = ℕ} [] b ⊎ ((0 < b) × (b < 2 * size))) → ((j : ℕ) → Held j ↔ IsPassed h a n j) → ArePassedMarks h a values size (n + 1) new
  passed_marked size marks Held over within held = record {
    long = long ∙ marks.long;
    each = λ j x below some. (
      (λ m. elim ((raised m.0 x).0 m.3) [
        | inl before ↦ let w = (marks.each j x below some).0 (m.0, m.1, m.2, before) in (w.0, w.1, (let l = w.2 in omega arith), w.3, w.4, w.5)
        | inr here ↦ elim ((over j below).0 (m.0, here.0, m.1)) [
          | inl none ↦ let l = none.1.1 in absurd (omega arith)
          | inr is ↦ let l = here.1 in (n, t, omega arith, at, (held j).0 is, omega arith)
        ]
      ]),
      (λ w. elim (cases_lt w.0 n) [
        | inl less ↦ let m = (marks.each j x below some).1 (w.0, w.1, less, w.3, w.4, w.5) in (m.0, m.1, m.2, (raised m.0 x).1 (inl m.3))
        | inr more ↦
            let same : w.0 ≡ n = let l = w.2 in omega arith in
            let e : get_or values w.0 0 ≡ c = ap (λ k. get_or values k 0) same ∙ value in
            let u = (over j below).1 (inr ((held j).1 (subst (λ k. IsPassed h a k j) same w.4))) in
            (u.0, u.2, elim (within u.0 u.1) [ inl none ↦ (let b = none.1 in absurd (omega arith)) | inr b ↦ b.0 ], (raised u.0 x).1 (inr (u.1, omega arith)))
      ]),
    );
  }

-- what a walk from a leaf to the greatest block over it knows
pub record IsRising (size leaf : ℕ) (most : List ℕ) (block top : ℕ) : Type 0 where
  pub height : ℕ
  pub low : block * 2 ^ height ≤ leaf
  pub high : leaf < (block + 1) * 2 ^ height
  pub within : block ≤ leaf
  pub each : (x : ℕ) → 0 < x → (x ≤ top) ↔ ((b : ℕ) × (e : ℕ) × (e < height) × (b * 2 ^ e ≤ leaf) × (leaf < (b + 1) * 2 ^ e) × (0 < b) × (x ≤ get_or most b 0))

pub rises_from : (size leaf : ℕ) (most : List ℕ) → IsRising size leaf most leaf 0
rises_from size leaf most = grind arith

pub rises_on : (size leaf : ℕ) (most : List ℕ) (block top next : ℕ) → IsRising size leaf most block top → 0 < block → top ≤ next → get_or most block 0 ≤ next → (next ≡ top) ⊎ (next ≡ get_or most block 0)
    → IsRising size leaf most (block / 2) next
rises_on size leaf most block top next rising positive over here which =
    let e = rising.height in
    let half = half_over block e leaf rising.low rising.high in
    record {
      height = e + 1;
      low = half.0;
      high = half.1;
      within = let w = rising.within in omega arith;
      each = λ x some. (
        (λ l. elim which [
          | inl same ↦ let w = (rising.each x some).0 (omega arith) in (w.0, w.1, (let l = w.2 in omega arith), w.3, w.4, w.5, w.6)
          | inr same ↦ (block, e, omega arith, rising.low, rising.high, positive, omega arith)
        ]),
        (λ w. elim (cases_lt w.1 e) [
          | inl less ↦ let l = (rising.each x some).1 (w.0, w.1, less, w.3, w.4, w.5, w.6) in omega arith
          | inr more ↦ grind (arith, half_over, cases_lt, one_block)
        ]),
      );
    }

pub risen : (size key : ℕ) (most : List ℕ) (top : ℕ) → IsRising size (size + key) most 0 top → (x : ℕ) → 0 < x → (x ≤ top) ↔ IsMarkedOver size most key x
risen size key most top rising x some = (
  (λ l.
      let w = (rising.each x some).0 l in
      (w.0, (w.1, w.3, w.4), w.5, w.6)),
  (λ m.
      let over = m.1 in
      (rising.each x some).1 (m.0, over.0, lower_over m.0 over.0 rising.height (size + key) rising.high over.1 m.2, over.1, over.2, m.2, m.3)),
)

-- without blocks there are no marks
pub none_marked : (size key : ℕ) (most : List ℕ) → length most ≡ 0 → (x : ℕ) → 0 < x → (x ≤ 0) ↔ IsMarkedOver size most key x
none_marked size key most long x some = grind (arith, get_or_past)

-- at first there is no mark
pub none_there : (n e : ℕ) (table : List ℕ) → table ≡ replicate n 0 → get_or table e 0 ≡ 0
none_there n e table is = grind (arith, cases_lt, replicate, get_or-replicate, get_or_past, length-replicate)

pub seen_unmarked : (h : List Event) (a : Accesses) (values : List ℕ) (n : ℕ) (seen : List ℕ) → ArePositions h n → seen ≡ replicate n 0 → AreSeenMarks h a values 0 seen
seen_unmarked h a values n seen positions is = grind (arith, length-replicate, none_there)

pub passed_unmarked : (h : List Event) (a : Accesses) (values : List ℕ) (size n : ℕ) (most : List ℕ) → n ≡ 2 * size → most ≡ replicate n 0 → ArePassedMarks h a values size 0 most
passed_unmarked h a values size n most two is = grind (arith, length-replicate, none_there)
