-- Blocks of keys: which are over a key, and what a loop knows that goes up from the leaves.
use Rattle.std.proofs.Common.{◌≡◌, ◌⊎◌, inl, inr, ℕ, zero, suc, ◌+◌, ◌-◌, ◌*◌, ◌/◌, ◌%◌, ◌^◌, ◌<◌, ◌≤◌, List, refl, ap, sym, ◌∙◌, subst, arith, rules, ◌↔◌, Contains}
use Rattle.std.proofs.Math.Nat.{lt_of_mul-lt-mul_right, mul_assoc, mul-le-mul_left, mul-le-mul_right, pow-le-pow_right, pow-succ'}
use Rattle.std.proofs.lemmas.Bool.{cases_lt}
use Rattle.sia_graph.specs.KeyBlocks.{IsOver, IsUnderSome}

-- a power is doubled
pub doubled : (e : ℕ) → 2 ^ (e + 1) ≡ 2 * 2 ^ e
doubled e = let s : e + 1 ≡ suc e = omega arith in ap (λ n. 2 ^ n) s ∙ pow-succ' 2 e

pub some_power : (e : ℕ) → 0 < 2 ^ e
some_power zero = omega arith
some_power (suc e) = let h = some_power e in let p = pow-succ' 2 e in omega arith

-- one block of each height is over a leaf
pub one_block : (b c m x : ℕ) → b * m ≤ x → x < (b + 1) * m → c * m ≤ x → x < (c + 1) * m → b ≡ c
one_block b c m x b_low b_high c_low c_high = grind (arith, lt_of_mul-lt-mul_right)

-- it is half the one below it
pub half_over : (b e x : ℕ) → b * 2 ^ e ≤ x → x < (b + 1) * 2 ^ e → (b / 2 * 2 ^ (e + 1) ≤ x) × (x < (b / 2 + 1) * 2 ^ (e + 1))
half_over b e x from to =
    let m = 2 ^ e in
    let twice = doubled e in
    let low = mul-le-mul_right m (let h : b / 2 * 2 ≤ b = omega arith in h) in
    let high = mul-le-mul_right m (let h : b + 1 ≤ (b / 2 + 1) * 2 = omega arith in h) in
    let low_is = ap (λ n. b / 2 * n) twice ∙ sym (mul_assoc (b / 2) 2 m) in
    let high_is = ap (λ n. (b / 2 + 1) * n) twice ∙ sym (mul_assoc (b / 2 + 1) 2 m) in
    (omega arith, omega arith)

-- those over a leaf are lower than a height at which block 0 is over it
pub lower_over : (b n top x : ℕ) → x < (0 + 1) * 2 ^ top → b * 2 ^ n ≤ x → 0 < b → n < top
lower_over b n top x to low some = grind (arith, cases_lt, pow-le-pow_right, mul-le-mul_right)

-- a greater power is at least twice as great
greater_power : (d e : ℕ) → 2 * 2 ^ e ≤ 2 ^ (e + 1 + d)
greater_power zero e = let s : e + 1 + 0 ≡ e + 1 = omega arith in let p = ap (λ n. 2 ^ n) s in let q = doubled e in omega arith
greater_power (suc d) e =
    let s : e + 1 + suc d ≡ suc (e + 1 + d) = omega arith in
    omega (arith, ap (λ n. 2 ^ n) s, greater_power d e)

module _ (size key : ℕ) (is_key : key < size) (b e : ℕ) (low : size ≤ b * 2 ^ e) (high : (b + 1) * 2 ^ e ≤ 2 * size) where
  not_higher : (n : ℕ) → e < n → b * 2 ^ n ≤ size + key → ⊥
  not_higher n l from =
      let s : n ≡ e + 1 + (n - (e + 1)) = omega arith in
      omega (arith, mul-le-mul_left b (subst (λ m. 2 * 2 ^ e ≤ 2 ^ m) (sym s) (greater_power (n - (e + 1)) e)))

  not_lower : (n : ℕ) → n < e → size + key < (b + 1) * 2 ^ n → ⊥
  not_lower n l below =
      let s : e ≡ n + 1 + (e - (n + 1)) = omega arith in
      omega (arith, mul-le-mul_left (b + 1) (subst (λ m. 2 * 2 ^ n ≤ 2 ^ m) (sym s) (greater_power (e - (n + 1)) n)))

  -- a block that is over leaves alone is over these and no others
  pub over_here : IsOver size b key → (b * 2 ^ e ≤ size + key) × (size + key < (b + 1) * 2 ^ e)
  over_here over = grind (arith, cases_lt, not_lower, not_higher)

-- what is known while the blocks of a stretch are added, each time of one height more: keys under a new block, and those under
-- the blocks from low to before high, are those of the stretch
pub record IsClimbing (size from to : ℕ) (old blocks : List ℕ) (low high : ℕ) : Type 0 where
  pub height : ℕ
  pub starts : size ≤ low * 2 ^ height
  pub ends : high * 2 ^ height ≤ 2 * size
  pub over : (j : ℕ) → j < size → (IsUnderSome size blocks j ⊎ ((low * 2 ^ height ≤ size + j) × (size + j < high * 2 ^ height))) ↔ (IsUnderSome size old j ⊎ ((from ≤ j) × (j < to)))
  pub keeps : (b : ℕ) → Contains old b → Contains blocks b
  pub within : (b : ℕ) → Contains blocks b → Contains old b ⊎ ((0 < b) × (b < 2 * size))

pub climb_none : (size from to : ℕ) → to ≤ size → (old : List ℕ) → IsClimbing size from to old old (size + from) (size + to)
climb_none size from to h old = record {
  height = 0;
  starts = omega arith;
  ends = omega arith;
  over = grind arith;
  keeps = λ b i. i;
  within = λ b i. inl i;
}

-- twice the half of a number, rounded up or down, times x
halved_up : (n x : ℕ) → ((n % 2 ≡ 1) × ((n + 1) / 2 * (2 * x) ≡ (n + 1) * x)) ⊎ ((n % 2 ≡ 0) × ((n + 1) / 2 * (2 * x) ≡ n * x))
halved_up n x = elim (cases_lt (n % 2) 1) [
  | inl l ↦ let s : (n + 1) / 2 * 2 ≡ n = omega arith in inr (omega arith, sym (mul_assoc ((n + 1) / 2) 2 x) ∙ ap (λ m. m * x) s)
  | inr l ↦ let s : (n + 1) / 2 * 2 ≡ n + 1 = omega arith in inl (omega arith, sym (mul_assoc ((n + 1) / 2) 2 x) ∙ ap (λ m. m * x) s)
]

halved_down : (n x : ℕ) → ((n % 2 ≡ 1) × (n / 2 * (2 * x) ≡ (n - 1) * x)) ⊎ ((n % 2 ≡ 0) × (n / 2 * (2 * x) ≡ n * x))
halved_down n x = elim (cases_lt (n % 2) 1) [
  | inl l ↦ let s : n / 2 * 2 ≡ n = omega arith in inr (omega arith, sym (mul_assoc (n / 2) 2 x) ∙ ap (λ m. m * x) s)
  | inr l ↦ let s : n / 2 * 2 ≡ n - 1 = omega arith in inl (omega arith, sym (mul_assoc (n / 2) 2 x) ∙ ap (λ m. m * x) s)
]

-- what a step does: the lowest block is added where it is the upper half of the next one, and the highest where it is the lower
module _ (size low high e : ℕ) (starts : size ≤ low * 2 ^ e) (ends : high * 2 ^ e ≤ 2 * size) (l : low < high) where
  low_fits : (low + 1) * 2 ^ e ≤ high * 2 ^ e
  low_fits = mul-le-mul_right (2 ^ e) (omega arith)

  high_fits : low * 2 ^ e ≤ (high - 1) * 2 ^ e
  high_fits = mul-le-mul_right (2 ^ e) (omega arith)

  high_is : (high - 1 + 1) * 2 ^ e ≡ high * 2 ^ e
  high_is = let s : high - 1 + 1 ≡ high = omega arith in ap (λ m. m * 2 ^ e) s

  low_grows : low * 2 ^ e ≤ (low + 1) * 2 ^ e
  low_grows = mul-le-mul_right (2 ^ e) (omega arith)

  high_shrinks : (high - 1) * 2 ^ e ≤ high * 2 ^ e
  high_shrinks = mul-le-mul_right (2 ^ e) (omega arith)

  low_step : ((low % 2 ≡ 1) × ((low + 1) / 2 * 2 ^ (e + 1) ≡ (low + 1) * 2 ^ e)) ⊎ ((low % 2 ≡ 0) × ((low + 1) / 2 * 2 ^ (e + 1) ≡ low * 2 ^ e))
  low_step = subst (λ y. ((low % 2 ≡ 1) × ((low + 1) / 2 * y ≡ (low + 1) * 2 ^ e)) ⊎ ((low % 2 ≡ 0) × ((low + 1) / 2 * y ≡ low * 2 ^ e))) (sym (doubled e)) (halved_up low (2 ^ e))

  high_step : ((high % 2 ≡ 1) × (high / 2 * 2 ^ (e + 1) ≡ (high - 1) * 2 ^ e)) ⊎ ((high % 2 ≡ 0) × (high / 2 * 2 ^ (e + 1) ≡ high * 2 ^ e))
  high_step = subst (λ y. ((high % 2 ≡ 1) × (high / 2 * y ≡ (high - 1) * 2 ^ e)) ⊎ ((high % 2 ≡ 0) × (high / 2 * y ≡ high * 2 ^ e))) (sym (doubled e)) (halved_down high (2 ^ e))

  starts_higher : size ≤ (low + 1) / 2 * 2 ^ (e + 1)
  starts_higher = let a = low_grows in elim low_step [ inl o ↦ let f = o.1 in omega arith | inr o ↦ let f = o.1 in omega arith ]

  ends_higher : high / 2 * 2 ^ (e + 1) ≤ 2 * size
  ends_higher = let a = high_shrinks in elim high_step [ inl o ↦ let f = o.1 in omega arith | inr o ↦ let f = o.1 in omega arith ]

module _ (size key : ℕ) (is_key : key < size) (low high e : ℕ) (starts : size ≤ low * 2 ^ e) (ends : high * 2 ^ e ≤ 2 * size) (l : low < high)
    (blocks mid new : List ℕ) (first : (b : ℕ) → Contains mid b ↔ (Contains blocks b ⊎ ((b ≡ low) × (low % 2 ≡ 1))))
    (last : (b : ℕ) → Contains new b ↔ (Contains mid b ⊎ ((b ≡ high - 1) × (high % 2 ≡ 1)))) where
  from_new : IsUnderSome size new key → IsUnderSome size blocks key ⊎ ((low * 2 ^ e ≤ size + key) × (size + key < high * 2 ^ e))
  from_new u = elim ((last u.0).0 u.1) [
    | inl m ↦ elim ((first u.0).0 m) [
      | inl o ↦ inl (u.0, o, u.2)
      | inr o ↦
          let w = over_here size key is_key low e starts (let a = low_fits size low high e starts ends l in omega arith) (subst (λ b. IsOver size b key) o.0 u.2) in
          let f = low_fits size low high e starts ends l in
          inr (omega arith, omega arith)
    ]
    | inr o ↦
        let s = high_is size low high e starts ends l in
        let f = high_fits size low high e starts ends l in
        let w = over_here size key is_key (high - 1) e (omega arith) (omega arith) (subst (λ b. IsOver size b key) o.0 u.2) in
        inr (omega arith, omega arith)
  ]

  from_higher : ((low + 1) / 2 * 2 ^ (e + 1) ≤ size + key) × (size + key < high / 2 * 2 ^ (e + 1)) → (low * 2 ^ e ≤ size + key) × (size + key < high * 2 ^ e)
  from_higher w =
      let b = high_shrinks size low high e starts ends l in
      let c : low * 2 ^ e ≤ (low + 1) / 2 * 2 ^ (e + 1) = elim (low_step size low high e starts ends l) [ inl o ↦ let f = o.1 in omega arith | inr o ↦ let f = o.1 in omega arith ] in
      let d : high / 2 * 2 ^ (e + 1) ≤ high * 2 ^ e = elim (high_step size low high e starts ends l) [ inl o ↦ let f = o.1 in omega arith | inr o ↦ let f = o.1 in omega arith ] in
      (omega arith, omega arith)

  kept : IsUnderSome size blocks key → IsUnderSome size new key
  kept u = (u.0, (last u.0).1 (inl ((first u.0).1 (inl u.1))), u.2)

  is_high : (high - 1) * 2 ^ e ≤ size + key → size + key < high * 2 ^ e → high % 2 ≡ 1 → IsUnderSome size new key
  is_high a b odd = let s = high_is size low high e starts ends l in (high - 1, (last (high - 1)).1 (inr (refl, odd)), (e, a, omega arith))

  is_low : low * 2 ^ e ≤ size + key → size + key < (low + 1) * 2 ^ e → low % 2 ≡ 1 → IsUnderSome size new key
  is_low a b odd = (low, (last low).1 (inl ((first low).1 (inr (refl, odd)))), (e, a, b))

  below_high : (low + 1) / 2 * 2 ^ (e + 1) ≤ size + key → size + key < high * 2 ^ e
      → IsUnderSome size new key ⊎ (((low + 1) / 2 * 2 ^ (e + 1) ≤ size + key) × (size + key < high / 2 * 2 ^ (e + 1)))
  below_high a b = grind (arith, high_step, cases_lt, is_high)

  to_higher : (low * 2 ^ e ≤ size + key) × (size + key < high * 2 ^ e)
      → IsUnderSome size new key ⊎ (((low + 1) / 2 * 2 ^ (e + 1) ≤ size + key) × (size + key < high / 2 * 2 ^ (e + 1)))
  to_higher w = elim (low_step size low high e starts ends l) [
    | inl o ↦ elim (cases_lt (size + key) ((low + 1) * 2 ^ e)) [ inl f ↦ inl (is_low w.0 f o.0) | inr f ↦ let h = o.1 in below_high (omega arith) w.1 ]
    | inr o ↦ let h = o.1 in below_high (omega arith) w.1
  ]

  over_higher : (IsUnderSome size new key ⊎ (((low + 1) / 2 * 2 ^ (e + 1) ≤ size + key) × (size + key < high / 2 * 2 ^ (e + 1))))
      ↔ (IsUnderSome size blocks key ⊎ ((low * 2 ^ e ≤ size + key) × (size + key < high * 2 ^ e)))
  over_higher = search (rules, arith, from_new, from_higher, kept, to_higher)

-- the blocks that are added are none that there aren't
are_blocks : (size low high e : ℕ) → size ≤ low * 2 ^ e → high * 2 ^ e ≤ 2 * size → (b : ℕ) → low ≤ b → b < high → (0 < b) × (b < 2 * size)
are_blocks size low high e starts ends b from to = grind (arith, some_power, mul-le-mul_left, cases_lt)

pub climb_more : (size from to : ℕ) (old blocks : List ℕ) (low high : ℕ) → IsClimbing size from to old blocks low high → low < high
    → (mid new : List ℕ) → ((b : ℕ) → Contains mid b ↔ (Contains blocks b ⊎ ((b ≡ low) × (low % 2 ≡ 1))))
    → ((b : ℕ) → Contains new b ↔ (Contains mid b ⊎ ((b ≡ high - 1) × (high % 2 ≡ 1)))) → IsClimbing size from to old new ((low + 1) / 2) (high / 2)
climb_more size from to old blocks low high climbing l mid new first last =
    let e = climbing.height in record {
      height = e + 1;
      starts = starts_higher size low high e climbing.starts climbing.ends l;
      ends = ends_higher size low high e climbing.starts climbing.ends l;
      over = λ j is_key.
          let o = over_higher size j is_key low high e climbing.starts climbing.ends l blocks mid new first last in
          let p = climbing.over j is_key in
          ((λ w. p.0 (o.0 w)), (λ w. o.1 (p.1 w)));
      keeps = λ b i. (last b).1 (inl ((first b).1 (inl (climbing.keeps b i))));
      within = λ b i. elim ((last b).0 i) [
        | inl m ↦ elim ((first b).0 m) [
          | inl o ↦ climbing.within b o
          | inr o ↦ let s = o.0 in inr (are_blocks size low high e climbing.starts climbing.ends b (omega arith) (omega arith))
        ]
        | inr o ↦ let s = o.0 in inr (are_blocks size low high e climbing.starts climbing.ends b (omega arith) (omega arith))
      ];
    }

pub climbed : (size from to : ℕ) (old blocks : List ℕ) (low high : ℕ) → IsClimbing size from to old blocks low high → high ≤ low
    → (j : ℕ) → j < size → IsUnderSome size blocks j ↔ (IsUnderSome size old j ⊎ ((from ≤ j) × (j < to)))
climbed size from to old blocks low high climbing l j is_key =
    let p = climbing.over j is_key in
    let none = mul-le-mul_right (2 ^ climbing.height) l in (
      (λ u. p.0 (inl u)),
      (λ w. elim (p.1 w) [ inl u ↦ u | inr h ↦ let a = h.0 in let b = h.1 in absurd (omega arith) ]),
    )
