-- Trees of least numbers: what is at a node is at most what is at each leaf below it.
use Rattle.std.proofs.Common.{◌≡◌, inl, inr, ℕ, zero, suc, ◌+◌, ◌*◌, ◌/◌, ◌^◌, ◌<◌, ◌≤◌, List, length, set, ap, sym, ◌∙◌, arith}
use Rattle.std.specs.Prelude.{slice_index, slice_index_or}
use Rattle.std.proofs.lemmas.Bool.{cases_lt}
use Rattle.std.proofs.lemmas.List.{get_or_default, get_or-set_same, get_or-set_other, length-set}
use Rattle.std.proofs.Math.Nat.{mul-le-mul_left, pow-succ'}
use Rattle.sia_index.specs.Minima.{AreLeaves, AreMinima, Covers, IsLeastAt, IsPower, IsTree, PassesBlocks}

pub power_suc : (e : ℕ) → 2 ^ (suc e) ≡ 2 * 2 ^ e
power_suc e = pow-succ' 2 e

power_some : (e : ℕ) → 1 ≤ 2 ^ e
power_some zero = omega arith
power_some (suc e) = let rest = power_some e in let next = power_suc e in omega arith

pub is_some : (n : ℕ) → IsPower n → 1 ≤ n
is_some n power = let some = power_some power.0 in let is = power.1 in omega arith

pub half_power : (n : ℕ) → IsPower n → 1 ≤ n / 2 → IsPower (n / 2) × (n ≡ 2 * (n / 2))
half_power n (zero, is) some = absurd (omega arith)
half_power n (suc e, is) some =
    let next = power_suc e in
    let half : n / 2 ≡ 2 ^ e = omega arith in
    ((e, half), omega arith)

module _ (size : ℕ) (minima : List ℕ) (tree : IsTree size minima) where
  pub least_below : (e node block : ℕ) → 0 < node → block < size → node * 2 ^ e ≤ size + block → size + block < (node + 1) * 2 ^ e → slice_index minima node ≤ slice_index minima (size + block)
  least_below zero node block some below low high = let same : node ≡ size + block = omega arith in let is = ap (slice_index minima) same in omega arith
  least_below (suc e) node block some below low high =
      let p = 2 ^ e in
      let next = power_suc e in
      let least = power_some e in
      let up : node * 1 ≤ node * 2 ^ e = mul-le-mul_left node least in
      let whole : node * 2 ^ (suc e) ≡ 2 * (node * 2 ^ e) = rw next (omega arith) in
      let above : (node + 1) * 2 ^ (suc e) ≡ 2 * (node * 2 ^ e) + 2 * 2 ^ e = rw next (omega arith) in
      let inner = tree.inner node some (omega arith) in
      elim (cases_lt (size + block) ((2 * node + 1) * 2 ^ e)) [
        | inl left ↦ let rest = least_below e (2 * node) block (omega arith) below (omega arith) left in let first = inner.0 in omega arith
        | inr right ↦ let rest = least_below e (2 * node + 1) block (omega arith) below right (omega arith) in let second = inner.1 in omega arith
      ]

module _ (minima : List ℕ) (node low width : ℕ) (covers : Covers minima node low width) where
  size : ℕ
  size = covers.0

  -- the node is one of the tree
  pub node_within : (0 < node) × (node < length minima) × (1 ≤ width)
  unfolding size
  node_within =
      let some = is_some width covers.2 in
      let at = covers.3 in
      let most = covers.4 in
      let count = covers.1.count in
      let least = is_some covers.0 covers.1.power in
      let up : node * 1 ≤ node * width = mul-le-mul_left node some in
      let above : 0 < node = elim (cases_lt 0 node) [ inl more ↦ more | inr none ↦ let is : node ≡ 0 = omega arith in let zero_times = ap (λ n. n * width) is in absurd (omega arith) ] in
      (above, omega arith, some)

  pub covers_left : 1 ≤ width / 2 → Covers minima (2 * node) low (width / 2)
  covers_left some =
      let half = half_power width covers.2 some in
      let at = covers.3 in
      let is = half.1 in
      let whole : node * width ≡ node * (2 * (width / 2)) = ap (λ n. node * n) is in
      (covers.0, covers.1, half.0, omega arith, (let most = covers.4 in omega arith))

  pub covers_right : 1 ≤ width / 2 → Covers minima (2 * node + 1) (low + width / 2) (width / 2)
  covers_right some =
      let half = half_power width covers.2 some in
      let at = covers.3 in
      let is = half.1 in
      let whole : node * width ≡ node * (2 * (width / 2)) = ap (λ n. node * n) is in
      (covers.0, covers.1, half.0, omega arith, (let most = covers.4 in omega arith))

  -- where the least number is at least at the limit, all blocks below are passed
  pub passes_node : (limit at : ℕ) → low ≤ at → limit ≤ slice_index minima node → PassesBlocks minima limit at (low + width)
  passes_node limit at from least many block count after before =
      let same : many ≡ covers.0 = let own = covers.1.count in omega arith in
      let is = covers.2.1 in
      let place = covers.3 in
      let most = covers.4 in
      let low_end : node * 2 ^ covers.2.0 ≡ covers.0 + low = ap (λ n. node * n) (sym is) ∙ place in
      let rest = least_below covers.0 minima covers.1 covers.2.0 node block node_within.0 (omega arith) (omega arith) (let high : (node + 1) * 2 ^ covers.2.0 ≡ covers.0 + low + width = omega arith in omega arith) in
      let read = ap (λ n. slice_index minima (n + block)) same in
      omega arith

-- the next row's number at its leaf
module _ {A : Type 0} (num : A → ℕ) (rows : List A) (n size : ℕ) (minima : List ℕ) (are : AreLeaves num rows n size minima) (some : n < length rows) (enough : length rows ≤ size * 16) where
  pub leaf_within : size + n / 16 < length minima
  leaf_within = let count = are.0 in omega arith

-- nodes from one on have the least of the two below them
pub record TreeFrom {A : Type 0} (num : A → ℕ) (rows : List A) (size from : ℕ) (minima : List ℕ) : Type 0 where
  pub leaves : AreLeaves num rows (length rows) size minima
  pub inner : (node : ℕ) → from ≤ node → node < size → IsLeastAt minima node

module _ {A : Type 0} (num : A → ℕ) (rows : List A) (size n : ℕ) (minima : List ℕ) (tree : TreeFrom num rows size (n + 1) minima) (some : 0 < n) (below : n < size) where
  pub tree_more : (left right least : ℕ) → left ≡ slice_index_or minima (2 * n) left → right ≡ slice_index_or minima (2 * n + 1) right → least ≤ left → least ≤ right → TreeFrom num rows size n (set minima n least)
  tree_more left right least read_left read_right below_left below_right =
      let count = tree.leaves.0 in
      let other : (m : ℕ) → n < m → slice_index (set minima n least) m ≡ slice_index minima m = λ m above. get_or-set_other minima n m least 0 (λ e. omega arith) in
      record {
        leaves = (
          length-set minima n least ∙ count,
          λ block i d first last less.
              let is = tree.leaves.1 block i d first last less in
              let kept = other (size + block) (omega arith) in
              (is.0, (let rest = is.1 in omega arith)),
        );
        inner = λ node from inside. elim (cases_lt n node) [
          | inl more ↦
              let is = tree.inner node (omega arith) inside in
              let first = is.0 in
              let second = is.1 in
              let a = other node more in
              let b = other (2 * node) (omega arith) in
              let c = other (2 * node + 1) (omega arith) in
              (omega arith, omega arith)
          | inr here ↦
              let same : node ≡ n = omega arith in
              let own = ap (slice_index (set minima n least)) same ∙ get_or-set_same minima n least 0 (omega arith) in
              let twice : 2 * node ≡ 2 * n = omega arith in
              let a = ap (slice_index (set minima n least)) twice in
              let b = ap (λ m. slice_index (set minima n least) (m + 1)) twice in
              let c = other (2 * n) (omega arith) in
              let d = other (2 * n + 1) (omega arith) in
              let e = read_left ∙ get_or_default minima (2 * n) left 0 (omega arith) in
              let f = read_right ∙ get_or_default minima (2 * n + 1) right 0 (omega arith) in
              (omega arith, omega arith)
        ];
      }

-- rows of blocks that are passed
pub rows_passed : {A : Type 0} (num : A → ℕ) (rows : List A) (minima : List ℕ) → AreMinima num rows minima → (limit from to : ℕ) → PassesBlocks minima limit (from / 16) to → (i : ℕ) (d : A) → from ≤ i → i < to * 16 → i < length rows → limit ≤ num (slice_index_or rows i d)
rows_passed num rows minima are limit from to passed i d after before inside =
    let leaf = are.2.1 (i / 16) i d (omega arith) (omega arith) inside in
    let over = passed are.0 (i / 16) are.1.count (omega arith) (omega arith) in
    let least = leaf.1 in
    omega arith
