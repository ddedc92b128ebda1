-- What stands side by side in a list that is in order by ranks: all that have one first number.
use Rattle.std.proofs.Common.{◌≡◌, ◌⊎◌, inl, inr, ℕ, ◌+◌, ◌-◌, ◌<◌, ◌≤◌, true, false, List, ◌++◌, length, get_or, take, drop, ltb, leb, refl, ap, sym, ◌∙◌, subst, arith}
use Rattle.std.specs.List.{AllWithin}
use Rattle.std.specs.List.Sorted.{IsPartitionPoint}
use Rattle.std.proofs.lemmas.Bool.{cases_lt, lt-ltb, le-ltb, le-leb, lt-leb, ltb-true, ltb-false, leb-true, leb-false}
use Rattle.std.proofs.lemmas.List.{take-append-drop, get_or-take, get_or-drop, length-take, length-drop}
use Rattle.sia_index.specs.Between.{IsBetween}
use Rattle.sia_parts.specs.Groups.{IsGroup}

-- what two partitions cut out
pub cut_out : {A : Type 0} (key : A → ℕ) (xs rest : List A) (t first count : ℕ) → rest ≡ drop first xs
    → IsPartitionPoint (λ x. ltb (key x) t ≡ true) (λ x. ltb (key x) t ≡ false) xs first
    → IsPartitionPoint (λ x. leb (key x) t ≡ true) (λ x. leb (key x) t ≡ false) rest count
    → IsGroup key xs t (take count rest)
cut_out {A} key xs rest t first count is a b =
    let at = λ (k : ℕ) (d : A). ap (λ l. get_or l k d) is ∙ get_or-drop first xs k d in
    let long : length rest ≡ length xs - first = ap (length {A = A}) is ∙ length-drop first xs in (
      take first xs,
      drop count rest,
      sym (ap (λ l. take first xs ++ l) (take-append-drop count rest ∙ is) ∙ take-append-drop first xs),
      λ k d l.
          let m = length-take first xs in
          let e = get_or-take first xs k d (omega arith) in
          let f = ltb-true (key (get_or xs k d)) t (a.0 k d (omega arith) (omega arith)) in
          subst (λ (x : A). key x < t) (sym e) f,
      λ k d l.
          let m = length-take count rest in
          let e = get_or-take count rest k d (omega arith) in
          let f = at k d in
          let g = leb-true (key (get_or rest k d)) t (b.0 k d (omega arith) (omega arith)) in
          let h = ltb-false (key (get_or xs (first + k) d)) t (a.1 (first + k) d (omega arith) (omega arith)) in
          let i : key (get_or rest k d) ≡ key (get_or xs (first + k) d) = ap key f in
          subst (λ (x : A). key x ≡ t) (sym e) (omega arith),
      λ k d l.
          let m = length-drop count rest in
          let e = get_or-drop count rest k d in
          let f = leb-false (key (get_or rest (count + k) d)) t (b.1 (count + k) d (omega arith) (omega arith)) in
          subst (λ (x : A). t < key x) (sym e) f,
    )

-- what a search for one number finds
pub group_between : {A : Type 0} (key : A → ℕ) (xs ys : List A) (t : ℕ) → IsBetween key xs t t ys → IsGroup key xs t ys
group_between {A} key xs ys t found =
    let first = found.from in
    let end = found.end in
    let rest = drop first xs in
    let long = length-drop first xs in
    let most = found.most in
    let bound = found.bound in
    let forward = found.forward in
    let at = λ (k : ℕ) (d : A). ap (λ x. leb (key x) t) (get_or-drop first xs k d) in
    subst (λ l. IsGroup key xs t l) (sym found.is) (cut_out key xs rest t first (end - first) refl found.low (
      (λ k d a b. at k d ∙ found.high.0 (first + k) d (omega arith) (elim found.no_more [ inl under ↦ omega arith | inr none ↦ absurd (omega arith) ])),
      (λ k d a b. at k d ∙ found.high.1 (first + k) d (omega arith) (omega arith)),
    ))

-- what stands between two places, where what is before is less, and what is after greater
pub between : {A : Type 0} (key : A → ℕ) (xs : List A) (t first end : ℕ) → first ≤ end → end ≤ length xs
    → AllWithin (λ x. key x < t) xs 0 first → AllWithin (λ x. key x ≡ t) xs first end → AllWithin (λ x. t < key x) xs end (length xs)
    → IsGroup key xs t (take (end - first) (drop first xs))
between {A} key xs t first end l m below at above =
    let no_less = λ (k : ℕ) (d : A) (a : first ≤ k) (b : k < length xs). no_less_at k d a b (cases_lt k end) in
    let long = length-drop first xs in
    let same = λ (k : ℕ) (d : A). ap key (get_or-drop first xs k d) in
    cut_out key xs (drop first xs) t first (end - first) refl
    ((λ k d a b. lt-ltb (key (get_or xs k d)) t (below k d a b)), (λ k d a b. le-ltb (key (get_or xs k d)) t (no_less k d a b))) (
      (λ k d a b. le-leb (key (get_or (drop first xs) k d)) t (let e = same k d in let f = at (first + k) d (omega arith) (omega arith) in omega arith)),
      (λ k d a b. lt-leb (key (get_or (drop first xs) k d)) t (let e = same k d in let f = above (first + k) d (omega arith) (omega arith) in omega arith)),
    )
  where
    no_less_at : (k : ℕ) (d : A) → first ≤ k → k < length xs → (k < end) ⊎ (end ≤ k) → t ≤ key (get_or xs k d)
    no_less_at k d a b (inl less) = let e = at k d a less in omega arith
    no_less_at k d a b (inr more) = let e = above k d more b in omega arith
