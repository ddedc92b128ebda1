-- Lists whose elements are linked: each tells the next.
use Rattle.std.proofs.Common.{◌≡◌, ◌≢◌, ℕ, zero, suc, ◌<◌, ◌≤◌, List, [], ◌∷◌, length, get_or, set, refl, ap, sym, subst, ◌∙◌, arith, All, Contains, get_or-set_same, get_or-set_other, length-set}
use Rattle.std.proofs.lemmas.Bool.{cases_eq}
use Rattle.sia_graph.specs.UnderWay.{AreChains, IsChain}

-- a link from what isn't in the chain is none of its links
pub chain_kept : (next : List ℕ) (node v at : ℕ) (xs : List ℕ) → ¬ Contains xs node → IsChain next at xs → IsChain (set next node v) at xs
chain_kept next node v at [] out c = c
chain_kept next node v at (x ∷ xs) out c =
    let long = length-set next node v in
    let l = c.2 in (
      c.0,
      c.1,
      omega arith,
      subst (λ n. IsChain (set next node v) n xs) (sym (get_or-set_other next node x v 0 (λ e. out (0, omega arith, e))))
          (chain_kept next node v (get_or next x 0) xs (λ m. let b = m.1 in out (suc m.0, omega arith, m.2)) c.3),
    )

-- chains from one place are equally long, so nothing stands twice in one
equally_long : (next : List ℕ) (at : ℕ) (xs ys : List ℕ) → IsChain next at xs → IsChain next at ys → length xs ≡ length ys
equally_long next at [] [] c d = refl
equally_long next at [] (y ∷ ys) c d = let a = c in let e = d.0 in let l = d.1 in absurd (omega arith)
equally_long next at (x ∷ xs) [] c d = let a = d in let e = c.0 in let l = c.1 in absurd (omega arith)
equally_long next at (x ∷ xs) (y ∷ ys) c d =
    ap suc (equally_long next (get_or next x 0) xs ys c.3 (subst (λ z. IsChain next (get_or next z 0) ys) (sym d.0 ∙ c.0) d.3))

chain_from : (next : List ℕ) (w at : ℕ) (xs : List ℕ) → IsChain next at xs → Contains xs w → (ys : List ℕ) × IsChain next w ys × (length ys ≤ length xs)
chain_from next w at [] c m = let l = m.1 in absurd (omega arith)
chain_from next w at (x ∷ xs) c m = by_place (chain_from next w (get_or next x 0) xs c.3) m.0 m.1 m.2
  where
    by_place : (Contains xs w → (ys : List ℕ) × IsChain next w ys × (length ys ≤ length xs)) → (k : ℕ) → k < length (x ∷ xs) → get_or (x ∷ xs) k w ≡ w
        → (ys : List ℕ) × IsChain next w ys × (length ys ≤ suc (length xs))
    by_place rest zero l e = (x ∷ xs, subst (λ a. IsChain next a (x ∷ xs)) (c.0 ∙ e) c, omega arith)
    by_place rest (suc k) l e = let r = rest (k, omega arith, e) in let b = r.2 in (r.0, r.1, omega arith)

pub chain_once : (next : List ℕ) (at x : ℕ) (xs : List ℕ) → IsChain next at (x ∷ xs) → ¬ Contains xs x
chain_once next at x xs c m =
    let w = chain_from next x (get_or next x 0) xs c.3 m in
    omega (arith, equally_long next x w.0 (x ∷ xs) w.1 (subst (λ a. IsChain next a (x ∷ xs)) c.0 c))

module _ (first next : List ℕ) (lists : List (List ℕ)) (are : AreChains first next lists) (at : ℕ) (below : at < length first) where
  -- one chain is put in the place of another
  pub one_put : (links : List ℕ) (n : ℕ) (xs : List ℕ) → IsChain links n xs → ((s : ℕ) → s ≢ at → s < length first → IsChain links (get_or first s 0) (get_or lists s []))
      → AreChains (set first at n) links (set lists at xs)
  one_put links n xs chain others = grind (arith, length-set, cases_eq, get_or-set_same, get_or-set_other)

  pub chain_longer : (node : ℕ) → node < length next → node < 4294967295 → All (λ list. ¬ Contains list node) lists
      → AreChains (set first at node) (set next node (get_or first at 0)) (set lists at (node ∷ get_or lists at []))
  chain_longer node inside few out =
      let links = set next node (get_or first at 0) in
      let long = length-set next node (get_or first at 0) in
      let not_in : (s : ℕ) → s < length first → ¬ Contains (get_or lists s []) node = λ s l. out s [] (omega arith) in
      let kept : (s : ℕ) → s < length first → IsChain links (get_or first s 0) (get_or lists s []) = λ s l. chain_kept next node (get_or first at 0) (get_or first s 0) (get_or lists s []) (not_in s l) (are.1 s l) in
      one_put links node (node ∷ get_or lists at [])
      (refl, few, (omega arith), subst (λ n. IsChain links n (get_or lists at [])) (sym (get_or-set_same next node (get_or first at 0) 0 inside)) (kept at below))
      (λ s other l. kept s l)

  pub chain_ended : get_or first at 0 ≡ 4294967295 → get_or lists at [] ≡ []
  chain_ended none = by_list (get_or lists at []) (are.1 at below)
    where
      by_list : (xs : List ℕ) → IsChain next (get_or first at 0) xs → xs ≡ []
      by_list [] c = refl
      by_list (x ∷ xs) c = let e = c.0 in let l = c.1 in absurd (omega arith)

  pub chain_goes_on : get_or first at 0 ≢ 4294967295
      → (get_or first at 0 < length next) × (rest : List ℕ) × (get_or lists at [] ≡ get_or first at 0 ∷ rest) × AreChains (set first at (get_or next (get_or first at 0) 0)) next (set lists at rest)
  chain_goes_on some = by_list (get_or lists at []) refl (are.1 at below)
    where
      by_list : (xs : List ℕ) → get_or lists at [] ≡ xs → IsChain next (get_or first at 0) xs
          → (get_or first at 0 < length next) × (rest : List ℕ) × (get_or lists at [] ≡ get_or first at 0 ∷ rest) × AreChains (set first at (get_or next (get_or first at 0) 0)) next (set lists at rest)
      by_list [] is c = absurd (some c)
      by_list (x ∷ xs) is c =
          let l = c.2 in
          let e = c.0 in (
            omega arith,
            xs,
            is ∙ ap (λ y. y ∷ xs) (sym e),
            one_put next (get_or next (get_or first at 0) 0) xs (subst (λ y. IsChain next (get_or next y 0) xs) (sym e) c.3) (λ s other l. are.1 s l),
          )

-- nothing is linked yet
pub no_chains : (first next : List ℕ) (lists : List (List ℕ)) → length lists ≡ length first → ((s : ℕ) → s < length first → get_or first s 0 ≡ 4294967295)
    → ((s : ℕ) → get_or lists s [] ≡ []) → AreChains first next lists
no_chains first next lists long none empty = (long, λ s l. subst (λ xs. IsChain next (get_or first s 0) xs) (sym (empty s)) (none s l))
