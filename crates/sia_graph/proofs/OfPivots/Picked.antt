-- What is picked, one after another, from a list of all that has a property.
use Rattle.std.proofs.Common.{◌≡◌, inl, inr, ℕ, ◌+◌, ◌<◌, ◌≤◌, List, [], ◌∷◌, ◌++◌, length, get_or, take, sym, ◌∙◌, subst, arith}
use Rattle.std.specs.Prelude.{AllPairs, Contains}
use Rattle.std.proofs.lemmas.List.{get_or-take, get_or_default, length-take, take_more, take_all}
use Rattle.std.proofs.lemmas.List.Elements.{Contains-push, Contains-append_left, Contains-append_cases}
use Rattle.std.proofs.lemmas.List.Quantifiers.{all_pairs_push}
use Rattle.sia_events.specs.Lists.{ListsBy, Precedes}
use Rattle.sia_graph.proofs.Shared.Positions.{only_one_in}

module _ {A : Type 0} (rank : A → List ℕ) (Q : A → Type 0) (xs : List A) where
  -- those of the first n that have Q
  abbrev pub ArePicked : ℕ → List A → Type 0
  ArePicked n ys = ListsBy rank (λ x. Contains (take n xs) x × Q x) ys

  module _ (up : AllPairs (λ x y. Precedes (rank x) (rank y)) xs) (n : ℕ) (d : A) (within : n < length xs) (ys now : List A) (are : ArePicked n ys) where
    abbrev next : A
    next = get_or xs n d

    further : (x : A) → Contains (take n xs) x → Contains (take (n + 1) xs) x
    further x c = subst (λ l. Contains l x) (sym (take_more xs n d within)) (Contains-append_left (take n xs) (next ∷ []) x c)

    further_next : Contains (take (n + 1) xs) next
    further_next = subst (λ l. Contains l next) (sym (take_more xs n d within)) (Contains-push (take n xs) next)

    -- what is picked already precedes the next
    before_next : (k : ℕ) (e : A) → k < length ys → Precedes (rank (get_or ys k e)) (rank next)
    before_next k e l =
        let y = get_or ys k e in
        let at = ((are.each y).0 (k, l, get_or_default ys k y e l)).0 in
        let long = length-take n xs in
        let same : get_or xs at.0 d ≡ y = get_or_default xs at.0 d y (omega arith) ∙ sym (get_or-take n xs at.0 y (omega arith)) ∙ at.2 in
        subst (λ z. Precedes (rank z) (rank next)) same (up at.0 n d (omega arith) within)

    pub picked_more : Q next → now ≡ ys ++ next ∷ [] → ArePicked (n + 1) now
    picked_more has is = subst (ArePicked (n + 1)) (sym is) (record {
      ascending = all_pairs_push (λ x y. Precedes (rank x) (rank y)) ys next are.ascending before_next;
      each = λ y. (
        (λ c. elim (Contains-append_cases ys (next ∷ []) y c) [
          | inl old ↦ let w = (are.each y).0 old in (further y w.0, w.1)
          | inr new ↦ subst (λ z. Contains (take (n + 1) xs) z × Q z) (only_one_in next y new) (further_next, has)
        ]),
        (λ w. elim (Contains-append_cases (take n xs) (next ∷ []) y (subst (λ l. Contains l y) (take_more xs n d within) w.0)) [
          | inl old ↦ Contains-append_left ys (next ∷ []) y ((are.each y).1 (old, w.1))
          | inr new ↦ subst (Contains (ys ++ next ∷ [])) (only_one_in next y new) (Contains-push ys next)
        ]),
      );
    })

    pub picked_same : ¬ Q next → now ≡ ys → ArePicked (n + 1) now
    picked_same lacks is = subst (ArePicked (n + 1)) (sym is) (record {
      ascending = are.ascending;
      each = λ y. (
        (λ c. let w = (are.each y).0 c in (further y w.0, w.1)),
        (λ w. elim (Contains-append_cases (take n xs) (next ∷ []) y (subst (λ l. Contains l y) (take_more xs n d within) w.0)) [
          | inl old ↦ (are.each y).1 (old, w.1)
          | inr new ↦ absurd (lacks (subst Q (sym (only_one_in next y new)) w.1))
        ]),
      );
    })

  pub all_picked : (n : ℕ) → length xs ≤ n → (ys : List A) → ArePicked n ys → ListsBy rank (λ x. Contains xs x × Q x) ys
  all_picked n long ys are = subst (λ l. ListsBy rank (λ x. Contains l x × Q x) ys) (take_all n xs long) are
