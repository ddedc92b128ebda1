-- Lists of members by their places, and an order of all committed transactions that keeps a relation.
-- Lists that are joined, and a list that is parted in two: what each part holds, and in which order.
use Rattle.std.proofs.Common.{◌≡◌, ◌≢◌, inl, inr, ℕ, zero, suc, ◌<◌, List, [], ◌∷◌, slice_get, Some, ap, sym, arith, ◌⊎◌, Bool, true, false, cond, ◌++◌, refl, subst, AllPairs, Contains, filter, ◌∙◌}
use Rattle.std.proofs.lemmas.Option.{same_Some}
use Rattle.sia_events.specs.declared.event.Event.{Event}
use Rattle.sia_events.specs.Replay.{StandsBefore, IsOrder}
use Rattle.sia_events.specs.Transactions.{IsCommitted}
use Rattle.sia_events.proofs.Shared.Decisions.{Decided}
use Rattle.sia_graph.proofs.Shared.ReadyOrders.{In, IsAhead, IsOnce, IsFed, order_among}
use Rattle.sia_events.specs.Lists.{Precedes}
use Rattle.sia_parts.proofs.Auditing.Members.{later_pairs, first_before}
use Rattle.sia_graph.proofs.Shared.Positions.{contains_stands}
use Rattle.sia_graph.proofs.OfLaws.FiniteLists.{list_of_txns}
use Rattle.sia_events.proofs.Shared.TransactionDecisions.{committed_or_not}
use Rattle.std.proofs.lemmas.List.{get_or_default}
use Rattle.std.proofs.lemmas.List.Kept.{AllPairs-cons}

pub in_contains : (t : ℕ) (xs : List ℕ) → In t xs → Contains xs t
in_contains t [] i = absurd i
in_contains t (x ∷ xs) (inl e) = (0, omega arith, e)
in_contains t (x ∷ xs) (inr i) = let c = in_contains t xs i in let l = c.1 in (suc c.0, omega arith, c.2)

pub in_place : (t : ℕ) (xs : List ℕ) → In t xs → (i : ℕ) × (slice_get xs i ≡ Some t)
in_place t xs i = contains_stands xs t (in_contains t xs i)

pub place_in : (t : ℕ) (xs : List ℕ) (i : ℕ) → slice_get xs i ≡ Some t → In t xs
place_in t [] i e = cc
place_in t (x ∷ xs) zero e = inl (same_Some x t e)
place_in t (x ∷ xs) (suc i) e = inr (place_in t xs i e)

pub contains_in : (xs : List ℕ) (t : ℕ) → Contains xs t → In t xs
contains_in xs t c = let s = contains_stands xs t c in place_in t xs s.0 s.1

pub ahead_stands : (t u : ℕ) (xs : List ℕ) → IsAhead t u xs → StandsBefore xs t u
ahead_stands t u [] p = absurd p
ahead_stands t u (x ∷ xs) (inl w) = let j = in_place u xs w.1 in (0, suc j.0, omega arith, ap Some w.0, j.1)
ahead_stands t u (x ∷ xs) (inr p) = let w = ahead_stands t u xs p in let l = w.2 in (suc w.0, suc w.1, omega arith, w.3, w.4)

pub once_pairs : (xs : List ℕ) → IsOnce xs → AllPairs (λ x y. x ≢ y) xs
once_pairs [] o = λ i j d less below. absurd (omega arith)
once_pairs (x ∷ xs) o = AllPairs-cons (λ x y. x ≢ y) x xs (λ k d below e. o.0 (contains_in xs x (k, below, get_or_default xs k x d below ∙ sym e))) (once_pairs xs o.1)

-- where no part of the committed transactions is fed, an order of them keeps every edge between committed transactions
pub order_exists : (h : List Event) (Edge : ℕ → ℕ → Type 0) → ((s t : ℕ) → Decided (Edge s t)) → ((x : ℕ) (xs : List ℕ) → ((t : ℕ) → In t (x ∷ xs) → IsCommitted h t) → ¬ IsFed Edge (x ∷ xs))
    → (order : List ℕ) × IsOrder h order × ((t u : ℕ) → IsCommitted h t → IsCommitted h u → Edge t u → StandsBefore order t u)
order_exists h Edge decide none_fed =
    let all = list_of_txns h (IsCommitted h) (committed_or_not h) (λ t c. c) in
    let into = λ (t : ℕ) (c : IsCommitted h t). contains_in all.0 t ((all.1.each t).1 c) in
    let back = λ (t : ℕ) (i : In t all.0). (all.1.each t).0 (in_contains t all.0 i) in
    let made = order_among Edge decide (IsCommitted h) none_fed all.0 back in
    let k = made.1 in (
      made.0,
      record { once = once_pairs made.0 k.once; each = λ t. ((λ c. back t (k.back t (contains_in made.0 t c))), (λ c. in_contains t made.0 (k.into t (into t c)))) },
      λ t u c d e. ahead_stands t u made.0 (k.kept t u (into t c) (into u d) e),
    )

pub stands_ahead : (xs : List ℕ) (t u : ℕ) → StandsBefore xs t u → IsAhead t u xs
stands_ahead [] t u s = absurd (let e = s.3 in cc)
stands_ahead (x ∷ xs) t u s = by_places s.0 s.1 s.2 s.3 s.4 (stands_ahead xs t u)
  where
    by_places : (i j : ℕ) → i < j → slice_get (x ∷ xs) i ≡ Some t → slice_get (x ∷ xs) j ≡ Some u → (StandsBefore xs t u → IsAhead t u xs) → IsAhead t u (x ∷ xs)
    by_places i zero l a b later = absurd (omega arith)
    by_places zero (suc j) l a b later = inl (same_Some x t a, place_in u xs j b)
    by_places (suc i) (suc j) l a b later = inr (later (i, j, omega arith, a, b))

pub pairs_once : (xs : List ℕ) → AllPairs (λ x y. x ≢ y) xs → IsOnce xs
pairs_once [] once = tt
pairs_once (x ∷ xs) once = ((λ i. first_before (λ x y. x ≢ y) x x xs once (in_contains x xs i) refl), pairs_once xs (later_pairs (λ x y. x ≢ y) x xs once))

pub ahead_first : (t u : ℕ) (xs : List ℕ) → IsAhead t u xs → In t xs
ahead_first t u [] a = absurd a
ahead_first t u (x ∷ xs) (inl w) = inl w.0
ahead_first t u (x ∷ xs) (inr a) = inr (ahead_first t u xs a)

pub ahead_second : (t u : ℕ) (xs : List ℕ) → IsAhead t u xs → In u xs
ahead_second t u [] a = absurd a
ahead_second t u (x ∷ xs) (inl w) = inr w.1
ahead_second t u (x ∷ xs) (inr a) = inr (ahead_second t u xs a)

pub in_left : (t : ℕ) (xs ys : List ℕ) → In t xs → In t (xs ++ ys)
in_left t [] ys i = absurd i
in_left t (x ∷ xs) ys (inl e) = inl e
in_left t (x ∷ xs) ys (inr i) = inr (in_left t xs ys i)

pub in_right : (t : ℕ) (xs ys : List ℕ) → In t ys → In t (xs ++ ys)
in_right t [] ys i = i
in_right t (x ∷ xs) ys i = inr (in_right t xs ys i)

pub in_cases : (t : ℕ) (xs ys : List ℕ) → In t (xs ++ ys) → In t xs ⊎ In t ys
in_cases t [] ys i = inr i
in_cases t (x ∷ xs) ys (inl e) = inl (inl e)
in_cases t (x ∷ xs) ys (inr i) = elim (in_cases t xs ys i) [ inl a ↦ inl (inr a) | inr b ↦ inr b ]

pub ahead_left : (t u : ℕ) (xs ys : List ℕ) → IsAhead t u xs → IsAhead t u (xs ++ ys)
ahead_left t u [] ys a = absurd a
ahead_left t u (x ∷ xs) ys (inl w) = inl (w.0, in_left u xs ys w.1)
ahead_left t u (x ∷ xs) ys (inr a) = inr (ahead_left t u xs ys a)

pub ahead_right : (t u : ℕ) (xs ys : List ℕ) → IsAhead t u ys → IsAhead t u (xs ++ ys)
ahead_right t u [] ys a = a
ahead_right t u (x ∷ xs) ys a = inr (ahead_right t u xs ys a)

pub ahead_across : (t u : ℕ) (xs ys : List ℕ) → In t xs → In u ys → IsAhead t u (xs ++ ys)
ahead_across t u [] ys i j = absurd i
ahead_across t u (x ∷ xs) ys (inl e) j = inl (e, in_right u xs ys j)
ahead_across t u (x ∷ xs) ys (inr i) j = inr (ahead_across t u xs ys i j)

pub ahead_cases : (t u : ℕ) (xs ys : List ℕ) → IsAhead t u (xs ++ ys) → IsAhead t u xs ⊎ ((In t xs × In u ys) ⊎ IsAhead t u ys)
ahead_cases t u [] ys a = inr (inr a)
ahead_cases t u (x ∷ xs) ys (inl w) = elim (in_cases u xs ys w.1) [ inl a ↦ inl (inl (w.0, a)) | inr b ↦ inr (inl (inl w.0, b)) ]
ahead_cases t u (x ∷ xs) ys (inr a) = grind (arith, in_cases, ahead_cases t u xs ys a)

pub once_split : (xs ys : List ℕ) → IsOnce (xs ++ ys) → IsOnce xs × IsOnce ys × ((t : ℕ) → In t xs → ¬ In t ys)
once_split [] ys o = (tt, o, λ t i. absurd i)
once_split (x ∷ xs) ys o = grind (arith, in_left, in_right, once_split xs ys o.1)

pub once_join : (xs ys : List ℕ) → IsOnce xs → IsOnce ys → ((t : ℕ) → In t xs → ¬ In t ys) → IsOnce (xs ++ ys)
once_join [] ys o p apart = p
once_join (x ∷ xs) ys o p apart = (
  λ i. elim (in_cases x xs ys i) [ inl a ↦ o.0 a | inr b ↦ apart x (inl refl) b ],
  once_join xs ys o.1 p (λ t i. apart t (inr i)),
)

pub precedes_after : (xs ys zs : List ℕ) → Precedes ys zs → Precedes (xs ++ ys) (xs ++ zs)
precedes_after [] ys zs p = p
precedes_after (x ∷ xs) ys zs p = inr (refl, precedes_after xs ys zs p)

-- ys has those of xs that have P, and zs those that have Q, each in the order of xs
pub record IsParted (P Q : ℕ → Type 0) (xs ys zs : List ℕ) : Type 0 where
  pub left : (t : ℕ) → In t ys → P t
  pub right : (t : ℕ) → In t zs → Q t
  pub whole : (t : ℕ) → In t ys ⊎ In t zs → In t xs
  pub parts : (t : ℕ) → In t xs → In t ys ⊎ In t zs
  pub ahead : (t u : ℕ) → IsAhead t u xs → (IsAhead t u ys ⊎ IsAhead t u zs) ⊎ ((In t ys × In u zs) ⊎ (In t zs × In u ys))
  pub once : IsOnce xs → IsOnce ys × IsOnce zs

turned : (P Q : ℕ → Type 0) (xs ys zs : List ℕ) → IsParted P Q xs ys zs → IsParted Q P xs zs ys
turned P Q xs ys zs p = grind arith

put_left : (P Q : ℕ → Type 0) (x : ℕ) (xs ys zs : List ℕ) → P x → IsParted P Q xs ys zs → IsParted P Q (x ∷ xs) (x ∷ ys) zs
put_left P Q x xs ys zs has p = grind arith

put_right : (P Q : ℕ → Type 0) (x : ℕ) (xs ys zs : List ℕ) → Q x → IsParted P Q xs ys zs → IsParted P Q (x ∷ xs) ys (x ∷ zs)
put_right P Q x xs ys zs has p = turned Q P (x ∷ xs) (x ∷ zs) ys (put_left Q P x xs zs ys has (turned P Q xs ys zs p))

nothing_parted : (P Q : ℕ → Type 0) → IsParted P Q [] [] []
nothing_parted P Q = grind arith

-- a list can be parted by any property, as far as a contradiction is sought
pub parted : (P : ℕ → Type 0) (xs : List ℕ) → ((ys zs : List ℕ) → ¬ IsParted P (λ t. ¬ P t) xs ys zs) → ⊥
parted P [] none = none [] [] (nothing_parted P (λ t. ¬ P t))
parted P (x ∷ xs) none = parted P xs
    (λ ys zs p.
    let lacks : ¬ P x = λ has. none (x ∷ ys) zs (put_left P (λ t. ¬ P t) x xs ys zs has p) in
    none ys (x ∷ zs) (put_right P (λ t. ¬ P t) x xs ys zs lacks p))

module _ (test : ℕ → Bool) where
  -- a filter parts the list
  pub filter_parted : (xs : List ℕ) → (zs : List ℕ) × IsParted (λ t. test t ≡ true) (λ t. test t ≡ false) xs (filter test xs) zs
  filter_parted [] = ([], nothing_parted (λ t. test t ≡ true) (λ t. test t ≡ false))
  filter_parted (x ∷ xs) = let rest = filter_parted xs in by_test (test x) refl rest.0 rest.1
    where
      by_test : (b : Bool) → test x ≡ b → (zs : List ℕ) → IsParted (λ t. test t ≡ true) (λ t. test t ≡ false) xs (filter test xs) zs
          → (ws : List ℕ) × IsParted (λ t. test t ≡ true) (λ t. test t ≡ false) (x ∷ xs) (cond b (x ∷ filter test xs) (filter test xs)) ws
      by_test true e zs p = (zs, put_left (λ t. test t ≡ true) (λ t. test t ≡ false) x xs (filter test xs) zs e p)
      by_test false e zs p = (x ∷ zs, put_right (λ t. test t ≡ true) (λ t. test t ≡ false) x xs (filter test xs) zs e p)

  pub filter_in : (xs : List ℕ) (t : ℕ) → In t (filter test xs) → In t xs × (test t ≡ true)
  filter_in xs t i = let p = filter_parted xs in (p.1.whole t (inl i), p.1.left t i)

  pub in_filter : (xs : List ℕ) (t : ℕ) → In t xs → test t ≡ true → In t (filter test xs)
  in_filter xs t i e = let p = filter_parted xs in elim (p.1.parts t i) [ inl a ↦ a | inr b ↦ absurd (let f = p.1.right t b in cc) ]

  pub ahead_filter : (xs : List ℕ) (t u : ℕ) → IsAhead t u xs → test t ≡ true → test u ≡ true → IsAhead t u (filter test xs)
  ahead_filter xs t u a e f =
      let p = filter_parted xs in
      elim (p.1.ahead t u a) [
        | inl (inl b) ↦ b
        | inl (inr b) ↦ absurd (let g = p.1.right t (ahead_first t u p.0 b) in cc)
        | inr (inl w) ↦ absurd (let g = p.1.right u w.1 in cc)
        | inr (inr w) ↦ absurd (let g = p.1.right t w.0 in cc)
      ]

  -- ys is the filter of front, or goes on from it with less than r
  abbrev pub GoesOnBelow : List ℕ → ℕ → List ℕ → Type 0
  GoesOnBelow front r ys = (ys ≡ filter test front) ⊎ ((m : ℕ) × (rest : List ℕ) × (ys ≡ filter test front ++ m ∷ rest) × (m < r))

  abbrev IsSplit : List ℕ → List ℕ → Type 0
  IsSplit xs ys = (front : List ℕ) × (r : ℕ) × (rest : List ℕ) × (xs ≡ front ++ r ∷ rest) × (test r ≡ true) × GoesOnBelow front r ys

  -- where a list before the filter of xs leaves it
  pub split : (xs ys : List ℕ) → Precedes ys (filter test xs) → IsSplit xs ys
  split [] [] p = absurd p
  split [] (y ∷ ys) p = absurd p
  split (x ∷ xs) ys p = by_test (test x) refl ys p (split xs)
    where
      none : (zs : List ℕ) → test x ≡ false → filter test zs ≡ filter test (x ∷ zs)
      none zs e = ap (λ b. cond b (x ∷ filter test zs) (filter test zs)) (sym e)

      passed : (ys : List ℕ) → test x ≡ false → IsSplit xs ys → IsSplit (x ∷ xs) ys
      passed ys e w = (
        x ∷ w.0,
        w.1,
        w.2,
        ap (λ l. x ∷ l) w.3,
        w.4,
        subst (λ l. (ys ≡ l) ⊎ ((m : ℕ) × (rest : List ℕ) × (ys ≡ l ++ m ∷ rest) × (m < w.1))) (none w.0 e) w.5,
      )

      kept : (ys : List ℕ) → test x ≡ true → IsSplit xs ys → IsSplit (x ∷ xs) (x ∷ ys)
      kept ys e w = (
        x ∷ w.0,
        w.1,
        w.2,
        ap (λ l. x ∷ l) w.3,
        w.4,
        subst (λ l. (x ∷ ys ≡ l) ⊎ ((m : ℕ) × (rest : List ℕ) × (x ∷ ys ≡ l ++ m ∷ rest) × (m < w.1))) (ap (λ b. cond b (x ∷ filter test w.0) (filter test w.0)) (sym e))
            (elim (w.5) [ inl same ↦ inl (ap (λ l. x ∷ l) same) | inr v ↦ inr (v.0, v.1, ap (λ l. x ∷ l) v.2, v.3) ]),
      )

      by_test : (b : Bool) → test x ≡ b → (ys : List ℕ) → Precedes ys (cond b (x ∷ filter test xs) (filter test xs)) → ((ys : List ℕ) → Precedes ys (filter test xs) → IsSplit xs ys) → IsSplit (x ∷ xs) ys
      by_test false e ys p rest = passed ys e (rest ys p)
      by_test true e [] p rest = ([], x, xs, refl, e, inl refl)
      by_test true e (y ∷ ys) (inl l) rest = ([], x, xs, refl, e, inr (y, ys, refl, l))
      by_test true e (y ∷ ys) (inr w) rest = subst (λ z. IsSplit (x ∷ xs) (z ∷ ys)) (sym w.0) (kept ys e (rest ys w.1))
