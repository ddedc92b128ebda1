-- Members under other numbers that ascend as they do settle alike.
use Rattle.std.proofs.Common.{◌≡◌, ◌↔◌, inl, inr, ℕ, List, [], ◌∷◌, map, refl, ap, sym, subst, arith, Contains}
use Rattle.std.proofs.lemmas.Bool.{cases_order}
use Rattle.sia_events.specs.Lists.{Precedes}
use Rattle.sia_graph.specs.Closures.{IsOrderBy, IsLeastBy, IsFedBy, IsStuckBy}
use Rattle.sia_graph.specs.StandIns.{IsNameOf, NamesAscend, LeadsByName}
use Rattle.sia_graph.proofs.Shared.PartedLists.{contains_in, stands_ahead, pairs_once, in_contains, once_pairs, ahead_stands}
use Rattle.sia_graph.proofs.Shared.ReadyOrders.{In, IsAhead, IsOnce}

module _ (name : ℕ → ℕ) where
  pub in_map : (xs : List ℕ) (a : ℕ) → In a xs → In (name a) (map name xs)
  in_map [] a i = absurd i
  in_map (x ∷ xs) a (inl e) = inl (ap name e)
  in_map (x ∷ xs) a (inr i) = inr (in_map xs a i)

  map_in : (xs : List ℕ) (t : ℕ) → In t (map name xs) → (a : ℕ) × In a xs × (name a ≡ t)
  map_in [] t i = absurd i
  map_in (x ∷ xs) t (inl e) = (x, inl refl, e)
  map_in (x ∷ xs) t (inr i) = let w = map_in xs t i in (w.0, inr w.1, w.2)

  ahead_map : (xs : List ℕ) (a b : ℕ) → IsAhead a b xs → IsAhead (name a) (name b) (map name xs)
  ahead_map [] a b p = absurd p
  ahead_map (x ∷ xs) a b (inl w) = inl (ap name w.0, in_map xs b w.1)
  ahead_map (x ∷ xs) a b (inr p) = inr (ahead_map xs a b p)

  map_once : (xs : List ℕ) → IsOnce (map name xs) → IsOnce xs
  map_once [] o = tt
  map_once (x ∷ xs) o = (λ i. o.0 (in_map xs x i), map_once xs o.1)

  module _ (Node : ℕ → Type 0) (ascend : NamesAscend Node name) where
    one_name : (a b : ℕ) → Node a → Node b → name a ≡ name b → a ≡ b
    one_name a b n m e = grind (arith, cases_order)

    abbrev AreNodes : List ℕ → Type 0
    AreNodes xs = (a : ℕ) → In a xs → Node a

    in_by_name : (xs : List ℕ) → AreNodes xs → (a : ℕ) → Node a → In (name a) (map name xs) → In a xs
    in_by_name xs nodes a n i = let w = map_in xs (name a) i in subst (λ x. In x xs) (one_name w.0 a (nodes w.0 w.1) n w.2) w.1

    map_ahead : (xs : List ℕ) → AreNodes xs → (a b : ℕ) → Node a → Node b → IsAhead (name a) (name b) (map name xs) → IsAhead a b xs
    map_ahead [] nodes a b n m p = absurd p
    map_ahead (x ∷ xs) nodes a b n m (inl w) = inl (one_name x a (nodes x (inl refl)) n w.0, in_by_name xs (λ c i. nodes c (inr i)) b m w.1)
    map_ahead (x ∷ xs) nodes a b n m (inr p) = inr (map_ahead xs (λ c i. nodes c (inr i)) a b n m p)

    once_map : (xs : List ℕ) → AreNodes xs → IsOnce xs → IsOnce (map name xs)
    once_map [] nodes o = tt
    once_map (x ∷ xs) nodes o = (λ i. o.0 (in_by_name xs (λ c j. nodes c (inr j)) x (nodes x (inl refl)) i), once_map xs (λ c i. nodes c (inr i)) o.1)

    map_precedes : (xs ys : List ℕ) → AreNodes xs → AreNodes ys → Precedes (map name xs) (map name ys) → Precedes xs ys
    map_precedes [] [] n m p = absurd p
    map_precedes [] (y ∷ ys) n m p = tt
    map_precedes (x ∷ xs) [] n m p = absurd p
    map_precedes (x ∷ xs) (y ∷ ys) n m (inr w) =
        inr (one_name x y (n x (inl refl)) (m y (inl refl)) w.0, map_precedes xs ys (λ c i. n c (inr i)) (λ c i. m c (inr i)) w.1)
    map_precedes (x ∷ xs) (y ∷ ys) n m (inl l) = elim (cases_order x y) [
      | inl same ↦ let e : name x ≡ name y = ap name same in absurd (omega arith)
      | inr (inl less) ↦ inl less
      | inr (inr more) ↦ let k = ascend y x (m y (inl refl)) (n x (inl refl)) more in absurd (omega arith)
    ]

    -- nodes with these names
    nodes_of : (ys : List ℕ) → ((t : ℕ) → In t ys → IsNameOf Node name t) → (xs : List ℕ) × (map name xs ≡ ys) × AreNodes xs
    nodes_of [] each = ([], refl, λ a i. absurd i)
    nodes_of (y ∷ ys) each =
        let first = each y (inl refl) in
        let rest = nodes_of ys (λ t i. each t (inr i)) in (
          first.0 ∷ rest.0,
          λ i. first.2 i ∷ rest.1 i,
          λ a i. elim i [ inl e ↦ subst Node e first.1 | inr j ↦ rest.2 a j ],
        )

    module _ (M : ℕ → Type 0) (named : (t : ℕ) → M t ↔ IsNameOf Node name t) (Step : ℕ → ℕ → Type 0) (joins : (a b : ℕ) → Step a b → Node a × Node b) where
      named_order : (order : List ℕ) → IsOrderBy Node Step order → IsOrderBy M (LeadsByName name Step) (map name order)
      named_order order o =
          let nodes : AreNodes order = λ a i. (o.0.each a).0 (in_contains a order i) in (
            record {
              once = once_pairs (map name order) (once_map order nodes (pairs_once order o.0.once));
              each = λ t. (
                λ c. let w = map_in order t (contains_in (map name order) t c) in (named t).1 (w.0, nodes w.0 w.1, w.2),
                grind (arith, in_contains, once_pairs, once_map, pairs_once, map_in, contains_in, in_map, ahead_map, stands_ahead, ahead_stands),
              );
            },
            λ t u leads.
                let a = ahead_map order leads.0 leads.1 (stands_ahead order leads.0 leads.1 (o.1 leads.0 leads.1 leads.4)) in
                ahead_stands t u (map name order) (subst (λ x. IsAhead x u (map name order)) leads.2 (subst (λ x. IsAhead (name leads.0) x (map name order)) leads.3 a)),
          )

      order_named : (order : List ℕ) → AreNodes order → IsOrderBy M (LeadsByName name Step) (map name order) → IsOrderBy Node Step order
      order_named order nodes o = (
        record {
          once = once_pairs order (map_once order (pairs_once (map name order) o.0.once));
          each = λ a. (
            λ c. nodes a (contains_in order a c),
            λ n. in_contains a order (in_by_name order nodes a n (contains_in (map name order) (name a) ((o.0.each (name a)).1 ((named (name a)).1 (a, n, refl))))),
          );
        },
        λ a b step.
            let n = joins a b step in
            ahead_stands a b order (map_ahead order nodes a b n.0 n.1 (stands_ahead (map name order) (name a) (name b) (o.1 (name a) (name b) (a, b, refl, refl, step)))),
      )

      pub least_named : (order : List ℕ) → IsLeastBy Node Step order → IsLeastBy M (LeadsByName name Step) (map name order)
      least_named order least = (
        named_order order least.0,
        λ other o before.
            let w = nodes_of other (λ t i. (named t).0 ((o.0.each t).0 (in_contains t other i))) in
            none_before w.0 w.2 (subst (λ l. IsOrderBy M (LeadsByName name Step) l) (sym w.1) o) (subst (λ l. Precedes l (map name order)) (sym w.1) before),
      )
        where
          none_before : (xs : List ℕ) → AreNodes xs → IsOrderBy M (LeadsByName name Step) (map name xs) → ¬ Precedes (map name xs) (map name order)
          none_before xs nodes o before =
              least.1 xs (order_named xs nodes o) (map_precedes xs order nodes (λ a i. (least.0.0.each a).0 (in_contains a order i)) before)

      pub stuck_named : (set : List ℕ) → IsStuckBy Node Step set → IsStuckBy M (LeadsByName name Step) (map name set)
      stuck_named set s = record {
        fed = λ t c.
            let w = map_in set t (contains_in (map name set) t c) in
            let from = s.fed w.0 (in_contains w.0 set w.1) in
            ((named t).1 (w.0, from.0, w.2), name from.1, in_contains (name from.1) (map name set) (in_map set from.1 (contains_in set from.1 from.2)), (from.1, w.0, refl, w.2, from.3));
        greatest = λ other fed t c.
            let w = nodes_of other (λ u i. (named u).0 (fed u (in_contains u other i)).0) in
            within w.0 w.2 (subst (λ l. IsFedBy M (LeadsByName name Step) l) (sym w.1) fed) t (subst (λ l. Contains l t) (sym w.1) c);
      }
        where
          within : (xs : List ℕ) → AreNodes xs → IsFedBy M (LeadsByName name Step) (map name xs) → (t : ℕ) → Contains (map name xs) t → Contains (map name set) t
          within xs nodes fed t c =
              let w = map_in xs t (contains_in (map name xs) t c) in
              in_contains t (map name set) (subst (λ x. In x (map name set)) w.2 (in_map set w.0 (contains_in set w.0 (s.greatest xs nodes_fed w.0 (in_contains w.0 xs w.1)))))
            where
              nodes_fed : IsFedBy Node Step xs
              nodes_fed a d =
                  let i = contains_in xs a d in
                  let from = fed (name a) (in_contains (name a) (map name xs) (in_map xs a i)) in
                  let leads = from.3 in
                  let n = joins leads.0 leads.1 leads.4 in
                  let same = one_name leads.1 a n.1 (nodes a i) leads.3 in (
                    nodes a i,
                    leads.0,
                    in_contains leads.0 xs (in_by_name xs nodes leads.0 n.0 (subst (λ x. In x (map name xs)) (sym leads.2) (contains_in (map name xs) from.1 from.2))),
                    subst (λ x. Step leads.0 x) same leads.4,
                  )
