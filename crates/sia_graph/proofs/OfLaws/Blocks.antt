-- Nodes with blocks among them settle what the members settle.
use Rattle.std.proofs.Common.{◌≡◌, ◌⊎◌, inl, inr, ℕ, zero, suc, ◌<◌, ◌≤◌, Bool, true, List, [], ◌∷◌, ◌++◌, refl, subst, arith, Contains, not, nat_lt}
use Rattle.std.proofs.lemmas.Bool.{cases_lt, le-ltb, ltb-false, not-true, not_from_false}
use Rattle.sia_events.specs.Lists.{Precedes}
use Rattle.sia_parts.specs.declared.finding.Edge.{Edge}
use Rattle.sia_graph.specs.Orders.{Leads}
use Rattle.sia_graph.specs.Closures.{IsOrderBy, IsLeastBy, IsStuckBy}
use Rattle.sia_graph.specs.Blocks.{IsWayThrough, LeadsThrough, IsMemberOf, without_blocks, HasBlocks, SettlesMembers}
use Rattle.sia_graph.proofs.Shared.Ways.{Reaches, join}
use Rattle.sia_graph.proofs.Shared.Closures.{keeps_ways, fed_stuck}
use Rattle.sia_graph.proofs.Shared.PartedLists.{contains_in, stands_ahead, pairs_once, ahead_first, ahead_second, in_left, in_right, in_cases, ahead_left, ahead_right, ahead_across, ahead_cases, once_split, once_join, precedes_after, IsParted, parted, filter_parted, filter_in, in_filter, ahead_filter, GoesOnBelow, split, in_contains, once_pairs, ahead_stands}
use Rattle.sia_graph.proofs.Shared.ReadyOrders.{In, IsAhead, IsOnce}

module _ (floor : ℕ) where
  abbrev is_member : ℕ → Bool
  is_member t = not (nat_lt t floor)

  is_above : (t : ℕ) → is_member t ≡ true → floor ≤ t
  is_above t e = ltb-false t floor (not-true (nat_lt t floor) e)

  above_is : (t : ℕ) → floor ≤ t → is_member t ≡ true
  above_is t l = not_from_false (nat_lt t floor) (le-ltb t floor l)

  pub in_members : (xs : List ℕ) (t : ℕ) → Contains xs t → floor ≤ t → Contains (without_blocks floor xs) t
  in_members xs t c l = in_contains t (without_blocks floor xs) (in_filter is_member xs t (contains_in xs t c) (above_is t l))

  pub members_in : (xs : List ℕ) (t : ℕ) → Contains (without_blocks floor xs) t → Contains xs t × (floor ≤ t)
  members_in xs t c = let w = filter_in is_member xs t (contains_in (without_blocks floor xs) t c) in (in_contains t xs w.0, is_above t w.1)

  through_reaches : (Step : ℕ → ℕ → Type 0) (n t u : ℕ) → IsWayThrough floor Step n t u → Reaches Step t u
  through_reaches Step zero t u step = (0, step)
  through_reaches Step (suc n) t u way = join Step t way.0 u (0, way.1) (through_reaches Step n way.0 u way.3)

  module _ (Node : ℕ → Type 0) (Step : ℕ → ℕ → Type 0) where
    -- ways through blocks join members
    pub through_joins : HasBlocks floor Node Step → (t u : ℕ) → LeadsThrough floor Step t u → IsMemberOf floor Node t × IsMemberOf floor Node u
    through_joins has t u through = let w = ends through.2 t u through.3 in ((w.0, through.0), (w.1, through.1))
      where
        ends : (n t u : ℕ) → IsWayThrough floor Step n t u → Node t × Node u
        ends zero t u step = has.joins t u step
        ends (suc n) t u way = ((has.joins t way.0 way.1).0, (ends n way.0 u way.3).1)

    module _ (has : HasBlocks floor Node Step) (stuck : List ℕ) (is_stuck : IsStuckBy Node Step stuck) where
      -- blocks descend on the way back, so it reaches a member
      go_back : (k b n t : ℕ) → b < k → b < floor → floor ≤ t → Contains stuck b → IsWayThrough floor Step n b t → (s : ℕ) × Contains stuck s × LeadsThrough floor Step s t
      go_back zero b n t l block above c way = absurd (omega arith)
      go_back (suc k) b n t l block above c way =
          let w = is_stuck.fed b c in
          elim (cases_lt w.1 floor) [
            | inl other ↦ let less = has.ascends w.1 b w.3 other block in go_back k w.1 (suc n) t (omega arith) other above w.2 (b, w.3, block, way)
            | inr member ↦ (w.1, w.2, (member, above, suc n, (b, w.3, block, way)))
          ]

      member_fed : (t : ℕ) → Contains stuck t → floor ≤ t → (s : ℕ) × Contains stuck s × LeadsThrough floor Step s t
      member_fed t c above =
          let w = is_stuck.fed t c in
          elim (cases_lt w.1 floor) [
            | inl block ↦ go_back (suc w.1) w.1 0 t (omega arith) block above w.2 w.3
            | inr member ↦ (w.1, w.2, (member, above, 0, w.3))
          ]

      pub stuck_members : IsStuckBy (IsMemberOf floor Node) (LeadsThrough floor Step) (without_blocks floor stuck)
      stuck_members = record {
        fed = λ t c.
            let w = members_in stuck t c in
            let s = member_fed t w.0 w.1 in
            (((is_stuck.fed t w.0).0, w.1), s.0, in_members stuck s.0 s.1 s.2.0, s.2);
        greatest = λ set fed t c.
            let within = fed_stuck Node Step (λ u d step. (has.joins u d step).1) stuck is_stuck set (λ u d. let w = fed u d in (w.1, w.2, through_reaches Step w.3.2 w.1 u w.3.3)) t c in
            in_members stuck t within (fed t c).0.1;
      }

      pub some_member : (k t : ℕ) → t < k → Contains stuck t → (u : ℕ) × Contains (without_blocks floor stuck) u
      some_member zero t l c = absurd (omega arith)
      some_member (suc k) t l c =
          let w = is_stuck.fed t c in
          elim (cases_lt t floor) [
            | inr member ↦ (t, in_members stuck t c member)
            | inl block ↦ elim (cases_lt w.1 floor) [
              | inr member ↦ (w.1, in_members stuck w.1 w.2 member)
              | inl other ↦ let less = has.ascends w.1 t w.3 other block in some_member k w.1 (omega arith) w.2
            ]
          ]

    -- an order of the nodes has an order of the members
    members_order : (order : List ℕ) → IsOrderBy Node Step order → IsOrderBy (IsMemberOf floor Node) (LeadsThrough floor Step) (without_blocks floor order)
    members_order order o = (
      record {
        once = let p = filter_parted is_member order in once_pairs (without_blocks floor order) (p.1.once (pairs_once order o.0.once)).0;
        each = λ t. (
          λ c. let w = members_in order t c in ((o.0.each t).0 w.0, w.1),
          λ m. in_members order t ((o.0.each t).1 m.0) m.1,
        );
      },
      λ t u through.
          let way = through_reaches Step through.2 t u through.3 in
          let a = stands_ahead order t u (keeps_ways Step order o.0.once o.1 way.0 t u way.1) in
          ahead_stands t u (without_blocks floor order) (ahead_filter is_member order t u a (above_is t through.0) (above_is u through.1)),
    )

    module _ (front rest : List ℕ) (r : ℕ) (above : floor ≤ r) (order : IsOrderBy Node Step (front ++ r ∷ rest)) where
      in_node : (t : ℕ) → In t (front ++ r ∷ rest) → Node t
      in_node t i = (order.0.each t).0 (in_contains t (front ++ r ∷ rest) i)

      node_in : (t : ℕ) → Node t → In t (front ++ r ∷ rest)
      node_in t n = contains_in (front ++ r ∷ rest) t ((order.0.each t).1 n)

      apart : IsOnce front × IsOnce (r ∷ rest) × ((t : ℕ) → In t front → ¬ In t (r ∷ rest))
      apart = once_split front (r ∷ rest) (pairs_once (front ++ r ∷ rest) order.0.once)

      -- an order of the members has r
      no_prefix : ¬ IsOrderBy (IsMemberOf floor Node) (LeadsThrough floor Step) (without_blocks floor front)
      no_prefix o =
          apart.2 r (contains_in front r (members_in front r ((o.0.each r).1 (in_node r (in_right r front (r ∷ rest) (inl refl)), above))).0) (inl refl)

      module _ (m : ℕ) (more : List ℕ) (less : m < r) (o : IsOrderBy (IsMemberOf floor Node) (LeadsThrough floor Step) (without_blocks floor front ++ m ∷ more)) where
        apart_members : IsOnce (without_blocks floor front) × IsOnce (m ∷ more) × ((t : ℕ) → In t (without_blocks floor front) → ¬ In t (m ∷ more))
        apart_members = once_split (without_blocks floor front) (m ∷ more) (pairs_once (without_blocks floor front ++ m ∷ more) o.0.once)

        m_member : IsMemberOf floor Node m
        m_member = (o.0.each m).0 (in_contains m (without_blocks floor front ++ m ∷ more) (in_right m (without_blocks floor front) (m ∷ more) (inl refl)))

        m_later : In m rest
        m_later = elim (in_cases m front (r ∷ rest) (node_in m m_member.0)) [
          | inl i ↦ absurd (apart_members.2 m (in_filter is_member front m i (above_is m m_member.1)) (inl refl))
          | inr (inl e) ↦ absurd (let same : r ≡ m = e in omega arith)
          | inr (inr i) ↦ i
        ]

        -- t is m, or a block from which blocks alone lead to m
        abbrev GoesAlong : ℕ → Type 0
        GoesAlong t = (t ≡ m) ⊎ ((t < floor) × (n : ℕ) × IsWayThrough floor Step n t m)

        in_front : (x y : ℕ) → floor ≤ x → Step x y → GoesAlong y → In x front
        in_front x y member step along = by_place (ahead_cases x m (without_blocks floor front) (m ∷ more) (stands_ahead (without_blocks floor front ++ m ∷ more) x m (o.1 x m leads)))
          where
            leads : LeadsThrough floor Step x m
            leads = elim along [
              | inl e ↦ (member, m_member.1, 0, subst (λ z. Step x z) e step)
              | inr w ↦ (member, m_member.1, suc w.1, (y, step, w.0, w.2))
            ]

            by_place : IsAhead x m (without_blocks floor front) ⊎ ((In x (without_blocks floor front) × In m (m ∷ more)) ⊎ IsAhead x m (m ∷ more)) → In x front
            by_place (inl a) = (filter_in is_member front x (ahead_first x m (without_blocks floor front) a)).0
            by_place (inr (inl w)) = (filter_in is_member front x w.0).0
            by_place (inr (inr (inl w))) = absurd (apart_members.1.0 w.1)
            by_place (inr (inr (inr a))) = absurd (apart_members.1.0 (ahead_second x m more a))

        -- what has a step to what goes along, and stands behind the front, goes along
        goes_along : (x y : ℕ) → Step x y → In x (r ∷ rest) → GoesAlong y → GoesAlong x
        goes_along x y step i along = elim (cases_lt x floor) [
          | inr member ↦ absurd (apart.2 x (in_front x y member step along) i)
          | inl block ↦ elim along [
            | inl e ↦ inr (block, 0, subst (λ z. Step x z) e step)
            | inr w ↦ inr (block, suc w.1, (y, step, w.0, w.2))
          ]
        ]

        r_stays : ¬ GoesAlong r
        r_stays along = elim along [ inl e ↦ (let same : r ≡ m = e in omega arith) | inr w ↦ (let l = w.0 in omega arith) ]

        -- what goes along, moved before r, makes an order of the nodes that is before theirs
        module _ (ys zs : List ℕ) (p : IsParted GoesAlong (λ t. ¬ GoesAlong t) rest ys zs) where
          to_moved : (t : ℕ) → In t (r ∷ rest) → In t (ys ++ r ∷ zs)
          to_moved t (inl e) = in_right t ys (r ∷ zs) (inl e)
          to_moved t (inr i) = elim (p.parts t i) [ inl a ↦ in_left t ys (r ∷ zs) a | inr b ↦ in_right t ys (r ∷ zs) (inr b) ]

          from_moved : (t : ℕ) → In t (ys ++ r ∷ zs) → In t (r ∷ rest)
          from_moved t i = elim (in_cases t ys (r ∷ zs) i) [
            | inl a ↦ inr (p.whole t (inl a))
            | inr (inl e) ↦ inl e
            | inr (inr b) ↦ inr (p.whole t (inr b))
          ]

          within : (x y : ℕ) → Step x y → IsAhead x y (r ∷ rest) → IsAhead x y (ys ++ r ∷ zs)
          within x y step (inl w) = grind (arith, r_stays, goes_along, ahead_right, ahead_left, ahead_across)
          within x y step (inr a) = grind (arith, r_stays, goes_along, ahead_right, ahead_left, ahead_across)

          moved_order : IsOrderBy Node Step (front ++ (ys ++ r ∷ zs))
          moved_order = (
            record {
              once = once_pairs (front ++ (ys ++ r ∷ zs)) (grind (arith, apart, once_join, from_moved));
              each = λ t. (
                λ c. in_node t (elim (in_cases t front (ys ++ r ∷ zs) (contains_in (front ++ (ys ++ r ∷ zs)) t c)) [
                  | inl i ↦ in_left t front (r ∷ rest) i
                  | inr j ↦ in_right t front (r ∷ rest) (from_moved t j)
                ]),
                λ n. in_contains t (front ++ (ys ++ r ∷ zs)) (elim (in_cases t front (r ∷ rest) (node_in t n)) [
                  | inl i ↦ in_left t front (ys ++ r ∷ zs) i
                  | inr j ↦ in_right t front (ys ++ r ∷ zs) (to_moved t j)
                ]),
              );
            },
            λ x y step. ahead_stands x y (front ++ (ys ++ r ∷ zs)) (elim (ahead_cases x y front (r ∷ rest) (stands_ahead (front ++ r ∷ rest) x y (order.1 x y step))) [
              | inl a ↦ ahead_left x y front (ys ++ r ∷ zs) a
              | inr (inl w) ↦ ahead_across x y front (ys ++ r ∷ zs) w.0 (to_moved y w.1)
              | inr (inr a) ↦ ahead_right x y front (ys ++ r ∷ zs) (within x y step a)
            ]),
          )

          moved_before : Precedes (front ++ (ys ++ r ∷ zs)) (front ++ r ∷ rest)
          moved_before = precedes_after front (ys ++ r ∷ zs) (r ∷ rest) (starts ys p.left (elim (p.parts m m_later) [ inl i ↦ i | inr j ↦ absurd (p.right m j (inl refl)) ]))
            where
              lower : (y : ℕ) → GoesAlong y → y < r
              lower y (inl e) = let same : y ≡ m = e in omega arith
              lower y (inr w) = let l = w.0 in omega arith

              starts : (ys : List ℕ) → ((t : ℕ) → In t ys → GoesAlong t) → In m ys → Precedes (ys ++ r ∷ zs) (r ∷ rest)
              starts [] along i = absurd i
              starts (y ∷ ys) along i = inl (lower y (along y (inl refl)))

        some_before : ((other : List ℕ) → IsOrderBy Node Step other → ¬ Precedes other (front ++ r ∷ rest)) → ⊥
        some_before least = parted GoesAlong rest (λ ys zs p. least (front ++ (ys ++ r ∷ zs)) (moved_order ys zs p) (moved_before ys zs p))

    none_before : (order : List ℕ) → IsLeastBy Node Step order → (other : List ℕ) → IsOrderBy (IsMemberOf floor Node) (LeadsThrough floor Step) other
        → ¬ Precedes other (without_blocks floor order)
    none_before order least other o before =
        let s = split is_member order other before in
        at s.0 s.1 s.2 (is_above s.1 s.4) (subst (λ l. IsLeastBy Node Step l) s.3 least) s.5
      where
        at : (front : List ℕ) (r : ℕ) (rest : List ℕ) → floor ≤ r → IsLeastBy Node Step (front ++ r ∷ rest) → GoesOnBelow is_member front r other → ⊥
        at front r rest above l (inl e) = no_prefix front rest r above l.0 (subst (λ x. IsOrderBy (IsMemberOf floor Node) (LeadsThrough floor Step) x) e o)
        at front r rest above l (inr w) = some_before front rest r above l.0 w.0 w.1 w.3 (subst (λ x. IsOrderBy (IsMemberOf floor Node) (LeadsThrough floor Step) x) w.2 o) l.1

    pub least_members : (order : List ℕ) → IsLeastBy Node Step order → IsLeastBy (IsMemberOf floor Node) (LeadsThrough floor Step) (without_blocks floor order)
    least_members order least = (members_order order least.0, none_before order least)

  pub settles_members : (Node : ℕ → Type 0) (E : Edge → Type 0) → HasBlocks floor Node (Leads E) → SettlesMembers floor Node E
  settles_members Node E has = record {
    least = least_members Node (Leads E);
    stuck = λ set s. stuck_members Node (Leads E) has set (record { fed = s.self_fed; greatest = s.greatest });
    any_stuck = λ set s t c. some_member Node (Leads E) has set (record { fed = s.self_fed; greatest = s.greatest }) (suc t) t (omega arith) c;
  }
