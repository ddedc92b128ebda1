-- What is taken of the nodes is, by name and without the blocks, taken of the members that they stand for.
use Rattle.std.proofs.Common.{◌≡◌, ℕ, ◌+◌, ◌-◌, ◌*◌, ◌<◌, ◌≤◌, List, Bool, false, length, get_or, map, ap, sym, subst, ◌∙◌, arith, Contains, IsTrue}
use Rattle.sia_parts.specs.declared.finding.Edge.{Edge}
use Rattle.sia_graph.specs.declared.order.Graph.{Graph}
use Rattle.sia_graph.specs.declared.order.Taken.{Taken}
use Rattle.sia_graph.specs.declared.order.Taken.TheVariants.{Whole, Rest}
use Rattle.sia_graph.specs.Blocks.{without_blocks}
use Rattle.sia_graph.specs.Graphs.{IsGraphEdge}
use Rattle.sia_graph.specs.NarrowSteps.{name_of}
use Rattle.sia_graph.specs.Orders.{IsLeastOrder}
use Rattle.sia_graph.specs.Taken.{AreLeftNodes, AreLeftOver, AreTakenNodes, IsTaken, node_list}
use Rattle.sia_graph.proofs.OfLaws.Blocks.{in_members, members_in}
use Rattle.sia_graph.proofs.Orders.TakenFronts.{range_in}
use Rattle.sia_graph.proofs.Shared.StandIns.{StandFor, least, members, none_keeps, stuck}
use Rattle.sia_index.proofs.VersionRows.DealtVersions.{contains_map, map_contains}

module _ (M : ℕ → Type 0) (E : Edge → Type 0) (size : ℕ) (txns : List ℕ) (graph : Graph) (stands : StandFor M E (2 * size) (node_list size txns) (IsGraphEdge graph) (name_of size txns)) where
  abbrev ids : List ℕ
  ids = node_list size txns

  abbrev name : ℕ → ℕ
  name = name_of size txns

  left_over : (left : List Bool) → AreLeftNodes size txns graph left → AreLeftOver M E txns left
  left_over left w = record {
    long = w.long;
    some = some_left;
    none_keeps = none_keeps M E (2 * size) ids (IsGraphEdge graph) name stands w.set w.is_stuck w.some.0 w.some.1;
    stuck = map name (without_blocks (2 * size) w.set);
    is_stuck = stuck M E (2 * size) ids (IsGraphEdge graph) name stands w.set w.is_stuck;
    each = λ t. (
      (λ c.
          let a = map_contains name (without_blocks (2 * size) w.set) t c in
          let m = members_in (2 * size) w.set a.0 a.1 in
          let i = of_node a.0 m.0 m.1 in
          let e : 2 * size + i.0 - 2 * size ≡ i.0 = omega arith in
          (i.0, i.1, ap (λ n. get_or txns n 0) (sym e) ∙ ap (λ n. name n) i.2 ∙ a.2, i.3)),
      (λ i.
          let e : 2 * size + i.0 - 2 * size ≡ i.0 = omega arith in
          subst (λ x. Contains (map name (without_blocks (2 * size) w.set)) x) (ap (λ n. get_or txns n 0) e ∙ i.2)
          (contains_map name (without_blocks (2 * size) w.set) (2 * size + i.0) (in_members (2 * size) w.set (2 * size + i.0) ((w.each i.0 i.1).0 i.3) (omega arith)))),
    );
  }
    where
      -- a member of the set is the node of a transaction that is left
      of_node : (a : ℕ) → Contains w.set a → 2 * size ≤ a → (i : ℕ) × (i < length txns) × (2 * size + i ≡ a) × IsTrue (get_or left i false)
      of_node a c above =
          let l = range_in (2 * size + length txns) a (w.is_stuck.self_fed a c).0 in
          let same : 2 * size + (a - 2 * size) ≡ a = omega arith in
          let inside : a - 2 * size < length txns = omega arith in
          (a - 2 * size, inside, same, (w.each (a - 2 * size) inside).1 (subst (λ x. Contains w.set x) (sym same) c))

      some_left : (i : ℕ) × (i < length left) × IsTrue (get_or left i false)
      some_left =
          let u = (members M E (2 * size) ids (IsGraphEdge graph) name stands).any_stuck w.set w.is_stuck w.some.0 w.some.1 in
          let m = members_in (2 * size) w.set u.0 u.1 in
          let i = of_node u.0 m.0 m.1 in
          (i.0, (let l = i.1 in let e = w.long in omega arith), i.3)

  pub taken_members : (taken : Taken) → AreTakenNodes size txns graph taken → IsTaken M E txns taken
  taken_members (Whole order) w = subst (λ (l : List ℕ). IsLeastOrder M E l) (sym w.2) (least M E (2 * size) ids (IsGraphEdge graph) name stands w.0 w.1)
  taken_members (Rest left) w = left_over left.items w
