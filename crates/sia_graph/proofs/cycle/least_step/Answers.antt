use Rattle.std.proofs.Common.{◌≡◌, ℕ, List, false, true, get_or, refl, sym, subst, arith, rules}
use Rattle.sia_events.specs.declared.event.Event.{Event}
use Rattle.sia_index.proofs.Shared.KeyChains.{key_number}
use Rattle.sia_index.specs.Info.{IsKeyAt}
use Rattle.sia_parts.proofs.Shared.FewNumbers.{few_committed}
use Rattle.sia_parts.specs.Entries.{IsEdge}
use Rattle.sia_parts.specs.declared.finding.Edge.{Edge}
use Rattle.sia_parts.specs.declared.finding.Kind.{Kind}
use Rattle.sia_parts.specs.declared.finding.Kind.TheVariants.{Ww}
use Rattle.sia_graph.specs.Searched.{CanFind, IsEdgeIn}
use Rattle.sia_graph.specs.LeastEdges.{IsLeastEdgeBetween}
use Rattle.sia_graph.specs.Orders.{Leads}
use Rattle.sia_graph.specs.Cycles.{TakesLeastEdge}
use Rattle.sia_graph.specs.declared.cycle.EdgesIn.{EdgesIn}
use Rattle.std.specs.List.Sorted.{IsPartitionPoint}
use Rattle.std.proofs.lemmas.List.Sorted.{IsPartitionPoint-from_clause}
use Rattle.sia_graph.specs.Walks.{is_before}
use Rattle.sia_graph.proofs.Cycles.LeastEdges.{least_edge, parted, point_within}
use Rattle.sia_graph.proofs.cycle.least_step.Goals.{After-least_edge-kind, After-partition_point-i, in-Listed, in-Seen}
use Rattle.sia_graph.proofs.cycle.least_step.Goals as goal

-- where the edges from the one to the other stand in the list
point : (c : After-partition_point-i) → IsPartitionPoint (λ e. is_before (get_or c.args.ids.now c.args.before 0) (get_or c.args.ids.now c.args.at 0) e ≡ true) (λ e. is_before (get_or c.args.ids.now c.args.before 0) (get_or c.args.ids.now c.args.at 0) e ≡ false) c.in-Listed.list.now c.partition_point-i.result
point c =
    let edges = c.in-Listed.list.now in
    let sorted = subst (CanFind c.args.ids.now) c.in-Listed.is c.requires.can in
    IsPartitionPoint-from_clause (is_before (get_or c.args.ids.now c.args.before 0) (get_or c.args.ids.now c.args.at 0)) edges _ c.partition_point-i.ensures.partitioned (parted edges sorted (get_or c.args.ids.now c.args.before 0) (get_or c.args.ids.now c.args.at 0)) (λ a r q k. search rules)

pub bounds-list-i : goal.bounds-list-i
bounds-list-i c =
    let ids = c.args.ids.now in
    let leads = subst (λ (e : EdgesIn). Leads (IsEdgeIn e) (get_or ids c.args.before 0) (get_or ids c.args.at 0)) c.in-Listed.is c.requires.leads in
    point_within c.in-Listed.list.now (subst (CanFind ids) c.in-Listed.is c.requires.can) (get_or ids c.args.before 0) (get_or ids c.args.at 0) _ (point (goal.at.bounds-list-i c).After-partition_point-i) leads

pub overflow_cast-before : goal.overflow_cast-before
overflow_cast-before c =
    let ids = c.args.ids.now in
    let can = subst (CanFind ids) c.in-Seen.is c.requires.can in
    let few = few_committed c.in-Seen.evidence.now.index.now can.1.well_formed c.args.before (get_or ids c.args.before 0) (ids, can.0, c.requires.within.0, refl) in
    omega arith

pub overflow_cast-at : goal.overflow_cast-at
overflow_cast-at c =
    let ids = c.args.ids.now in
    let can = subst (CanFind ids) c.in-Seen.is c.requires.can in
    let few = few_committed c.in-Seen.evidence.now.index.now can.1.well_formed c.args.at (get_or ids c.args.at 0) (ids, can.0, c.requires.within.1, refl) in
    omega arith

pub least_edge-kind-requires-clause-leads : goal.least_edge-kind-requires-clause-leads
least_edge-kind-requires-clause-leads c =
    let ids = c.args.ids.now in
    let can = subst (CanFind ids) c.in-Seen.is c.requires.can in
    let leads = subst (λ (e : EdgesIn). Leads (IsEdgeIn e) (get_or ids c.args.before 0) (get_or ids c.args.at 0)) c.in-Seen.is c.requires.leads in
    (get_or ids c.args.before 0, get_or ids c.args.at 0, (ids, can.0, c.requires.within.0, refl), (ids, can.0, c.requires.within.1, refl), leads)

-- the least edge, and its key
least : (c : After-least_edge-kind) → (k : ℕ) × IsKeyAt c.in-Seen.evidence.now.index.now c.least_edge-kind.result.1 k
    × IsLeastEdgeBetween c.in-Seen.evidence.now.index.now (get_or c.args.ids.now c.args.before 0) (get_or c.args.ids.now c.args.at 0) c.least_edge-kind.result.0 k
least c = grind (arith, in-Seen)

pub bounds-written_keys-key : goal.bounds-written_keys-key
bounds-written_keys-key c =
    let w = least (goal.at.bounds-written_keys-key c).After-least_edge-kind in
    (key_number c.in-Seen.evidence.now.index.now c.written_keys.result.now c.written_keys.ensures c.least_edge-kind.result.1 w.0 w.1).0

-- what is least by one key is least by an equal key
same_key : (h : List Event) (t u : ℕ) (kind : Kind) (k key : ℕ) → k ≡ key → IsLeastEdgeBetween h t u kind k → TakesLeastEdge (IsEdge h) (record { txn = t; kind = kind; key = key }) u
same_key h t u kind k key same least = grind (arith, least)

pub returns-clause-least : goal.returns-clause-least
returns-clause-least c =
    let ids = c.args.ids.now in
    let src = get_or ids c.args.before 0 in
    let dst = get_or ids c.args.at 0 in
    elim c.match-edges.branch [
      | in-Listed w ↦
          let list = w.in-Listed.list.now in
          let none : Edge = record { src = 0; dst = 0; kind = Ww; key = 0 } in
          let x = get_or list w.partition_point-i.result none in
          let can = subst (CanFind ids) w.in-Listed.is c.requires.can in
          let leads = subst (λ (e : EdgesIn). Leads (IsEdgeIn e) src dst) w.in-Listed.is c.requires.leads in
          let point = IsPartitionPoint-from_clause (is_before src dst) list _ w.partition_point-i.ensures.partitioned (parted list can src dst) (λ a r q k. search rules) in
          rw w.kind-is (subst (λ (e : EdgesIn). TakesLeastEdge (IsEdgeIn e) (record { txn = src; kind = x.kind; key = x.key }) dst) (sym w.in-Listed.is) (least_edge list can src dst _ point leads none))
      | in-Seen w ↦
          let h = w.in-Seen.evidence.now.index.now in
          let can = subst (CanFind ids) w.in-Seen.is c.requires.can in
          let f = w.least_edge-kind.ensures src dst (ids, can.0, c.requires.within.0, refl) (ids, can.0, c.requires.within.1, refl) in
          let key = get_or w.written_keys.result.now w.least_edge-kind.result.1 0 in
          rw w.kind-is (subst (λ (e : EdgesIn). TakesLeastEdge (IsEdgeIn e) (record { txn = src; kind = w.least_edge-kind.result.0; key = key }) dst) (sym w.in-Seen.is)
          (same_key h src dst w.least_edge-kind.result.0 f.0 key (sym (key_number h w.written_keys.result.now w.written_keys.ensures w.least_edge-kind.result.1 f.0 f.1).1) f.2))
    ]
