use Rattle.std.proofs.Common.{◌≡◌, ◌≢◌, ◌+◌, ◌∷◌, ◌++◌, ◌<◌, [], ℕ, true, false, length, get_or, refl, ap, sym, subst, ◌∙◌, arith, Contains}
use Rattle.std.proofs.lemmas.List.Elements.{Contains-get_or}
use Rattle.sia_parts.specs.declared.finding.Edge.{Edge}
use Rattle.sia_parts.specs.declared.finding.Kind.TheVariants.{Ww}
use Rattle.sia_parts.specs.Groups.{IsGroup}
use Rattle.sia_parts.specs.Sights.{Adds, FromSome}
use Rattle.sia_parts.proofs.Shared.Adding.{added_to_none, adds_push, from_all, from_more}
use Rattle.sia_parts.proofs.OfReasons.Groups.{group_between}
use Rattle.sia_parts.proofs.OfReasons.InTwoNumbers.{group_holds}
use Rattle.sia_graph.specs.ListedGraphs.{IsTargetOf}
use Rattle.sia_graph.proofs.Shared.AscendingIds.{found_position, ids_rise, one_id}
use Rattle.sia_graph.proofs.Settling.EdgesListed.{AreTargetsAt, all_in, graph_made, group_targets}
use Rattle.sia_graph.proofs.Shared.RowLists.{AreLists, lists_more}
use Rattle.sia_graph.proofs.listed_edges.graph_of.Goals.{After-between-edge-items}
use Rattle.sia_graph.proofs.listed_edges.graph_of.Goals as goal

abbrev none : Edge
none = record { src = 0; dst = 0; kind = Ww; key = 0 }

-- the edges from the id
group : (c : After-between-edge-items) → IsGroup (λ (e : Edge). e.src) c.args.edges.now (get_or c.args.ids.now c.loop-id.id-index 0) c.between-edge-items.result.now
group c = grind (arith, group_between)

pub place_from-requires : goal.place_from-requires
place_from-requires c = ids_rise c.args.ids.now c.requires.ascending

-- where an edge leads is a member
member : (c : After-between-edge-items) (n : ℕ) → n < length c.between-edge-items.result.now → Contains c.args.ids.now (get_or c.between-edge-items.result.now n none).dst
member c n below =
    let edges = c.args.edges.now in
    let own = c.between-edge-items.result.now in
    let edge = get_or own n none in
    let there = (group_holds (λ (e : Edge). e.src) edges (get_or c.args.ids.now c.loop-id.id-index 0) own (group c) edge).0 (Contains-get_or own n none below) in
    (all_in (λ (e : Edge). Contains c.args.ids.now e.src × Contains c.args.ids.now e.dst × (e.src ≢ e.dst)) edges edge c.requires.joins there.0).1

pub loop-edge-preserved : goal.loop-edge-preserved
loop-edge-preserved c =
    let ids = c.args.ids.now in
    let own = c.between-edge-items.result.now in
    let i = c.loop-edge.edge-index in
    let q = c.place_from.result in
    let at = found_position ids c.requires.ascending (get_or own i none).dst q (rw c.from.ensures at c.place_from.ensures.point) (member (goal.at.loop-edge-preserved c).After-between-edge-items i c.loop-edge-test.true) in
    let old = c.loop-edge.row.items in
    let P = IsTargetOf ids (get_or own i none) in
    from_more (IsTargetOf ids) own i none [] old c.push.new.self.items c.loop-edge-test.true c.loop-edge.invariant
    (subst (λ l. Adds P old l) (sym c.in_ok-push.ensures.items)
    (adds_push P old q (at.0, at.1) (λ x p. one_id ids c.requires.ascending q x at.0 p.0 (at.1 ∙ sym p.1))))

pub loop-id-preserved : goal.loop-id-preserved
loop-id-preserved c =
    let ids = c.args.ids.now in
    let edges = c.args.edges.now in
    let i = c.loop-id.id-index in
    let own = c.between-edge-items.result.now in
    let row = c.loop-edge.row.items in
    let has = added_to_none (FromSome (IsTargetOf ids) own) row (from_all (IsTargetOf ids) own c.loop-edge.edge-index [] row c.loop-edge-test.false c.loop-edge.invariant) in
    let targets = group_targets ids edges own i row (group (goal.at.loop-id-preserved c).After-between-edge-items) has in (
      subst (λ lists. AreLists (AreTargetsAt ids edges) lists (i + 1)) (sym (c.in_ok-put_row.ensures ∙ ap (λ r. c.loop-id.targets ++ (r ∷ [])) c.deref.ensures.value))
          (lists_more (AreTargetsAt ids edges) c.loop-id.targets i row c.loop-id.invariant.0 targets),
      subst (λ lists. AreLists (λ q r. r ≡ []) lists (i + 1)) (sym c.in_ok-open.ensures) (lists_more (λ q r. r ≡ []) c.loop-id.sources i [] c.loop-id.invariant.1 refl),
    )

pub returns-clause-made : goal.returns-clause-made
returns-clause-made c =
    let ids = c.args.ids.now in
    let edges = c.args.edges.now in
    let end : c.loop-id.id-index ≡ length ids = (let l = c.loop-id-test.false in let m = c.loop-id.auto.id-index-end in omega arith) in
    graph_made ids c.requires.ascending edges c.requires.joins (record { targets = c.loop-id.targets; sources = c.loop-id.sources })
    (subst (AreLists (AreTargetsAt ids edges) c.loop-id.targets) end c.loop-id.invariant.0) (subst (AreLists (λ q r. r ≡ []) c.loop-id.sources) end c.loop-id.invariant.1)
