-- The link of the next edge, if that is vulnerable.
use Rattle.std.proofs.Common.{◌≡◌, ◌∷◌, ◌++◌, ◌∙◌, ℕ, List, [], true, false, ltb, length, get_or, map, not, refl, ap, arith, sym, subst, All, Contains}
use Rattle.std.proofs.lemmas.Bool.{false≢true}
use Rattle.std.proofs.lemmas.List.{map-append}
use Rattle.std.proofs.lemmas.List.Elements.{All-push, Contains-get_or}
use Rattle.std.specs.List.Sorted.{IsPartitionPoint}
use Rattle.sia_events.specs.DangerousStructures.{IsFirst, IsPivot, IsVulnerable}
use Rattle.sia_events.specs.declared.event.Event.{Event}
use Rattle.sia_events.specs.Lists.{ListsAscending}
use Rattle.sia_events.specs.Transactions.{IsCommitted}
use Rattle.sia_index.specs.Numbers.{IsCommittedAt}
use Rattle.sia_parts.specs.declared.finding.Edge.{Edge}
use Rattle.sia_parts.specs.declared.finding.Kind.TheVariants.{Ww}
use Rattle.sia_parts.proofs.CutKeys.StartLemmas.{increasing}
use Rattle.sia_parts.proofs.Shared.Adding.{added_are, adds_nothing, adds_push, from_all, from_more}
use Rattle.sia_parts.specs.Sights.{Adds, FromSome}
use Rattle.sia_graph.specs.declared.pivot.Pivot.{Pivot}
use Rattle.sia_graph.specs.Links.{IsVulnerableAt, ListsLinks, link_rank}
use Rattle.sia_graph.specs.Pivots.{ListsNeighbours}
use Rattle.sia_graph.proofs.OfPivots.ListedAs.{listed_as, listed_in_order}
use Rattle.sia_graph.proofs.OfPivots.Picked.{all_picked, picked_more, picked_same}
use Rattle.sia_graph.proofs.OfPivots.Vulnerable.{IsLinkOf, ins_named, is_pivot, links_of_edges, outs_named, source_committed, by_link, dealt_listed, length-dealt, link_before, some_link}
use Rattle.sia_graph.proofs.Shared.AscendingIds.{found_position, ids_rise}
use Rattle.sia_graph.proofs.Shared.Numbered.{txn_number}
use Rattle.sia_parts.proofs.EdgeRows.Readings.{few_txns}
use Rattle.sia_parts.proofs.Shared.OneNumber.{one_committed_number as one_number}
use Rattle.sia_graph.proofs.pivot.pivots.Goals.{After-at-outs, In_ok-put_in_order, then-is_rw_overlap+in_ok-push, else-is_rw_overlap, then-not-is_empty+then-not-is_empty-2+in_ok-names+in_ok-names-2+in_ok-firsts+in_ok-push-2, else-not-is_empty, else-not-is_empty-via-then-not-is_empty+else-not-is_empty-2, else-not-is_empty-via-else-not-is_empty}
use Rattle.sia_graph.proofs.pivot.pivots.Goals as goal

abbrev none : Edge
none = record { src = 0; dst = 0; kind = Ww; key = 0 }

-- the number that a search finds
found : (h : List Event) (txns : List ℕ) → ListsAscending (IsCommitted h) txns → (n t at : ℕ) → n ≡ t → IsPartitionPoint (λ x. ltb x n ≡ true) (λ x. ltb x n ≡ false) txns at → IsCommitted h t → IsCommittedAt h at t
found h txns are n t at is point committed =
    let w = found_position txns (increasing txns are.ascending) t at (subst (λ n. IsPartitionPoint (λ x. ltb x n ≡ true) (λ x. ltb x n ≡ false) txns at) is point) ((are.each t).1 committed) in
    (txns, are, w.0, w.1)

pub overflow_cast-at : goal.overflow_cast-at
overflow_cast-at c =
    omega (arith, few_txns c.args.ix.now c.law.ensures c.committed-txns.result.now c.committed-txns.ensures)

pub place_from-other-requires : goal.place_from-other-requires
place_from-other-requires c = ids_rise c.committed-txns.result.now (increasing c.committed-txns.result.now c.committed-txns.ensures.ascending)

pub overflow_cast-other : goal.overflow_cast-other
overflow_cast-other c =
    omega (arith, few_txns c.args.ix.now c.law.ensures c.committed-txns.result.now c.committed-txns.ensures)

pub loop-e-preserved : goal.loop-e-preserved
loop-e-preserved c =
    let h = c.args.ix.now in
    let edges = c.deref-e-items.result.now in
    let e = get_or edges c.loop-e.e-index none in
    let txns = c.committed-txns.result.now in
    from_more (IsLinkOf h) edges c.loop-e.e-index none [] c.loop-e.links.items c.if-is_rw_overlap.links.items c.loop-e-test.true c.loop-e.invariant
    (elim c.if-is_rw_overlap.branch [
      | then-is_rw_overlap+in_ok-push w ↦
          let is = c.is_rw_overlap.ensures.0 w.if-is_rw_overlap.true in
          let over = is.1 in
          let s = over.1 in
          let d = over.0 in
          let src = found h txns c.committed-txns.ensures w.from.result e.src w.place_from-at.result w.from.ensures w.place_from-at.ensures.point (s.1, s.3) in
          let dst = found h txns c.committed-txns.ensures w.from-then-is_rw_overlap.result e.dst w.place_from-other.result w.from-then-is_rw_overlap.ensures w.place_from-other.ensures.point (d.1, d.3) in
          rw (w.links-is, w.in_ok-push.ensures.items) (adds_push (IsLinkOf h e) c.loop-e.links.items (record { at = w.place_from-at.result; other = w.place_from-other.result })
          (is.0, over, src, dst)
          (λ l is x. record { at = one_number h w.place_from-at.result l.at e.src src is.2 x; other = one_number h w.place_from-other.result l.other e.dst dst is.3 x }))
      | else-is_rw_overlap w ↦ rw w.links-is (adds_nothing (IsLinkOf h e) c.loop-e.links.items (λ l is. false≢true (sym w.if-is_rw_overlap.false ∙ c.is_rw_overlap.ensures.1 (is.0, is.1))))
    ])

-- the links, in order
linked : (c : In_ok-put_in_order) → ListsLinks (IsVulnerableAt c.args.ix.now) c.put_in_order.new.list.items
linked c =
    let h = c.args.ix.now in
    let links = c.loop-e.links.items in
    let edges = c.args.f.now.edges.items in
    let all = subst (λ (es : List Edge). Adds (FromSome (IsLinkOf h) es) [] links) c.deref-e-items.ensures.value (from_all (IsLinkOf h) c.deref-e-items.result.now c.loop-e.e-index [] links c.loop-e-test.false c.loop-e.invariant) in
    let found = c.put_in_order.new.list.items in
    listed_as link_rank (Contains links) (λ l. IsVulnerableAt h l.at l.other) (added_are (FromSome (IsLinkOf h) edges) (λ l. IsVulnerableAt h l.at l.other) links all (links_of_edges h edges c.requires.edges)) found
    (listed_in_order link_rank by_link link_before links found c.in_ok-put_in_order.ensures.sorted c.in_ok-put_in_order.ensures.keeps c.in_ok-put_in_order.ensures.adds_none)

pub deal-requires : goal.deal-requires
deal-requires c = record {
  within = λ k d below.
      let v = ((subst (ListsLinks (IsVulnerableAt c.args.ix.now)) (sym c.deref.ensures.value) (linked (goal.at.deal-requires c).In_ok-put_in_order)).each (get_or c.deref.result.now k d)).0 (Contains-get_or c.deref.result.now k d below) in
      (txn_number c.args.ix.now c.committed-txns.result.now c.committed-txns.ensures _ v.1 v.3).0;
}

pub deal-requires-2 : goal.deal-requires-2
deal-requires-2 c = record {
  within = λ k d below.
      let v = ((subst (ListsLinks (IsVulnerableAt c.args.ix.now)) (sym c.deref-2.ensures.value) (linked (goal.at.deal-requires-2 c).In_ok-put_in_order)).each (get_or c.deref-2.result.now k d)).0 (Contains-get_or c.deref-2.result.now k d below) in
      (txn_number c.args.ix.now c.committed-txns.result.now c.committed-txns.ensures _ v.0 v.2).0;
}

pub at-ins-requires : goal.at-ins-requires
at-ins-requires c = grind (arith, length-dealt)

pub at-outs-requires : goal.at-outs-requires
at-outs-requires c = grind (arith, length-dealt)

-- the vulnerable edges to the number, and from it
ins : (c : After-at-outs) → ListsLinks (IsVulnerableAt c.args.ix.now) c.put_in_order.new.list.items → ListsLinks (λ i j. (j ≡ c.loop-txn.txn) × IsVulnerableAt c.args.ix.now i j) c.at-ins.result.now
ins c links = rw (c.at-ins.ensures, c.in_ok-into.ensures) (dealt_listed (λ l. l.other) (IsVulnerableAt c.args.ix.now) (length c.committed-txns.result.now) c.loop-txn.txn c.deref.result.now c.loop-txn-test.true (subst (ListsLinks (IsVulnerableAt c.args.ix.now)) (sym c.deref.ensures.value) links))

outs : (c : After-at-outs) → ListsLinks (IsVulnerableAt c.args.ix.now) c.put_in_order.new.list.items → ListsLinks (λ i j. (i ≡ c.loop-txn.txn) × IsVulnerableAt c.args.ix.now i j) c.at-outs.result.now
outs c links = rw (c.at-outs.ensures, c.in_ok-out.ensures) (dealt_listed (λ l. l.at) (IsVulnerableAt c.args.ix.now) (length c.committed-txns.result.now) c.loop-txn.txn c.deref-2.result.now c.loop-txn-test.true (subst (ListsLinks (IsVulnerableAt c.args.ix.now)) (sym c.deref-2.ensures.value) links))

pub names-requires : goal.names-requires
names-requires c k d below =
    let v = ((ins (goal.at.names-requires c).After-at-outs (linked (goal.at.names-requires c).In_ok-put_in_order)).each (get_or c.at-ins.result.now k d)).0 (Contains-get_or c.at-ins.result.now k d below) in
    (txn_number c.args.ix.now c.committed-txns.result.now c.committed-txns.ensures _ v.1.0 v.1.2).0

pub names-requires-then-not-is_empty-2 : goal.names-requires-then-not-is_empty-2
names-requires-then-not-is_empty-2 c k d below =
    let v = ((outs (goal.at.names-requires-then-not-is_empty-2 c).After-at-outs (linked (goal.at.names-requires-then-not-is_empty-2 c).In_ok-put_in_order)).each (get_or c.at-outs.result.now k d)).0 (Contains-get_or c.at-outs.result.now k d below) in
    (txn_number c.args.ix.now c.committed-txns.result.now c.committed-txns.ensures _ v.1.1 v.1.3).0

pub firsts-requires-clause-ins : goal.firsts-requires-clause-ins
firsts-requires-clause-ins c = ins (goal.at.firsts-requires-clause-ins c).After-at-outs (linked (goal.at.firsts-requires-clause-ins c).In_ok-put_in_order)

pub firsts-requires-clause-outs : goal.firsts-requires-clause-outs
firsts-requires-clause-outs c = outs (goal.at.firsts-requires-clause-outs c).After-at-outs (linked (goal.at.firsts-requires-clause-outs c).In_ok-put_in_order)

pub firsts-requires-clause-txn : goal.firsts-requires-clause-txn
firsts-requires-clause-txn c = (get_or c.committed-txns.result.now c.loop-txn.txn 0, (c.committed-txns.result.now, c.committed-txns.ensures, c.loop-txn-test.true, refl))

pub loop-txn-preserved : goal.loop-txn-preserved
loop-txn-preserved c =
    let h = c.args.ix.now in
    let txns = c.committed-txns.result.now in
    let n = c.loop-txn.txn in
    let t = get_or txns n 0 in
    let start = (goal.at.loop-txn-preserved c).After-at-outs in
    let links = linked (goal.at.loop-txn-preserved c).In_ok-put_in_order in
    let at : IsCommittedAt h n t = (txns, c.committed-txns.ensures, c.loop-txn-test.true, refl) in
    let found = c.loop-txn.found.items in
    let now = c.if-not-is_empty.found.items in
    let pivot = is_pivot h n t at txns c.committed-txns.ensures c.at-ins.result.now c.at-outs.result.now (ins start links) (outs start links) in
    let has = some_link c.at-ins.result.now c.is_empty.result c.is_empty.ensures in
    elim c.if-not-is_empty.branch [
      | then-not-is_empty+then-not-is_empty-2+in_ok-names+in_ok-names-2+in_ok-firsts+in_ok-push-2 w ↦
          let more = some_link c.at-outs.result.now w.is_empty-then-not-is_empty.result w.is_empty-then-not-is_empty.ensures in
          let entry : Pivot = record { txn = t; ins = w.new.result; outs = w.new-then-not-is_empty-2.result; firsts = w.new-then-not-is_empty-2-2.result } in
          let neighbours : ListsNeighbours h entry = record {
            ins = subst (ListsAscending (λ u. IsVulnerable h u t)) (sym (w.new.ensures ∙ w.in_ok-names.ensures)) (ins_named h n t at txns c.committed-txns.ensures c.at-ins.result.now (ins start links));
            outs = subst (ListsAscending (IsVulnerable h t)) (sym (w.new-then-not-is_empty-2.ensures ∙ w.in_ok-names-2.ensures)) (outs_named h n t at txns c.committed-txns.ensures c.at-outs.result.now (outs start links));
            firsts = subst (ListsAscending (IsFirst h t)) (sym w.new-then-not-is_empty-2-2.ensures) (w.in_ok-firsts.ensures t at);
          } in
          let is : now ≡ found ++ entry ∷ [] = ap (λ v. v.items) w.found-is ∙ w.in_ok-push-2.ensures.items in
          let names = ap (map (λ (p : Pivot). p.txn)) is ∙ map-append (λ (p : Pivot). p.txn) found (entry ∷ []) in (
            picked_more (λ t. t ∷ []) (IsPivot h) txns c.committed-txns.ensures.ascending n 0 c.loop-txn-test.true (map (λ (p : Pivot). p.txn) found) (map (λ (p : Pivot). p.txn) now) c.loop-txn.invariant.0
                (pivot.0 (has.0 (ap not w.if-not-is_empty.true), more.0 (ap not w.if-not-is_empty-2.true))) names,
            subst (All (ListsNeighbours h)) (sym is) (All-push (ListsNeighbours h) found entry c.loop-txn.invariant.1 neighbours),
          )
      | else-not-is_empty w ↦
          let is : now ≡ found = ap (λ v. v.items) w.found-is in (
            picked_same (λ t. t ∷ []) (IsPivot h) txns c.committed-txns.ensures.ascending n 0 c.loop-txn-test.true (map (λ (p : Pivot). p.txn) found) (map (λ (p : Pivot). p.txn) now) c.loop-txn.invariant.0
                (λ there. let both = pivot.1 there in elim w.else-not-is_empty.branch [
                  | else-not-is_empty-via-then-not-is_empty+else-not-is_empty-2 v ↦
                      let more = some_link c.at-outs.result.now v.is_empty-then-not-is_empty.result v.is_empty-then-not-is_empty.ensures in
                      false≢true (sym (ap not v.if-not-is_empty-2.false) ∙ more.1 both.1)
                  | else-not-is_empty-via-else-not-is_empty v ↦ false≢true (sym (ap not v.if-not-is_empty.false) ∙ has.1 both.0)
                ]) (ap (map (λ (p : Pivot). p.txn)) is),
            subst (All (ListsNeighbours h)) (sym is) c.loop-txn.invariant.1,
          )
    ]

pub returns : goal.returns
returns c =
    let h = c.args.ix.now in
    let txns = c.committed-txns.result.now in
    record {
      txns = listed_as (λ t. t ∷ []) _ (IsPivot h) (λ t. ((λ w. w.1), (λ is. ((c.committed-txns.ensures.each t).1 (source_committed h t is.1.0 is.1.1), is)))) _
          (all_picked (λ t. t ∷ []) (IsPivot h) txns c.loop-txn.txn c.loop-txn-test.false (map (λ (p : Pivot). p.txn) c.loop-txn.found.items) c.loop-txn.invariant.0);
      neighbours = c.loop-txn.invariant.1;
    }
