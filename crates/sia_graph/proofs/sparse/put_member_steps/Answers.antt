use Rattle.std.proofs.Common.{◌≡◌, ◌⊎◌, ◌<◌, ℕ, List, Option, Some, length, get_or, sym, subst, arith, ◌↔◌, Contains, MatchOption}
use Rattle.std.proofs.lemmas.List.Elements.{Contains-get_or}
use Rattle.sia_events.specs.declared.event.Event.{Event}
use Rattle.sia_events.specs.NarrowDependencies.{IsNextVersion}
use Rattle.sia_events.specs.Refusals.{IsWellFormed}
use Rattle.sia_index.specs.Numbers.{IsCommittedAt}
use Rattle.sia_index.specs.Positions.{HasPosition, IsAtPosition}
use Rattle.sia_index.specs.declared.info.KeyVersion.{KeyVersion}
use Rattle.sia_parts.specs.declared.accesses.RangeMiss.{RangeMiss}
use Rattle.sia_parts.specs.Accesses.{SawPosition}
use Rattle.sia_parts.specs.Sights.{Adds, FromSome}
use Rattle.sia_parts.proofs.Shared.Adding.{adds_nothing, from_all, from_more}
use Rattle.sia_graph.specs.KeyBlocks.{IsUnderSome}
use Rattle.sia_graph.specs.Makers.{IsMaker, IsMakerBefore, IsNextMaker}
use Rattle.sia_graph.specs.Passed.{IsHeldBy}
use Rattle.sia_graph.specs.SparseGraphs.{IsStepTo}
use Rattle.sia_graph.proofs.Shared.AccessLists.{saw_is, saw_position}
use Rattle.sia_graph.proofs.Shared.MakersTold.{before_told, maker_told, none_before}
use Rattle.sia_graph.proofs.Shared.MemberSteps.{size_few, sources_put, targets_put}
use Rattle.sia_graph.proofs.SparseGraphs.StepsPut.{few_maker, few_next, step_put}
use Rattle.sia_graph.proofs.sparse.put_member_steps.Goals.{After-at-seen-items, After-made_by-made-items, in-Some+in_ok-put_other-3, in_default}
use Rattle.sia_graph.proofs.sparse.put_member_steps.Goals as goal

-- each of these was seen, and stands at a position
has_seen : (c : After-at-seen-items) → (n : ℕ) → n < length c.at-seen-items.result.now → HasPosition c.args.evidence.now.index.now (get_or c.at-seen-items.result.now n 0)
has_seen c n below =
    let e = c.args.evidence.now in
    let saw = c.at-seen-items.result.now in
    let q = get_or saw n 0 in
    saw_position e.index.now e.accesses.now c.requires.evidence.accesses c.args.txn c.requires.txn.0 c.requires.txn.1 q
    ((saw_is e.index.now e.accesses.now c.requires.evidence.accesses c.args.txn c.requires.txn.0 c.requires.txn.1 q).0 (subst (λ (l : List ℕ). Contains l q) c.at-seen-items.ensures (Contains-get_or saw n 0 below)))

has_made : (c : After-made_by-made-items) → (n : ℕ) → n < length c.made_by-made-items.result.now → HasPosition c.args.evidence.now.index.now (get_or c.made_by-made-items.result.now n 0)
has_made c n below =
    let made = c.made_by-made-items.result.now in
    let w = ((c.made_by-made-items.ensures c.requires.txn.0 c.requires.txn.1).each (get_or made n 0)).0 (Contains-get_or made n 0 below) in
    (w.0, w.1)

pub maker_at-requires : goal.maker_at-requires
maker_at-requires c = has_seen (goal.at.maker_at-requires c).After-at-seen-items c.loop-seen.seen-index c.loop-seen-test.true

pub next_maker-requires : goal.next_maker-requires
next_maker-requires c = has_seen (goal.at.next_maker-requires c).After-at-seen-items c.loop-seen.seen-index c.loop-seen-test.true

pub position_before-requires : goal.position_before-requires
position_before-requires c = has_made (goal.at.position_before-requires c).After-made_by-made-items c.loop-made.made-index c.loop-made-test.true

pub put_other-requires : goal.put_other-requires
put_other-requires c =
    let e = c.args.evidence.now in
    let h = e.index.now in
    let wf = c.requires.evidence.well_formed in
    let n = c.loop-seen.seen-index in
    let q = get_or c.at-seen-items.result.now n 0 in
    let at = has_seen (goal.at.put_other-requires c).After-at-seen-items n c.loop-seen-test.true in
    (size_few c.args.size h e.accesses.now wf c.requires.size, λ i is. few_maker h wf q i ((maker_told h q at.0 at.1 c.maker_at.result (c.maker_at.ensures at.0 at.1) i).0 is))

pub put_other-requires-in-loop-seen : goal.put_other-requires-in-loop-seen
put_other-requires-in-loop-seen c =
    let e = c.args.evidence.now in
    let wf = c.requires.evidence.well_formed in
    (size_few c.args.size e.index.now e.accesses.now wf c.requires.size, λ i is. few_next e.index.now wf _ i ((c.next_maker.ensures i).0 is))

pub loop-seen-preserved : goal.loop-seen-preserved
loop-seen-preserved c =
    let h = c.args.evidence.now.index.now in
    let size = c.args.size in
    let txn = c.args.txn in
    let saw = c.at-seen-items.result.now in
    let n = c.loop-seen.seen-index in
    let q = get_or saw n 0 in
    let at = has_seen (goal.at.loop-seen-preserved c).After-at-seen-items n c.loop-seen-test.true in (
      from_more (IsStepTo size txn (IsMaker h)) saw n 0 _ _ c.put_other.new.row.items c.loop-seen-test.true c.loop-seen.invariant.0
          (step_put size txn (IsMaker h) q c.maker_at.result (maker_told h q at.0 at.1 c.maker_at.result (c.maker_at.ensures at.0 at.1)) _ c.put_other.new.row.items c.in_ok-put_other.ensures),
      from_more (IsStepTo size txn (IsNextMaker h)) saw n 0 _ _ c.put_other-in-loop-seen.new.row.items c.loop-seen-test.true c.loop-seen.invariant.1
          (step_put size txn (IsNextMaker h) q c.next_maker.result c.next_maker.ensures _ c.put_other-in-loop-seen.new.row.items c.in_ok-put_other-2.ensures),
    )

pub maker_at-requires-in-Some : goal.maker_at-requires-in-Some
maker_at-requires-in-Some c =
    let at = has_made (goal.at.maker_at-requires-in-Some c).After-made_by-made-items c.loop-made.made-index c.loop-made-test.true in
    let w = c.in-Some.ensures at.0 at.1 in
    (w.0, w.1)

pub put_other-requires-in-Some : goal.put_other-requires-in-Some
put_other-requires-in-Some c =
    let e = c.args.evidence.now in
    let h = e.index.now in
    let wf = c.requires.evidence.well_formed in
    let at = has_made (goal.at.put_other-requires-in-Some c).After-made_by-made-items c.loop-made.made-index c.loop-made-test.true in
    let w = c.in-Some.ensures at.0 at.1 in
    (size_few c.args.size h e.accesses.now wf c.requires.size, λ i is. few_maker h wf c.in-Some.before i ((maker_told h c.in-Some.before w.0 w.1 c.maker_at-in-Some.result (c.maker_at-in-Some.ensures w.0 w.1) i).0 is))

-- who made the version before, as it was found
found_before : (h : List Event) → IsWellFormed h → (q p : ℕ) (v w : KeyVersion) → IsAtPosition h q v → IsAtPosition h p w → w.key ≡ v.key → w.commit < v.commit → IsNextVersion h v.key w.commit v.txn
    → (found : Option ℕ) → MatchOption found (w.commit ≡ 0) (λ i. (0 < w.commit) × IsCommittedAt h i w.txn) → (i : ℕ) → (found ≡ Some i) ↔ IsMakerBefore h q i
found_before h wf q p v w at there key less next found is i =
    let told = maker_told h p w there found is i in
    let before = before_told h q v at wf p w there key less next i in
    ((λ e. before.0 (told.0 e)), (λ m. told.1 (before.1 m)))

pub loop-made-preserved : goal.loop-made-preserved
loop-made-preserved c =
    let h = c.args.evidence.now.index.now in
    let wf = c.requires.evidence.well_formed in
    let made = c.made_by-made-items.result.now in
    let n = c.loop-made.made-index in
    let q = get_or made n 0 in
    let at = has_made (goal.at.loop-made-preserved c).After-made_by-made-items n c.loop-made-test.true in
    let P = IsStepTo c.args.size c.args.txn (IsMakerBefore h) in
    from_more P made n 0 _ _ c.match-position_before.sources.items c.loop-made-test.true c.loop-made.invariant
    (elim c.match-position_before.branch [
      | in-Some+in_ok-put_other-3 w ↦
          let f = w.in-Some.ensures at.0 at.1 in
          rw w.sources-is (step_put c.args.size c.args.txn (IsMakerBefore h) q w.maker_at-in-Some.result (found_before h wf q w.in-Some.before at.0 f.0 at.1 f.1 f.2 f.3 f.4 w.maker_at-in-Some.result (w.maker_at-in-Some.ensures f.0 f.1)) _ _ w.in_ok-put_other-3.ensures)
      | in_default w ↦ rw w.sources-is (adds_nothing (P q) c.loop-made.sources.items (λ m s. none_before h q at.0 at.1 (w.in_default.ensures at.0 at.1) s.0 s.1))
    ])

pub put_all_blocks-requires : goal.put_all_blocks-requires
put_all_blocks-requires c = let e = c.args.evidence.now in let few = size_few c.args.size e.index.now e.accesses.now c.requires.evidence.well_formed c.requires.size in omega arith

pub returns-clause-sources : goal.returns-clause-sources
returns-clause-sources c =
    let e = c.args.evidence.now in
    let h = e.index.now in
    let size = c.args.size in
    let txn = c.args.txn in
    let saw = c.at-seen-items.result.now in
    let made = c.made_by-made-items.result.now in
    let mid = c.loop-seen.sources.items in
    sources_put h e.accesses.now size txn c.requires.txn.0 c.requires.txn.1 saw
    (λ q. subst (λ (l : List ℕ). Contains l q ↔ SawPosition e.accesses.now txn q) (sym c.at-seen-items.ensures) (saw_is h e.accesses.now c.requires.evidence.accesses txn c.requires.txn.0 c.requires.txn.1 q))
    made (c.made_by-made-items.ensures c.requires.txn.0 c.requires.txn.1) mid c.loop-made.sources.items
    (subst (λ (l : List ℕ). Adds (FromSome (IsStepTo size txn (IsMaker h)) saw) l mid) c.requires.none.0
    (from_all (IsStepTo size txn (IsMaker h)) saw c.loop-seen.seen-index _ _ (let l = c.loop-seen-test.false in omega arith) c.loop-seen.invariant.0))
    (from_all (IsStepTo size txn (IsMakerBefore h)) made c.loop-made.made-index _ _ (let l = c.loop-made-test.false in omega arith) c.loop-made.invariant)

pub returns-clause-targets : goal.returns-clause-targets
returns-clause-targets c =
    let e = c.args.evidence.now in
    let h = e.index.now in
    let size = c.args.size in
    let txn = c.args.txn in
    let saw = c.at-seen-items.result.now in
    let put = c.in_ok-put_all_blocks.ensures in
    let mid = c.loop-seen.targets.items in
    let new = c.put_all_blocks.new.blocks.items in
    targets_put h e.accesses.now size txn c.requires.txn.0 c.requires.txn.1 saw
    (λ q. subst (λ (l : List ℕ). Contains l q ↔ SawPosition e.accesses.now txn q) (sym c.at-seen-items.ensures) (saw_is h e.accesses.now c.requires.evidence.accesses txn c.requires.txn.0 c.requires.txn.1 q))
    mid new (IsHeldBy c.args.passed.now.stretches.items)
    (subst (λ (l : List ℕ). Adds (FromSome (IsStepTo size txn (IsNextMaker h)) saw) l mid) c.requires.none.1
    (from_all (IsStepTo size txn (IsNextMaker h)) saw c.loop-seen.seen-index _ _ (let l = c.loop-seen-test.false in omega arith) c.loop-seen.invariant.1))
    (subst (λ (l : List RangeMiss). (j : ℕ) → j < size → IsUnderSome size new j ↔ (IsUnderSome size mid j ⊎ IsHeldBy l j)) c.deref.ensures.value put.over)
    put.keeps put.within c.requires.passed
