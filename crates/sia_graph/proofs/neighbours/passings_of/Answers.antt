-- The next range miss.
use Rattle.std.proofs.Common.{get_or, rules, refl, arith}
use Rattle.sia_parts.specs.declared.accesses.RangeMiss.{RangeMiss}
use Rattle.sia_parts.proofs.Shared.Adding.{from_all, from_more}
use Rattle.std.proofs.lemmas.List.Sorted.{IsNonDecreasingBy-from_sort_by_key}
use Rattle.sia_graph.specs.declared.neighbours.Passing.{Passing}
use Rattle.sia_graph.proofs.OfNeighbours.Passings.{IsPassingOf, passing_pushed, passings_are, passings_more}
use Rattle.sia_parts.proofs.EdgeRows.Readings.{few_txns}
use Rattle.sia_graph.proofs.neighbours.passings_of.Goals as goal

pub overflow_cast-reader-end : goal.overflow_cast-reader-end
overflow_cast-reader-end c = let few = few_txns c.args.evidence.now.index.now c.requires.well_formed c.committed.result.now c.committed.ensures in omega arith

pub loop-miss-preserved : goal.loop-miss-preserved
loop-miss-preserved c =
    let none : RangeMiss = record { from = 0; to = 0 } in
    let misses = c.at-miss-items.result.now in
    let n = c.loop-miss.miss-index in
    rw c.in_ok-push.ensures.items (from_more (IsPassingOf c.loop-reader.reader) misses n none _ _ _ c.loop-miss-test.true c.loop-miss.invariant (passing_pushed c.loop-reader.reader (get_or misses n none) c.loop-miss.passings.items))

pub loop-reader-preserved : goal.loop-reader-preserved
loop-reader-preserved c =
    let e = c.args.evidence.now in
    let all = from_all (IsPassingOf c.loop-reader.reader) c.at-miss-items.result.now c.loop-miss.miss-index _ _ c.loop-miss-test.false c.loop-miss.invariant in
    passings_more e.index.now e.accesses.now c.requires.accesses c.loop-reader.reader (get_or c.committed.result.now c.loop-reader.reader 0) (c.committed.result.now, c.committed.ensures, c.loop-reader-test.true, refl) _ _ c.loop-reader.invariant (rw c.at-miss-items.ensures at all)

pub returns : goal.returns
returns c =
    passings_are c.args.evidence.now.accesses.now c.loop-reader.reader _ _ c.loop-reader.invariant (let long = c.requires.accesses.missed_long c.committed.result.now c.committed.ensures in let last = c.loop-reader-test.false in omega arith)
    c.sort_unstable_by_key.ensures.permutation (IsNonDecreasingBy-from_sort_by_key (λ (p : Passing). p.from) _ c.sort_unstable_by_key.ensures.sorted (λ a r f k. search rules))
