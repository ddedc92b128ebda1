-- What is found by an index of the log is found in the log's history.
use Rattle.std.proofs.Common.{sym, subst}
use Rattle.sia_parts.specs.declared.finding.PartFound.{PartFound}
use Rattle.sia_parts.specs.Dealing.{HasReadsOf}
use Rattle.sia_parts.specs.Gathering.{IsPartFound}
use Rattle.sia_parts.specs.Parts.{IsInPart}
use Rattle.sia_parts.specs.Seeing.{IsScope}
use Rattle.sia_parts.proofs.audit.find_in_part.Goals.{After-numbers_within-first}
use Rattle.sia_parts.proofs.audit.find_in_part.Goals as goal

-- the numbers are those of the keys of the part
is_scope : (c : After-numbers_within-first) → IsScope (record { log = c.args.log; ix = c.args.ix; part = c.args.part; first = c.numbers_within-first.result.0; end = c.numbers_within-first.result.1 })
is_scope c = record {
  same = c.requires.index;
  well_formed = c.law.ensures;
  each = λ j. (
    (λ w. let k = (c.numbers_within-first.ensures j).0 w in (k.0, k.1, (k.2, k.3))),
    (λ w. (c.numbers_within-first.ensures j).1 (w.0, w.1, w.2.0, w.2.1)),
  );
}

pub seen_of-requires-clause-scope : goal.seen_of-requires-clause-scope
seen_of-requires-clause-scope c = is_scope (goal.at.seen_of-requires-clause-scope c).After-numbers_within-first

pub seen_of-requires-clause-places : goal.seen_of-requires-clause-places
seen_of-requires-clause-places c = subst (λ h. HasReadsOf h c.args.part c.args.places.now) (sym c.requires.index) c.requires.places

pub bad_writes_of-requires : goal.bad_writes_of-requires
bad_writes_of-requires c = is_scope (goal.at.bad_writes_of-requires c).After-numbers_within-first

pub returns : goal.returns
returns c =
    let found : PartFound = record { bad_reads = c.in_ok-seen.seen.wrong.bad_reads; bad_writes = c.in_ok-bad_writes_of.field-0; unexplained = c.in_ok-seen.seen.wrong.unexplained; saw = c.in_ok-seen.seen.saw; missed = c.in_ok-seen.seen.missed } in
    subst (λ h. IsPartFound h (IsInPart c.args.part) found) c.requires.index
    (record { bad_reads = c.in_ok-seen.ensures.bad_reads; bad_writes = c.in_ok-bad_writes_of.ensures; unexplained = c.in_ok-seen.ensures.unexplained; sights = c.in_ok-seen.ensures.sights })
