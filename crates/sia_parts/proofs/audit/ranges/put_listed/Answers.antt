-- The keys before the listed one are passed over, and it is seen.
use Rattle.std.proofs.Common.{◌+◌, arith}
use Rattle.sia_parts.proofs.Auditing.Gaining.{gains_then}
use Rattle.sia_parts.proofs.Shared.FewNumbers.{few_keys}
use Rattle.sia_parts.proofs.Shared.OneNumber.{at_is_written, one_key_number}
use Rattle.sia_parts.proofs.audit.ranges.put_listed.Goals as goal

pub returns-in_default : goal.returns-in_default
returns-in_default c i at = let wrote = at_is_written c.args.scope.now.ix.now i _ at in absurd (c.in_default.ensures wrote.0 wrote.1)

pub overflow_add-result : goal.overflow_add-result
overflow_add-result c = let few = few_keys c.args.scope.now.ix.now c.requires.scope.well_formed c.in-Some.at.key _ c.in-Some.ensures.key in omega arith

pub returns : goal.returns
returns c i at =
    let h = c.args.scope.now.ix.now in
    let n = c.in-Some.at.key in
    let key = c.in-Some.ensures.key in
    let low = (c.requires.listed.gap n key).0 in
    let same = one_key_number h n i _ key at in
    (omega arith, gains_then h c.args.known.now.reader.place c.args.next n (n + 1) low (omega arith) c.args.seen.now c.put_gap.new.seen c.put_view.new.seen c.in_ok-put_gap.ensures c.in_ok-put_view.ensures)
