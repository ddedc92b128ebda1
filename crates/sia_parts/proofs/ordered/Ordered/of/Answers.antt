-- What was seen is turned round twice, and so it is in order.
use Rattle.std.proofs.Common.{◌≡◌, ℕ, [], length, ap, ◌∙◌}
use Rattle.std.specs.Prelude.{slice_index_or}
use Rattle.std.specs.List.Sorted.{IsNonDecreasingBy}
use Rattle.sia_index.specs.Lists.{turned}
use Rattle.sia_parts.specs.Accesses.{AreAccesses}
use Rattle.sia_parts.specs.Parts.{IsWithin}
use Rattle.sia_parts.proofs.EdgeRows.AccessRows.{misses_rise, saw_positions}
use Rattle.sia_parts.proofs.EdgeRows.Readings.{are_readings, are_seen, newest_below, ordered, saw_below, seen_below, turned_rises}
use Rattle.sia_parts.proofs.ordered.Ordered.of.Goals.{In_ok-missed}
use Rattle.sia_parts.proofs.ordered.Ordered.of.Goals as goal

pub turned-requires : goal.turned-requires
turned-requires c = record { within = saw_below c.args.index.now (IsWithin c.requires.0) c.args.accesses.now c.requires.1 c.position_count-positions.result c.position_count-positions.ensures }

pub turned-requires-2 : goal.turned-requires-2
turned-requires-2 c = record { within = rw (c.in_ok-seen.ensures, c.len.ensures) (seen_below c.args.index.now (IsWithin c.requires.0) c.args.accesses.now c.requires.1 c.position_count-positions.result c.position_count-positions.ensures) }

-- what was seen in order
saw : (c : In_ok-missed) → c.in_ok-saw.saw ≡ turned (length c.args.accesses.now.saw) (turned c.position_count-positions.result c.args.accesses.now.saw)
saw c = c.in_ok-saw.ensures ∙ ap (λ n. turned n c.in_ok-seen.seen) c.len.ensures ∙ ap (turned (length c.args.accesses.now.saw)) c.in_ok-seen.ensures

are : (c : In_ok-missed) → AreAccesses c.args.index.now (IsWithin c.requires.0) (record { saw = c.in_ok-saw.saw; missed = c.in_ok-missed.missed })
are c = rw (saw c) (ordered c.args.index.now (IsWithin c.requires.0) c.args.accesses.now c.requires.1 c.position_count-positions.result c.position_count-positions.ensures _ c.in_ok-missed.missed c.in_ok-missed.ensures)

rise : (c : In_ok-missed) (i : ℕ) → IsNonDecreasingBy (λ q. q) (slice_index_or c.in_ok-saw.saw i [])
rise c i = rw (saw c) (turned_rises (length c.args.accesses.now.saw) (turned c.position_count-positions.result c.args.accesses.now.saw) i)

pub newest_of-requires-clause-positions : goal.newest_of-requires-clause-positions
newest_of-requires-clause-positions c i below = saw_positions c.args.index.now (IsWithin c.requires.0) (record { saw = c.in_ok-saw.saw; missed = c.in_ok-missed.missed }) (are (goal.at.newest_of-requires-clause-positions c).In_ok-missed) i below

pub newest_of-requires-clause-rise : goal.newest_of-requires-clause-rise
newest_of-requires-clause-rise c i = rise (goal.at.newest_of-requires-clause-rise c).In_ok-missed i

pub turned-requires-3 : goal.turned-requires-3
turned-requires-3 c = record { within = newest_below c.args.index.now (IsWithin c.requires.0) (record { saw = c.in_ok-saw.saw; missed = c.in_ok-missed.missed }) (are (goal.at.turned-requires-3 c).In_ok-missed) c.position_count-positions.result c.position_count-positions.ensures c.in_ok-newest_of.field-0 c.in_ok-newest_of.ensures }

pub returns : goal.returns
returns c within all =
    let h = c.args.index.now in
    let a = c.args.accesses.now in
    let count = c.position_count-positions.result in
    let positions = c.position_count-positions.ensures in
    let here = (goal.at.returns c).In_ok-missed in
    let own : AreAccesses h (IsWithin within) (record { saw = c.in_ok-saw.saw; missed = c.in_ok-missed.missed }) = rw (saw here) (ordered h (IsWithin within) a all count positions _ c.in_ok-missed.missed c.in_ok-missed.ensures) in
    record {
      accesses = own;
      saw_rise = rise here;
      missed_rise = λ i. misses_rise _ (c.in_ok-missed.ensures.sorted i);
      seen = rw (saw here, c.in_ok-seen.ensures) (are_seen h (IsWithin within) a all count positions _ c.in_ok-missed.missed c.in_ok-missed.ensures);
      newest = rw c.in_ok-newest.ensures (are_readings h (IsWithin within) (record { saw = c.in_ok-saw.saw; missed = c.in_ok-missed.missed }) own count positions c.in_ok-newest_of.field-0 c.in_ok-newest_of.ensures);
    }
