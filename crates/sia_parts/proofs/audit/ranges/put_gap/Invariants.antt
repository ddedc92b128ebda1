-- The keys below `next` have given their wrong reads, and nothing else is new.
use Rattle.std.proofs.Common.{◌≡◌, ◌-◌, ◌≤◌}
use Rattle.sia_parts.specs.declared.audit.sights.Seen.{Seen}
use Rattle.sia_parts.specs.Seeing.{AddsWrong, IsSightWithin}
use Rattle.sia_parts.proofs.audit.ranges.put_gap.Given as goal

abbrev pub invariant-loop-number : goal.invariant-loop-number
invariant-loop-number l = record {
  low : l.from ≤ l.next;
  high : l.next ≤ l.to;
  wrong : AddsWrong l.ix (IsSightWithin l.ix l.known.reader.place l.from l.next) l.fn.seen.wrong l.seen.wrong;
  rest : ◌≡◌ {A = Seen} (record { wrong = l.fn.seen.wrong; saw = l.seen.saw; missed = l.seen.missed; near = l.seen.near }) l.fn.seen;
}

abbrev pub decreases-loop-number : goal.decreases-loop-number
decreases-loop-number l = l.to - l.next
