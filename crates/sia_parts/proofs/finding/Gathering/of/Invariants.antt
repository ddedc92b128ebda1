-- What the parts so far add.
use Rattle.std.proofs.Common.{[]}
use Rattle.std.specs.Prelude.{Contains}
use Rattle.sia_parts.specs.declared.finding.PartFound.{PartFound}
use Rattle.sia_parts.specs.Sights.{Adds, FromSome}
use Rattle.sia_parts.proofs.finding.Gathering.of.Given as goal

abbrev pub invariant-loop-part : goal.invariant-loop-part
invariant-loop-part l = record {
  bad_reads : Adds (FromSome (λ (part : PartFound). Contains part.bad_reads.items) l.yielded) [] l.all.bad_reads.items;
  bad_writes : Adds (FromSome (λ (part : PartFound). Contains part.bad_writes.items) l.yielded) [] l.all.bad_writes.items;
  unexplained : Adds (FromSome (λ (part : PartFound). Contains part.unexplained.items) l.yielded) [] l.all.unexplained.items;
  saw : Adds (FromSome (λ (part : PartFound). Contains part.saw) l.yielded) [] l.all.saw;
  missed : Adds (FromSome (λ (part : PartFound). Contains part.missed) l.yielded) [] l.all.missed;
}
