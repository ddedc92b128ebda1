-- What the parts so far add.
use Rattle.std.proofs.Common.{[]}
use Rattle.std.specs.Prelude.{Contains}
use Rattle.sia_parts.specs.declared.finding.Findings.{Findings}
use Rattle.sia_parts.specs.Sights.{Adds}
use Rattle.sia_parts.proofs.Shared.Adding.{FromFirst}
use Rattle.sia_parts.proofs.finding.gather.Given as goal

abbrev pub invariant-loop-part : goal.invariant-loop-part
invariant-loop-part l = record {
  bad_reads : Adds (FromFirst (λ (part : Findings). Contains part.bad_reads.items) l.part-items l.part-index) [] l.all.bad_reads.items;
  bad_writes : Adds (FromFirst (λ (part : Findings). Contains part.bad_writes.items) l.part-items l.part-index) [] l.all.bad_writes.items;
  unexplained : Adds (FromFirst (λ (part : Findings). Contains part.unexplained.items) l.part-items l.part-index) [] l.all.unexplained.items;
  edges : Adds (FromFirst (λ (part : Findings). Contains part.edges.items) l.part-items l.part-index) [] l.all.edges.items;
}
