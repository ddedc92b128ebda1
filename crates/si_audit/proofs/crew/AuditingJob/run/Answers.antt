use Rattle.std.proofs.Common.{subst, sym, IfSome}
use Rattle.std.proofs.lemmas.Option.{slice_get-get_or}
use Rattle.sia_parts.specs.Gathering.{IsPartFound}
use Rattle.sia_parts.specs.Parts.{IsInPart}
use Rattle.si_audit.specs.Found.{IsFoundAt}
use Rattle.si_audit.proofs.Shared.Results.{ok_map, other_error}
use Rattle.si_audit.proofs.crew.AuditingJob.run.Goals as goal

pub find_in_part-requires : goal.find_in_part-requires
find_in_part-requires c = record {
  index = c.requires.0;
  places = c.of_part-places.ensures c.args.self.now.log.now c.args.self.now.parts.now _ c.requires.1 (slice_get-get_or c.args.self.now.parts.now c.args.number _ c.requires.2);
}

pub returns : goal.returns
returns c =
    other_error (IsFoundAt c.args.self.now.log.now c.args.self.now.parts.now c.args.number) _ _ _ c.map_err.ensures.cases
    (ok_map _ _ c.find_in_part.result
    (λ found. subst (λ some. IfSome some (λ part. IsPartFound c.args.self.now.log.now (IsInPart part) found)) (sym (slice_get-get_or c.args.self.now.parts.now c.args.number _ c.requires.2)))
    c.find_in_part.ensures)
