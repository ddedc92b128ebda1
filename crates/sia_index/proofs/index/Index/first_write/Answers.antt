-- What has no event wrote nothing.
use Rattle.std.proofs.Common.{refl}
use Rattle.sia_events.specs.declared.event.Event.TheVariants.{Write}
use Rattle.sia_index.proofs.index.Index.first_write.Goals as goal

pub returns-in_err-number : goal.returns-in_err-number
returns-in_err-number c = rw c.from_residual.ensures (λ wrote. c.in_err-number.ensures (wrote.0, (Write c.args.t c.args.k, wrote.1, refl)))
