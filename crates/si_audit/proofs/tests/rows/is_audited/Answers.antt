-- The account of a history can be printed.
use Rattle.si_audit.specs.Account.{account_of}
use Rattle.si_audit.proofs.Shared.Clean.{can_be_printed}
use Rattle.si_audit.proofs.tests.rows.is_audited.Goals as goal

pub report-requires : goal.report-requires
report-requires g c = can_be_printed c.in_ok-h.h (account_of c.in_ok-a.a) c.in_ok-a.ensures.exact
