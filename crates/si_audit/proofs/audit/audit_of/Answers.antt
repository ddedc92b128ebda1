-- What was found at all keys, and the edges there.
use Rattle.si_audit.proofs.Shared.Clean.{account_is}
use Rattle.si_audit.proofs.audit.audit_of.Goals as goal

pub returns-clause-exact : goal.returns-clause-exact
returns-clause-exact c = account_is c.args.ix.now c.args.j c.requires.judgement _ c.in_ok-edges.ensures _ c.in_ok-pivots.ensures
