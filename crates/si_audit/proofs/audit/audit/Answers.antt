use Rattle.std.proofs.Common.{◌∙◌, IfOk, subst}
use Rattle.si_audit.specs.Account.{IsAccount, account_of}
use Rattle.si_audit.proofs.audit.audit.Goals as goal

pub returns-clause-exact : goal.returns-clause-exact
returns-clause-exact g c = subst (λ h. IfOk c.audit_of.result (λ a. IsAccount h (account_of a))) (c.in_ok-ix.ensures ∙ c.log-log.ensures) c.audit_of.ensures.exact
