use Rattle.std.proofs.Common.{[], refl}
use Rattle.si_audit.specs.declared.options.Form.TheVariants.{Brief}
use Rattle.si_audit.specs.Account.{account_with}
use Rattle.si_audit.specs.Lines.{report_text}
use Rattle.si_audit.proofs.Shared.Clean.{account_is}
use Rattle.si_audit.proofs.Shared.Results.{ok_map}
use Rattle.si_audit.proofs.engine.in_brief.Goals as goal

pub returns-clause-report : goal.returns-clause-report
returns-clause-report c =
    let h = c.args.ix in
    let j = c.args.j.now in
    let (edges, pivots) = c.listing_law.ensures h c.law.ensures in
    let account = account_with j edges.0 pivots.0 in
    ok_map _ _ c.told.result (λ a is. (report_text Brief account, (account, account_is h j c.requires edges.0 edges.1 pivots.0 pivots.1, refl), is Brief edges.0 pivots.0 [] refl refl)) c.told.ensures.report
