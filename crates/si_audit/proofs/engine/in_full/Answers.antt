use Rattle.std.proofs.Common.{◌++◌, None, flat_map, refl}
use Rattle.si_audit.specs.declared.options.Form.TheVariants.{Full}
use Rattle.si_audit.specs.Account.{account_with}
use Rattle.si_audit.specs.Lines.{edge_line, pivot_line, report_text}
use Rattle.si_audit.proofs.Shared.Clean.{account_is}
use Rattle.si_audit.proofs.Shared.Results.{ok_map}
use Rattle.si_audit.proofs.engine.in_full.Goals as goal

pub invariant_of-found : goal.invariant_of-found
invariant_of-found c = (c.in_ok-ordered.ensures None c.requires.accesses, c.in_ok-spelled.ensures)

pub returns-clause-report : goal.returns-clause-report
returns-clause-report c =
    let h = c.args.index in
    let j = c.args.j.now in
    let (edges, pivots) = c.listing_law.ensures h c.law.ensures in
    let account = account_with j edges.0 pivots.0 in
    let edge_lines = flat_map edge_line edges.0 in
    let pivot_lines = flat_map pivot_line pivots.0 in
    ok_map _ _ c.told.result
    (λ a is. (
      report_text Full account,
      (account, account_is h j c.requires.judgement edges.0 edges.1 pivots.0 pivots.1, refl),
      is Full edges.0 pivots.0 (edge_lines ++ pivot_lines) (edge_lines, pivot_lines, (edges.0, edges.1, refl), (pivots.0, pivots.1, refl), refl) refl,
    ))
    c.told.ensures.report
