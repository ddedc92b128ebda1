use Rattle.std.proofs.Common.{List, ℕ, ◌++◌, ◌∙◌, ap, flat_map, take_all}
use Rattle.si_audit.specs.Account.{account_of}
use Rattle.si_audit.specs.Lines.{edge_line, report_text}
use Rattle.si_audit.specs.declared.options.Form.TheVariants.{Full}
use Rattle.si_audit.proofs.OfReport.Chains.{front_alone, next_line, report_of_pieces}
use Rattle.si_audit.proofs.Shared.Pushed.{findings_pushed}
use Rattle.si_audit.proofs.account.report.Goals as goal

pub loop-e-preserved : goal.loop-e-preserved
loop-e-preserved c =
    let step = rw (c.number.ensures, c.number-in-loop-e.ensures, c.kind_word.ensures) at c.in_ok-push_line.ensures in
    next_line edge_line _ _ _ c.deref-e-items.result.now c.loop-e.e-index _ c.loop-e-test.true step c.loop-e.invariant

-- what stands before the edges, these, and what stands behind them
pub returns : goal.returns
returns c =
    let o = c.new-out.result.items in
    let found = c.args.a.now.findings in
    let head = rw (c.deref.ensures.value, c.deref-2.ensures.value) at c.in_ok-push_head.ensures in
    let reads = rw c.deref-3.ensures.value at c.in_ok-push_all.ensures in
    let writes = rw c.deref-4.ensures.value at c.in_ok-push_all-2.ensures in
    let odd = rw c.deref-5.ensures.value at c.in_ok-push_all-3.ensures in
    let all = take_all c.loop-e.e-index c.deref-e-items.result.now c.loop-e-test.false ∙ c.deref-e-items.ensures.value in
    report_of_pieces o _ _ _ _ _ _ _ found.bad_reads.items found.bad_writes.items found.unexplained.items found.edges.items c.args.a.now.pivots.items
    (front_alone o _ _ _ reads.0 writes.0 odd.0 _ _ _ reads.1 writes.1 odd.1 (findings_pushed o _ _ _ _ _ _ _ _ _ head reads.2 writes.2 odd.2))
    (c.loop-e.invariant ∙ ap (λ es. c.push_all-3.new.out.items ++ flat_map edge_line es) all) (rw c.deref-6.ensures.value at c.in_ok-push_back.ensures)
    ∙ ap (λ (x : List ℕ). x ++ report_text Full (account_of c.args.a.now)) c.new-out.ensures.items
