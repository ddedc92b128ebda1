use Rattle.std.proofs.Common.{sym, ◌∙◌, [], ◌++◌, ◌&&◌, flat_map}
use Rattle.si_audit.specs.Lines as lines
use Rattle.si_audit.proofs.OfReport.Chains.{front_alone, report_on_sheets, without_counts}
use Rattle.si_audit.proofs.engine.told.Goals as goal

pub returns-clause-report : goal.returns-clause-report
returns-clause-report c form es ps middle found_are lines_are =
    let j = c.args.j.now in
    let n = j.counts in
    let told = c.in_ok-push_front.ensures in
    let none = c.new-front.ensures.items in
    let nothing = c.new-back.ensures.items in
    let front_is = front_alone c.new-front.result.items _ _ _ told.1 told.2 told.3 j.bad_reads.items j.bad_writes.items j.unexplained.items told.5 told.6 told.7 (without_counts _ _ told.0 told.1 told.2 told.3 told.4 told.8)
    ∙ (λ i. none i ++ lines.events_line n.events n.committed n.aborted n.unfinished ++ lines.isolation_line (lines.is_empty j.bad_reads.items && lines.is_empty j.bad_writes.items)
    ++ flat_map lines.bad_read_line j.bad_reads.items ++ flat_map lines.bad_write_line j.bad_writes.items ++ flat_map lines.unexplained_line j.unexplained.items) in
    let back_is = c.in_ok-push_back.ensures ∙ (λ i. nothing i ++ [] ++ lines.ssi_line j.pass ++ lines.serializable_line j.serializable ++ lines.verdict_line j.verdict) in
    (middle, found_are, sym (report_on_sheets j form es ps c.push_front.new.out.items c.push_back.new.out.items middle front_is back_is lines_are))
