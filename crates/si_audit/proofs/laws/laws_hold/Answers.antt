use Rattle.si_audit.proofs.OfLaws.OneReport.{one_report_of, same_report}
use Rattle.si_audit.proofs.OfLaws.Levels.{clean_holds, levels_hold, snapshots_hold}
use Rattle.si_audit.proofs.OfLaws.FormsLeft.{forms_hold}
use Rattle.si_audit.proofs.OfLaws.OutcomesTold.{lines_tell}
use Rattle.si_audit.proofs.OfLaws.GsiHidden.{gsi_hidden}
use Rattle.si_audit.proofs.OfLaws.PlainTexts.{plain_text}
use Rattle.si_audit.proofs.OfLaws.ReportExists.{one_report_exists}
use Rattle.si_audit.proofs.laws.laws_hold.Goals as goal

pub returns : goal.returns
returns c = record {
  one_report = one_report_of;
  same_report = same_report;
  levels_law = levels_hold;
  levels_law_of_texts = clean_holds;
  snapshots_law = snapshots_hold;
  forms_law = forms_hold;
  lines_law = lines_tell;
  gsi_law = gsi_hidden;
  plain_text_law = plain_text;
  reports_law = one_report_exists;
}
