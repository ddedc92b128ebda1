-- The lines of worked accounts, byte for byte.
use Rattle.std.proofs.Common.{◌≡◌, [], ◌∷◌, codes, refl, true, false}
use Rattle.sia_events.specs.Text.{numeral}
use Rattle.sia_events.specs.declared.fault.Reason.TheVariants.{NotWritten}
use Rattle.sia_events.specs.declared.fault.TextFault.TheVariants.{TextTooLong, Refused}
use Rattle.sia_parts.specs.declared.finding.Kind.TheVariants.{Ww, Rw}
use Rattle.sia_graph.specs.declared.judgement.Verdict.TheVariants.{Order, Cycle}
use Rattle.si_audit.specs.declared.options.Form.TheVariants.{Full, Brief}
use Rattle.si_audit.specs.Account.{Account}
use Rattle.si_audit.specs.Lines.{report_text, refusal_line}

-- no event
abbrev pub account_of_nothing : Account
account_of_nothing = record {
  events = 0;
  committed = 0;
  aborted = 0;
  unfinished = 0;
  bad_reads = [];
  bad_writes = [];
  unexplained = [];
  edges = [];
  pivots = [];
  pass = true;
  serializable = true;
  verdict = Order [];
}

report_of_nothing : report_text Full account_of_nothing ≡ codes "events 0 committed 0 aborted 0 open 0\nisolation kept\nssi pass\nserializable yes\norder\n"
unfolding numeral
report_of_nothing = refl

-- write skew
abbrev pub account_of_write_skew : Account
account_of_write_skew = record account_of_nothing {
  events = 8;
  committed = 2;
  edges = record { src = 1; kind = Rw; dst = 2; key = 1 } ∷ record { src = 2; kind = Rw; dst = 1; key = 2 } ∷ [];
  pivots = record { txn = 1; ins = 2 ∷ []; outs = 2 ∷ []; firsts = [] } ∷ record { txn = 2; ins = 1 ∷ []; outs = 1 ∷ []; firsts = 1 ∷ [] } ∷ [];
  pass = false;
  serializable = false;
  verdict = Cycle (record { txn = 1; kind = Rw; key = 1 } ∷ record { txn = 2; kind = Rw; key = 2 } ∷ []);
}

report_of_write_skew : report_text Full account_of_write_skew ≡ codes "events 8 committed 2 aborted 0 open 0\nisolation kept\nedge 1 rw 2 1\nedge 2 rw 1 2\npivot 1 in 2 out 2\npivot 2 in 1 out 1 first 1\nssi fail\nserializable no\ncycle 1 >rw:1> 2 >rw:2> 1\n"
unfolding numeral
report_of_write_skew = refl

brief_report_of_write_skew : report_text Brief account_of_write_skew ≡ codes "events 8 committed 2 aborted 0 open 0\nisolation kept\nssi fail\nserializable no\ncycle 1 >rw:1> 2 >rw:2> 1\n"
unfolding numeral
brief_report_of_write_skew = refl

-- an aborted version read
abbrev pub account_of_aborted_read : Account
account_of_aborted_read = record account_of_nothing {
  events = 4;
  committed = 1;
  aborted = 1;
  bad_reads = record { place = 2; txn = 2; key = 1; saw = 1; due = 0 } ∷ [];
  unexplained = record { place = 2; txn = 2; key = 1; saw = 1 } ∷ [];
  pass = false;
  serializable = false;
  verdict = Order (2 ∷ []);
}

report_of_aborted_read : report_text Full account_of_aborted_read ≡ codes "events 4 committed 1 aborted 1 open 0\nisolation broken\nbad-read 2 2 1 saw 1 due 0\nunexplained 2 2 1 1\nssi fail\nserializable no\norder 2\n"
unfolding numeral
report_of_aborted_read = refl

-- a lost update: a bad write
abbrev pub account_of_lost_update : Account
account_of_lost_update = record account_of_nothing {
  events = 4;
  committed = 2;
  bad_writes = record { key = 1; first = 1; second = 2 } ∷ [];
  edges = record { src = 1; kind = Ww; dst = 2; key = 1 } ∷ [];
  pass = false;
  verdict = Order (1 ∷ 2 ∷ []);
}

report_of_lost_update : report_text Full account_of_lost_update ≡ codes "events 4 committed 2 aborted 0 open 0\nisolation broken\nbad-write 1 1 2\nedge 1 ww 2 1\nssi fail\nserializable yes\norder 1 2\n"
unfolding numeral
report_of_lost_update = refl

refusal_of_unwritten_version : refusal_line (Refused 1 NotWritten) ≡ codes "refused: token 1: version not written\n"
unfolding numeral
refusal_of_unwritten_version = refl

refusal_of_long_text : refusal_line TextTooLong ≡ codes "refused: text too long\n"
refusal_of_long_text = refl
