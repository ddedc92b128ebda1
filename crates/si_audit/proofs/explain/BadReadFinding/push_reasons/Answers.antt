use Rattle.std.proofs.Common.{◌≡◌, ◌++◌, codes, refl, subst}
use Rattle.std.proofs.lemmas.Result.{on_ok_weaker}
use Rattle.sia_events.specs.Text.{numeral}
use Rattle.sia_events.specs.Transactions.{StartsAt}
use Rattle.sia_events.proofs.OfLaws.Seen.{saw_written}
use Rattle.sia_parts.specs.Telling.{event_words, start_words}
use Rattle.si_audit.specs.Reasons.{anomaly_words, reason}
use Rattle.sia_parts.proofs.OfReasons.Named.{due_written}
use Rattle.sia_parts.proofs.OfReasons.PushedWords.{three_words}
use Rattle.si_audit.proofs.Shared.Pushed.{named_event}
use Rattle.si_audit.proofs.explain.BadReadFinding.push_reasons.Goals as goal

pub anomaly_of-name-requires-clause-starts : goal.anomaly_of-name-requires-clause-starts
anomaly_of-name-requires-clause-starts c = let known = c.in-Some.ensures in subst (λ g. StartsAt g c.args.self.now.txn c.in-Some.info.start) c.requires.index known.0

pub push_unless-requires-clause-wrote : goal.push_unless-requires-clause-wrote
push_unless-requires-clause-wrote c some =
    let b = c.args.self.now in
    let wrote = saw_written c.args.of.now.history.now c.law.ensures b.place b.txn b.key b.saw c.requires.found.0 some in
    (wrote.0, wrote.2)

pub push_unless-requires-2-clause-wrote : goal.push_unless-requires-2-clause-wrote
push_unless-requires-2-clause-wrote c some = let b = c.args.self.now in due_written c.args.of.now.history.now b.txn b.place b.key b.due c.requires.found.1 some

pub returns : goal.returns
returns c =
    let h = c.args.of.now.history.now in
    let b = c.args.self.now in
    let s = c.in-Some.info.start in
    let name = c.anomaly_of-name.result in
    let saw = c.in_ok-push_unless.ensures in
    let known = c.in-Some.ensures in
    let line : c.push_start.new.out.items ≡ c.args.out.now.items ++ reason (anomaly_words name ++ codes ": " ++ event_words h b.key b.place ++ codes "; " ++ start_words b.txn s) =
    rw (
      c.in_ok-push_start.ensures,
      c.in_ok-push_event.ensures,
      c.in_ok-extend_from_slice-2.ensures.items,
      c.anomaly_words.ensures,
      c.in_ok-extend_from_slice.ensures.items,
    ) (named_event c.args.out.now.items (codes "  ") (anomaly_words name) (codes ": ") (event_words h b.key b.place) (codes "; ") (codes "transaction ") (numeral b.txn) (codes " starts after event ") (numeral s) (codes "\n")) in
    on_ok_weaker c.push_unless-2.result (λ due. (
      reason (anomaly_words name ++ codes ": " ++ event_words h b.key b.place ++ codes "; " ++ start_words b.txn s) ++ saw.0 ++ due.0,
      (name, s, saw.0, due.0, c.anomaly_of-name.ensures, subst (λ g. StartsAt g b.txn s) c.requires.index known.0, saw.1, due.1, refl),
      three_words c.args.out.now.items _ _ _ _ _ _ line saw.2 due.2,
    )) c.push_unless-2.ensures
