-- The wrong reads, where another version is due.
use Rattle.std.proofs.Common.{◌≡◌, sym, subst}
use Rattle.sia_events.specs.Isolation.{IsBadRead}
use Rattle.sia_events.specs.Reads.{IsDue}
use Rattle.sia_parts.specs.Seeing.{sight_of}
use Rattle.sia_parts.specs.Sights.{Sight}
use Rattle.sia_parts.proofs.Auditing.Saw.{bad_put, due_not_wrong, none_put, unexplained_put, unexplained_told}
use Rattle.sia_parts.proofs.audit.sights.put_if_bad.Goals as goal

pub returns-then-due-saw : goal.returns-then-due-saw
returns-then-due-saw c h wf is_known sight due loose =
    let known = c.args.known.now in
    let seen = subst (λ v. IsDue h known.reader.txn known.reader.place c.args.pair.0 v) c.if-due-saw.true due in
    due_not_wrong h wf (λ s. s ≡ sight_of known c.args.pair.0 c.args.pair.1) (λ s same. subst (λ (x : Sight). IsDue h x.txn x.place x.key x.saw) (sym same) seen) c.args.wrong.now

pub returns-in_ok-push-2 : goal.returns-in_ok-push-2
returns-in_ok-push-2 c h wf is_known sight due loose =
    let bad : IsBadRead h c.args.known.now.reader.place c.args.known.now.reader.txn c.args.pair.0 c.args.pair.1 c.args.due = (sight, due, (λ same. c.if-due-saw.false (sym same))) in
    let told = unexplained_told h wf c.args.known.now is_known c.args.pair.0 c.args.pair.1 c.args.due bad c.args.committed loose in
    record {
      bad_reads = rw c.in_ok-push.ensures.items (bad_put h _ bad _);
      unexplained = rw c.in_ok-push-2.ensures.items (unexplained_put h _ (told.0 (c.is_unexplained.ensures.0 c.if-is_unexplained.true)) _);
    }

pub returns-else-is_unexplained : goal.returns-else-is_unexplained
returns-else-is_unexplained c h wf is_known sight due loose =
    let bad : IsBadRead h c.args.known.now.reader.place c.args.known.now.reader.txn c.args.pair.0 c.args.pair.1 c.args.due = (sight, due, (λ same. c.if-due-saw.false (sym same))) in
    let told = unexplained_told h wf c.args.known.now is_known c.args.pair.0 c.args.pair.1 c.args.due bad c.args.committed loose in
    record {
      bad_reads = rw c.in_ok-push.ensures.items (bad_put h _ bad _);
      unexplained = none_put h _ (λ is. let yes = c.is_unexplained.ensures.1 (told.1 is) in let no = c.if-is_unexplained.false in cc) _;
    }
