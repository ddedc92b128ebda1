-- The newest version as of the start is due, unless the reader wrote the key.
use Rattle.std.proofs.Common.{◌≡◌, ◌<◌, inl, sym, subst, refl}
use Rattle.std.specs.Prelude.{MatchOption}
use Rattle.sia_events.specs.Reads.{IsDue}
use Rattle.sia_events.specs.Transactions.{WroteBefore}
use Rattle.sia_index.specs.Numbers.{IsCommittedAt}
use Rattle.sia_parts.proofs.Auditing.Committing.{committed_number}
use Rattle.sia_parts.proofs.Shared.OneNumber.{one_key}
use Rattle.sia_parts.proofs.Auditing.Positions.{at_zero, newest_is_due}
use Rattle.sia_parts.proofs.audit.sights.due_at.Goals as goal

pub bounds-committed-maker : goal.bounds-committed-maker
bounds-committed-maker c =
    let h = c.args.ix.now in
    let v = c.position_as_of-position.ensures.0 in
    let told = subst (λ o. MatchOption o (v.commit ≡ 0) (λ i. (0 < v.commit) × IsCommittedAt h i v.txn)) c.in-Some.is (c.maker_at.ensures v c.position_as_of-position.ensures.1) in
    (committed_number h _ c.committed.ensures c.in-Some.maker v.txn told.1).0

pub returns-then-mine : goal.returns-then-mine
returns-then-mine c k at mine = inl (mine.0 c.if-mine.true, refl)

pub returns-in-Some : goal.returns-in-Some
returns-in-Some c k at mine =
    let h = c.args.ix.now in
    let known = c.args.known.now in
    let newest = c.position_as_of-position.ensures in
    let v = newest.0 in
    let told = subst (λ o. MatchOption o (v.commit ≡ 0) (λ i. (0 < v.commit) × IsCommittedAt h i v.txn)) c.in-Some.is (c.maker_at.ensures v newest.1) in
    let key = one_key h c.args.key v.key k newest.2 at in
    let name = (committed_number h _ c.committed.ensures c.in-Some.maker v.txn told.1).1 in
    let due = newest_is_due h c.requires.well_formed known.reader.txn known.reader.place known.reader.start c.position_as_of-position.result v newest.1 c.requires.known.reader.starts
    (λ before. let own = mine.1 (subst (λ j. WroteBefore h known.reader.txn j known.reader.place) key before) in let no = c.if-mine.false in cc) newest.3 in
    subst (IsDue h known.reader.txn known.reader.place k) (sym name) (subst (λ j. IsDue h known.reader.txn known.reader.place j v.txn) key due)

pub returns-in-None : goal.returns-in-None
returns-in-None c k at mine =
    let h = c.args.ix.now in
    let known = c.args.known.now in
    let newest = c.position_as_of-position.ensures in
    let v = newest.0 in
    let zero : v.commit ≡ 0 = subst (λ o. MatchOption o (v.commit ≡ 0) (λ i. (0 < v.commit) × IsCommittedAt h i v.txn)) c.in-None.is (c.maker_at.ensures v newest.1) in
    let key = one_key h c.args.key v.key k newest.2 at in
    let due = newest_is_due h c.requires.well_formed known.reader.txn known.reader.place known.reader.start c.position_as_of-position.result v newest.1 c.requires.known.reader.starts
    (λ before. let own = mine.1 (subst (λ j. WroteBefore h known.reader.txn j known.reader.place) key before) in let no = c.if-mine.false in cc) newest.3 in
    subst (IsDue h known.reader.txn known.reader.place k) (at_zero h c.requires.well_formed c.position_as_of-position.result v newest.1 zero) (subst (λ j. IsDue h known.reader.txn known.reader.place j v.txn) key due)
