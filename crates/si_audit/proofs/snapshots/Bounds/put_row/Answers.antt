-- A read or write tells what it sees, and may be the first of its transaction.
use Rattle.std.proofs.Common.{ℕ, refl, sym, subst, arith}
use Rattle.sia_events.specs.Numbering.{key_at, names_of}
use Rattle.sia_events.specs.Transactions.{Wrote}
use Rattle.sia_index.specs.Info.{IsKeyAt}
use Rattle.si_audit.proofs.Shared.KnownRows.{known_more, known_on}
use Rattle.si_audit.proofs.Shared.RowTells.{Tells, idle_tells, range_tells, read_tells, read_write, unwritten_tells, write_tells}
use Rattle.si_audit.proofs.snapshots.Bounds.put_row.Goals as goal
use Rattle.si_audit.proofs.snapshots.Bounds.put_row.Goals.{in-Range, in-Write, in-Read+in-Some, in-Read+in_default}

pub returns-in-Begin : goal.returns-in-Begin
returns-in-Begin c known = known_on c.args.log.now c.law.ensures c.args.txn c.args.place (idle_tells c.args.log.now c.args.txn c.args.place c.args.row c.requires.event c.in-Begin.is) c.args.self.now known

pub put-requires-clause-write : goal.put-requires-clause-write
put-requires-clause-write c = (read_write (names_of c.args.log.now) c.args.row c.in-Read.key c.in-Read.saw c.in-Read.is c.requires.within).0

pub returns-then-self-eq0 : goal.returns-then-self-eq0
returns-then-self-eq0 c known =
    let h = c.args.log.now in
    let t = c.args.txn in
    let p = c.args.place in
    let old = c.args.self.now in
    let tells : Tells h t p old c.match-row.self = elim c.match-row.branch [
      | in-Range w ↦ subst (Tells h t p old) (sym w.self-is) (range_tells h t p c.args.row c.requires.event c.law.ensures c.requires.actor old w.put_range.new.self w.in-Range.txn w.in-Range.range w.in-Range.writes w.in-Range.is w.put_range.ensures)
      | in-Write w ↦ subst (Tells h t p old) (sym w.self-is) (write_tells h t p c.args.row c.requires.event c.law.ensures c.requires.actor old old w.in-Write.txn w.in-Write.key w.in-Write.write w.in-Write.is)
      | in-Read+in-Some w ↦
          let at = subst (λ g. IsKeyAt g w.in-Some.number (key_at (names_of g) w.in-Read.key)) c.requires.index w.in-Some.ensures in
          subst (Tells h t p old) (sym w.self-is) (read_tells h t p c.args.row c.requires.event c.law.ensures c.requires.actor old w.put.new.self w.in-Read.key w.in-Read.saw w.in-Read.is w.in-Some.number at
          (w.put.ensures (key_at (names_of h) w.in-Read.key) at (read_write (names_of h) c.args.row w.in-Read.key w.in-Read.saw w.in-Read.is c.requires.within).1))
      | in-Read+in_default w ↦
          let none = subst (λ g. (u : ℕ) → ¬ Wrote g u (key_at (names_of g) w.in-Read.key)) c.requires.index w.in_default.ensures in
          subst (Tells h t p old) (sym w.self-is) (unwritten_tells h t p c.args.row c.requires.event c.law.ensures c.requires.actor old old w.in-Read.key w.in-Read.saw w.in-Read.is none)
    ] in
    known_more h c.law.ensures t p old c.match-row.self p tells.0 tells.1 (λ _. refl) (λ some. absurd (let none = c.if-self-eq0.true in omega arith)) known

pub returns-else-self-eq0 : goal.returns-else-self-eq0
returns-else-self-eq0 c known =
    let h = c.args.log.now in
    let t = c.args.txn in
    let p = c.args.place in
    let old = c.args.self.now in
    let tells : Tells h t p old c.match-row.self = elim c.match-row.branch [
      | in-Range w ↦ subst (Tells h t p old) (sym w.self-is) (range_tells h t p c.args.row c.requires.event c.law.ensures c.requires.actor old w.put_range.new.self w.in-Range.txn w.in-Range.range w.in-Range.writes w.in-Range.is w.put_range.ensures)
      | in-Write w ↦ subst (Tells h t p old) (sym w.self-is) (write_tells h t p c.args.row c.requires.event c.law.ensures c.requires.actor old old w.in-Write.txn w.in-Write.key w.in-Write.write w.in-Write.is)
      | in-Read+in-Some w ↦
          let at = subst (λ g. IsKeyAt g w.in-Some.number (key_at (names_of g) w.in-Read.key)) c.requires.index w.in-Some.ensures in
          subst (Tells h t p old) (sym w.self-is) (read_tells h t p c.args.row c.requires.event c.law.ensures c.requires.actor old w.put.new.self w.in-Read.key w.in-Read.saw w.in-Read.is w.in-Some.number at
          (w.put.ensures (key_at (names_of h) w.in-Read.key) at (read_write (names_of h) c.args.row w.in-Read.key w.in-Read.saw w.in-Read.is c.requires.within).1))
      | in-Read+in_default w ↦
          let none = subst (λ g. (u : ℕ) → ¬ Wrote g u (key_at (names_of g) w.in-Read.key)) c.requires.index w.in_default.ensures in
          subst (Tells h t p old) (sym w.self-is) (unwritten_tells h t p c.args.row c.requires.event c.law.ensures c.requires.actor old old w.in-Read.key w.in-Read.saw w.in-Read.is none)
    ] in
    known_more h c.law.ensures t p old c.match-row.self c.match-row.self.first tells.0 tells.1 (λ none. absurd (c.if-self-eq0.false none)) (λ _. refl) known
