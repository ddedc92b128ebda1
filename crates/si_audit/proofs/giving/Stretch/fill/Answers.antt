-- Each step puts rows on the sheet, or takes the next transaction.
use Rattle.std.proofs.Common.{rules, ◌≡◌, inl, ◌+◌, ◌++◌, ◌<◌, ◌≤◌, ◌-◌, ◌*◌, ◌∙◌, [], length, subst, arith, vec_capacity, refl}
use Rattle.si_audit.specs.Giving.{rows_left}
use Rattle.si_audit.proofs.OfReport.TextsInTurn.{fewer_taken, next_taken, next_told, over, piece_put}
use Rattle.si_audit.proofs.giving.Stretch.fill.Goals as goal

pub filling-preserved-then-self-len : goal.filling-preserved-then-self-len
filling-preserved-then-self-len g c =
    let s = c.filling.self in
    let inv = c.filling.invariant in
    let (piece, put, parted) = c.put_rows-self.ensures.text in
    let source : c.saturating_sub-number.result ≡ s.next - 1 = search rules in
    let lines : g.T.Told.text c.args.told.now (s.next - 1) s.rows.items s.row ≡ piece ++ g.T.Told.text c.args.told.now (s.next - 1) s.rows.items c.put_rows-self.result =
    rw (← source, ← c.deref.ensures.value) parted in
    let room : c.filling.sheet.end + 72 ≤ length c.filling.sheet.bytes.items = search rules in
    let more : s.row < length s.rows.items = search rules in
    let less : s.row < c.put_rows-self.result = c.put_rows-self.ensures.some (search rules) room in
    let most : c.put_rows-self.result ≤ length s.rows.items = subst (λ rows. c.put_rows-self.result ≤ length rows) c.deref.ensures.value c.put_rows-self.ensures.within.1 in
    record {
      can = record { room = inv.can.room; few = inv.can.few; row = most; next = inv.can.next; end = inv.can.end };
      left = λ text old.
          let (left, on, (rest, is, at)) = inv.left text old in
          (_, rw put (piece_put _ piece _ _ rest left text on at lines), (rest, is, refl));
      most = (let old = inv.most in omega arith);
      still = inl (let old = inv.most in omega arith);
      size = c.put_rows-self.ensures.size ∙ inv.size;
    }

pub filling-preserved : goal.filling-preserved
filling-preserved g c =
    let s = c.filling.self in
    let inv = c.filling.invariant in
    let past : length s.rows.items ≤ s.row = search rules in
    let more : s.next < s.end = search rules in
    let row = inv.can.row in
    let same : s.row ≡ length s.rows.items = omega arith in
    let none : g.T.Told.text c.args.told.now (s.next - 1) s.rows.items s.row ≡ [] = rw same (g.T.Told.ends c.args.told.now (s.next - 1) s.rows.items) in
    let cap = c.put_of.ensures.room in
    let few : length c.put_of.new.rows.items ≤ vec_capacity s.rows = (let ok = c.put_of.new.rows.ok in omega arith) in
    let fewer : (s.end - (s.next + 1)) * (vec_capacity c.put_of.new.rows + 1) + length c.put_of.new.rows.items < rows_left s =
    rw cap (let less = fewer_taken s.end s.next (vec_capacity s.rows) (length c.put_of.new.rows.items) more few in omega arith) in
    record {
      can = record { room = (let room = inv.can.room in omega arith); few = (let ok = c.put_of.new.rows.ok in omega arith); row = omega arith; next = omega arith; end = inv.can.end };
      left = λ text old.
          let (left, on, (rest, is, at)) = inv.left text old in
          let (own, later, tells, are, parted) = next_told (g.T.Told.tells c.args.told.now) s.next s.end rest is more in
          let back : s.next + 1 - 1 ≡ s.next = omega arith in
          let mine = c.put_of.ensures.rows own tells in
          (left, on, (later, are, rw (back, mine) (next_taken _ own rest later left at none parted)));
      most = (let most = inv.most in omega arith);
      still = inl (let most = inv.most in omega arith);
      size = inv.size;
    }

pub returns-else-self-clause-end : goal.returns-else-self-clause-end
returns-else-self-clause-end g c = λ blank text old.
    let s = c.filling.self in
    let (rest, is, at) = old in
    let past : length s.rows.items ≤ s.row = search rules in
    let done : s.end ≤ s.next = search rules in
    let row = c.filling.invariant.can.row in
    let same : s.row ≡ length s.rows.items = omega arith in
    over (g.T.Told.tells c.args.told.now) s.next s.end (g.T.Told.text c.args.told.now (s.next - 1) s.rows.items s.row) rest text is done at (rw same (g.T.Told.ends c.args.told.now (s.next - 1) s.rows.items))
