-- The first words fit a word, and each row puts its words.
use Rattle.std.proofs.Common.{◌≡◌, ◌++◌, ◌+◌, ◌<◌, ◌≤◌, ◌^◌, List, [], ◌∷◌, Option, get_or, length, take, ap, subst, ◌∙◌, arith, rules, slice_index}
use Rattle.sia_graph.specs.declared.neighbours.Neighbour.{Neighbour}
use Rattle.sia_graph.specs.declared.neighbours.Role.{Role}
use Rattle.sia_graph.specs.declared.neighbours.Role.TheVariants.{In}
use Rattle.si_audit.specs.declared.sheet.Word.{Word}
use Rattle.si_audit.specs.PivotLines.{lead_number, lead_words}
use Rattle.si_audit.specs.Sheet.{word_at}
use Rattle.si_audit.proofs.OfReport.PivotWords.{end_at, lead_is, pivot_row_put}
use Rattle.si_audit.proofs.OfReport.EdgesInTurn.{numeral_short}
use Rattle.si_audit.proofs.pivot_lines.PivotLinesTold.put_rows.Goals as goal

pub of-requires : goal.of-requires
of-requires c = let small : c.from-pivot.result < 2 ^ 32 = search rules in omega (arith, numeral_short 10 c.from-pivot.result (omega arith) (omega arith) (omega arith))

pub putting-preserved : goal.putting-preserved
putting-preserved c =
    let e = c.args.self.now in
    let inv = c.putting.invariant in
    let words : List (Word 24) = c.of.result ∷ c.new.result ∷ c.new-2.result ∷ c.new-3.result ∷ [] in
    let t = slice_index e.txns.now c.args.number in
    let pivot : c.from-pivot.result ≡ t = search rules in
    let begun = lead_is c.from-pivot.result c.of.result c.new.result c.new-2.result c.new-3.result c.of.ensures c.new.ensures c.new-2.ensures c.new-3.ensures in
    let head = subst (λ u. (before : Option Role) (role : Role) → word_at words (lead_number before role) ≡ lead_words u before role) pivot begun in
    let tail = end_at c.from-pivot.result c.of.result c.new.result c.new-2.result c.new-3.result c.of.ensures c.new.ensures c.new-2.ensures c.new-3.ensures in
    let none : Neighbour = record { role = In; txn = 0 } in
    let row : Neighbour = get_or c.args.rows.now c.putting.row none in
    let inside : c.putting.row < length c.args.rows.now = search rules in
    let room : c.putting.end + 72 ≤ length c.putting.bytes = search rules in
    let a = c.put-end.ensures.within in
    let b = c.put-end-in-putting.ensures.within in
    let d = c.put-end-in-putting-2.ensures.within in
    let long : length c.put-end-in-putting-2.new.bytes ≡ length c.putting.bytes = search rules in
    let low = inv.low in
    let from = inv.from in
    let (piece, bytes, lines) = pivot_row_put t e.spelled.now.txns.items words head tail c.args.rows.now c.putting.row none inside _ inv.piece _ _ _ _ _ inv.bytes inv.lines
    (c.put-end.ensures.bytes ∙ ap (λ n. take c.putting.end c.putting.bytes ++ word_at words n) (c.lead.ensures none))
    (c.put-end-in-putting.ensures.bytes ∙ ap (λ (words : List (Word 16)). take c.put-end.result c.put-end.new.bytes ++ word_at words row.txn) c.deref.ensures.value)
    (c.put-end-in-putting-2.ensures.bytes ∙ ap (λ n. take c.put-end-in-putting.result c.put-end-in-putting.new.bytes ++ word_at words n) c.tail.ensures) in record {
      piece = piece;
      bytes = bytes;
      lines = lines;
      long = long ∙ inv.long;
      low = omega arith;
      high = omega arith;
      from = (let x = a.0 in let y = b.0 in let z = d.0 in omega arith);
      to = (let x = a.1 in let y = b.1 in let z = d.1 in omega arith);
      same = λ is. absurd (omega arith);
    }
