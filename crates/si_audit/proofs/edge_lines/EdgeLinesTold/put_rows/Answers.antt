-- Each row puts its line.
use denote.Enum.Declared.{tag_of}
use Rattle.std.proofs.Common.{ℕ, ◌≡◌, ◌++◌, ◌+◌, ◌<◌, ◌≤◌, List, [], ◌∷◌, get_or, length, take, refl, ap, ◌∙◌, arith, rules}
use Rattle.sia_parts.specs.contracts.finding.Kind.{the_type}
use Rattle.sia_parts.specs.declared.finding.Kind.{Kind}
use Rattle.sia_parts.specs.declared.edges.EdgeTo.{EdgeTo}
use Rattle.sia_parts.specs.declared.finding.Kind.TheVariants.{Rw, Wr, Ww}
use Rattle.sia_parts.specs.Entries.{kind_number}
use Rattle.si_audit.specs.declared.sheet.Word.{Word}
use Rattle.si_audit.specs.Sheet.{word_at}
use Rattle.si_audit.proofs.OfReport.EdgesInTurn.{kinds_are, row_put}
use Rattle.si_audit.proofs.edge_lines.EdgeLinesTold.put_rows.Goals as goal

numbered : (kind : Kind) → tag_of the_type kind ≡ kind_number kind
numbered Ww = refl
numbered Wr = refl
numbered Rw = refl

pub putting-preserved : goal.putting-preserved
putting-preserved c =
    let e = c.args.self.now in
    let inv = c.putting.invariant in
    let kinds : List (Word 4) = c.new.result ∷ c.new-2.result ∷ c.new-3.result ∷ [] in
    let none : EdgeTo = record { target = 0; kind = Ww; key = 0 } in
    let row : EdgeTo = get_or c.args.rows.now c.putting.row none in
    let inside : c.putting.row < length c.args.rows.now = search rules in
    let room : c.putting.end + 72 ≤ length c.putting.bytes = search rules in
    let z = c.put-end.ensures.within in
    let y = c.put-end-in-putting.ensures.within in
    let x = c.put-end-in-putting-2.ensures.within in
    let w = c.put-end-in-putting-3.ensures.within in
    let v = c.put-end-in-putting-4.ensures.within in
    let long : length c.put-end-in-putting-4.new.bytes ≡ length c.putting.bytes = search rules in
    let low = inv.low in
    let from = inv.from in
    let (piece, bytes, lines) = row_put e.spelled.now c.args.number c.args.rows.now c.putting.row none inside _ inv.piece _ _ _ _ _ _ _ inv.bytes inv.lines
    (c.put-end.ensures.bytes ∙ ap (λ (word : List ℕ). take c.putting.end c.putting.bytes ++ word) c.new-edge.ensures)
    (c.put-end-in-putting.ensures.bytes ∙ ap (λ (words : List (Word 16)). take c.put-end.result c.put-end.new.bytes ++ word_at words c.args.number) c.deref.ensures.value)
    (c.put-end-in-putting-2.ensures.bytes ∙ ap (λ (word : List ℕ). take c.put-end-in-putting.result c.put-end-in-putting.new.bytes ++ word) (ap (word_at kinds) (numbered row.kind) ∙ kinds_are c.new.result c.new-2.result c.new-3.result c.new.ensures c.new-2.ensures c.new-3.ensures row.kind))
    (c.put-end-in-putting-3.ensures.bytes ∙ ap (λ (words : List (Word 16)). take c.put-end-in-putting-2.result c.put-end-in-putting-2.new.bytes ++ word_at words row.target) c.deref.ensures.value)
    (c.put-end-in-putting-4.ensures.bytes ∙ ap (λ (words : List (Word 24)). take c.put-end-in-putting-3.result c.put-end-in-putting-3.new.bytes ++ word_at words row.key) c.deref-2.ensures.value) in record {
      piece = piece;
      bytes = bytes;
      lines = lines;
      long = long ∙ inv.long;
      low = omega arith;
      high = omega arith;
      from = (let a = z.0 in let b = y.0 in let d = x.0 in let k = w.0 in let n = v.0 in omega arith);
      to = (let a = z.1 in let b = y.1 in let d = x.1 in let k = w.1 in let n = v.1 in omega arith);
      same = λ is. absurd (omega arith);
    }
