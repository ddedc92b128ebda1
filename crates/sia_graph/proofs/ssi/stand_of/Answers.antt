use Rattle.std.proofs.Common.{sym, ◌∙◌}
use Rattle.std.proofs.lemmas.Bool.{false≢true}
use Rattle.sia_graph.proofs.Shared.MakersTold.{is_told, maker_told}
use Rattle.sia_graph.proofs.SsiTest.Stands.{stands_here, stands_last, stands_own}
use Rattle.sia_graph.proofs.ssi.stand_of.Goals as goal

pub returns-in_default-2 : goal.returns-in_default-2
returns-in_default-2 c = let at = c.requires in stands_last c.args.index.now c.args.txn c.args.position at.0 at.1 (c.in_default.ensures at.0 at.1)

pub maker_at-requires : goal.maker_at-requires
maker_at-requires c = let w = c.in-Some.ensures c.requires.0 c.requires.1 in (w.0, w.1)

pub returns-in-Some : goal.returns-in-Some
returns-in-Some c =
    let at = c.requires in
    let w = c.in-Some.ensures at.0 at.1 in
    let told = maker_told c.args.index.now c.in-Some.next w.0 w.1 c.maker_at.result (c.maker_at.ensures w.0 w.1) c.args.txn in
    stands_own c.args.index.now c.args.txn c.args.position at.0 at.1 c.in-Some.next w.0 w.1 w.2 w.3 w.4 (told.0 ((is_told c.maker_at.result c.args.txn c.eq.result c.eq.ensures).0 c.if-eq.true))

pub returns-in_default : goal.returns-in_default
returns-in_default c =
    let at = c.requires in
    let w = c.in-Some.ensures at.0 at.1 in
    let is = is_told c.maker_at.result c.args.txn c.eq.result c.eq.ensures in
    let told = maker_told c.args.index.now c.in-Some.next w.0 w.1 c.maker_at.result (c.maker_at.ensures w.0 w.1) c.args.txn in
    stands_here c.args.index.now c.args.txn c.args.position at.0 at.1 c.in-Some.next w.0 w.1 w.2 w.3 w.4 (λ m. false≢true (sym c.if-eq.false ∙ is.1 (told.1 m)))
