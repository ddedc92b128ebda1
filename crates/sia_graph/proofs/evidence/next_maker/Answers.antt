use Rattle.std.proofs.Common.{sym, ◌∙◌}
use Rattle.std.proofs.lemmas.Option.{none-some}
use Rattle.sia_graph.proofs.Shared.MakersTold.{maker_told, next_told, none_next}
use Rattle.sia_graph.proofs.evidence.next_maker.Goals as goal

pub returns-in_err-next_position : goal.returns-in_err-next_position
returns-in_err-next_position c i =
    let at = c.requires in (
      (λ e. absurd (none-some i (sym c.from_residual.ensures ∙ e))),
      (λ m. absurd (none_next c.args.index.now c.args.position at.0 at.1 (c.in_err-next_position.ensures at.0 at.1) i m)),
    )

pub maker_at-requires : goal.maker_at-requires
maker_at-requires c = let w = c.in_ok-next_position.ensures c.requires.0 c.requires.1 in (w.0, w.1)

pub returns : goal.returns
returns c i =
    let at = c.requires in
    let w = c.in_ok-next_position.ensures at.0 at.1 in
    let told = maker_told c.args.index.now c.in_ok-next_position.field-0 w.0 w.1 c.maker_at.result (c.maker_at.ensures w.0 w.1) i in
    let next = next_told c.args.index.now c.args.position at.0 at.1 c.in_ok-next_position.field-0 w.0 w.1 w.3 w.4 i in
    ((λ e. next.0 (told.0 e)), (λ m. told.1 (next.1 m)))
