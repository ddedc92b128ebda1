-- The row before the place and that at it tell.
use Rattle.std.proofs.Common.{◌-◌, ◌≤◌, length, ap, sym, ◌∙◌, arith}
use Rattle.std.proofs.lemmas.Bool.{leb-true, ltb-true}
use Rattle.std.proofs.lemmas.List.{get_or_default}
use Rattle.sia_index.proofs.Sorting.Points.{point_told}
use Rattle.sia_index.proofs.keyed.place_from_near.Goals.{then-near-rows+then-near-eq0, then-near-rows+else-near-eq0, else-near-rows, then-near-rows-2, else-near-rows-2}
use Rattle.sia_index.proofs.keyed.place_from_near.Goals as goal

pub returns-then-from-number-clause-point : goal.returns-then-from-number-clause-point
returns-then-from-number-clause-point g c =
    let by = g.O.By.by in
    let rows = c.args.rows.now in
    let near = c.args.near in
    let most : near ≤ length rows = elim c.if-near-rows.branch [
      | then-near-rows+then-near-eq0 w ↦ w.if-near-rows.true
      | then-near-rows+else-near-eq0 w ↦ w.if-near-rows.true
      | else-near-rows w ↦ leb-true near (length rows) (sym w.is_behind-is ∙ c.if-is_behind.true)
    ] in
    point_told by rows c.requires c.args.from near most
    (λ d some. elim c.if-near-rows.branch [
      | then-near-rows+then-near-eq0 w ↦ absurd (let none = w.if-near-eq0.true in omega arith)
      | then-near-rows+else-near-eq0 w ↦
          let less = ltb-true w.number.result c.args.from (sym w.is_behind-is ∙ c.if-is_behind.true) in
          let is = w.number.ensures ∙ ap by (w.index-rows-near.is ∙ get_or_default rows (near - 1) w.index-rows-near.result d (omega arith)) in
          omega arith
      | else-near-rows w ↦ let most = leb-true near (length rows) (sym w.is_behind-is ∙ c.if-is_behind.true) in let more = w.if-near-rows.false in absurd (omega arith)
    ])
    (λ d inside. elim c.if-near-rows-2.branch [
      | then-near-rows-2 w ↦ absurd (let end = w.if-near-rows-2.true in omega arith)
      | else-near-rows-2 w ↦
          let from = leb-true c.args.from w.number-else-near-rows-2.result (sym w.value-is ∙ c.if-from-number.true) in
          let is = w.number-else-near-rows-2.ensures ∙ ap by (w.index-rows-near-else-near-rows-2.is ∙ get_or_default rows near w.index-rows-near-else-near-rows-2.result d inside) in
          omega arith
    ])
