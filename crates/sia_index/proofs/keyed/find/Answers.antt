-- Where the row at the place of the search hasn't the number, none has.
use Rattle.std.proofs.Common.{◌∙◌, ap}
use Rattle.std.proofs.lemmas.List.{get_or_default}
use Rattle.sia_index.proofs.Sorting.Finding.{not_found}
use Rattle.sia_index.proofs.keyed.find.Goals as goal

pub returns-then-number : goal.returns-then-number
returns-then-number g c = not_found g.O.By.by _ c.requires _ _ c.place_from-at.ensures.point
    (λ inside d same. c.if-number.true (c.number.ensures ∙ ap g.O.By.by (c.in_ok-get.ensures.lookup.1 ∙ get_or_default c.args.rows.now c.place_from-at.result _ d inside) ∙ same))
