-- One row more is found.
use Rattle.std.proofs.Common.{◌≡◌, ◌∙◌, arith, map, slice_get, Some, refl, sym, ap}
use Rattle.std.specs.Option.{option_map}
use Rattle.std.proofs.lemmas.Option.{slice_get-map, slice_get_read}
use Rattle.std.proofs.lemmas.List.{length-map}
use Rattle.sia_events.proofs.LogRows.Finders.{below_more, below_all}
use Rattle.sia_events.proofs.finder.Finder.put_from.Goals as goal

here : (g : _) (c : goal.In_ok-put g) → slice_get (map g.R.Named.named c.args.rows.now) c.loop-number.number ≡ Some c.name.result
here g c = slice_get-map g.R.Named.named c.args.rows.now c.loop-number.number ∙ ap (option_map g.R.Named.named) (slice_get_read c.args.rows.now _ c.loop-number.number c.index-rows-number.result refl c.loop-number-test.true c.index-rows-number.is) ∙ ap Some (sym c.name.ensures)

pub loop-number-preserved : goal.loop-number-preserved
loop-number-preserved g c = λ before. below_more c.loop-number.self c.put.new.self (map g.R.Named.named c.args.rows.now) c.loop-number.number c.name.result (here g c) (λ y. c.in_ok-put.ensures.kept _ y (here g c)) (c.in_ok-put.ensures.taken _ (here g c)) (c.loop-number.invariant before)

pub returns : goal.returns
returns g c = λ before. below_all _ _ c.loop-number.number (let e = length-map c.args.rows.now g.R.Named.named in omega (arith, c.loop-number-test.false)) (c.loop-number.invariant before)
