-- Each turn enters the place of one row.
use Rattle.std.proofs.Common.{ap, arith, rules}
use Rattle.sia_index.specs.declared.names.Numbered.{Numbered}
use Rattle.sia_index.proofs.TxnTables.PlacesOf.{places_none, places_more, places_all, few_rows}
use Rattle.sia_index.proofs.names.places_of.Goals as goal

pub overflow_cast-i : goal.overflow_cast-i
overflow_cast-i g c =
    let few = few_rows (λ (row : Numbered g.row.N.Denot). row.number) c.args.rows.now c.args.count c.requires.apart c.requires.within in
    let fits = c.ranges.count.fits in
    let below = c.loop-i-test.true in
    omega arith

pub loop-i-init : goal.loop-i-init
loop-i-init g c =
    let few = few_rows (λ (row : Numbered g.row.N.Denot). row.number) c.args.rows.now c.args.count c.requires.apart c.requires.within in
    let fits = c.ranges.count.fits in
    places_none (λ (row : Numbered g.row.N.Denot). row.number) c.args.rows.now c.args.count 4294967295 (omega arith) c.in_ok-places.places.items (c.in_ok-places.ensures.items_if_clones_equal (λ y k. search rules))

pub loop-i-preserved : goal.loop-i-preserved
loop-i-preserved g c = places_more (λ (row : Numbered g.row.N.Denot). row.number) c.args.rows.now c.args.count c.requires.apart c.requires.within c.loop-i.i c.loop-i.places.items c.loop-i.invariant _ c.index-rows-i.result c.loop-i-test.true (ap (λ (row : Numbered g.row.N.Denot). row.number) c.index-rows-i.is)

pub returns : goal.returns
returns g c = places_all (λ (row : Numbered g.row.N.Denot). row.number) c.args.rows.now c.args.count c.requires.apart c.requires.within c.loop-i.i c.loop-i.places.items c.loop-i.invariant (let end = c.loop-i-test.false in let most = c.loop-i.auto.i-end in omega arith)
