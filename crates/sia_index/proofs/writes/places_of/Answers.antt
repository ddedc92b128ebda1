-- The event at the next place, by its row.
use Rattle.std.proofs.Common.{◌≡◌, ◌+◌, ◌-◌, ◌<◌, None, Some, length, ap, arith, subst, sym, ◌∙◌}
use Rattle.std.specs.Prelude.{slice_index_or}
use Rattle.std.proofs.lemmas.List.{length-map}
use Rattle.sia_events.specs.Numbering.{IsWithin, event_of, names_of, key_at, txn_at}
use Rattle.sia_events.specs.declared.log.Row.{Row}
use Rattle.sia_events.specs.declared.log.Row.TheVariants.{Begin}
use Rattle.sia_index.specs.Tables.{AreWritePlaces}
use Rattle.sia_index.proofs.Shared.NumberedNames.{same_some}
use Rattle.sia_index.proofs.VersionRows.OwnWrites.{event_at, places_more, places_skip, write_row}
use Rattle.sia_index.proofs.writes.places_of.Goals as goal

pub loop-before-preserved-in-Write : goal.loop-before-preserved-in-Write
loop-before-preserved-in-Write c =
    let h = c.args.log.now in
    let rows = c.rows-rows.result.now in
    let m = c.loop-before.before - 1 in
    let back : c.loop-before.before ≡ m + 1 = let some = c.loop-before-test.true in omega arith in
    let long = length-map rows (event_of (names_of h)) in
    let all = ap length c.rows-rows.ensures.events in
    let below : m < length rows = omega (arith, c.loop-before-test.true, c.loop-before.auto.before, c.len-before.ensures.len) in
    let within = subst (IsWithin (names_of h)) c.in-Write.is (c.rows-rows.ensures.within m (Begin 0 None) below) in
    let event = event_at (names_of h) rows h c.rows-rows.ensures.events m (Begin 0 None) below ∙ ap (λ (r : Row). Some (event_of (names_of h) r)) c.in-Write.is in
    places_more h m c.loop-before.places.items (subst (λ n. AreWritePlaces h n c.loop-before.places.items) back c.loop-before.invariant) (c.in-Write.write - 1) (key_at (names_of h) c.in-Write.key) (txn_at (names_of h) c.in-Write.txn) within.2.1 event

pub loop-before-preserved : goal.loop-before-preserved
loop-before-preserved c =
    let h = c.args.log.now in
    let rows = c.rows-rows.result.now in
    let m = c.loop-before.before - 1 in
    let back : c.loop-before.before ≡ m + 1 = let some = c.loop-before-test.true in omega arith in
    let long = length-map rows (event_of (names_of h)) in
    let all = ap length c.rows-rows.ensures.events in
    let below : m < length rows = omega (arith, c.loop-before-test.true, c.loop-before.auto.before, c.len-before.ensures.len) in
    let event = event_at (names_of h) rows h c.rows-rows.ensures.events m (Begin 0 None) below in
    places_skip h m c.loop-before.places.items (subst (λ n. AreWritePlaces h n c.loop-before.places.items) back c.loop-before.invariant)
    (λ t k at. let row = write_row (names_of h) (slice_index_or rows m (Begin 0 None)) t k (same_some (event_of (names_of h) (slice_index_or rows m (Begin 0 None))) _ (sym event ∙ at)) in c.in_default.not-Write row.0 row.1 row.2 row.3)
