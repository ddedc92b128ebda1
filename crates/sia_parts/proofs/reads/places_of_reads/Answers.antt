-- Each place is dealt, and then counted from 1.
use Rattle.std.proofs.Common.{◌≡◌, ℕ, ◌-◌, ◌<◌, length, ap, subst, sym, ◌∙◌, arith, le_refl}
use Rattle.std.specs.Prelude.{All, Contains}
use Rattle.std.proofs.lemmas.List.{length-map}
use Rattle.sia_events.specs.declared.log.Row.TheVariants.{Commit}
use Rattle.sia_events.specs.Numbering.{names_of, event_of}
use Rattle.sia_events.proofs.Shared.TransactionDecisions.{place_within}
use Rattle.sia_events.proofs.Writing.WellFormed.{few_events}
use Rattle.sia_index.specs.Lists.{joined, places_by}
use Rattle.sia_parts.specs.Seeing.{reader_in}
use Rattle.sia_parts.proofs.ReadLists.AllPlaces.{count_all, count_more, places_have, places_within}
use Rattle.sia_parts.proofs.Shared.RowTxns.{reads_within}
use Rattle.sia_parts.proofs.reads.places_of_reads.Goals as goal

pub overflow_add-place : goal.overflow_add-place
overflow_add-place c =
    let h = c.args.log.now in
    let rows = c.rows.result.now in
    let old = c.deref_mut-place-items.result.now in
    let n = c.loop-place.place-index in
    let below : n < length old = c.loop-place-test.true in
    let all = places_within reader_in c.txn_count-count.result rows in
    let dealt : old ≡ joined (places_by reader_in c.txn_count-count.result rows) = c.deref_mut-place-items.ensures.value ∙ c.into_rows-places.ensures ∙ ap joined c.in_ok-lists.ensures in
    let here = subst (λ l. All (λ i. i < length rows) l) (sym dealt) all n 0 below in
    let same = c.loop-place.invariant.behind n (le_refl n) in
    let long = sym (length-map rows (event_of (names_of h))) ∙ ap length c.rows.ensures.events in
    let few = few_events h c.law.ensures in
    omega arith

pub loop-place-preserved : goal.loop-place-preserved
loop-place-preserved c = count_more c.loop-place.place-index c.deref_mut-place-items.result.now c.loop-place.place-items c.loop-place-test.true c.loop-place.invariant

pub returns : goal.returns
returns c p t k v saw =
    let h = c.args.log.now in
    let rows = c.rows.result.now in
    let old = c.deref_mut-place-items.result.now in
    let count = c.txn_count-count.result in
    let within = place_within h p saw.0 saw.1 in
    let dealt : old ≡ joined (places_by reader_in count rows) = c.deref_mut-place-items.ensures.value ∙ c.into_rows-places.ensures ∙ ap joined c.in_ok-lists.ensures in
    let (inside, reads) = reads_within (names_of h) rows h c.rows.ensures.events c.rows.ensures.within p t k v saw (Commit 0) in
    let there = places_have reader_in count rows (p - 1) (Commit 0) inside (omega (arith, reads, c.txn_count-count.ensures)) in
    count_all c.loop-place.place-index c.into_rows-places.result.len old c.loop-place.place-items c.into_rows-places.result.items c.loop-place-test.false c.loop-place.invariant
    (let ok = c.into_rows-places.result.ok in let same = ap (length {A = ℕ}) c.deref_mut-place-items.ensures.value in omega arith) (ap (length {A = ℕ}) (sym c.deref_mut-place-items.ensures.value)) p within.0 (subst (λ l. Contains l (p - 1)) (sym dealt) there)
