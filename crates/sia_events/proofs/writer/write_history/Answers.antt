-- One more event, after a space but for the first.
use Rattle.std.proofs.Common.{◌≡◌, ◌+◌, ◌<◌, ◌++◌, ◌∷◌, [], length, take, sym, ap, ◌∙◌, arith}
use Rattle.std.proofs.lemmas.List.{take_more, length-take}
use Rattle.sia_events.specs.declared.event.Event.{Event}
use Rattle.sia_events.specs.Text.{spell, canonical}
use Rattle.sia_events.proofs.Writing.Writing.{canonical_first, canonical_later}
use Rattle.sia_events.proofs.writer.write_history.Goals as goal
use Rattle.sia_events.proofs.writer.write_history.Goals.{then-i-gt0+in_ok-push, else-i-gt0}

pub loop-i-preserved : goal.loop-i-preserved
loop-i-preserved c =
    let i = c.loop-i.i in
    let events = c.deref-event-items.result.now in
    let e = c.event-item.result in
    let below : i < length events = c.loop-i-test.true in
    let len : length (take i events) ≡ i = omega (arith, length-take i events) in
    let more : take (i + 1) events ≡ take i events ++ e ∷ [] = take_more events i e below ∙ ap (λ (f : Event). take i events ++ f ∷ []) (sym c.event-item.is) in
    let so_far : c.if-i-gt0.out.items ++ spell e ≡ canonical (take i events ++ e ∷ []) = grind (arith, then-i-gt0+in_ok-push, canonical_later, else-i-gt0, canonical_first) in
    rw c.in_ok-push_event.ensures (so_far ∙ ap canonical (sym more))
