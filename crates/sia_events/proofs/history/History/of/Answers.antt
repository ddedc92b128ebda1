-- One event more, which there is.
use Rattle.std.proofs.Common.{◌≡◌, ◌≢◌, ◌<◌, ℕ, List, length, ap, ◌∙◌, arith}
use Rattle.std.proofs.lemmas.List.{take_all}
use Rattle.sia_events.specs.Numbering.{Names, event_of, names_of}
use Rattle.sia_events.specs.declared.event.Event.TheVariants.{Range}
use Rattle.sia_events.specs.declared.log.Row.{Row}
use Rattle.sia_events.specs.declared.log.Row.TheVariants as rows
use Rattle.sia_events.specs.Telling.{listing}
use Rattle.sia_events.proofs.Shared.LogReads.{next_event, no_event}
use Rattle.sia_events.proofs.history.History.of.Goals.{in-Some+in_ok-push-2, in_default, in-Range+else-loop-pair-test, in_default-row}
use Rattle.sia_events.proofs.history.History.of.Goals as goal

-- no other event lists pairs
not_listing : (names : Names) (row : Row) (pairs : List (ℕ × ℕ)) → ((t r w : ℕ) → row ≢ rows.Range t r w) → listing pairs (event_of names row) ≡ event_of names row
not_listing names row pairs not = grind (arith)

pub loop-before-preserved : goal.loop-before-preserved
loop-before-preserved c =
    let names = names_of c.args.log in
    let less : c.loop-before.before < length c.args.log = omega (arith, c.loop-before-test.true, c.len-before-end.ensures.len) in
    elim c.match-row.branch [
      | in-Some+in_ok-push-2 w ↦
          let row = w.in-Some.row in
          let pairs = w.match-row-2.pairs.items in
          let told : listing pairs (event_of names w.match-row-2.row) ≡ event_of names row = grind (arith, in-Range+else-loop-pair-test, take_all, in_default-row, not_listing) in
          rw (w.events-is) (next_event c.args.log c.loop-before.before names row _ _ _ less w.in-Some.ensures.event (w.event_from.ensures ∙ ap (λ l. listing l (event_of names w.match-row-2.row)) w.new.ensures ∙ told) c.loop-before.invariant w.in_ok-push-2.ensures.items)
      | in_default w ↦ absurd (no_event c.args.log c.loop-before.before less w.in_default.ensures.event)
    ]
