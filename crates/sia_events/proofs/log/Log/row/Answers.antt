-- The row that is stored there.
use Rattle.std.proofs.Common.{◌≡◌, ◌-◌, List, slice_get, subst, take, ◌∙◌, ap}
use Rattle.std.specs.Prelude.{IfSome}
use Rattle.std.specs.Option.{option_map}
use Rattle.sia_events.specs.declared.event.Event.{Event}
use Rattle.sia_events.specs.declared.log.Row.{Row}
use Rattle.sia_events.specs.Places.{at_place}
use Rattle.sia_events.specs.Numbering.{names_of, event_of, IsMarked}
use Rattle.sia_events.proofs.LogRows.Finders.{copied_is}
use Rattle.sia_events.proofs.Shared.LogReads.{row_event, row_marked}
use Rattle.sia_events.proofs.log.Log.row.Goals as goal

stored : (c : goal.After-copied) → c.copied.result ≡ slice_get c.self.inside.tables.events.items (c.args.place - 1)
stored c = c.copied.ensures ∙ copied_is c.deref.result.now _ c.get.result c.get.ensures.lookup.0 c.get.ensures.lookup.1 ∙ ap (λ (rows : List Row). slice_get rows (c.args.place - 1)) c.deref.ensures.value

pub returns-clause-event : goal.returns-clause-event
returns-clause-event c = subst (λ (h : List Event). option_map (event_of (names_of h)) c.copied.result ≡ at_place h c.args.place) c.self.view_is (row_event c.self.inside.tables c.args.place c.copied.result c.self.invariant.0 c.if-place-eq0.false (stored c))

pub returns-clause-marked : goal.returns-clause-marked
returns-clause-marked c = subst (λ (h : List Event). IfSome c.copied.result (IsMarked (names_of h) (take (c.args.place - 1) h))) c.self.view_is (row_marked c.self.inside.tables c.args.place c.copied.result c.self.invariant.0 (stored c))
