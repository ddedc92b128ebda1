-- What the search doesn't find isn't listed.
use Rattle.std.proofs.Common.{◌≡◌, Some, subst}
use Rattle.sia_events.specs.Numbering.{event_of, names_of}
use Rattle.sia_events.specs.Places.{at_place}
use Rattle.sia_events.proofs.Writing.RangeLists.{left_out}
use Rattle.sia_events.proofs.log.Log.leaves_out.Goals as goal

pub returns-in-Some-Range : goal.returns-in-Some-Range
returns-in-Some-Range c = left_out c.args.self.now c.args.place _ _ c.in-Some-Range.field-0-2 (subst (λ row. Some (event_of (names_of c.args.self.now) row) ≡ at_place c.args.self.now c.args.place) c.in-Some-Range.field-0-is c.in-Some-Range.ensures.event) c.args.key c.listed_version.result c.is_none.result c.listed_version.ensures c.is_none.ensures
