-- A line feed ends the line, and any other byte takes one column.
use Rattle.sia_events.proofs.TokenPlaces.Locations.{place_feed, place_on}
use Rattle.sia_events.proofs.locating.Place.behind.Goals as goal

pub returns-then-byte-eq10 : goal.returns-then-byte-eq10
returns-then-byte-eq10 c = λ front few p. place_feed front c.args.self.line c.args.self.column c.args.byte c.saturating_add-line.result few c.if-byte-eq10.true c.saturating_add-line.ensures p

pub returns-else-byte-eq10 : goal.returns-else-byte-eq10
returns-else-byte-eq10 c = λ front few p. place_on front c.args.self.line c.args.self.column c.args.byte c.saturating_add-column.result few c.if-byte-eq10.false c.saturating_add-column.ensures p
