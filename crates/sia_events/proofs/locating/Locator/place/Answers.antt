-- The token that the locator keeps is the refused one.
use Rattle.std.proofs.Common.{ap, sym, subst}
use Rattle.sia_events.specs.declared.locating.Place.{Place}
use Rattle.sia_events.specs.Locations.{IsLocated}
use Rattle.sia_events.specs.Locating.{Located}
use Rattle.sia_events.proofs.TokenPlaces.BesideReader.{refused_located}
use Rattle.sia_events.proofs.locating.Locator.place.Goals as goal

pub returns-clause-refused : goal.returns-clause-refused
returns-clause-refused c = λ limits reader text number reason a b refusal.
    subst (λ (p : Place). IsLocated text number p.line p.column c.args.self.now.token) (ap (λ (l : Located). l.place) (sym c.self.view_is))
    (refused_located limits c.args.self.now reader text number reason a b refusal)
