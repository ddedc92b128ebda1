use Rattle.std.proofs.Common.{◌≡◌, refl, ap, subst, sym, ◌∙◌, List, ℕ, ◌++◌}
use Rattle.sia_events.specs.declared.fault.TextFault.{TextFault}
use Rattle.sia_events.specs.Locations.{shown}
use Rattle.sia_events.specs.Refusals.{IsRefusal}
use Rattle.sia_events.proofs.TokenPlaces.BesideReader.{shown_kept}
use Rattle.si_audit.specs.RefusedPlaces.{TellsToken, place_line}
use Rattle.si_audit.proofs.Shared.Pushed.{place_pushed}
use Rattle.si_audit.proofs.explain.push_place.Goals as goal

pub returns : goal.returns
returns c limits text reader stands located refusal =
    let at = c.place-place.ensures.refused limits reader text c.in-Refused.token c.in-Refused.reason stands located (subst (IsRefusal limits text) c.in-Refused.is refusal) in
    subst (λ (fault : TextFault). (bytes : List ℕ) × TellsToken text fault bytes × (c.extend_from_slice.new.self.items ≡ c.args.out.now.items ++ bytes)) (sym c.in-Refused.is) (
      place_line c.place-place.result.line c.place-place.result.column at.0,
      (c.place-place.result.line, c.place-place.result.column, at.0, at.1, refl),
      place_pushed c.args.out.now.items _ _ _ _ _ _ _ _ _ _ _ _ _ _ refl refl (ap shown c.token.ensures ∙ shown_kept at.0 _ at.2)
          c.in_ok-push_number.ensures c.in_ok-push_number-2.ensures c.in_ok-push_shown.ensures c.in_ok-extend_from_slice.ensures.items,
    )
