-- What is told of a range read about one key.
use Rattle.std.proofs.Common.{◌≡◌, ℕ, List, Bool, true, false, not, Option, Some, None, refl, ap, sym, subst}
use Rattle.std.specs.Prelude.{◌↔◌, IsTrue, Contains, MatchOption, filter, ◌==◌}
use Rattle.std.specs.Option.{is_some}
use Rattle.sia_events.specs.declared.event.Event.{Event}
use Rattle.sia_events.specs.declared.log.Row.{Row}
use Rattle.sia_events.specs.declared.log.Row.TheVariants as rows
use Rattle.sia_events.specs.Numbering.{Names, names_of, event_of, range_at}
use Rattle.sia_events.specs.Places.{at_place}
use Rattle.sia_events.specs.Anomalies.{LeavesOut}
use Rattle.sia_events.specs.Telling.{about, listing}
use Rattle.sia_events.proofs.Shared.Starts.{one_event}

-- it leaves out a key of which no version was found
pub left_out : (h : List Event) (p d r w : ℕ) → Some (event_of (names_of h) (rows.Range d r w)) ≡ at_place h p → (k : ℕ) (found : Option ℕ) (none : Bool) → MatchOption found ((v : ℕ) → ¬ Contains (range_at (names_of h) r).2 (k, v)) (λ v. Contains (range_at (names_of h) r).2 (k, v)) → is_some found ≡ not none → IsTrue none ↔ ((e : Event) × (at_place h p ≡ Some e) × LeavesOut e k)
left_out h p d r w at k None true lacks tells = (λ is. (event_of (names_of h) (rows.Range d r w), sym at, lacks), λ out. refl)
left_out h p d r w at k None false lacks tells = cc
left_out h p d r w at k (Some v) true has tells = cc
left_out h p d r w at k (Some v) false has tells = (
  λ is. cc,
  λ out. absurd (subst (λ e. LeavesOut e k) (one_event h p p out.0 (event_of (names_of h) (rows.Range d r w)) refl out.1 (sym at)) out.2 v has),
)

-- the event of a row with what is left of its listed pairs, if it is a range read
pub told_of_row : (names : Names) (k : ℕ) (pairs : List (ℕ × ℕ)) (row : Row) → ((d r w : ℕ) → row ≡ rows.Range d r w → filter (λ pair. pair.0 == k) (range_at names r).2 ≡ pairs) → listing pairs (event_of names row) ≡ about k (event_of names row)
told_of_row names k pairs (rows.Range d r w) left = ap (λ l. listing l (event_of names (rows.Range d r w))) (sym (left d r w refl))
told_of_row names k pairs _ left = refl
