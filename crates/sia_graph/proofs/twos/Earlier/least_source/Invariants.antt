use Rattle.std.proofs.Common.{◌≡◌, ◌≤◌, ℕ, Bool, List, min, take}
use Rattle.sia_parts.specs.Sights.{FromSome}
use Rattle.sia_graph.specs.Twos.{AreEarlier, IsLeastNumber}
use Rattle.sia_graph.proofs.Shared.EarlierSources.{OfMade, OfSeen}
use Rattle.sia_graph.proofs.twos.Earlier.least_source.Given as goal

abbrev pub invariant-loop-position : goal.invariant-loop-position
invariant-loop-position l = (l.least ≤ 4294967295) × ((left : List Bool) → AreEarlier l.evidence.index.now l.evidence.accesses.now left l.self
    → IsLeastNumber (FromSome (OfMade l.evidence.index.now l.evidence.accesses.now left l.me) (take l.position-index l.position-items)) l.least)

abbrev pub invariant-loop-position-2 : goal.invariant-loop-position-2
invariant-loop-position-2 l = (left : List Bool) → AreEarlier l.evidence.index.now l.evidence.accesses.now left l.self
    → (r : ℕ) × (r ≤ 4294967295) × IsLeastNumber (FromSome (OfSeen l.evidence.index.now left l.me) (take l.position-index l.position-items)) r × (l.least ≡ min l.initial.least r)
