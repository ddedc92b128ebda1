-- The pairs of the range's row.
use Rattle.std.proofs.Common.{◌≡◌, ℕ, ◌<◌, ◌-◌, List, length, map, take, drop, subst, sym}
use Rattle.sia_events.specs.declared.event.Event.{Event}
use Rattle.sia_events.specs.Numbering.{names_of, ranges_of, range_at, pair_at}
use Rattle.sia_events.specs.Refusals.{IsWellFormed}
use Rattle.sia_events.proofs.Shared.LogReads.{pairs_ascend, range_listed, range_room}
use Rattle.sia_events.proofs.log.Log.listed.Goals as goal

pub returns-clause-pairs : goal.returns-clause-pairs
returns-clause-pairs c =
    let r = c.index-range.result.now in
    let room = range_room c.self.inside.tables c.args.number c.self.invariant.0 (subst (λ (h : List Event). c.args.number < length (ranges_of h)) (sym c.self.view_is) c.requires) in
    let stored = subst (λ (h : List Event). map (pair_at (names_of h)) (take (r.to - r.from) (drop r.from c.self.inside.tables.pairs.items)) ≡ (range_at (names_of h) c.args.number).2) c.self.view_is (range_listed c.self.inside.tables c.args.number r c.self.invariant.0 room c.index-range.ensures) in
    subst (λ (ps : List ℕ). map (pair_at (names_of c.args.self.now)) (take (r.to - r.from) (drop r.from ps)) ≡ (range_at (names_of c.args.self.now) c.args.number).2) (sym c.deref.ensures.value) stored

pub returns-clause-ascend : goal.returns-clause-ascend
returns-clause-ascend c = pairs_ascend c.args.self.now (subst IsWellFormed c.self.view_is c.self.invariant.1) c.args.number c.requires _ (returns-clause-pairs c)
