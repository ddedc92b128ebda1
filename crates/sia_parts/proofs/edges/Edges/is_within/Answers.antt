-- The position has one key.
use Rattle.std.proofs.Common.{◌≡◌, ℕ, List, subst}
use Rattle.std.specs.Prelude.{slice_index}
use Rattle.sia_events.specs.declared.event.Event.{Event}
use Rattle.sia_index.specs.Info.{AreWrittenKeys, IsKeyAt}
use Rattle.sia_index.proofs.Shared.KeyChains.{key_number}
use Rattle.sia_parts.specs.EdgeRows.{IsOfKey}
use Rattle.sia_parts.proofs.EdgeRows.KeyEnds.{outside_part, within_part}
use Rattle.sia_parts.proofs.EdgeRows.PositionOrder.{same_number}
use Rattle.sia_parts.proofs.edges.Edges.is_within.Goals as goal

key_is : (h : List Event) (keys : List ℕ) → AreWrittenKeys h keys → (q n j k : ℕ) → IsOfKey h n q → IsOfKey h j q → IsKeyAt h j k → slice_index keys n ≡ k
key_is h keys are q n j k own of at = (key_number h keys are n k (subst (λ m. IsKeyAt h m k) (same_number h j n q of own) at)).1

pub bounds-written_keys-key_at : goal.bounds-written_keys-key_at
bounds-written_keys-key_at c = (key_number c.args.self.now.index.now c.written_keys.result.now c.written_keys.ensures c.key_at.result c.requires.0.key (c.key_at.ensures c.requires.0 c.requires.1)).0

pub returns-then-part-key : goal.returns-then-part-key
returns-then-part-key c j k of at =
    let own : IsOfKey c.args.self.now.index.now c.key_at.result c.args.position = record { version = c.requires.0; at = c.requires.1; key = c.key_at.ensures c.requires.0 c.requires.1 } in
    within_part c.args.self.now.within c.in-Some.part c.in-Some.is _ k (key_is c.args.self.now.index.now c.written_keys.result.now c.written_keys.ensures c.args.position c.key_at.result j k own of at) c.if-part-key.true

pub returns-else-part-key : goal.returns-else-part-key
returns-else-part-key c j k of at =
    let own : IsOfKey c.args.self.now.index.now c.key_at.result c.args.position = record { version = c.requires.0; at = c.requires.1; key = c.key_at.ensures c.requires.0 c.requires.1 } in
    outside_part c.args.self.now.within c.in-Some.part c.in-Some.is _ k (key_is c.args.self.now.index.now c.written_keys.result.now c.written_keys.ensures c.args.position c.key_at.result j k own of at) c.if-part-key.false
