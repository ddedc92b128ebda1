-- The version that was seen tells by where it stands, unless it is the reader's own or wasn't committed.
use Rattle.std.proofs.Common.{◌≡◌, inl, inr, ℕ, ◌≤◌, length, Some, refl, sym, subst, ◌∙◌}
use Rattle.std.specs.Prelude.{slice_index}
use Rattle.sia_events.specs.Numbering.{names_of, version_at, writes_of}
use Rattle.sia_events.specs.Reads.{SawAt}
use Rattle.sia_index.specs.Info.{IsKeyAt}
use Rattle.sia_index.proofs.Shared.KeyChains.{key_number}
use Rattle.si_audit.proofs.Shared.SoFar.{IsStanding, Puts, sees_nothing, stands_at}
use Rattle.si_audit.proofs.snapshots.Bounds.put.Goals as goal
use Rattle.si_audit.proofs.snapshots.Bounds.put.Goals.{then-write-eq0, else-write-eq0+then-version-txn, else-write-eq0+else-version-txn}

pub bounds-written_keys-number : goal.bounds-written_keys-number
bounds-written_keys-number c =
    let at = subst (λ l. IsKeyAt l c.args.number (slice_index c.requires.key.0 c.args.number)) (sym c.requires.index) (c.requires.key.0, c.requires.key.1, c.requires.key.2, refl) in
    (key_number c.args.ix.now c.written_keys.result.now c.written_keys.ensures c.args.number (slice_index c.requires.key.0 c.args.number) at).0

pub returns-in-Some : goal.returns-in-Some
returns-in-Some c = subst (Puts c.args.txn c.args.place c.args.number c.args.write c.args.self.now c.see.new.self) c.requires.index (λ k at key saw.
    let h = c.args.ix.now in
    let v = version_at (names_of h) c.args.write in
    let bound = subst (λ l. c.args.write ≤ length (writes_of l)) (sym c.requires.index) c.requires.write in
    let told = λ (r : ℕ). subst (λ l. r ≡ version_at (names_of l) c.args.write) (sym c.requires.index) in
    let stands = stands_at h c.law.ensures c.args.txn k c.args.write c.args.place c.args.number bound at key saw c.if-write-eq0.position (elim c.if-write-eq0.branch [
      | then-write-eq0 w ↦ inl (w.if-write-eq0.true, w.first_position.result, w.first_position.ensures, w.position-is)
      | else-write-eq0+then-version-txn w ↦ inr (inl (w.position-is, w.version.result, told w.version.result w.version.ensures, w.if-version-txn.true))
      | else-write-eq0+else-version-txn w ↦ inr (inr (w.if-write-eq0.false, w.version.result, told w.version.result w.version.ensures, w.if-version-txn.false, w.write_at.result.position, w.position-is, w.write_at.ensures.position))
    ]) in
    let there : IsStanding h c.args.txn k v (Some c.in-Some.position) = subst (IsStanding h c.args.txn k v) c.in-Some.is stands in
    let same = (key_number h c.written_keys.result.now c.written_keys.ensures c.args.number k at).1 in
    c.see.ensures c.args.txn c.args.number v there.0 there.1 (there.2 ∙ sym same) (subst (IsKeyAt h c.args.number) (sym same) at) there.3 there.4 (subst (λ j. SawAt h c.args.place c.args.txn j v) (sym same) saw))

pub returns-in_default : goal.returns-in_default
returns-in_default c = subst (Puts c.args.txn c.args.place c.args.number c.args.write c.args.self.now c.args.self.now) c.requires.index (λ k at key saw.
    let h = c.args.ix.now in
    let v = version_at (names_of h) c.args.write in
    let bound = subst (λ l. c.args.write ≤ length (writes_of l)) (sym c.requires.index) c.requires.write in
    let told = λ (r : ℕ). subst (λ l. r ≡ version_at (names_of l) c.args.write) (sym c.requires.index) in
    let stands = stands_at h c.law.ensures c.args.txn k c.args.write c.args.place c.args.number bound at key saw c.if-write-eq0.position (elim c.if-write-eq0.branch [
      | then-write-eq0 w ↦ inl (w.if-write-eq0.true, w.first_position.result, w.first_position.ensures, w.position-is)
      | else-write-eq0+then-version-txn w ↦ inr (inl (w.position-is, w.version.result, told w.version.result w.version.ensures, w.if-version-txn.true))
      | else-write-eq0+else-version-txn w ↦ inr (inr (w.if-write-eq0.false, w.version.result, told w.version.result w.version.ensures, w.if-version-txn.false, w.write_at.result.position, w.position-is, w.write_at.ensures.position))
    ]) in
    sees_nothing h c.law.ensures c.args.txn k c.args.write c.args.place c.args.number at saw (subst (IsStanding h c.args.txn k v) c.in_default.is stands) c.args.self.now)
