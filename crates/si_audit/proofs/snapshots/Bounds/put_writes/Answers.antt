-- Position by position, what the version there asks for is looked at.
use Rattle.std.proofs.Common.{◌≡◌, ◌<◌, ◌≤◌, ◌⊎◌, ◌+◌, ◌∙◌, inl, inr, ℕ, get_or, take, refl, subst, sym, arith}
use Rattle.std.proofs.lemmas.List.{take_all}
use Rattle.std.proofs.lemmas.List.Elements.{Contains-get_or}
use Rattle.sia_events.specs.Transactions.{IsCommitted, Wrote}
use Rattle.sia_index.specs.Info.{IsFirstWrite}
use Rattle.sia_index.specs.Numbers.{IsCommittedAt}
use Rattle.sia_index.proofs.Shared.KeyChains.{key_number}
use Rattle.sia_index.proofs.Shared.Ordered.{ascends}
use Rattle.sia_parts.proofs.Shared.BadWrites.{made_version}
use Rattle.si_audit.specs.declared.snapshots.Bound.{Bound}
use Rattle.si_audit.proofs.Shared.Marking.{unknown_or_none}
use Rattle.si_audit.proofs.Shared.WrittenLows.{IsMost, all_written, before_there, committed_there, first_there, found_at, low_of_reads, low_of_writes, most_left, most_none, most_taken, none_written}
use Rattle.si_audit.proofs.snapshots.Bounds.put_writes.Goals.{After-position_count-positions, then-low-commit, then-low-commit-via-then-low-commit, then-low-commit-via-else-low-commit+then-place-low, else-low-commit+else-place-low}
use Rattle.si_audit.proofs.snapshots.Bounds.put_writes.Goals as goal

abbrev no_bound : Bound
no_bound = record { commit = 0; place = 0; key = 0 }

pub returns-then-is_none-clause-low : goal.returns-then-is_none-clause-low
returns-then-is_none-clause-low c read =
    let h = c.args.ix.now in
    let t = c.args.txn in
    let none = (unknown_or_none h t c.lifetime_of.result c.is_none.result c.is_none.ensures c.lifetime_of.ensures).0 c.if-is_none.true in
    low_of_reads h c.law.ensures t c.args.self.now.low no_bound read (none_written h t no_bound (λ p at. none (p, at)) refl) (omega arith)

its_number : (c : After-position_count-positions) → IsCommittedAt c.args.ix.now c.place_from-number.result c.args.txn
its_number c =
    let h = c.args.ix.now in
    let ids = c.committed.result.now in
    let is = committed_there h c.args.txn c.lifetime_of.result c.is_none.result c.is_none.ensures c.if-is_none.false c.lifetime_of.ensures in
    let at = found_at ids (ascends (λ (x : ℕ). x) (IsCommitted h) ids c.committed.ensures) c.from.result c.args.txn c.place_from-number.result c.from.ensures c.place_from-number.ensures.point ((c.committed.ensures.each c.args.txn).1 is) in
    (ids, c.committed.ensures, at.0, at.1)

pub made_by-position-items-requires : goal.made_by-position-items-requires
made_by-position-items-requires c = (c.args.txn, its_number c)

pub loop-position-init : goal.loop-position-init
loop-position-init c = record { made = c.made_by-position-items.ensures c.args.txn (its_number (goal.at.loop-position-init c).After-position_count-positions); most = most_none c.args.ix.now c.args.txn no_bound refl }

pub key_at-requires : goal.key_at-requires
key_at-requires c = let w = (c.loop-position.invariant.made.each _).0 (Contains-get_or c.made_by-position-items.result.now c.loop-position.position-index 0 c.loop-position-test.true) in (w.0, w.1)

pub bounds-written_keys-key_at : goal.bounds-written_keys-key_at
bounds-written_keys-key_at c =
    let w = (c.loop-position.invariant.made.each _).0 (Contains-get_or c.made_by-position-items.result.now c.loop-position.position-index 0 c.loop-position-test.true) in
    (key_number c.args.ix.now c.written_keys.result.now c.written_keys.ensures c.key_at.result w.0.key (c.key_at.ensures w.0 w.1)).0

pub position_before-requires : goal.position_before-requires
position_before-requires c = let w = (c.loop-position.invariant.made.each _).0 (Contains-get_or c.made_by-position-items.result.now c.loop-position.position-index 0 c.loop-position-test.true) in (w.0, w.1)

pub commit_at-commit-requires : goal.commit_at-commit-requires
commit_at-commit-requires c =
    let n = get_or c.made_by-position-items.result.now c.loop-position.position-index 0 in
    let w = (c.loop-position.invariant.made.each n).0 (Contains-get_or c.made_by-position-items.result.now c.loop-position.position-index 0 c.loop-position-test.true) in
    let before = before_there c.args.ix.now w.0 n c.position_before.result c.unwrap_or.result c.unwrap_or.ensures w.2 (c.position_before.ensures w.0 w.1) in
    (before.0, before.1)

pub loop-position-preserved : goal.loop-position-preserved
loop-position-preserved c =
    let h = c.args.ix.now in
    let t = c.args.txn in
    let qs = c.made_by-position-items.result.now in
    let i = c.loop-position.position-index in
    let low = c.loop-position.low in
    let n = get_or qs i 0 in
    let w = (c.loop-position.invariant.made.each n).0 (Contains-get_or qs i 0 c.loop-position-test.true) in
    let v = w.0 in
    let at = w.1 in
    let before = before_there h v n c.position_before.result c.unwrap_or.result c.unwrap_or.ensures w.2 (c.position_before.ensures v at) in
    let x = before.0 in
    let key = (key_number h c.written_keys.result.now c.written_keys.ensures c.key_at.result v.key (c.key_at.ensures v at)).1 in
    let wrote : Wrote h t v.key = subst (λ u. Wrote h u v.key) w.3 (made_version h n v at w.2).0 in
    let place = c.unwrap_or-place.result in
    let first : IsFirstWrite h t v.key place = subst (λ k. IsFirstWrite h t k place) key (first_there h t (get_or c.written_keys.result.now c.key_at.result 0) c.first_write.result place c.unwrap_or-place.ensures (subst (Wrote h t) (sym key) wrote) c.first_write.ensures) in
    let commit : c.commit_at-commit.result ≡ x.commit = c.commit_at-commit.ensures x before.1 in
    record {
      made = c.loop-position.invariant.made;
      most = elim c.if-low-commit.branch [
        | then-low-commit y ↦
            let more : (low.commit < x.commit) ⊎ ((low.commit ≡ x.commit) × (place < low.place)) = elim y.then-low-commit.branch [
              | then-low-commit-via-then-low-commit z ↦ inl (let less = z.if-low-commit.true in omega arith)
              | then-low-commit-via-else-low-commit+then-place-low z ↦ inr (z.if-place-low.true.0 ∙ commit, z.if-place-low.true.1)
            ] in
            subst (IsMost h t (take (i + 1) qs)) (sym (y.low-is ∙ (λ j. record { commit = commit j; place = place; key = key j })))
            (most_taken h t qs i c.loop-position-test.true low c.loop-position.invariant.most v x c.unwrap_or.result place at w.3 before.1 before.2 before.3 before.4 first more)
        | else-low-commit+else-place-low y ↦
            let no_more : (x.commit < low.commit) ⊎ ((x.commit ≡ low.commit) × (low.place ≤ place)) = elim y.if-place-low.either [
              | inl same ↦ inr (sym commit ∙ sym same.0, same.1)
              | inr other ↦ inl (let most = y.if-low-commit.false in omega arith)
            ] in
            subst (IsMost h t (take (i + 1) qs)) (sym y.low-is)
            (most_left h t qs i c.loop-position-test.true low c.loop-position.invariant.most v x c.unwrap_or.result place at w.3 before.1 before.2 before.3 before.4 first no_more)
      ];
    }

pub returns-then-self-low-clause-low : goal.returns-then-self-low-clause-low
returns-then-self-low-clause-low c read =
    let h = c.args.ix.now in
    let qs = c.made_by-position-items.result.now in
    let most = subst (λ l. IsMost h c.args.txn l c.loop-position.low) (take_all c.loop-position.position-index qs c.loop-position-test.false) c.loop-position.invariant.most in
    let positions = c.position_count-positions.ensures in
    low_of_writes h c.law.ensures c.args.txn c.args.self.now.low c.loop-position.low read (all_written h c.law.ensures c.args.txn qs c.loop-position.invariant.made positions.0 positions.1 c.loop-position.low most) c.if-self-low.true

pub returns-else-self-low-clause-low : goal.returns-else-self-low-clause-low
returns-else-self-low-clause-low c read =
    let h = c.args.ix.now in
    let qs = c.made_by-position-items.result.now in
    let most = subst (λ l. IsMost h c.args.txn l c.loop-position.low) (take_all c.loop-position.position-index qs c.loop-position-test.false) c.loop-position.invariant.most in
    let positions = c.position_count-positions.ensures in
    low_of_reads h c.law.ensures c.args.txn c.args.self.now.low c.loop-position.low read (all_written h c.law.ensures c.args.txn qs c.loop-position.invariant.made positions.0 positions.1 c.loop-position.low most) c.if-self-low.false
