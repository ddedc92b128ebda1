-- The keys between the listed ones were seen at version 0, and those at their versions.
use Rattle.std.proofs.Common.{◌≡◌, inl, inr, ℕ, ◌+◌, ◌-◌, ◌<◌, ◌≤◌, List, get_or, refl, ap, sym, subst, arith}
use Rattle.sia_events.specs.declared.event.Event.{Event}
use Rattle.sia_events.specs.Numbering.{names_of, key_at, pair_at, range_at, version_at, write_at}
use Rattle.sia_events.proofs.Shared.LogReads.{seen_write}
use Rattle.sia_events.specs.Reads.{SawAt}
use Rattle.sia_events.specs.Refusals.{IsWellFormed}
use Rattle.sia_events.specs.Transactions.{HasEvent, Wrote}
use Rattle.sia_index.specs.Info.{AreWrittenKeys, IsKeyAt}
use Rattle.sia_index.proofs.Shared.Ordered.{ascends, rises}
use Rattle.sia_parts.proofs.Auditing.Covered.{covered_more, covered_none, covered_unwritten, not_behind, not_between, next_number}
use Rattle.sia_parts.proofs.Auditing.Passing.{there_before}
use Rattle.sia_parts.proofs.Shared.FewNumbers.{few_keys, few_written}
use Rattle.sia_parts.proofs.Shared.OneNumber.{one_key}
use Rattle.si_audit.specs.Bounds.{Sees}
use Rattle.si_audit.specs.declared.snapshots.Bounds.{Bounds}
use Rattle.si_audit.proofs.Shared.RowTells.{range_seen}
use Rattle.si_audit.proofs.Shared.SoFar.{sees_place, sees_then}
use Rattle.si_audit.proofs.snapshots.Bounds.put_range.Goals as goal
use Rattle.si_audit.proofs.snapshots.Bounds.put_range.Goals.{in-Some, in_default}

-- what a listed pair's key and write are, by the log's numbers
at_pair : (g h : List Event) → g ≡ h → (number key p w : ℕ) → IsKeyAt g number (key_at (names_of g) key) → pair_at (names_of h) p ≡ (key_at (names_of h) key, version_at (names_of h) w) → IsKeyAt h number (pair_at (names_of h) p).0
at_pair g h same number key p w at pair = subst (IsKeyAt h number) (sym (ap (λ (q : ℕ × ℕ). q.0) pair)) (subst (λ g. IsKeyAt g number (key_at (names_of g) key)) same at)

passed : (g h : List Event) → g ≡ h → (t p from to : ℕ) (old new : Bounds) → HasEvent h t → ((i : ℕ) → from ≤ i → i < to → (k : ℕ) × IsKeyAt h i k × SawAt h p t k 0)
    → ((t : ℕ) → HasEvent g t → ((i k : ℕ) → from ≤ i → i < to → IsKeyAt g i k → SawAt g p t k 0) → Sees g t p from p to old new) → Sees h t p from p to old new
passed g h same t p from to old new has none pass =
    (subst (λ g. (t : ℕ) → HasEvent g t → ((i k : ℕ) → from ≤ i → i < to → IsKeyAt g i k → SawAt g p t k 0) → Sees g t p from p to old new) same pass) t has
    (λ i k low less at. let saw = none i low less in subst (λ k. SawAt h p t k 0) (one_key h i saw.0 k saw.1 at) saw.2)

pub place_above-end-requires : goal.place_above-end-requires
place_above-end-requires c = rises (λ (k : ℕ). k) _ (ascends (λ (k : ℕ). k) _ _ c.written_keys-keys.ensures)

pub place_from-next-requires : goal.place_from-next-requires
place_from-next-requires c = rises (λ (k : ℕ). k) _ (ascends (λ (k : ℕ). k) _ _ c.written_keys-keys.ensures)

pub loop-pair-init : goal.loop-pair-init
loop-pair-init c =
    let h = c.args.log.now in
    let keys = c.written_keys-keys.result.now in
    let wf : IsWellFormed h = subst IsWellFormed c.requires.index c.law.ensures in
    let are : AreWrittenKeys h keys = subst (λ g. AreWrittenKeys g keys) c.requires.index c.written_keys-keys.ensures in
    let range = range_seen h wf keys are c.args.place c.args.txn c.range-lo.result.0 c.range-lo.result.1 c.listed-listed.result.now (range_at (names_of h) c.args.range) c.range-lo.ensures.lo c.range-lo.ensures.hi c.listed-listed.ensures.pairs c.requires.event
    c.place_from-next.result c.place_above-end.result c.place_from-next.ensures.bound c.place_from-next.ensures.point c.place_above-end.ensures.bound c.place_above-end.ensures.point c.listed-listed.ensures.within c.listed-listed.ensures.ascend in
    record { range = range; covered = covered_none h _ _ range.covers; sees = record { misfit = refl; never = refl; first = refl; bounds = λ are. are } }

pub pass-requires-clause-keys : goal.pass-requires-clause-keys
pass-requires-clause-keys c = λ i below. there_before c.args.ix.now c.written_keys-keys.result.now c.written_keys-keys.ensures i c.in-Some.number _ c.in-Some.ensures (omega arith)

pub pass-requires-clause-forward : goal.pass-requires-clause-forward
pass-requires-clause-forward c =
    let h = c.args.log.now in
    let n = c.loop-pair.pair-index in
    let so = c.loop-pair.invariant in
    let at = at_pair c.args.ix.now h c.requires.index c.in-Some.number _ _ _ c.in-Some.ensures c.pair_numbers-key.ensures.pair in
    next_number h _ _ so.range.covers n c.loop-pair.next so.covered 0 c.loop-pair-test.true c.in-Some.number at

pub loop-pair-preserved : goal.loop-pair-preserved
loop-pair-preserved c =
    let h = c.args.log.now in
    let names = names_of h in
    let wf : IsWellFormed h = subst IsWellFormed c.requires.index c.law.ensures in
    let n = c.loop-pair.pair-index in
    let t = c.args.txn in
    let p = c.args.place in
    let q = get_or c.listed-listed.result.now n 0 in
    let so = c.loop-pair.invariant in
    let is = so.range.covers in
    let next = c.loop-pair.next in
    let below = c.loop-pair-test.true in
    let key = c.pair_numbers-key.result.0 in
    let pair = c.pair_numbers-key.ensures.pair in
    let write = c.pair_numbers-key.result.1 in
    let named : (pair_at names q).0 ≡ key_at names key = ap (λ (x : ℕ × ℕ). x.0) pair in
    elim c.match-written_number.branch [
      | in-Some w ↦
          let i = w.in-Some.number in
          let at : IsKeyAt h i (pair_at names q).0 = at_pair c.args.ix.now h c.requires.index i key q _ w.in-Some.ensures pair in
          let made : 0 < write → (write_at names (write - 1)).0 ≡ key_at names key = λ some. ap (λ (x : ℕ × ℕ). x.0) (seen_write names _ _ write some c.pair_numbers-key.ensures.seen) in
          let saw : SawAt h p t (key_at names key) (version_at names write) = subst (λ (x : ℕ × ℕ). SawAt h p t x.0 x.1) pair (is.listed n 0 below) in
          let over = passed c.args.ix.now h c.requires.index t p next i c.loop-pair.self w.pass.new.self (p, (_, c.requires.event, refl)) (not_between h _ _ is n next so.covered 0 below i at) w.pass.ensures in
          let all = sees_then h wf t p next p i p (i + 1) c.loop-pair.self w.pass.new.self w.put.new.self over (w.put.ensures (key_at names key) (subst (IsKeyAt h i) named at) made saw) in
          rw (w.next-is, w.self-is) (record { range = so.range; covered = covered_more h _ _ is n next so.covered 0 below i at; sees = sees_then h wf t p _ p next p (i + 1) c.args.self.now c.loop-pair.self w.put.new.self so.sees all })
      | in_default w ↦
          let none : (u : ℕ) → ¬ Wrote h u (pair_at names q).0 = subst (λ k. (u : ℕ) → ¬ Wrote h u k) (sym named) (subst (λ g. (u : ℕ) → ¬ Wrote g u (key_at (names_of g) key)) c.requires.index w.in_default.ensures) in
          rw (w.next-is, w.self-is) (record { range = so.range; covered = covered_unwritten h _ _ is n next so.covered 0 below none; sees = so.sees })
    ]

pub pass-requires-2-clause-keys : goal.pass-requires-2-clause-keys
pass-requires-2-clause-keys c i below = (c.written_keys-keys.result.now, c.written_keys-keys.ensures, (let bound = c.place_above-end.ensures.bound in omega arith))

pub pass-requires-2-clause-forward : goal.pass-requires-2-clause-forward
pass-requires-2-clause-forward c = let so = c.loop-pair.invariant in let up = so.range.forward in elim so.covered.high [ inl same ↦ omega arith | inr less ↦ less ]

pub returns : goal.returns
returns c =
    let h = c.args.log.now in
    let wf : IsWellFormed h = subst IsWellFormed c.requires.index c.law.ensures in
    let t = c.args.txn in
    let p = c.args.place in
    let so = c.loop-pair.invariant in
    let over = passed c.args.ix.now h c.requires.index t p c.loop-pair.next c.place_above-end.result c.loop-pair.self c.pass-2.new.self (p, (_, c.requires.event, refl))
    (not_behind h _ _ so.range.covers c.loop-pair.pair-index c.loop-pair.next so.covered c.loop-pair-test.false) c.pass-2.ensures in
    sees_place h wf t p _ _ so.range.inside c.args.self.now c.pass-2.new.self (sees_then h wf t p _ p c.loop-pair.next p c.place_above-end.result c.args.self.now c.loop-pair.self c.pass-2.new.self so.sees over)

pub overflow_cast-end : goal.overflow_cast-end
overflow_cast-end c = let few = few_written c.args.ix.now c.law.ensures c.written_keys-keys.result.now c.written_keys-keys.ensures in let bound = c.place_above-end.ensures.bound in omega arith

pub overflow_cast-next : goal.overflow_cast-next
overflow_cast-next c = let few = few_written c.args.ix.now c.law.ensures c.written_keys-keys.result.now c.written_keys-keys.ensures in let bound = c.place_from-next.ensures.bound in omega arith

pub overflow_add-next : goal.overflow_add-next
overflow_add-next c = let few = few_keys c.args.ix.now c.law.ensures c.in-Some.number _ c.in-Some.ensures in omega arith
