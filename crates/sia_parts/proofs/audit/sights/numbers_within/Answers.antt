-- What the two places part.
use Rattle.std.proofs.Common.{ℕ, length, refl, arith}
use Rattle.std.specs.Prelude.{slice_index}
use Rattle.std.proofs.lemmas.List.Elements.{Contains-get_or}
use Rattle.sia_index.proofs.Shared.Ordered.{ascends, rises}
use Rattle.sia_parts.proofs.Shared.FewNumbers.{few_written}
use Rattle.sia_parts.proofs.Auditing.KeyLemmas.{written_key}
use Rattle.sia_parts.proofs.Auditing.KeyNumbers.{IsEnd, end_at_all, end_from, numbers_each}
use Rattle.sia_parts.proofs.audit.sights.numbers_within.Goals as goal
use Rattle.sia_parts.proofs.audit.sights.numbers_within.Goals.{in-Some, in-None}

pub place_from_near-from-requires : goal.place_from_near-from-requires
place_from_near-from-requires c = rises (λ (k : ℕ). k) _ (ascends (λ (k : ℕ). k) _ _ c.written_keys-keys.ensures)

pub place_from_near-to-requires : goal.place_from_near-to-requires
place_from_near-to-requires c = rises (λ (k : ℕ). k) _ (ascends (λ (k : ℕ). k) _ _ c.written_keys-keys.ensures)

pub overflow_cast-result : goal.overflow_cast-result
overflow_cast-result c = let few = few_written c.args.ix.now c.requires c.written_keys-keys.result.now c.written_keys-keys.ensures in let b = c.place_from_near-from.ensures.bound in omega arith

pub overflow_cast-result-2 : goal.overflow_cast-result-2
overflow_cast-result-2 c =
    let keys = c.written_keys-keys.result.now in
    let end : IsEnd keys c.args.hi c.match-checked_add.to = elim c.match-checked_add.branch [
      | in-Some w ↦ rw w.to-is (end_from keys c.args.hi w.in-Some.next w.place_from_near-to.result (let a = c.checked_add.ensures in let b = w.in-Some.is in grind arith) w.place_from_near-to.ensures.bound w.place_from_near-to.ensures.point)
      | in-None w ↦ rw w.to-is (end_at_all keys c.args.hi (length keys) refl (λ k below. let wrote = (c.written_keys-keys.ensures.each (slice_index keys k)).0 (Contains-get_or keys k 0 below) in let fits = written_key c.args.ix.now c.requires wrote.0 (slice_index keys k) wrote.1 in let a = c.checked_add.ensures in let b = w.in-None.is in grind arith))
    ] in
    let few = few_written c.args.ix.now c.requires keys c.written_keys-keys.ensures in
    let bound = end.bound in
    omega arith

pub returns : goal.returns
returns c =
    let keys = c.written_keys-keys.result.now in
    let end : IsEnd keys c.args.hi c.match-checked_add.to = elim c.match-checked_add.branch [
      | in-Some w ↦ rw w.to-is (end_from keys c.args.hi w.in-Some.next w.place_from_near-to.result (let a = c.checked_add.ensures in let b = w.in-Some.is in grind arith) w.place_from_near-to.ensures.bound w.place_from_near-to.ensures.point)
      | in-None w ↦ rw w.to-is (end_at_all keys c.args.hi (length keys) refl (λ k below. let wrote = (c.written_keys-keys.ensures.each (slice_index keys k)).0 (Contains-get_or keys k 0 below) in let fits = written_key c.args.ix.now c.requires wrote.0 (slice_index keys k) wrote.1 in let a = c.checked_add.ensures in let b = w.in-None.is in grind arith))
    ] in
    numbers_each c.args.ix.now keys c.written_keys-keys.ensures c.args.lo c.args.hi _ _ c.place_from_near-from.ensures.point end
