-- The next range miss, from where those before end, and of it the next key of which a version was committed.
use Rattle.std.proofs.Common.{◌≡◌, ℕ, ◌<◌, ◌≤◌, List, inl, inr, length, refl, subst, sym, arith}
use Rattle.std.specs.Prelude.{Contains, slice_index_or}
use Rattle.std.specs.List.Sorted.{IsNonDecreasingBy}
use Rattle.std.proofs.lemmas.List.Elements.{Contains-get_or}
use Rattle.sia_index.specs.Info.{HasKeyAt}
use Rattle.sia_index.specs.Numbers.{IsCommittedAt}
use Rattle.sia_parts.specs.declared.accesses.RangeMiss.{RangeMiss}
use Rattle.sia_parts.specs.declared.edges.Edges.{Edges}
use Rattle.sia_parts.specs.EdgeRows.{CanTell, IsMissRow, missed_by}
use Rattle.sia_parts.specs.Parts.{IsWithin}
use Rattle.sia_parts.proofs.EdgeRows.AccessRows.{at_number, miss_keys, misses_next, missed_within, reaches_more}
use Rattle.sia_parts.proofs.EdgeRows.EdgeLoops.{misses_all, misses_more, misses_none}
use Rattle.sia_parts.proofs.EdgeRows.Room.{end_behind, end_within, takes_later, takes_more, takes_none}
use Rattle.sia_parts.proofs.Shared.Adding.{from_all, from_none}
use Rattle.sia_parts.proofs.Shared.FewNumbers.{few_keys}
use Rattle.sia_parts.proofs.edges.Edges.put_missed.Goals as goal

abbrev none : RangeMiss
none = record { from = 0; to = 0 }

-- the next miss isn't empty, and the keys up to its end have numbers
next_miss : (edges : Edges) → CanTell edges → (i t : ℕ) → IsCommittedAt edges.index.now i t → (xs : List RangeMiss) → xs ≡ missed_by edges i → (n : ℕ) → n < length xs
    → ((slice_index_or xs n none).from < (slice_index_or xs n none).to) × ((j : ℕ) → j < (slice_index_or xs n none).to → HasKeyAt edges.index.now j)
next_miss edges tell i t at xs is n below =
    let W = IsWithin edges.within in
    let long = missed_within edges.index.now W edges.accesses.now tell.accesses i t at in
    let has = subst (λ ys. Contains ys (slice_index_or xs n none)) is (Contains-get_or xs n none below) in (
      tell.accesses.some i (slice_index_or xs n none) (at_number edges.accesses.now.missed i long _ has),
      miss_keys edges.index.now W edges.accesses.now tell.accesses i long (slice_index_or xs n none) has,
    )

pub loop-miss-init : goal.loop-miss-init
loop-miss-init c = (
  (λ j less all. absurd (omega arith)),
  takes_none c.args.self.now _,
  from_none (λ (miss : RangeMiss). IsMissRow c.args.self.now.index.now c.args.source miss.from miss.to) c.at-miss-items.result.now _,
)

pub loop-key-init : goal.loop-key-init
loop-key-init c = (
  omega arith,
  inl refl,
  takes_later c.args.self.now _ c.loop-miss.end _ _ (let is = c.max-from.ensures in omega arith) c.loop-miss.invariant.1,
  misses_none c.args.self.now.index.now c.law.ensures c.args.source c.max-from.result _,
)

pub next_visible-requires : goal.next_visible-requires
next_visible-requires c = (next_miss c.args.self.now c.requires.tell c.args.source c.requires.source.0 c.requires.source.1 c.at-miss-items.result.now c.at-miss-items.ensures c.loop-miss.miss-index c.loop-miss-test.true).1

pub first_position-requires : goal.first_position-requires
first_position-requires c = (next_miss c.args.self.now c.requires.tell c.args.source c.requires.source.0 c.requires.source.1 c.at-miss-items.result.now c.at-miss-items.ensures c.loop-miss.miss-index c.loop-miss-test.true).1 c.in-Some.key c.in-Some.ensures.1

pub put_makers-requires-clause-room : goal.put_makers-requires-clause-room
put_makers-requires-clause-room c end is =
    let h = c.args.self.now.index.now in
    let first = c.first_position.ensures in
    let most = end_within h _ end is (length c.args.self.now.readings.now) c.requires.tell.readings.long in
    let behind = end_behind h _ end is in
    let takes = c.loop-key.invariant.2 in
    let low = takes.stand c.in-Some.key c.first_position.result c.in-Some.ensures.0 (record { version = first.0; at = first.1; key = first.2 }) in
    let few = takes.few in
    let same = takes.room in
    let room = c.requires.room in
    omega arith

pub overflow_add-from : goal.overflow_add-from
overflow_add-from c = (let first = c.first_position.ensures in let few = few_keys c.args.self.now.index.now c.law.ensures c.in-Some.key first.0.key first.2 in omega arith)

pub loop-key-preserved : goal.loop-key-preserved
loop-key-preserved c =
    let h = c.args.self.now.index.now in
    let low = c.loop-key.invariant.0 in
    let from = c.in-Some.ensures.0 in
    let to = c.in-Some.ensures.1 in
    let first = c.first_position.ensures in
    let puts = c.put_makers.ensures.puts in (
      omega arith,
      inr (omega arith),
      takes_more c.args.self.now _ c.requires.tell.readings.long c.loop-key.from c.in-Some.key c.first_position.result _ _ _ c.loop-key.invariant.2 from (record { version = first.0; at = first.1; key = first.2 }) c.put_makers.ensures.end puts.few puts.room,
      misses_more h c.law.ensures c.args.source c.max-from.result c.loop-key.from c.in-Some.key c.first_position.result _ _ _ low from c.in-Some.ensures.2 first.0 first.1 first.2 first.3
          c.loop-key.invariant.3 puts.adds,
    )

pub loop-miss-preserved : goal.loop-miss-preserved
loop-miss-preserved c =
    let h = c.args.self.now.index.now in
    let xs = c.at-miss-items.result.now in
    let n = c.loop-miss.miss-index in
    let below = c.loop-miss-test.true in
    let rise : IsNonDecreasingBy (λ (miss : RangeMiss). miss.from) xs = rw c.at-miss-items.ensures (c.requires.tell.missed_rise c.args.source) in
    let some = (next_miss c.args.self.now c.requires.tell c.args.source c.requires.source.0 c.requires.source.1 xs c.at-miss-items.ensures n below).0 in
    let first = c.max-from.ensures in
    let end = c.max-end.ensures in
    let key = c.loop-key.invariant in
    let high : c.loop-key.from ≤ c.max-end.result = elim key.1 [ inl same ↦ omega arith | inr most ↦ omega arith ] in (
      reaches_more h c.args.source xs n none below rise c.loop-miss.end c.loop-miss.invariant.0 _ end,
      takes_later c.args.self.now _ c.loop-key.from _ _ high key.2,
      misses_next h c.args.source xs n none below rise c.loop-miss.end c.loop-miss.invariant.0 _ first _ _ _ c.loop-miss.invariant.2
          (misses_all h c.law.ensures c.args.source c.max-from.result c.loop-key.from _ _ _ key.1 c.in_default.ensures key.3),
    )

pub returns : goal.returns
returns c =
    let P = λ (miss : RangeMiss). IsMissRow c.args.self.now.index.now c.args.source miss.from miss.to in
    let takes = c.loop-miss.invariant.1 in
    record {
      adds = rw (sym c.at-miss-items.ensures) (from_all P c.at-miss-items.result.now c.loop-miss.miss-index _ _ c.loop-miss-test.false c.loop-miss.invariant.2);
      few = (let few = takes.few in let within = takes.within in omega arith);
      room = takes.room;
    }
