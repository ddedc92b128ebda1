-- The rows are those that positions tell, in order: of each version that was made, if its key is within, and then of those seen and passed over.
use Rattle.std.proofs.Common.{◌≡◌, ◌⊎◌, ◌+◌, ◌≤◌, ◌∙◌, inl, inr, ℕ, Bool, false, List, [], ap, length, refl, sym, subst, arith}
use Rattle.std.proofs.lemmas.Bool.{cases_lt}
use Rattle.std.specs.Prelude.{◌<◌, Contains, IsTrue, slice_index}
use Rattle.std.proofs.lemmas.List.Elements.{Contains-get_or}
use Rattle.sia_events.specs.declared.event.Event.{Event}
use Rattle.sia_events.specs.Lists.{ListsAscending}
use Rattle.sia_index.specs.declared.info.KeyVersion.{KeyVersion}
use Rattle.sia_index.specs.Info.{IsKeyAt}
use Rattle.sia_index.specs.Numbers.{IsCommittedAt}
use Rattle.sia_index.specs.Positions.{HasPosition, IsAtPosition}
use Rattle.sia_index.specs.Lists.{joined}
use Rattle.sia_parts.specs.declared.accesses.RangeMiss.{RangeMiss}
use Rattle.sia_parts.specs.declared.edges.EdgeTo.{EdgeTo}
use Rattle.sia_parts.specs.declared.edges.Edges.{Edges}
use Rattle.sia_parts.specs.declared.finding.Kind.TheVariants.{Rw, Ww}
use Rattle.sia_parts.specs.EdgeRows.{IsKeyEnd, IsMadeAt, IsMadeRow, IsMakerRow, IsMissRow, IsOfKey, IsReaderRow, Puts, missed_by, saw_by}
use Rattle.sia_parts.specs.Sights.{FromSome}
use Rattle.sia_parts.proofs.Shared.Adding.{added_to_none, adds_both, adds_nothing, adds_same, from_all, from_more, from_none}
use Rattle.sia_parts.proofs.EdgeRows.EdgeLoops.{MadeHere}
use Rattle.sia_parts.proofs.EdgeRows.EdgeNames.{IsRow, rows_are}
use Rattle.sia_parts.proofs.Shared.OneNumber.{one_committed}
use Rattle.sia_parts.proofs.EdgeRows.PositionOrder.{one_version}
use Rattle.sia_parts.proofs.EdgeRows.PositionEdges.{makers_apart}
use Rattle.sia_parts.proofs.EdgeRows.Room.{end_behind, end_within, noted_all, noted_rises, puts_like}
use Rattle.sia_events.specs.Refusals.{IsWellFormed}
use Rattle.sia_index.proofs.Shared.Ordered.{ascends}
use Rattle.sia_parts.proofs.edges.Edges.put_from.Goals as goal
use Rattle.sia_parts.proofs.edges.Edges.put_from.Goals.{After-loop-position, then-is_within, else-is_within}

abbrev IsMadeBy : List Event → ℕ → ℕ → Type 0
IsMadeBy h t q = (v : KeyVersion) × IsAtPosition h q v × (0 < v.commit) × (v.txn ≡ t)

made_here : (h : List Event) (t : ℕ) (made : List ℕ) → ListsAscending (IsMadeBy h t) made → (i : ℕ) → i < length made → HasPosition h (slice_index made i)
made_here h t made are i below = let is = (are.each (slice_index made i)).0 (Contains-get_or made i 0 below) in (is.0, is.1)

-- both kinds of rows are of the key of the version
row_key : (edges : Edges) (i q : ℕ) (row : EdgeTo) → IsMakerRow edges.index.now i Ww q row ⊎ IsReaderRow edges i q row → IsOfKey edges.index.now row.key q
row_key edges i q row (inl is) = is.2
row_key edges i q row (inr is) = is.2

made_of : (h : List Event) (i t j q : ℕ) → IsCommittedAt h i t → IsOfKey h j q → IsMadeBy h t q → IsMadeAt h i j q
made_of h i t j q at of made = record {
  version = made.0;
  at = made.1;
  key = subst (λ (v : KeyVersion). IsKeyAt h j v.key) (one_version h q of.version made.0 of.at made.1) of.key;
  made = made.2;
  maker = subst (IsCommittedAt h i) (sym made.3) at;
}

made_row : (edges : Edges) (i t : ℕ) → IsCommittedAt edges.index.now i t → (q : ℕ) → IsMadeBy edges.index.now t q → (row : EdgeTo) → MadeHere edges i q row → IsMadeRow edges i row
made_row edges i t at q made row here = (q, made_of edges.index.now i t row.key q at (row_key edges i q row here.1) made, here.0, here.1)

-- the later versions are of other keys
later_made : (h : List Event) → IsWellFormed h → (i t : ℕ) → IsCommittedAt h i t → (made : List ℕ) → ListsAscending (IsMadeBy h t) made → (n e : ℕ) → IsKeyEnd h (slice_index made n) e
    → (k : ℕ) → n + 1 ≤ k → k < length made → e ≤ slice_index made k
later_made h wf i t at made are n e end k behind below = elim (cases_lt (slice_index made k) e) [
  | inr past ↦ past
  | inl before ↦ absurd (
      let up : slice_index made n < slice_index made k = ascends (λ (x : ℕ). x) (IsMadeBy h t) made are n k 0 (omega arith) below in
      let first = (are.each (slice_index made n)).0 (Contains-get_or made n 0 (omega arith)) in
      let second = (are.each (slice_index made k)).0 (Contains-get_or made k 0 below) in
      let own = end.own end.of.0 (slice_index made k) end.of.1 (omega arith) before in
      makers_apart h wf i i end.of.0 _ _ (made_of h i t end.of.0 _ at end.of.1 first) (made_of h i t end.of.0 _ at own second) up refl)
]

row_made : (edges : Edges) (i t : ℕ) → IsCommittedAt edges.index.now i t → (made : List ℕ) → ListsAscending (IsMadeBy edges.index.now t) made → (row : EdgeTo) → IsMadeRow edges i row → (q : ℕ) × Contains made q × MadeHere edges i q row
row_made edges i t at made are row is =
    let m = is.1 in
    let own = one_committed edges.index.now i m.version.txn t m.maker at in
    (is.0, (are.each is.0).1 (m.version, m.at, m.made, own), (is.2, is.3))

pub is_within-requires : goal.is_within-requires
is_within-requires c = made_here c.args.self.now.index.now c.requires.source.0 c.made_by-made.result.now (c.made_by-made.ensures c.requires.source.0 c.requires.source.1) c.loop-position.position-index c.loop-position-test.true

pub loop-position-init : goal.loop-position-init
loop-position-init c = (0, omega arith, (λ k low below. omega arith), record { adds = from_none (MadeHere c.args.self.now c.args.source) c.made_by-made.result.now _; few = omega arith; room = refl })

pub put_makers-end-requires-clause-position : goal.put_makers-end-requires-clause-position
put_makers-end-requires-clause-position c = made_here c.args.self.now.index.now c.requires.source.0 c.made_by-made.result.now (c.made_by-made.ensures c.requires.source.0 c.requires.source.1) c.loop-position.position-index c.loop-position-test.true

pub put_makers-end-requires-clause-room : goal.put_makers-end-requires-clause-room
put_makers-end-requires-clause-room c end is =
    let h = c.args.self.now.index.now in
    let most = end_within h _ end is (length c.args.self.now.readings.now) c.requires.tell.readings.long in
    let behind = end_behind h _ end is in
    let before = c.loop-position.invariant in
    let low = before.2 c.loop-position.position-index (omega arith) c.loop-position-test.true in
    let few = before.3.few in
    let same = before.3.room in
    let noted = noted_all c.args.self.now.readings.now before.0 in
    let none = ap (length {A = EdgeTo}) c.clear.ensures.items in
    let kept = c.clear.ensures.capacity in
    let room = c.requires.room in
    omega arith

pub put_readers-requires-clause-position : goal.put_readers-requires-clause-position
put_readers-requires-clause-position c = made_here c.args.self.now.index.now c.requires.source.0 c.made_by-made.result.now (c.made_by-made.ensures c.requires.source.0 c.requires.source.1) c.loop-position.position-index c.loop-position-test.true

pub put_readers-requires-clause-room : goal.put_readers-requires-clause-room
put_readers-requires-clause-room c =
    let readings = c.args.self.now.readings.now in
    let q = slice_index c.made_by-made.result.now c.loop-position.position-index in
    let made = c.put_makers-end.ensures in
    let most = end_within c.args.self.now.index.now _ _ made.end (length readings) c.requires.tell.readings.long in
    let behind = end_behind c.args.self.now.index.now _ _ made.end in
    let before = c.loop-position.invariant in
    let low = before.2 c.loop-position.position-index (omega arith) c.loop-position-test.true in
    let few = before.3.few in
    let same = before.3.room in
    let more = made.puts.few in
    let again = made.puts.room in
    let first = noted_rises readings before.0 q low in
    let then = noted_rises readings q c.put_makers-end.result (omega arith) in
    let noted = noted_all readings c.put_makers-end.result in
    let none = ap (length {A = EdgeTo}) c.clear.ensures.items in
    let kept = c.clear.ensures.capacity in
    let room = c.requires.room in
    omega arith

pub loop-position-preserved : goal.loop-position-preserved
loop-position-preserved c =
    let self = c.args.self.now in
    let h = self.index.now in
    let made = c.made_by-made.result.now in
    let n = c.loop-position.position-index in
    let q = slice_index made n in
    let below = c.loop-position-test.true in
    let before = c.loop-position.invariant in
    let low = before.2 n (omega arith) below in
    elim c.if-is_within.branch [
      | then-is_within w ↦
          let makers = w.put_makers-end.ensures in
          let readers = w.put_readers.ensures in
          let end = w.put_makers-end.result in
          rw w.rows-is (
            end,
            end_within h _ _ makers.end (length self.readings.now) c.requires.tell.readings.long,
            later_made h c.law.ensures c.args.source c.requires.source.0 c.requires.source.1 made (c.made_by-made.ensures c.requires.source.0 c.requires.source.1) n end makers.end,
            record {
              adds = from_more (MadeHere self c.args.source) made n 0 _ _ _ below before.3.adds (adds_same (λ row. IsMakerRow h c.args.source Ww q row ⊎ IsReaderRow self c.args.source q row) (MadeHere self c.args.source q) _ _
                  (λ row is. (
                  let of = row_key self c.args.source q row is in
                  ((of.version.key, of.key, (c.is_within.ensures row.key of.version.key of of.key).0 w.if-is_within.true), is)))
                  (λ row is. is.1)
                  (adds_both (IsMakerRow h c.args.source Ww q) (IsReaderRow self c.args.source q) _ _ _ makers.puts.adds readers.adds));
              few = (
                  let behind = end_behind h _ _ makers.end in
                  let few = before.3.few in
                  let more = makers.puts.few in
                  let most = readers.few in
                  let first = noted_rises self.readings.now before.0 q low in
                  let then = noted_rises self.readings.now q end (omega arith) in
                  omega arith);
              room = readers.room ∙ makers.puts.room ∙ before.3.room;
            },
          )
      | else-is_within w ↦
          rw w.rows-is (
            before.0,
            before.1,
            (λ k behind less. before.2 k (omega arith) less),
            puts_like _ _ _ _ _ _ before.3 (omega arith) (from_more (MadeHere self c.args.source) made n 0 _ _ _ below before.3.adds (adds_nothing (MadeHere self c.args.source q) _ (λ row is. (
                let of = row_key self c.args.source q row is.1 in
                outside (w.if-is_within.false) ((c.is_within.ensures row.key is.0.0 of is.0.1).1 is.0.2))))),
          )
    ]
  where
    outside : {b : Bool} → b ≡ false → IsTrue b → ⊥
    outside never holds = cc

made_puts : (c : After-loop-position) → Puts (IsMadeRow c.args.self.now c.args.source) (length c.args.self.now.readings.now + length (joined c.args.self.now.readings.now)) c.clear.new.self c.loop-position.rows
made_puts c =
    let self = c.args.self.now in
    let made = c.made_by-made.result.now in
    let are = c.made_by-made.ensures c.requires.source.0 c.requires.source.1 in
    let before = c.loop-position.invariant in
    puts_like _ _ _ _ _ _ before.3 (let most = before.1 in let noted = noted_all self.readings.now before.0 in omega arith)
    (adds_same (FromSome (MadeHere self c.args.source) made) (IsMadeRow self c.args.source) _ _
    (λ row f. made_row self c.args.source c.requires.source.0 c.requires.source.1 f.0 ((are.each f.0).0 f.1) row f.2)
    (λ row is. row_made self c.args.source c.requires.source.0 c.requires.source.1 made are row is)
    (from_all (MadeHere self c.args.source) made c.loop-position.position-index _ _ c.loop-position-test.false before.3.adds))

pub put_seen-requires-clause-room : goal.put_seen-requires-clause-room
put_seen-requires-clause-room c = (let none = ap (length {A = EdgeTo}) c.clear.ensures.items in let same = c.clear.ensures.capacity in let made = (made_puts (goal.at.put_seen-requires-clause-room c).After-loop-position).few in let again = (made_puts (goal.at.put_seen-requires-clause-room c).After-loop-position).room in let room = c.requires.room in omega arith)

pub put_missed-requires-clause-room : goal.put_missed-requires-clause-room
put_missed-requires-clause-room c = (
    let none = ap (length {A = EdgeTo}) c.clear.ensures.items in
    let same = c.clear.ensures.capacity in
    let made = (made_puts (goal.at.put_missed-requires-clause-room c).After-loop-position).few in
    let again = (made_puts (goal.at.put_missed-requires-clause-room c).After-loop-position).room in
    let seen = c.put_seen.ensures.few in
    let still = c.put_seen.ensures.room in
    let room = c.requires.room in
    omega arith)

pub returns-clause-edges : goal.returns-clause-edges
returns-clause-edges c =
    let self = c.args.self.now in
    let h = self.index.now in
    let i = c.args.source in
    let Made = IsMadeRow self i in
    let Seen = FromSome (IsMakerRow h i Rw) (saw_by self i) in
    let Missed = FromSome (λ (miss : RangeMiss). IsMissRow h i miss.from miss.to) (missed_by self i) in
    let told = (made_puts (goal.at.returns-clause-edges c).After-loop-position).adds in
    let first = rw c.clear.ensures.items at told in
    let all = adds_both (λ (row : EdgeTo). Made row ⊎ Seen row) Missed [] _ _ (adds_both Made Seen [] _ _ first c.put_seen.ensures.adds) c.put_missed.ensures.adds in
    let each = added_to_none (IsRow self i) _ all in
    rows_are self c.requires.tell c.law.ensures i c.requires.source.0 c.requires.source.1 _
    (λ row. ((λ has. (each row).0 ((c.sort.ensures.same row).0 has)), (λ is. (c.sort.ensures.same row).1 ((each row).1 is)))) c.sort.ensures.sorted
