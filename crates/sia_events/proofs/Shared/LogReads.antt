-- What a log's tables answer.
use Rattle.std.proofs.Common.{◌≡◌, ◌≢◌, ℕ, zero, suc, ◌+◌, ◌-◌, ◌<◌, ◌≤◌, List, [], ◌∷◌, ◌++◌, length, map, take, drop, get_or, Option, Some, None, refl, sym, subst, ◌∙◌, ap, ap₂, arith, slice_get, nat_lt, false, true, flat_map}
use Rattle.std.specs.Prelude.{IfSome}
use Rattle.std.specs.Option.{option_map}
use Rattle.std.specs.List.Sorted.{IsStrictlyIncreasing}
use Rattle.std.proofs.lemmas.Bool.Decides.{nat_tests}
use Rattle.std.proofs.lemmas.List.{length-map, get_or-map}
use Rattle.std.proofs.lemmas.List.Kept.{AllPairs-from_increasing}
use Rattle.std.proofs.lemmas.Grind.{take_at_read}
use Rattle.std.proofs.lemmas.Option.{slice_get-map, slice_get-get_or, get_or_from_slice_get, slice_get_within}
use Rattle.sia_events.specs.declared.event.Event.{Event}
use Rattle.sia_events.specs.declared.event.Event.TheVariants.{Range}
use Rattle.sia_events.specs.declared.log.Row.{Row}
use Rattle.sia_events.specs.declared.log.TxnRow.{TxnRow}
use Rattle.sia_events.specs.declared.log.RangeRow.{RangeRow}
use Rattle.sia_events.specs.declared.log.Tables.{Tables}
use Rattle.sia_events.specs.Places.{at_place}
use Rattle.sia_events.specs.Refusals.{IsWellFormed}
use Rattle.sia_events.specs.Transactions.{StartsAt}
use Rattle.sia_events.specs.Numbering.{Names, names_of, txns_of, ranges_of, IsPair, IsSeen, mark, key_at, version_at, write_at, range_at, pair_at, ranges_in, event_of, IsMarked, AscendByKey}
use Rattle.sia_events.specs.LogTables.{names_in, names_but_ranges, range_of, events_of, AreTables, Lives}
use Rattle.sia_events.proofs.Writing.WellFormed.{few_events}
use Rattle.sia_events.proofs.Writing.Ranges.{list_in_order}
use Rattle.sia_events.proofs.LogRows.Lived.{to_get}
use Rattle.sia_events.proofs.Shared.Drafted.{map_get}

pub few_rows : (t : Tables) → IsWellFormed (events_of t) → length t.events.items ≤ 500000000
few_rows t fine = let l = length-map t.events.items (event_of (names_in t)) in let few = few_events (events_of t) fine in omega arith

pub row_event : (t : Tables) (place : ℕ) (r : Option Row) → AreTables t → place ≢ 0 → r ≡ slice_get t.events.items (place - 1) → option_map (event_of (names_of (events_of t))) r ≡ at_place (events_of t) place
row_event t place r tables above is = grind (arith, slice_get-map)

pub row_marked : (t : Tables) (place : ℕ) (r : Option Row) → AreTables t → r ≡ slice_get t.events.items (place - 1) → IfSome r (IsMarked (names_of (events_of t)) (take (place - 1) (events_of t)))
row_marked t place r tables is = grind (arith)

pub row_starts : (t : Tables) (n : ℕ) (x : TxnRow) → AreTables t → n < length t.txns.items → x ≡ get_or t.txns.items n x → StartsAt (events_of t) x.name x.start
row_starts t n x tables less is = (to_get (Lives (events_of t)) t.txns.items n x tables.lives (slice_get-get_or t.txns.items n x less ∙ ap Some (sym is))).0

pub range_listed : (t : Tables) (n : ℕ) (r : RangeRow) → AreTables t → n < length t.ranges.items → r ≡ get_or t.ranges.items n r → map (pair_at (names_of (events_of t))) (take (r.to - r.from) (drop r.from t.pairs.items)) ≡ (range_at (names_of (events_of t)) n).2
unfolding pair_at
range_listed t n r tables less is = grind (arith, slice_get-get_or, get_or_from_slice_get, map_get)

pub seen_low : (names : Names) (p k t : ℕ) → 0 < p → slice_get names.writes (p - 1) ≡ Some (k, t) → IsSeen names k (version_at names p) p
seen_low names p k t above at = grind (arith, get_or_from_slice_get)

-- what was seen of a write is what it made
pub seen_write : (names : Names) (k v w : ℕ) → 0 < w → IsSeen names k v w → write_at names (w - 1) ≡ (k, v)
seen_write names k v w some seen = grind (arith, get_or_from_slice_get)

pub pair_low : (names : Names) (p k v : ℕ) → p < mark → 0 < p → IsSeen names k v p → pair_at names p ≡ (k, v)
unfolding pair_at
pair_low names p k v low above seen = let below : nat_lt p mark ≡ true = grind (arith, nat_tests) in rw (below) (seen_write names k v p above seen)

pub pair_high : (names : Names) (p : ℕ) → mark ≤ p → pair_at names p ≡ (key_at names (p - mark), version_at names 0)
unfolding pair_at
pair_high names p high = let above : nat_lt p mark ≡ false = grind (arith, nat_tests) in rw (above) refl

-- what a pair's number stands for
pub seen_pair : (names : Names) (k w p : ℕ) → k < length names.keys → length names.writes < mark → IsSeen names (key_at names k) (version_at names w) w → (0 < w → p ≡ w) → (w ≡ 0 → p ≡ mark + k)
    → IsPair names p × (pair_at names p ≡ (key_at names k, version_at names w))
seen_pair names k w p key few seen some none = grind (arith, pair_high, slice_get_within, pair_low)

-- there are few keys and first writes
pub few_names : (t : Tables) (h : List Event) → AreTables t → events_of t ≡ h → (length (names_of h).keys ≤ 536870912) × (length (names_of h).writes < mark)
few_names t h tables is = grind (arith, length-map)

pub txn_room : (t : Tables) (n : ℕ) → AreTables t → n < length (txns_of (events_of t)) → n < length t.txns.items
txn_room t n tables less = let e : length (txns_of (events_of t)) ≡ length t.txns.items = ap (λ (ns : Names). length ns.txns) (sym tables.names) ∙ length-map t.txns.items (λ (x : TxnRow). x.name) in omega arith

pub range_room : (t : Tables) (n : ℕ) → AreTables t → n < length (ranges_of (events_of t)) → n < length t.ranges.items
range_room t n tables less = let e : length (ranges_of (events_of t)) ≡ length t.ranges.items = ap (λ (ns : Names). length ns.ranges) (sym tables.names) ∙ length-map t.ranges.items (range_of (names_but_ranges t.txns.items t.keys.items t.writes.items) t.pairs.items) in omega arith

pub pair_above : (names : Names) (p : ℕ) → IsPair names p → p < mark → 0 < p
pair_above names p h less = grind (arith)

pub next_event : (h : List Event) (i : ℕ) (names : Names) (row : Row) (events now : List Event) (e : Event) → i < length h → Some (event_of names row) ≡ at_place h (i + 1) → e ≡ event_of names row → events ≡ take i h → now ≡ events ++ e ∷ [] → now ≡ take (i + 1) h
next_event h i names row events now e less at is before pushed =
    let place : suc i ≡ i + 1 = omega arith in
    let there : slice_get h i ≡ Some (event_of names row) = ap (at_place h) place ∙ sym at in
    let here : get_or h i e ≡ e = get_or_from_slice_get h i (event_of names row) e there ∙ sym is in
    pushed ∙ ap₂ (λ xs x. xs ++ x ∷ []) before (sym here) ∙ sym (take_at_read h i e less).1

pub no_event : (h : List Event) (i : ℕ) → i < length h → None ≡ at_place h (i + 1) → ⊥
no_event h i less at = let place : suc i ≡ i + 1 = omega arith in nothing h i less (ap (at_place h) place ∙ sym at) where
  nothing : (h : List Event) (i : ℕ) → i < length h → slice_get h i ≡ None → ⊥
  nothing [] i less none = omega arith
  nothing (e ∷ es) zero less none = let x : Some e ≡ None = none in absurd cc
  nothing (e ∷ es) (suc i) less none = nothing es i (omega arith) none

-- a range by its number is one of the events
ranged_in : (es : List Event) (r : ℕ) (d : ℕ × ℕ × List (ℕ × ℕ)) → r < length (flat_map ranges_in es) → (i : ℕ) × (t : ℕ) × (slice_get es i ≡ Some (Range t (get_or (flat_map ranges_in es) r d).0 (get_or (flat_map ranges_in es) r d).1 (get_or (flat_map ranges_in es) r d).2))
ranged_in [] r d below = absurd (omega arith)
ranged_in (Range t lo hi listed ∷ es) zero d below = (0, t, refl)
ranged_in (Range t lo hi listed ∷ es) (suc r) d below = let w = ranged_in es r d (omega arith) in (suc w.0, w.1, w.2)
ranged_in (_ ∷ es) r d below = let w = ranged_in es r d below in (suc w.0, w.1, w.2)

-- its listed keys ascend
pub range_ascends : (h : List Event) → IsWellFormed h → (r : ℕ) → r < length (ranges_of h) → IsStrictlyIncreasing (map (λ p. p.0) (range_at (names_of h) r).2)
unfolding ranges_of
range_ascends h wf r below = let w = ranged_in h r (0, 0, []) below in (list_in_order h wf (suc w.0) w.1 _ _ _ w.2).1

pub pairs_ascend : (h : List Event) → IsWellFormed h → (r : ℕ) → r < length (ranges_of h) → (pairs : List ℕ) → map (pair_at (names_of h)) pairs ≡ (range_at (names_of h) r).2 → AscendByKey h pairs
pairs_ascend h wf r room pairs is i j d less below =
    let f = pair_at (names_of h) in
    let up = subst (λ l. IsStrictlyIncreasing (map (λ (p : ℕ × ℕ). p.0) l)) (sym is) (range_ascends h wf r room) in
    let long = length-map pairs f in
    let more = length-map (map f pairs) (λ (q : ℕ × ℕ). q.0) in
    let keys = AllPairs-from_increasing (map (λ (q : ℕ × ℕ). q.0) (map f pairs)) up i j 0 less (omega arith) in
    let one = get_or-map (λ (q : ℕ × ℕ). q.0) (map f pairs) i (0, 0) 0 (omega arith) ∙ ap (λ (q : ℕ × ℕ). q.0) (get_or-map f pairs i d (0, 0) (omega arith)) in
    let other = get_or-map (λ (q : ℕ × ℕ). q.0) (map f pairs) j (0, 0) 0 (omega arith) ∙ ap (λ (q : ℕ × ℕ). q.0) (get_or-map f pairs j d (0, 0) below) in
    omega arith
