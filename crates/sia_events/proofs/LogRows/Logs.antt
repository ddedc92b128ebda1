-- Tables that get more rows spell the events that they spelled.
use Rattle.std.proofs.Common.{◌≡◌, ℕ, suc, ◌+◌, ◌-◌, ◌<◌, ◌≤◌, Bool, true, false, List, [], ◌∷◌, ◌++◌, length, map, take, drop, Some, refl, sym, subst, ◌∙◌, ap, ap₂, arith, append_assoc, get_or, slice_get, rules}
use Rattle.std.specs.Prelude.{All, if◌then◌else◌}
use Rattle.std.specs.List.{list_any}
use Rattle.std.proofs.lemmas.Bool.Decides.{nat_tests}
use Rattle.std.proofs.lemmas.List.{length-map, length-append, length-drop, map-append, append-nil, drop-append-le, take-append-le}
use Rattle.std.proofs.lemmas.List.Elements.{All-append, All-drop, All-take, All-cons, All-nil}
use Rattle.std.proofs.lemmas.Option.{slice_get_within}
use Rattle.std.proofs.Math.ListN.{get_or-append}
use Rattle.sia_events.specs.declared.event.Event.{Event}
use Rattle.sia_events.specs.declared.log.TxnRow.{TxnRow}
use Rattle.sia_events.specs.declared.log.WriteRow.{WriteRow}
use Rattle.sia_events.specs.declared.log.RangeRow.{RangeRow}
use Rattle.sia_events.specs.declared.log.Row.{Row}
use Rattle.sia_events.specs.declared.log.Tables.{Tables}
use Rattle.sia_events.specs.Numbering.{Names, entered, same_number, txn_at, key_at, version_at, pair_at, mark, event_of, IsSeen, IsPair, IsWithin, IsMarked}
use Rattle.sia_events.specs.Drafts.{SameButTxns, SameButKeys, SameButWrites, IsNew}
use Rattle.sia_events.proofs.LogRows.Distinct.{once_push}
use Rattle.sia_events.specs.LogTables.{txn_names, write_names, range_of, names_but_ranges, names_in, events_of, IsWriteRow, IsRangeRow, AreOnce, AreSound, AreShort}
use Rattle.sia_events.proofs.LogRows.RowsRead.{get_more}

-- ys goes on where xs ends
abbrev pub IsFront : {A : Type 0} → List A → List A → Type 0
IsFront {A} xs ys = (more : List A) × (ys ≡ xs ++ more)

pub front_get : {A : Type 0} (xs ys : List A) (i : ℕ) (v : A) → IsFront xs ys → slice_get xs i ≡ Some v → slice_get ys i ≡ Some v
front_get xs ys i v front at = rw (front.1) (get_more xs front.0 i v at)

pub front_or : {A : Type 0} (xs ys : List A) (i : ℕ) (d : A) → IsFront xs ys → i < length xs → get_or ys i d ≡ get_or xs i d
front_or xs ys i d front less = rw (front.1) (get_or-append xs front.0 d i less)

pub front_length : {A : Type 0} (xs ys : List A) → IsFront xs ys → length xs ≤ length ys
front_length xs ys front = let e : length ys ≡ length xs + length front.0 = ap length front.1 ∙ length-append xs front.0 in omega arith

pub front_same : {A : Type 0} (xs ys : List A) → ys ≡ xs → IsFront xs ys
front_same xs ys is = ([], is ∙ sym (append-nil xs))

pub front_entered : (xs : List ℕ) (x : ℕ) → IsFront xs (entered same_number xs x)
front_entered xs x = by_there (list_any (same_number x) xs) where
  by_there : (b : Bool) → IsFront xs (if b then xs else xs ++ x ∷ [])
  by_there true = front_same xs xs refl
  by_there false = (x ∷ [], refl)

-- each number goes on standing for what it stood for
pub record Extends (a b : Names) : Type 0 where
  pub txns : IsFront a.txns b.txns
  pub keys : IsFront a.keys b.keys
  pub writes : IsFront a.writes b.writes
  pub ranges : IsFront a.ranges b.ranges

module _ (a b : Names) (x : Extends a b) where
  pub txn_same : (d : ℕ) → d < length a.txns → txn_at b d ≡ txn_at a d
  txn_same d less = front_or a.txns b.txns d 0 x.txns less

  pub key_same : (d : ℕ) → d < length a.keys → key_at b d ≡ key_at a d
  key_same d less = front_or a.keys b.keys d 0 x.keys less

  seen_length : (k v w : ℕ) → IsSeen a k v (suc w) → w < length a.writes
  seen_length k v w seen = slice_get_within a.writes w (k, v) seen

  version_same : (k v w : ℕ) → IsSeen a k v w → version_at b w ≡ version_at a w
  version_same k v q2 seen = search (rules, front_or, seen_length)

  pub seen_more : (k v w : ℕ) → IsSeen a k v w → IsSeen b k v w
  seen_more k v q2 seen = search (rules, front_get)

  pub pair_more : (p : ℕ) → IsPair a p → length b.writes < mark → IsPair b p
  pair_more p q1 few = search (rules, front_length)

  pub pair_same : (p : ℕ) → IsPair a p → pair_at b p ≡ pair_at a p
  unfolding pair_at
  pair_same p q1 = grind (arith, nat_tests, front_or, key_same)

  pub event_same : (r : Row) → IsWithin a r → event_of b r ≡ event_of a r
  event_same q0 w = search (rules, txn_same, key_same, version_same, front_or)

  less_more : {A : Type 0} (xs ys : List A) (d : ℕ) → IsFront xs ys → d < length xs → d < length ys
  less_more xs ys d front less = let l = front_length xs ys front in omega arith

  pub within_more : (r : Row) → IsWithin a r → IsWithin b r
  within_more q0 w = search (rules, less_more, key_same, version_same, seen_more, txn_same, front_get)

  pub write_row_more : (w : WriteRow) → IsWriteRow a w → IsWriteRow b w
  write_row_more w within = (less_more a.txns b.txns w.txn x.txns within.0, less_more a.keys b.keys w.key x.keys within.1)

-- a change of what all elements have
pub map_same : {A B : Type 0} (f g : A → B) (P : A → Type 0) (xs : List A) → ((x : A) → P x → f x ≡ g x) → All P xs → map f xs ≡ map g xs
map_same f g P [] same all = refl
map_same f g P (x ∷ xs) same all = ap₂ (λ y ys. y ∷ ys) (same x (all 0 x (omega arith))) (map_same f g P xs same (λ k d less. all (suc k) d (omega arith)))

pub all_more : {A : Type 0} (P Q : A → Type 0) (xs : List A) → ((x : A) → P x → Q x) → All P xs → All Q xs
all_more P Q xs more all = λ k d less. more (get_or xs k d) (all k d less)

part_same : (xs more : List ℕ) (from to : ℕ) → from ≤ to → to ≤ length xs → take (to - from) (drop from (xs ++ more)) ≡ take (to - from) (drop from xs)
part_same xs more from to up within = ap (take (to - from)) (drop-append-le from xs more (omega arith)) ∙ take-append-le (to - from) (drop from xs) more (let l = length-drop from xs in omega arith)

all_part : (P : ℕ → Type 0) (xs : List ℕ) (from to : ℕ) → All P xs → All P (take (to - from) (drop from xs))
all_part P xs from to all = All-take P (to - from) (drop from xs) (All-drop P from xs all)

-- what stands behind the others has P
abbrev pub IsMore : {A : Type 0} → (A → Type 0) → List A → List A → Type 0
IsMore {A} P xs ys = (more : List A) × (ys ≡ xs ++ more) × All P more

-- the tables get more rows
pub record Grows (t u : Tables) : Type 0 where
  pub txns : IsFront (txn_names t.txns.items) (txn_names u.txns.items)
  pub keys : IsFront t.keys.items u.keys.items
  pub writes : IsFront t.writes.items u.writes.items
  pub ranges : IsFront t.ranges.items u.ranges.items
  pub pairs : IsFront t.pairs.items u.pairs.items

module _ (t u : Tables) (sound : AreSound t) (grows : Grows t u) where
  write_names_same : write_names (txn_names u.txns.items) u.keys.items t.writes.items ≡ write_names (txn_names t.txns.items) t.keys.items t.writes.items
  write_names_same = map_same (λ w. (get_or u.keys.items w.key 0, get_or (txn_names u.txns.items) w.txn 0)) (λ w. (get_or t.keys.items w.key 0, get_or (txn_names t.txns.items) w.txn 0)) (IsWriteRow (names_in t)) t.writes.items
      (λ w within. ap₂ (λ k x. (k, x)) (front_or t.keys.items u.keys.items w.key 0 grows.keys within.1) (front_or (txn_names t.txns.items) (txn_names u.txns.items) w.txn 0 grows.txns within.0)) sound.writes

  -- the names of the writes that are there, and of new ones
  pub writes_now : (names_in u).writes ≡ (names_in t).writes ++ write_names (txn_names u.txns.items) u.keys.items grows.writes.0
  writes_now = ap (write_names (txn_names u.txns.items) u.keys.items) grows.writes.1 ∙ map-append (λ w. (get_or u.keys.items w.key 0, get_or (txn_names u.txns.items) w.txn 0)) t.writes.items grows.writes.0 ∙ ap (λ (xs : List (ℕ × ℕ)). xs ++ write_names (txn_names u.txns.items) u.keys.items grows.writes.0) write_names_same

  pub writes_kept : u.writes.items ≡ t.writes.items → (names_in u).writes ≡ (names_in t).writes
  writes_kept is = ap (write_names (txn_names u.txns.items) u.keys.items) is ∙ write_names_same

  plain_extends : Extends (names_but_ranges t.txns.items t.keys.items t.writes.items) (names_but_ranges u.txns.items u.keys.items u.writes.items)
  plain_extends = search (rules, writes_now)

  range_same : (r : RangeRow) → IsRangeRow t.pairs.items r → range_of (names_but_ranges u.txns.items u.keys.items u.writes.items) u.pairs.items r ≡ range_of (names_but_ranges t.txns.items t.keys.items t.writes.items) t.pairs.items r
  range_same r within =
      let a = names_but_ranges t.txns.items t.keys.items t.writes.items in
      let b = names_but_ranges u.txns.items u.keys.items u.writes.items in
      let those = take (r.to - r.from) (drop r.from t.pairs.items) in
      let listed : take (r.to - r.from) (drop r.from u.pairs.items) ≡ those = ap (λ xs. take (r.to - r.from) (drop r.from xs)) grows.pairs.1 ∙ part_same t.pairs.items grows.pairs.0 r.from r.to within.0 within.1 in
      ap (λ (xs : List (ℕ × ℕ)). (r.lo, r.hi, xs)) (ap (map (pair_at b)) listed ∙ map_same (pair_at b) (pair_at a) (IsPair a) those (pair_same a b plain_extends) (all_part (IsPair a) t.pairs.items r.from r.to sound.pairs))

  pub ranges_now : (few : length (names_in u).writes < mark) → (names_in u).ranges ≡ (names_in t).ranges ++ map (range_of (names_but_ranges u.txns.items u.keys.items u.writes.items) u.pairs.items) grows.ranges.0
  ranges_now few =
      ap (map (range_of (names_but_ranges u.txns.items u.keys.items u.writes.items) u.pairs.items)) grows.ranges.1
      ∙ map-append (range_of (names_but_ranges u.txns.items u.keys.items u.writes.items) u.pairs.items) t.ranges.items grows.ranges.0
      ∙ ap (λ (xs : List (ℕ × ℕ × List (ℕ × ℕ))). xs ++ map (range_of (names_but_ranges u.txns.items u.keys.items u.writes.items) u.pairs.items) grows.ranges.0)
      (map_same (range_of (names_but_ranges u.txns.items u.keys.items u.writes.items) u.pairs.items) (range_of (names_but_ranges t.txns.items t.keys.items t.writes.items) t.pairs.items) (IsRangeRow t.pairs.items) t.ranges.items range_same sound.ranges)

  pub ranges_kept : u.ranges.items ≡ t.ranges.items → (names_in u).ranges ≡ (names_in t).ranges
  ranges_kept is = ap (map (range_of (names_but_ranges u.txns.items u.keys.items u.writes.items) u.pairs.items)) is ∙ map_same (range_of (names_but_ranges u.txns.items u.keys.items u.writes.items) u.pairs.items) (range_of (names_but_ranges t.txns.items t.keys.items t.writes.items) t.pairs.items) (IsRangeRow t.pairs.items) t.ranges.items range_same sound.ranges

  pub extends : (few : length (names_in u).writes < mark) → Extends (names_in t) (names_in u)
  extends few = search (rules, writes_now, ranges_now)

  pub grown_sound : (few : length (names_in u).writes < mark) → AreShort u → AreOnce (txn_names u.txns.items) → AreOnce u.keys.items
      → IsMore (IsWithin (names_in u)) t.events.items u.events.items → IsMore (IsWriteRow (names_in u)) t.writes.items u.writes.items → IsMore (IsRangeRow u.pairs.items) t.ranges.items u.ranges.items → IsMore (IsPair (names_in u)) t.pairs.items u.pairs.items → AreSound u
  grown_sound few short once_txns once_keys events writes ranges pairs = let x = extends few in record {
    short = short;
    txns_once = once_txns;
    keys_once = once_keys;
    rows = subst (All (IsWithin (names_in u))) (sym events.1) (All-append (IsWithin (names_in u)) t.events.items events.0 (all_more (IsWithin (names_in t)) (IsWithin (names_in u)) t.events.items (within_more (names_in t) (names_in u) x) sound.rows) events.2);
    writes = subst (All (IsWriteRow (names_in u))) (sym writes.1) (All-append (IsWriteRow (names_in u)) t.writes.items writes.0 (all_more (IsWriteRow (names_in t)) (IsWriteRow (names_in u)) t.writes.items (write_row_more (names_in t) (names_in u) x) sound.writes) writes.2);
    ranges = subst (All (IsRangeRow u.pairs.items)) (sym ranges.1) (All-append (IsRangeRow u.pairs.items) t.ranges.items ranges.0 (all_more (IsRangeRow t.pairs.items) (IsRangeRow u.pairs.items) t.ranges.items (λ r in_t. (in_t.0, (let l = front_length t.pairs.items u.pairs.items grows.pairs in let a = in_t.1 in omega arith))) sound.ranges) ranges.2);
    pairs = subst (All (IsPair (names_in u))) (sym pairs.1) (All-append (IsPair (names_in u)) t.pairs.items pairs.0 (all_more (IsPair (names_in t)) (IsPair (names_in u)) t.pairs.items (λ p is. pair_more (names_in t) (names_in u) x p is few) sound.pairs) pairs.2);
  }

  pub events_same : (few : length (names_in u).writes < mark) → map (event_of (names_in u)) t.events.items ≡ events_of t
  events_same few = map_same (event_of (names_in u)) (event_of (names_in t)) (IsWithin (names_in t)) t.events.items (event_same (names_in t) (names_in u) (extends few)) sound.rows

pub more_none : {A : Type 0} (P : A → Type 0) (xs ys : List A) → ys ≡ xs → IsMore P xs ys
more_none P xs ys is = ([], is ∙ sym (append-nil xs), All-nil P)

pub more_one : {A : Type 0} (P : A → Type 0) (xs ys : List A) (x : A) → ys ≡ xs ++ x ∷ [] → P x → IsMore P xs ys
more_one P xs ys x is here = (x ∷ [], is, All-cons P x [] here (All-nil P))

pub few_writes : (u : Tables) → length u.writes.items ≤ 536870912 → length (names_in u).writes < mark
few_writes u few = let l : length (names_in u).writes ≡ length u.writes.items = length-map u.writes.items (λ w. (get_or u.keys.items w.key 0, get_or (txn_names u.txns.items) w.txn 0)) in omega arith

-- one transaction more
pub txn_grown : (t u : Tables) (x : TxnRow) → AreSound t → SameButTxns t u → u.txns.items ≡ t.txns.items ++ x ∷ [] → length t.txns.items < 536870912 → IsNew (txn_names t.txns.items) x.name → AreSound u × Grows t u
txn_grown t u x sound same is few new = search (rules, map-append, front_same, grown_sound, few_writes, length-append, once_push, more_none)

-- one key more
pub key_grown : (t u : Tables) (k : ℕ) → AreSound t → SameButKeys t u → u.keys.items ≡ t.keys.items ++ k ∷ [] → length t.keys.items < 536870912 → IsNew t.keys.items k → AreSound u × Grows t u
key_grown t u k sound same is few new = search (rules, front_same, grown_sound, few_writes, length-append, once_push, more_none)

-- one event more, and the names of transactions as they are
pub pushed_sound : (t u : Tables) (r : Row) → AreSound t → txn_names u.txns.items ≡ txn_names t.txns.items → u.keys.items ≡ t.keys.items → u.writes.items ≡ t.writes.items → u.ranges.items ≡ t.ranges.items → u.pairs.items ≡ t.pairs.items → u.events.items ≡ t.events.items ++ r ∷ [] → IsWithin (names_in u) r → AreSound u × Grows t u
pushed_sound t u r sound txns keys writes ranges pairs is within = search (rules, front_same, grown_sound, few_writes, length-map, more_one, more_none)

-- one write more
pub write_grown : (t u : Tables) (w : WriteRow) → AreSound t → SameButWrites t u → u.writes.items ≡ t.writes.items ++ w ∷ [] → length t.writes.items < 536870912 → w.txn < length t.txns.items → w.key < length t.keys.items → AreSound u × Grows t u
write_grown t u w sound same is few txn key =
    let grows : Grows t u = search (rules, front_same) in
    let long : length u.writes.items ≤ 536870912 = (let l : length u.writes.items ≡ length t.writes.items + 1 = ap length is ∙ length-append t.writes.items (w ∷ []) in omega arith) in
    let txn_in : w.txn < length (txn_names u.txns.items) = (let l : length (txn_names u.txns.items) ≡ length t.txns.items = ap length (ap txn_names same.txns) ∙ length-map t.txns.items (λ (y : TxnRow). y.name) in omega arith) in
    let key_in : w.key < length u.keys.items = rw (same.keys) key in (
      grown_sound t u sound grows (few_writes u long) (record {
        txns = rw (same.txns) sound.short.txns;
        keys = rw (same.keys) sound.short.keys;
        writes = long;
        ranges = rw (same.ranges) sound.short.ranges;
        pairs = rw (same.pairs) sound.short.pairs;
      }) (subst AreOnce (sym (ap txn_names same.txns)) sound.txns_once) (subst AreOnce (sym same.keys) sound.keys_once) (more_none (IsWithin (names_in u)) t.events.items u.events.items same.events) (more_one (IsWriteRow (names_in u)) t.writes.items u.writes.items w is (txn_in, key_in)) (more_none (IsRangeRow u.pairs.items) t.ranges.items u.ranges.items same.ranges) (more_none (IsPair (names_in u)) t.pairs.items u.pairs.items same.pairs),
      grows,
    )

pub front_step : {A : Type 0} (xs ys zs : List A) → IsFront xs ys → IsFront ys zs → IsFront xs zs
front_step xs ys zs a b = (a.0 ++ b.0, b.1 ∙ ap (λ ws. ws ++ b.0) a.1 ∙ append_assoc xs a.0 b.0)

pub grows_step : (t u v : Tables) → Grows t u → Grows u v → Grows t v
grows_step t u v a b = search (rules, front_step)

module _ (a b : Names) (x : Extends a b) where
  pub marked_more : (before : List Event) (r : Row) → IsWithin a r → IsMarked a before r → IsMarked b before r
  marked_more before q1 w m = search (rules, key_same, txn_same)

-- one listed pair more
pub pair_grown : (t u : Tables) (p : ℕ) → AreSound t → u.txns.items ≡ t.txns.items → u.keys.items ≡ t.keys.items → u.writes.items ≡ t.writes.items → u.ranges.items ≡ t.ranges.items → u.events.items ≡ t.events.items → u.pairs.items ≡ t.pairs.items ++ p ∷ [] → length t.pairs.items < 2147483648 → IsPair (names_in t) p → AreSound u × Grows t u
pair_grown t u p sound txns keys writes ranges events is few pair =
    let grows : Grows t u = search (rules, front_same) in
    let long : length u.writes.items ≤ 536870912 = rw (writes) sound.short.writes in
    let few_now = few_writes u long in (
      grown_sound t u sound grows few_now (record {
        txns = rw (txns) sound.short.txns;
        keys = rw (keys) sound.short.keys;
        writes = long;
        ranges = rw (ranges) sound.short.ranges;
        pairs = let l : length u.pairs.items ≡ length t.pairs.items + 1 = ap length is ∙ length-append t.pairs.items (p ∷ []) in omega arith;
      }) (subst AreOnce (sym (ap txn_names txns)) sound.txns_once) (subst AreOnce (sym keys) sound.keys_once) (more_none (IsWithin (names_in u)) t.events.items u.events.items events) (more_none (IsWriteRow (names_in u)) t.writes.items u.writes.items writes) (more_none (IsRangeRow u.pairs.items) t.ranges.items u.ranges.items ranges) (more_one (IsPair (names_in u)) t.pairs.items u.pairs.items p is (pair_more (names_in t) (names_in u) (extends t u sound grows few_now) p pair few_now)),
      grows,
    )

-- one range more
pub range_grown : (t u : Tables) (r : RangeRow) → AreSound t → u.txns.items ≡ t.txns.items → u.keys.items ≡ t.keys.items → u.writes.items ≡ t.writes.items → u.pairs.items ≡ t.pairs.items → u.events.items ≡ t.events.items → u.ranges.items ≡ t.ranges.items ++ r ∷ [] → length t.ranges.items < 536870912 → IsRangeRow t.pairs.items r → AreSound u × Grows t u
range_grown t u r sound txns keys writes pairs events is few within =
    let grows : Grows t u = grind (arith, front_same) in
    search (rules, grown_sound, few_writes, length-append, more_none, more_one)
