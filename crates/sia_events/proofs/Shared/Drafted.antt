-- What the tables of a log that is being made say of names, and what one event more makes of them.
use Rattle.std.specs.Vec.{vec_len}
use Rattle.std.proofs.Common.{◌≡◌, ◌≢◌, ◌⊎◌, inl, inr, ℕ, zero, suc, ◌+◌, ◌-◌, ◌<◌, ◌≤◌, Bool, true, false, List, [], ◌∷◌, ◌++◌, length, map, take, set, get_or, Option, Some, None, refl, sym, subst, ◌∙◌, ap, ap₂, arith, slice_get}
use Rattle.std.specs.Prelude.{All, ◌==◌, ◌*◌, ◌||◌, MatchOption}
use Rattle.std.specs.List.{list_any, list_all, fold}
use Rattle.std.proofs.lemmas.Grind.{fold-append}
use Rattle.std.proofs.lemmas.List.Folds.{list_all-append}
use Rattle.std.proofs.Math.Seq.{drop-append_seam}
use Rattle.std.proofs.lemmas.List.{length-map, length-append, map-append, append-nil, take-append-le, take_all}
use Rattle.std.proofs.Math.Seq.{take-append_seam, get_or-append_seam}
use Rattle.std.proofs.lemmas.List.Elements.{All-push, All-drop}
use Rattle.std.proofs.lemmas.Option.{slice_get_within, get_or_from_slice_get, slice_get-get_or, same_Some, slice_get-map}
use Rattle.sia_events.specs.declared.event.Event.{Event}
use Rattle.sia_events.specs.declared.log.TxnRow.{TxnRow}
use Rattle.sia_events.specs.declared.log.WriteRow.{WriteRow}
use Rattle.sia_events.specs.declared.log.SeenRow.{SeenRow}
use Rattle.sia_events.specs.declared.log.RangeRow.{RangeRow}
use Rattle.sia_events.specs.declared.log.Row.{Row}
use Rattle.sia_events.specs.declared.log.Row.TheVariants as rows
use Rattle.sia_events.specs.declared.log.Tables.{Tables}
use Rattle.sia_events.specs.declared.draft.Draft.{Draft}
use Rattle.sia_events.specs.Events.{actor, named_start}
use Rattle.sia_events.specs.Known.{acts, ends, writes, fault_of}
use Rattle.sia_events.specs.Numbering.{Names, keys_of, ranges_of, mark, range_at, txn_at, key_at, version_at, pair_at, IsPair, names_of, IsSeen, txns_of, writes_of, entered, same_number, same_pair, event_of, IsWithin, IsMarked, keys_in, writes_in, ranges_in}
use Rattle.sia_events.specs.LogTables.{range_of, names_but_ranges, txn_names, write_names, names_in, events_of, AreSound, AreTables, AreOnce, IsWriteRow, IsRangeRow, Lives}
use Rattle.sia_events.specs.Drafts.{AreSeen, AreFound, Knows, Acts, IsNew, new_txn, SameButTxns}
use Rattle.sia_events.proofs.LogRows.Distinct.{pairs_tell, new_none, there_some, entered_new, entered_there, numbered_acts, numbered_writes, names_push, four}
use Rattle.sia_events.specs.declared.event.Event.TheVariants.{Begin, Read, Range, Write, Commit, Abort}
use Rattle.sia_events.specs.declared.log.TxnEnd.TheVariants.{Open}
use Rattle.sia_events.specs.Numbering.{Ends}
use Rattle.sia_events.specs.Drafts.{IsWriteOr}
use Rattle.std.proofs.lemmas.Bool.Decides.{nat_tests}
use Rattle.std.proofs.Common.{drop, append_assoc}
use Rattle.std.specs.Prelude.{⊤, ◌&&◌, nat_lt, unwrap_or, Ok, Err, if◌then◌else◌}
use Rattle.std.proofs.Math.Seq.{map-set_same}
use Rattle.sia_events.specs.Finding.{Finds}
use Rattle.sia_events.specs.OwnWrites.{Tracks, IsNoneOf, new_write, write_code}
use Rattle.sia_events.specs.declared.fault.Reason.{Reason}
use Rattle.sia_events.specs.declared.fault.Reason.TheVariants.{AlreadyEnded, AlreadyBegun, BadStart, EmptyRange, BadList, NotWritten}
use Rattle.sia_events.specs.declared.fault.Refusal.{Refusal}
use Rattle.sia_events.specs.declared.fault.Refusal.TheVariants as refusals
use Rattle.sia_events.specs.Drafts.{ListsOne, Lists, is_seen, StopsAtPair, StopsListing, StopsActing, Takes, HasKey, HasPair, HasWrite, IsReadRow, SameButWrites}
use Rattle.sia_events.specs.Known.{own_fault, is_explained, read_fault, range_fault, goes_up}
use Rattle.std.proofs.Math.Bool.{or-true}
use Rattle.sia_events.proofs.Shared.Faults.{IsAmong, any_among, among_any, ends_is, same_true, true_false}
use Rattle.sia_events.proofs.LogRows.Lived.{to_get, all_set, lives_more, lives_new, lives_going, lives_ended, start_more, starts_new}
use Rattle.sia_events.proofs.LogRows.Logs.{IsFront, front_get, seen_more, front_same, front_entered, Grows, events_same, extends, all_more, few_writes, marked_more, pushed_sound, grows_step, front_step, writes_kept, ranges_kept, pair_grown, range_grown, pair_same, map_same}
use Rattle.sia_events.proofs.LogRows.RowsRead.{push_cases, set_cases, last_there}
use Rattle.std.proofs.lemmas.Bool.{ne_eqb, false_from_ne_true}
use Rattle.std.specs.Option.{option_map}

pub found_of : (d : Draft) → Knows d → AreFound d
unfolding Knows
found_of d knows = knows.1

pub tables_of : (d : Draft) → Knows d → AreTables d.tables
unfolding Knows
tables_of d knows = knows.0

pub map_read : {A B : Type 0} (f : A → B) (xs : List A) (n : ℕ) (y : B) → slice_get (map f xs) n ≡ Some y → (x : A) × (slice_get xs n ≡ Some x) × (f x ≡ y)
map_read {A} {B} f [] n y at = absurd (let e : None ≡ Some y = at in cc)
map_read f (x ∷ xs) zero y at = (x, refl, (let e : Some (f x) ≡ Some y = at in cc))
map_read f (x ∷ xs) (suc n) y at = map_read f xs n y at

pub map_get : {A B : Type 0} (f : A → B) (xs : List A) (n : ℕ) (x : A) → slice_get xs n ≡ Some x → slice_get (map f xs) n ≡ Some (f x)
map_get f xs n x at = slice_get-map f xs n ∙ ap (option_map f) at

any_at : {A : Type 0} (p : A → Bool) (xs : List A) → list_any p xs ≡ true → (n : ℕ) × (x : A) × (slice_get xs n ≡ Some x) × (p x ≡ true)
any_at p [] some = absurd cc
any_at p (x ∷ xs) some = by_head (p x) refl some (λ there. any_at p xs there) where
  by_head : (b : Bool) → p x ≡ b → (b || list_any p xs) ≡ true → (list_any p xs ≡ true → (n : ℕ) × (y : _) × (slice_get xs n ≡ Some y) × (p y ≡ true)) → (n : ℕ) × (y : _) × (slice_get (x ∷ xs) n ≡ Some y) × (p y ≡ true)
  by_head true e some rest = (0, x, refl, e)
  by_head false e some rest = let r = rest some in (suc r.0, r.1, r.2, r.3)

-- the row of a write whose key and transaction have these names
pub write_row : (t : Tables) → AreSound t → (n k u : ℕ) → slice_get (names_in t).writes n ≡ Some (k, u) → (w : WriteRow) × (slice_get t.writes.items n ≡ Some w) × (slice_get t.keys.items w.key ≡ Some k) × (slice_get (txn_names t.txns.items) w.txn ≡ Some u)
write_row t sound n k u at =
    let r = map_read (λ (w : WriteRow). (get_or t.keys.items w.key 0, get_or (txn_names t.txns.items) w.txn 0)) t.writes.items n (k, u) at in
    let within : IsWriteRow (names_in t) r.0 = to_get (IsWriteRow (names_in t)) t.writes.items n r.0 sound.writes r.1 in
    (r.0, r.1, slice_get-get_or t.keys.items r.0.key 0 within.1 ∙ ap (λ (p : ℕ × ℕ). Some p.0) r.2, slice_get-get_or (txn_names t.txns.items) r.0.txn 0 within.0 ∙ ap (λ (p : ℕ × ℕ). Some p.1) r.2)

pub row_write : (t : Tables) (n k u : ℕ) (w : WriteRow) → slice_get t.writes.items n ≡ Some w → slice_get t.keys.items w.key ≡ Some k → slice_get (txn_names t.txns.items) w.txn ≡ Some u → slice_get (names_in t).writes n ≡ Some (k, u)
row_write t n k u w at key txn = map_get (λ (x : WriteRow). (get_or t.keys.items x.key 0, get_or (txn_names t.txns.items) x.txn 0)) t.writes.items n w at ∙ ap₂ (λ a b. Some (a, b)) (get_or_from_slice_get t.keys.items w.key k 0 key) (get_or_from_slice_get (txn_names t.txns.items) w.txn u 0 txn)

same_code : (a b x y : ℕ) → a < 4294967296 → x < 4294967296 → b * 4294967296 + a ≡ y * 4294967296 + x → (b ≡ y) × (a ≡ x)
same_code a b x y la lx e = (omega arith, omega arith)

-- a code that is found
pub code_write : (t : Tables) → AreSound t → (n key txn k u : ℕ) → slice_get (map write_code t.writes.items) n ≡ Some (txn * 4294967296 + key) → slice_get t.keys.items key ≡ Some k → slice_get (txn_names t.txns.items) txn ≡ Some u → slice_get (names_in t).writes n ≡ Some (k, u)
code_write t sound n key txn k u at is_key is_txn =
    let r = map_read write_code t.writes.items n (txn * 4294967296 + key) at in
    let within : IsWriteRow (names_in t) r.0 = to_get (IsWriteRow (names_in t)) t.writes.items n r.0 sound.writes r.1 in
    let few : length t.keys.items ≤ 536870912 = sound.short.keys in
    let low : r.0.key < length t.keys.items = within.1 in
    let there : key < length t.keys.items = slice_get_within t.keys.items key k is_key in
    let same = same_code r.0.key r.0.txn key txn (omega arith) (omega arith) r.2 in
    row_write t n k u r.0 r.1 (rw (same.1) is_key) (rw (same.0) is_txn)

-- and one that isn't
pub code_none : (t : Tables) → AreSound t → (key txn k u : ℕ) → IsNoneOf t.writes.items txn key → slice_get t.keys.items key ≡ Some k → slice_get (txn_names t.txns.items) txn ≡ Some u → list_any (same_pair (k, u)) (names_in t).writes ≡ false
code_none t sound key txn k u none is_key is_txn = false_from_ne_true (list_any (same_pair (k, u)) (names_in t).writes) (λ some.
    let a = any_at (same_pair (k, u)) (names_in t).writes some in
    let is : (k, u) ≡ a.1 = pairs_tell (k, u) a.1 a.3 in
    let r = write_row t sound a.0 k u (a.2 ∙ ap Some (sym is)) in
    none a.0 r.0 r.1 (sound.txns_once r.0.txn txn u r.3 is_txn) (sound.keys_once r.0.key key k r.2 is_key))

-- a transaction without an event wrote nothing
pub new_wrote_none : (t : Tables) → AreSound t → (k u : ℕ) → IsNew (txn_names t.txns.items) u → list_any (same_pair (k, u)) (names_in t).writes ≡ false
new_wrote_none t sound k u new = false_from_ne_true (list_any (same_pair (k, u)) (names_in t).writes) (λ some.
    let a = any_at (same_pair (k, u)) (names_in t).writes some in
    let is : (k, u) ≡ a.1 = pairs_tell (k, u) a.1 a.3 in
    let r = write_row t sound a.0 k u (a.2 ∙ ap Some (sym is)) in
    new r.0.txn r.3)

pub txn_within : (txns : List TxnRow) (n name : ℕ) → slice_get (txn_names txns) n ≡ Some name → n < length txns
txn_within txns n name at = let l = length-map txns (λ (x : TxnRow). x.name) in let w = slice_get_within (txn_names txns) n name at in omega arith

-- a transaction that has no number has no event
pub new_acts : (t : Tables) (name : ℕ) → AreTables t → IsNew (txn_names t.txns.items) name → list_any (acts name) (events_of t) ≡ false
new_acts t name tables new = sym (numbered_acts name (events_of t)) ∙ ap (λ (names : Names). list_any (same_number name) names.txns) (sym tables.names) ∙ new_none (txn_names t.txns.items) name new

none_ends : (name : ℕ) (h : List Event) → list_any (acts name) h ≡ false → list_any (ends name) h ≡ false
none_ends name h none = false_from_ne_true (list_any (ends name) h) (λ some. let a = any_among (ends name) h some in elim (ends_is name a.0 a.2) [
  | inl commit ↦ true_false (list_any (acts name) h) (among_any (acts name) h (Commit name) (subst (IsAmong h) commit a.1) (same_true name)) none
  | inr abort ↦ true_false (list_any (acts name) h) (among_any (acts name) h (Abort name) (subst (IsAmong h) abort a.1) (same_true name)) none
])

pub new_going : (t : Tables) (name : ℕ) → AreTables t → IsNew (txn_names t.txns.items) name → list_any (ends name) (events_of t) ≡ false
new_going t name tables new = none_ends name (events_of t) (new_acts t name tables new)

pub row_going : (h : List Event) (x y : TxnRow) (name : ℕ) → Lives h x → x.name ≡ name → y ≡ x → y.end ≡ Open → list_any (ends name) h ≡ false
row_going h x y name lives is same going = subst (λ n. list_any (ends n) h ≡ false) is (lives_going h x.name (subst (Ends h x.name) (ap (λ (z : TxnRow). z.end) (sym same) ∙ going) lives.1))

pub row_ended : (h : List Event) (x y : TxnRow) (name : ℕ) → Lives h x → x.name ≡ name → y ≡ x → y.end ≢ Open → list_any (ends name) h ≡ true
row_ended h x y name lives is same ended = subst (λ n. list_any (ends n) h ≡ true) is (lives_ended h x.name x.end lives.1 (λ e. ended (ap (λ (z : TxnRow). z.end) same ∙ e)))

pub write_or : (names : Names) (p : ℕ × ℕ) (n : ℕ) → slice_get names.writes n ≡ Some p → IsWriteOr names p (n + 1)
write_or names p n at = let e : suc n ≡ n + 1 = omega arith in subst (IsWriteOr names p) e at

pub has_key : (t : Tables) (k n : ℕ) → slice_get t.keys.items n ≡ Some k → HasKey t t k n
has_key t k n is = record {
  same = record {
    txns = refl;
    writes = refl;
    ranges = refl;
    pairs = refl;
    events = refl;
  };
  is = is;
  keys = sym (entered_there t.keys.items n k is);
}

-- what was seen last stays so, as the tables grow
still_seen : (t u : Tables) (rows : List SeenRow) → AreSound t → AreSound u → Grows t u → AreSeen (names_in t) rows → AreSeen (names_in u) rows
still_seen t u rows sound sound_u grows seen = grind (arith, extends, few_writes, front_get, seen_more)

pub found_more : (d e : Draft) → AreFound d → AreSound e.tables × Grows d.tables e.tables → Finds e.txns (txn_names e.tables.txns.items) → Finds e.keys (map (λ (x : SeenRow). x.key) e.last_seen.items) → Tracks e.writes e.tables.writes.items → length e.tables.txns.items ≤ length e.writes.writers.items → e.tables.keys.items ≡ d.tables.keys.items → e.last_seen.items ≡ d.last_seen.items → AreFound e
found_more d e found g txns keys writes long kept same = record {
  sound = g.0;
  txns = txns;
  keys = keys;
  writes = writes;
  long = long;
  level = ap (map (λ (x : SeenRow). x.key)) same ∙ found.level ∙ sym kept;
  seen = subst (AreSeen (names_in e.tables)) (sym same) (still_seen d.tables e.tables d.last_seen.items found.sound g.0 g.1 found.seen);
}

pub key_found : (d e : Draft) (k : ℕ) → AreFound d → e.tables.keys.items ≡ d.tables.keys.items ++ k ∷ [] → AreSound e.tables × Grows d.tables e.tables → Finds e.txns (txn_names e.tables.txns.items) → Finds e.keys (map (λ (x : SeenRow). x.key) e.last_seen.items) → Tracks e.writes e.tables.writes.items → length e.tables.txns.items ≤ length e.writes.writers.items → e.last_seen.items ≡ d.last_seen.items ++ record { key = k; version = 0; write = 0 } ∷ [] → AreFound e
key_found d e k found pushed g txns keys writes long more =
    let seen = still_seen d.tables e.tables d.last_seen.items found.sound g.0 g.1 found.seen in
    let is : slice_get e.tables.keys.items (length d.last_seen.items) ≡ Some k = rw (pushed) (last_there d.tables.keys.items k (length d.last_seen.items) (sym (length-map d.last_seen.items (λ (x : SeenRow). x.key)) ∙ ap length found.level)) in
    record {
      sound = g.0;
      txns = txns;
      keys = keys;
      writes = writes;
      long = long;
      level = ap (map (λ (x : SeenRow). x.key)) more ∙ map-append (λ (x : SeenRow). x.key) d.last_seen.items (record { key = k; version = 0; write = 0 } ∷ []) ∙ ap (λ ks. ks ++ k ∷ []) found.level ∙ sym pushed;
      seen = grind (arith, push_cases);
    }

-- another version of a key is seen
pub seen_now : (names : Names) (rows : List SeenRow) (key v w : ℕ) (old : SeenRow) → AreSeen names rows → ((k : ℕ) → slice_get names.keys key ≡ Some k → IsSeen names k v w) → slice_get rows key ≡ Some old → AreSeen names (set rows key (record { key = old.key; version = v; write = w }))
seen_now names rows key v w old seen made is = λ i x at. elim (set_cases rows key i (record { key = old.key; version = v; write = w }) x at) [
  | inl same ↦ seen i x same
  | inr new ↦ (let r = seen key old is in (rw (new.0, new.1) r.0, rw (new.1) (made old.key r.0)))
]

marked_step : (d e : Draft) (ev : Event) (r : Row) → AreTables d.tables → AreSound d.tables → Grows d.tables e.tables → length (names_in e.tables).writes < mark → e.tables.events.items ≡ d.tables.events.items ++ r ∷ []
    → IsMarked (names_in e.tables) (events_of d.tables) r → (i : ℕ) (x : Row) → slice_get e.tables.events.items i ≡ Some x → IsMarked (names_in e.tables) (take i (events_of d.tables ++ ev ∷ [])) x
marked_step d e ev r tables sound grows few pushed marked i x at =
    let l = length-map d.tables.events.items (event_of (names_in d.tables)) in
    elim (push_cases d.tables.events.items r i x (ap (λ (xs : List Row). slice_get xs i) (sym pushed) ∙ at)) [
      | inl there ↦ (let less = slice_get_within d.tables.events.items i x there in
          rw (take-append-le i (events_of d.tables) (ev ∷ []) (omega arith)) (marked_more (names_in d.tables) (names_in e.tables) (extends d.tables e.tables sound grows few) (take i (events_of d.tables)) x (to_get (IsWithin (names_in d.tables)) d.tables.events.items i x sound.rows there) (tables.marked i x there)))
      | inr here ↦ (let whole : take i (events_of d.tables ++ ev ∷ []) ≡ events_of d.tables = ap (λ j. take j (events_of d.tables ++ ev ∷ [])) (here.0 ∙ sym l) ∙ take-append_seam (events_of d.tables) (ev ∷ []) in
          rw (whole, here.1) marked)
    ]

-- what is known of the tables, when one more row is pushed
pub settled : (d e : Draft) (ev : Event) (r : Row) → Knows d → AreFound e → Grows d.tables e.tables → e.tables.events.items ≡ d.tables.events.items ++ r ∷ []
    → names_in e.tables ≡ names_of (events_of d.tables ++ ev ∷ []) → event_of (names_in e.tables) r ≡ ev → All (Lives (events_of d.tables ++ ev ∷ [])) e.tables.txns.items → IsMarked (names_in e.tables) (events_of d.tables) r
    → (events_of e.tables ≡ events_of d.tables ++ ev ∷ []) × Knows e
unfolding Knows
settled d e ev r knows found grows pushed names spells lives marked =
    let few = few_writes e.tables found.sound.short.writes in
    let old = events_same d.tables e.tables knows.1.sound grows few in
    let all : events_of e.tables ≡ events_of d.tables ++ ev ∷ [] = ap (map (event_of (names_in e.tables))) pushed ∙ map-append (event_of (names_in e.tables)) d.tables.events.items (r ∷ []) ∙ ap₂ (λ xs x. xs ++ x ∷ []) old spells in (
      all,
      (
        record {
          sound = found.sound;
          names = names ∙ ap names_of (sym all);
          lives = subst (λ (h : List Event). All (Lives h) e.tables.txns.items) (sym all) lives;
          marked = subst (λ (h : List Event). (i : ℕ) (x : Row) → slice_get e.tables.events.items i ≡ Some x → IsMarked (names_in e.tables) (take i h) x) (sym all) (marked_step d e ev r knows.0 knows.1.sound grows few pushed marked);
        },
        found,
      ),
    )

-- what one event more makes of the numbers
pub names_step : (t u : Tables) (ev : Event) → AreTables t → txn_names u.txns.items ≡ entered same_number (txn_names t.txns.items) (actor ev) → u.keys.items ≡ fold (entered same_number) t.keys.items (keys_in ev) → (names_in u).writes ≡ fold (entered same_pair) (names_in t).writes (writes_in ev) → (names_in u).ranges ≡ (names_in t).ranges ++ ranges_in ev → names_in u ≡ names_of (events_of t ++ ev ∷ [])
names_step t u ev tables txns keys writes ranges = grind (arith, four, names_push)

-- a transaction that acts
module _ (t u : Tables) (name n : ℕ) (a : Acts t u name n) where
  pub acts_names : txn_names u.txns.items ≡ entered same_number (txn_names t.txns.items) name
  acts_names = elim a.rows [
    | inl same ↦ ap txn_names same ∙ sym (entered_there (txn_names t.txns.items) n name (ap (λ (xs : List TxnRow). slice_get (txn_names xs) n) (sym same) ∙ a.is))
    | inr more ↦ ap txn_names more.1 ∙ map-append (λ (x : TxnRow). x.name) t.txns.items (new_txn name (length (events_of t)) ∷ []) ∙ sym (entered_new (txn_names t.txns.items) name more.0)
  ]

  pub acts_grows : Grows t u
  acts_grows = record {
    txns = subst (IsFront (txn_names t.txns.items)) (sym acts_names) (front_entered (txn_names t.txns.items) name);
    keys = front_same t.keys.items u.keys.items a.same.keys;
    writes = front_same t.writes.items u.writes.items a.same.writes;
    ranges = front_same t.ranges.items u.ranges.items a.same.ranges;
    pairs = front_same t.pairs.items u.pairs.items a.same.pairs;
  }

  pub acts_lives : (ev : Event) → AreTables t → actor ev ≡ name → named_start ev ≡ None → ((m : ℕ) → ends m ev ≡ false) → All (Lives (events_of t ++ ev ∷ [])) u.txns.items
  acts_lives ev tables acts_is plain going =
      let old = all_more (Lives (events_of t)) (Lives (events_of t ++ ev ∷ [])) t.txns.items (λ x is. lives_more (events_of t) ev x (going x.name) is) tables.lives in
      elim a.rows [
        | inl same ↦ subst (All (Lives (events_of t ++ ev ∷ []))) (sym same) old
        | inr more ↦ subst (All (Lives (events_of t ++ ev ∷ []))) (sym more.1) (All-push (Lives (events_of t ++ ev ∷ [])) t.txns.items (new_txn name (length (events_of t))) old
            (lives_new (events_of t) ev name (length (events_of t)) acts_is (new_acts t name tables more.0) (going name) (subst (λ (o : Option ℕ). MatchOption o (length (events_of t) ≡ length (events_of t)) (λ s. length (events_of t) ≡ s)) (sym plain) refl)))
      ]

-- why a transaction can't act, or an event that hasn't its own reason can come
fault_by : (h : List Event) (n : ℕ) (ev : Event) (b : Bool) → list_any (ends (actor ev)) h ≡ b → fault_of h n ev ≡ (if b then Some AlreadyEnded else own_fault h n ev)
unfolding fault_of
fault_by h n ev b is = rw (is) refl

pub no_fault : (h : List Event) (n : ℕ) (ev : Event) → list_any (ends (actor ev)) h ≡ false → own_fault h n ev ≡ None → fault_of h n ev ≡ None
no_fault h n ev going own = fault_by h n ev false going ∙ own

pub own_reason : (h : List Event) (n : ℕ) (ev : Event) (r : Reason) → list_any (ends (actor ev)) h ≡ false → own_fault h n ev ≡ Some r → fault_of h n ev ≡ Some r
own_reason h n ev r going own = fault_by h n ev false going ∙ own

pub stops : (d e : Draft) (name : ℕ) (ev : Event) (f : Refusal) → actor ev ≡ name → StopsActing d e name f → Takes d e ev (Err f)
unfolding Takes
stops d e name ev refusals.NoMemory acts_is why = tt
stops d e name ev (refusals.Bad r) acts_is why = (fault_by (events_of d.tables) (length (events_of d.tables)) ev true (ap (λ t. list_any (ends t) (events_of d.tables)) acts_is ∙ why.1) ∙ ap Some (sym why.0), ap events_of why.2)

found_same : (u e : Draft) → AreFound u → AreSound e.tables × Grows u.tables e.tables → e.txns ≡ u.txns → e.keys ≡ u.keys → e.writes ≡ u.writes → e.last_seen.items ≡ u.last_seen.items → txn_names e.tables.txns.items ≡ txn_names u.tables.txns.items → e.tables.keys.items ≡ u.tables.keys.items → e.tables.writes.items ≡ u.tables.writes.items → AreFound e
found_same u e found g fx fk fw fs txns keys writes = grind (arith, length-map)

-- one row more, where the names stay as they are
pub found_pushed : (u e : Draft) (r : Row) → AreFound u → e.txns ≡ u.txns → e.keys ≡ u.keys → e.writes ≡ u.writes → e.last_seen.items ≡ u.last_seen.items → txn_names e.tables.txns.items ≡ txn_names u.tables.txns.items → e.tables.keys.items ≡ u.tables.keys.items → e.tables.writes.items ≡ u.tables.writes.items → e.tables.ranges.items ≡ u.tables.ranges.items → e.tables.pairs.items ≡ u.tables.pairs.items
    → e.tables.events.items ≡ u.tables.events.items ++ r ∷ [] → IsWithin (names_in e.tables) r → AreFound e × Grows u.tables e.tables
found_pushed u e r found fx fk fw fs txns keys writes ranges pairs events within = grind (arith, pushed_sound, found_same)

-- an event of a transaction that goes on
pub goes : (d e : Draft) (u : Tables) (name n : ℕ) (ev : Event) (r : Row) → Knows d → Acts d.tables u name n → AreFound e → Grows d.tables e.tables → e.tables.txns.items ≡ u.txns.items → e.tables.keys.items ≡ fold (entered same_number) d.tables.keys.items (keys_in ev) → (names_in e.tables).writes ≡ fold (entered same_pair) (names_in d.tables).writes (writes_in ev) → (names_in e.tables).ranges ≡ (names_in d.tables).ranges ++ ranges_in ev
    → e.tables.events.items ≡ d.tables.events.items ++ r ∷ [] → actor ev ≡ name → named_start ev ≡ None → ((m : ℕ) → ends m ev ≡ false) → event_of (names_in e.tables) r ≡ ev → IsMarked (names_in e.tables) (events_of d.tables) r → own_fault (events_of d.tables) (length (events_of d.tables)) ev ≡ None → Takes d e ev (Ok tt)
unfolding Takes
goes d e u name n ev r knows acting found grows txns keys writes ranges pushed acts_is plain going spells marked own =
    let s = settled d e ev r knows found grows pushed (names_step d.tables e.tables ev (tables_of d knows) (ap txn_names txns ∙ acts_names d.tables u name n acting ∙ ap (entered same_number (txn_names d.tables.txns.items)) (sym acts_is)) keys writes ranges) spells (subst (All (Lives (events_of d.tables ++ ev ∷ []))) (sym txns) (acts_lives d.tables u name n acting ev (tables_of d knows) acts_is plain going)) marked in
    (no_fault (events_of d.tables) (length (events_of d.tables)) ev (ap (λ t. list_any (ends t) (events_of d.tables)) acts_is ∙ acting.going) own, s.0, s.1)

-- a row of a transaction, one of which acts, is an old one or that of the new one
acting_row : (t u : Tables) (name n : ℕ) → Acts t u name n → (k : ℕ) (x : TxnRow) → slice_get u.txns.items k ≡ Some x → (slice_get t.txns.items k ≡ Some x) ⊎ ((x ≡ new_txn name (length (events_of t))) × IsNew (txn_names t.txns.items) name)
acting_row t u name n a k x at = elim a.rows [
  | inl same ↦ inl (ap (λ (xs : List TxnRow). slice_get xs k) (sym same) ∙ at)
  | inr more ↦ elim (push_cases t.txns.items (new_txn name (length (events_of t))) k x (ap (λ (xs : List TxnRow). slice_get xs k) (sym more.1) ∙ at)) [
    | inl old ↦ inl old
    | inr new ↦ inr (new.1, more.0)
  ]
]

-- an end of a transaction
pub finishes : (d e : Draft) (u : Tables) (name n : ℕ) (ev : Event) (r : Row) (x y : TxnRow) → Knows d → Acts d.tables u name n → AreSound u → AreFound e → Grows d.tables e.tables → slice_get u.txns.items n ≡ Some x → y.name ≡ x.name → y.start ≡ x.start → Ends (events_of d.tables ++ ev ∷ []) name y.end → e.tables.txns.items ≡ set u.txns.items n y
    → e.tables.keys.items ≡ d.tables.keys.items → (names_in e.tables).writes ≡ (names_in d.tables).writes → (names_in e.tables).ranges ≡ (names_in d.tables).ranges → keys_in ev ≡ [] → writes_in ev ≡ [] → ranges_in ev ≡ []
    → e.tables.events.items ≡ d.tables.events.items ++ r ∷ [] → actor ev ≡ name → named_start ev ≡ None → ((m : ℕ) → m ≢ name → ends m ev ≡ false) → event_of (names_in e.tables) r ≡ ev → IsMarked (names_in e.tables) (events_of d.tables) r → own_fault (events_of d.tables) (length (events_of d.tables)) ev ≡ None → Takes d e ev (Ok tt)
unfolding Takes
finishes d e u name n ev r x y knows acting sound found grows at same_name same_start ended txns keys writes ranges no_keys no_writes no_ranges pushed acts_is plain others spells marked own =
    let h = events_of d.tables in
    let tables = tables_of d knows in
    let named : x.name ≡ name = same_Some x.name name (sym (map_get (λ (z : TxnRow). z.name) u.txns.items n x at) ∙ acting.is) in
    let kept : txn_names e.tables.txns.items ≡ txn_names u.txns.items = ap txn_names txns ∙ map-set_same (λ (z : TxnRow). z.name) u.txns.items n y x (same_name ∙ ap (λ (z : TxnRow). z.name) (sym (get_or_from_slice_get u.txns.items n x x at))) in
    let here : Lives (h ++ ev ∷ []) y = (
      rw (same_name, same_start) (elim (acting_row d.tables u name n acting n x at) [
        | inl old ↦ start_more h ev x.name x.start (to_get (Lives h) d.tables.txns.items n x tables.lives old).0
        | inr new ↦ rw (new.0) (starts_new h ev name (length h) acts_is (new_acts d.tables name tables new.1) (subst (λ (o : Option ℕ). MatchOption o (length h ≡ length h) (λ s. length h ≡ s)) (sym plain) refl))
      ]),
      rw (same_name, named) ended,
    ) in
    let lives = all_set (Lives (h ++ ev ∷ [])) u.txns.items n y (λ k z is ne.
    let other : z.name ≢ name = (λ same. ne (sound.txns_once k n name (map_get (λ (w : TxnRow). w.name) u.txns.items k z is ∙ ap Some same) acting.is)) in
    elim (acting_row d.tables u name n acting k z is) [
      | inl old ↦ lives_more h ev z (others z.name other) (to_get (Lives h) d.tables.txns.items k z tables.lives old)
      | inr new ↦ absurd (other (ap (λ (w : TxnRow). w.name) new.0))
    ]) here in
    let s = settled d e ev r knows found grows pushed (names_step d.tables e.tables ev tables (kept ∙ acts_names d.tables u name n acting ∙ ap (entered same_number (txn_names d.tables.txns.items)) (sym acts_is)) (rw (no_keys) keys) (rw (no_writes) writes) (rw (no_ranges) (ranges ∙ sym (append-nil (names_in d.tables).ranges)))) spells (subst (All (Lives (h ++ ev ∷ []))) (sym txns) lives) marked in
    (no_fault h (length h) ev (ap (λ t. list_any (ends t) h) acts_is ∙ acting.going) own, s.0, s.1)

pub name_at : (names : Names) (d name : ℕ) → slice_get names.txns d ≡ Some name → txn_at names d ≡ name
name_at names d name at = get_or_from_slice_get names.txns d name 0 at

-- the end of a transaction, as the code takes it in
pub ends_now : (d u e : Draft) (name n : ℕ) (ev : Event) (r : Row) (x y : TxnRow) → Knows d → Acts d.tables u.tables name n → AreFound u → x ≡ get_or u.tables.txns.items n x → y.name ≡ x.name → y.start ≡ x.start → Ends (events_of d.tables ++ ev ∷ []) name y.end
    → e.txns ≡ u.txns → e.keys ≡ u.keys → e.writes ≡ u.writes → e.last_seen.items ≡ u.last_seen.items → e.tables.txns.items ≡ set u.tables.txns.items n y → e.tables.keys.items ≡ u.tables.keys.items → e.tables.writes.items ≡ u.tables.writes.items → e.tables.ranges.items ≡ u.tables.ranges.items → e.tables.pairs.items ≡ u.tables.pairs.items → e.tables.events.items ≡ u.tables.events.items ++ r ∷ []
    → keys_in ev ≡ [] → writes_in ev ≡ [] → ranges_in ev ≡ [] → actor ev ≡ name → named_start ev ≡ None → ((m : ℕ) → m ≢ name → ends m ev ≡ false)
    → ((names : Names) → n < length names.txns → IsWithin names r) → ((names : Names) → txn_at names n ≡ name → event_of names r ≡ ev) → ((names : Names) (h : List Event) → IsMarked names h r) → own_fault (events_of d.tables) (length (events_of d.tables)) ev ≡ None → Takes d e ev (Ok tt)
ends_now d u e name n ev r x y knows acting found row same_name same_start ended fx fk fw fs txns keys writes ranges pairs events no_keys no_writes no_ranges acts_is plain others within spells marked own =
    let w = txn_within u.tables.txns.items n name acting.is in
    let at : slice_get u.tables.txns.items n ≡ Some x = slice_get-get_or u.tables.txns.items n x w ∙ ap Some (sym row) in
    let kept : txn_names e.tables.txns.items ≡ txn_names u.tables.txns.items = ap txn_names txns ∙ map-set_same (λ (z : TxnRow). z.name) u.tables.txns.items n y x (same_name ∙ ap (λ (z : TxnRow). z.name) row) in
    let here : slice_get (names_in e.tables).txns n ≡ Some name = ap (λ (ns : List ℕ). slice_get ns n) kept ∙ acting.is in
    let f = found_pushed u e r found fx fk fw fs kept keys writes ranges pairs events (within (names_in e.tables) (slice_get_within (names_in e.tables).txns n name here)) in
    let grows = grows_step d.tables u.tables e.tables (acts_grows d.tables u.tables name n acting) f.1 in
    let sound = (found_of d knows).sound in
    finishes d e u.tables name n ev r x y knows acting found.sound f.0 grows at same_name same_start ended txns (keys ∙ acting.same.keys) (writes_kept d.tables e.tables sound grows (writes ∙ acting.same.writes)) (ranges_kept d.tables e.tables sound grows (ranges ∙ acting.same.ranges)) no_keys no_writes no_ranges (events ∙ ap (λ (xs : List Row). xs ++ r ∷ []) acting.same.events) acts_is plain others (spells (names_in e.tables) (name_at (names_in e.tables) n name here)) (marked (names_in e.tables) (events_of d.tables)) own

-- a key that has a number
key_grows : (u w : Tables) (k n : ℕ) → HasKey u w k n → Grows u w
key_grows u w k n has = record {
  txns = front_same (txn_names u.txns.items) (txn_names w.txns.items) (ap txn_names has.same.txns);
  keys = subst (IsFront u.keys.items) (sym has.keys) (front_entered u.keys.items k);
  writes = front_same u.writes.items w.writes.items has.same.writes;
  ranges = front_same u.ranges.items w.ranges.items has.same.ranges;
  pairs = front_same u.pairs.items w.pairs.items has.same.pairs;
}

pub acts_key_grows : (t u w : Tables) (name n k kn : ℕ) → Acts t u name n → HasKey u w k kn → Grows t w
acts_key_grows t u w name n k kn acting has = grows_step t u w (acts_grows t u name n acting) (key_grows u w k kn has)

-- what the writes are behind the look-ups of a transaction and a key
pub same_writes : (t u w : Tables) (name n k kn : ℕ) → AreTables t → Acts t u name n → HasKey u w k kn → (names_in w).writes ≡ writes_of (events_of t)
same_writes t u w name n k kn tables acting has = writes_kept t w tables.sound (acts_key_grows t u w name n k kn acting has) (has.same.writes ∙ acting.same.writes) ∙ ap (λ (names : Names). names.writes) tables.names

pub pair_there : (xs : List (ℕ × ℕ)) (n : ℕ) (p : ℕ × ℕ) → slice_get xs n ≡ Some p → list_any (same_pair p) xs ≡ true
pair_there [] n p at = absurd (let e : None ≡ Some p = at in cc)
pair_there (q ∷ xs) zero p at = let e : q ≡ p = same_Some q p at in rw (e, same_true p.0, same_true p.1) refl
pair_there (q ∷ xs) (suc n) p at = rw (pair_there xs n p at) (or-true (same_pair p q))

pub seen_explained : (names : Names) (h : List Event) (k v s : ℕ) → names.writes ≡ writes_of h → IsSeen names k v s → is_explained h (k, v) ≡ true
unfolding is_explained
seen_explained names h k v zero same seen = rw (seen) refl
seen_explained names h k v (suc s) same seen = rw (sym (numbered_writes (k, v) h) ∙ ap (list_any (same_pair (k, v))) (sym same) ∙ pair_there names.writes s (k, v) seen, or-true (v == 0)) refl

pub unseen : (names : Names) (h : List Event) (k v : ℕ) → names.writes ≡ writes_of h → v ≢ 0 → list_any (same_pair (k, v)) names.writes ≡ false → is_explained h (k, v) ≡ false
unfolding is_explained
unseen names h k v same not_zero none = rw (ne_eqb v 0 not_zero, sym (numbered_writes (k, v) h) ∙ ap (list_any (same_pair (k, v))) (sym same) ∙ none) refl

read_fine : (h : List Event) (n t k v : ℕ) → is_explained h (k, v) ≡ true → own_fault h n (Read t k v) ≡ None
unfolding own_fault read_fault
read_fine h n t k v fine = rw (fine) refl

-- a read, as the code takes it in
pub read_now : (d u w e : Draft) (t n k kn v s : ℕ) (r : Row) → Knows d → Acts d.tables u.tables t n → HasKey u.tables w.tables k kn → AreFound w → IsSeen (names_in w.tables) k v s
    → event_of (names_in w.tables) r ≡ Read t k v → IsWithin (names_in w.tables) r → ((h : List Event) → (names_in w.tables).writes ≡ writes_of h → IsMarked (names_in w.tables) h r)
    → e.txns ≡ w.txns → e.keys ≡ w.keys → e.writes ≡ w.writes → e.last_seen.items ≡ w.last_seen.items → names_in e.tables ≡ names_in w.tables → e.tables.txns.items ≡ w.tables.txns.items → e.tables.keys.items ≡ w.tables.keys.items → e.tables.writes.items ≡ w.tables.writes.items → e.tables.ranges.items ≡ w.tables.ranges.items → e.tables.pairs.items ≡ w.tables.pairs.items → e.tables.events.items ≡ w.tables.events.items ++ r ∷ []
    → Takes d e (Read t k v) (Ok tt)
read_now d u w e t n k kn v s r knows acting has found seen spells within marked fx fk fw fs names txns keys writes ranges pairs events =
    let h = events_of d.tables in
    let tables = tables_of d knows in
    let f = found_pushed w e r found fx fk fw fs (ap txn_names txns) keys writes ranges pairs events (rw (names) within) in
    let grows = grows_step d.tables w.tables e.tables (acts_key_grows d.tables u.tables w.tables t n k kn acting has) f.1 in
    let same = same_writes d.tables u.tables w.tables t n k kn tables acting has in
    goes d e u.tables t n (Read t k v) r knows acting f.0 grows (txns ∙ has.same.txns) (keys ∙ has.keys ∙ ap (λ ks. entered same_number ks k) acting.same.keys) (writes_kept d.tables e.tables tables.sound grows (writes ∙ has.same.writes ∙ acting.same.writes)) (ranges_kept d.tables e.tables tables.sound grows (ranges ∙ has.same.ranges ∙ acting.same.ranges) ∙ sym (append-nil (names_in d.tables).ranges))
    (events ∙ ap (λ (xs : List Row). xs ++ r ∷ []) (has.same.events ∙ acting.same.events)) refl refl (λ m. refl) (rw (names) spells) (rw (names) (marked h same)) (read_fine h (length h) t k v (seen_explained (names_in w.tables) h k v s same seen))

read_unfit : (h : List Event) (n t k v : ℕ) → is_explained h (k, v) ≡ false → own_fault h n (Read t k v) ≡ Some NotWritten
unfolding own_fault read_fault
read_unfit h n t k v unfit = rw (unfit) refl

spelled_still : (t u : Tables) → AreSound t → Grows t u → length (names_in u).writes < mark → u.events.items ≡ t.events.items → events_of u ≡ events_of t
spelled_still t u sound grows few same = ap (map (event_of (names_in u))) same ∙ events_same t u sound grows few

-- and one that is refused
pub read_refused : (d u w : Draft) (t n k kn v : ℕ) → Knows d → Acts d.tables u.tables t n → HasKey u.tables w.tables k kn → AreFound w → v ≢ 0 → list_any (same_pair (k, v)) (names_in w.tables).writes ≡ false → Takes d w (Read t k v) (Err (refusals.Bad NotWritten))
unfolding Takes
read_refused d u w t n k kn v knows acting has found not_zero none =
    let h = events_of d.tables in
    let tables = tables_of d knows in
    (own_reason h (length h) (Read t k v) NotWritten acting.going (read_unfit h (length h) t k v (unseen (names_in w.tables) h k v (same_writes d.tables u.tables w.tables t n k kn tables acting has) not_zero none)), spelled_still d.tables w.tables tables.sound (acts_key_grows d.tables u.tables w.tables t n k kn acting has) (few_writes w.tables found.sound.short.writes) (has.same.events ∙ acting.same.events))

pub version_seen : (names : Names) (k v s : ℕ) → IsSeen names k v s → version_at names s ≡ v
version_seen names k v s seen = grind (arith, get_or_from_slice_get)

pub own_read : (names : Names) (d kd s t k v : ℕ) → slice_get names.txns d ≡ Some t → slice_get names.keys kd ≡ Some k → IsSeen names k v s → list_any (same_pair (k, t)) names.writes ≡ true → IsReadRow names t k v (rows.OwnRead d kd s)
own_read names d kd s t k v is_txn is_key seen own = grind (arith, get_or_from_slice_get, version_seen, slice_get_within)

pub first_read : (names : Names) (d kd s t k v w : ℕ) → slice_get names.txns d ≡ Some t → slice_get names.keys kd ≡ Some k → IsSeen names k v s → w ≡ 0 → IsWriteOr names (k, t) w → IsReadRow names t k v (rows.Read d kd s)
first_read names d kd s t k v w is_txn is_key seen none new =
    let txn : txn_at names d ≡ t = get_or_from_slice_get names.txns d t 0 is_txn in
    let key : key_at names kd ≡ k = get_or_from_slice_get names.keys kd k 0 is_key in
    let version = version_seen names k v s seen in
    record {
      spells = rw (txn, key, version) refl;
      within = (slice_get_within names.txns d t is_txn, slice_get_within names.keys kd k is_key, rw (key, version) seen);
      marked = λ h same. rw (txn, key, ← same) (rw none at new);
    }

pub write_there : (names : Names) (p : ℕ × ℕ) (w : ℕ) → w ≢ 0 → IsWriteOr names p w → list_any (same_pair p) names.writes ≡ true
write_there names p w some is = grind (arith, pair_there)

write_fine : (h : List Event) (n t k : ℕ) → own_fault h n (Write t k) ≡ None
unfolding own_fault
write_fine h n t k = refl

match_start : (named : Option ℕ) (start n : ℕ) → MatchOption named (start ≡ n) (λ s. (start ≡ s) × (s ≤ n)) → MatchOption named (start ≡ n) (λ s. start ≡ s)
match_start named start n at = grind (arith)

early : (named : Option ℕ) (start n : ℕ) → MatchOption named (start ≡ n) (λ s. (start ≡ s) × (s ≤ n)) → MatchOption named ⊤ (λ s. s ≤ n)
early named start n at = grind (arith)

begin_fine : (h : List Event) (n t : ℕ) (named : Option ℕ) → list_any (acts t) h ≡ false → MatchOption named ⊤ (λ s. s ≤ n) → own_fault h n (Begin t named) ≡ None
unfolding own_fault
begin_fine h n t named none at = grind (arith)

-- the number of a first write
pub has_write : (t : Tables) (p : ℕ × ℕ) (w : ℕ) → w ≢ 0 → IsWriteOr (names_in t) p w → HasWrite t t p w
has_write t p zero some is = absurd (some refl)
has_write t p (suc w) some is = record {
  same = record {
    txns = refl;
    keys = refl;
    ranges = refl;
    pairs = refl;
    events = refl;
  };
  above = omega arith;
  is = (let e : w ≡ suc w - 1 = omega arith in subst (λ i. slice_get (names_in t).writes i ≡ Some p) e is);
  more = [];
  rows = sym (append-nil t.writes.items);
  names = rw (pair_there (names_in t).writes w p is) refl;
}

pub new_has_write : (t u : Tables) (d kd x k w : ℕ) → SameButWrites t u → u.writes.items ≡ t.writes.items ++ new_write d kd ∷ [] → slice_get (txn_names t.txns.items) d ≡ Some x → slice_get t.keys.items kd ≡ Some k → w ≡ length t.writes.items + 1 → list_any (same_pair (k, x)) (names_in t).writes ≡ false → HasWrite t u (k, x) w
new_has_write t u d kd x k w same rows_are is_txn is_key number none = grind (arith, map-append, get_or_from_slice_get, length-map, last_there)

write_grows : (t u : Tables) (p : ℕ × ℕ) (w : ℕ) → HasWrite t u p w → Grows t u
write_grows t u p w has = record {
  txns = front_same (txn_names t.txns.items) (txn_names u.txns.items) (ap txn_names has.same.txns);
  keys = front_same t.keys.items u.keys.items has.same.keys;
  writes = (has.more, has.rows);
  ranges = front_same t.ranges.items u.ranges.items has.same.ranges;
  pairs = front_same t.pairs.items u.pairs.items has.same.pairs;
}

-- a write, as the code takes it in
pub write_now : (d u w x e : Draft) (t n k kn m : ℕ) → Knows d → Acts d.tables u.tables t n → HasKey u.tables w.tables k kn → HasWrite w.tables x.tables (k, t) m → AreFound x
    → e.txns ≡ x.txns → e.keys ≡ x.keys → e.writes ≡ x.writes → e.last_seen.items ≡ x.last_seen.items → names_in e.tables ≡ names_in x.tables → e.tables.txns.items ≡ x.tables.txns.items → e.tables.keys.items ≡ x.tables.keys.items → e.tables.writes.items ≡ x.tables.writes.items → e.tables.ranges.items ≡ x.tables.ranges.items → e.tables.pairs.items ≡ x.tables.pairs.items → e.tables.events.items ≡ x.tables.events.items ++ rows.Write n kn m ∷ []
    → Takes d e (Write t k) (Ok tt)
write_now d u w x e t n k kn m knows acting has made found fx fk fw fs names txns keys writes ranges pairs events =
    let h = events_of d.tables in
    let tables = tables_of d knows in
    let is_txn : slice_get (names_in e.tables).txns n ≡ Some t = ap (λ (xs : List TxnRow). slice_get (txn_names xs) n) (txns ∙ made.same.txns ∙ has.same.txns) ∙ acting.is in
    let is_key : slice_get (names_in e.tables).keys kn ≡ Some k = ap (λ (xs : List ℕ). slice_get xs kn) (keys ∙ made.same.keys) ∙ has.is in
    let txn : txn_at (names_in e.tables) n ≡ t = get_or_from_slice_get (names_in e.tables).txns n t 0 is_txn in
    let key : key_at (names_in e.tables) kn ≡ k = get_or_from_slice_get (names_in e.tables).keys kn k 0 is_key in
    let there : slice_get (names_in e.tables).writes (m - 1) ≡ Some (k, t) = ap (λ (ns : Names). slice_get ns.writes (m - 1)) names ∙ made.is in
    let f = found_pushed x e (rows.Write n kn m) found fx fk fw fs (ap txn_names txns) keys writes ranges pairs events (slice_get_within (names_in e.tables).txns n t is_txn, slice_get_within (names_in e.tables).keys kn k is_key, (made.above, rw (key, txn) there)) in
    let before = acts_key_grows d.tables u.tables w.tables t n k kn acting has in
    let grows = grows_step d.tables x.tables e.tables (grows_step d.tables w.tables x.tables before (write_grows w.tables x.tables (k, t) m made)) f.1 in
    let kept = writes_kept d.tables w.tables tables.sound before (has.same.writes ∙ acting.same.writes) in
    goes d e u.tables t n (Write t k) (rows.Write n kn m) knows acting f.0 grows (txns ∙ made.same.txns ∙ has.same.txns) (keys ∙ made.same.keys ∙ has.keys ∙ ap (λ ks. entered same_number ks k) acting.same.keys) (ap (λ (ns : Names). ns.writes) names ∙ made.names ∙ ap (λ ps. entered same_pair ps (k, t)) kept) (ranges_kept d.tables e.tables tables.sound grows (ranges ∙ made.same.ranges ∙ has.same.ranges ∙ acting.same.ranges) ∙ sym (append-nil (names_in d.tables).ranges))
    (events ∙ ap (λ (xs : List Row). xs ++ rows.Write n kn m ∷ []) (made.same.events ∙ has.same.events ∙ acting.same.events)) refl refl (λ i. refl) (rw (txn, key) refl) tt (write_fine h (length h) t k)

-- a begin, as the code takes it in
pub begin_now : (d u e : Draft) (t n start : ℕ) (named : Option ℕ) → Knows d → IsNew (txn_names d.tables.txns.items) t → SameButTxns d.tables u.tables → u.tables.txns.items ≡ d.tables.txns.items ++ new_txn t start ∷ [] → slice_get (txn_names u.tables.txns.items) n ≡ Some t → AreFound u → MatchOption named (start ≡ length (events_of d.tables)) (λ s. (start ≡ s) × (s ≤ length (events_of d.tables)))
    → e.txns ≡ u.txns → e.keys ≡ u.keys → e.writes ≡ u.writes → e.last_seen.items ≡ u.last_seen.items → names_in e.tables ≡ names_in u.tables → e.tables.txns.items ≡ u.tables.txns.items → e.tables.keys.items ≡ u.tables.keys.items → e.tables.writes.items ≡ u.tables.writes.items → e.tables.ranges.items ≡ u.tables.ranges.items → e.tables.pairs.items ≡ u.tables.pairs.items → e.tables.events.items ≡ u.tables.events.items ++ rows.Begin n named ∷ []
    → Takes d e (Begin t named) (Ok tt)
unfolding Takes
begin_now d u e t n start named knows new same rows_are is found at fx fk fw fs names txns keys writes ranges pairs events =
    let h = events_of d.tables in
    let ev = Begin t named in
    let tables = tables_of d knows in
    let is_txn : slice_get (names_in e.tables).txns n ≡ Some t = ap (λ (xs : List TxnRow). slice_get (txn_names xs) n) txns ∙ is in
    let more : txn_names e.tables.txns.items ≡ txn_names d.tables.txns.items ++ t ∷ [] = ap txn_names (txns ∙ rows_are) ∙ map-append (λ (x : TxnRow). x.name) d.tables.txns.items (new_txn t start ∷ []) in
    let f = found_pushed u e (rows.Begin n named) found fx fk fw fs (ap txn_names txns) keys writes ranges pairs events (slice_get_within (names_in e.tables).txns n t is_txn) in
    let grows = grows_step d.tables u.tables e.tables (record {
      txns = (t ∷ [], sym (ap txn_names txns) ∙ more);
      keys = front_same d.tables.keys.items u.tables.keys.items same.keys;
      writes = front_same d.tables.writes.items u.tables.writes.items same.writes;
      ranges = front_same d.tables.ranges.items u.tables.ranges.items same.ranges;
      pairs = front_same d.tables.pairs.items u.tables.pairs.items same.pairs;
    }) f.1 in
    let none = new_acts d.tables t tables new in
    let old = all_more (Lives h) (Lives (h ++ ev ∷ [])) d.tables.txns.items (λ x lives. lives_more h ev x refl lives) tables.lives in
    let lives = subst (All (Lives (h ++ ev ∷ []))) (sym (txns ∙ rows_are)) (All-push (Lives (h ++ ev ∷ [])) d.tables.txns.items (new_txn t start) old (lives_new h ev t start refl none refl (match_start named start (length h) at))) in
    let s = settled d e ev (rows.Begin n named) knows f.0 grows (events ∙ ap (λ (xs : List Row). xs ++ rows.Begin n named ∷ []) same.events)
    (names_step d.tables e.tables ev tables (more ∙ sym (entered_new (txn_names d.tables.txns.items) t new)) (keys ∙ same.keys) (writes_kept d.tables e.tables tables.sound grows (writes ∙ same.writes)) (ranges_kept d.tables e.tables tables.sound grows (ranges ∙ same.ranges) ∙ sym (append-nil (names_in d.tables).ranges)))
    (ap (λ x. Begin x named) (get_or_from_slice_get (names_in e.tables).txns n t 0 is_txn)) lives tt in
    (no_fault h (length h) ev (none_ends t h none) (begin_fine h (length h) t named none (early named start (length h) at)), s.0, s.1)

-- which start a begin takes
pub begin_at : (named : Option ℕ) (start count n : ℕ) → start ≡ unwrap_or named count → count ≡ n → ¬ (count < start) → MatchOption named (start ≡ n) (λ s. (start ≡ s) × (s ≤ n))
begin_at named start count n is same low = grind (arith)

pub there_acts : (t : Tables) (n name : ℕ) → AreTables t → slice_get (txn_names t.txns.items) n ≡ Some name → list_any (acts name) (events_of t) ≡ true
there_acts t n name tables at = sym (numbered_acts name (events_of t)) ∙ ap (λ (names : Names). list_any (same_number name) names.txns) (sym tables.names) ∙ there_some (txn_names t.txns.items) n name at

begun : (h : List Event) (n t : ℕ) (named : Option ℕ) → list_any (acts t) h ≡ true → own_fault h n (Begin t named) ≡ Some AlreadyBegun
unfolding own_fault
begun h n t named some = grind (arith)

late : (h : List Event) (n t start : ℕ) (named : Option ℕ) → list_any (acts t) h ≡ false → start ≡ unwrap_or named n → n < start → own_fault h n (Begin t named) ≡ Some BadStart
unfolding own_fault
late h n t start named none is over = grind (arith)

pub begun_refused : (d e : Draft) (t n : ℕ) (named : Option ℕ) → Knows d → e.tables ≡ d.tables → slice_get (txn_names d.tables.txns.items) n ≡ Some t → list_any (ends t) (events_of d.tables) ≡ false → Takes d e (Begin t named) (Err (refusals.Bad AlreadyBegun))
unfolding Takes
begun_refused d e t n named knows same at going = (own_reason (events_of d.tables) (length (events_of d.tables)) (Begin t named) AlreadyBegun going (begun (events_of d.tables) (length (events_of d.tables)) t named (there_acts d.tables n t (tables_of d knows) at)), ap events_of same)

pub ended_refused : (d e : Draft) (t : ℕ) (named : Option ℕ) → e.tables ≡ d.tables → list_any (ends t) (events_of d.tables) ≡ true → Takes d e (Begin t named) (Err (refusals.Bad AlreadyEnded))
unfolding Takes
ended_refused d e t named same ended = (fault_by (events_of d.tables) (length (events_of d.tables)) (Begin t named) true ended, ap events_of same)

pub late_refused : (d e : Draft) (t start count : ℕ) (named : Option ℕ) → Knows d → e.tables ≡ d.tables → IsNew (txn_names d.tables.txns.items) t → count ≡ length (events_of d.tables) → start ≡ unwrap_or named count → count < start → Takes d e (Begin t named) (Err (refusals.Bad BadStart))
unfolding Takes
late_refused d e t start count named knows same new is taken over =
    let h = events_of d.tables in
    let none = new_acts d.tables t (tables_of d knows) new in
    (own_reason h (length h) (Begin t named) BadStart (none_ends t h none) (late h (length h) t start named none (taken ∙ ap (unwrap_or named) is) (let e2 : count ≡ length h = is in omega arith)), ap events_of same)

seen_is : (names : Names) (k v s : ℕ) → IsSeen names k v s → is_seen names.writes (k, v) ≡ true
seen_is names k v s seen = grind (arith, pair_there, or-true)

seen_pair : (names : Names) (k v s kn p : ℕ) → IsSeen names k v s → slice_get names.keys kn ≡ Some k → length names.writes < mark → (0 < s → p ≡ s) → (s ≡ 0 → p ≡ mark + kn) → pair_at names p ≡ (k, v)
unfolding pair_at
seen_pair names k v s kn p seen key few some none = grind (arith, get_or_from_slice_get, slice_get_within)

seen_is_pair : (names : Names) (k v s kn p : ℕ) → IsSeen names k v s → slice_get names.keys kn ≡ Some k → length names.writes < mark → (0 < s → p ≡ s) → (s ≡ 0 → p ≡ mark + kn) → IsPair names p
seen_is_pair names k v s kn p seen key few some none = grind (arith, slice_get_within)

-- one listed pair more
pub pair_pushed : (t w e : Draft) (k v p : ℕ) → AreFound t → HasPair t.tables w.tables k v p → AreFound w → length w.tables.pairs.items < 2147483648
    → e.txns ≡ w.txns → e.keys ≡ w.keys → e.writes ≡ w.writes → e.last_seen.items ≡ w.last_seen.items → e.tables.txns.items ≡ w.tables.txns.items → e.tables.keys.items ≡ w.tables.keys.items → e.tables.writes.items ≡ w.tables.writes.items → e.tables.ranges.items ≡ w.tables.ranges.items → e.tables.events.items ≡ w.tables.events.items → e.tables.pairs.items ≡ w.tables.pairs.items ++ p ∷ []
    → AreFound e × ListsOne t.tables e.tables k v
pair_pushed t w e k v p found_t is found room fx fk fw fs txns keys writes ranges events pairs =
    let few = few_writes w.tables found.sound.short.writes in
    let is_pair = seen_is_pair (names_in w.tables) k v is.write is.number p is.seen is.has.is few is.some is.none in
    let g = pair_grown w.tables e.tables p found.sound txns keys writes ranges events pairs room is_pair in
    let few_e = few_writes e.tables g.0.short.writes in
    let same = writes_kept t.tables w.tables found_t.sound (key_grows t.tables w.tables k is.number is.has) is.has.same.writes in (
      found_same w e found g fx fk fw fs (ap txn_names txns) keys writes,
      record {
        txns = txns ∙ is.has.same.txns;
        keys = keys ∙ is.has.keys;
        writes = writes ∙ is.has.same.writes;
        ranges = ranges ∙ is.has.same.ranges;
        events = events ∙ is.has.same.events;
        pair = p;
        pairs = pairs ∙ ap (λ (ps : List ℕ). ps ++ p ∷ []) is.has.same.pairs;
        is = pair_same (names_in w.tables) (names_in e.tables) (extends w.tables e.tables found.sound g.1 few_e) p is_pair ∙ seen_pair (names_in w.tables) k v is.write is.number p is.seen is.has.is few is.some is.none;
        seen = ap (λ (ws : List (ℕ × ℕ)). is_seen ws (k, v)) (sym same) ∙ seen_is (names_in w.tables) k v is.write is.seen;
      },
    )

pub pair_refused : (t w e : Draft) (k v kn : ℕ) → AreFound t → HasKey t.tables w.tables k kn → AreFound w → e.tables ≡ w.tables → v ≢ 0 → list_any (same_pair (k, v)) (names_in w.tables).writes ≡ false → StopsAtPair t e k v (refusals.Bad NotWritten)
pair_refused t w e k v kn found_t has found same not_zero none =
    let grows = key_grows t.tables w.tables k kn has in
    let kept = writes_kept t.tables w.tables found_t.sound grows has.same.writes in
    (refl, rw (ne_eqb v 0 not_zero) (ap (list_any (same_pair (k, v))) (sym kept) ∙ none), ap events_of same ∙ spelled_still t.tables w.tables found_t.sound grows (few_writes w.tables found.sound.short.writes) has.same.events)

front_fold : (xs ys : List ℕ) → IsFront xs (fold (entered same_number) xs ys)
front_fold xs [] = front_same xs xs refl
front_fold xs (y ∷ ys) = front_step xs (entered same_number xs y) (fold (entered same_number) (entered same_number xs y) ys) (front_entered xs y) (front_fold (entered same_number xs y) ys)

one_grows : (t u : Tables) (k v : ℕ) → ListsOne t u k v → Grows t u
one_grows t u k v one = record {
  txns = front_same (txn_names t.txns.items) (txn_names u.txns.items) (ap txn_names one.txns);
  keys = subst (IsFront t.keys.items) (sym one.keys) (front_entered t.keys.items k);
  writes = front_same t.writes.items u.writes.items one.writes;
  ranges = front_same t.ranges.items u.ranges.items one.ranges;
  pairs = (one.pair ∷ [], one.pairs);
}

pub lists_grows : (t u : Tables) (listed : List (ℕ × ℕ)) → Lists t u listed → Grows t u
lists_grows t u listed lists = record {
  txns = front_same (txn_names t.txns.items) (txn_names u.txns.items) (ap txn_names lists.txns);
  keys = subst (IsFront t.keys.items) (sym lists.keys) (front_fold t.keys.items (map (λ p. p.0) listed));
  writes = front_same t.writes.items u.writes.items lists.writes;
  ranges = front_same t.ranges.items u.ranges.items lists.ranges;
  pairs = (lists.more, lists.pairs);
}

pub lists_more : (t u w : Tables) (listed all : List (ℕ × ℕ)) (k v : ℕ) → AreSound t → AreSound u → AreSound w → Lists t u listed → ListsOne u w k v → all ≡ listed ++ (k, v) ∷ [] → Lists t w all
lists_more t u w listed all k v sound_t sound_u sound_w lists one is = subst (Lists t w) (sym is) (record {
  txns = one.txns ∙ lists.txns;
  keys = one.keys ∙ ap (λ ks. entered same_number ks k) lists.keys ∙ sym (fold-append (entered same_number) t.keys.items (map (λ p. p.0) listed) (k ∷ [])) ∙ ap (fold (entered same_number) t.keys.items) (sym (map-append (λ p. p.0) listed ((k, v) ∷ [])));
  writes = one.writes ∙ lists.writes;
  ranges = one.ranges ∙ lists.ranges;
  events = one.events ∙ lists.events;
  more = lists.more ++ one.pair ∷ [];
  pairs = one.pairs ∙ ap (λ (ps : List ℕ). ps ++ one.pair ∷ []) lists.pairs ∙ append_assoc t.pairs.items lists.more (one.pair ∷ []);
  are = map-append (pair_at (names_in w)) lists.more (one.pair ∷ []) ∙ ap₂ (λ xs x. xs ++ x ∷ []) (map_same (pair_at (names_in w)) (pair_at (names_in u)) (IsPair (names_in u)) lists.more (pair_same (names_in u) (names_in w) (extends u w sound_u (one_grows u w k v one) (few_writes w sound_w.short.writes))) (subst (All (IsPair (names_in u))) (ap (drop (length t.pairs.items)) lists.pairs ∙ drop-append_seam t.pairs.items lists.more) (All-drop (IsPair (names_in u)) (length t.pairs.items) u.pairs.items sound_u.pairs)) ∙ lists.are) one.is;
  seen = list_all-append (is_seen (names_in t).writes) listed ((k, v) ∷ []) ∙ both (list_all (is_seen (names_in t).writes) listed) (is_seen (names_in t).writes (k, v)) lists.seen (ap (λ (ws : List (ℕ × ℕ)). is_seen ws (k, v)) (sym (writes_kept t u sound_t (lists_grows t u listed lists) lists.writes)) ∙ one.seen);
}) where
  both : (a b : Bool) → a ≡ true → b ≡ true → (a && (b && true)) ≡ true
  both a b p q = rw (p, q) refl

pub lists_refused : (t u w : Draft) (front all back : List (ℕ × ℕ)) (k v : ℕ) (f : Refusal) → AreSound t.tables → AreFound u → Lists t.tables u.tables front → StopsAtPair u w k v f → all ≡ front ++ (k, v) ∷ back → StopsListing t w all f
lists_refused t u w front all back k v refusals.NoMemory sound found lists stops_at is = tt
lists_refused t u w front all back k v (refusals.Bad r) sound found lists stops_at is =
    let grows = lists_grows t.tables u.tables front lists in
    (stops_at.0, ap (list_all (is_seen (names_in t.tables).writes)) is ∙ list_all-append (is_seen (names_in t.tables).writes) front ((k, v) ∷ back) ∙ neither (list_all (is_seen (names_in t.tables).writes) front) (is_seen (names_in t.tables).writes (k, v)) (list_all (is_seen (names_in t.tables).writes) back) (ap (λ (ws : List (ℕ × ℕ)). is_seen ws (k, v)) (sym (writes_kept t.tables u.tables sound grows lists.writes)) ∙ stops_at.1), stops_at.2 ∙ spelled_still t.tables u.tables sound grows (few_writes u.tables found.sound.short.writes) lists.events) where
      neither : (a b c : Bool) → b ≡ false → (a && (b && c)) ≡ false
      neither true b c e = rw (e) refl
      neither false b c e = refl

pub one_there : {A : Type 0} (y : A) (xs : List A) (i : ℕ) → i < length xs → xs ≡ take i xs ++ get_or xs i y ∷ drop (i + 1) xs
one_there y [] i less = absurd (omega arith)
one_there y (x ∷ xs) zero less = refl
one_there y (x ∷ xs) (suc i) less = let e : suc (i + 1) ≡ suc i + 1 = omega arith in ap (λ ys. x ∷ ys) (one_there y xs i (omega arith)) ∙ ap (λ j. x ∷ (take i xs ++ get_or xs i y ∷ drop j (x ∷ xs))) e

explained_seen : (h : List Event) (listed : List (ℕ × ℕ)) → list_all (is_explained h) listed ≡ list_all (is_seen (writes_of h)) listed
unfolding is_explained
explained_seen h [] = refl
explained_seen h (p ∷ ps) = ap₂ (λ a b. ((p.1 == 0) || a) && b) (sym (numbered_writes p h)) (explained_seen h ps)

range_fine : (h : List Event) (n t lo hi : ℕ) (listed : List (ℕ × ℕ)) → lo ≤ hi → goes_up lo hi listed ≡ true → list_all (is_seen (writes_of h)) listed ≡ true → own_fault h n (Range t lo hi listed) ≡ None
unfolding own_fault range_fault
range_fine h n t lo hi listed order good seen = let low : nat_lt hi lo ≡ false = grind (arith, nat_tests) in rw (low, good, explained_seen h listed, seen) refl

range_empty : (h : List Event) (n t lo hi : ℕ) (listed : List (ℕ × ℕ)) → hi < lo → own_fault h n (Range t lo hi listed) ≡ Some EmptyRange
unfolding own_fault range_fault
range_empty h n t lo hi listed order = let high : nat_lt hi lo ≡ true = grind (arith, nat_tests) in rw (high) refl

range_bad : (h : List Event) (n t lo hi : ℕ) (listed : List (ℕ × ℕ)) → lo ≤ hi → goes_up lo hi listed ≡ false → own_fault h n (Range t lo hi listed) ≡ Some BadList
unfolding own_fault range_fault
range_bad h n t lo hi listed order bad = let low : nat_lt hi lo ≡ false = grind (arith, nat_tests) in rw (low, bad) refl

range_unseen : (h : List Event) (n t lo hi : ℕ) (listed : List (ℕ × ℕ)) → lo ≤ hi → goes_up lo hi listed ≡ true → list_all (is_seen (writes_of h)) listed ≡ false → own_fault h n (Range t lo hi listed) ≡ Some NotWritten
unfolding own_fault range_fault
range_unseen h n t lo hi listed order good unseen_one = let low : nat_lt hi lo ≡ false = grind (arith, nat_tests) in rw (low, good, explained_seen h listed, unseen_one) refl

acts_spelled : (d u : Draft) (t n : ℕ) → Knows d → Acts d.tables u.tables t n → AreFound u → events_of u.tables ≡ events_of d.tables
acts_spelled d u t n knows acting found = spelled_still d.tables u.tables (found_of d knows).sound (acts_grows d.tables u.tables t n acting) (few_writes u.tables found.sound.short.writes) acting.same.events

pub range_refused : (d u : Draft) (t n lo hi : ℕ) (listed : List (ℕ × ℕ)) (r : Reason) → Knows d → Acts d.tables u.tables t n → AreFound u → own_fault (events_of d.tables) (length (events_of d.tables)) (Range t lo hi listed) ≡ Some r → Takes d u (Range t lo hi listed) (Err (refusals.Bad r))
unfolding Takes
range_refused d u t n lo hi listed r knows acting found own = (own_reason (events_of d.tables) (length (events_of d.tables)) (Range t lo hi listed) r acting.going own, acts_spelled d u t n knows acting found)

pub empty_refused : (d u : Draft) (t n lo hi : ℕ) (listed : List (ℕ × ℕ)) → Knows d → Acts d.tables u.tables t n → AreFound u → hi < lo → Takes d u (Range t lo hi listed) (Err (refusals.Bad EmptyRange))
empty_refused d u t n lo hi listed knows acting found order = range_refused d u t n lo hi listed EmptyRange knows acting found (range_empty (events_of d.tables) (length (events_of d.tables)) t lo hi listed order)

pub bad_refused : (d u : Draft) (t n lo hi : ℕ) (listed : List (ℕ × ℕ)) → Knows d → Acts d.tables u.tables t n → AreFound u → lo ≤ hi → goes_up lo hi listed ≡ false → Takes d u (Range t lo hi listed) (Err (refusals.Bad BadList))
bad_refused d u t n lo hi listed knows acting found order bad = range_refused d u t n lo hi listed BadList knows acting found (range_bad (events_of d.tables) (length (events_of d.tables)) t lo hi listed order bad)

acts_writes : (d u : Draft) (t n : ℕ) → Knows d → Acts d.tables u.tables t n → (names_in u.tables).writes ≡ writes_of (events_of d.tables)
acts_writes d u t n knows acting = writes_kept d.tables u.tables (found_of d knows).sound (acts_grows d.tables u.tables t n acting) acting.same.writes ∙ ap (λ (ns : Names). ns.writes) (tables_of d knows).names

pub list_refused : (d u w : Draft) (t n lo hi : ℕ) (listed : List (ℕ × ℕ)) (f : Refusal) → Knows d → Acts d.tables u.tables t n → AreFound u → lo ≤ hi → goes_up lo hi listed ≡ true → StopsListing u w listed f → Takes d w (Range t lo hi listed) (Err f)
unfolding Takes
list_refused d u w t n lo hi listed refusals.NoMemory knows acting found order good stopped = tt
list_refused d u w t n lo hi listed (refusals.Bad r) knows acting found order good stopped =
    let h = events_of d.tables in
    (own_reason h (length h) (Range t lo hi listed) r acting.going (range_unseen h (length h) t lo hi listed order good (ap (λ ws. list_all (is_seen ws) listed) (sym (acts_writes d u t n knows acting)) ∙ stopped.1) ∙ ap Some (sym stopped.0)), stopped.2 ∙ acts_spelled d u t n knows acting found)

-- the range that is spelled by the pairs of its list
listed_range : (u w : Tables) (r : RangeRow) (listed : List (ℕ × ℕ)) → Lists u w listed → r.from ≡ length u.pairs.items → r.to ≡ length w.pairs.items → range_of (names_but_ranges w.txns.items w.keys.items w.writes.items) w.pairs.items r ≡ (r.lo, r.hi, listed)
unfolding pair_at
listed_range u w r listed lists from to = grind (arith, length-append, drop-append_seam, take_all)

ranges_named : (t u w e : Tables) (r : RangeRow) (lo hi : ℕ) (listed : List (ℕ × ℕ)) → AreSound t → Grows t w → w.ranges.items ≡ t.ranges.items → Lists u w listed → r.lo ≡ lo → r.hi ≡ hi → r.from ≡ length u.pairs.items → r.to ≡ length w.pairs.items
    → e.txns.items ≡ w.txns.items → e.keys.items ≡ w.keys.items → e.writes.items ≡ w.writes.items → e.pairs.items ≡ w.pairs.items → e.ranges.items ≡ w.ranges.items ++ r ∷ [] → (names_in e).ranges ≡ (names_in t).ranges ++ (lo, hi, listed) ∷ []
ranges_named t u w e r lo hi listed sound grows same lists lo_is hi_is from to txns keys writes pairs ranges =
    ap (λ (ts : List TxnRow). map (range_of (names_but_ranges ts e.keys.items e.writes.items) e.pairs.items) e.ranges.items) txns
    ∙ ap (λ (ks : List ℕ). map (range_of (names_but_ranges w.txns.items ks e.writes.items) e.pairs.items) e.ranges.items) keys
    ∙ ap (λ (ws : List WriteRow). map (range_of (names_but_ranges w.txns.items w.keys.items ws) e.pairs.items) e.ranges.items) writes
    ∙ ap (λ (ps : List ℕ). map (range_of (names_but_ranges w.txns.items w.keys.items w.writes.items) ps) e.ranges.items) pairs
    ∙ ap (map (range_of (names_but_ranges w.txns.items w.keys.items w.writes.items) w.pairs.items)) ranges
    ∙ map-append (range_of (names_but_ranges w.txns.items w.keys.items w.writes.items) w.pairs.items) w.ranges.items (r ∷ [])
    ∙ ap₂ (λ (xs : List (ℕ × ℕ × List (ℕ × ℕ))) (x : ℕ × ℕ × List (ℕ × ℕ)). xs ++ x ∷ []) (ranges_kept t w sound grows same) (listed_range u w r listed lists from to ∙ ap₂ (λ a b. (a, b, listed)) lo_is hi_is)

-- a range, as the code takes it in
pub range_now : (d u w e : Draft) (t n lo hi : ℕ) (listed : List (ℕ × ℕ)) (r : RangeRow) (number writes_before : ℕ) → Knows d → Acts d.tables u.tables t n → AreFound u → lo ≤ hi → goes_up lo hi listed ≡ true → Lists u.tables w.tables listed → AreFound w
    → r.lo ≡ lo → r.hi ≡ hi → r.from ≡ length u.tables.pairs.items → r.to ≡ length w.tables.pairs.items → number ≡ length w.tables.ranges.items → number < 536870912 → writes_before ≡ length w.tables.writes.items
    → e.txns ≡ w.txns → e.keys ≡ w.keys → e.writes ≡ w.writes → e.last_seen.items ≡ w.last_seen.items → e.tables.txns.items ≡ w.tables.txns.items → e.tables.keys.items ≡ w.tables.keys.items → e.tables.writes.items ≡ w.tables.writes.items → e.tables.pairs.items ≡ w.tables.pairs.items → e.tables.ranges.items ≡ w.tables.ranges.items ++ r ∷ [] → e.tables.events.items ≡ w.tables.events.items ++ rows.Range n number writes_before ∷ []
    → Takes d e (Range t lo hi listed) (Ok tt)
range_now d u w e t n lo hi listed r number writes_before knows acting found_u order good lists found lo_is hi_is from to number_is few counted fx fk fw fs txns keys writes pairs ranges events =
    let h = events_of d.tables in
    let tables = tables_of d knows in
    let x : Draft = record { tables = record { txns = w.tables.txns; keys = w.tables.keys; writes = w.tables.writes; ranges = e.tables.ranges; pairs = w.tables.pairs; events = w.tables.events }; txns = w.txns; keys = w.keys; writes = w.writes; last_seen = w.last_seen } in
    let long : length w.tables.pairs.items ≡ length u.tables.pairs.items + length lists.more = ap length lists.pairs ∙ length-append u.tables.pairs.items lists.more in
    let g = range_grown w.tables x.tables r found.sound refl refl refl refl refl ranges (omega arith) (omega arith, omega arith) in
    let found_x : AreFound x = found_more w x found g found.txns found.keys found.writes found.long refl refl in
    let is_txn : slice_get (names_in e.tables).txns n ≡ Some t = ap (λ (xs : List TxnRow). slice_get (txn_names xs) n) (txns ∙ lists.txns) ∙ acting.is in
    let count : length (names_in e.tables).ranges ≡ length w.tables.ranges.items + 1 = length-map e.tables.ranges.items (range_of (names_but_ranges e.tables.txns.items e.tables.keys.items e.tables.writes.items) e.tables.pairs.items) ∙ ap length ranges ∙ length-append w.tables.ranges.items (r ∷ []) in
    let f = found_pushed x e (rows.Range n number writes_before) found_x fx fk fw fs (ap txn_names txns) keys writes refl pairs events (slice_get_within (names_in e.tables).txns n t is_txn, omega arith) in
    let before = grows_step d.tables u.tables w.tables (acts_grows d.tables u.tables t n acting) (lists_grows u.tables w.tables listed lists) in
    let grows = grows_step d.tables x.tables e.tables (grows_step d.tables w.tables x.tables before g.1) f.1 in
    let same = writes_kept d.tables w.tables tables.sound before (lists.writes ∙ acting.same.writes) ∙ ap (λ (ns : Names). ns.writes) tables.names in
    let named = ranges_named d.tables u.tables w.tables e.tables r lo hi listed tables.sound before (lists.ranges ∙ acting.same.ranges) lists lo_is hi_is from to txns keys writes pairs ranges in
    let count_writes : writes_before ≡ length (writes_of h) = counted ∙ sym (length-map w.tables.writes.items (λ (y : WriteRow). (get_or w.tables.keys.items y.key 0, get_or (txn_names w.tables.txns.items) y.txn 0))) ∙ ap length same in
    let spelled : range_at (names_in e.tables) number ≡ (lo, hi, listed) = ap₂ (λ (xs : List (ℕ × ℕ × List (ℕ × ℕ))) (i : ℕ). get_or xs i (0, 0, [])) named (number_is ∙ ap length (lists.ranges ∙ acting.same.ranges) ∙ sym (length-map d.tables.ranges.items (range_of (names_but_ranges d.tables.txns.items d.tables.keys.items d.tables.writes.items) d.tables.pairs.items))) ∙ get_or-append_seam (names_in d.tables).ranges (lo, hi, listed) [] (0, 0, []) in
    goes d e u.tables t n (Range t lo hi listed) (rows.Range n number writes_before) knows acting f.0 grows (txns ∙ lists.txns) (keys ∙ lists.keys ∙ ap (λ ks. fold (entered same_number) ks (map (λ p. p.0) listed)) acting.same.keys) (writes_kept d.tables e.tables tables.sound grows (writes ∙ lists.writes ∙ acting.same.writes)) named
    (events ∙ ap (λ (xs : List Row). xs ++ rows.Range n number writes_before ∷ []) (lists.events ∙ acting.same.events)) refl refl (λ i. refl) (rw (get_or_from_slice_get (names_in e.tables).txns n t 0 is_txn, spelled) refl) count_writes (range_fine h (length h) t lo hi listed order good (ap (λ ws. list_all (is_seen ws) listed) (sym (acts_writes d u t n knows acting)) ∙ lists.seen))

-- nothing is known of no events
pub none_known : (d : Draft) → d.tables.txns.items ≡ [] → d.tables.keys.items ≡ [] → d.tables.writes.items ≡ [] → d.tables.ranges.items ≡ [] → d.tables.pairs.items ≡ [] → d.tables.events.items ≡ [] → Finds d.txns [] → Finds d.keys [] → Tracks d.writes [] → d.last_seen.items ≡ [] → Knows d
unfolding Knows txns_of keys_of writes_of ranges_of
none_known d txns keys writes ranges pairs events fx fk fw fs =
    let sound : AreSound d.tables = record {
      short = record {
        txns = rw (txns) (omega arith);
        keys = rw (keys) (omega arith);
        writes = rw (writes) (omega arith);
        ranges = rw (ranges) (omega arith);
        pairs = rw (pairs) (omega arith);
      };
      txns_once = subst (λ (xs : List TxnRow). AreOnce (txn_names xs)) (sym txns) (λ i j x at there. absurd (let e : None ≡ Some x = at in cc));
      keys_once = subst AreOnce (sym keys) (λ i j x at there. absurd (let e : None ≡ Some x = at in cc));
      rows = subst (All (IsWithin (names_in d.tables))) (sym events) (λ k x less. absurd (omega arith));
      writes = subst (All (IsWriteRow (names_in d.tables))) (sym writes) (λ k x less. absurd (omega arith));
      ranges = subst (All (IsRangeRow d.tables.pairs.items)) (sym ranges) (λ k x less. absurd (omega arith));
      pairs = subst (All (IsPair (names_in d.tables))) (sym pairs) (λ k x less. absurd (omega arith));
    } in
    let none : events_of d.tables ≡ [] = ap (map (event_of (names_in d.tables))) events in (
      record {
        sound = sound;
        names = four (ap txn_names txns) keys (ap (write_names (txn_names d.tables.txns.items) d.tables.keys.items) writes) (ap (map (range_of (names_but_ranges d.tables.txns.items d.tables.keys.items d.tables.writes.items) d.tables.pairs.items)) ranges) ∙ ap names_of (sym none);
        lives = subst (All (Lives (events_of d.tables))) (sym txns) (λ k x less. absurd (omega arith));
        marked = λ i r at. absurd (let e : None ≡ Some r = ap (λ (xs : List Row). slice_get xs i) (sym events) ∙ at in cc);
      },
      record {
        sound = sound;
        txns = subst (λ (xs : List TxnRow). Finds d.txns (txn_names xs)) (sym txns) fx;
        keys = subst (λ (xs : List SeenRow). Finds d.keys (map (λ (x : SeenRow). x.key) xs)) (sym fs) fk;
        writes = subst (Tracks d.writes) (sym writes) fw;
        long = rw (txns) (omega arith);
        level = ap (map (λ (x : SeenRow). x.key)) fs ∙ sym keys;
        seen = subst (AreSeen (names_in d.tables)) (sym fs) (λ i x at. absurd (let e : None ≡ Some x = at in cc));
      },
    )

pub counted : (t : Tables) (n : ℕ) → n ≡ vec_len t.events → n ≡ length (events_of t)
counted t n is = let ok = t.events.ok in let l = length-map t.events.items (event_of (names_in t)) in omega (arith, is)

pub lists_none : (t : Tables) → Lists t t []
lists_none t = record {
  txns = refl;
  keys = refl;
  writes = refl;
  ranges = refl;
  events = refl;
  more = [];
  pairs = sym (append-nil t.pairs.items);
  are = refl;
  seen = refl;
}
