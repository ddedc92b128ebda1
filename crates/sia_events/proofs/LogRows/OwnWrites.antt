-- The writes of a transaction stand from its newest back, also where one more is taken in.
use Rattle.std.proofs.Common.{◌≡◌, ◌≢◌, ◌⊎◌, inl, inr, ℕ, ◌+◌, ◌-◌, ◌<◌, ◌≤◌, Bool, true, false, List, [], ◌∷◌, ◌++◌, length, map, set, Some, None, refl, sym, subst, ◌∙◌, ap, ap₂, get_or, Option, arith, slice_get}
use Rattle.std.specs.Prelude.{◌==◌, ◌*◌, IfNone}
use Rattle.std.proofs.lemmas.List.{length-append, length-map, map-append}
use Rattle.std.proofs.lemmas.Option.{slice_get_within, slice_get-get_or, get_or_from_slice_get, slice_get-map}
use Rattle.std.proofs.lemmas.Bool.Decides.{nat_tests}
use Rattle.std.proofs.lemmas.Bool.{eqb-true}
use Rattle.sia_events.specs.declared.log.WriteRow.{WriteRow}
use Rattle.sia_events.specs.declared.own_writes.Writer.{Writer}
use Rattle.sia_events.specs.declared.own_writes.OwnWrites.{OwnWrites}
use Rattle.sia_events.specs.Finding.{FindsBelow}
use Rattle.sia_events.specs.OwnWrites.{Tracks, IsOwn, IsNoneOf, new_write, write_code}
use Rattle.sia_events.proofs.LogRows.Logs.{front_get}
use Rattle.sia_events.proofs.LogRows.Finders.{below_append, below_none}
use Rattle.sia_events.proofs.LogRows.RowsRead.{push_cases, last_there, set_cases, set_here, set_apart}
use Rattle.std.specs.Option.{option_map}

one_writer : (xs : List Writer) (i : ℕ) (x y : Writer) → slice_get xs i ≡ Some x → slice_get xs i ≡ Some y → x ≡ y
one_writer xs i x y a b = let e : Some x ≡ Some y = sym a ∙ b in cc

pub own_within : (rows : List WriteRow) (txn p : ℕ) → IsOwn rows txn p → p ≤ length rows
own_within rows txn p own = grind (arith, slice_get_within)

pub table_more : (o : OwnWrites) (rows : List WriteRow) (r : WriteRow) → Tracks o rows → FindsBelow o.table (map write_code (rows ++ r ∷ [])) o.in_table
table_more o rows r t = rw (map-append write_code rows (r ∷ [])) (below_append o.table (map write_code rows) (write_code r ∷ []) o.in_table (let l = length-map rows write_code in omega (arith, t.lags)) t.table)

pub none_tracked : (o : OwnWrites) → o.writers.items ≡ [] → o.before.items ≡ [] → o.in_table ≡ 0 → Tracks o []
none_tracked o writers before none = record {
  newest = λ n w at. absurd (let e : None ≡ Some w = at in cc);
  own = λ s x at. absurd (let e : None ≡ Some x = ap (λ (xs : List Writer). slice_get xs s) (sym writers) ∙ at in cc);
  before = λ n p w at row. absurd (let e : None ≡ Some w = row in cc);
  long = ap length before;
  table = rw (none) (below_none o.table []);
  lags = omega (arith, none);
}

code_of : (rows : List WriteRow) (n txn key : ℕ) (w : WriteRow) → slice_get rows n ≡ Some w → w.txn ≡ txn → w.key ≡ key → slice_get (map write_code rows) n ≡ Some (txn * 4294967296 + key)
code_of rows n txn key w at is_txn is_key = slice_get-map write_code rows n ∙ ap (option_map write_code) at ∙ ap₂ (λ a b. Some (a * 4294967296 + b)) is_txn is_key

pub own_code : (rows : List WriteRow) (txn key at : ℕ) (d : WriteRow) → 0 < at → IsOwn rows txn at → (get_or rows (at - 1) d).key ≡ key → slice_get (map write_code rows) (at - 1) ≡ Some (txn * 4294967296 + key)
own_code rows txn key at d above own is = let u = own above in code_of rows (at - 1) txn key u.0 u.1 u.2 (ap (λ (w : WriteRow). w.key) (sym (get_or_from_slice_get rows (at - 1) u.0 d u.1)) ∙ is)

-- all rows of a transaction with many are in the table
pub none_in_table : (o : OwnWrites) (rows : List WriteRow) (txn key code : ℕ) (x : Writer) (found : Option ℕ) → code ≡ txn * 4294967296 + key → Tracks o rows → Some x ≡ slice_get o.writers.items txn → 12 < x.count → IfNone found ((n : ℕ) → n < o.in_table → slice_get (map write_code rows) n ≢ Some code) → IfNone found (IsNoneOf rows txn key)
none_in_table o rows txn key code x (Some n) is_code t is many none = tt
none_in_table o rows txn key code x None is_code t is many none = λ n w at is_txn is_key.
    let r = t.newest n w at in
    let one : r.0 ≡ x = one_writer o.writers.items txn r.0 x (subst (λ s. slice_get o.writers.items s ≡ Some r.0) is_txn r.1) (sym is) in
    let same = ap (λ (u : Writer). u.count) one in
    elim r.3 [
      | inl less ↦ none n less (code_of rows n txn key w at is_txn is_key ∙ ap Some (sym is_code))
      | inr few ↦ absurd (omega arith)
    ]

-- and those of one with few stand from its newest back
pub all_below : (o : OwnWrites) (rows : List WriteRow) (txn key : ℕ) (x : Writer) → Tracks o rows → Some x ≡ slice_get o.writers.items txn → (n : ℕ) (w : WriteRow) → slice_get rows n ≡ Some w → w.txn ≡ txn → w.key ≡ key → n < x.newest
all_below o rows txn key x t is n w at is_txn is_key = grind (arith, one_writer)

-- no other row of the transaction stands between a row and the one before it
pub passed : (o : OwnWrites) (rows : List WriteRow) (txn key at p : ℕ) (d : WriteRow) → Tracks o rows → 0 < at → p ≡ get_or o.before.items (at - 1) p → (get_or rows (at - 1) d).key ≢ key → IsOwn rows txn at
    → ((n : ℕ) (w : WriteRow) → slice_get rows n ≡ Some w → w.txn ≡ txn → w.key ≡ key → n < at) → (p < at) × IsOwn rows txn p × ((n : ℕ) (w : WriteRow) → slice_get rows n ≡ Some w → w.txn ≡ txn → w.key ≡ key → n < p)
passed o rows txn key at p d t above before ne own none = grind (arith, slice_get_within, slice_get-get_or, eqb-true, get_or_from_slice_get)

-- one more row
module _ (o e : OwnWrites) (rows : List WriteRow) (txn key : ℕ) (x y : Writer) (t : Tracks o rows) (is : slice_get o.writers.items txn ≡ Some x) (writers : e.writers.items ≡ set o.writers.items txn y) (newest : y.newest ≡ length rows + 1) (before : e.before.items ≡ o.before.items ++ x.newest ∷ []) (more : o.in_table ≤ e.in_table) (many : (length rows + 1 ≤ e.in_table) ⊎ (y.count ≤ 12)) where
  own_more : (s p : ℕ) → IsOwn rows s p → IsOwn (rows ++ new_write txn key ∷ []) s p
  own_more s p own = λ above. let r = own above in (r.0, front_get rows (rows ++ new_write txn key ∷ []) (p - 1) r.0 (new_write txn key ∷ [], refl) r.1, r.2)

  here : slice_get e.writers.items txn ≡ Some y
  here = rw (writers) (set_here o.writers.items txn y x is)

  fits : (n : ℕ) → n < length rows + 1 → (n < e.in_table) ⊎ (y.count ≤ 12)
  fits n less = elim many [
    | inl all ↦ inl (omega arith)
    | inr few ↦ inr few
  ]

  newest_now : (n : ℕ) (w : WriteRow) → slice_get (rows ++ new_write txn key ∷ []) n ≡ Some w → (z : Writer) × (slice_get e.writers.items w.txn ≡ Some z) × (n < z.newest) × ((n < e.in_table) ⊎ (z.count ≤ 12))
  newest_now n w at = elim (push_cases rows (new_write txn key) n w at) [
    | inl old ↦ by_txn (w.txn == txn) refl (slice_get_within rows n w old) (t.newest n w old)
    | inr new ↦ (y, rw (new.1) here, omega (arith, new.0, newest), fits n (omega (arith, new.0)))
  ] where
    by_txn : (b : Bool) → (w.txn == txn) ≡ b → n < length rows → (z : Writer) × (slice_get o.writers.items w.txn ≡ Some z) × (n < z.newest) × ((n < o.in_table) ⊎ (z.count ≤ 12)) → (z : Writer) × (slice_get e.writers.items w.txn ≡ Some z) × (n < z.newest) × ((n < e.in_table) ⊎ (z.count ≤ 12))
    by_txn true same less r = let eq : w.txn ≡ txn = eqb-true w.txn txn same in (y, rw (eq) here, omega (arith, newest), fits n (omega arith))
    by_txn false apart less r = let ne : w.txn ≢ txn = grind (arith, nat_tests) in (
      r.0,
      rw (writers) (set_apart o.writers.items txn w.txn y r.0 ne r.1),
      r.2,
      elim r.3 [
        | inl low ↦ inl (omega arith)
        | inr few ↦ inr few
      ],
    )

  own_now : (s : ℕ) (z : Writer) → slice_get e.writers.items s ≡ Some z → IsOwn (rows ++ new_write txn key ∷ []) s z.newest
  own_now s z at = elim (set_cases o.writers.items txn s y z (ap (λ (xs : List Writer). slice_get xs s) (sym writers) ∙ at)) [
    | inl old ↦ own_more s z.newest (t.own s z old)
    | inr new ↦ λ above. (new_write txn key, last_there rows (new_write txn key) (z.newest - 1) (let same = ap (λ (w : Writer). w.newest) new.1 in omega (arith, same, newest)), sym new.0)
  ]

  before_now : (n p : ℕ) (w : WriteRow) → slice_get e.before.items n ≡ Some p → slice_get (rows ++ new_write txn key ∷ []) n ≡ Some w → (p ≤ n) × IsOwn (rows ++ new_write txn key ∷ []) w.txn p × ((m : ℕ) (v : WriteRow) → m < n → slice_get (rows ++ new_write txn key ∷ []) m ≡ Some v → v.txn ≡ w.txn → m < p)
  before_now n p w at row = elim (push_cases o.before.items x.newest n p (ap (λ (xs : List ℕ). slice_get xs n) (sym before) ∙ at)) [
    | inl old ↦ (let less = slice_get_within o.before.items n p old in elim (push_cases rows (new_write txn key) n w row) [
      | inl was ↦ (let b = t.before n p w old was in (b.0, own_more w.txn p b.1, λ m v low there same. b.2 m v low (earlier m v (omega (arith, t.long)) there) same))
      | inr new ↦ absurd (omega (arith, t.long, new.0))
    ])
    | inr last ↦ elim (push_cases rows (new_write txn key) n w row) [
      | inl was ↦ (let less = slice_get_within rows n w was in absurd (omega (arith, t.long, last.0)))
      | inr new ↦ (
        (let low = own_within rows txn x.newest (t.own txn x is) in omega (arith, last.1, new.0)),
        rw (new.1, last.1) (own_more txn x.newest (t.own txn x is)),
        λ m v low there same. (let old = earlier m v (omega (arith, new.0)) there in let r = t.newest m v old in let one : r.0 ≡ x = one_writer o.writers.items txn r.0 x (subst (λ s. slice_get o.writers.items s ≡ Some r.0) (same ∙ ap (λ (u : WriteRow). u.txn) new.1) r.1) is in let same_newest = ap (λ (u : Writer). u.newest) one in omega (arith, r.2, last.1, same_newest)),
      )
    ]
  ] where
    earlier : (m : ℕ) (v : WriteRow) → m < length rows → slice_get (rows ++ new_write txn key ∷ []) m ≡ Some v → slice_get rows m ≡ Some v
    earlier m v low there = elim (push_cases rows (new_write txn key) m v there) [
      | inl old ↦ old
      | inr new ↦ absurd (omega (arith, new.0))
    ]

  pub tracked : FindsBelow e.table (map write_code (rows ++ new_write txn key ∷ [])) e.in_table → e.in_table ≤ length rows + 1 → Tracks e (rows ++ new_write txn key ∷ [])
  tracked table lags = let l = length-append rows (new_write txn key ∷ []) in record {
    newest = newest_now;
    own = own_now;
    before = before_now;
    long = ap length before ∙ length-append o.before.items (x.newest ∷ []) ∙ ap (λ k. k + 1) t.long ∙ sym l;
    table = table;
    lags = omega arith;
  }
