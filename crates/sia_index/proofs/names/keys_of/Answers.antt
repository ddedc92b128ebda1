-- Each write adds the row of its key, if it isn't there, and the tables are those of the rows.
use Rattle.std.proofs.Common.{ℕ, zero, suc, ◌≡◌, ◌+◌, ◌-◌, ◌<◌, ◌∙◌, Bool, Global, Vec, Some, true, false, [], ◌∷◌, ◌++◌, get_or, refl, inl, inr, sym, ap, arith, length, slice_get, subst, rules}
use Rattle.std.specs.Prelude.{replicate, slice_index}
use Rattle.std.proofs.lemmas.Bool.{cases_eq, false≢true}
use Rattle.std.proofs.lemmas.List.{get_or_default, get_or-set_other, length-replicate, length-set}
use Rattle.std.proofs.lemmas.List.Elements.{Contains-append_left, Contains-push}
use Rattle.std.proofs.lemmas.Option.{get_or_from_slice_get, slice_get-get_or}
use Rattle.sia_events.specs.Numbering.{names_of, keys_of, writes_of, txn_at}
use Rattle.sia_index.specs.Rows.{AreNumbered, IsColumn, IsWritten}
use Rattle.sia_index.specs.Tables.{ArePlaces}
use Rattle.sia_index.specs.declared.names.Numbered.{Numbered}
use Rattle.sia_index.proofs.TxnTables.Collected.{holds_nothing}
use Rattle.sia_index.proofs.Shared.Columns.{column_more}
use Rattle.sia_index.proofs.Shared.LogNames.{keys_stand_once, written_has_number}
use Rattle.sia_index.proofs.Shared.NumberedNames.{IsRowOfWrite, key_again, key_more, keys_listed, numbers_are, rows_apart, rows_within}
use Rattle.sia_index.proofs.names.keys_of.Goals.{After-sort, then-not-index+in_ok-push, else-not-index}
use Rattle.sia_index.proofs.names.keys_of.Goals as goal

none_known : (n q : ℕ) → get_or {A = Bool} (replicate n false) q false ≡ false
none_known zero q = refl
none_known (suc n) zero = refl
none_known (suc n) (suc q) = none_known n q

pub loop-before-init : goal.loop-before-init
loop-before-init c =
    let none : c.in_ok-known.known.items ≡ replicate c.key_count-count.result false = c.in_ok-known.ensures.items_if_clones_equal (λ y k. search rules) in (
      rw c.in_ok-rows.ensures.items (holds_nothing (IsRowOfWrite c.args.log.now)),
      ap length none ∙ length-replicate c.key_count-count.result false ∙ c.key_count-count.ensures,
      λ q is. absurd (false≢true (sym (ap (λ xs. get_or xs q false) none ∙ none_known c.key_count-count.result q) ∙ is)),
    )

pub loop-before-preserved : goal.loop-before-preserved
loop-before-preserved c =
    let h = c.args.log.now in
    let n = c.loop-before.before in
    let rows = c.loop-before.rows.items in
    let known = c.loop-before.known.items in
    let so = c.loop-before.invariant in
    let number = c.write-number.result.key in
    let t = txn_at (names_of h) c.write-number.result.txn in
    let row : Numbered ℕ = record { name = slice_index (keys_of h) number; number = number } in
    let within : number < length known = omega (arith, so.1, c.write-number.ensures.key) in
    let named : slice_get (keys_of h) number ≡ Some row.name = slice_get-get_or (keys_of h) number 0 c.write-number.ensures.key in
    let place : n + 1 - 1 ≡ n = omega arith in
    let here : slice_get (writes_of h) n ≡ Some (row.name, t) = ap (slice_get (writes_of h)) (sym place) ∙ c.write-number.ensures.write in
    elim c.if-not-index.branch [
      | then-not-index+in_ok-push w ↦
          let name : row.name ≡ w.key-name.result = get_or_from_slice_get (keys_of h) number w.key-name.result 0 w.key-name.ensures in
          let pushed : c.if-not-index.rows.items ≡ rows ++ row ∷ [] = ap (λ (v : Vec (Numbered ℕ) Global). v.items) w.rows-is ∙ w.in_ok-push.ensures.items ∙ ap (λ k. rows ++ record { name = k; number = number } ∷ []) (sym name) in (
            rw pushed (key_more h n t rows row so.0 named here),
            rw w.known-is (length-set known number true ∙ so.1),
            λ q is. elim (cases_eq q number) [
              | inl same ↦ rw (pushed, same) (Contains-push rows row)
              | inr other ↦ rw pushed (Contains-append_left rows (row ∷ []) (record { name = slice_index (keys_of h) q; number = q }) (so.2 q (sym (get_or-set_other known number q true false other) ∙ (rw w.known-is at is))))
            ],
          )
      | else-not-index w ↦
          let at : get_or known number false ≡ true = sym (get_or_default known number c.index.result.now false within) ∙ sym c.index.ensures ∙ w.if-not-index.false in (
            rw w.rows-is (key_again h n t rows row so.0 named here (so.2 number at)),
            rw w.known-is so.1,
            rw (w.rows-is, w.known-is) so.2,
          )
    ]

written : (c : After-sort) → AreNumbered (IsWritten c.args.log.now) (keys_of c.args.log.now) c.sort.new.list.items
written c = keys_listed _ c.loop-before.before _ _ (omega (arith, c.write_count-before-end.ensures)) c.loop-before.invariant.0 c.sort.ensures.sorted (λ x. (c.sort.ensures.same x).1) (λ x. (c.sort.ensures.same x).0)

pub loop-row-preserved : goal.loop-row-preserved
loop-row-preserved c = rw c.in_ok-push-2.ensures.items (column_more (λ (row : Numbered ℕ). row.name) _ _ _ c.loop-row.invariant _ c.loop-row-test.true)

pub places_of-requires-clause-apart : goal.places_of-requires-clause-apart
places_of-requires-clause-apart c = rw c.deref.ensures.value (rows_apart (IsWritten c.args.log.now) _ _ (written (goal.at.places_of-requires-clause-apart c).After-sort))

pub places_of-requires-clause-within : goal.places_of-requires-clause-within
places_of-requires-clause-within c = rw (c.deref.ensures.value, c.key_count-count.ensures) (rows_within (IsWritten c.args.log.now) _ _ (written (goal.at.places_of-requires-clause-within c).After-sort))

pub returns : goal.returns
returns c =
    let h = c.args.log.now in
    let rows = c.sort.new.list.items in
    let places : ArePlaces (λ (row : Numbered ℕ). row.number) rows (length (keys_of h)) c.in_ok-numbers.numbers.items = rw (c.deref.ensures.value, c.key_count-count.ensures) at c.in_ok-numbers.ensures in
    let end : c.loop-row.row-index ≡ length c.deref-row-items.result.now = (let last = c.loop-row-test.false in let most = c.loop-row.auto in omega arith) in
    let names = rw c.deref-row-items.ensures.value at (subst (λ n. IsColumn (λ (row : Numbered ℕ). row.name) c.deref-row-items.result.now n c.loop-row.keys.items) end c.loop-row.invariant) in
    numbers_are (IsWritten h) (keys_of h) rows (written (goal.at.returns c).After-sort) (keys_stand_once h) (written_has_number h) _ names _ places
