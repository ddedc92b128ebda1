-- Each event adds what it tells to the row of its transaction, and then the writes add theirs.
use Rattle.std.proofs.Common.{◌≡◌, inl, inr, ◌+◌, ◌<◌, ◌≤◌, List, Some, Vec, Global, false, true, length, ap, sym, subst, ◌∙◌, arith}
use Rattle.std.specs.Prelude.{slice_get}
use Rattle.std.proofs.lemmas.Bool.{cases_eq, cases_lt}
use Rattle.std.proofs.lemmas.Option.{get_or_from_slice_get, slice_get-get_or, slice_get_within}
use Rattle.sia_events.specs.Events.{actor}
use Rattle.sia_events.specs.Numbering.{event_of, names_of, txn_at, txns_of}
use Rattle.sia_index.proofs.Shared.LogNames.{numbered_has_event, txns_stand_once}
use Rattle.sia_parts.proofs.Shared.RowTxns.{txn_acts, txn_within}
use Rattle.si_audit.specs.Bounds.{EachTxn, IsBound, IsKnownOf, IsKnownTo, IsLow}
use Rattle.si_audit.specs.Snapshots.{ReadAsks}
use Rattle.si_audit.specs.declared.snapshots.Bounds.{Bounds}
use Rattle.si_audit.proofs.Shared.KnownRows.{AreKnownFrom, each_set, same_row, access_actor, known_fit, known_of, known_of_fit, known_on, none_accesses}
use Rattle.si_audit.proofs.snapshots.bounds_of.Goals as goal
use Rattle.si_audit.proofs.snapshots.bounds_of.Goals.{After-txn_of-number, In-loop-number, in-Some+then-index, in-Some+else-index, in_default, then-index-2, else-index-2}

-- who acts has a number
acts : (c : After-txn_of-number) → slice_get (txns_of c.args.log.now) c.txn_of-number.result ≡ Some (txn_at (names_of c.args.log.now) c.txn_of-number.result)
acts c = slice_get-get_or (txns_of c.args.log.now) c.txn_of-number.result 0 (subst (λ n. n < length (txns_of c.args.log.now)) (sym c.txn_of-number.ensures) (txn_within (names_of c.args.log.now) c.in-Some.row c.in-Some.ensures.within))

inside : (c : After-txn_of-number) → c.txn_of-number.result < length c.loop-before.all.items
inside c = let row = c.loop-before.invariant _ _ (acts c) in slice_get_within c.loop-before.all.items _ row.0 row.1

pub index-requires : goal.index-requires
index-requires c = omega (arith, inside (goal.at.index-requires c).After-txn_of-number, c.loop-before.all.ok.0)

pub txn-name-requires : goal.txn-name-requires
txn-name-requires c = slice_get_within (txns_of c.args.log.now) _ _ (acts (goal.at.txn-name-requires c).After-txn_of-number)

pub index_mut-requires : goal.index_mut-requires
index_mut-requires c = omega (arith, inside (goal.at.index_mut-requires c).After-txn_of-number, c.loop-before.all.ok.0)

pub put_row-requires-clause-actor : goal.put_row-requires-clause-actor
put_row-requires-clause-actor c = txn_acts (names_of c.args.log.now) c.in-Some.row ∙ ap (txn_at (names_of c.args.log.now)) (sym c.txn_of-number.ensures) ∙ get_or_from_slice_get (txns_of c.args.log.now) c.txn_of-number.result c.txn-name.result.name 0 c.txn-name.ensures.name

pub loop-before-preserved : goal.loop-before-preserved
loop-before-preserved c =
    let h = c.args.log.now in
    let wf = c.law.ensures in
    let p = c.loop-before.before + 1 in
    let all = c.loop-before.all.items in
    elim c.match-row.branch [
      | in-Some+then-index w ↦
          let n = w.txn_of-number.result in
          let u = w.txn-name.result.name in
          let who : actor (event_of (names_of h) w.in-Some.row) ≡ u = txn_acts (names_of h) w.in-Some.row ∙ ap (txn_at (names_of h)) (sym w.txn_of-number.ensures) ∙ get_or_from_slice_get (txns_of h) n u 0 w.txn-name.ensures.name in
          subst (λ (xs : List Bounds). EachTxn (λ t. IsKnownTo h t (p + 1)) h xs) (sym (ap (λ (v : Vec Bounds Global). v.items) w.all-is))
          (each_set h all n w.put_row.new.self (λ i t b. IsKnownTo h t p b) (λ i t b. IsKnownTo h t (p + 1) b) u w.txn-name.ensures.name
          (λ i t b other apart known. known_on h wf t p (λ a. other (sym (access_actor h wf t p _ (sym w.in-Some.ensures.event) a) ∙ who)) b known)
          (λ b known at. w.put_row.ensures (subst (IsKnownTo h u p) (same_row all n b w.index_mut.result.now at w.index_mut.ensures.value) known))
          c.loop-before.invariant)
      | in-Some+else-index w ↦
          let n = w.txn_of-number.result in
          let u = txn_at (names_of h) n in
          let here : slice_get (txns_of h) n ≡ Some u = slice_get-get_or (txns_of h) n 0 (subst (λ m. m < length (txns_of h)) (sym w.txn_of-number.ensures) (txn_within (names_of h) w.in-Some.row w.in-Some.ensures.within)) in
          let who : actor (event_of (names_of h) w.in-Some.row) ≡ u = txn_acts (names_of h) w.in-Some.row ∙ ap (txn_at (names_of h)) (sym w.txn_of-number.ensures) in
          subst (λ (xs : List Bounds). EachTxn (λ t. IsKnownTo h t (p + 1)) h xs) (sym (ap (λ (v : Vec Bounds Global). v.items) w.all-is))
          (λ i t at.
          let row = c.loop-before.invariant i t at in
          let known : IsKnownTo h t (p + 1) row.0 = elim (cases_eq t u) [
            | inl own ↦
                let number : i ≡ n = txns_stand_once h i n u (subst (λ v. slice_get (txns_of h) i ≡ Some v) own at) here in
                let read : row.0 ≡ w.index.result.now = same_row all n row.0 w.index.result.now (subst (λ j. slice_get all j ≡ Some row.0) number row.1) w.index.ensures in
                known_fit h wf t p (p + 1) row.0 (subst (λ (b : Bounds). b.misfit ≡ false) (sym read) w.if-index.false) row.2
            | inr other ↦ known_on h wf t p (λ a. other (sym (access_actor h wf t p _ (sym w.in-Some.ensures.event) a) ∙ who)) row.0 row.2
          ] in
          (row.0, row.1, known))
      | in_default w ↦
          subst (λ (xs : List Bounds). EachTxn (λ t. IsKnownTo h t (p + 1)) h xs) (sym (ap (λ (v : Vec Bounds Global). v.items) w.all-is))
          (λ i t at. (let row = c.loop-before.invariant i t at in (row.0, row.1, known_on h wf t p (none_accesses h wf t p w.in_default.ensures.event) row.0 row.2)))
    ]

pub loop-number-init : goal.loop-number-init
loop-number-init c i t at =
    let row = c.loop-before.invariant i t at in
    let long = c.len-before-end.ensures.len in
    let end : c.loop-before.before + 1 ≡ length c.args.log.now + 1 = let last = c.loop-before.auto.before-end in let test = c.loop-before-test.false in omega arith in
    (row.0, row.1, ((λ none. absurd (omega arith)), λ _. subst (λ p. IsKnownTo c.args.log.now t p row.0) end row.2))

-- the transaction of the number, and its row
here : (c : In-loop-number) → slice_get (txns_of c.args.log.now) c.loop-number.number ≡ Some (txn_at (names_of c.args.log.now) c.loop-number.number)
here c = slice_get-get_or (txns_of c.args.log.now) c.loop-number.number 0 (omega (arith, c.loop-number-test.true, c.txn_count-number-end.ensures))

row_inside : (c : In-loop-number) → c.loop-number.number < length c.loop-number.all.items
row_inside c = let row = c.loop-number.invariant _ _ (here c) in slice_get_within c.loop-number.all.items _ row.0 row.1

pub index-requires-in-loop-number : goal.index-requires-in-loop-number
index-requires-in-loop-number c = omega (arith, row_inside (goal.at.index-requires-in-loop-number c).In-loop-number, c.loop-number.all.ok.0)

pub index_mut-requires-then-index-2 : goal.index_mut-requires-then-index-2
index_mut-requires-then-index-2 c = omega (arith, row_inside (goal.at.index_mut-requires-then-index-2 c).In-loop-number, c.loop-number.all.ok.0)

pub loop-number-preserved : goal.loop-number-preserved
loop-number-preserved c =
    let h = c.args.log.now in
    let wf = c.law.ensures in
    let n = c.loop-number.number in
    let all = c.loop-number.all.items in
    let s = c.index-in-loop-number.result.now in
    elim c.if-index-2.branch [
      | then-index-2 w ↦
          let x = w.txn-name-then-index-2.result.name in
          let at_x = w.txn-name-then-index-2.ensures.name in
          let new = w.put_writes.new.self in
          let r = w.index_mut-then-index-2.result.now in
          subst (AreKnownFrom h (n + 1)) (sym (ap (λ (v : Vec Bounds Global). v.items) w.all-is))
          (each_set h all n new (λ i t b. (i < n → IsKnownOf h t b) × (n ≤ i → IsKnownTo h t (length h + 1) b)) (λ i t b. (i < n + 1 → IsKnownOf h t b) × (n + 1 ≤ i → IsKnownTo h t (length h + 1) b)) x at_x
          (λ i t b other apart known. ((λ less. known.0 (omega arith)), (λ more. known.1 (omega arith))))
          (λ b known at.
          let read : b ≡ r = same_row all n b r at w.index_mut-then-index-2.ensures.value in
          let first : b ≡ s = same_row all n b s at c.index-in-loop-number.ensures in
          let bad : r.misfit ≡ true = subst (λ (y : Bounds). y.misfit ≡ true) (sym first ∙ read) w.if-index-2.true in
          let low = subst (λ g. IsBound (λ c d. d ≤ c) 0 (ReadAsks g x) r.low → IsLow g x new.low) c.requires.index w.put_writes.ensures.low in
          ((λ less. known_of h wf x (numbered_has_event h n x at_x) r new bad (subst (IsKnownTo h x (length h + 1)) read (known.1 (omega arith))) low w.put_writes.ensures.rest), (λ more. absurd (omega arith))))
          c.loop-number.invariant)
      | else-index-2 w ↦
          subst (AreKnownFrom h (n + 1)) (sym (ap (λ (v : Vec Bounds Global). v.items) w.all-is))
          (λ i t at.
          let row = c.loop-number.invariant i t at in (
            row.0,
            row.1,
            (
              (λ less. elim (cases_lt i n) [
                | inl before ↦ row.2.0 before
                | inr after ↦
                    let number : i ≡ n = omega arith in
                    let read : row.0 ≡ s = same_row all n row.0 s (subst (λ j. slice_get all j ≡ Some row.0) number row.1) c.index-in-loop-number.ensures in
                    known_of_fit h wf t (length h + 1) row.0 (subst (λ (b : Bounds). b.misfit ≡ false) (sym read) w.if-index-2.false) (row.2.1 after)
              ]),
              (λ more. row.2.1 (omega arith)),
            ),
          ))
    ]

pub returns : goal.returns
returns c i t at =
    let row = c.loop-number.invariant i t at in
    let below = slice_get_within (txns_of c.args.log.now) i t at in
    (row.0, row.1, row.2.0 (omega (arith, c.loop-number-test.false, c.txn_count-number-end.ensures)))
