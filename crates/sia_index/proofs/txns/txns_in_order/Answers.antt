-- Each number adds its row.
use Rattle.std.proofs.Common.{ℕ, map, arith}
use Rattle.std.proofs.lemmas.List.{get_or-map, length-map}
use Rattle.sia_events.specs.Numbering.{txns_of}
use Rattle.sia_events.specs.Transactions.{HasEvent}
use Rattle.sia_index.specs.Rows.{AreNumbered}
use Rattle.sia_index.specs.declared.names.Numbered.{Numbered}
use Rattle.sia_index.proofs.Shared.LogNames.{event_has_number, numbered_has_event, txns_stand_once}
use Rattle.sia_index.proofs.Shared.NumberedNames.{IsRowOf, names_listed, numbered_listed, numbered_more, rows_named}
use Rattle.sia_index.proofs.TxnTables.Collected.{holds_nothing}
use Rattle.sia_index.proofs.txns.txns_in_order.Goals.{After-sort}
use Rattle.sia_index.proofs.txns.txns_in_order.Goals as goal

pub loop-number-init : goal.loop-number-init
loop-number-init c = rw c.in_ok-rows.ensures.items (holds_nothing (IsRowOf (HasEvent c.args.log.now) (txns_of c.args.log.now)))

pub loop-number-preserved : goal.loop-number-preserved
loop-number-preserved c = rw c.in_ok-push.ensures.items (numbered_more (HasEvent c.args.log.now) _ _ _ _ c.loop-number.invariant c.txn-name.ensures.name (numbered_has_event _ _ _ c.txn-name.ensures.name))

numbered : (c : After-sort) → AreNumbered (HasEvent c.args.log.now) (txns_of c.args.log.now) c.sort.new.list.items
numbered c = numbered_listed _ _ c.loop-number.number _ _ (omega (arith, c.txn_count-number-end.ensures)) c.loop-number.invariant c.sort.ensures.sorted (λ x. (c.sort.ensures.same x).1) (λ x. (c.sort.ensures.same x).0)

pub returns-clause-names : goal.returns-clause-names
returns-clause-names c =
    let rows = c.sort.new.list.items in
    names_listed _ _ _ (numbered (goal.at.returns-clause-names c).After-sort) (txns_stand_once c.args.log.now) (event_has_number c.args.log.now) (map (λ (row : Numbered ℕ). row.name) rows)
    (length-map rows (λ (row : Numbered ℕ). row.name), λ i d e below. get_or-map (λ (row : Numbered ℕ). row.name) rows i e d (let long = length-map rows (λ (row : Numbered ℕ). row.name) in omega arith))

pub returns-clause-numbers : goal.returns-clause-numbers
returns-clause-numbers c = rows_named _ _ _ (numbered (goal.at.returns-clause-numbers c).After-sort)
