-- A transaction that hasn't ended ends.
use Rattle.std.proofs.Common.{◌≡◌, ◌++◌, ◌∷◌, [], ℕ, ◌+◌, suc, length, refl, ap, subst, arith, List, Some, None}
use Rattle.std.proofs.lemmas.Result.{err_from_is_err_and}
use Rattle.std.proofs.lemmas.List.{length-map}
use Rattle.sia_events.specs.declared.event.Event.{Event}
use Rattle.sia_events.specs.declared.event.Event.TheVariants.{Abort}
use Rattle.sia_events.specs.declared.log.Row.TheVariants as rows
use Rattle.sia_events.specs.declared.log.TxnEnd.TheVariants.{Aborted}
use Rattle.sia_events.specs.Places.{at_place}
use Rattle.sia_events.specs.LogTables.{events_of, names_in}
use Rattle.sia_events.specs.Numbering.{event_of}
use Rattle.sia_events.specs.Known.{own_fault}
use Rattle.sia_events.proofs.LogRows.Lived.{at_last}
use Rattle.sia_events.proofs.Shared.Drafted.{stops, txn_within, ends_now}
use Rattle.sia_events.proofs.draft.Draft.abort.Goals as goal
use Rattle.std.proofs.lemmas.Bool.{ne_eqb}

pub returns-in_err-txn : goal.returns-in_err-txn
returns-in_err-txn c = grind (arith, err_from_is_err_and, stops)

pub index_mut-requires : goal.index_mut-requires
index_mut-requires c = let w = txn_within c.actor.new.self.tables.txns.items c.in_ok-txn.txn c.args.txn c.in_ok-txn.ensures.acts.is in let ok = c.actor.new.self.tables.txns.ok in omega arith

own_none : (h : List Event) (n t : ℕ) → own_fault h n (Abort t) ≡ None
unfolding own_fault
own_none h n t = refl

pub returns : goal.returns
returns c =
    let count : suc (length (events_of c.args.self.now.tables)) ≡ c.len.result + 1 = (let l = length-map c.args.self.now.tables.events.items (event_of (names_in c.args.self.now.tables)) in let same = ap length c.in_ok-txn.ensures.acts.same.events in omega (arith, c.len.ensures)) in
    ends_now c.args.self.now c.actor.new.self _ c.args.txn c.in_ok-txn.txn (Abort c.args.txn) (rows.Abort c.in_ok-txn.txn) c.index_mut.result.now (record { name = c.index_mut.result.now.name; start = c.index_mut.result.now.start; end = Aborted (c.len.result + 1) }) c.requires.knows c.in_ok-txn.ensures.acts c.in_ok-txn.ensures.found c.index_mut.ensures.value refl refl
    (subst (λ p. at_place (events_of c.args.self.now.tables ++ Abort c.args.txn ∷ []) p ≡ Some (Abort c.args.txn)) count (at_last (events_of c.args.self.now.tables) (Abort c.args.txn)))
    refl refl refl refl refl refl refl refl refl c.in_ok-push.ensures.items refl refl refl refl refl (λ m ne. ne_eqb m c.args.txn ne) (λ names less. less) (λ names is. ap (λ t. Abort t) is) (λ names h. tt) (own_none (events_of c.args.self.now.tables) (length (events_of c.args.self.now.tables)) c.args.txn)
