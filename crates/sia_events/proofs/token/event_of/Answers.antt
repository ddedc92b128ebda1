-- What each letter is followed by.
use Rattle.std.proofs.Common.{refl, arith}
use Rattle.std.proofs.lemmas.Result.{err_from_is_err_and}
use Rattle.sia_events.specs.Parsing.{ended, txn_of, commit_at, abort_at}
use Rattle.sia_events.proofs.TokensRead.TokenSteps.{event_by, number_fails, fails_first}
use Rattle.sia_events.proofs.token.event_of.Goals as goal

pub returns-in_err-txn : goal.returns-in_err-txn
returns-in_err-txn c = grind (arith, err_from_is_err_and, number_fails)

pub returns-in-98 : goal.returns-in-98
returns-in-98 c = rw (event_by c.args.token.now _ _ c.in-len1-up.len_at_least c.in_ok-txn.ensures.gives, c.in-98.is) (c.begin.ensures _)

pub returns-in-114 : goal.returns-in-114
returns-in-114 c = rw (event_by c.args.token.now _ _ c.in-len1-up.len_at_least c.in_ok-txn.ensures.gives, c.in-114.is) c.read.ensures

pub returns-in-119 : goal.returns-in-119
returns-in-119 c = rw (event_by c.args.token.now _ _ c.in-len1-up.len_at_least c.in_ok-txn.ensures.gives, c.in-119.is) (c.write.ensures _)

pub returns-in_err-end-in-99 : goal.returns-in_err-end-in-99
unfolding commit_at
returns-in_err-end-in-99 c =
    let p = err_from_is_err_and c.from_residual-in_err-end-in-99.result c.from_residual-in_err-end-in-99.ensures.1 in
    rw (p.1, p.2, event_by c.args.token.now _ _ c.in-len1-up.len_at_least c.in_ok-txn.ensures.gives, c.in-99.is) (fails_first c.in_err-end-in-99.field-0.0 (ended c.in_ok-txn.rest.now) _ c.in_err-end-in-99.ensures)

pub returns-in_err-end-in-97 : goal.returns-in_err-end-in-97
unfolding abort_at
returns-in_err-end-in-97 c =
    let p = err_from_is_err_and c.from_residual-in_err-end-in-97.result c.from_residual-in_err-end-in-97.ensures.1 in
    rw (p.1, p.2, event_by c.args.token.now _ _ c.in-len1-up.len_at_least c.in_ok-txn.ensures.gives, c.in-97.is) (fails_first c.in_err-end-in-97.field-0.0 (ended c.in_ok-txn.rest.now) _ c.in_err-end-in-97.ensures)

pub returns-in_err-txn-in-99 : goal.returns-in_err-txn-in-99
unfolding commit_at
returns-in_err-txn-in-99 c =
    let p = err_from_is_err_and c.from_residual-in_err-txn-in-99.result c.from_residual-in_err-txn-in-99.ensures.1 in
    rw (p.1, p.2, event_by c.args.token.now _ _ c.in-len1-up.len_at_least c.in_ok-txn.ensures.gives, c.in-99.is, c.in_ok-end-in-99.ensures) (fails_first c.in_err-txn-in-99.field-0.0 (txn_of c.in_ok-txn.txn) _ c.in_err-txn-in-99.ensures)

pub returns-in_err-txn-in-97 : goal.returns-in_err-txn-in-97
unfolding abort_at
returns-in_err-txn-in-97 c =
    let p = err_from_is_err_and c.from_residual-in_err-txn-in-97.result c.from_residual-in_err-txn-in-97.ensures.1 in
    rw (p.1, p.2, event_by c.args.token.now _ _ c.in-len1-up.len_at_least c.in_ok-txn.ensures.gives, c.in-97.is, c.in_ok-end-in-97.ensures) (fails_first c.in_err-txn-in-97.field-0.0 (txn_of c.in_ok-txn.txn) _ c.in_err-txn-in-97.ensures)

pub returns-in_ok-txn-in-99 : goal.returns-in_ok-txn-in-99
unfolding commit_at
returns-in_ok-txn-in-99 c = rw (event_by c.args.token.now _ _ c.in-len1-up.len_at_least c.in_ok-txn.ensures.gives, c.in-99.is, c.in_ok-end-in-99.ensures, c.in_ok-txn-in-99.ensures) refl

pub returns-in_ok-txn-in-97 : goal.returns-in_ok-txn-in-97
unfolding abort_at
returns-in_ok-txn-in-97 c = rw (event_by c.args.token.now _ _ c.in-len1-up.len_at_least c.in_ok-txn.ensures.gives, c.in-97.is, c.in_ok-end-in-97.ensures, c.in_ok-txn-in-97.ensures) refl
