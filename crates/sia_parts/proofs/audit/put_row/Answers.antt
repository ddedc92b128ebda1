-- The row says whether the reader had written the key.
use Rattle.std.proofs.Common.{◌≡◌, ℕ, ap, sym, subst, ◌∙◌}
use Rattle.sia_events.specs.Numbering.{names_of, key_at, pair_at, txn_at}
use Rattle.sia_events.proofs.Shared.TransactionDecisions.{place_within}
use Rattle.sia_parts.proofs.Auditing.LogWrites.{own_mine, read_mine}
use Rattle.sia_parts.proofs.audit.put_row.Goals as goal

pub put_read-requires-clause-mine : goal.put_read-requires-clause-mine
put_read-requires-clause-mine c =
    let h = c.args.scope.now.ix.now in
    let key = subst (λ l. (pair_at (names_of l) c.pair_of.result).0 ≡ key_at (names_of l) c.in-Read.key) (sym c.requires.scope.same) (ap (λ (q : ℕ × ℕ). q.0) c.pair_of.ensures.pair) in
    read_mine h c.args.known.now.reader.place (place_within h _ _ c.requires.event).0 c.args.row _ c.in-Read.key c.in-Read.saw c.args.known.now.reader.txn _ (c.requires.known.name ∙ ap (λ d. txn_at (names_of h) d) c.requires.txn) key c.requires.marked c.in-Read.is

pub put_read-requires-in-OwnRead-clause-mine : goal.put_read-requires-in-OwnRead-clause-mine
put_read-requires-in-OwnRead-clause-mine c =
    let h = c.args.scope.now.ix.now in
    let key = subst (λ l. (pair_at (names_of l) c.pair_of-in-OwnRead.result).0 ≡ key_at (names_of l) c.in-OwnRead.key) (sym c.requires.scope.same) (ap (λ (q : ℕ × ℕ). q.0) c.pair_of-in-OwnRead.ensures.pair) in
    own_mine h c.args.known.now.reader.place (place_within h _ _ c.requires.event).0 c.args.row _ c.in-OwnRead.key c.in-OwnRead.saw c.args.known.now.reader.txn _ (c.requires.known.name ∙ ap (λ d. txn_at (names_of h) d) c.requires.txn) key c.requires.marked c.in-OwnRead.is
