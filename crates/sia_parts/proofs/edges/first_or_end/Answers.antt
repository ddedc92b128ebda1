-- The first position of a key parts the keys, and there is none behind the last.
use Rattle.std.proofs.Common.{◌<◌, length, get_or, arith}
use Rattle.std.proofs.lemmas.Option.{slice_get-get_or}
use Rattle.sia_index.specs.declared.info.KeyVersion.{KeyVersion}
use Rattle.sia_index.proofs.Shared.KeyChains.{key_number}
use Rattle.sia_parts.proofs.Shared.BadWrites.{before_end, before_first, has_before}
use Rattle.sia_parts.proofs.edges.first_or_end.Goals as goal

pub returns-then-key-written_keys-clause-within : goal.returns-then-key-written_keys-clause-within
returns-then-key-written_keys-clause-within c q less = let first = c.first_position.ensures in has_before c.args.ix.now q c.first_position.result first.0 first.1 (omega arith)

pub returns-then-key-written_keys-clause-parts : goal.returns-then-key-written_keys-clause-parts
returns-then-key-written_keys-clause-parts c q w j at key =
    let first = c.first_position.ensures in
    before_first c.args.ix.now c.written_keys.result.now c.written_keys.ensures c.args.key c.first_position.result first.0 first.1 first.2 first.3 q j w at key

pub returns-else-key-written_keys-clause-within : goal.returns-else-key-written_keys-clause-within
returns-else-key-written_keys-clause-within c q less =
    let all = c.position_count.ensures in
    let below : q < length all.0 = let same = all.2 in omega arith in
    let none : KeyVersion = record { key = 0; commit = 0; txn = 0 } in
    (get_or all.0 q none, (all.0, all.1, slice_get-get_or all.0 q none below))

pub returns-else-key-written_keys-clause-parts : goal.returns-else-key-written_keys-clause-parts
returns-else-key-written_keys-clause-parts c q w j at key = (
  (λ less. let below = (key_number c.args.ix.now c.written_keys.result.now c.written_keys.ensures j w.key key).0 in let over = c.if-key-written_keys.false in omega arith),
  (λ less. before_end c.args.ix.now c.position_count.result q w c.position_count.ensures at),
)
