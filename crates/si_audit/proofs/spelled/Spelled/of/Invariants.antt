-- The words so far.
use Rattle.std.proofs.Common.{◌≡◌, map, take}
use Rattle.si_audit.specs.Sheet.{text_of}
use Rattle.si_audit.specs.Spelled.{key_word, txn_word}
use Rattle.si_audit.proofs.spelled.Spelled.of.Given as goal

abbrev pub invariant-loop-txn : goal.invariant-loop-txn
invariant-loop-txn l = map text_of l.txns.items ≡ map txn_word (take l.txn-index l.committed)

abbrev pub invariant-loop-key : goal.invariant-loop-key
invariant-loop-key l = map text_of l.keys.items ≡ map key_word (take l.key-index l.written)
