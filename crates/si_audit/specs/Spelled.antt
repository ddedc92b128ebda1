-- The words of transactions and keys in lines.
use Rattle.std.specs.Prelude.{◌≡◌, ◌++◌, ◌∷◌, [], ℕ, List, codes, map}
use Rattle.sia_events.specs.declared.event.Event.{Event}
use Rattle.sia_events.specs.Lists.{ListsAscending}
use Rattle.sia_events.specs.Text.{numeral}
use Rattle.sia_events.specs.Transactions.{IsCommitted}
use Rattle.sia_index.specs.Info.{AreWrittenKeys}
use Rattle.si_audit.specs.declared.spelled.Spelled.{Spelled}
use Rattle.si_audit.specs.Sheet.{text_of}

-- a space and the number, and behind a key the end of the line
abbrev pub txn_word : ℕ → List ℕ
txn_word t = codes " " ++ numeral t

abbrev pub key_word : ℕ → List ℕ
key_word k = codes " " ++ numeral k ++ 10 ∷ []

-- those of the committed transactions and of the written keys, by their numbers
pub record AreSpelled (h : List Event) (s : Spelled) : Type 0 where
  pub txns : (txns : List ℕ) × ListsAscending (IsCommitted h) txns × (map text_of s.txns.items ≡ map txn_word txns)
  pub keys : (keys : List ℕ) × AreWrittenKeys h keys × (map text_of s.keys.items ≡ map key_word keys)
