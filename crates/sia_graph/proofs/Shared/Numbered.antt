-- A number, a key's number and a position each stand for one thing, and each committed version stands at a position.
use Rattle.std.proofs.Common.{◌≡◌, ℕ, List, ◌∷◌, ◌∙◌, arith}
use Rattle.std.proofs.lemmas.List.{get_or_default}
use Rattle.sia_events.specs.declared.event.Event.{Event}
use Rattle.sia_events.specs.Lists.{ListsAscending}
use Rattle.sia_events.specs.NarrowDependencies.{IsNextVersion}
use Rattle.sia_events.specs.Transactions.{IsCommitted}
use Rattle.sia_events.proofs.OfLaws.Endings.{one_committer}
use Rattle.sia_index.specs.Numbers.{IsCommittedAt}
pub use Rattle.sia_parts.proofs.Auditing.Committing.{committed_number as txn_number, at_is_committed as is_committed_at}
pub use Rattle.sia_parts.proofs.Shared.BadWrites.{made_version as commits_at}

module _ (h : List Event) where
  pub number_of : (txns : List ℕ) → ListsAscending (IsCommitted h) txns → (t : ℕ) → IsCommitted h t → (i : ℕ) × IsCommittedAt h i t
  number_of txns are t c = let w = (are.each t).1 c in (w.0, (txns, are, w.1, get_or_default txns w.0 0 t w.1 ∙ w.2))

  -- one version comes next
  pub one_next : (k c t u : ℕ) → IsNextVersion h k c t → IsNextVersion h k c u → t ≡ u
  one_next k c t u a b = grind (arith, one_committer)
