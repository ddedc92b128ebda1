-- One step more, to who is so to a position.
use Rattle.std.proofs.Common.{◌≡◌, ◌≢◌, ℕ, ◌<◌, List, Option, Some, arith, ◌↔◌}
use Rattle.sia_events.specs.declared.event.Event.{Event}
use Rattle.sia_events.specs.Refusals.{IsWellFormed}
use Rattle.sia_index.specs.Numbers.{IsCommittedAt}
use Rattle.sia_parts.specs.Sights.{Adds}
use Rattle.sia_parts.proofs.Shared.Adding.{adds_same}
use Rattle.sia_parts.proofs.Shared.FewNumbers.{few_committed}
use Rattle.sia_graph.specs.Makers.{IsFirstMaker, IsMaker, IsNextMaker}
use Rattle.sia_graph.specs.NarrowSteps.{node_of}
use Rattle.sia_graph.specs.SparseGraphs.{IsStepTo}

pub step_put : (size txn : ℕ) (IsSo : ℕ → ℕ → Type 0) (q : ℕ) (found : Option ℕ) → ((i : ℕ) → (found ≡ Some i) ↔ IsSo q i) → (old new : List ℕ)
    → Adds (λ n. (i : ℕ) × (found ≡ Some i) × (i ≢ txn) × (n ≡ node_of size i)) old new → Adds (IsStepTo size txn IsSo q) old new
step_put size txn IsSo q found told old new =
    adds_same (λ n. (i : ℕ) × (found ≡ Some i) × (i ≢ txn) × (n ≡ node_of size i)) (IsStepTo size txn IsSo q) old new
    (λ n p. (p.0, (told p.0).0 p.1, p.2, p.3))
    (λ n p. (p.0, (told p.0).1 p.1, p.2, p.3))

-- the numbers of makers are few
module _ (h : List Event) (wf : IsWellFormed h) where
  few : (i t : ℕ) → IsCommittedAt h i t → i < 1073741824
  few i t at = let l = few_committed h wf i t at in omega arith

  pub few_maker : (q i : ℕ) → IsMaker h q i → i < 1073741824
  few_maker q i m = few i m.0.txn m.3

  pub few_next : (q i : ℕ) → IsNextMaker h q i → i < 1073741824
  few_next q i m = few i m.2 m.4

  pub few_first : (j i : ℕ) → IsFirstMaker h j i → i < 1073741824
  few_first j i m = few i m.1 m.4
