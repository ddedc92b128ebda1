-- The numbers of the committed transactions.
use Rattle.std.proofs.Common.{◌≡◌, ℕ, ◌<◌, List, Option, Some, None, length, refl, subst, ◌∙◌}
use Rattle.std.specs.Prelude.{◌↔◌, IsSome, slice_index}
use Rattle.std.proofs.lemmas.List.{get_or_default}
use Rattle.std.proofs.lemmas.List.Elements.{Contains-get_or}
use Rattle.sia_events.specs.declared.event.Event.{Event}
use Rattle.sia_events.specs.Lists.{ListsAscending}
use Rattle.sia_events.specs.Transactions.{IsCommitted}
use Rattle.sia_events.proofs.Worked.OneList.{one_list_by}
use Rattle.sia_index.specs.Numbers.{IsCommittedAt}

-- a transaction has one number in a list of the committed ones
pub committed_number : (h : List Event) (txns : List ℕ) → ListsAscending (IsCommitted h) txns → (i t : ℕ) → IsCommittedAt h i t → (i < length txns) × (slice_index txns i ≡ t)
committed_number h txns are i t at =
    let same = one_list_by _ _ at.0 txns at.1 are in
    (subst (λ ts. i < length ts) same at.2, subst (λ ts. slice_index ts i ≡ t) same at.3)

-- what has a number committed
pub at_is_committed : (h : List Event) (i t : ℕ) → IsCommittedAt h i t → IsCommitted h t
at_is_committed h i t at = subst (IsCommitted h) at.3 ((at.1.each (slice_index at.0 i)).0 (Contains-get_or at.0 i 0 at.2))

-- whether a transaction committed, by its number
pub number_ends : (h : List Event) (ids : List ℕ) → ListsAscending (IsCommitted h) ids → (t : ℕ) (number : Option ℕ) → ((i : ℕ) → (number ≡ Some i) ↔ IsCommittedAt h i t) → IsSome number ↔ IsCommitted h t
number_ends h ids are t None told = (
  (λ never. absurd cc),
  (λ is.
      let c = (are.each t).1 is in
      let some = (told c.0).1 (ids, are, c.1, get_or_default ids c.0 0 t c.1 ∙ c.2) in
      absurd cc),
)
number_ends h ids are t (Some i) told = ((λ some. at_is_committed h i t ((told i).0 refl)), (λ is. refl))
