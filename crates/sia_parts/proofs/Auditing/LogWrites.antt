-- First writes by number: what has a number was written, and what a row says of the writes before it.
use Rattle.std.proofs.Common.{◌≡◌, ℕ, zero, suc, ◌-◌, ◌<◌, ◌≤◌, true, false, List, [], ◌∷◌, length, take, get_or, Some, None, refl, sym, subst, ◌∙◌, ap, slice_get, arith}
use Rattle.std.specs.Prelude.{◌↔◌, IsTrue}
use Rattle.std.specs.List.{list_any}
use Rattle.std.proofs.Math.Bool.{or-true}
use Rattle.std.proofs.lemmas.List.{get_or-take, length-take}
use Rattle.std.proofs.lemmas.Option.{get_or_from_slice_get, slice_get-get_or, slice_get_within}
use Rattle.sia_events.specs.declared.event.Event.{Event}
use Rattle.sia_events.specs.declared.event.Event.TheVariants.{Write}
use Rattle.sia_events.specs.Known.{writes}
use Rattle.sia_events.specs.declared.log.Row.{Row}
use Rattle.sia_events.specs.declared.log.Row.TheVariants as rows
use Rattle.sia_events.specs.Numbering.{names_of, key_at, same_pair, txn_at, write_at, writes_of, IsMarked}
use Rattle.sia_parts.specs.Seeing.{txn_in}
use Rattle.sia_events.specs.Places.{at_place}
use Rattle.sia_events.specs.Transactions.{WroteBefore, Wrote}
use Rattle.sia_events.proofs.LogRows.Distinct.{numbered_writes}
use Rattle.sia_events.proofs.Shared.Faults.{any_among, among_any, same_true, writes_is, writes_same}

any_there : (q : ℕ × ℕ) (xs : List (ℕ × ℕ)) (i : ℕ) → slice_get xs i ≡ Some q → list_any (same_pair q) xs ≡ true
any_there q [] i at = absurd (let e : None ≡ Some q = at in cc)
any_there q (x ∷ xs) zero at = let e : x ≡ q = (let s : Some x ≡ Some q = at in cc) in rw (e, same_true q.0, same_true q.1) refl
any_there q (x ∷ xs) (suc i) at = rw (any_there q xs i at) (or-true (same_pair q x))

pub numbered_wrote : (h : List Event) (w k t : ℕ) → slice_get (writes_of h) w ≡ Some (k, t) → Wrote h t k
numbered_wrote h w k t at =
    let found = any_among (writes (k, t)) h (sym (numbered_writes (k, t) h) ∙ any_there (k, t) (writes_of h) w at) in
    (suc found.1.0, found.1.1 ∙ ap Some (writes_is k t found.0 found.2))

-- what write number w made was written
pub write_wrote : (h : List Event) (w : ℕ) → 0 < w → w ≤ length (writes_of h) → Wrote h (write_at (names_of h) (w - 1)).1 (write_at (names_of h) (w - 1)).0
write_wrote h w some bound = numbered_wrote h (w - 1) (write_at (names_of h) (w - 1)).0 (write_at (names_of h) (w - 1)).1 (slice_get-get_or (writes_of h) (w - 1) (0, 0) (omega arith))

module _ (h : List Event) (t k p : ℕ) (some : 0 < p) where
  -- a mark of the events before the place
  pub marked_wrote : list_any (same_pair (k, t)) (writes_of (take (p - 1) h)) ≡ true → WroteBefore h t k p
  marked_wrote is =
      let found = any_among (writes (k, t)) (take (p - 1) h) (sym (numbered_writes (k, t) (take (p - 1) h)) ∙ is) in
      let j = found.1.0 in
      let e = found.0 in
      let within : j < length (take (p - 1) h) = slice_get_within (take (p - 1) h) j e found.1.1 in
      let long = length-take (p - 1) h in
      let own : get_or h j e ≡ e = sym (get_or-take (p - 1) h j e (omega arith)) ∙ get_or_from_slice_get (take (p - 1) h) j e e found.1.1 in
      (suc j, omega arith, slice_get-get_or h j e (omega arith) ∙ ap Some (own ∙ writes_is k t e found.2))

  pub wrote_marked : WroteBefore h t k p → list_any (same_pair (k, t)) (writes_of (take (p - 1) h)) ≡ true
  wrote_marked w = numbered_writes (k, t) (take (p - 1) h) ∙ at_index w.0 w.1 w.2
    where
      at_index : (q : ℕ) → q < p → at_place h q ≡ Some (Write t k) → list_any (writes (k, t)) (take (p - 1) h) ≡ true
      at_index zero less at = absurd cc
      at_index (suc j) less at =
          let within : j < length h = slice_get_within h j (Write t k) at in
          let long = length-take (p - 1) h in
          let there : slice_get (take (p - 1) h) j ≡ Some (Write t k) = slice_get-get_or (take (p - 1) h) j (Write t k) (omega arith) ∙ ap Some (get_or-take (p - 1) h j (Write t k) (omega arith) ∙ get_or_from_slice_get h j (Write t k) (Write t k) at) in
          among_any (writes (k, t)) (take (p - 1) h) (Write t k) (j, there) (writes_same k t)

-- what a row's mark says of its reader
unmarked : (h : List Event) (t k p : ℕ) → 0 < p → list_any (same_pair (k, t)) (writes_of (take (p - 1) h)) ≡ false → IsTrue false ↔ WroteBefore h t k p
unmarked h t k p some none = ((λ e. absurd cc), (λ w. let m = wrote_marked h t k p some w in absurd cc))

marked : (h : List Event) (t k p : ℕ) → 0 < p → list_any (same_pair (k, t)) (writes_of (take (p - 1) h)) ≡ true → IsTrue true ↔ WroteBefore h t k p
marked h t k p some is = ((λ e. marked_wrote h t k p some is), (λ w. refl))

module _ (h : List Event) (p : ℕ) (some : 0 < p) (row : Row) (d k w t j : ℕ) (txn : t ≡ txn_at (names_of h) (txn_in row)) (key : j ≡ key_at (names_of h) k) (mark : IsMarked (names_of h) (take (p - 1) h) row) where
  pub read_mine : row ≡ rows.Read d k w → IsTrue false ↔ WroteBefore h t j p
  read_mine is =
      let own : t ≡ txn_at (names_of h) d = txn ∙ ap (λ r. txn_at (names_of h) (txn_in r)) is in
      let none = subst (IsMarked (names_of h) (take (p - 1) h)) is mark in
      subst (λ u. IsTrue false ↔ WroteBefore h u j p) (sym own) (subst (λ i. IsTrue false ↔ WroteBefore h (txn_at (names_of h) d) i p) (sym key) (unmarked h (txn_at (names_of h) d) (key_at (names_of h) k) p some none))

  pub own_mine : row ≡ rows.OwnRead d k w → IsTrue true ↔ WroteBefore h t j p
  own_mine is =
      let own : t ≡ txn_at (names_of h) d = txn ∙ ap (λ r. txn_at (names_of h) (txn_in r)) is in
      let some_there = subst (IsMarked (names_of h) (take (p - 1) h)) is mark in
      subst (λ u. IsTrue true ↔ WroteBefore h u j p) (sym own) (subst (λ i. IsTrue true ↔ WroteBefore h (txn_at (names_of h) d) i p) (sym key) (marked h (txn_at (names_of h) d) (key_at (names_of h) k) p some some_there))
