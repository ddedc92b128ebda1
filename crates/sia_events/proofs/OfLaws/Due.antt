-- In a well-formed history one version is due to a read of a key by a transaction.
use Rattle.std.proofs.Common.{◌≡◌, ◌⊎◌, inl, inr, ℕ, ◌+◌, ◌<◌, ◌≤◌, List, refl, sym, subst, ◌∙◌, arith}
use Rattle.sia_events.specs.declared.event.Event.{Event}
use Rattle.sia_events.specs.Refusals.{IsWellFormed}
use Rattle.sia_events.specs.Transactions.{HasEvent, StartsAt, CommitsAt, Wrote, WroteBefore}
use Rattle.sia_events.specs.Reads.{IsVisible, IsNewestVisible, IsDue}
use Rattle.sia_events.proofs.Shared.Decisions.{Decided, last_below}
use Rattle.sia_events.proofs.Shared.TransactionDecisions.{wrote_or_not, wrote_before_or_not, has_start}
use Rattle.sia_events.proofs.Shared.Starts.{one_start}
use Rattle.sia_events.proofs.OfLaws.Endings.{one_committer, committer_or_none}
use Rattle.sia_events.proofs.Writing.WellFormed.{one_commit}

-- of the visible writers of a key one committed last
pub one_newest : (h : List Event) (t k v w : ℕ) → IsNewestVisible h t k v → IsNewestVisible h t k w → v ≡ w
one_newest h t k v w a b = grind (arith, one_committer)

-- one version at most is due
pub one_due : (h : List Event) (t p k v w : ℕ) → IsDue h t p k v → IsDue h t p k w → v ≡ w
one_due h t p k v w (inl a) (inl b) = a.1 ∙ sym b.1
one_due h t p k v w (inl a) (inr b) = absurd (b.0 a.0)
one_due h t p k v w (inr a) (inl b) = absurd (a.0 b.0)
one_due h t p k v w (inr a) (inr b) = of_newest a.1 b.1
  where
    of_newest : IsNewestVisible h t k v ⊎ (((u : ℕ) → ¬ IsVisible h t k u) × (v ≡ 0)) → IsNewestVisible h t k w ⊎ (((u : ℕ) → ¬ IsVisible h t k u) × (w ≡ 0)) → v ≡ w
    of_newest (inl x) (inl y) = one_newest h t k v w x y
    of_newest (inl x) (inr y) = absurd (y.0 v x.0)
    of_newest (inr x) (inl y) = absurd (x.0 w y.0)
    of_newest (inr x) (inr y) = x.1 ∙ sym y.1

-- a writer of k commits at place c
abbrev pub WriterCommits : List Event → ℕ → ℕ → Type 0
WriterCommits h k c = (u : ℕ) × CommitsAt h u c × Wrote h u k

pub writer_or_not : (h : List Event) (k c : ℕ) → Decided (WriterCommits h k c)
writer_or_not h k c = elim (committer_or_none h c) [
  | inl found ↦ elim (wrote_or_not h found.0 k) [
    | inl wrote ↦ inl (found.0, found.1, wrote)
    | inr none ↦ inr (λ w. none (subst (λ x. Wrote h x k) (one_committer h w.0 found.0 c w.1 found.1) w.2))
  ]
  | inr none ↦ inr (λ w. none w.0 w.1)
]

-- and one is due to what has an event
pub has_due : (h : List Event) → IsWellFormed h → (t p k : ℕ) → HasEvent h t → (v : ℕ) × IsDue h t p k v
has_due h wf t p k has = elim (wrote_before_or_not h t k p) [
  | inl own ↦ (t, inl (own, refl))
  | inr other ↦ of_start (has_start h t has).0 (has_start h t has).1 other
]
  where
    of_start : (s : ℕ) → StartsAt h t s → ¬ WroteBefore h t k p → (v : ℕ) × IsDue h t p k v
    of_start s start other = elim (last_below (WriterCommits h k) (writer_or_not h k) (s + 1)) [
      | inl last ↦ (last.2.0, inr (other, inl (newest last.0 last.1 last.2 last.3)))
      | inr none ↦ (0, inr (other, inr ((λ u v. none v.1.1 (seen_below u v) (u, v.1.3, v.0)), refl)))
    ]
      where
        seen_below : (u : ℕ) (v : IsVisible h t k u) → v.1.1 < s + 1
        seen_below u v =
            let same : v.1.0 ≡ s = one_start h t v.1.0 s v.1.2 start in
            let below : v.1.1 ≤ v.1.0 = v.1.4 in
            omega arith

        newest : (c : ℕ) → c < s + 1 → (w : WriterCommits h k c) → ((j : ℕ) → j < s + 1 → WriterCommits h k j → j ≤ c) → IsNewestVisible h t k w.0
        newest c below w last = (
          (w.2, (s, c, start, w.1, (let b : c < s + 1 = below in omega arith))),
          (λ x d e v at here.
              let same : d ≡ v.1.1 = one_commit h wf x d v.1.1 at v.1.3 in
              let own : e ≡ c = one_commit h wf w.0 e c here w.1 in
              let most : v.1.1 ≤ c = last v.1.1 (seen_below x v) (x, v.1.3, v.0) in
              omega arith),
        )
