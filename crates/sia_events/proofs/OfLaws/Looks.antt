-- What a committed transaction looked at can be told, so of the versions that it looked at one is the oldest and one the newest.
use Rattle.std.proofs.Common.{◌≡◌, ◌≢◌, ◌⊎◌, inl, inr, ℕ, zero, suc, ◌+◌, ◌<◌, ◌≤◌, List, length, refl, subst, ◌∙◌, arith}
use Rattle.std.proofs.lemmas.Bool.{cases_eq}
use Rattle.sia_events.specs.declared.event.Event.{Event}
use Rattle.sia_events.specs.declared.event.Event.TheVariants.{Commit}
use Rattle.sia_events.specs.Refusals.{IsWellFormed}
use Rattle.sia_events.specs.Transactions.{IsCommitted, CommitsAt}
use Rattle.sia_events.specs.Reads.{SawAt}
use Rattle.sia_events.specs.NarrowDependencies.{IsAsOf, Looked, CommitsVersion}
use Rattle.sia_events.proofs.Shared.Decisions.{Decided, first_below, last_below}
use Rattle.sia_events.proofs.Shared.TransactionDecisions.{place_within, some_place, committed_or_not}
use Rattle.sia_events.proofs.OfLaws.SawDecisions.{saw_at_or_not}
use Rattle.sia_events.proofs.OfLaws.Endings.{one_committer, committer_or_none}
use Rattle.sia_events.proofs.OfLaws.Seen.{saw_writer, actor_is_txn}

module _ (h : List Event) where
  -- nothing commits at place 0
  pub commits_above : (v c : ℕ) → CommitsAt h v c → 0 < c
  commits_above v c at = (place_within h c (Commit v) at).0

  -- one version is that as of a place
  one_as_of : (v w c : ℕ) → IsAsOf h v c → IsAsOf h w c → v ≡ w
  one_as_of v w c h p = grind (arith, commits_above, one_committer)

  -- the version as of a place, or none
  as_of_or_none : (c : ℕ) → ((v : ℕ) × IsAsOf h v c) ⊎ ((v : ℕ) → ¬ IsAsOf h v c)
  as_of_or_none zero = inl (0, inl (refl, refl))
  as_of_or_none (suc i) = elim (committer_or_none h (suc i)) [
    | inl found ↦ inl (found.0, inr found.1)
    | inr none ↦ inr (λ v a. elim a [ inl is ↦ (let zero_is : suc i ≡ 0 = is.1 in omega arith) | inr at ↦ none v at ])
  ]

  module _ (t k : ℕ) where
    -- whether t saw a version of k
    sees_or_not : (v : ℕ) → Decided ((p : ℕ) × SawAt h p t k v)
    sees_or_not v = some_place h (λ p. SawAt h p t k v) (λ p. saw_at_or_not h p t k v) (λ p saw. (place_within h p saw.0 saw.1).1)

    -- whether t looked at k as of a place
    looked_or_not : (c : ℕ) → Decided (Looked h t k c)
    looked_or_not c = of_version (committed_or_not h t) (as_of_or_none c)
      where
        of_sight : IsCommitted h t → (v : ℕ) → IsAsOf h v c → Decided ((p : ℕ) × SawAt h p t k v) → Decided (v ≡ t) → Decided (Looked h t k c)
        of_sight done v is (inl saw) (inr other) = inl (done, saw.0, v, saw.1, other, is)
        of_sight done v is (inl saw) (inl own) = inr (λ look. look.4 (one_as_of look.2 v c look.5 is ∙ own))
        of_sight done v is (inr none) own = inr (λ look. none (look.1, subst (λ w. SawAt h look.1 t k w) (one_as_of look.2 v c look.5 is) look.3))

        of_version : Decided (IsCommitted h t) → ((v : ℕ) × IsAsOf h v c) ⊎ ((v : ℕ) → ¬ IsAsOf h v c) → Decided (Looked h t k c)
        of_version (inr never) version = inr (λ look. never look.0)
        of_version (inl done) (inr none) = inr (λ look. none look.2 look.5)
        of_version (inl done) (inl version) = of_sight done version.0 version.1 (sees_or_not version.0) (cases_eq version.0 t)

    look_within : (c : ℕ) → Looked h t k c → c ≤ length h
    look_within c look = elim look.5 [ inl none ↦ (let z : c ≡ 0 = none.1 in omega arith) | inr at ↦ (place_within h c (Commit look.2) at).1 ]

    pub oldest_look : (c : ℕ) → Looked h t k c → (o : ℕ) × Looked h t k o × ((d : ℕ) → Looked h t k d → o ≤ d)
    oldest_look c look = elim (first_below (Looked h t k) looked_or_not (c + 1)) [
      | inl found ↦ (found.0, found.2, found.3)
      | inr none ↦ absurd (none c (omega arith) look)
    ]

    pub newest_look : (c : ℕ) → Looked h t k c → (n : ℕ) × Looked h t k n × ((d : ℕ) → Looked h t k d → d ≤ n)
    newest_look c look = elim (last_below (Looked h t k) looked_or_not (length h + 1)) [
      | inl found ↦ (found.0, found.2, λ d other. found.3 d (let within : d ≤ length h = look_within d other in omega arith) other)
      | inr none ↦ absurd (none c (let within : c ≤ length h = look_within c look in omega arith) look)
    ]

    -- what t looked at as of a place above 0 is a version that was committed there
    pub looked_version : IsWellFormed h → (c : ℕ) → 0 < c → Looked h t k c → (v : ℕ) × CommitsVersion h k v c
    looked_version wf c above look = elim look.5 [
      | inl none ↦ absurd (let z : c ≡ 0 = none.1 in omega arith)
      | inr at ↦
          let v : ℕ = look.2 in
          let positive : 0 < v = (actor_is_txn h wf v c (Commit v, at, refl)).0 in
          (v, ((saw_writer h wf look.1 t k v look.3 (λ e. omega arith) (c, at)).0, at))
    ]

    -- and that version was seen
    pub looked_saw : (c v : ℕ) → Looked h t k c → CommitsAt h v c → (p : ℕ) × SawAt h p t k v × (v ≢ t)
    looked_saw c v look at = grind (arith, one_as_of)
