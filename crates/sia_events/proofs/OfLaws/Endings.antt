-- A transaction of a well-formed history ends once, and nothing of it follows its end.
use Rattle.std.proofs.Common.{◌≡◌, ◌≢◌, ◌⊎◌, inl, inr, ℕ, ◌≤◌, List, Option, Some, None, refl, sym, subst, ◌∙◌, arith}
use Rattle.sia_events.specs.declared.event.Event.{Event}
use Rattle.sia_events.specs.declared.event.Event.TheVariants.{Commit, Abort}
use Rattle.sia_events.specs.declared.fault.Reason.TheVariants.{AlreadyEnded}
use Rattle.sia_events.specs.Places.{at_place}
use Rattle.sia_events.specs.Refusals.{IsWellFormed}
use Rattle.sia_events.specs.Transactions.{ActsAt, CommitsAt, AbortsAt}
use Rattle.sia_events.proofs.Shared.Starts.{one_event}
use Rattle.sia_events.proofs.Shared.Decisions.{at_most}
use Rattle.sia_events.proofs.Writing.WellFormed.{event_has_none, nothing_after_end}

-- nothing of a transaction follows its commit
pub none_after_commit : (h : List Event) → IsWellFormed h → (t p c : ℕ) → ActsAt h t p → CommitsAt h t c → p ≤ c
none_after_commit h wf t p c a b = nothing_after_end h wf p c a.0 a.1 (subst (λ u. at_place h c ≡ Some (Commit u)) (sym a.2) b)

-- nothing of a transaction follows its abort
pub none_after_abort : (h : List Event) → IsWellFormed h → (t p c : ℕ) → ActsAt h t p → AbortsAt h t c → p ≤ c
none_after_abort h wf t p c a b = at_most p c (λ less. event_has_none h wf p a.0 a.1 AlreadyEnded (inr (c, less, subst (λ u. at_place h c ≡ Some (Abort u)) (sym a.2) b)))

-- a transaction aborts once
pub one_abort : (h : List Event) → IsWellFormed h → (t p q : ℕ) → AbortsAt h t p → AbortsAt h t q → p ≡ q
one_abort h wf t p q a b = grind (arith, none_after_abort h wf t p q (Abort t, a, refl) b, none_after_abort h wf t q p (Abort t, b, refl) a)

-- what commits doesn't abort
pub one_end : (h : List Event) → IsWellFormed h → (t p q : ℕ) → CommitsAt h t p → ¬ AbortsAt h t q
one_end h wf t p q a b = grind (arith, none_after_abort h wf t p q (Commit t, a, refl) b, none_after_commit h wf t q p (Abort t, b, refl) a, one_event)

-- a place commits one transaction
pub one_committer : (h : List Event) (t u p : ℕ) → CommitsAt h t p → CommitsAt h u p → t ≡ u
one_committer h t u p a b = let same : Commit t ≡ Commit u = one_event h p p (Commit t) (Commit u) refl a b in cc

-- two transactions commit at two places
pub two_commits : (h : List Event) (t u p q : ℕ) → t ≢ u → CommitsAt h t p → CommitsAt h u q → p ≢ q
two_commits h t u p q other a b same = other (one_committer h t u q (subst (CommitsAt h t) same a) b)

-- the transaction that commits at a place, or none
pub committer_or_none : (h : List Event) (c : ℕ) → ((t : ℕ) × CommitsAt h t c) ⊎ ((t : ℕ) → ¬ CommitsAt h t c)
committer_or_none h c = of_place (at_place h c) refl
  where
    none_but_commits : (o : Option Event) → at_place h c ≡ o → ((t : ℕ) → ¬ (o ≡ Some (Commit t))) → ((t : ℕ) × CommitsAt h t c) ⊎ ((t : ℕ) → ¬ CommitsAt h t c)
    none_but_commits o is other = inr (λ t at. other t (sym is ∙ at))

    of_place : (o : Option Event) → at_place h c ≡ o → ((t : ℕ) × CommitsAt h t c) ⊎ ((t : ℕ) → ¬ CommitsAt h t c)
    of_place None is = none_but_commits None is (λ t e. cc)
    of_place (Some (Commit t)) is = inl (t, is)
    of_place (Some e) is = none_but_commits (Some e) is (λ t p. cc)
