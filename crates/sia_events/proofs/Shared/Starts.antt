-- A transaction has one first event, and one start.
use Rattle.std.proofs.Common.{◌≡◌, ℕ, ◌+◌, List, Option, Some, None, ap, sym, subst, ◌∙◌, arith}
use Rattle.std.specs.Prelude.{MatchOption}
use Rattle.std.proofs.lemmas.Option.{same_Some}
use Rattle.sia_events.specs.declared.event.Event.{Event}
use Rattle.sia_events.specs.Places.{at_place}
use Rattle.sia_events.specs.Events.{named_start}
use Rattle.sia_events.specs.Transactions.{IsFirstEvent, StartsAt, Sees}
use Rattle.sia_events.proofs.Shared.TransactionDecisions.{place_within}

-- two events at one place are one
pub one_event : (h : List Event) (p q : ℕ) (e f : Event) → p ≡ q → at_place h p ≡ Some e → at_place h q ≡ Some f → e ≡ f
one_event h p q e f same a b = same_Some e f (sym a ∙ ap (at_place h) same ∙ b)

-- a transaction has one first event
pub one_first : (h : List Event) (t p q : ℕ) (e f : Event) → IsFirstEvent h t p e → IsFirstEvent h t q f → (p ≡ q) × (e ≡ f)
one_first h t p q e f a b = grind (arith, a.2 q (f, b.0, b.1), b.2 p (e, a.0, a.1), one_event)

-- a transaction has one start
pub one_start : (h : List Event) (t s r : ℕ) → StartsAt h t s → StartsAt h t r → s ≡ r
one_start h t s r a b =
    let same = one_first h t a.0 b.0 a.1 b.1 a.2 b.2 in
    by_name (named_start b.1) a.0 b.0 same.0 (subst (λ e. MatchOption (named_start e) (s + 1 ≡ a.0) (λ n. s ≡ n)) same.1 a.3) b.3
  where
    by_name : (o : Option ℕ) (p q : ℕ) → p ≡ q → MatchOption o (s + 1 ≡ p) (λ n. s ≡ n) → MatchOption o (r + 1 ≡ q) (λ n. r ≡ n) → s ≡ r
    by_name None p q e x y = omega arith
    by_name (Some n) p q e x y = x ∙ sym y

-- what starts before every event sees no commit
pub none_seen_from_zero : (h : List Event) (t u : ℕ) → StartsAt h t 0 → ¬ Sees h t u
none_seen_from_zero h t u start sees = grind (arith, one_start h t sees.0 0 sees.2 start, place_within)
