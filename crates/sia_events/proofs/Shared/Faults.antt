-- The faults that the tables find are the reasons that an event has.
use Rattle.std.proofs.Common.{◌≡◌, ◌≢◌, ◌⊎◌, inl, inr, ℕ, zero, suc, ◌+◌, ◌<◌, ◌≤◌, Bool, true, false, cond, List, [], ◌∷◌, length, slice_get, Option, Some, None, refl, ap, sym, subst, ◌∙◌, arith, nat_lt}
use Rattle.std.specs.Prelude.{◌==◌, ◌&&◌, ◌||◌, not, map, Contains, slice_index}
use Rattle.std.specs.List.{list_any, list_all, AllByRecursion}
use Rattle.std.specs.List.Sorted.{IsStrictlyIncreasing}
use Rattle.std.proofs.lemmas.List.Elements.{All-from_recursion}
use Rattle.std.proofs.lemmas.Bool.{eqb-true, or_cases, and_parts, not-true}
use Rattle.std.proofs.lemmas.Bool.Decides.{nat_tests}
use Rattle.sia_events.specs.declared.event.Event.{Event}
use Rattle.sia_events.specs.declared.event.Event.TheVariants.{Write, Commit, Abort}
use Rattle.sia_events.specs.declared.fault.Reason.{Reason}
use Rattle.sia_events.specs.Refusals.{IsGoodList}
use Rattle.sia_events.specs.Known.{ends, writes, is_explained, goes_up}
use Rattle.std.proofs.Math.Bool.{or-true}

-- the event is one of these
abbrev pub IsAmong : List Event → Event → Type 0
IsAmong events e = (j : ℕ) × (slice_get events j ≡ Some e)

pub any_among : (test : Event → Bool) (events : List Event) → list_any test events ≡ true → (e : Event) × IsAmong events e × (test e ≡ true)
any_among test [] p = absurd cc
any_among test (e ∷ events) p = elim (or_cases (test e) (list_any test events) p) [
  | inl here ↦ (e, (0, refl), here)
  | inr later ↦ (let h = any_among test events later in (h.0, (suc h.1.0, h.1.1), h.2))
]

pub among_any : (test : Event → Bool) (events : List Event) (e : Event) → IsAmong events e → test e ≡ true → list_any test events ≡ true
among_any test [] e (j, is) p = cc
among_any test (f ∷ es) e (zero, is) p = (let same : f ≡ e = cc in rw (ap test same ∙ p) refl)
among_any test (f ∷ es) e (suc j, is) p = rw (among_any test es e (j, is) p) (or-true (test f))

-- ---- what the tests say

pub same_true : (n : ℕ) → (n == n) ≡ true
same_true n = grind (arith, nat_tests)

pub ends_is : (t : ℕ) (e : Event) → ends t e ≡ true → (e ≡ Commit t) ⊎ (e ≡ Abort t)
ends_is t e p = grind (arith, eqb-true)

pub writes_is : (k v : ℕ) (e : Event) → writes (k, v) e ≡ true → e ≡ Write v k
writes_is k v e p = grind (arith, and_parts, eqb-true)

pub writes_same : (k v : ℕ) → writes (k, v) (Write v k) ≡ true
writes_same k v = rw (same_true k, same_true v) refl

pub true_false : (b : Bool) → b ≡ true → b ≡ false → ⊥
true_false b p q = cc

-- ---- an event in which the tables find no fault has no reason

pub none_of : (b : Bool) (r : Reason) (rest : Option Reason) → cond b (Some r) rest ≡ None → (b ≡ false) × (rest ≡ None)
none_of b r rest e = grind (arith)

pub else_none : (b : Bool) (r : Reason) (rest : Option Reason) → cond b rest (Some r) ≡ None → (b ≡ true) × (rest ≡ None)
else_none b r rest e = grind (arith)

pub explained : (events : List Event) (k v : ℕ) → is_explained events (k, v) ≡ true → v ≢ 0 → IsAmong events (Write v k)
unfolding is_explained
explained events k v p other =
    let zero : (v == 0) ≡ false = grind (arith, nat_tests) in
    let found = any_among (writes (k, v)) events (subst (λ b. (b || list_any (writes (k, v)) events) ≡ true) zero p) in
    subst (IsAmong events) (writes_is k v found.0 found.2) found.1

pub all_explained : (events : List Event) (listed : List (ℕ × ℕ)) → list_all (is_explained events) listed ≡ true → (k v : ℕ) → Contains listed (k, v) → v ≢ 0 → IsAmong events (Write v k)
all_explained events [] q k v (i, below, e) other = absurd (omega arith)
all_explained events (p ∷ ps) q k v (zero, below, e) other = grind (arith, and_parts, explained)
all_explained events (p ∷ ps) q k v (suc i, below, e) other =
    (let h = and_parts (is_explained events p) (list_all (is_explained events) ps) q in all_explained events ps h.1 k v (i, omega arith, e) other)

increasing_cons : (x : ℕ) (xs : List ℕ) → (0 < length xs → x < slice_index xs 0) → IsStrictlyIncreasing xs → IsStrictlyIncreasing (x ∷ xs)
increasing_cons x xs first more zero below = first (omega arith)
increasing_cons x xs first more (suc k) below =
    let next : suc k + 1 ≡ suc (k + 1) = omega arith in
    subst (λ n. slice_index (x ∷ xs) (suc k) < slice_index (x ∷ xs) n) (sym next) (more k (omega arith))

-- keys from least to hi, in order
record GoesUp (least hi : ℕ) (ps : List (ℕ × ℕ)) : Type 0 where
  within : AllByRecursion (λ p. (least ≤ p.0) × (p.0 ≤ hi)) ps
  increasing : IsStrictlyIncreasing (map (λ p. p.0) ps)

from_lower : (least more hi : ℕ) (ps : List (ℕ × ℕ)) → least ≤ more → AllByRecursion (λ p. (more ≤ p.0) × (p.0 ≤ hi)) ps → AllByRecursion (λ p. (least ≤ p.0) × (p.0 ≤ hi)) ps
from_lower least more hi [] le a = tt
from_lower least more hi (p ∷ ps) le a = (((let low : more ≤ p.0 = a.0.0 in omega arith), a.0.1), from_lower least more hi ps le a.1)

goes_up_is : (least hi : ℕ) (ps : List (ℕ × ℕ)) → goes_up least hi ps ≡ true → GoesUp least hi ps
goes_up_is least hi [] e = record { within = tt; increasing = λ k below. absurd (omega arith) }
goes_up_is least hi (p ∷ ps) e =
    let a = and_parts (not (nat_lt p.0 least)) (not (nat_lt hi p.0) && goes_up (p.0 + 1) hi ps) e in
    let b = and_parts (not (nat_lt hi p.0)) (goes_up (p.0 + 1) hi ps) a.1 in
    let above = not-true (nat_lt p.0 least) a.0 in
    let below = not-true (nat_lt hi p.0) b.0 in
    let low : least ≤ p.0 = grind (arith, nat_tests) in
    let high : p.0 ≤ hi = grind (arith, nat_tests) in
    let rest = goes_up_is (p.0 + 1) hi ps b.1 in
    record {
      within = ((low, high), from_lower least (p.0 + 1) hi ps (omega arith) rest.within);
      increasing = increasing_cons p.0 (map (λ q. q.0) ps) (first p.0 ps rest.within) rest.increasing;
    }
  where
    first : (x : ℕ) (qs : List (ℕ × ℕ)) → AllByRecursion (λ q. (x + 1 ≤ q.0) × (q.0 ≤ hi)) qs → 0 < length (map (λ q. q.0) qs) → x < slice_index (map (λ q. q.0) qs) 0
    first x [] w some = absurd (omega arith)
    first x (q ∷ qs) w some = (let low : x + 1 ≤ q.0 = w.0.0 in omega arith)

pub good_list : (lo hi : ℕ) (listed : List (ℕ × ℕ)) → goes_up lo hi listed ≡ true → IsGoodList lo hi listed
good_list lo hi listed e =
    let g = goes_up_is lo hi listed e in
    (All-from_recursion (λ p. (lo ≤ p.0) × (p.0 ≤ hi)) listed g.within, g.increasing)
