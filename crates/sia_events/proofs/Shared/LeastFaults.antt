-- The fault that the tables find is the least reason of the event.
use Rattle.std.proofs.Common.{◌≡◌, ◌≢◌, inl, inr, ℕ, suc, ◌+◌, ◌<◌, ◌≤◌, true, false, List, [], ◌∷◌, refl, sym, subst, arith, nat_lt}
use Rattle.std.specs.Prelude.{◌==◌, map, Contains, slice_index}
use Rattle.std.specs.List.{list_any, list_all, AllByRecursion}
use Rattle.std.specs.List.Sorted.{IsStrictlyIncreasing}
use Rattle.std.proofs.lemmas.Bool.{eqb-true, eq-eqb, or_parts, and_cases}
use Rattle.std.proofs.lemmas.Bool.Decides.{nat_tests}
use Rattle.std.proofs.lemmas.List.Elements.{recursion_from_All}
use Rattle.sia_events.specs.declared.event.Event.{Event}
use Rattle.sia_events.specs.declared.event.Event.TheVariants.{Write}
use Rattle.sia_events.specs.declared.fault.Reason.{Reason}
use Rattle.sia_events.specs.declared.fault.Reason.TheVariants.{TooManyEvents, BadEvent, BadNumber, AlreadyEnded}
use Rattle.sia_events.specs.Events.{actor}
use Rattle.sia_events.specs.Refusals.{IsInRange, IsGoodList, EventHas, reason_number}
use Rattle.sia_events.specs.Known.{acts, ends, writes, is_explained, goes_up}
use Rattle.sia_events.proofs.Shared.Faults.{IsAmong, any_among, among_any, writes_same, true_false, good_list}
use Rattle.sia_events.proofs.Shared.Fits.{none_ends}

-- ---- keys that go up are found to

above_first : (x : ℕ) (ys : List ℕ) → IsStrictlyIncreasing (x ∷ ys) → AllByRecursion (λ y. x < y) ys
above_first x [] up = tt
above_first x (y ∷ ys) up =
    let first : x < y = up 0 (omega arith) in
    let later : IsStrictlyIncreasing (y ∷ ys) = λ k below. subst (λ n. slice_index (y ∷ ys) k < slice_index (x ∷ y ∷ ys) n) (let e : suc k + 1 ≡ suc (k + 1) = omega arith in e) (up (suc k) (omega arith)) in
    (first, raised x y ys first (above_first y ys later))
  where
    raised : (a b : ℕ) (zs : List ℕ) → a < b → AllByRecursion (λ z. b < z) zs → AllByRecursion (λ z. a < z) zs
    raised a b [] less h = tt
    raised a b (z ∷ zs) less h = ((let more : b < z = h.0 in omega arith), raised a b zs less h.1)

later_up : (x : ℕ) (ys : List ℕ) → IsStrictlyIncreasing (x ∷ ys) → IsStrictlyIncreasing ys
later_up x ys up k below = subst (λ n. slice_index ys k < slice_index (x ∷ ys) n) (let e : suc k + 1 ≡ suc (k + 1) = omega arith in e) (up (suc k) (omega arith))

goes_up_from : (least hi : ℕ) (ps : List (ℕ × ℕ)) → AllByRecursion (λ p. (least ≤ p.0) × (p.0 ≤ hi)) ps → IsStrictlyIncreasing (map (λ p. p.0) ps) → goes_up least hi ps ≡ true
goes_up_from least hi [] within up = refl
goes_up_from least hi (p ∷ ps) within up =
    let low : least ≤ p.0 = within.0.0 in
    let high : p.0 ≤ hi = within.0.1 in
    let a : nat_lt p.0 least ≡ false = grind (arith, nat_tests) in
    let b : nat_lt hi p.0 ≡ false = grind (arith, nat_tests) in
    rw (a, b) (goes_up_from (p.0 + 1) hi ps (raised p.0 ps within.1 (above_first p.0 (map (λ q. q.0) ps) up)) (later_up p.0 (map (λ q. q.0) ps) up))
  where
    raised : (x : ℕ) (qs : List (ℕ × ℕ)) → AllByRecursion (λ q. (least ≤ q.0) × (q.0 ≤ hi)) qs → AllByRecursion (λ y. x < y) (map (λ q. q.0) qs) → AllByRecursion (λ q. (x + 1 ≤ q.0) × (q.0 ≤ hi)) qs
    raised x [] w h = tt
    raised x (q ∷ qs) w h = (((let above : x < q.0 = h.0 in omega arith), w.0.1), raised x qs w.1 h.1)

pub list_goes_up : (lo hi : ℕ) (listed : List (ℕ × ℕ)) → IsGoodList lo hi listed → goes_up lo hi listed ≡ true
list_goes_up lo hi listed good = goes_up_from lo hi listed (recursion_from_All (λ p. (lo ≤ p.0) × (p.0 ≤ hi)) listed good.0) good.1

-- ---- what an event can't have

-- an event with numbers in their ranges, of a transaction that hasn't ended, can have these reasons alone
pub lower_reasons : (n : ℕ) (events : List Event) (e : Event) → IsInRange e → list_any (ends (actor e)) events ≡ false → (s : Reason) → EventHas n (IsAmong events) e s → 6 ≤ reason_number s
lower_reasons n events e fits open_still TooManyEvents has = absurd has
lower_reasons n events e fits open_still BadEvent has = absurd has
lower_reasons n events e fits open_still BadNumber has = absurd (has fits)
lower_reasons n events e fits open_still AlreadyEnded (inl c) = absurd ((none_ends events (actor e) open_still).0 c)
lower_reasons n events e fits open_still AlreadyEnded (inr a) = absurd ((none_ends events (actor e) open_still).1 a)
lower_reasons n events e fits open_still _ has = omega arith

-- the reason, and none with a lesser number
pub record IsLeast (n : ℕ) (events : List Event) (e : Event) (r : Reason) : Type 0 where
  pub has : EventHas n (IsAmong events) e r
  pub least : (s : Reason) → EventHas n (IsAmong events) e s → reason_number r ≤ reason_number s

-- ---- each kind of event

pub acts_among : (events : List Event) (t : ℕ) → list_any (acts t) events ≡ true → (f : Event) × IsAmong events f × (actor f ≡ t)
acts_among events t p = let a = any_among (acts t) events p in (a.0, a.1, sym (eqb-true t (actor a.0) a.2))

pub unwritten : (events : List Event) (k v : ℕ) → is_explained events (k, v) ≡ false → (v ≢ 0) × ¬ IsAmong events (Write v k)
unfolding is_explained
unwritten events k v p = let parts = or_parts (v == 0) (list_any (writes (k, v)) events) p in (
  λ is. true_false (v == 0) (eq-eqb v 0 is) parts.0,
  λ among. true_false (list_any (writes (k, v)) events) (among_any (writes (k, v)) events (Write v k) among (writes_same k v)) parts.1,
)

-- one of the listed pairs isn't explained
pub unexplained_pair : (events : List Event) (listed : List (ℕ × ℕ)) → list_all (is_explained events) listed ≡ false → (p : ℕ × ℕ) × Contains listed p × (is_explained events p ≡ false)
unexplained_pair events [] e = absurd cc
unexplained_pair events (p ∷ ps) e = elim (and_cases (is_explained events p) (list_all (is_explained events) ps) e) [
  | inl fails ↦ (p, (0, omega arith, refl), fails)
  | inr later ↦ (let h = unexplained_pair events ps later in (h.0, (suc h.1.0, (let below = h.1.1 in omega arith), h.1.2), h.2))
]

pub listed_within : (lo hi : ℕ) (listed : List (ℕ × ℕ)) (p : ℕ × ℕ) → goes_up lo hi listed ≡ true → Contains listed p → (lo ≤ p.0) × (p.0 ≤ hi)
listed_within lo hi listed p up c = subst (λ r. (lo ≤ r.0) × (r.0 ≤ hi)) c.2 ((good_list lo hi listed up).0 c.0 p c.1)
