-- By the kind of event, the fault that the tables find is the event's least reason.
use Rattle.std.proofs.Common.{◌≡◌, ◌⊎◌, inl, inr, ℕ, ◌<◌, ◌≤◌, Bool, true, false, cond, List, Option, Some, None, refl, subst, arith, nat_lt}
use Rattle.std.specs.List.{list_any, list_all}
use Rattle.std.proofs.lemmas.Bool.Decides.{nat_tests}
use Rattle.sia_events.specs.declared.event.Event.{Event}
use Rattle.sia_events.specs.declared.event.Event.TheVariants.{Begin, Read, Range}
use Rattle.sia_events.specs.declared.fault.Reason.{Reason}
use Rattle.sia_events.specs.declared.fault.Reason.TheVariants.{TooManyEvents, BadEvent, BadNumber, AlreadyEnded, AlreadyBegun, EmptyRange, BadList, NotWritten, BadStart}
use Rattle.sia_events.specs.Events.{actor}
use Rattle.sia_events.specs.Refusals.{IsInRange, EventHas, reason_number}
use Rattle.sia_events.specs.Known.{acts, ends, is_explained, goes_up, begin_fault, read_fault, range_fault, own_fault, fault_of}
use Rattle.sia_events.proofs.Shared.Faults.{IsAmong, any_among, ends_is, true_false, good_list}
use Rattle.sia_events.proofs.Shared.Fits.{none_acts}
use Rattle.sia_events.proofs.Shared.LeastFaults.{IsLeast, lower_reasons, acts_among, unwritten, unexplained_pair, listed_within, list_goes_up}
use Rattle.std.proofs.lemmas.Option.{same_Some}

-- a test that finds a fault
found : (b : Bool) (r s : Reason) (rest : Option Reason) → cond b (Some r) rest ≡ Some s → ((b ≡ true) × (r ≡ s)) ⊎ ((b ≡ false) × (rest ≡ Some s))
found b r s rest e = grind (arith, same_Some)

found_else : (b : Bool) (r s : Reason) (rest : Option Reason) → cond b rest (Some r) ≡ Some s → ((b ≡ false) × (r ≡ s)) ⊎ ((b ≡ true) × (rest ≡ Some s))
found_else b r s rest e = grind (arith, same_Some)

no_more : (r : Reason) → ◌≡◌ {A = Option Reason} None (Some r) → ⊥
no_more r e = cc

-- a begin whose transaction has events before it
begun : (events : List Event) (n t : ℕ) (start : Option ℕ) → IsInRange (Begin t start) → list_any (ends t) events ≡ false → list_any (acts t) events ≡ true → IsLeast n events (Begin t start) AlreadyBegun
begun events n t start fits open_still p = grind (arith, acts_among, lower_reasons)

begin_least : (events : List Event) (n t : ℕ) (start : Option ℕ) (r : Reason) → IsInRange (Begin t start) → list_any (ends t) events ≡ false → begin_fault events n t start ≡ Some r → IsLeast n events (Begin t start) r
begin_least events n t None r fits open_still e = elim (found (list_any (acts t) events) AlreadyBegun r None e) [
  | inl holds ↦ subst (IsLeast n events (Begin t None)) holds.1 (begun events n t None fits open_still holds.0)
  | inr fails ↦ absurd (no_more r fails.1)
]
begin_least events n t (Some m) r fits open_still e = elim (found (list_any (acts t) events) AlreadyBegun r (cond (nat_lt n m) (Some BadStart) None) e) [
  | inl holds ↦ subst (IsLeast n events (Begin t (Some m))) holds.1 (begun events n t (Some m) fits open_still holds.0)
  | inr fails ↦ elim (found (nat_lt n m) BadStart r None fails.1) [
    | inl late ↦ subst (IsLeast n events (Begin t (Some m))) late.1 (record { has = (m, refl, (let after = late.0 in (let less : n < m = grind (arith, nat_tests) in less))); least = least fails.0 })
    | inr none ↦ absurd (no_more r none.1)
  ]
]
  where
    least : list_any (acts t) events ≡ false → (s : Reason) → EventHas n (IsAmong events) (Begin t (Some m)) s → 10 ≤ reason_number s
    least fresh AlreadyBegun has = absurd (none_acts events t fresh has.1 has.2 has.3)
    least fresh EmptyRange has = (let is = has.3 in cc)
    least fresh BadList has = (let is = has.3 in cc)
    least fresh NotWritten has = absurd has.2
    least fresh s has = let low : 6 ≤ reason_number s = lower_reasons n events (Begin t (Some m)) fits open_still s has in omega arith

read_least : (events : List Event) (n t k v : ℕ) (r : Reason) → IsInRange (Read t k v) → list_any (ends t) events ≡ false → read_fault events k v ≡ Some r → IsLeast n events (Read t k v) r
unfolding read_fault
read_least events n t k v r fits open_still e = elim (found_else (is_explained events (k, v)) NotWritten r None e) [
  | inl fails ↦ (let u = unwritten events k v fails.0 in subst (IsLeast n events (Read t k v)) fails.1 (record { has = (k, v, (refl, refl), u.0, u.1); least = least }))
  | inr none ↦ absurd (no_more r none.1)
]
  where
    least : (s : Reason) → EventHas n (IsAmong events) (Read t k v) s → 9 ≤ reason_number s
    least AlreadyBegun has = (let is = has.0.1 in cc)
    least EmptyRange has = (let is = has.3 in cc)
    least BadList has = (let is = has.3 in cc)
    least s has = let low : 6 ≤ reason_number s = lower_reasons n events (Read t k v) fits open_still s has in omega arith

-- a range's reasons, from those that are told first
module _ (events : List Event) (n t lo hi : ℕ) (listed : List (ℕ × ℕ)) (fits : IsInRange (Range t lo hi listed)) (open_still : list_any (ends t) events ≡ false) where
  above : (s : Reason) → EventHas n (IsAmong events) (Range t lo hi listed) s → 7 ≤ reason_number s
  above s has = grind (arith, lower_reasons)

  not_empty : nat_lt hi lo ≡ false → ¬ EventHas n (IsAmong events) (Range t lo hi listed) EmptyRange
  not_empty some has = grind (arith)

  in_order : goes_up lo hi listed ≡ true → ¬ EventHas n (IsAmong events) (Range t lo hi listed) BadList
  in_order up has = grind (arith, good_list)

  range_least : (r : Reason) → range_fault events lo hi listed ≡ Some r → IsLeast n events (Range t lo hi listed) r
  unfolding range_fault
  range_least r e = elim (found (nat_lt hi lo) EmptyRange r (cond (goes_up lo hi listed) (cond (list_all (is_explained events) listed) None (Some NotWritten)) (Some BadList)) e) [
    | inl empty ↦ subst (IsLeast n events (Range t lo hi listed)) empty.1 (record { has = (lo, hi, listed, refl, (let test = empty.0 in (let less : hi < lo = grind (arith, nat_tests) in less))); least = above })
    | inr some ↦ elim (found_else (goes_up lo hi listed) BadList r (cond (list_all (is_explained events) listed) None (Some NotWritten)) some.1) [
      | inl bad ↦ subst (IsLeast n events (Range t lo hi listed)) bad.1 (record { has = (lo, hi, listed, refl, λ good. true_false (goes_up lo hi listed) (list_goes_up lo hi listed good) bad.0); least = least_list some.0 })
      | inr up ↦ elim (found_else (list_all (is_explained events) listed) NotWritten r None up.1) [
        | inl fails ↦
            (let p = unexplained_pair events listed fails.0 in
            let w = listed_within lo hi listed p.0 up.0 p.1 in
            let u = unwritten events p.0.0 p.0.1 p.2 in
            subst (IsLeast n events (Range t lo hi listed)) fails.1 (record { has = (p.0.0, p.0.1, (w.0, w.1, inl p.1), u.0, u.1); least = least_written some.0 up.0 }))
        | inr none ↦ absurd (no_more r none.1)
      ]
    ]
  ]
    where
      least_list : nat_lt hi lo ≡ false → (s : Reason) → EventHas n (IsAmong events) (Range t lo hi listed) s → 8 ≤ reason_number s
      least_list some EmptyRange has = absurd (not_empty some has)
      least_list some s has = let low : 7 ≤ reason_number s = above s has in omega arith

      least_written : nat_lt hi lo ≡ false → goes_up lo hi listed ≡ true → (s : Reason) → EventHas n (IsAmong events) (Range t lo hi listed) s → 9 ≤ reason_number s
      least_written some up EmptyRange has = absurd (not_empty some has)
      least_written some up BadList has = absurd (in_order up has)
      least_written some up s has = let low : 7 ≤ reason_number s = above s has in omega arith

own_least : (events : List Event) (n : ℕ) (e : Event) (r : Reason) → IsInRange e → list_any (ends (actor e)) events ≡ false → own_fault events n e ≡ Some r → IsLeast n events e r
unfolding own_fault
own_least events n (Begin t start) r fits open_still e = begin_least events n t start r fits open_still e
own_least events n (Read t k v) r fits open_still e = read_least events n t k v r fits open_still e
own_least events n (Range t lo hi listed) r fits open_still e = range_least events n t lo hi listed fits open_still r e
own_least events n _ r fits open_still e = absurd (no_more r e)

ended_least : (events : List Event) (n : ℕ) (e : Event) → IsInRange e → list_any (ends (actor e)) events ≡ true → IsLeast n events e AlreadyEnded
ended_least events n e fits p = record { has = has; least = least }
  where
    has : EventHas n (IsAmong events) e AlreadyEnded
    has = (let a = any_among (ends (actor e)) events p in elim (ends_is (actor e) a.0 a.2) [
      | inl c ↦ inl (subst (IsAmong events) c a.1)
      | inr b ↦ inr (subst (IsAmong events) b a.1)
    ])

    least : (s : Reason) → EventHas n (IsAmong events) e s → 5 ≤ reason_number s
    least TooManyEvents h = absurd h
    least BadEvent h = absurd h
    least BadNumber h = absurd (h fits)
    least _ h = omega arith

-- what the tables find is the least reason
pub fault_least : (events : List Event) (n : ℕ) (e : Event) (r : Reason) → IsInRange e → fault_of events n e ≡ Some r → IsLeast n events e r
unfolding fault_of
fault_least events n e r fits p = elim (found (list_any (ends (actor e)) events) AlreadyEnded r (own_fault events n e) p) [
  | inl holds ↦ subst (IsLeast n events e) holds.1 (ended_least events n e fits holds.0)
  | inr fails ↦ own_least events n e r fits fails.0 fails.1
]
