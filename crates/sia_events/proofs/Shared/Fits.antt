-- An event in which the tables find no fault has no reason.
use Rattle.std.proofs.Common.{◌≡◌, ◌≢◌, inl, inr, ℕ, ◌<◌, ◌≤◌, true, false, List, Some, None, sym, subst, ◌∙◌, arith, nat_lt}
use Rattle.std.specs.Prelude.{◌==◌}
use Rattle.std.specs.List.{list_any, list_all}
use Rattle.std.proofs.lemmas.Bool.Decides.{nat_tests}
use Rattle.sia_events.specs.declared.event.Event.{Event}
use Rattle.sia_events.specs.declared.event.Event.TheVariants.{Begin, Read, Range, Write, Commit, Abort}
use Rattle.sia_events.specs.declared.fault.Reason.TheVariants.{AlreadyEnded, AlreadyBegun, EmptyRange, BadList, NotWritten, BadStart}
use Rattle.sia_events.specs.Events.{actor, named_start, Saw}
use Rattle.sia_events.specs.Refusals.{IsInRange, IsBegin, IsEmptyRange, HasBadList}
use Rattle.sia_events.specs.Known.{acts, ends, is_explained, goes_up, read_fault, range_fault, own_fault, fault_of}
use Rattle.sia_events.proofs.Shared.Refusing.{IsFit}
use Rattle.sia_events.proofs.Shared.Faults.{IsAmong, among_any, same_true, true_false, none_of, else_none, explained, all_explained, good_list}

pub none_acts : (events : List Event) (t : ℕ) → list_any (acts t) events ≡ false → (f : Event) → IsAmong events f → actor f ≢ t
none_acts events t none f among same = true_false (list_any (acts t) events) (among_any (acts t) events f among (subst (λ u. (t == u) ≡ true) (sym same) (same_true t))) none

pub none_ends : (events : List Event) (t : ℕ) → list_any (ends t) events ≡ false → ¬ IsAmong events (Commit t) × ¬ IsAmong events (Abort t)
none_ends events t none = (
  λ among. true_false (list_any (ends t) events) (among_any (ends t) events (Commit t) among (same_true t)) none,
  λ among. true_false (list_any (ends t) events) (among_any (ends t) events (Abort t) among (same_true t)) none,
)

pub fits_from : (events : List Event) (n : ℕ) (e : Event) → IsInRange e → fault_of events n e ≡ None → IsFit n (IsAmong events) e
unfolding fault_of own_fault read_fault range_fault
fits_from events n e in_range p =
    let a = none_of (list_any (ends (actor e)) events) AlreadyEnded (own_fault events n e) p in
    let open_still = none_ends events (actor e) a.0 in
    record {
      in_range = in_range;
      not_committed = open_still.0;
      not_aborted = open_still.1;
      begins_first = begins e a.1;
      not_empty = some e a.1;
      list_good = good e a.1;
      written = wrote e a.1;
      start_there = there e a.1;
    }
  where
    begins : (e : Event) → own_fault events n e ≡ None → IsBegin e → (f : Event) → IsAmong events f → actor f ≢ actor e
    begins (Begin t None) p b f among = none_acts events t (none_of (list_any (acts t) events) AlreadyBegun None p).0 f among
    begins (Begin t (Some m)) p b f among = none_acts events t (none_of (list_any (acts t) events) AlreadyBegun _ p).0 f among
    begins _ p b f among = let is = b.1 in absurd cc

    some : (e : Event) → own_fault events n e ≡ None → ¬ IsEmptyRange e
    some (Range t lo hi listed) p h =
        let up = (none_of (nat_lt hi lo) EmptyRange _ p).0 in
        let is = h.3 in let same_lo : lo ≡ h.0 = cc in let same_hi : hi ≡ h.1 = cc in let less : h.1 < h.0 = h.4 in let most : lo ≤ hi = grind (arith, nat_tests) in omega arith
    some _ p h = let is = h.3 in cc

    good : (e : Event) → own_fault events n e ≡ None → ¬ HasBadList e
    good (Range t lo hi listed) p h =
        let is = h.3 in let same_lo : lo ≡ h.0 = cc in let same_hi : hi ≡ h.1 = cc in let same_list : listed ≡ h.2 = cc in
        let up = (else_none (goes_up lo hi listed) BadList _ (none_of (nat_lt hi lo) EmptyRange _ p).1).0 in
        h.4 (good_list h.0 h.1 h.2 ((λ i. goes_up (sym same_lo i) (sym same_hi i) (sym same_list i)) ∙ up))
    good _ p h = let is = h.3 in cc

    wrote : (e : Event) → own_fault events n e ≡ None → (k v : ℕ) → Saw e k v → v ≢ 0 → IsAmong events (Write v k)
    wrote (Read t j w) p k v saw other =
        let a = else_none (is_explained events (j, w)) NotWritten None p in
        let key = saw.0 in let version = saw.1 in
        explained events k v (subst (λ q. is_explained events q ≡ true) (λ i. (sym key i, sym version i)) a.0) other
    wrote (Range t lo hi listed) p k v saw other =
        let b = else_none (goes_up lo hi listed) BadList _ (none_of (nat_lt hi lo) EmptyRange _ p).1 in
        let d = else_none (list_all (is_explained events) listed) NotWritten None b.1 in
        elim saw.2 [ inl c ↦ all_explained events listed d.0 k v c other | inr none ↦ absurd (other none.1) ]
    wrote _ p k v saw other = absurd saw

    there : (e : Event) → own_fault events n e ≡ None → (start : ℕ) → named_start e ≡ Some start → start ≤ n
    there (Begin t (Some m)) p start is =
        let late = (none_of (nat_lt n m) BadStart None (none_of (list_any (acts t) events) AlreadyBegun _ p).1).0 in
        let same : m ≡ start = cc in let most : m ≤ n = grind (arith, nat_tests) in omega arith
    there _ p start is = absurd cc
