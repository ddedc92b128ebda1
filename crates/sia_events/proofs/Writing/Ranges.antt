-- A range read of a well-formed history: its bounds and its listed keys are in order, and it sees each key at one version.
use Rattle.std.proofs.Common.{◌≡◌, ◌⊎◌, inl, inr, ℕ, ◌<◌, ◌≤◌, List, map, Some, refl, ap, sym, ◌∙◌, subst, arith}
use Rattle.std.specs.Prelude.{Contains, slice_index_or}
use Rattle.std.specs.List.Sorted.{IsStrictlyIncreasing}
use Rattle.std.proofs.lemmas.Bool.{cases_order, cases_Bool}
use Rattle.std.proofs.lemmas.List.{get_or-map, get_or_default, length-map}
use Rattle.std.proofs.lemmas.List.Kept.{AllPairs-from_increasing}
use Rattle.sia_events.specs.declared.event.Event.{Event}
use Rattle.sia_events.specs.declared.event.Event.TheVariants.{Read, Range}
use Rattle.sia_events.specs.declared.fault.Reason.TheVariants.{EmptyRange, BadList}
use Rattle.sia_events.specs.Places.{at_place}
use Rattle.sia_events.specs.Events.{Saw}
use Rattle.sia_events.specs.Refusals.{IsGoodList, IsWellFormed}
use Rattle.sia_events.proofs.Shared.Decisions.{at_most}
use Rattle.sia_events.specs.Known.{goes_up}
use Rattle.sia_events.proofs.Shared.Faults.{good_list, true_false}
use Rattle.sia_events.proofs.Shared.LeastFaults.{list_goes_up}
use Rattle.sia_events.proofs.Writing.WellFormed.{event_has_none}

-- the bounds of a range read are in order
pub bounds_in_order : (h : List Event) → IsWellFormed h → (p t lo hi : ℕ) (listed : List (ℕ × ℕ)) → at_place h p ≡ Some (Range t lo hi listed) → lo ≤ hi
bounds_in_order h wf p t lo hi listed at = at_most lo hi (λ less. event_has_none h wf p (Range t lo hi listed) at EmptyRange (lo, hi, listed, refl, less))

-- its listed keys lie within its bounds, and ascend
pub list_in_order : (h : List Event) → IsWellFormed h → (p t lo hi : ℕ) (listed : List (ℕ × ℕ)) → at_place h p ≡ Some (Range t lo hi listed) → IsGoodList lo hi listed
list_in_order h wf p t lo hi listed at = elim (cases_Bool (goes_up lo hi listed)) [
  | inl up ↦ good_list lo hi listed up
  | inr down ↦ absurd (event_has_none h wf p (Range t lo hi listed) at BadList (lo, hi, listed, refl, λ good. true_false (goes_up lo hi listed) (list_goes_up lo hi listed good) down))
]

-- a listed key's place has the key
key_at : (listed : List (ℕ × ℕ)) (k v : ℕ) (c : Contains listed (k, v)) → slice_index_or (map (λ p. p.0) listed) c.0 0 ≡ k
key_at listed k v c = get_or-map (λ (p : ℕ × ℕ). p.0) listed c.0 (k, v) 0 c.1 ∙ ap (λ (p : ℕ × ℕ). p.0) c.2

-- where keys ascend, a later one isn't an earlier one
never_later : (listed : List (ℕ × ℕ)) → IsStrictlyIncreasing (map (λ p. p.0) listed) → (k v w : ℕ) (a : Contains listed (k, v)) (b : Contains listed (k, w)) → ¬ (a.0 < b.0)
never_later listed up k v w a b less = grind (arith, AllPairs-from_increasing (map (λ p. p.0) listed) up a.0 b.0 0 less (omega (arith, length-map listed (λ (p : ℕ × ℕ). p.0), b.1)), key_at listed k v a, key_at listed k w b)

-- a list of ascending keys has each key once
pub one_listed : (listed : List (ℕ × ℕ)) → IsStrictlyIncreasing (map (λ p. p.0) listed) → (k v w : ℕ) → Contains listed (k, v) → Contains listed (k, w) → v ≡ w
one_listed listed up k v w a b = elim (cases_order a.0 b.0) [
  | inl same ↦
      let at : slice_index_or listed b.0 (k, v) ≡ (k, v) = subst (λ i. slice_index_or listed i (k, v) ≡ (k, v)) same a.2 in
      ap (λ (p : ℕ × ℕ). p.1) (sym at ∙ get_or_default listed b.0 (k, v) (k, w) b.1 ∙ b.2)
  | inr other ↦ elim other [
    | inl less ↦ absurd (never_later listed up k v w a b less)
    | inr more ↦ absurd (never_later listed up k w v b a more)
  ]
]

saw_once : (e : Event) → ((t lo hi : ℕ) (listed : List (ℕ × ℕ)) → e ≡ Range t lo hi listed → IsGoodList lo hi listed) → (k v w : ℕ) → Saw e k v → Saw e k w → v ≡ w
saw_once (Read t key saw) good k v w a b = a.1 ∙ sym b.1
saw_once (Range t lo hi listed) good k v w a b = by_listed a.2 b.2
  where
    by_listed : Contains listed (k, v) ⊎ (((u : ℕ) → ¬ Contains listed (k, u)) × (v ≡ 0)) → Contains listed (k, w) ⊎ (((u : ℕ) → ¬ Contains listed (k, u)) × (w ≡ 0)) → v ≡ w
    by_listed (inl c) (inl d) = one_listed listed (good t lo hi listed refl).1 k v w c d
    by_listed (inl c) (inr d) = absurd (d.0 v c)
    by_listed (inr c) (inl d) = absurd (c.0 w d)
    by_listed (inr c) (inr d) = c.1 ∙ sym d.1
saw_once _ good k v w a b = absurd a

-- a read sees each key that it covers at one version
pub one_version : (h : List Event) → IsWellFormed h → (p k v w : ℕ) (e : Event) → at_place h p ≡ Some e → Saw e k v → Saw e k w → v ≡ w
one_version h wf p k v w e at a b = saw_once e (λ t lo hi listed is. list_in_order h wf p t lo hi listed (at ∙ ap Some is)) k v w a b
