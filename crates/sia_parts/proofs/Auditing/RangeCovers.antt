-- A range read, and what it covers of a part.
use Rattle.std.proofs.Common.{◌≡◌, ◌≢◌, inl, inr, ℕ, ◌<◌, ◌≤◌, max, min, List, Some, length, map, get_or, refl, ap, sym, subst, ◌∙◌, arith}
use Rattle.std.specs.Prelude.{◌↔◌, All, Contains}
use Rattle.std.proofs.lemmas.List.{get_or-map, length-map}
use Rattle.std.proofs.lemmas.List.Elements.{All-contains, Contains-get_or}
use Rattle.sia_events.specs.declared.event.Event.{Event}
use Rattle.sia_events.specs.declared.event.Event.TheVariants.{Range}
use Rattle.sia_events.specs.Events.{Saw}
use Rattle.sia_events.specs.Numbering.{names_of, pair_at, range_at}
use Rattle.sia_events.specs.Places.{at_place}
use Rattle.sia_events.specs.Reads.{SawAt}
use Rattle.sia_events.specs.Refusals.{IsWellFormed}
use Rattle.sia_events.proofs.Writing.Ranges.{list_in_order}
use Rattle.sia_events.proofs.Shared.Starts.{one_event}
use Rattle.sia_index.specs.Info.{IsKeyAt}
use Rattle.sia_parts.specs.declared.audit.sights.Scope.{Scope}
use Rattle.sia_parts.specs.declared.audit.sights.Seen.{Seen}
use Rattle.sia_parts.specs.Sights.{Sight}
use Rattle.sia_parts.specs.declared.cutting.Part.{Part}
use Rattle.sia_parts.specs.Parts.{IsInPart}
use Rattle.sia_parts.specs.Seeing.{Gains, IsScope, IsSightWithin}
use Rattle.sia_parts.proofs.Auditing.Gaining.{gains_same}
use Rattle.sia_parts.proofs.Shared.OneNumber.{one_key}

pub all_from : {A : Type 0} (P : A → Type 0) (xs : List A) → ((x : A) → Contains xs x → P x) → All P xs
all_from P xs each k d below = each (get_or xs k d) (Contains-get_or xs k d below)

-- a range read by its number, and the keys from lo to hi that it shares with the part
pub record IsRangeIn (scope : Scope) (p t r : ℕ) (listed : List ℕ) (least most lo hi : ℕ) : Type 0 where
  pub at : at_place scope.ix.now p ≡ Some (Range t (range_at (names_of scope.ix.now) r).0 (range_at (names_of scope.ix.now) r).1 (map (pair_at (names_of scope.ix.now)) listed))
  pub from : least ≡ (range_at (names_of scope.ix.now) r).0
  pub to : most ≡ (range_at (names_of scope.ix.now) r).1
  pub low : lo ≡ max (range_at (names_of scope.ix.now) r).0 scope.part.lo
  pub high : hi ≡ min (range_at (names_of scope.ix.now) r).1 scope.part.hi

-- by what the log says of it
pub range_in : (scope : Scope) → IsScope scope → (p t r : ℕ) (listed : List ℕ) → map (pair_at (names_of scope.log.now)) listed ≡ (range_at (names_of scope.log.now) r).2
    → at_place scope.ix.now p ≡ Some (Range t (range_at (names_of scope.ix.now) r).0 (range_at (names_of scope.ix.now) r).1 (range_at (names_of scope.ix.now) r).2)
    → (from to lo hi : ℕ) → from ≡ (range_at (names_of scope.log.now) r).0 → to ≡ (range_at (names_of scope.log.now) r).1 → lo ≡ max from scope.part.lo → hi ≡ min to scope.part.hi → IsRangeIn scope p t r listed from to lo hi
range_in scope is p t r listed pairs event from to lo hi from_is to_is low high =
    let h = scope.ix.now in
    let back = sym is.same in
    let own : map (pair_at (names_of h)) listed ≡ (range_at (names_of h) r).2 = subst (λ g. map (pair_at (names_of g)) listed ≡ (range_at (names_of g) r).2) back pairs in
    let a : from ≡ (range_at (names_of h) r).0 = subst (λ g. from ≡ (range_at (names_of g) r).0) back from_is in
    let b : to ≡ (range_at (names_of h) r).1 = subst (λ g. to ≡ (range_at (names_of g) r).1) back to_is in
    record {
      at = subst (λ xs. at_place h p ≡ Some (Range t (range_at (names_of h) r).0 (range_at (names_of h) r).1 xs)) (sym own) event;
      from = a;
      to = b;
      low = subst (λ x. lo ≡ max x scope.part.lo) a low;
      high = subst (λ x. hi ≡ min x scope.part.hi) b high;
    }

module _ (h : List Event) (wf : IsWellFormed h) (p t a b : ℕ) (listed : List ℕ) (at : at_place h p ≡ Some (Range t a b (map (pair_at (names_of h)) listed))) where
  abbrev f : ℕ → ℕ × ℕ
  f = pair_at (names_of h)

  -- a pair of the list
  there : (q : ℕ) → Contains listed q → Contains (map f listed) (f q)
  there q c = (c.0, (let below = c.1 in omega (arith, length-map listed f)), get_or-map f listed c.0 q (f q) c.1 ∙ ap f c.2)

  pub pair_inside : (q : ℕ) → Contains listed q → (a ≤ (pair_at (names_of h) q).0) × ((pair_at (names_of h) q).0 ≤ b)
  pair_inside q c = All-contains (λ (x : ℕ × ℕ). (a ≤ x.0) × (x.0 ≤ b)) (map f listed) (f q) (list_in_order h wf p t a b (map f listed) at).0 (there q c)

  pub pair_saw : (q : ℕ) → Contains listed q → SawAt h p t (pair_at (names_of h) q).0 (pair_at (names_of h) q).1
  pair_saw q c = let inside = pair_inside q c in (Range t a b (map f listed), at, refl, (inside.0, inside.1, inl (there q c)))

  -- what was seen there lies in the range
  pub sight_inside : (s : Sight) → s.place ≡ p → SawAt h s.place s.txn s.key s.saw → (a ≤ s.key) × (s.key ≤ b)
  sight_inside s place saw =
      let event : saw.0 ≡ Range t a b (map f listed) = one_event h s.place p saw.0 (Range t a b (map f listed)) place saw.1 at in
      let own = subst (λ e. Saw e s.key s.saw) event saw.3 in
      (own.0, own.1)

  module _ (lo hi : ℕ) (from : a ≤ lo) (to : hi ≤ b) (pairs : List ℕ) (those : (q : ℕ) → Contains pairs q ↔ (Contains listed q × (lo ≤ (pair_at (names_of h) q).0) × ((pair_at (names_of h) q).0 ≤ hi))) where
    pub key_unlisted : (k : ℕ) → lo ≤ k → k ≤ hi → All (λ q. (pair_at (names_of h) q).0 ≢ k) pairs → SawAt h p t k 0
    key_unlisted k low high none = (Range t a b (map f listed), at, refl, (omega arith, omega arith, inr (not_listed, refl)))
      where
        not_listed : (u : ℕ) → ¬ Contains (map f listed) (k, u)
        not_listed u c =
            let below : c.0 < length listed = let inside = c.1 in omega (arith, length-map listed f) in
            let q : ℕ = get_or listed c.0 0 in
            let same : f q ≡ (k, u) = sym (get_or-map f listed c.0 0 (k, u) below) ∙ c.2 in
            let key : (f q).0 ≡ k = ap (λ (x : ℕ × ℕ). x.0) same in
            All-contains (λ q. (pair_at (names_of h) q).0 ≢ k) pairs q none ((those q).1 (Contains-get_or listed c.0 0 below, (omega arith), (omega arith))) key

  -- the keys that it covers of a part, by number
  module _ (part : Part) (lo hi : ℕ) (lo_is : lo ≡ max a part.lo) (hi_is : hi ≡ min b part.hi) (first end : ℕ) (scope : (j : ℕ) → ((first ≤ j) × (j < end)) ↔ ((k : ℕ) × IsKeyAt h j k × IsInPart part k)) where
    sight_key : (s : Sight) → IsSightWithin h p first end s → (lo ≤ s.key) × (s.key ≤ hi)
    sight_key s is =
        let within = (scope is.2).0 (is.4, is.5) in
        let own : within.0 ≡ s.key = one_key h is.2 within.0 s.key within.1 is.3 in
        let inside = sight_inside s is.0 is.1 in
        let low = within.2.0 in
        let high = within.2.1 in
        let from = inside.0 in
        let to = inside.1 in
        (omega arith, omega arith)

    pub cover_gains : (from to : ℕ) → ((j : ℕ) → ((from ≤ j) × (j < to)) ↔ ((k : ℕ) × IsKeyAt h j k × (lo ≤ k) × (k ≤ hi))) → (old new : Seen) → Gains h (IsSightWithin h p from to) old new → Gains h (IsSightWithin h p first end) old new
    cover_gains from to each old new gains = gains_same h (IsSightWithin h p from to) (IsSightWithin h p first end)
        (λ s is.
        let k = (each is.2).0 (is.4, is.5) in
        let low = k.2 in
        let high = k.3 in
        let w = (scope is.2).1 (k.0, k.1, (omega arith, omega arith)) in
        (is.0, is.1, is.2, is.3, w.0, w.1))
        (λ s is. let key = sight_key s is in let w = (each is.2).1 (s.key, is.3, key.0, key.1) in (is.0, is.1, is.2, is.3, w.0, w.1))
        old new gains
