-- A range read covers the written keys from one number to before another, and what it listed of them.
use Rattle.std.proofs.Common.{◌≡◌, inl, inr, ℕ, ◌<◌, ◌≤◌, List, Some, None, true, false, length, map, refl, sym, ◌∙◌, arith, ◌↔◌, All, ◌⊎◌, ◌+◌, ◌-◌, Option, subst}
use Rattle.std.proofs.lemmas.Bool.{cases_lt, false≢true}
use Rattle.sia_events.specs.declared.event.Event.{Event}
use Rattle.sia_events.specs.declared.event.Event.TheVariants.{Range, Begin, Read, Write, Commit, Abort}
use Rattle.sia_events.specs.Numbering.{names_of, pair_at, AscendByKey, IsPair, Names, IsSeen, IsWithin, event_of, key_at, range_at, txn_at, version_at, write_at}
use Rattle.sia_events.specs.Places.{at_place}
use Rattle.sia_events.specs.Reads.{SawAt}
use Rattle.sia_events.specs.Refusals.{IsWellFormed}
use Rattle.sia_events.specs.Transactions.{Wrote}
use Rattle.sia_events.proofs.OfLaws.SawDecisions.{listed_or_not}
use Rattle.sia_events.proofs.Writing.Ranges.{bounds_in_order}
use Rattle.sia_index.specs.Info.{AreWrittenKeys, IsKeyAt}
use Rattle.sia_index.proofs.Sorting.Points.{PointBelow, PointWithin, point_above, point_below, point_within}
use Rattle.sia_parts.specs.Seeing.{IsCover}
use Rattle.sia_parts.proofs.Auditing.Covered.{HasCovered}
use Rattle.sia_parts.proofs.Auditing.KeyNumbers.{IsEnd, numbers_each}
use Rattle.sia_parts.proofs.Auditing.Passing.{has_number}
use Rattle.sia_parts.proofs.Auditing.RangeCovers.{all_from, key_unlisted, pair_inside, pair_saw, sight_inside}
use Rattle.std.proofs.lemmas.Option.{get_or_from_slice_get, slice_get_within}
use Rattle.sia_events.specs.declared.log.Row.{Row}
use Rattle.sia_events.specs.declared.log.Row.TheVariants as rows
use Rattle.sia_events.specs.Events.{actor, Saw}
use Rattle.sia_events.proofs.Shared.Starts.{one_event}
use Rattle.si_audit.specs.Bounds.{Sees}
use Rattle.si_audit.specs.Snapshots.{AccessesAt}
use Rattle.si_audit.specs.declared.snapshots.Bounds.{Bounds}
use Rattle.si_audit.proofs.Shared.SoFar.{sees_none, sees_place}

-- what t's range read at place p covers and listed, as the lemmas of a part's keys say it
abbrev pub Covers : List Event → ℕ → ℕ → List ℕ → ℕ → ℕ → ℕ → ℕ → Type 0
Covers h t p listed lo hi first end = IsCover h (record { txn = 0; reader = record { txn = t; number = 0; place = p; start = 0; has_written = false }; number = None })
    (record { pairs = record { ref_ptr = (0, 0); now = listed }; lo = lo; hi = hi; first = first; end = end; own = true })

-- how far it has been gone through
abbrev pub CoveredTo : List Event → List ℕ → ℕ → ℕ → ℕ → ℕ → ℕ → ℕ → Type 0
CoveredTo h listed lo hi first end n next = HasCovered h (record { pairs = record { ref_ptr = (0, 0); now = listed }; lo = lo; hi = hi; first = first; end = end; own = true }) n next

-- the written keys that t's range read at place p covers have numbers from first to before end, and so have those that it sees
pub record IsRangeSeen (h : List Event) (t p : ℕ) (listed : List ℕ) (lo hi first end : ℕ) : Type 0 where
  pub covers : Covers h t p listed lo hi first end
  pub inside : (k v u : ℕ) → SawAt h p t k v → Wrote h u k → (i : ℕ) × IsKeyAt h i k × (first ≤ i) × (i < end)
  pub forward : first ≤ end

module _ (h : List Event) (wf : IsWellFormed h) (keys : List ℕ) (are : AreWrittenKeys h keys) (p t lo hi : ℕ) (listed : List ℕ) (r : ℕ × ℕ × List (ℕ × ℕ)) (lo_is : lo ≡ r.0) (hi_is : hi ≡ r.1) (pairs : map (pair_at (names_of h)) listed ≡ r.2) (event : at_place h p ≡ Some (Range t r.0 r.1 r.2)) where
  at : at_place h p ≡ Some (Range t lo hi (map (pair_at (names_of h)) listed))
  at = event ∙ (λ i. Some (Range t (sym lo_is i) (sym hi_is i) (sym pairs i)))

  pub range_seen : (first end : ℕ) → first ≤ length keys → PointBelow (λ (k : ℕ). k) keys lo first → end ≤ length keys → PointWithin (λ (k : ℕ). k) keys hi end → All (IsPair (names_of h)) listed → AscendByKey h listed → IsRangeSeen h t p listed lo hi first end
  range_seen first end below low bound point numbers ascend = record {
    covers = record {
      each = each;
      numbers = numbers;
      ascend = ascend;
      inside = all_from (λ q. (lo ≤ (pair_at (names_of h) q).0) × ((pair_at (names_of h) q).0 ≤ hi)) listed (pair_inside h wf p t lo hi listed at);
      listed = all_from (λ q. SawAt h p t (pair_at (names_of h) q).0 (pair_at (names_of h) q).1) listed (pair_saw h wf p t lo hi listed at);
      unlisted = key_unlisted h wf p t lo hi listed at lo hi (omega arith) (omega arith) listed (λ q. ((λ c. (let w = pair_inside h wf p t lo hi listed at q c in (c, w.0, w.1))), (λ w. w.0)));
      own = λ none. absurd (false≢true (sym none));
    };
    inside = λ k v u saw wrote.
        let i = has_number h keys are k u wrote in
        let covered = sight_inside h wf p t lo hi listed at (record { place = p; txn = t; key = k; saw = v }) refl saw in
        let w = (each i.0).1 (k, i.1, covered.0, covered.1) in
        (i.0, i.1, w.0, w.1);
    forward = elim (cases_lt end first) [
      | inl less ↦
          let up = bounds_in_order h wf p t lo hi (map (pair_at (names_of h)) listed) at in
          let under = point_below (λ (k : ℕ). k) keys lo first low end 0 (omega arith) less in
          grind arith
      | inr le ↦ le
    ];
  }
    where
      high : IsEnd keys hi end
      high = record {
        bound = bound;
        within = λ k less. point_within (λ (k : ℕ). k) keys hi end point k 0 (omega arith) less;
        behind = λ k after inside. point_above (λ (k : ℕ). k) keys hi end point k 0 after inside;
      }

      each : (j : ℕ) → ((first ≤ j) × (j < end)) ↔ ((k : ℕ) × IsKeyAt h j k × (lo ≤ k) × (k ≤ hi))
      each = numbers_each h keys are lo hi first end low high

-- it reads some key
pub range_reads : (h : List Event) → IsWellFormed h → (p t lo hi : ℕ) (listed : List (ℕ × ℕ)) → at_place h p ≡ Some (Range t lo hi listed) → (v : ℕ) × SawAt h p t lo v
range_reads h wf p t lo hi listed at =
    let up = bounds_in_order h wf p t lo hi listed at in
    elim (listed_or_not listed lo) [
      | inl here ↦ (here.0, (Range t lo hi listed, at, refl, (omega arith, up, inl here.1)))
      | inr none ↦ (0, (Range t lo hi listed, at, refl, (omega arith, up, inr (none, refl))))
    ]

-- ---- What the event of a row tells of its transaction's snapshots.

-- t reads or writes at place p, and the new bounds have what it sees there
abbrev pub Tells : List Event → ℕ → ℕ → Bounds → Bounds → Type 0
Tells h t p old new = AccessesAt h t p × Sees h t p 0 (p + 1) 0 old new

abbrev pub IsReadRow : Row → ℕ → ℕ → Type 0
IsReadRow row key saw = ((d : ℕ) × (row ≡ rows.Read d key saw)) ⊎ ((d : ℕ) × (row ≡ rows.OwnRead d key saw))

abbrev pub IsIdleRow : Row → Type 0
IsIdleRow row = ((d : ℕ) × (start : Option ℕ) × (row ≡ rows.Begin d start)) ⊎ ((d : ℕ) × (row ≡ rows.Commit d)) ⊎ ((d : ℕ) × (row ≡ rows.Abort d))

seen_write : (names : Names) (k v w : ℕ) → IsSeen names k v w → (w ≤ length names.writes) × (0 < w → (write_at names (w - 1)).0 ≡ k)
seen_write names k v w seen = grind (arith, slice_get_within, get_or_from_slice_get)

-- a read's write is of its key
pub read_write : (names : Names) (row : Row) (key saw : ℕ) → IsReadRow row key saw → IsWithin names row → (saw ≤ length names.writes) × (0 < saw → (write_at names (saw - 1)).0 ≡ key_at names key)
read_write names row key saw p within = grind (arith, seen_write)

module _ (h : List Event) (t p : ℕ) where
  module _ (row : Row) (event : at_place h p ≡ Some (event_of (names_of h) row)) where
    pub idle_tells : IsIdleRow row → ¬ AccessesAt h t p
    idle_tells p a = grind arith

    module _ (wf : IsWellFormed h) (who : actor (event_of (names_of h) row) ≡ t) (old new : Bounds) where
      pub range_tells : (d r w : ℕ) → row ≡ rows.Range d r w → Sees h t p 0 (p + 1) 0 old new → Tells h t p old new
      range_tells d r w is sees =
          let range = range_at (names_of h) r in
          let at : at_place h p ≡ Some (Range (txn_at (names_of h) d) range.0 range.1 range.2) = subst (λ x. at_place h p ≡ Some (event_of (names_of h) x)) is event in
          let own : txn_at (names_of h) d ≡ t = subst (λ x. actor (event_of (names_of h) x) ≡ t) is who in
          let saw = range_reads h wf p t range.0 range.1 range.2 (subst (λ u. at_place h p ≡ Some (Range u range.0 range.1 range.2)) own at) in
          ((range.0, inr (saw.0, saw.1)), sees)

      pub write_tells : (d k w : ℕ) → row ≡ rows.Write d k w → Tells h t p old old
      write_tells d k w is =
          let at : at_place h p ≡ Some (Write (txn_at (names_of h) d) (key_at (names_of h) k)) = subst (λ x. at_place h p ≡ Some (event_of (names_of h) x)) is event in
          let own : txn_at (names_of h) d ≡ t = subst (λ x. actor (event_of (names_of h) x) ≡ t) is who in
          let wrote = subst (λ u. at_place h p ≡ Some (Write u (key_at (names_of h) k))) own at in
          ((key_at (names_of h) k, inl wrote), sees_none h wf t p (λ j v u saw other. subst (λ e. Saw e j v) (one_event h p p saw.0 (Write t (key_at (names_of h) k)) refl saw.1 wrote) saw.3) old)

      module _ (key saw : ℕ) (is : IsReadRow row key saw) where
        read_is : at_place h p ≡ Some (Read t (key_at (names_of h) key) (version_at (names_of h) saw))
        read_is = grind arith

        read_saw : SawAt h p t (key_at (names_of h) key) (version_at (names_of h) saw)
        read_saw = (_, read_is, refl, (refl, refl))

        only : (k v : ℕ) → SawAt h p t k v → k ≡ key_at (names_of h) key
        only k v seen = (subst (λ e. Saw e k v) (one_event h p p seen.0 (Read t (key_at (names_of h) key) (version_at (names_of h) saw)) refl seen.1 read_is) seen.3).0

        pub read_tells : (i : ℕ) → IsKeyAt h i (key_at (names_of h) key) → (SawAt h p t (key_at (names_of h) key) (version_at (names_of h) saw) → Sees h t p i p (i + 1) old new) → Tells h t p old new
        read_tells i at sees = (
          (key_at (names_of h) key, inr (version_at (names_of h) saw, read_saw)),
          sees_place h wf t p i (i + 1) (λ k v u seen wrote. (i, subst (IsKeyAt h i) (sym (only k v seen)) at, omega arith, omega arith)) old new (sees read_saw),
        )

        pub unwritten_tells : ((u : ℕ) → ¬ Wrote h u (key_at (names_of h) key)) → Tells h t p old old
        unwritten_tells none = (
          (key_at (names_of h) key, inr (version_at (names_of h) saw, read_saw)),
          sees_none h wf t p (λ k v u seen wrote. none u (subst (Wrote h u) (only k v seen) wrote)) old,
        )
