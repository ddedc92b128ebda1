-- A well-formed history has a text of lines `snapshot`, and no other.
use Rattle.std.proofs.Common.{◌≡◌, ◌⊎◌, inl, inr, ℕ, ◌<◌, ◌≤◌, List, [], ◌∷◌, ◌++◌, codes, ap, sym, subst, ◌∙◌, arith, ◌≢◌, length, Some, refl}
use Rattle.sia_events.specs.declared.event.Event.{Event}
use Rattle.sia_events.specs.Refusals.{IsWellFormed}
use Rattle.sia_events.specs.Text.{numeral}
use Rattle.sia_events.specs.Transactions.{HasEvent, CommitsAt, IsCommitted, WritesAt, WroteBefore}
use Rattle.sia_events.proofs.Worked.OneList.{one_list_by}
use Rattle.si_audit.specs.Explained.{TellsAll, TellsSnapshots}
use Rattle.si_audit.specs.Lines.{line}
use Rattle.sia_parts.specs.Telling.{event_words}
use Rattle.si_audit.specs.Reasons.{reason}
use Rattle.si_audit.specs.SnapshotLines.{IsNeeded, TellsExcluded, TellsNone, TellsSnapshot, bare_words, bound_words}
use Rattle.si_audit.specs.Snapshots.{Bars, IsFirst, IsInNone, ReadAsks, WriteAsks, AccessesAt, Fits, FitsStart, IsAsked, IsSnapshot}
use Rattle.si_audit.proofs.Shared.Telling.{IsOne, Told, all_told, one_all}
use Rattle.std.proofs.lemmas.Bool.{cases_eq, cases_lt}
use Rattle.sia_events.specs.declared.event.Event.TheVariants.{Commit, Write}
use Rattle.sia_events.specs.NarrowDependencies.{IsAsOf}
use Rattle.sia_events.specs.Places.{at_place}
use Rattle.sia_events.specs.Reads.{SawAt}
use Rattle.sia_events.proofs.OfLaws.Due.{WriterCommits, writer_or_not}
use Rattle.sia_events.proofs.OfLaws.SawDecisions.{saw_at_or_not}
use Rattle.sia_events.proofs.Shared.Decisions.{Decided, both, decided_alike, first_below, last_below}
use Rattle.sia_events.proofs.Shared.Starts.{one_start}
use Rattle.sia_events.proofs.Shared.TransactionDecisions.{at_or_not, has_event_or_not, has_start, place_within}
use Rattle.sia_events.proofs.Writing.WellFormed.{few_events}
use Rattle.sia_graph.proofs.Shared.Deciding.{either_decided, le_decided, not_decided, three_decided}
use Rattle.si_audit.proofs.OfLaws.FindingsExist.{seen_small, top, top_is, undue_or_not, wrote_small, txns_listed}
use Rattle.si_audit.proofs.Shared.SnapshotBounds.{access_within, fits_bounds, idle_fits}

-- the first place and key of what has P are one
one_first : (P : ℕ → ℕ → Type 0) (p k q j : ℕ) → IsFirst P p k → IsFirst P q j → (p ≡ q) × (k ≡ j)
one_first P p k q j x y = grind arith

module _ (h : List Event) (t : ℕ) where
  abbrev AsksFirst : ℕ → ℕ → ℕ → Type 0
  AsksFirst c p k = IsFirst (ReadAsks h t c) p k ⊎ (((q : ℕ) (j : ℕ) → ¬ ReadAsks h t c q j) × IsFirst (WriteAsks h t c) p k)

  one_asking : (c p k q j : ℕ) → AsksFirst c p k → AsksFirst c q j → (p ≡ q) × (k ≡ j)
  one_asking c p k q j (inl x) (inl y) = one_first (ReadAsks h t c) p k q j x y
  one_asking c p k q j (inl x) (inr y) = absurd (y.0 p k x.0)
  one_asking c p k q j (inr x) (inl y) = absurd (x.0 q j y.0)
  one_asking c p k q j (inr x) (inr y) = one_first (WriteAsks h t c) p k q j x.1 y.1

  one_needed : (c p k d q j : ℕ) → IsNeeded h t c p k → IsNeeded h t d q j → (c ≡ d) × (p ≡ q) × (k ≡ j)
  one_needed c p k d q j x y =
      let commit : c ≡ d = (let up : d ≤ c = x.1 d y.0 in let down : c ≤ d = y.1 c x.0 in omega arith) in
      let place = one_asking d p k q j (subst (λ (e : ℕ). AsksFirst e p k) commit x.2) y.2 in
      (commit, place.0, place.1)

  one_excluded : IsOne (TellsExcluded h t)
  one_excluded a b (inl x) (inl y) =
      let commit : x.0 ≡ y.0 = (let up : x.0 ≤ y.0 = x.3.2 y.0 y.1 y.2 y.3.1.0 in let down : y.0 ≤ x.0 = y.3.2 x.0 x.1 x.2 x.3.1.0 in omega arith) in
      let place = one_first (Bars h t y.0) x.1 x.2 y.1 y.2 (subst (λ (c : ℕ). IsFirst (Bars h t c) x.1 x.2) commit x.3.1) y.3.1 in
      x.4 ∙ (λ i. bound_words (codes "  not with ") h (commit i) (place.0 i) (place.1 i)) ∙ sym y.4
  one_excluded a b (inl x) (inr y) = let before : x.0 < y.0 = x.3.0 y.0 y.1.0 in let behind : y.0 ≤ x.0 = y.1.2 x.0 x.1 x.2 x.3.1.0 in absurd (omega arith)
  one_excluded a b (inr x) (inl y) = let before : y.0 < x.0 = y.3.0 x.0 x.1.0 in let behind : x.0 ≤ y.0 = x.1.2 y.0 y.1 y.2 y.3.1.0 in absurd (omega arith)
  one_excluded a b (inr x) (inr y) =
      let place : x.0 ≡ y.0 = (let up : x.0 ≤ y.0 = x.1.1 y.0 y.1.0 in let down : y.0 ≤ x.0 = y.1.1 x.0 x.1.0 in omega arith) in
      x.2 ∙ ap (λ p. reason (codes "not after " ++ bare_words h p)) place ∙ sym y.2

  one_none : IsOne (TellsNone h t)
  one_none a b (inl x) (inl y) =
      let place = one_first (IsInNone h t) x.0 x.1 y.0 y.1 x.2 y.2 in
      x.3 ∙ (λ i. reason (codes "in no snapshot: " ++ event_words h (place.1 i) (place.0 i))) ∙ sym y.3
  one_none a b (inl x) (inr y) = absurd (y.0 x.0 x.1 x.2.0)
  one_none a b (inr x) (inl y) = absurd (x.0 y.0 y.1 y.2.0)
  one_none a b (inr x) (inr y) =
      let needed = one_needed x.1 x.2 x.3 y.1 y.2 y.3 x.5 y.5 in
      let bound = one_excluded x.4 y.4 x.6 y.6 in
      x.7 ∙ (λ i. bound_words (codes "  not without ") h (needed.0 i) (needed.1 i) (needed.2 i) ++ bound i) ∙ sym y.7

  one_snapshot : IsOne (TellsSnapshot h t)
  one_snapshot a b (inl x) (inl y) = x.1 ∙ sym y.1
  one_snapshot a b (inl x) (inr (inl y)) = absurd (y.0 x.0)
  one_snapshot a b (inl x) (inr (inr y)) = absurd (y.0 x.0)
  one_snapshot a b (inr (inl x)) (inl y) = absurd (x.0 y.0)
  one_snapshot a b (inr (inl x)) (inr (inl y)) =
      let low = (y.3.1 x.1).0 ((x.3.1 x.1).1 (let most : x.1 ≤ x.2 = x.3.0 in (omega arith, most))) in
      let high = (y.3.1 x.2).0 ((x.3.1 x.2).1 (let most : x.1 ≤ x.2 = x.3.0 in (most, omega arith))) in
      let lower = (x.3.1 y.1).0 ((y.3.1 y.1).1 (let most : y.1 ≤ y.2 = y.3.0 in (omega arith, most))) in
      let higher = (x.3.1 y.2).0 ((y.3.1 y.2).1 (let most : y.1 ≤ y.2 = y.3.0 in (most, omega arith))) in
      let from : x.1 ≡ y.1 = (let up : y.1 ≤ x.1 = low.0 in let down : x.1 ≤ y.1 = lower.0 in omega arith) in
      let to : x.2 ≡ y.2 = (let up : x.2 ≤ y.2 = high.1 in let down : y.2 ≤ x.2 = higher.1 in omega arith) in
      x.4 ∙ (λ i. line (codes "snapshot" ∷ numeral t ∷ codes "from" ∷ numeral (from i) ∷ codes "to" ∷ numeral (to i) ∷ [])) ∙ sym y.4
  one_snapshot a b (inr (inl x)) (inr (inr y)) = absurd (y.1 x.1 ((x.3.1 x.1).1 (let most : x.1 ≤ x.2 = x.3.0 in (omega arith, most))))
  one_snapshot a b (inr (inr x)) (inl y) = absurd (x.0 y.0)
  one_snapshot a b (inr (inr x)) (inr (inl y)) = absurd (x.1 y.1 ((y.3.1 y.1).1 (let most : y.1 ≤ y.2 = y.3.0 in (omega arith, most))))
  one_snapshot a b (inr (inr x)) (inr (inr y)) = x.4 ∙ ap (λ (why : List ℕ). line (codes "snapshot" ∷ numeral t ∷ codes "none" ∷ []) ++ why) (one_none x.2 y.2 x.3 y.3) ∙ sym y.4

pub one_snapshots : (h : List Event) → IsWellFormed h → IsOne (TellsSnapshots h)
one_snapshots h wf a b x y =
    let txns = one_list_by (λ t. t ∷ []) (HasEvent h) x.0 y.0 x.1 y.1 in
    one_all (TellsSnapshot h) (one_snapshot h) y.0 a b (subst (λ (ts : List ℕ). TellsAll (TellsSnapshot h) ts a) txns x.2) y.2

below_or_not : (m n : ℕ) → Decided (m < n)
below_or_not m n = elim (cases_lt m n) [ inl less ↦ inl less | inr more ↦ inr (λ less. omega arith) ]

-- the least and the greatest number of which P holds, or none
module _ (P : ℕ → Type 0) (decide : (n : ℕ) → Decided (P n)) (small : (n : ℕ) → P n → n < top) where
  least_or_none : ((n : ℕ) × P n × ((m : ℕ) → P m → n ≤ m)) ⊎ ((n : ℕ) → ¬ P n)
  least_or_none = elim (first_below P decide top) [ inl found ↦ inl (found.0, found.2, found.3) | inr none ↦ inr (λ n p. none n (small n p) p) ]

  greatest_or_none : ((n : ℕ) × P n × ((m : ℕ) → P m → m ≤ n)) ⊎ ((n : ℕ) → ¬ P n)
  greatest_or_none = elim (last_below P decide top) [ inl found ↦ inl (found.0, found.2, λ m p. found.3 m (small m p) p) | inr none ↦ inr (λ n p. none n (small n p) p) ]

  pub some_or_none : Decided ((n : ℕ) × P n)
  some_or_none = elim least_or_none [ inl found ↦ inl (found.0, found.1) | inr none ↦ inr (λ some. none some.0 some.1) ]

-- the first place and key of which P holds, or none
module _ (P : ℕ → ℕ → Type 0) (decide : (p k : ℕ) → Decided (P p k)) (small : (p k : ℕ) → P p k → (p < top) × (k < top)) where
  first_at : (p k : ℕ) → P p k → ((q : ℕ) → ((j : ℕ) × P q j) → p ≤ q) → (j : ℕ) × IsFirst P p j
  first_at p k has lowest = elim (least_or_none (P p) (decide p) (λ j x. (small p j x).1)) [
    | inr none ↦ absurd (none k has)
    | inl least ↦ (
      least.0,
      (
        least.1,
        λ q j x. let up : p ≤ q = lowest q (j, x) in elim (cases_eq p q) [
          | inl same ↦ inr (same, least.2 j (subst (λ (n : ℕ). P n j) (sym same) x))
          | inr other ↦ inl (omega arith)
        ],
      ),
    )
  ]

  first_or_none : ((p : ℕ) × (k : ℕ) × IsFirst P p k) ⊎ ((p k : ℕ) → ¬ P p k)
  first_or_none = elim (least_or_none (λ p. (k : ℕ) × P p k) (λ p. some_or_none (P p) (decide p) (λ k x. (small p k x).1)) (λ p x. (small p x.0 x.1).0)) [
    | inr none ↦ inr (λ p k x. none p (k, x))
    | inl found ↦ let first = first_at found.0 found.1.0 found.1.1 found.2 in inl (found.0, first.0, first.1)
  ]

  pair_or_none : Decided ((p : ℕ) × (k : ℕ) × P p k)
  pair_or_none = elim first_or_none [ inl found ↦ inl (found.0, found.1, found.2.0) | inr none ↦ inr (λ some. none some.0 some.1 some.2) ]

module _ (h : List Event) (wf : IsWellFormed h) (t : ℕ) where
  place_small : (p : ℕ) (e : Event) → at_place h p ≡ Some e → p < top
  place_small p e at = let most : p ≤ length h = (place_within h p e at).1 in let few : length h ≤ 500000000 = few_events h wf in let is = top_is in omega arith

  saw_small : (p k v : ℕ) → SawAt h p t k v → (p < top) × (k < top) × (v < top)
  saw_small p k v saw = let small = seen_small h wf p t k v saw in let a = small.0 in let b = small.2 in let c = small.3 in let is = top_is in (omega arith, omega arith, omega arith)

  write_small : (p k : ℕ) → WritesAt h t k p → (p < top) × (k < top)
  write_small p k writes = let small = (wrote_small h wf t k p writes).1 in let is = top_is in (place_small p (Write t k) writes, omega arith)

  -- whether t saw a version of k that has Q
  module _ (p k : ℕ) (Q : ℕ → Type 0) (decide : (v : ℕ) → Decided (Q v)) where
    saw_one_or_none : Decided ((v : ℕ) × (SawAt h p t k v × Q v))
    saw_one_or_none = some_or_none (λ v. SawAt h p t k v × Q v) (λ v. both (SawAt h p t k v) (Q v) (saw_at_or_not h p t k v) (decide v)) (λ v x. (saw_small p k v x.0).2)

  access_or_not : (p : ℕ) → Decided (AccessesAt h t p)
  access_or_not p =
      some_or_none (λ k. WritesAt h t k p ⊎ ((v : ℕ) × SawAt h p t k v))
      (λ k. either_decided (WritesAt h t k p) ((v : ℕ) × SawAt h p t k v) (at_or_not h p (Write t k)) (some_or_none (λ v. SawAt h p t k v) (saw_at_or_not h p t k) (λ v saw. (saw_small p k v saw).2)))
      (λ k x. elim x [ inl writes ↦ (write_small p k writes).1 | inr saw ↦ (saw_small p k saw.0 saw.1).1 ])

  first_access : ((p : ℕ) × AccessesAt h t p × ((q : ℕ) → AccessesAt h t q → p ≤ q)) ⊎ ((p : ℕ) → ¬ AccessesAt h t p)
  first_access = least_or_none (AccessesAt h t) access_or_not (λ p x. elim x.1 [ inl writes ↦ (write_small p x.0 writes).0 | inr saw ↦ (saw_small p x.0 saw.0 saw.1).0 ])

  in_none_or_not : (p k : ℕ) → Decided (IsInNone h t p k)
  in_none_or_not p k = grind (arith, saw_one_or_none p k (λ v. (WroteBefore h t k p × (v ≢ t)) ⊎ ((v ≢ 0) × (v ≢ t) × ¬ IsCommitted h v)) (undue_or_not h wf p t k))

  first_in_none : ((p : ℕ) × (k : ℕ) × IsFirst (IsInNone h t) p k) ⊎ ((p k : ℕ) → ¬ IsInNone h t p k)
  first_in_none = first_or_none (IsInNone h t) in_none_or_not (λ p k x. let small = saw_small p k x.0 x.1 in (small.0, small.1))

  -- what asks for the commit at c
  module _ (c : ℕ) where
    read_asks_or_not : (p k : ℕ) → Decided (ReadAsks h t c p k)
    read_asks_or_not p k =
        decided_alike ((v : ℕ) × (SawAt h p t k v × ((v ≢ t) × CommitsAt h v c))) (ReadAsks h t c p k) (λ x. (x.0, x.1.0, x.1.1.0, x.1.1.1)) (λ x. (x.0, (x.1, (x.2, x.3))))
        (saw_one_or_none p k (λ v. (v ≢ t) × CommitsAt h v c) (λ v. both (v ≢ t) (CommitsAt h v c) (not_decided (v ≡ t) (cases_eq v t)) (at_or_not h c (Commit v))))

    ends_later : Decided ((d : ℕ) × (CommitsAt h t d × (c < d)))
    ends_later = some_or_none (λ d. CommitsAt h t d × (c < d)) (λ d. both (CommitsAt h t d) (c < d) (at_or_not h d (Commit t)) (below_or_not c d)) (λ d x. place_small d (Commit t) x.0)

    write_asks_or_not : (p k : ℕ) → Decided (WriteAsks h t c p k)
    write_asks_or_not p k =
        decided_alike (WritesAt h t k p × WriterCommits h k c × ((d : ℕ) × (CommitsAt h t d × (c < d)))) (WriteAsks h t c p k)
        (λ x. (x.0, x.1.0, x.2.0, (x.1.2, x.1.1), x.2.1.0, x.2.1.1)) (λ x. (x.0, (x.1, x.3.1, x.3.0), (x.2, (x.4, x.5))))
        (three_decided (WritesAt h t k p) (WriterCommits h k c) ((d : ℕ) × (CommitsAt h t d × (c < d))) (at_or_not h p (Write t k)) (writer_or_not h k c) ends_later)

    read_small : (p k : ℕ) → ReadAsks h t c p k → (p < top) × (k < top)
    read_small p k x = let small = saw_small p k x.0 x.1 in (small.0, small.1)

    asked_or_not : Decided (IsAsked h t c)
    asked_or_not =
        pair_or_none (λ p k. ReadAsks h t c p k ⊎ WriteAsks h t c p k) (λ p k. either_decided (ReadAsks h t c p k) (WriteAsks h t c p k) (read_asks_or_not p k) (write_asks_or_not p k))
        (λ p k x. elim x [ inl reads ↦ read_small p k reads | inr writes ↦ write_small p k writes.0 ])

    asked_first : IsAsked h t c → ((d : ℕ) → IsAsked h t d → d ≤ c) → (p : ℕ) × (k : ℕ) × IsNeeded h t c p k
    asked_first asked most = elim (first_or_none (ReadAsks h t c) read_asks_or_not read_small) [
      | inl x ↦ (x.0, x.1, (asked, most, inl x.2))
      | inr none ↦ elim (first_or_none (WriteAsks h t c) write_asks_or_not (λ p k x. write_small p k x.0)) [
        | inl x ↦ (x.0, x.1, (asked, most, inr (none, x.2)))
        | inr neither ↦ elim asked.2 [ inl reads ↦ absurd (none asked.0 asked.1 reads) | inr writes ↦ absurd (neither asked.0 asked.1 writes) ]
      ]
    ]

    as_of_small : (v b : ℕ) → IsAsOf h v b → b < top
    as_of_small v b p = grind (arith, top_is, place_small)

    seen_before : (v : ℕ) → Decided ((b : ℕ) × (IsAsOf h v b × (b < c)))
    seen_before v =
        some_or_none (λ b. IsAsOf h v b × (b < c))
        (λ b. both (IsAsOf h v b) (b < c) (either_decided ((v ≡ 0) × (b ≡ 0)) (CommitsAt h v b) (both (v ≡ 0) (b ≡ 0) (cases_eq v 0) (cases_eq b 0)) (at_or_not h b (Commit v))) (below_or_not b c))
        (λ b x. as_of_small v b x.0)

    bars_or_not : (p k : ℕ) → Decided (Bars h t c p k)
    bars_or_not p k =
        decided_alike (WriterCommits h k c × ((v : ℕ) × (SawAt h p t k v × ((v ≢ t) × ((b : ℕ) × (IsAsOf h v b × (b < c))))))) (Bars h t c p k)
        (λ x. (x.1.0, x.1.1.1.1.0, x.0.0, x.1.1.0, x.1.1.1.0, x.1.1.1.1.1.0, (x.0.2, x.0.1), x.1.1.1.1.1.1)) (λ x. ((x.2, x.6.1, x.6.0), (x.0, (x.3, (x.4, (x.1, (x.5, x.7)))))))
        (both (WriterCommits h k c) ((v : ℕ) × (SawAt h p t k v × ((v ≢ t) × ((b : ℕ) × (IsAsOf h v b × (b < c)))))) (writer_or_not h k c)
        (saw_one_or_none p k (λ v. (v ≢ t) × ((b : ℕ) × (IsAsOf h v b × (b < c)))) (λ v. both (v ≢ t) ((b : ℕ) × (IsAsOf h v b × (b < c))) (not_decided (v ≡ t) (cases_eq v t)) (seen_before v))))

    bars_small : (p k : ℕ) → Bars h t c p k → (p < top) × (k < top)
    bars_small p k x = let small = saw_small p k x.0 x.3 in (small.0, small.1)

  greatest_asked : ((c : ℕ) × IsAsked h t c × ((d : ℕ) → IsAsked h t d → d ≤ c)) ⊎ ((c : ℕ) → ¬ IsAsked h t c)
  greatest_asked = greatest_or_none (IsAsked h t) asked_or_not (λ c x. elim x.2 [ inl reads ↦ place_small c (Commit reads.0) reads.3 | inr writes ↦ place_small c (Commit writes.1) writes.3.1 ])

  -- a read excludes the commit at c
  abbrev IsBarred : ℕ → Type 0
  IsBarred c = (p : ℕ) × (k : ℕ) × Bars h t c p k

  least_barred : ((c : ℕ) × IsBarred c × ((d : ℕ) → IsBarred d → c ≤ d)) ⊎ ((c : ℕ) → ¬ IsBarred c)
  least_barred = least_or_none IsBarred (λ c. pair_or_none (Bars h t c) (bars_or_not c) (bars_small c)) (λ c x. place_small c (Commit x.2.2) x.2.6.1)

  fits_or_not : (n : ℕ) → Decided (Fits h t n)
  fits_or_not n =
      decided_alike (((p k : ℕ) → ¬ IsInNone h t p k) × ((c : ℕ) → IsAsked h t c → c ≤ n) × ((c p k : ℕ) → Bars h t c p k → n < c)) (Fits h t n)
      (λ x. (fits_bounds h wf t n).1 (record { none = x.0; low = x.1; high = x.2 })) (λ fits. let within = (fits_bounds h wf t n).0 fits in (within.none, within.low, within.high))
      (three_decided ((p k : ℕ) → ¬ IsInNone h t p k) ((c : ℕ) → IsAsked h t c → c ≤ n) ((c p k : ℕ) → Bars h t c p k → n < c)
      (elim first_in_none [ inl x ↦ inr (λ none. none x.0 x.1 x.2.0) | inr none ↦ inl none ])
      (elim greatest_asked [
        | inr none ↦ inl (λ c x. absurd (none c x))
        | inl found ↦ decided_alike (found.0 ≤ n) ((c : ℕ) → IsAsked h t c → c ≤ n) (λ most c x. let up : c ≤ found.0 = found.2 c x in omega arith) (λ all. all found.0 found.1) (le_decided found.0 n)
      ])
      (elim least_barred [
        | inr none ↦ inl (λ c p k x. absurd (none c (p, k, x)))
        | inl found ↦
            decided_alike (n < found.0) ((c p k : ℕ) → Bars h t c p k → n < c) (λ least c p k x. let down : found.0 ≤ c = found.2 c (p, k, x) in omega arith) (λ all. all found.0 found.1.0 found.1.1 found.1.2) (below_or_not n found.0)
      ]))

  snapshot_or_not : (n : ℕ) → Decided (IsSnapshot h t n)
  snapshot_or_not n = both ((p : ℕ) → AccessesAt h t p → n < p) (Fits h t n) (elim first_access [
    | inr none ↦ inl (λ p x. absurd (none p x))
    | inl found ↦ decided_alike (n < found.0) ((p : ℕ) → AccessesAt h t p → n < p) (λ less p x. let up : found.0 ≤ p = found.2 p x in omega arith) (λ all. all found.0 found.1) (below_or_not n found.0)
  ]) (fits_or_not n)

  -- the snapshots that fit t are an interval
  pub between : (from n to : ℕ) → IsSnapshot h t from → IsSnapshot h t to → from ≤ n → n ≤ to → IsSnapshot h t n
  between from n to x y low high =
      let least = (fits_bounds h wf t from).0 x.1 in
      let most = (fits_bounds h wf t to).0 y.1 in (
        λ p a. let before : to < p = y.0 p a in omega arith,
        (fits_bounds h wf t n).1 (record {
          none = least.none;
          low = λ c a. let up : c ≤ from = least.low c a in omega arith;
          high = λ c p k b. let down : to < c = most.high c p k b in omega arith;
        }),
      )

  -- what asks for a commit reads or writes
  asking : (c : ℕ) → IsAsked h t c → (p : ℕ) × AccessesAt h t p
  asking c x = elim x.2 [ inl reads ↦ (x.0, (x.1, inr (reads.0, reads.1))) | inr writes ↦ (x.0, (x.1, inl writes.0)) ]

  excluded_told : (p : ℕ) → AccessesAt h t p → Told (TellsExcluded h t)
  excluded_told p a = elim first_access [
    | inr none ↦ absurd (none p a)
    | inl first ↦ elim least_barred [
      | inr none ↦ (_, inr (first.0, (first.1, first.2, λ d q j x. absurd (none d (q, j, x))), refl))
      | inl found ↦ elim (cases_lt found.0 first.0) [
        | inr past ↦ (_, inr (first.0, (first.1, first.2, λ d q j x. let least : found.0 ≤ d = found.2 d (q, j, x) in omega arith), refl))
        | inl before ↦ elim (first_or_none (Bars h t found.0) (bars_or_not found.0) (bars_small found.0)) [
          | inr none ↦ absurd (none found.1.0 found.1.1 found.1.2)
          | inl x ↦ (_, inl (found.0, x.0, x.1, (λ q b. let up : first.0 ≤ q = first.2 q b in omega arith, x.2, λ d q j y. found.2 d (q, j, y)), refl))
        ]
      ]
    ]
  ]

  none_has_told : ((n : ℕ) → ¬ IsSnapshot h t n) → Told (TellsNone h t)
  none_has_told never = elim first_in_none [
    | inl x ↦ (_, inl (x.0, x.1, x.2, refl))
    | inr none ↦ elim greatest_asked [
      | inr free ↦ absurd (never 0 (
        λ p a. (access_within h t p a).0,
        (fits_bounds h wf t 0).1 (record { none = none; low = λ c a. absurd (free c a); high = λ c p k b. let less : b.1 < c = b.7 in omega arith }),
      ))
      | inl found ↦
          let needed = asked_first found.0 found.1 found.2 in
          let access = asking found.0 found.1 in
          let bound = excluded_told access.0 access.1 in
          (_, inr (none, found.0, needed.0, needed.1, bound.0, needed.2, bound.1, refl))
    ]
  ]

  misfit_told : (¬ FitsStart h t) → (p : ℕ) → AccessesAt h t p → Told (TellsSnapshot h t)
  misfit_told misfit p a = elim (first_below (IsSnapshot h t) snapshot_or_not p) [
    | inr none ↦
        let never : (n : ℕ) → ¬ IsSnapshot h t n = λ n s. none n (s.0 p a) s in
        let why = none_has_told never in
        (_, inr (inr (misfit, never, why.0, why.1, refl)))
    | inl low ↦ elim (last_below (IsSnapshot h t) snapshot_or_not p) [
      | inr none ↦ absurd (none low.0 low.1 low.2)
      | inl high ↦ (_, inr (inl (misfit, low.0, high.0, (low.3 high.0 high.2, λ n. (λ s. (low.3 n s, high.3 n (s.0 p a) s), λ b. between low.0 n high.0 low.2 high.2 b.0 b.1)), refl)))
    ]
  ]

  pub fits_start_or_not : HasEvent h t → Decided (FitsStart h t)
  fits_start_or_not has =
      let start = has_start h t has in
      elim (fits_or_not start.0) [ inl fits ↦ inl (start.0, start.1, fits) | inr misfit ↦ inr (λ x. misfit (subst (Fits h t) (one_start h t x.0 start.0 x.1 start.1) x.2)) ]

  snapshot_told : HasEvent h t → Told (TellsSnapshot h t)
  snapshot_told has = elim (fits_start_or_not has) [
    | inl fits ↦ ([], inl (fits, refl))
    | inr misfit ↦ elim first_access [
      | inl first ↦ misfit_told misfit first.0 first.1
      | inr none ↦ let start = has_start h t has in absurd (misfit (start.0, start.1, idle_fits h t start.0 none))
    ]
  ]

pub none_told : (h : List Event) → IsWellFormed h → (t : ℕ) → HasEvent h t → ((n : ℕ) → ¬ IsSnapshot h t n) → Told (TellsNone h t)
none_told h wf t has never = none_has_told h wf t never

pub snapshots_exist : (h : List Event) → IsWellFormed h → Told (TellsSnapshots h)
snapshots_exist h wf =
    let txns = txns_listed h (HasEvent h) (has_event_or_not h) (λ t has. (has.0, has.1.0, has.1.1, has.1.2)) in
    let all = all_told (TellsSnapshot h) txns.0 (λ t c. snapshot_told h wf t ((txns.1.each t).0 c)) in
    (all.0, (txns.0, txns.1, all.1))
