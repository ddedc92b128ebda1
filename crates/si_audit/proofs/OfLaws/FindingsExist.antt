-- A well-formed history has a list of its bad reads, one of its bad writes, and one of its unexplained reads.
use Rattle.std.proofs.Common.{◌≡◌, ◌≢◌, ◌⊎◌, inl, inr, ℕ, zero, suc, ◌+◌, ◌^◌, ◌<◌, ◌≤◌, Some, List, [], ◌∷◌, flat_map, length, refl, ap, sym, subst, ◌∙◌, arith, ◌-◌, ◌++◌, map, All, Contains, rules}
use Rattle.std.specs.Prelude.{⊤}
use Rattle.std.specs.List.{AllByRecursion, range_with_len}
use Rattle.std.proofs.lemmas.Bool.{cases_eq, cases_lt, cases_Bool}
use Rattle.std.proofs.lemmas.List.Elements.{Contains-get_or, All-nil, All-cons}
use Rattle.sia_events.specs.declared.event.Event.{Event}
use Rattle.sia_events.specs.declared.event.Event.TheVariants.{Write, Commit}
use Rattle.sia_events.specs.Events.{actor}
use Rattle.sia_events.specs.Isolation.{IsBadRead, IsBadWrite, IsUnexplained}
use Rattle.sia_events.specs.Lists.{ListsBy, Precedes, ListsAscending}
use Rattle.sia_events.specs.Places.{at_place}
use Rattle.sia_events.specs.Reads.{IsDue, SawAt}
use Rattle.sia_events.specs.Refusals.{IsWellFormed}
use Rattle.sia_events.specs.Transactions.{IsCommitted, StartsBeforeCommit, Wrote, WroteBefore}
use Rattle.sia_events.proofs.Shared.Decisions.{Decided, both, decided_alike, first_below}
use Rattle.sia_events.proofs.OfLaws.Due.{has_due, one_due}
use Rattle.sia_events.proofs.OfLaws.Seen.{actor_is_txn, saw_written}
use Rattle.sia_events.proofs.Worked.OneList.{Precedes-asym}
use Rattle.sia_events.proofs.Writing.Ranges.{one_version}
use Rattle.sia_events.proofs.OfLaws.SawDecisions.{saw_at_or_not}
use Rattle.sia_events.proofs.Shared.Starts.{one_event, one_start}
use Rattle.sia_events.proofs.Shared.TransactionDecisions.{committed_or_not, place_within, wrote_before_or_not, wrote_or_not}
use Rattle.sia_events.proofs.Writing.WellFormed.{event_in_range, few_events, one_commit}
use Rattle.sia_parts.specs.declared.finding.BadRead.{BadRead}
use Rattle.sia_parts.specs.declared.finding.BadWrite.{BadWrite}
use Rattle.sia_parts.specs.declared.finding.Unexplained.{Unexplained}
use Rattle.sia_parts.specs.Entries.{bad_read_rank, bad_write_rank, unexplained_rank, EdgeOfKind, IsEdge, kind_number}
use Rattle.sia_parts.specs.Findings.{ListsBadReads, ListsBadWrites, ListsUnexplained}
use Rattle.sia_parts.proofs.Auditing.KeyLemmas.{seen_key}
use Rattle.sia_parts.proofs.Auditing.Members.{contains_first}
use Rattle.sia_graph.proofs.Shared.Deciding.{either_decided, not_decided, three_decided, element_decided, event_decided}
use Rattle.sia_graph.proofs.Shared.Facts.{commits_before_decided, lifetime_of}
use Rattle.sia_graph.proofs.OfLaws.FiniteLists.{contains_flat, list_of}
use Rattle.sia_parts.specs.declared.finding.Edge.{Edge}
use Rattle.sia_graph.specs.declared.cycle.Step.{Step}
use Rattle.sia_graph.specs.Dangerous.{IsLeast}
use Rattle.sia_graph.specs.Orders.{Leads}
use Rattle.sia_graph.specs.Cycles.{GoesBack, GoesRound, IsPrevious, IsPrintedCycle, IsStuckSet, TakesLeastEdge}
use Rattle.sia_graph.proofs.Shared.PartedLists.{contains_in}
use Rattle.sia_graph.proofs.Shared.ReadyOrders.{In}
use Rattle.sia_parts.specs.declared.finding.Kind.{Kind}
use Rattle.sia_graph.specs.declared.judgement.Verdict.{Verdict}
use Rattle.sia_graph.specs.declared.judgement.Verdict.TheVariants.{Order, Cycle}
use Rattle.sia_graph.specs.Fronts.{IsFront, stands}
use Rattle.sia_graph.specs.Verdicts.{IsVerdict}
use Rattle.sia_graph.proofs.OfLaws.FiniteHistories.{edge_list_exists, event_in}
use Rattle.sia_graph.proofs.Shared.Fronts.{front_more, front_none, no_order, none_fed, whole_front}
use Rattle.sia_graph.proofs.OfPivots.ListedAs.{mapped}
use Rattle.sia_graph.proofs.Orders.TakenFronts.{in_range}
use Rattle.sia_graph.proofs.Shared.Positions.{Stands, contains_stands, false_stands, stands_contains, stands_last, stands_more, true_stands}

-- the lists of so many numbers below n
tuples : ℕ → ℕ → List (List ℕ)
tuples n zero = [] ∷ []
tuples n (suc many) = flat_map (λ x. flat_map (λ xs. (x ∷ xs) ∷ []) (tuples n many)) (range_with_len 0 n)

in_tuples : (n many : ℕ) (xs : List ℕ) → length xs ≡ many → AllByRecursion (λ x. x < n) xs → Contains (tuples n many) xs
unfolding tuples
in_tuples n zero [] long all = contains_first [] []
in_tuples n (suc many) (x ∷ xs) long all =
    contains_flat (λ y. flat_map (λ ys. (y ∷ ys) ∷ []) (tuples n many)) (range_with_len 0 n) x (x ∷ xs) (in_range n x all.0)
    (contains_flat (λ ys. (x ∷ ys) ∷ []) (tuples n many) xs (x ∷ xs) (in_tuples n many xs (omega arith) all.1) (contains_first (x ∷ xs) []))
in_tuples n many xs long all = absurd (omega arith)

-- a number above all that a text can name
pub top : ℕ
top = 2 ^ 64

pub top_is : top ≡ 18446744073709551616
unfolding top
top_is = refl

-- what is told by so many numbers can be listed
listed : {A : Type 0} (rank : A → List ℕ) (many : ℕ) (of : List ℕ → A) → ((x : A) → of (rank x) ≡ x) → ((x : A) → length (rank x) ≡ many) → (P : A → Type 0) → ((x : A) → Decided (P x)) → ((x : A) → P x → AllByRecursion (λ n. n < top) (rank x))
    → (ys : List A) × ListsBy rank P ys
listed rank many of back long P decide within =
    list_of rank (λ x y e. sym (back x) ∙ ap of e ∙ back y) P decide (flat_map (λ r. of r ∷ []) (tuples top many))
    (λ x p. contains_flat (λ r. of r ∷ []) (tuples top many) (rank x) x (in_tuples top many (rank x) (long x) (within x p)) (subst (λ y. Contains (y ∷ []) x) (sym (back x)) (contains_first x [])))

-- what a finer rank lists a coarser one lists, where it tells those that have P apart as well
coarser : {A : Type 0} (fine rank : A → List ℕ) (P : A → Type 0) → ((x y : A) → P x → P y → Precedes (fine x) (fine y) → Precedes (rank x) (rank y)) → (ys : List A) → ListsBy fine P ys → ListsBy rank P ys
coarser fine rank P as_fine ys l = grind (arith, Contains-get_or)

abbrev bad_read_of : List ℕ → BadRead
bad_read_of (p ∷ k ∷ t ∷ saw ∷ due ∷ []) = record { place = p; txn = t; key = k; saw = saw; due = due }
bad_read_of xs = record { place = 0; txn = 0; key = 0; saw = 0; due = 0 }

abbrev unexplained_of : List ℕ → Unexplained
unexplained_of (p ∷ k ∷ t ∷ saw ∷ []) = record { place = p; txn = t; key = k; saw = saw }
unexplained_of xs = record { place = 0; txn = 0; key = 0; saw = 0 }

abbrev bad_write_of : List ℕ → BadWrite
bad_write_of (k ∷ first ∷ second ∷ []) = record { key = k; first = first; second = second }
bad_write_of xs = record { key = 0; first = 0; second = 0 }

-- ranks that tell all of a finding
abbrev bad_read_fine : BadRead → List ℕ
bad_read_fine b = b.place ∷ b.key ∷ b.txn ∷ b.saw ∷ b.due ∷ []

abbrev unexplained_fine : Unexplained → List ℕ
unexplained_fine b = b.place ∷ b.key ∷ b.txn ∷ b.saw ∷ []

by_two : (p k q l : ℕ) (xs ys : List ℕ) → Precedes (p ∷ k ∷ xs) (q ∷ l ∷ ys) → Precedes (p ∷ k ∷ []) (q ∷ l ∷ []) ⊎ ((p ≡ q) × (k ≡ l))
by_two p k q l xs ys r = grind arith

never_before : (xs ys : List ℕ) → xs ≡ ys → ¬ Precedes xs ys
never_before xs ys e p = let q = subst (λ (zs : List ℕ). Precedes zs ys) e p in Precedes-asym ys ys q q

module _ (h : List Event) (wf : IsWellFormed h) where
  pub wrote_small : (t k p : ℕ) → at_place h p ≡ Some (Write t k) → (t < 4294967296) × (k < 18446744073709551616)
  wrote_small t k p at = let r = event_in_range h wf p (Write t k) at in let a = r.0.1 in let b : k < 2 ^ 64 = r.1 in (omega arith, omega arith)

  pub seen_small : (p t k v : ℕ) → SawAt h p t k v → (p < 18446744073709551616) × (t < 4294967296) × (k < 18446744073709551616) × (v < 18446744073709551616)
  seen_small p t k v saw =
      let most : p ≤ length h = (place_within h p saw.0 saw.1).1 in
      let few : length h ≤ 500000000 = few_events h wf in
      let txn : t < 2 ^ 32 = (actor_is_txn h wf t p (saw.0, saw.1, saw.2)).1 in
      let key : k < 2 ^ 64 = seen_key h wf p t k v saw in
      let version : v < 2 ^ 64 = elim (cases_eq v 0) [ inl none ↦ omega arith | inr later ↦ (let w = saw_written h wf p t k v saw later in let small = (wrote_small v k w.0 w.2).0 in omega arith) ] in
      (omega arith, omega arith, omega arith, omega arith)

  due_small : (t p k v : ℕ) → t < 4294967296 → IsDue h t p k v → v < 4294967296
  due_small t p k v small q = grind (arith, wrote_small)

  one_seen : (p k t u v w : ℕ) → SawAt h p t k v → SawAt h p u k w → (t ≡ u) × (v ≡ w)
  one_seen p k t u v w q r = grind (arith, one_event, one_version)

  due_or_not : (t p k v : ℕ) → (q : ℕ) × (e : Event) × (at_place h q ≡ Some e) × (actor e ≡ t) → Decided (IsDue h t p k v)
  due_or_not t p k v acts =
      let due = has_due h wf t p k (acts.0, (acts.1, acts.2, acts.3)) in
      elim (cases_eq due.0 v) [ inl e ↦ inl (subst (IsDue h t p k) e due.1) | inr other ↦ inr (λ also. other (one_due h t p k due.0 v due.1 also)) ]

  bad_read_or_not : (b : BadRead) → Decided (IsBadRead h b.place b.txn b.key b.saw b.due × ⊤)
  bad_read_or_not b = elim (saw_at_or_not h b.place b.txn b.key b.saw) [
    | inr none ↦ inr (λ x. none x.0.0)
    | inl saw ↦ both (IsBadRead h b.place b.txn b.key b.saw b.due) ⊤
        (three_decided (SawAt h b.place b.txn b.key b.saw) (IsDue h b.txn b.place b.key b.due) (b.saw ≢ b.due) (inl saw)
        (due_or_not b.txn b.place b.key b.due (b.place, saw.0, saw.1, saw.2)) (not_decided (b.saw ≡ b.due) (cases_eq b.saw b.due))) (inl tt)
  ]

  abbrev IsBad : BadRead → Type 0
  IsBad b = IsBadRead h b.place b.txn b.key b.saw b.due × ⊤

  same_read : (x y : BadRead) → IsBad x → IsBad y → x.place ≡ y.place → x.key ≡ y.key → bad_read_fine x ≡ bad_read_fine y
  same_read x y p q place key =
      let saw = subst (λ (k : ℕ). SawAt h y.place x.txn k x.saw) key (subst (λ (n : ℕ). SawAt h n x.txn x.key x.saw) place p.0.0) in
      let seen = one_seen y.place y.key x.txn y.txn x.saw y.saw saw q.0.0 in
      let there = subst (λ (k : ℕ). IsDue h x.txn y.place k x.due) key (subst (λ (n : ℕ). IsDue h x.txn n x.key x.due) place p.0.1) in
      let due = one_due h y.txn y.place y.key x.due y.due (subst (λ (t : ℕ). IsDue h t y.place y.key x.due) seen.0 there) q.0.1 in
      λ i. place i ∷ key i ∷ seen.0 i ∷ seen.1 i ∷ due i ∷ []

  pub bad_reads_exist : (xs : List BadRead) × ListsBadReads h (λ _. ⊤) xs
  bad_reads_exist =
      let made = listed bad_read_fine 5 bad_read_of (λ x. refl) (λ x. refl) IsBad bad_read_or_not (λ x p.
      let s = seen_small x.place x.txn x.key x.saw p.0.0 in
      let d = due_small x.txn x.place x.key x.due s.1 p.0.1 in
      let a = s.0 in let b = s.1 in let c = s.2 in let e = s.3 in let is = top_is in
      (omega arith, (omega arith, (omega arith, (omega arith, (omega arith, tt)))))) in (
        made.0,
        coarser bad_read_fine bad_read_rank IsBad (λ x y p q before.
            elim (by_two x.place x.key y.place y.key (x.txn ∷ x.saw ∷ x.due ∷ []) (y.txn ∷ y.saw ∷ y.due ∷ []) before) [
              | inl less ↦ less
              | inr same ↦ absurd (never_before (bad_read_fine x) (bad_read_fine y) (same_read x y p q same.0 same.1) before)
            ]) made.0 made.1,
      )

  -- whether it missed its own write, or saw a version whose transaction hasn't committed
  pub undue_or_not : (p t k v : ℕ) → Decided ((WroteBefore h t k p × (v ≢ t)) ⊎ ((v ≢ 0) × (v ≢ t) × ¬ IsCommitted h v))
  undue_or_not p t k v = search (rules, either_decided, both, wrote_before_or_not, not_decided, cases_eq, three_decided, committed_or_not)

  unexplained_or_not : (b : Unexplained) → Decided (IsUnexplained h b.place b.txn b.key b.saw × ⊤)
  unexplained_or_not b = grind (arith, committed_or_not h b.txn, saw_at_or_not h b.place b.txn b.key b.saw, undue_or_not b.place b.txn b.key b.saw)

  abbrev IsOdd : Unexplained → Type 0
  IsOdd b = IsUnexplained h b.place b.txn b.key b.saw × ⊤

  same_odd : (x y : Unexplained) → IsOdd x → IsOdd y → x.place ≡ y.place → x.key ≡ y.key → unexplained_fine x ≡ unexplained_fine y
  same_odd x y p q place key =
      let saw = subst (λ (k : ℕ). SawAt h y.place x.txn k x.saw) key (subst (λ (n : ℕ). SawAt h n x.txn x.key x.saw) place p.0.1) in
      let seen = one_seen y.place y.key x.txn y.txn x.saw y.saw saw q.0.1 in
      λ i. place i ∷ key i ∷ seen.0 i ∷ seen.1 i ∷ []

  pub unexplained_exist : (xs : List Unexplained) × ListsUnexplained h (λ _. ⊤) xs
  unexplained_exist =
      let made = listed unexplained_fine 4 unexplained_of (λ x. refl) (λ x. refl) IsOdd unexplained_or_not (λ x p.
      let s = seen_small x.place x.txn x.key x.saw p.0.1 in
      let a = s.0 in let b = s.1 in let c = s.2 in let e = s.3 in let is = top_is in
      (omega arith, (omega arith, (omega arith, (omega arith, tt))))) in (
        made.0,
        coarser unexplained_fine unexplained_rank IsOdd (λ x y p q before.
            elim (by_two x.place x.key y.place y.key (x.txn ∷ x.saw ∷ []) (y.txn ∷ y.saw ∷ []) before) [
              | inl less ↦ less
              | inr same ↦ absurd (never_before (unexplained_fine x) (unexplained_fine y) (same_odd x y p q same.0 same.1) before)
            ]) made.0 made.1,
      )

  bad_write_or_not : (b : BadWrite) → Decided (IsBadWrite h b.key b.first b.second × ⊤)
  bad_write_or_not b = elim (commits_before_decided h wf b.first b.second) [
    | inr none ↦ inr (λ x. none x.0.3)
    | inl c ↦
        let life = lifetime_of h wf b.second (c.1, c.3) in
        let starts : Decided (StartsBeforeCommit h b.second b.first) = elim (cases_lt life.start c.0) [
          | inl less ↦ inl (life.start, c.0, life.starts, c.2, less)
          | inr more ↦ inr (λ x.
              let s : life.start ≡ x.0 = one_start h b.second life.start x.0 life.starts x.2 in
              let e : c.0 ≡ x.1 = one_commit h wf b.first c.0 x.1 c.2 x.3 in
              let l = x.4 in
              omega arith)
        ] in
        decided_alike (Wrote h b.first b.key × Wrote h b.second b.key × StartsBeforeCommit h b.second b.first) (IsBadWrite h b.key b.first b.second × ⊤) (λ x. ((x.0, x.1, x.2, c), tt)) (λ x. (x.0.0, x.0.1, x.0.2))
        (three_decided (Wrote h b.first b.key) (Wrote h b.second b.key) (StartsBeforeCommit h b.second b.first) (wrote_or_not h b.first b.key) (wrote_or_not h b.second b.key) starts)
  ]

  pub bad_writes_exist : (xs : List BadWrite) × ListsBadWrites h (λ _. ⊤) xs
  bad_writes_exist = listed bad_write_rank 3 bad_write_of (λ x. refl) (λ x. refl) (λ b. IsBadWrite h b.key b.first b.second × ⊤) bad_write_or_not (λ x p.
      let first = p.0.0 in
      let second = p.0.1 in
      let s = wrote_small x.first x.key first.0 first.1 in
      let t = wrote_small x.second x.key second.0 second.1 in
      let a = s.0 in let b = s.1 in let c = t.0 in let is = top_is in
      (omega arith, (omega arith, (omega arith, tt))))

-- ---- A well-formed history has a least order that keeps every edge, or a cycle that is printed: going back from the least that is left leads to it.

-- the least number that has P, where one has it
pub least_of : (P : ℕ → Type 0) → ((n : ℕ) → Decided (P n)) → (n : ℕ) → P n → (x : ℕ) × IsLeast P x
least_of P decide n p = elim (first_below P decide (n + 1)) [ inl w ↦ (w.0, (w.2, w.3)) | inr none ↦ absurd (none n (omega arith) p) ]

-- a list without t: shorter where t was in it
pub others : (t : ℕ) (xs : List ℕ) → (ys : List ℕ) × (length ys ≤ length xs) × (In t xs → length ys < length xs) × ((u : ℕ) → In u xs → t ≢ u → In u ys)
others t [] = ([], omega arith, λ i. absurd i, λ u i n. i)
others t (x ∷ xs) =
    let r = others t xs in
    let most : length r.0 ≤ length xs = r.1 in
    elim (cases_eq x t) [
      | inl same ↦ (r.0, omega arith, λ i. omega arith, λ u i n. elim i [ inl e ↦ absurd (n (sym same ∙ e)) | inr j ↦ r.3 u j n ])
      | inr other ↦ (
        x ∷ r.0,
        omega arith,
        λ i. elim i [ inl e ↦ absurd (other e) | inr j ↦ let less : length r.0 < length xs = r.2 j in omega arith ],
        λ u i n. elim i [ inl e ↦ inl e | inr j ↦ inr (r.3 u j n) ],
      )
    ]

module _ (E : Edge → Type 0) (S : List ℕ) (f : ℕ → ℕ) (previous : (t : ℕ) → Contains S t → IsPrevious E S (f t) t) where
  -- n steps back
  abbrev go : ℕ → ℕ → ℕ
  go zero t = t
  go (suc n) t = go n (f t)

  go_in : (n t : ℕ) → Contains S t → Contains S (go n t)
  go_in zero t c = c
  go_in (suc n) t c = go_in n (f t) (previous t c).0

  goes : (n t : ℕ) → Contains S t → GoesBack E S n t (go n t)
  goes zero t c = refl
  goes (suc n) t c = (f t, previous t c, goes n (f t) (previous t c).0)

  go_more : (m n t : ℕ) → go (m + n) t ≡ go n (go m t)
  go_more zero n t = let e : 0 + n ≡ n = omega arith in ap (λ k. go k t) e
  go_more (suc m) n t = let e : suc m + n ≡ suc (m + n) = omega arith in ap (λ k. go k t) e ∙ go_more m n (f t)

  go_next : (n t : ℕ) → f (go n t) ≡ go n (f t)
  go_next zero t = refl
  go_next (suc n) t = go_next n (f t)

  -- some member comes again
  repeats : (n : ℕ) (rest : List ℕ) (t k : ℕ) → length rest < n → Contains S t → ((u : ℕ) → Contains S u → ((j : ℕ) × (j < k) × (go j t ≡ u)) ⊎ In u rest) → (i : ℕ) × (d : ℕ) × (0 < d) × (go d (go i t) ≡ go i t)
  repeats zero rest t k l c seen = absurd (omega arith)
  repeats (suc n) rest t k l c seen = elim (seen (go k t) (go_in k t c)) [
    | inl w ↦
        let before : w.0 < k = w.1 in
        let e : w.0 + (k - w.0) ≡ k = omega arith in
        (w.0, k - w.0, omega arith, sym (go_more w.0 (k - w.0) t) ∙ ap (λ m. go m t) e ∙ sym w.2)
    | inr i ↦
        let r = others (go k t) rest in
        let less : length r.0 < length rest = r.2 i in
        repeats n r.0 t (k + 1) (omega arith) c (λ u d. elim (seen u d) [
          | inl w ↦ let before : w.0 < k = w.1 in inl (w.0, omega arith, w.2)
          | inr j ↦ elim (cases_eq (go k t) u) [ inl e ↦ inl (k, omega arith, e) | inr n ↦ inr (r.3 u j n) ]
        ])
  ]

  -- home is the least on a round, and one comes back to it
  abbrev IsHome : ℕ → Type 0
  IsHome home = (d : ℕ) × (0 < d) × (go d home ≡ home) × ((k : ℕ) → home ≤ go k home)

  module _ (x d : ℕ) (some : 0 < d) (round : go d x ≡ x) where
    within : (fuel k : ℕ) → k < fuel → (m : ℕ) × (m < d) × (go m x ≡ go k x)
    within zero k l = absurd (omega arith)
    within (suc fuel) k l = elim (cases_lt k d) [
      | inl less ↦ (k, less, refl)
      | inr more ↦
          let w = within fuel (k - d) (omega arith) in
          let e : d + (k - d) ≡ k = omega arith in
          (w.0, w.1, w.2 ∙ ap (go (k - d)) (sym round) ∙ sym (go_more d (k - d) x) ∙ ap (λ m. go m x) e)
    ]

    abbrev IsOn : ℕ → Type 0
    IsOn v = (m : ℕ) × (m < d) × (go m x ≡ v)

    on_or_not : (v : ℕ) → Decided (IsOn v)
    on_or_not v = elim (first_below (λ m. go m x ≡ v) (λ m. cases_eq (go m x) v) d) [ inl w ↦ inl (w.0, w.1, w.2) | inr none ↦ inr (λ w. none w.0 w.1 w.2) ]

    least_home : (m : ℕ) × IsHome (go m x)
    least_home =
        let (home, ((m, less, at), least)) = least_of IsOn on_or_not x (0, some, refl) in
        let turned : m + d ≡ d + m = omega arith in (
          m,
          (
            d,
            some,
            sym (go_more m d x) ∙ ap (λ k. go k x) turned ∙ go_more d m x ∙ ap (go m) round,
            λ k.
                let u = within (suc (m + k)) (m + k) (omega arith) in
                let up : home ≤ go u.0 x = least (go u.0 x) (u.0, u.1, refl) in
                let there : go u.0 x ≡ go k (go m x) = u.2 ∙ go_more m k x in
                omega arith,
          ),
        )

  module _ (edge : (p q : ℕ) → Leads E p q → (s : Step) × (s.txn ≡ p) × TakesLeastEdge E s q) (home : ℕ) (in_set : Contains S home) (low : (k : ℕ) → home ≤ go k home) where
    abbrev start_of : List Step → ℕ
    start_of [] = home
    start_of (s ∷ steps) = s.txn

    joined : (steps : List Step) (s : Step) (q : ℕ) → start_of steps ≡ q → IsPrevious E S s.txn q → TakesLeastEdge E s q → GoesRound E S steps home → GoesRound E S (s ∷ steps) home
    joined [] s q e is takes round = (subst (IsPrevious E S s.txn) (sym e) is, subst (TakesLeastEdge E s) (sym e) takes)
    joined (n ∷ steps) s q e is takes round = (subst (IsPrevious E S s.txn) (sym e) is, subst (TakesLeastEdge E s) (sym e) takes, round)

    one_more : (k : ℕ) (steps : List Step) → start_of steps ≡ go k home → GoesRound E S steps home → (s : Step) × GoesRound E S (s ∷ steps) home × (s.txn ≡ go (suc k) home)
    one_more k steps e round =
        let q = go k home in
        let is = previous q (go_in k home in_set) in
        let (s, from, takes) = edge (f q) q is.1 in
        (s, joined steps s q e (subst (λ (p : ℕ). IsPrevious E S p q) (sym from) is) takes round, from ∙ go_next k home)

    ring : (k : ℕ) → ((j : ℕ) → j < k → go (suc j) home ≢ home) → (steps : List Step) × GoesRound E S steps home × (start_of steps ≡ go k home) × AllByRecursion (λ s. home < s.txn) steps
    ring zero away = ([], tt, refl, tt)
    ring (suc k) away =
        let r = ring k (λ j l. away j (omega arith)) in
        let m = one_more k r.0 r.2 r.1 in
        let up = low (suc k) in
        let other = away k (omega arith) in
        let at = m.2 in
        (m.0 ∷ r.0, m.1, m.2, ((let above : home < m.0.txn = omega arith in above), r.3))

    all_above : (first : ℕ) (steps : List Step) → home ≡ first → AllByRecursion (λ s. home < s.txn) steps → All (λ s. first < s.txn) steps
    all_above first [] e p = All-nil (λ (s : Step). first < s.txn)
    all_above first (s ∷ steps) e p = let up = p.0 in All-cons (λ (s : Step). first < s.txn) s steps (omega arith) (all_above first steps e p.1)

    whole_ring : (d : ℕ) → 0 < d → go d home ≡ home → (first : Step) × (steps : List Step) × (first.txn ≡ home) × All (λ s. first.txn < s.txn) steps × GoesRound E S (first ∷ steps) home
    whole_ring zero some round = absurd (omega arith)
    whole_ring (suc d) some round =
        let (n, (back_home, least)) = least_of (λ n. go (suc n) home ≡ home) (λ n. cases_eq (go (suc n) home) home) d round in
        let r = ring n (λ j l e. let m : n ≤ j = least j e in omega arith) in
        let m = one_more n r.0 r.2 r.1 in
        let first : m.0.txn ≡ home = m.2 ∙ back_home in
        (m.0, r.0, first, all_above m.0.txn r.0 (sym first) r.3, m.1)

  -- the cycle to which the least member leads back
  module _ (IsMember : ℕ → Type 0) (stuck : IsStuckSet IsMember E S) (least : ℕ) (c : Contains S least) (low : (t : ℕ) → Contains S t → least ≤ t) where
    by_ring : (n home : ℕ) (first : Step) (steps : List Step) → go n least ≡ home → first.txn ≡ home → All (λ s. first.txn < s.txn) steps → GoesRound E S (first ∷ steps) home → IsPrintedCycle IsMember E (first ∷ steps)
    by_ring n home first steps reached is_home above round =
        (S, stuck, least, c, low, n, subst (GoesBack E S n least) (reached ∙ sym is_home) (goes n least c), above, subst (GoesRound E S (first ∷ steps)) (sym is_home) round)

    by_home : ((p q : ℕ) → Leads E p q → (s : Step) × (s.txn ≡ p) × TakesLeastEdge E s q) → (n home : ℕ) → go n least ≡ home → IsHome home → (steps : List Step) × IsPrintedCycle IsMember E steps
    by_home edge n home reached (d, some, back_home, up) =
        let r = whole_ring edge home (subst (Contains S) reached (go_in n least c)) up d some back_home in
        (r.0 ∷ r.1, by_ring n home r.0 r.1 reached r.2 r.3 r.4)

    by_round : ((p q : ℕ) → Leads E p q → (s : Step) × (s.txn ≡ p) × TakesLeastEdge E s q) → (i d : ℕ) → 0 < d → go d (go i least) ≡ go i least → (steps : List Step) × IsPrintedCycle IsMember E steps
    by_round edge i d some round = let r = least_home (go i least) d some round in by_home edge (i + r.0) (go r.0 (go i least)) (go_more i r.0 least) r.1

    pub cycle_exists : ((p q : ℕ) → Leads E p q → (s : Step) × (s.txn ≡ p) × TakesLeastEdge E s q) → (steps : List Step) × IsPrintedCycle IsMember E steps
    cycle_exists edge = let r = repeats (suc (length S)) S least 0 (omega arith) c (λ u e. inr (contains_in S u e)) in by_round edge r.0 r.1 r.2 r.3

-- the list of the transactions that have P, which have events
pub txns_listed : (h : List Event) (P : ℕ → Type 0) → ((t : ℕ) → Decided (P t)) → ((t : ℕ) → P t → (p : ℕ) × (e : Event) × (at_place h p ≡ Some e) × (actor e ≡ t)) → (ts : List ℕ) × ListsAscending P ts
txns_listed h P decide acts = list_of (λ t. t ∷ []) (λ x y e. cc) P decide (map actor h) (λ t p. let a = acts t p in (mapped actor h t).1 (a.1, event_in h a.0 a.1 a.2, a.3))

module _ (h : List Event) (P : ℕ → Type 0) (decide : (t : ℕ) → Decided (P t)) (committed : (t : ℕ) → P t → IsCommitted h t) where
  committed_listed : (ts : List ℕ) × ListsAscending P ts
  committed_listed = txns_listed h P decide (λ t p. let c = committed t p in (c.0, Commit t, c.1, refl))

  pub some_committed : Decided ((t : ℕ) × P t)
  some_committed =
      decided_alike ((p : ℕ) × (e : Event) × (at_place h p ≡ Some e) × P (actor e)) ((t : ℕ) × P t) (λ w. (actor w.1, w.3)) (λ w. let c = committed w.0 w.1 in (c.0, Commit w.0, c.1, w.1))
      (event_decided (λ e. P (actor e)) (λ e. decide (actor e)) h)

pub kind_joins : (h : List Event) (kind : Kind) (t u k : ℕ) → EdgeOfKind h kind t u k → IsCommitted h t × IsCommitted h u
kind_joins h kind t u k e = grind arith

stands_or_not : (front : List ℕ) (t : ℕ) → Decided (Stands front t)
stands_or_not front t = elim (cases_Bool (stands front t)) [ inl e ↦ inl (true_stands front t e) | inr e ↦ inr (false_stands front t e) ]

module _ (h : List Event) (wf : IsWellFormed h) where
  some_edge : (P : Edge → Type 0) → ((e : Edge) → Decided (P e)) → Decided ((e : Edge) × IsEdge h e × P e)
  some_edge P decide =
      let edges = edge_list_exists h wf in
      elim (element_decided P decide edges.0) [
        | inl w ↦ inl (w.1, ((edges.1.each w.1).0 (stands_contains edges.0 w.1 (w.0, w.2))).0, w.3)
        | inr none ↦ inr (λ w. let s = contains_stands edges.0 w.0 ((edges.1.each w.0).1 (w.1, tt)) in none (s.0, w.0, s.1, w.2))
      ]

  leads_or_not : (s t : ℕ) → Decided (Leads (IsEdge h) s t)
  leads_or_not s t = grind (arith, some_edge (λ e. (e.src ≡ s) × (e.dst ≡ t)) (λ e. both (e.src ≡ s) (e.dst ≡ t) (cases_eq e.src s) (cases_eq e.dst t)))

  -- of the edges between two, the least by kind and key
  module _ (p q : ℕ) where
    abbrev OfKind : ℕ → Type 0
    OfKind n = (e : Edge) × IsEdge h e × ((e.src ≡ p) × (e.dst ≡ q) × (kind_number e.kind ≡ n))

    kind_or_not : (n : ℕ) → Decided (OfKind n)
    kind_or_not n = some_edge (λ e. (e.src ≡ p) × (e.dst ≡ q) × (kind_number e.kind ≡ n)) (λ e. three_decided (e.src ≡ p) (e.dst ≡ q) (kind_number e.kind ≡ n) (cases_eq e.src p) (cases_eq e.dst q) (cases_eq (kind_number e.kind) n))

    abbrev OfKey : ℕ → ℕ → Type 0
    OfKey n k = (e : Edge) × IsEdge h e × ((e.src ≡ p) × (e.dst ≡ q) × ((kind_number e.kind ≡ n) × (e.key ≡ k)))

    key_or_not : (n k : ℕ) → Decided (OfKey n k)
    key_or_not n k = search (rules, some_edge, three_decided, cases_eq, both)

    by_key : (n : ℕ) → OfKind n → ((m : ℕ) → OfKind m → n ≤ m) → (s : Step) × (s.txn ≡ p) × TakesLeastEdge (IsEdge h) s q
    by_key n (e1, is1, (src1, dst1, kind1)) first =
        let (k, ((e, is, (src, dst, (kind, key))), least)) = least_of (OfKey n) (key_or_not n) e1.key (e1, is1, (src1, dst1, (kind1, refl))) in
        let same : e ≡ record { src = p; kind = e.kind; dst = q; key = e.key } = (λ i. record { src = src i; kind = e.kind; dst = dst i; key = e.key }) in (
          record { txn = p; kind = e.kind; key = e.key },
          refl,
          (
            subst (IsEdge h) same is,
            λ d is_edge from to before. elim before [
              | inl less ↦ let m : n ≤ kind_number d.kind = first (kind_number d.kind) (d, is_edge, (from, to, refl)) in omega arith
              | inr x ↦ elim x.1 [
                | inl less ↦ let m : k ≤ d.key = least d.key (d, is_edge, (from, to, (x.0 ∙ kind, refl))) in omega arith
                | inr y ↦ y.1
              ]
            ],
          ),
        )

    least_edge : Leads (IsEdge h) p q → (s : Step) × (s.txn ≡ p) × TakesLeastEdge (IsEdge h) s q
    least_edge (e, is, src, dst) = let w = least_of OfKind kind_or_not (kind_number e.kind) (e, is, (src, dst, refl)) in by_key w.0 w.1.0 w.1.1

  abbrev IsReady : List ℕ → ℕ → Type 0
  IsReady front t = IsCommitted h t × ¬ Stands front t × ((s : ℕ) → Leads (IsEdge h) s t → Stands front s)

  -- an edge to t comes from outside the front, or none does
  from_outside : (front : List ℕ) (t : ℕ) → ((s : ℕ) × (¬ Stands front s) × Leads (IsEdge h) s t) ⊎ ((s : ℕ) → Leads (IsEdge h) s t → Stands front s)
  from_outside front t = elim (some_edge (λ e. (e.dst ≡ t) × (¬ Stands front e.src)) (λ e. both (e.dst ≡ t) (¬ Stands front e.src) (cases_eq e.dst t) (not_decided (Stands front e.src) (stands_or_not front e.src)))) [
    | inl w ↦ inl (w.0.src, w.2.1, (w.0, w.1, refl, w.2.0))
    | inr none ↦ inr (λ s l. elim (stands_or_not front s) [
      | inl y ↦ y
      | inr n ↦ absurd (none (l.0, l.1, (l.3, subst (λ (x : ℕ). ¬ Stands front x) (sym l.2) n)))
    ])
  ]

  ready_or_not : (front : List ℕ) (t : ℕ) → Decided (IsReady front t)
  ready_or_not front t =
      three_decided (IsCommitted h t) (¬ Stands front t) ((s : ℕ) → Leads (IsEdge h) s t → Stands front s) (committed_or_not h t) (not_decided (Stands front t) (stands_or_not front t))
      (elim (from_outside front t) [ inl w ↦ inr (λ all. w.1 (all w.0 w.2)) | inr all ↦ inl all ])

  -- a front grows until none is ready
  grown : (n : ℕ) (rest front : List ℕ) → length rest < n → IsFront (IsCommitted h) (IsEdge h) front → ((t : ℕ) → IsCommitted h t → Stands front t ⊎ In t rest)
      → (last : List ℕ) × IsFront (IsCommitted h) (IsEdge h) last × ((t : ℕ) → ¬ IsReady last t)
  grown zero rest front l f all = absurd (omega arith)
  grown (suc n) rest front l f all = elim (some_committed h (IsReady front) (ready_or_not front) (λ t r. r.0)) [
    | inr none ↦ (front, f, λ t r. none (t, r))
    | inl some ↦
        let (t, (ready, least)) = least_of (IsReady front) (ready_or_not front) some.0 some.1 in
        let r = others t rest in
        let there : In t rest = elim (all t ready.0) [ inl s ↦ absurd (ready.1 s) | inr i ↦ i ] in
        let less : length r.0 < length rest = r.2 there in
        grown n r.0 (front ++ t ∷ []) (omega arith) (front_more (IsCommitted h) (IsEdge h) front t f ready least) (λ u c. elim (all u c) [
          | inl s ↦ inl (stands_more front t u s)
          | inr i ↦ elim (cases_eq t u) [ inl e ↦ inl (subst (Stands (front ++ t ∷ [])) e (stands_last front t)) | inr other ↦ inr (r.3 u i other) ]
        ])
  ]

  module _ (front : List ℕ) (f : IsFront (IsCommitted h) (IsEdge h) front) (none : (t : ℕ) → ¬ IsReady front t) where
    abbrev IsLeft : ℕ → Type 0
    IsLeft t = IsCommitted h t × ¬ Stands front t

    left_or_not : (t : ℕ) → Decided (IsLeft t)
    left_or_not t = both (IsCommitted h t) (¬ Stands front t) (committed_or_not h t) (not_decided (Stands front t) (stands_or_not front t))

    fed : (t : ℕ) → IsLeft t → (s : ℕ) × IsLeft s × Leads (IsEdge h) s t
    fed t left = elim (from_outside front t) [
      | inl w ↦ let l = w.2 in (w.0, (subst (IsCommitted h) l.2 (kind_joins h l.0.kind l.0.src l.0.dst l.0.key l.1).0, w.1), l)
      | inr all ↦ absurd (none t (left.0, left.1, all))
    ]

    stuck_list : (set : List ℕ) × ListsAscending IsLeft set
    stuck_list = committed_listed h IsLeft left_or_not (λ t l. l.0)

    module _ (set : List ℕ) (lists : ListsAscending IsLeft set) where
      is_stuck : IsStuckSet (IsCommitted h) (IsEdge h) set
      is_stuck = record {
        self_fed = λ t c. let l = (lists.each t).0 c in let s = fed t l in (l.0, s.0, (lists.each s.0).1 s.1, s.2);
        greatest = λ other self t c. (lists.each t).1 ((self t c).0, λ st. none_fed (IsCommitted h) (IsEdge h) front f.closed (λ u. Contains other u) (λ u d. let w = self u d in (w.1, w.2, w.3)) t st c);
      }

      picked : (t : ℕ) → (p : ℕ) × (Contains set t → IsPrevious (IsEdge h) set p t)
      picked t = elim (left_or_not t) [
        | inr out ↦ (t, λ c. absurd (out ((lists.each t).0 c)))
        | inl left ↦
            let s = fed t left in
            let w = least_of (λ p. IsLeft p × Leads (IsEdge h) p t) (λ p. both (IsLeft p) (Leads (IsEdge h) p t) (left_or_not p) (leads_or_not p t)) s.0 (s.1, s.2) in
            (w.0, λ c. ((lists.each w.0).1 w.1.0.0, w.1.0.1, λ q in_set l. w.1.1 q ((lists.each q).0 in_set, l)))
      ]

      cycle : (t : ℕ) → IsLeft t → (v : Verdict) × IsVerdict (IsCommitted h) (IsEdge h) v
      cycle t left =
          let w = least_of IsLeft left_or_not t left in
          let made = cycle_exists (IsEdge h) set (λ u. (picked u).0) (λ u c. (picked u).1 c) (IsCommitted h) is_stuck w.0 ((lists.each w.0).1 w.1.0) (λ u c. w.1.1 u ((lists.each u).0 c)) least_edge in
          (Cycle made.0, (no_order (IsCommitted h) (IsEdge h) IsLeft (λ u l. let s = fed u l in (l.0, s.0, s.1, s.2)) t left, made.1))

    settled : (v : Verdict) × IsVerdict (IsCommitted h) (IsEdge h) v
    settled = elim (some_committed h IsLeft left_or_not (λ t l. l.0)) [
      | inl w ↦ cycle stuck_list.0 stuck_list.1 w.0 w.1
      | inr all ↦ (
        Order front,
        whole_front (IsCommitted h) (IsEdge h) front f (λ t c. elim (stands_or_not front t) [ inl s ↦ s | inr out ↦ absurd (all (t, (c, out))) ])
            (λ s t l. subst (IsCommitted h) l.3 (kind_joins h l.0.kind l.0.src l.0.dst l.0.key l.1).1),
      )
    ]

  pub verdict_exists : (v : Verdict) × IsVerdict (IsCommitted h) (IsEdge h) v
  verdict_exists =
      let ts = committed_listed h (IsCommitted h) (committed_or_not h) (λ t c. c) in
      let last = grown (suc (length ts.0)) ts.0 [] (omega arith) (front_none (IsCommitted h) (IsEdge h)) (λ t c. inr (contains_in ts.0 t ((ts.1.each t).1 c))) in
      settled last.0 last.1 last.2
