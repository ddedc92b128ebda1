-- The chain of a transaction's events, and what a replay along it tells.
-- Steps of the maps and sets of a replay.
use Rattle.std.proofs.Common.{◌≡◌, ◌≢◌, ◌⊎◌, inl, inr, ℕ, zero, suc, ◌+◌, ◌-◌, ◌<◌, ◌≤◌, true, false, cond, List, [], ◌∷◌, ◌++◌, length, get_or, drop, slice_get, Option, Some, eqb, ap, sym, ◌∙◌, refl, subst, arith, add-one, Bool, set, None, unwrap_or, IsTrue, ◌↔◌, is_some, nat_cmp}
use Rattle.std.specs.BTreeMap.{BTreeMap, btree_map_len, get, is_at, Updates}
use Rattle.std.proofs.lemmas.Bool.{cases_Bool, cases_lt, eqb-true, eq-eqb, ne_eqb, cases_eq, le-ltb, lt-ltb}
use Rattle.std.proofs.lemmas.List.{drop_more, drop-drop, get_or-set_same, get_or-set_other, length-set, get_or_default}
use Rattle.std.proofs.lemmas.Option.{same_Some, slice_get_within, get_or_from_slice_get}
use Rattle.sia_events.specs.declared.event.Event.{Event}
use Rattle.sia_events.specs.Places.{at_place}
use Rattle.sia_events.specs.Events.{actor}
use Rattle.sia_events.specs.Replay.{events_of, IsOrder}
use Rattle.sia_graph.specs.declared.serial_replay.Mismatch.{Mismatch}
use Rattle.sia_graph.specs.Replaying.{AreNext, AreWritten, IsRight, IsWrongAt, Tells, after, first_at, version_in, AreCommits, AreFirsts}
use Rattle.sia_graph.proofs.Shared.LastWriter.{events_from}
use Rattle.std.specs.Map.{lookup}
use Rattle.sia_events.specs.Refusals.{IsWellFormed}
use Rattle.sia_events.specs.Transactions.{CommitsAt, IsCommitted}
use Rattle.sia_events.proofs.Writing.WellFormed.{one_commit}
use Rattle.sia_graph.proofs.Shared.Facts.{same_committer}

pub drop_at : (h : List Event) (p : ℕ) (e : Event) → slice_get h p ≡ Some e → drop p h ≡ e ∷ drop (p + 1) h
drop_at h p e at =
    drop_more h p e (slice_get_within h p e at) ∙ ap (λ x. x ∷ drop (p + 1) h) (get_or_from_slice_get h p e e at)

-- the chain at its end
pub chain_end : (t n : ℕ) (h : List Event) → 0 < n → first_at t n h ≡ 0 → events_from n h t ≡ []
chain_end t n [] some none = refl
chain_end t n (e ∷ h) some none = by_test (cases_Bool (eqb (actor e) t)) (chain_end t (n + 1) h (omega arith))
  where
    by_test : (eqb (actor e) t ≡ true) ⊎ (eqb (actor e) t ≡ false) → (first_at t (n + 1) h ≡ 0 → events_from (n + 1) h t ≡ []) → events_from n (e ∷ h) t ≡ []
    by_test (inl yes') rest = absurd (let f = sym (ap (λ b. cond b n (first_at t (n + 1) h)) yes') ∙ none in omega arith)
    by_test (inr no') rest =
        ap (λ b. cond b ((n, e) ∷ events_from (n + 1) h t) (events_from (n + 1) h t)) no'
        ∙ rest (sym (ap (λ b. cond b n (first_at t (n + 1) h)) no') ∙ none)

-- the chain at an event: the event, and what is left after it
abbrev pub IsChainAt : ℕ → ℕ → List Event → ℕ → Type 0
IsChainAt t n h p = (i : ℕ) × (e : Event) × (p ≡ n + i) × (slice_get h i ≡ Some e) × (actor e ≡ t) × (events_from n h t ≡ (p, e) ∷ events_from (p + 1) (drop (i + 1) h) t)

pub chain_at : (t n p : ℕ) (h : List Event) → 0 < p → first_at t n h ≡ p → IsChainAt t n h p
chain_at t n p [] some is = absurd (omega arith)
chain_at t n p (e ∷ h) some is = by_test (cases_Bool (eqb (actor e) t)) (chain_at t (n + 1) p h some)
  where
    by_test : (eqb (actor e) t ≡ true) ⊎ (eqb (actor e) t ≡ false) → (first_at t (n + 1) h ≡ p → IsChainAt t (n + 1) h p) → IsChainAt t n (e ∷ h) p
    by_test (inl yes') rest =
        let f : n ≡ p = sym (ap (λ b. cond b n (first_at t (n + 1) h)) yes') ∙ is in (
          0,
          e,
          omega arith,
          refl,
          eqb-true (actor e) t yes',
          ap (λ b. cond b ((n, e) ∷ events_from (n + 1) h t) (events_from (n + 1) h t)) yes' ∙ (λ j. (f j, e) ∷ events_from (f j + 1) h t),
        )
    by_test (inr no') rest =
        let w = rest (sym (ap (λ b. cond b n (first_at t (n + 1) h)) no') ∙ is) in
        let i = w.0 in
        let more : drop (i + 1 + 1) (e ∷ h) ≡ drop (i + 1) h = rw add-one refl in (
          i + 1,
          w.1,
          omega arith,
          (let b : i + 1 ≡ suc i = omega arith in ap (slice_get (e ∷ h)) b ∙ w.3),
          w.4,
          ap (λ b. cond b ((n, e) ∷ events_from (n + 1) h t) (events_from (n + 1) h t)) no' ∙ w.5
              ∙ ap (λ (l : List Event). (p, w.1) ∷ events_from (p + 1) l t) (sym more),
        )

-- where a transaction's replay stands: what is told from here on is told from the start
pub record IsOnChain (h : List Event) (t : ℕ) (start : ℕ → ℕ) (versions : BTreeMap ℕ ℕ) (at : ℕ) : Type 0 where
  pub past : ℕ
  pub next : at ≡ first_at t (past + 1) (drop past h)
  pub written : AreWritten h versions
  pub told : (others : List (ℕ × Event)) (r : Option Mismatch) → Tells h (version_in versions) (events_from (past + 1) (drop past h) t ++ others) r → Tells h start (events_of h t ++ others) r

module _ (h : List Event) (t : ℕ) (start : ℕ → ℕ) (versions : BTreeMap ℕ ℕ) (at : ℕ) (on : IsOnChain h t start versions at) where
  -- the event that is next
  abbrev pub IsNextEvent : Event → Type 0
  IsNextEvent e = (at_place h at ≡ Some e) × (actor e ≡ t) × (on.past < at)
      × (events_from (on.past + 1) (drop on.past h) t ≡ (at, e) ∷ events_from (at + 1) (drop at h) t)

  pub next_event : at ≢ 0 → (e : Event) × IsNextEvent e
  next_event some =
      let l : 0 < at = elim (cases_lt 0 at) [ inl less ↦ less | inr none ↦ absurd (some (omega arith)) ] in
      let w = chain_at t (on.past + 1) at (drop on.past h) l (sym on.next) in
      let i = w.0 in
      let e = w.1 in
      let place : at ≡ suc (on.past + i) = let a = w.2 in omega arith in
      let after_it : drop (i + 1) (drop on.past h) ≡ drop at h = drop-drop (i + 1) on.past h ∙ (let b : on.past + (i + 1) ≡ at = let a = w.2 in omega arith in ap (λ n. drop n h) b) in (
        e,
        (
          ap (at_place h) place ∙ slice_drop h on.past i e w.3,
          w.4,
          (let a = w.2 in omega arith),
          w.5 ∙ ap (λ (l : List Event). (at, e) ∷ events_from (at + 1) l t) after_it,
        ),
      )
    where
      slice_drop : (xs : List Event) (p i : ℕ) (e : Event) → slice_get (drop p xs) i ≡ Some e → slice_get xs (p + i) ≡ Some e
      slice_drop xs zero i e is = let z : 0 + i ≡ i = omega arith in ap (slice_get xs) z ∙ is
      slice_drop [] (suc p) i e is = cc
      slice_drop (x ∷ xs) (suc p) i e is = let z : suc p + i ≡ suc (p + i) = omega arith in ap (slice_get (x ∷ xs)) z ∙ slice_drop xs p i e is

  -- an event that is right goes on to the next
  pub on_chain_more : (e : Event) → IsNextEvent e → ((k : ℕ) → IsRight h (version_in versions) e k) → (now : BTreeMap ℕ ℕ) → AreWritten h now
      → ((k : ℕ) → version_in now k ≡ after (version_in versions) e k) → (following : ℕ) → following ≡ first_at (actor e) (at + 1) (drop at h) → IsOnChain h t start now following
  on_chain_more e n right now written is following next = record {
    past = at;
    next = next ∙ ap (λ u. first_at u (at + 1) (drop at h)) n.1;
    written = written;
    told = λ others r tells.
        let f : version_in now ≡ after (version_in versions) e = λ i k. is k i in
        let here : Tells h (version_in versions) ((at, e) ∷ (events_from (at + 1) (drop at h) t ++ others)) r = grind arith in
        on.told others r (subst (λ (l : List (ℕ × Event)). Tells h (version_in versions) (l ++ others) r) (sym n.3) here);
  }

  -- one that isn't is told
  pub told_wrong : (e : Event) → IsNextEvent e → (key found : ℕ) → IsWrongAt h (version_in versions) e key found → (m : Mismatch) → m.place ≡ at → m.key ≡ key → m.found ≡ found
      → (others : List (ℕ × Event)) → Tells h start (events_of h t ++ others) (Some m)
  told_wrong e n key found wrong m a b c others =
      let here : Tells h (version_in versions) ((at, e) ∷ (events_from (at + 1) (drop at h) t ++ others)) (Some m) =
      inl (sym a, subst (λ x. IsWrongAt h (version_in versions) e x m.found) (sym b) (subst (λ x. IsWrongAt h (version_in versions) e key x) (sym c) wrong)) in
      on.told others (Some m) (subst (λ (l : List (ℕ × Event)). Tells h (version_in versions) (l ++ others) (Some m)) (sym n.3) here)

  -- nothing is left
  pub told_all : at ≡ 0 → (others : List (ℕ × Event)) (r : Option Mismatch) → Tells h (version_in versions) others r → Tells h start (events_of h t ++ others) r
  told_all none others r tells = grind (arith, chain_end)

-- the next place of a chain is later, or there is none
pub first_later : (t n : ℕ) (h : List Event) → (first_at t n h ≡ 0) ⊎ (n ≤ first_at t n h)
first_later t n [] = inl refl
first_later t n (e ∷ h) = elim (cases_Bool (eqb (actor e) t)) [
  | inl yes' ↦ let f = ap (λ b. cond b n (first_at t (n + 1) h)) yes' in inr (omega arith)
  | inr no' ↦ let f = ap (λ b. cond b n (first_at t (n + 1) h)) no' in elim (first_later t (n + 1) h) [ inl z ↦ inl (f ∙ z) | inr l ↦ inr (omega arith) ]
]

-- how many places are left from one on
abbrev pub places_left : List Event → ℕ → ℕ
places_left h at = cond (eqb at 0) 0 (length h + 1 - at)

module _ (h : List Event) (t : ℕ) (start : ℕ → ℕ) (versions : BTreeMap ℕ ℕ) (at : ℕ) (on : IsOnChain h t start versions at) (some : at ≢ 0) where
  pub is_next : (f : Event) → at_place h at ≡ Some f → IsNextEvent h t start versions at on f
  is_next f there =
      let w = next_event h t start versions at on some in
      subst (λ x. IsNextEvent h t start versions at on x) (same_Some w.0 f (sym w.1.0 ∙ there)) w.1

  pub place_within : at ≤ length h
  place_within = let w = next_event h t start versions at on some in within at w.0 w.1.0
    where
      within : (p : ℕ) (e : Event) → at_place h p ≡ Some e → p ≤ length h
      within zero e there = cc
      within (suc i) e there = let l = slice_get_within h i e there in omega arith

  pub fewer_places : (next : List ℕ) → AreNext h 0 next → places_left h (get_or next at 0) < places_left h at
  fewer_places next are =
      let w = next_event h t start versions at on some in
      let e = w.0 in
      let l : 0 < at = elim (cases_lt 0 at) [ inl less ↦ less | inr none ↦ absurd (some (omega arith)) ] in
      let here : places_left h at ≡ length h + 1 - at = ap (λ b. cond b 0 (length h + 1 - at)) (ne_eqb at 0 some) in
      by_next (get_or next at 0) here place_within (elim (first_later (actor e) (at + 1) (drop at h)) [ inl z ↦ inl ((are.1 at e l w.1.0) ∙ z) | inr m ↦ inr (omega arith) ])
    where
      by_next : (x : ℕ) → places_left h at ≡ length h + 1 - at → at ≤ length h → (x ≡ 0) ⊎ (at + 1 ≤ x) → places_left h x < places_left h at
      by_next x here within (inl z) = let f : places_left h x ≡ 0 = ap (λ b. cond b 0 (length h + 1 - x)) (eq-eqb x 0 z) in omega arith
      by_next x here within (inr m) = let f : places_left h x ≡ length h + 1 - x = ap (λ b. cond b 0 (length h + 1 - x)) (ne_eqb x 0 (λ z. omega arith)) in omega arith

same_is_at : (k q : ℕ) → k ≡ q → is_at (nat_cmp k) q ≡ true
same_is_at k q e = let a = le-ltb k q (omega arith) in let b = eq-eqb k q e in rw (a, b)

other_is_at : (k q : ℕ) → k ≢ q → is_at (nat_cmp k) q ≡ false
other_is_at k q n = grind (arith, cases_lt, lt-ltb, le-ltb, ne_eqb)

module _ (m n : BTreeMap ℕ ℕ) (k : ℕ) (w : Option ℕ) (u : Updates nat_cmp m n k w) where
  pub get_same : (q : ℕ) → k ≡ q → get nat_cmp n q ≡ w
  get_same q e = u.0 q ∙ ap (λ b. cond b w (get nat_cmp m q)) (same_is_at k q e)

  pub get_other : (q : ℕ) → k ≢ q → get nat_cmp n q ≡ get nat_cmp m q
  get_other q e = u.0 q ∙ ap (λ b. cond b w (get nat_cmp m q)) (other_is_at k q e)

module _ (h : List Event) where
  -- the commits at places up to b
  abbrev pub AreCommitsTo : ℕ → BTreeMap ℕ ℕ → Type 0
  AreCommitsTo b m = (t p : ℕ) → (get nat_cmp m t ≡ Some p) ↔ ((p ≤ b) × CommitsAt h t p)

  pub commits_more : IsWellFormed h → (b t : ℕ) (m n : BTreeMap ℕ ℕ) → AreCommitsTo b m → CommitsAt h t (b + 1) → Updates nat_cmp m n t (Some (b + 1)) → AreCommitsTo (b + 1) n
  commits_more wf b t m n before commits u s p = elim (cases_eq t s) [
    | inl e ↦ grind (arith, cases_eq, get_same, same_Some, one_commit, get_other, cases_lt, same_committer)
    | inr other ↦
        let same = get_other m n t (Some (b + 1)) u s other in (
          λ g. let w = (before s p).0 (sym same ∙ g) in (let l = w.0 in omega arith, w.1),
          grind (arith, cases_eq, get_same, same_Some, one_commit, get_other, cases_lt, same_committer),
        )
  ]

  pub commits_same : (b : ℕ) (m : BTreeMap ℕ ℕ) → AreCommitsTo b m → ((t : ℕ) → ¬ CommitsAt h t (b + 1)) → AreCommitsTo (b + 1) m
  commits_same b m before none s p = (
    λ g. let w = (before s p).0 g in (let l = w.0 in omega arith, w.1),
    grind (arith, cases_lt),
  )

  commit_within : (t p : ℕ) → CommitsAt h t p → p ≤ length h
  commit_within t p q = grind (arith, slice_get_within)

  pub all_commits : (b : ℕ) (m : BTreeMap ℕ ℕ) → length h ≤ b → AreCommitsTo b m → AreCommits h m
  all_commits b m past to t p = (λ g. ((to t p).0 g).1, λ c. (to t p).1 (let l = commit_within t p c in omega arith, c))

  -- the chains, one place further back
  pub chains_more : (b : ℕ) (e : Event) (m n : BTreeMap ℕ ℕ) (next : List ℕ) (v : ℕ) → at_place h (b + 1) ≡ Some e → AreFirsts h (b + 1) m × AreNext h (b + 1) next
      → v ≡ version_in m (actor e) → Updates nat_cmp m n (actor e) (Some (b + 1)) → AreFirsts h b n × AreNext h b (set next (b + 1) v)
  chains_more b e m n next v at before is u =
      let there : slice_get h b ≡ Some e = ap (at_place h) (let f : suc b ≡ b + 1 = omega arith in f) ∙ at in
      let within = slice_get_within h b e there in
      let rest = drop_at h b e there in
      let firsts = before.0 in
      let nexts = before.1 in (
        grind (arith, slice_get_within, drop_at, cases_eq, unwrap_or, get_same, eq-eqb, get_other, ne_eqb, length-set, same_Some, get_or-set_same, get_or-set_other, cases_lt),
        (
          length-set next (b + 1) v ∙ nexts.0,
          λ q f l there'. elim (cases_eq q (b + 1)) [
            | inl same ↦ grind (arith, slice_get_within, drop_at, cases_eq, unwrap_or, get_same, eq-eqb, get_other, ne_eqb, length-set, same_Some, get_or-set_same, get_or-set_other, cases_lt)
            | inr other ↦ get_or-set_other next (b + 1) q v 0 other ∙ nexts.1 q f (elim (cases_lt (b + 1) q) [ inl less ↦ less | inr few ↦ absurd (other (omega arith)) ]) there'
          ],
        ),
      )

-- a number is among the first n of a list, or not
among_or_not : (order : List ℕ) (t n : ℕ) → ((i : ℕ) × (i < n) × (get_or order i 0 ≡ t)) ⊎ ((i : ℕ) → i < n → get_or order i 0 ≢ t)
among_or_not order t zero = inr (λ i l. absurd (omega arith))
among_or_not order t (suc n) = elim (among_or_not order t n) [
  | inl has ↦ inl (has.0, (let l = has.1 in omega arith), has.2)
  | inr lacks ↦ elim (cases_eq (get_or order n 0) t) [
    | inl same ↦ inl (n, omega arith, same)
    | inr other ↦ grind (arith, cases_eq, cases_lt)
  ]
]

-- no entries, nothing at any key
nothing_at : (entries : List (ℕ × ℕ)) (t : ℕ) → length entries ≡ 0 → lookup (is_at (nat_cmp t)) entries ≡ None
nothing_at [] t e = refl
nothing_at (x ∷ entries) t e = absurd (omega arith)

no_entries : (entries : List (ℕ × ℕ)) → ((t p : ℕ) → lookup (is_at (nat_cmp t)) entries ≢ Some p) → length entries ≡ 0
no_entries [] none = refl
no_entries (x ∷ entries) none = absurd (none x.0 x.1 (ap (λ b. cond b (Some x.1) (lookup (is_at (nat_cmp x.0)) entries)) (same_is_at x.0 x.0 refl)))

module _ (h : List Event) (order : List ℕ) where
  -- the first n are committed, each stands once, and the map has the other commits
  abbrev pub IsTakenOut : BTreeMap ℕ ℕ → ℕ → Type 0
  IsTakenOut m n = ((i j : ℕ) → i < j → j < n → get_or order i 0 ≢ get_or order j 0)
      × ((i : ℕ) → i < n → IsCommitted h (get_or order i 0))
      × ((t p : ℕ) → (get nat_cmp m t ≡ Some p) ↔ (CommitsAt h t p × ((i : ℕ) → i < n → get_or order i 0 ≢ t)))

  pub none_taken : (m : BTreeMap ℕ ℕ) → AreCommits h m → IsTakenOut m 0
  none_taken m are = grind arith

  pub taken_more : (m new : BTreeMap ℕ ℕ) (n p : ℕ) → IsTakenOut m n → get nat_cmp m (get_or order n 0) ≡ Some p → Updates nat_cmp m new (get_or order n 0) None → IsTakenOut new (n + 1)
  taken_more m new n p before has u =
      let own = get_or order n 0 in
      let at = (before.2 own p).0 has in (
        grind (arith, cases_lt, cases_eq, get_same, get_other),
        λ i l. elim (cases_lt i n) [
          | inl less ↦ before.1 i less
          | inr more ↦ let e : n ≡ i = omega arith in subst (λ x. IsCommitted h (get_or order x 0)) e (p, at.0)
        ],
        λ t q. elim (cases_eq own t) [
          | inl same ↦ grind (arith, cases_lt, cases_eq, get_same, get_other)
          | inr other ↦
              let same = get_other m new own None u t other in (
                λ g.
                    let w = (before.2 t q).0 (sym same ∙ g) in (
                      w.0,
                      grind (arith, cases_lt, cases_eq, get_same, get_other),
                    ),
                λ w. same ∙ (before.2 t q).1 (w.0, λ i l. w.1 i (omega arith)),
              )
        ],
      )

  -- what the map doesn't have isn't committed, or stands before
  pub not_taken : (m : BTreeMap ℕ ℕ) (n : ℕ) → n < length order → IsTakenOut m n → get nat_cmp m (get_or order n 0) ≡ None → ¬ IsOrder h order
  not_taken m n within taken none is =
      let own = get_or order n 0 in
      let commits = (is.each own).0 (n, within, get_or_default order n own 0 within) in
      let has = (taken.2 own commits.0).1 (commits.1, λ i l. is.once i n 0 l within) in
      cc

  pub all_taken : (m : BTreeMap ℕ ℕ) (n : ℕ) (r : Bool) → n ≡ length order → IsTakenOut m n → (IsTrue r ↔ (btree_map_len m ≡ 0)) → IsTrue r ↔ IsOrder h order
  all_taken m n r whole taken empty = (
    λ checked. record {
      once = λ i j d l k e. taken.0 i j l (omega arith) (sym (get_or_default order i d 0 (omega arith)) ∙ e ∙ get_or_default order j d 0 k);
      each = λ t. (
        λ c. let l = c.1 in subst (IsCommitted h) (get_or_default order c.0 0 t c.1 ∙ c.2) (taken.1 c.0 (omega arith)),
        λ commits. elim (among_or_not order t n) [
          | inl has ↦ let l = has.1 in (has.0, omega arith, get_or_default order has.0 t 0 (omega arith) ∙ has.2)
          | inr lacks ↦
              let f = sym (nothing_at m.entries t (empty.0 checked)) ∙ (taken.2 t commits.0).1 (commits.1, lacks) in
              absurd (let g = f in cc)
        ],
      );
    },
    λ is. empty.1 (no_entries m.entries (λ t p g.
        let w = (taken.2 t p).0 g in
        let has = (is.each t).1 (p, w.0) in
        w.1 has.0 (omega arith) (get_or_default order has.0 0 t has.1 ∙ has.2))),
  )

pub some_of : (o : Option ℕ) → is_some o ≡ true → (p : ℕ) × (o ≡ Some p)
some_of o q = grind arith

pub none_of : (o : Option ℕ) → is_some o ≡ false → o ≡ None
none_of o p = grind arith
