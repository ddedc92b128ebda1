-- One thing after another happens to nodes that are taken: less holds one back, so that it waits or is free; one is done, and those
-- that wait at it are woken.
use Rattle.std.proofs.Common.{◌≡◌, ◌≢◌, inl, inr, ℕ, ◌+◌, ◌<◌, ◌≤◌, Bool, List, [], ◌∷◌, length, get_or, set, slice_get, Some, ap, sym, subst, ◌∙◌, arith, ◌↔◌, All, Contains}
use Rattle.std.proofs.lemmas.Bool.{cases_eq, cases_lt}
use Rattle.std.proofs.lemmas.List.{get_or-set_same, get_or-set_other, get_or_default}
use Rattle.std.proofs.lemmas.Option.{same_Some, slice_get_within, slice_get-get_or, get_or_from_slice_get}
use Rattle.sia_graph.specs.Graphs.{LeadsTo}
use Rattle.sia_graph.specs.UnderWay.{AreChains, IsDone, IsOneFewer, IsUnderWay, WaitsAt, told}
use Rattle.sia_graph.specs.declared.order.Graph.{Graph}
use Rattle.sia_parts.proofs.Auditing.Members.{contains_first, contains_later, first_or_later}

-- a node that waits at s is led to from there
pub waits_led : (g : Graph) (counts passed : List ℕ) (t s : ℕ) → WaitsAt g.sources counts passed t s → LeadsTo g s t
waits_led g counts passed t s w =
    let row = get_or g.sources t [] in
    let k = get_or passed t 0 in
    inr (k, slice_get_within row k s w.2, get_or_from_slice_get row k s s w.2)

module _ (g : Graph) (done : List Bool) (counts passed first next : List ℕ) (pending : ℕ → ℕ) (waking : ℕ)
    (is : IsUnderWay g done counts passed first next pending waking) where
  abbrev waits_at : ℕ → ℕ → Type 0
  waits_at = WaitsAt g.sources counts passed

  -- what is pending, in other words
  pub as_pending : (same : ℕ → ℕ) → ((t : ℕ) → t < length counts → pending t ≡ same t) → IsUnderWay g done counts passed first next same waking
  as_pending same equal = grind arith

  -- what is pending at a node holds it back
  pub pending_many : (node : ℕ) → node < length counts → 0 < pending node → 1 < get_or counts node 0
  pending_many node l some = grind (arith, cases_lt)

  -- the count of a node changes, and where it stopped, and so do the links
  module _ (node : ℕ) (below : node < length counts) (cs ps : List ℕ) (cs_long : length cs ≡ length counts) (ps_long : length ps ≡ length counts)
      (cs_other : (t : ℕ) → t ≢ node → get_or cs t 0 ≡ get_or counts t 0) (ps_other : (t : ℕ) → t ≢ node → get_or ps t 0 ≡ get_or passed t 0) where
    abbrev now_waits : ℕ → ℕ → Type 0
    now_waits = WaitsAt g.sources cs ps

    pub now_was : (t s : ℕ) → t ≢ node → now_waits t s → waits_at t s
    now_was t s other w = grind arith

    pub was_now : (t s : ℕ) → t ≢ node → waits_at t s → now_waits t s
    was_now t s other w = grind arith

    module _ (less : ℕ → ℕ) (less_other : (t : ℕ) → t ≢ node → pending t ≡ less t) (fs ns : List ℕ) (fs_long : length fs ≡ length counts) (ns_long : length ns ≡ length counts)
        (lists : List (List ℕ)) (chains : AreChains fs ns lists) (waits : (t s : ℕ) → s < length counts → Contains (get_or lists s []) t ↔ now_waits t s)
        (held : 0 < get_or cs node 0 → get_or cs node 0 ≡ told g.targets done node + less node + 1)
        (free : get_or cs node 0 ≡ 0 → (told g.targets done node + less node ≡ 0) × ((s : ℕ) → Contains (get_or g.sources node []) s → IsDone done s))
        (ps_done : (i s : ℕ) → i < get_or ps node 0 → slice_get (get_or g.sources node []) i ≡ Some s → IsDone done s)
        (stops : get_or cs node 0 ≡ 1 → (s : ℕ) × now_waits node s) (left : (s : ℕ) → now_waits node s → IsDone done s → s ≡ waking)
        (taken : IsDone done node → get_or cs node 0 ≡ 0) where
      pub changed : IsUnderWay g done cs ps fs ns less waking
      changed = record {
        passed_long = ps_long ∙ sym cs_long;
        first_long = fs_long ∙ sym cs_long;
        next_long = ns_long ∙ sym cs_long;
        done_long = is.done_long ∙ sym cs_long;
        lists = lists;
        chains = chains;
        waits = λ t s l. waits t s (omega arith);
        held = λ t l some. elim (cases_eq t node) [
          | inl e ↦ subst (λ u. get_or cs u 0 ≡ told g.targets done u + less u + 1) (sym e) (held (subst (λ u. 0 < get_or cs u 0) e some))
          | inr n ↦ grind (arith, cases_eq, was_now, now_was)
        ];
        free = λ t l none. elim (cases_eq t node) [
          | inl e ↦ grind (arith, cases_eq, was_now, now_was)
          | inr n ↦ let a = cs_other t n in let f = is.free t (omega arith) (omega arith) in let z = f.0 in let b = less_other t n in (omega arith, f.1)
        ];
        passed_done = grind (arith, cases_eq, was_now, now_was);
        stops = grind (arith, cases_eq, was_now, now_was);
        left = grind (arith, cases_eq, was_now, now_was);
        taken = grind (arith, cases_eq, was_now, now_was);
      }

    -- less holds a node back that is still held by steps
    module _ (less : ℕ → ℕ) (fewer : IsOneFewer node pending less) (many : 1 < get_or counts node 0) where
      pub not_waiting : (s : ℕ) → ¬ waits_at node s
      not_waiting s w = let e = w.1 in omega arith

      pub not_done : ¬ IsDone done node
      not_done d = let z = is.taken node below d in omega arith

      same_waits : ((s : ℕ) → ¬ now_waits node s) → (t s : ℕ) → s < length counts → Contains (get_or is.lists s []) t ↔ now_waits t s
      same_waits none t s l = (
        λ c. let w = (is.waits t s l).0 c in was_now t s (λ e. not_waiting s (subst (λ u. waits_at u s) e w)) w,
        λ w. (is.waits t s l).1 (now_was t s (λ e. none s (subst (λ u. now_waits u s) e w)) w),
      )

      pub still_held : get_or cs node 0 + 1 ≡ get_or counts node 0 → 1 < get_or cs node 0 → get_or ps node 0 ≡ get_or passed node 0
          → IsUnderWay g done cs ps first next less waking
      still_held one some same =
          let none : (s : ℕ) → ¬ now_waits node s = λ s w. (let e = w.1 in omega arith) in
          changed less fewer.1 first next is.first_long is.next_long is.lists is.chains (same_waits none)
          (λ p. omega arith) (λ z. absurd (omega arith)) (λ i s b at. is.passed_done node i s below (omega arith) at)
          (λ z. absurd (omega arith)) (λ s w d. absurd (none s w)) (λ d. absurd (not_done d))

      -- nothing holds it back any more
      pub now_free : get_or counts node 0 ≡ 2 → get_or cs node 0 ≡ 0 → get_or ps node 0 ≡ get_or passed node 0
          → ((i : ℕ) → get_or passed node 0 ≤ i → i < length (get_or g.sources node []) → IsDone done (get_or (get_or g.sources node []) i 0))
          → IsUnderWay g done cs ps first next less waking
      now_free two zero_ same all =
          let none : (s : ℕ) → ¬ now_waits node s = λ s w. (let e = w.1 in omega arith) in
          let row = get_or g.sources node [] in
          changed less fewer.1 first next is.first_long is.next_long is.lists is.chains (same_waits none)
          (λ p. absurd (omega arith))
          (λ z. (
            (omega arith),
            grind (arith, changed, same_waits, cases_lt, slice_get-get_or, get_or_default, not_done),
          ))
          (λ i s b at. is.passed_done node i s below (omega arith) at)
          (λ z. absurd (omega arith)) (λ s w d. absurd (none s w)) (λ d. absurd (not_done d))

      -- it waits at its first source that isn't done
      module _ (two : get_or counts node 0 ≡ 2) (one : get_or cs node 0 ≡ 1) (at : ℕ) (at_below : at < length counts)
          (stopped : slice_get (get_or g.sources node []) (get_or ps node 0) ≡ Some at) (at_left : ¬ IsDone done at)
          (all : (i : ℕ) → get_or passed node 0 ≤ i → i < get_or ps node 0 → IsDone done (get_or (get_or g.sources node []) i 0)) where
        pub none_listed : All (λ list. ¬ Contains list node) is.lists
        none_listed k d l c =
            not_waiting k ((is.waits node k (omega arith)).0 (subst (λ xs. Contains xs node) (get_or_default is.lists k d [] l) c))

        listed : (t s : ℕ) → s < length counts → Contains (get_or (set is.lists at (node ∷ get_or is.lists at [])) s []) t ↔ now_waits t s
        listed t s l =
            let e = is.chains.0 in
            elim (cases_eq s at) [
              | inl same ↦
                  let row : get_or (set is.lists at (node ∷ get_or is.lists at [])) s [] ≡ node ∷ get_or is.lists s [] =
                  ap (λ k. get_or (set is.lists at (node ∷ get_or is.lists at [])) k []) same ∙ get_or-set_same is.lists at (node ∷ get_or is.lists at []) [] (omega arith)
                  ∙ ap (λ k. node ∷ get_or is.lists k []) (sym same) in (
                    λ c. elim (first_or_later node t (get_or is.lists s []) (subst (λ xs. Contains xs t) row c)) [
                      | inl here ↦ grind (arith, cases_eq, get_or-set_same, first_or_later, was_now, not_waiting, contains_first, contains_later, now_was, get_or-set_other, same_Some)
                      | inr there ↦ let w = (is.waits t s l).0 there in was_now t s (λ e. not_waiting s (subst (λ u. waits_at u s) e w)) w
                    ],
                    λ w. subst (λ xs. Contains xs t) (sym row) (elim (cases_eq t node) [
                      | inl e ↦ subst (λ u. Contains (node ∷ get_or is.lists s []) u) (sym e) (contains_first node (get_or is.lists s []))
                      | inr n ↦ contains_later node t (get_or is.lists s []) ((is.waits t s l).1 (now_was t s n w))
                    ]),
                  )
              | inr other ↦
                  let row : get_or (set is.lists at (node ∷ get_or is.lists at [])) s [] ≡ get_or is.lists s [] = get_or-set_other is.lists at s (node ∷ get_or is.lists at []) [] other in (
                    λ c.
                        let w = (is.waits t s l).0 (subst (λ xs. Contains xs t) row c) in
                        was_now t s (λ e. not_waiting s (subst (λ u. waits_at u s) e w)) w,
                    λ w. subst (λ xs. Contains xs t) (sym row) (elim (cases_eq t node) [
                      | inl e ↦
                          absurd (other (same_Some s at (sym (subst (λ u. slice_get (get_or g.sources u []) (get_or ps u 0) ≡ Some s) e w.2) ∙ stopped)))
                      | inr n ↦ (is.waits t s l).1 (now_was t s n w)
                    ]),
                  )
            ]

        pub now_waiting : (fs ns : List ℕ) → length fs ≡ length first → length ns ≡ length next → AreChains fs ns (set is.lists at (node ∷ get_or is.lists at [])) → IsUnderWay g done cs ps fs ns less waking
        now_waiting fs ns f_long n_long chains =
            changed less fewer.1 fs ns (f_long ∙ is.first_long) (n_long ∙ is.next_long) (set is.lists at (node ∷ get_or is.lists at [])) chains listed
            (λ p. omega arith) (λ z. absurd (omega arith))
            (λ i s b is_at. elim (cases_lt i (get_or passed node 0)) [
              | inl before ↦ is.passed_done node i s below before is_at
              | inr after ↦ subst (IsDone done) (get_or_from_slice_get (get_or g.sources node []) i s 0 is_at) (all i after b)
            ])
            (λ z. (at, ((let a = cs_long in omega arith), one, stopped)))
            (λ s w d. absurd (at_left (subst (IsDone done) (same_Some s at (sym w.2 ∙ stopped)) d)))
            (λ d. absurd (not_done d))
