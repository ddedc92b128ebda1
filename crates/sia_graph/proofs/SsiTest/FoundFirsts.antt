-- Firsts of dangerous structures by limits, where isolation is kept.
-- The dangerous structure that is told, by the numbers of its transactions.
use Rattle.std.proofs.Common.{◌≡◌, ◌≢◌, ◌⊎◌, inl, inr, true, false, Option, ℕ, ◌+◌, ◌-◌, ◌<◌, ◌≤◌, List, [], ◌∷◌, ◌++◌, length, get_or, map, min, refl, ap, sym, subst, ◌∙◌, arith, is_some}
use Rattle.std.specs.Prelude.{◌↔◌, ⊤, MatchOption}
use Rattle.std.proofs.lemmas.Bool.{cases_lt, cases_eq}
use Rattle.std.proofs.lemmas.List.{get_or-map, get_or_append_left, get_or_default, get_or_push, length-append}
use Rattle.sia_events.specs.declared.event.Event.{Event}
use Rattle.sia_events.specs.DangerousStructures.{IsFirst, NoFirst}
use Rattle.sia_events.specs.Isolation.{IsolationKept}
use Rattle.sia_events.specs.Lists.{ListsAscending}
use Rattle.sia_events.specs.NarrowDependencies.{CommitsVersion, IsNextVersion, Looked}
use Rattle.sia_events.specs.Refusals.{IsWellFormed}
use Rattle.sia_events.specs.Transactions.{CommitsAt, CommitsBefore, IsCommitted}
use Rattle.sia_events.proofs.OfLaws.Endings.{one_committer}
use Rattle.sia_events.proofs.OfLaws.Looks.{commits_above}
use Rattle.sia_events.proofs.Writing.WellFormed.{one_commit}
use Rattle.sia_index.specs.declared.info.KeyVersion.{KeyVersion}
use Rattle.sia_index.specs.declared.info.Lifetime.{Lifetime}
use Rattle.sia_index.specs.Info.{IsKeyAt}
use Rattle.sia_index.specs.Lifetimes.{AreLifetimes}
use Rattle.sia_index.specs.Numbers.{IsCommittedAt}
use Rattle.sia_index.specs.Positions.{HasVersionUpTo, IsAtPosition, NoneBehind}
use Rattle.sia_parts.specs.declared.accesses.Accesses.{Accesses}
use Rattle.sia_parts.specs.Accesses.{AreAccesses, Missed, SawPosition}
use Rattle.sia_graph.specs.Dangerous.{HasFirst, IsDangerous, IsLeast, MayBeFirst}
use Rattle.sia_graph.specs.EarlyVersions.{AreValuesFrom, HasEarly, IsFollowedBy, IsLimit}
use Rattle.sia_graph.specs.Extremes.{HasRwEdge}
use Rattle.sia_graph.specs.Late.{AreCommits, Enters, IsLastOf}
use Rattle.sia_graph.proofs.OfLaws.Extremes.{firsts_hold, entered_from}
use Rattle.sia_graph.proofs.SsiTest.Stands.{look_at}
use Rattle.sia_graph.proofs.Shared.Numbered.{commits_at, number_of, txn_number}
use Rattle.sia_graph.proofs.Shared.PositionEdges.{look_of_rw, rw_from_look}
use Rattle.sia_parts.proofs.Shared.OneNumber.{one_committed_number as one_number, one_key as one_key_at, one_committed as one_txn_at}
use Rattle.sia_parts.proofs.EdgeRows.PositionOrder.{one_version as one_at}
use Rattle.sia_events.specs.Dependencies.{RwEdge}
use Rattle.sia_parts.proofs.CutKeys.StartLemmas.{increasing}
use Rattle.sia_graph.specs.declared.ssi.Dangerous.{Dangerous}
use Rattle.sia_graph.proofs.Shared.AscendingIds.{ids_no_less}

-- what is told of an option, by whether it is there
pub there_or_not : {A : Type 0} (P : Type 0) (Q : A → Type 0) (o : Option A) → MatchOption o P Q → ((is_some o ≡ true) × (a : A) × Q a) ⊎ ((is_some o ≡ false) × P)
there_or_not P Q o p = grind arith

module _ (h : List Event) (wf : IsWellFormed h) where
  -- a version is followed up to a place exactly if the next one is committed there
  pub next_follows : (p q : ℕ) (v w : KeyVersion) → IsAtPosition h p v → IsAtPosition h q w → w.key ≡ v.key → 0 < w.commit → IsNextVersion h v.key v.commit w.txn → (place : ℕ) → (w.commit ≤ place) ↔ IsFollowedBy h v place
  next_follows p q v w at there key some next place =
      let made = subst (λ k. CommitsVersion h k w.txn w.commit) key (commits_at h q w there some) in
      let one = one_commit h wf w.txn next.0 w.commit next.1.1 made.1 in
      let after = next.2 in (
        (λ l. (w.txn, w.commit, made, omega arith, l)),
        (λ f. let l = next.3 f.0 f.1 f.2 f.3 in let m = f.4 in omega arith),
      )

  pub none_follows : (v : KeyVersion) → NoneBehind h v.key v.commit → (place : ℕ) → ¬ IsFollowedBy h v place
  none_follows v none place f = let l = none f.0 f.1 f.2 in let m = f.3 in omega arith

  module _ (a : Accesses) (are : AreAccesses h (λ _. ⊤) a) (i t c place : ℕ) (at : IsCommittedAt h i t) (commits : CommitsAt h t c) (before : place < c) where
    -- what is behind a look, up to the place, is another's
    behind : (k d u e : ℕ) → Looked h t k d → CommitsVersion h k u e → d < e → e ≤ place → HasEarly h t place
    behind k d u e look made less le =
        let other : t ≢ u = λ same. let one = one_commit h wf u e c made.1 (subst (λ x. CommitsAt h x c) same commits) in let no : ⊥ = omega arith in no in
        (u, e, (k, rw_from_look h wf k t u d e other made look less), made.1, le)

    pub saw_early : (p : ℕ) (v : KeyVersion) → IsAtPosition h p v → SawPosition a i p → IsFollowedBy h v place → HasEarly h t place
    saw_early p v there saw f =
        let l = look_at h a are i t p at (inl saw) in
        behind v.key v.commit f.0 f.1 (subst (λ (x : KeyVersion). Looked h t x.key x.commit) (one_at h p l.0 v l.1 there) l.2) f.2 f.3 f.4

    pub missed_early : (j k : ℕ) → IsKeyAt h j k → Missed a i j → HasVersionUpTo h k place → HasEarly h t place
    missed_early j k key missed up =
        let w = are.missed i j missed in
        let look = subst (λ x. Looked h x k 0) (one_txn_at h i w.0 t w.2 at) (subst (λ n. Looked h w.0 n 0) (one_key_at h j w.1 k w.3 key) w.4) in
        behind k 0 up.0 up.1 look up.2 (commits_above h up.0 up.1 up.2.1) up.3

    pub none_early : ((p : ℕ) (v : KeyVersion) → SawPosition a i p → IsAtPosition h p v → ¬ IsFollowedBy h v place) → ((j k : ℕ) → Missed a i j → IsKeyAt h j k → ¬ HasVersionUpTo h k place) → ¬ HasEarly h t place
    none_early saw missed early =
        let k = early.2.0 in
        let look = look_of_rw h wf k t early.0 early.2.1 in
        let one = one_commit h wf early.0 look.1 early.1 look.2.1 early.3 in
        elim (are.each t k look.0 early.0 look.3 look.2.0 tt) [
          | inl s ↦
              let l = s.2 in
              let v = l.version in
              saw s.1 v.0 (subst (λ n. SawPosition a n s.1) (one_number h s.0 i t l.txn at) l.saw) v.1 (early.0, look.1, subst (λ n. CommitsVersion h n early.0 look.1) (sym v.2) look.2, omega arith, omega arith)
          | inr p ↦ missed p.2.key.0 k (subst (λ n. Missed a n p.2.key.0) (one_number h p.1 i t p.2.txn at) p.2.key.2) p.2.key.1 (early.0, look.1, look.2, omega arith)
        ]

  -- the last place before a commit, up to the last commit of one with an rw edge
  pub limit_is : (txns : List ℕ) → ListsAscending (IsCommitted h) txns → (commits : List ℕ) → AreCommits h commits → (t c last : ℕ) → CommitsAt h t c → IsLastOf (Enters h commits t) last → IsLimit h t (min last (c - 1))
  limit_is txns txns_are commits are t c last at entering u d ends =
      let positive = commits_above h u d ends in (
        (λ le.
            let w = (entering d positive).0 (omega arith) in
            let e = w.1 in
            let same = e.4 in
            let l = w.2 in
            ((d, c, ends, at, omega arith), (e.1, e.3, or u d e.1 (get_or commits e.0 0) ends (are e.0 e.1 e.2) (omega arith)))),
        (λ w.
            let b = w.0 in
            let x = one_commit h wf u d b.0 ends b.2 in
            let y = one_commit h wf t c b.1 at b.3 in
            let less = b.4 in
            let r = w.1.0 in
            let edge = w.1.1 in
            let n = number_of h txns txns_are r edge.1.1 in
            let by = are n.0 r n.1 in
            let le : d ≤ get_or commits n.0 0 = elim w.1.2 [
              | inl same ↦ let z = one_commit h wf r d (get_or commits n.0 0) (subst (λ x. CommitsAt h x d) same ends) by in omega arith
              | inr after ↦
                  omega (arith, one_commit h wf u d after.0 ends after.2, one_commit h wf r (get_or commits n.0 0) after.1 by after.3)
            ] in
            omega (arith, (entering d positive).1 (get_or commits n.0 0, (n.0, r, n.1, edge, refl), le))),
      )
    where
      or : (u d r e : ℕ) → CommitsAt h u d → CommitsAt h r e → d ≤ e → (u ≡ r) ⊎ CommitsBefore h u r
      or u d r e ends by le = elim (cases_lt d e) [
        | inl less ↦ inr (d, e, ends, by, less)
        | inr more ↦ let same : d ≡ e = omega arith in inl (one_committer h u r e (subst (CommitsAt h u) same ends) by)
      ]

  module _ (kept : IsolationKept h) (t limit : ℕ) (is : IsLimit h t limit) where
    -- the firsts are those with an rw edge that commit up to the limit
    pub first_early : (u : ℕ) → IsFirst h t u ↔ ((c : ℕ) × HasRwEdge h t u × CommitsAt h u c × (c ≤ limit))
    first_early u =
        let law = (firsts_hold h wf).by_commits kept t u in (
          (λ first. let f = law.0 first in (f.1.0, f.0, f.1.2, (is u f.1.0 f.1.2).1 (f.1, f.2))),
          (λ w. let b = (is u w.0 w.2).0 w.3 in law.1 (w.1, b.0, b.1)),
        )

    pub has_first : HasEarly h t limit ↔ HasFirst h t
    has_first = (
      (λ e. (e.0, (first_early e.0).1 (e.1, e.2, e.3, e.4))),
      (λ f. let e = (first_early f.0).0 f.1 in (f.0, e.0, e.1, e.2, e.3)),
    )

-- the commits are those of the lifetimes
pub commits_lived : (h : List Event) (txns : List ℕ) → ListsAscending (IsCommitted h) txns → (lifetimes : List Lifetime) → AreLifetimes h txns lifetimes → (commits : List ℕ) → commits ≡ map (λ (l : Lifetime). l.commit) lifetimes → AreCommits h commits
commits_lived h txns are lifetimes lived commits is i t at =
    let none : Lifetime = record { start = 0; commit = 0 } in
    let n = txn_number h txns are i t at in
    let e = get_or-map (λ (l : Lifetime). l.commit) lifetimes i none 0 (let l = n.0 in let m = lived.long in omega arith) in
    subst (CommitsAt h t) (sym (ap (λ (l : List ℕ). get_or l i 0) is ∙ e)) (subst (λ u. CommitsAt h u (get_or lifetimes i none).commit) n.1 (lived.each i none n.0).1)

-- the commit of one's lifetime
pub commit_lived : (h : List Event) (lifetimes : List Lifetime) → ((txns : List ℕ) → ListsAscending (IsCommitted h) txns → AreLifetimes h txns lifetimes) → (i t : ℕ) → IsCommittedAt h i t
    → (i < length lifetimes) × ((d : Lifetime) → CommitsAt h t (get_or lifetimes i d).commit)
commit_lived h lifetimes lived i t at = grind arith

pub values_more : (place : ℕ) (lifetimes : List Lifetime) (values new : List ℕ) (n value : ℕ) (x : Lifetime) → n < length lifetimes → AreValuesFrom place lifetimes values n → new ≡ values ++ value ∷ []
    → (place ≤ (get_or lifetimes n x).commit → value ≡ length lifetimes - n) → ((get_or lifetimes n x).commit < place → value ≡ 0) → AreValuesFrom place lifetimes new (n + 1)
values_more place lifetimes values new n value x below are is late early = grind (arith, length-append, cases_lt, get_or_append_left, get_or_default, get_or_push)

-- a structure whose transactions are these
pub named : (h : List Event) (d : Dangerous) (first pivot last : ℕ) → (d.first ≡ first) × (d.pivot ≡ pivot) × (d.last ≡ last) → IsLeast (HasFirst h) pivot → IsLeast (IsFirst h pivot) last
    → IsLeast (MayBeFirst h pivot last) first → IsLeast (RwEdge h first pivot) d.first_key → IsLeast (RwEdge h pivot last) d.last_key → IsDangerous h d
named h d first pivot last same a b c e f = record {
  pivot = subst (IsLeast (HasFirst h)) (sym same.1) a;
  last = subst (λ t. IsLeast (IsFirst h t) d.last) (sym same.1) (subst (IsLeast (IsFirst h pivot)) (sym same.2) b);
  first = subst (λ t. IsLeast (MayBeFirst h t d.last) d.first) (sym same.1)
      (subst (λ t. IsLeast (MayBeFirst h pivot t) d.first) (sym same.2) (subst (IsLeast (MayBeFirst h pivot last)) (sym same.0) c));
  first_key = subst (λ t. IsLeast (RwEdge h t d.pivot) d.first_key) (sym same.0) (subst (λ t. IsLeast (RwEdge h first t) d.first_key) (sym same.1) e);
  last_key = subst (λ t. IsLeast (RwEdge h t d.last) d.last_key) (sym same.1) (subst (λ t. IsLeast (RwEdge h pivot t) d.last_key) (sym same.2) f);
}

module _ (h : List Event) (txns : List ℕ) (are : ListsAscending (IsCommitted h) txns) where
  -- the least number is that of the least transaction
  pub least_named : (P : ℕ → Type 0) → ((t : ℕ) → P t → IsCommitted h t) → (i t : ℕ) → IsCommittedAt h i t → P t → ((j u : ℕ) → j < i → IsCommittedAt h j u → ¬ P u) → IsLeast P t
  least_named P committed i t at is none = (
    is,
    λ u has.
        let j = number_of h txns are u (committed u has) in
        let n = txn_number h txns are i t at in
        let m = txn_number h txns are j.0 u j.1 in
        elim (cases_lt j.0 i) [
          | inl less ↦ absurd (none j.0 u less j.1 has)
          | inr more ↦ let up = ids_no_less txns (increasing txns are.ascending) i j.0 more m.0 in omega arith
        ],
  )

  module _ (wf : IsWellFormed h) (kept : IsolationKept h) where
    pub first_committed : (t u : ℕ) → IsFirst h t u → IsCommitted h u
    first_committed t u f = let s = f.0.0.0 in (s.1, s.3)

    pub has_committed : (t : ℕ) → HasFirst h t → IsCommitted h t
    has_committed t f = let s = f.1.0.0.1 in (s.1, s.3)

    -- the least pivot
    pub pivot_least : (i t : ℕ) → IsCommittedAt h i t → HasFirst h t → ((j u : ℕ) → j < i → IsCommittedAt h j u → ¬ HasFirst h u) → IsLeast (HasFirst h) t
    pivot_least = least_named (HasFirst h) has_committed

    pub none_first : ((j u : ℕ) → j < length txns → IsCommittedAt h j u → ¬ HasFirst h u) → NoFirst h
    none_first none t out first = let j = number_of h txns are t (has_committed t (out, first)) in none j.0 t (txn_number h txns are j.0 t j.1).0 j.1 (out, first)

    module _ (pivot t : ℕ) (at : IsCommittedAt h pivot t) where
      -- what is reached from the pivot alone, up to the limit, are its firsts
      module _ (values : List ℕ) (one : get_or values pivot 0 ≡ 1) (others : (i : ℕ) → i ≢ pivot → get_or values i 0 ≡ 0) (limit : ℕ) (is : IsLimit h t limit) where
        pub reached_first : (u : ℕ) → ((c : ℕ) × (y : ℕ) × CommitsAt h u c × (c ≤ limit) × Enters h values u y × (0 < y)) ↔ IsFirst h t u
        reached_first u = (
          (λ w.
              let e = w.4 in
              let same : e.0 ≡ pivot = elim (cases_eq e.0 pivot) [ inl s ↦ s | inr other ↦ (let z = others e.0 other in absurd (omega arith)) ] in
              let edge = subst (λ r. HasRwEdge h r u) (one_txn_at h pivot e.1 t (subst (λ n. IsCommittedAt h n e.1) same e.2) at) e.3 in
              (first_early h wf kept t limit is u).1 (w.0, edge, w.2, w.3)),
          (λ f. let w = (first_early h wf kept t limit is u).0 f in (w.0, 1, w.2, w.3, (pivot, t, at, w.1, one), omega arith)),
        )

      -- the least with an rw edge to the pivot that is the last or commits after it
      module _ (last place : ℕ) (ends : CommitsAt h last place) (first : IsFirst h t last) (lifetimes : List Lifetime) (lived : AreLifetimes h txns lifetimes) (values : List ℕ)
          (from : AreValuesFrom place lifetimes values (length lifetimes)) (greatest : ℕ) (entering : IsLastOf (Enters h values t) greatest) where
        abbrev none : Lifetime
        none = record { start = 0; commit = 0 }

        may : (u : ℕ) → MayBeFirst h t last u → HasRwEdge h u t × ((d : ℕ) → CommitsAt h u d → place ≤ d)
        may u m = (
          (m.0.1, m.0.2),
          λ d at. elim m.1 [
            | inl same ↦ let z = one_commit h wf u place d (subst (λ x. CommitsAt h x place) same ends) at in omega arith
            | inr after ↦
                omega (arith, one_commit h wf last place after.0 ends after.2, one_commit h wf u d after.1 at after.3)
          ],
        )

        may_be : (u d : ℕ) → HasRwEdge h u t → CommitsAt h u d → place ≤ d → MayBeFirst h t last u
        may_be u d edge at le =
            let or : (last ≡ u) ⊎ CommitsBefore h last u = grind (arith, cases_lt, one_committer, entered_from) in
            (entered_from h wf kept t last (first.0.1, first.0.2) first.1 u edge or, or)

        inside : (i u : ℕ) → IsCommittedAt h i u → i < length lifetimes
        inside i u at = let n = (txn_number h txns are i u at).0 in let l = lived.long in omega arith

        ends_at : (i u : ℕ) → IsCommittedAt h i u → CommitsAt h u (get_or lifetimes i none).commit
        ends_at i u at = let n = txn_number h txns are i u at in subst (λ v. CommitsAt h v (get_or lifetimes i none).commit) n.1 (lived.each i none n.0).1

        -- who may be the first has a value
        valued : (i u : ℕ) → IsCommittedAt h i u → MayBeFirst h t last u → length lifetimes - i ≤ greatest
        valued i u number m =
            let w = may u m in
            let l = inside i u number in
            let is = from.late i none l (w.1 (get_or lifetimes i none).commit (ends_at i u number)) in
            (entering (length lifetimes - i) (omega arith)).1 (get_or values i 0, (i, u, number, w.0, refl), omega arith)

        -- and the greatest value is one's
        holder : (i : ℕ) × (u : ℕ) × IsCommittedAt h i u × MayBeFirst h t last u × (greatest ≡ length lifetimes - i)
        holder =
            let r = first.2 in
            let c = first.3.0.1 in
            let n = number_of h txns are r (c.1, c.3) in
            let low = valued n.0 r n.1 (first.3, first.4) in
            let l = inside n.0 r n.1 in
            let w = (entering greatest (omega arith)).0 (omega arith) in
            let e = w.1 in
            let below = inside e.0 e.1 e.2 in
            let le : w.0 ≤ greatest = (entering w.0 (omega arith)).1 (w.0, e, omega arith) in
            elim (cases_lt (get_or lifetimes e.0 none).commit place) [
              | inl early ↦ let z = from.early e.0 none below early in absurd (omega arith)
              | inr late ↦ let z = from.late e.0 none below late in (e.0, e.1, e.2, may_be e.1 (get_or lifetimes e.0 none).commit e.3 (ends_at e.0 e.1 e.2) late, omega arith)
            ]

        pub first_fits : greatest ≤ length lifetimes
        first_fits = let w = holder in let e = w.4 in omega arith

        pub first_least : (n : ℕ) → n ≡ length lifetimes - greatest → (u : ℕ) × IsCommittedAt h n u × IsLeast (MayBeFirst h t last) u
        first_least n is =
            let w = holder in
            let below = inside w.0 w.1 w.2 in
            let same : w.0 ≡ n = omega arith in (
              w.1,
              subst (λ k. IsCommittedAt h k w.1) same w.2,
              least_named (MayBeFirst h t last) (λ v m. let s = m.0.0.1 in (s.1, s.3)) w.0 w.1 w.2 w.3
                  (λ j v less number m. let low = valued j v number m in let l = inside j v number in let no : ⊥ = omega arith in no),
            )
