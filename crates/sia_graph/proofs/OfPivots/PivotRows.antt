-- The outs that commit first in a dangerous structure: before the pivot, and no later than the last of the ins.
-- Rows that are the neighbours of a pivot, and when there are none.
use Rattle.std.proofs.Common.{◌≡◌, ◌≢◌, inl, inr, ℕ, suc, ◌+◌, ◌-◌, ◌<◌, ◌≤◌, List, [], ◌∷◌, ◌++◌, Bool, true, false, cond, length, get_or, take, min, ap, refl, rules, sym, subst, ◌∙◌, arith}
use Rattle.std.specs.Prelude.{◌↔◌, All, AllPairs, Contains, count_by}
use Rattle.std.specs.List.{filter}
use denote.Enum.Bare.{sameb, same_true}
use Rattle.std.proofs.lemmas.Bool.{cases_lt}
use Rattle.std.proofs.lemmas.List.{get_or_append_left, get_or_default}
use Rattle.std.proofs.lemmas.List.Elements.{All-contains_itself, All-filter, filter_passes, Contains-get_or}
use Rattle.std.proofs.lemmas.List.Kept.{AllPairs-filter}
use Rattle.std.proofs.lemmas.List.Sums.{count_by_more_no, count_by_more_yes, length-filter, sum_by-take-le}
use Rattle.sia_events.specs.declared.event.Event.{Event}
use Rattle.sia_events.specs.DangerousStructures.{IsFirst, IsVulnerable, IsPivot}
use Rattle.sia_events.specs.Refusals.{IsWellFormed}
use Rattle.sia_events.specs.Transactions.{CommitsAt}
use Rattle.sia_events.proofs.OfLaws.Endings.{one_committer}
use Rattle.sia_events.proofs.OfLaws.Looks.{commits_above}
use Rattle.sia_events.proofs.Writing.WellFormed.{one_commit}
use Rattle.sia_index.specs.Numbers.{IsCommittedAt}
use Rattle.sia_index.proofs.Sorting.Dealt.{holds_all}
use Rattle.sia_parts.specs.Sights.{FromSome, Adds}
use Rattle.sia_graph.specs.contracts.neighbours.Role.{the_type}
use Rattle.sia_graph.specs.declared.neighbours.Neighbour.{Neighbour}
use Rattle.sia_graph.specs.declared.neighbours.Role.{Role}
use Rattle.sia_graph.specs.declared.neighbours.Role.TheVariants.{In, Out, First}
use Rattle.sia_graph.specs.Found.{AreEnds, InCommits, is_out}
use Rattle.sia_graph.specs.Late.{IsLastOf}
use Rattle.sia_graph.specs.Links.{IsVulnerableAt}
use Rattle.sia_graph.specs.Neighbours.{HasRole, AreNeighbours, IsPivotAt, neighbour_rank, role_number}
use Rattle.sia_graph.proofs.OfPivots.Vulnerable.{source_committed, target_committed}
use Rattle.sia_graph.proofs.Shared.Numbered.{number_of}
use Rattle.sia_parts.proofs.Shared.OneNumber.{one_committed as one_txn_at}
use Rattle.std.specs.Ordering.{nat_cmp, ordering_then}
use Rattle.std.specs.declared.cmp.Ordering.{Ordering}
use Rattle.std.specs.declared.cmp.Ordering.TheVariants.{Less}
use Rattle.std.specs.List.Sorted.{IsStrictlySortedBy}
use Rattle.sia_events.specs.Lists.{ListsAscending, ListsBy, Precedes}
use Rattle.sia_index.specs.declared.info.KeyVersion.{KeyVersion}
use Rattle.sia_index.specs.Positions.{AreAllVersions, IsAtPosition}
use Rattle.sia_graph.specs.contracts.neighbours.RoleOrd.TheImpl.{cmp-value}
use Rattle.sia_graph.proofs.OfPivots.ListedAs.{listed_in_order}
use Rattle.sia_graph.proofs.Shared.PositionEdges.{look_of_rw, made_at}
use Rattle.sia_index.proofs.Shared.Ordered.{precedes_last, precedes_then}

-- what `==` of roles says
pub same_role : (r s : Role) → sameb the_type r s ≡ true → r ≡ s
same_role r s same = same_true the_type (search rules) r s same

pub role_same : (r s : Role) → r ≡ s → sameb the_type r s ≡ true
role_same r s p = grind (arith, sameb)

pub last_same : (P Q : ℕ → Type 0) (last : ℕ) → ((y : ℕ) → P y ↔ Q y) → IsLastOf P last → IsLastOf Q last
last_same P Q last same is x some = (
  (λ le. let w = (is x some).0 le in (w.0, (same w.0).0 w.1, w.2)),
  (λ w. (is x some).1 (w.0, (same w.0).1 w.1, w.2)),
)

-- one commits at place c who has a vulnerable edge to t
abbrev pub EntersAt : List Event → ℕ → ℕ → Type 0
EntersAt h t c = (s : ℕ) × IsVulnerable h s t × CommitsAt h s c

pub first_by : (h : List Event) → IsWellFormed h → (t own last : ℕ) → CommitsAt h t own → IsLastOf (EntersAt h t) last → (u e : ℕ) → IsVulnerable h t u → CommitsAt h u e → (e ≤ min last (own - 1)) ↔ IsFirst h t u
first_by h wf t own last commits greatest u e v ends = (
  (λ le.
      let above = commits_above h u e ends in
      let w = (greatest e above).0 (omega arith) in
      let most = w.2 in (
        v,
        (e, own, ends, commits, (let b = commits_above h t own commits in omega arith)),
        w.1.0,
        w.1.1,
        elim (cases_lt e w.0) [
          | inl less ↦ inr (e, w.0, ends, w.1.2, less)
          | inr more ↦ let same : e ≡ w.0 = omega arith in inl (one_committer h u w.1.0 w.0 (subst (CommitsAt h u) same ends) w.1.2)
        ],
      )),
  (λ first.
      let b = first.1 in
      let one = one_commit h wf u b.0 e b.2 ends in
      let two = one_commit h wf t b.1 own b.3 commits in
      let y = source_committed h first.2 t first.3 in
      let le : e ≤ y.0 = elim first.4 [
        | inl same ↦ let z = one_commit h wf u e y.0 ends (subst (λ x. CommitsAt h x y.0) (sym same) y.1) in omega arith
        | inr before ↦
            let p = one_commit h wf u before.0 e before.2 ends in
            let q = one_commit h wf first.2 before.1 y.0 before.3 y.1 in
            omega arith
      ] in
      let most = (greatest e (commits_above h u e ends)).1 (y.0, (first.2, first.3, y.1), le) in
      omega arith),
)

-- the ins are those with a vulnerable edge to it
pub ins_enter : (h : List Event) (n t : ℕ) → IsCommittedAt h n t → (rows : List Neighbour) → AreEnds h n rows → (c : ℕ) → FromSome (InCommits h) rows c ↔ EntersAt h t c
ins_enter h n t at rows are c = (
  (λ (row, has, (role, u, own, commits)).
      let v : IsVulnerableAt h row.txn n = is_in row role ((are row).0 has).1 in
      let from = one_txn_at h row.txn u v.0 own v.2 in
      (v.0, subst (IsVulnerable h v.0) (one_txn_at h n v.1 t v.3 at) v.4, subst (λ s. CommitsAt h s c) from commits)),
  (λ (s, v, commits).
      let i = number_of h at.0 at.1 s (source_committed h s t v) in
      (record { role = In; txn = i.0 }, (are (record { role = In; txn = i.0 })).1 ((λ same. absurd cc), (s, t, i.1, at, v)), (refl, s, i.1, commits))),
)
  where
    is_in : (row : Neighbour) → row.role ≡ In → HasRole h n row.role row.txn → IsVulnerableAt h row.txn n
    is_in row role has = subst (λ r. HasRole h n r row.txn) role has

-- the row is put for an out that commits first
abbrev pub IsFirstOf : List Event → ℕ → Neighbour → Neighbour → Type 0
IsFirstOf h i out n = (out.role ≡ Out) × (n ≡ record { role = First; txn = out.txn }) × HasRole h i First out.txn

-- distinct rows that all stand in another list are no more
pub few_within : {A : Type 0} (xs ys : List A) → AllPairs (λ x y. x ≢ y) xs → All (Contains ys) xs → length xs ≤ length ys
few_within [] ys apart within = omega arith
few_within {A} (x ∷ xs) ys apart within = elim (cases_lt (length xs) (length ys)) [
  | inl less ↦ omega arith
  | inr most ↦
      let c = holds_all xs ys (λ i k d less under. apart (suc i) (suc k) d (omega arith) (omega arith)) (λ k d under. within (suc k) d (omega arith)) most x (within 0 x (omega arith)) in
      absurd (apart 0 (suc c.0) x (omega arith) (let below = c.1 in omega arith) (sym c.2))
]

is_out_true : (n : Neighbour) → is_out n ≡ true → n.role ≡ Out
is_out_true n is = grind arith

pub out_is : (n : Neighbour) → n.role ≡ Out → is_out n ≡ true
out_is n role = subst (λ r. is_out (record { role = r; txn = n.txn }) ≡ true) (sym role) refl

-- so there are no more outs among distinct rows than all outs
pub few_outs : (rows outs : List Neighbour) → AllPairs (λ x y. x ≢ y) rows → ((n : Neighbour) → Contains rows n → n.role ≡ Out → Contains outs n) → count_by is_out rows ≤ length outs
few_outs rows outs apart within =
    let few = few_within (filter is_out rows) outs (AllPairs-filter (λ x y. x ≢ y) is_out rows apart) (λ k d below.
    let n = get_or (filter is_out rows) k d in
    within n (All-filter is_out (Contains rows) rows (All-contains_itself rows) k d below) (is_out_true n (filter_passes is_out rows k d below))) in
    subst (λ m. m ≤ length outs) (length-filter is_out rows) few

pub outs_rise : (rows : List Neighbour) (i : ℕ) (d : Neighbour) → i < length rows → count_by is_out (take i rows) ≤ count_by is_out (take (i + 1) rows)
outs_rise rows i d below = by_test (is_out (get_or rows i d)) refl
  where
    by_test : (b : Bool) → is_out (get_or rows i d) ≡ b → count_by is_out (take i rows) ≤ count_by is_out (take (i + 1) rows)
    by_test true is = let more = count_by_more_yes is_out rows i d below is in omega arith
    by_test false is = let more = count_by_more_no is_out rows i d below is in omega arith

pub outs_most : (rows : List Neighbour) (i : ℕ) → count_by is_out (take i rows) ≤ count_by is_out rows
outs_most rows i = sum_by-take-le (λ n. cond (is_out n) 1 0) rows i

-- a row of those that stand in front
pub front_is : (old more now : List Neighbour) (i : ℕ) (d x : Neighbour) → now ≡ old ++ more → i < length old → x ≡ get_or now i x → x ≡ get_or old i d
front_is old more now i d x is below read = read ∙ ap (λ (ys : List Neighbour). get_or ys i x) is ∙ get_or_append_left old more x i below ∙ get_or_default old i x d below

module _ (h : List Event) (wf : IsWellFormed h) (n t : ℕ) (at : IsCommittedAt h n t) (rows : List Neighbour) (are : AreEnds h n rows) where
  -- each of the outs is a first exactly if it commits early enough
  pub early : (own last : ℕ) → CommitsAt h t own → IsLastOf (FromSome (InCommits h) rows) last → (o : Neighbour) → Contains rows o → o.role ≡ Out → (u e : ℕ) → IsCommittedAt h o.txn u → CommitsAt h u e
      → (e ≤ min last (own - 1)) ↔ HasRole h n First o.txn
  early own last commits greatest o has role u e other ends =
      let v : IsVulnerableAt h n o.txn = subst (λ r. HasRole h n r o.txn) role ((are o).0 has).1 in
      let edge = subst (λ s. IsVulnerable h s u) (one_txn_at h n v.0 t v.2 at) (subst (IsVulnerable h v.0) (one_txn_at h o.txn v.1 u v.3 other) v.4) in
      let tells = first_by h wf t own last commits (last_same (FromSome (InCommits h) rows) (EntersAt h t) last (ins_enter h n t at rows are) greatest) u e edge ends in (
        (λ le. (t, u, at, other, tells.0 le)),
        (λ f. tells.1 (subst (λ s. IsFirst h s u) (one_txn_at h n f.0 t f.2 at) (subst (IsFirst h f.0) (one_txn_at h o.txn f.1 u f.3 other) f.4))),
      )

  -- those that are put are all firsts
  pub all_firsts : (x : Neighbour) → FromSome (IsFirstOf h n) rows x ↔ ((x.role ≡ First) × HasRole h n First x.txn)
  all_firsts x = (
    (λ (o, has, (role, is, first)). (ap (λ (y : Neighbour). y.role) is, subst (HasRole h n First) (sym (ap (λ (y : Neighbour). y.txn) is)) first)),
    (λ (role, first).
        let o : Neighbour = record { role = Out; txn = x.txn } in
        (o, (are o).1 ((λ same. absurd cc), (first.0, first.1, first.2, first.3, first.4.0)), (refl, (λ y. record { role = role y; txn = x.txn }), first))),
  )

-- roles go by their numbers
role_order : (r s : Role) → cmp-value.it r s ≡ nat_cmp (role_number r) (role_number s)
role_order r s = grind arith

abbrev pub by_neighbour : Neighbour → Neighbour → Ordering
by_neighbour m n = ordering_then (cmp-value.it m.role n.role) (nat_cmp m.txn n.txn)

neighbour_before : (m n : Neighbour) → by_neighbour m n ≡ Less → Precedes (neighbour_rank m) (neighbour_rank n)
neighbour_before m n less = precedes_then (role_number m.role) (role_number n.role) (nat_cmp m.txn n.txn) (m.txn ∷ []) (n.txn ∷ []) (rw (role_order m.role n.role) at less) (precedes_last m.txn n.txn)

-- what a sort makes of rows
pub sorted_rows : (rows sorted : List Neighbour) → IsStrictlySortedBy by_neighbour sorted → ((n : Neighbour) → Contains sorted n ↔ Contains rows n) → ListsBy neighbour_rank (Contains rows) sorted
sorted_rows rows sorted up same = listed_in_order neighbour_rank by_neighbour neighbour_before rows sorted up (λ n c. (same n).1 c) (λ n c. (same n).0 c)

pub rows_apart : (P : Neighbour → Type 0) (rows : List Neighbour) → ListsBy neighbour_rank P rows → AllPairs (λ m n. m ≢ n) rows
rows_apart P rows lists i j d less below same = before_none (get_or rows i d) (subst (λ n. Precedes (neighbour_rank (get_or rows i d)) (neighbour_rank n)) (sym same) (lists.ascending i j d less below))
  where
    before_none : (n : Neighbour) → ¬ Precedes (neighbour_rank n) (neighbour_rank n)
    before_none n (inl less) = omega arith
    before_none n (inr (role, inl less)) = omega arith
    before_none n (inr (role, inr none)) = none.1

-- outs and ins are all ends
pub ends_of : (h : List Event) (i : ℕ) (old mid new : List Neighbour) → old ≡ [] → Adds (λ n. (n.role ≡ Out) × IsVulnerableAt h i n.txn) old mid → Adds (λ n. (n.role ≡ In) × IsVulnerableAt h n.txn i) mid new → AreEnds h i new
ends_of h i old mid new none outs ins n = (
  (λ c. elim ((ins n).0 c) [
    | inl before ↦ elim ((outs n).0 before) [
      | inl first ↦ absurd (let below = (subst (λ xs. Contains xs n) none first).1 in omega arith)
      | inr out ↦ ((λ is. let e = out.0 in absurd cc), subst (λ r. HasRole h i r n.txn) (sym out.0) out.1)
    ]
    | inr into ↦ ((λ is. let e = into.0 in absurd cc), subst (λ r. HasRole h i r n.txn) (sym into.0) into.1)
  ]),
  (λ p. by_role n.role refl p.0 p.1),
)
  where
    by_role : (r : Role) → n.role ≡ r → n.role ≢ First → HasRole h i n.role n.txn → Contains new n
    by_role In is other has = (ins n).1 (inr (is, subst (λ r. HasRole h i r n.txn) is has))
    by_role Out is other has = (ins n).1 (inl ((outs n).1 (inr (is, subst (λ r. HasRole h i r n.txn) is has))))
    by_role First is other has = absurd (other is)

pub same_ends : (h : List Event) (i : ℕ) (rows sorted : List Neighbour) → ((n : Neighbour) → Contains sorted n ↔ Contains rows n) → AreEnds h i rows → AreEnds h i sorted
same_ends h i rows sorted same are n = ((λ c. (are n).0 ((same n).0 c)), (λ p. (same n).1 ((are n).1 p)))

pub ends_at : (h : List Event) (i : ℕ) (rows : List Neighbour) → AreEnds h i rows → All (λ n. (u : ℕ) × IsCommittedAt h n.txn u) rows
ends_at h i rows are k d below = let n = get_or rows k d in let p = (are n).0 (Contains-get_or rows k d below) in by_role n n.role refl p.0 p.1
  where
    by_role : (n : Neighbour) (r : Role) → n.role ≡ r → n.role ≢ First → HasRole h i n.role n.txn → (u : ℕ) × IsCommittedAt h n.txn u
    by_role n In is other has = let v : IsVulnerableAt h n.txn i = subst (λ r. HasRole h i r n.txn) is has in (v.0, v.2)
    by_role n Out is other has = let v : IsVulnerableAt h i n.txn = subst (λ r. HasRole h i r n.txn) is has in (v.1, v.3)
    by_role n First is other has = absurd (other is)

pub same_last : (h : List Event) (rows sorted : List Neighbour) → ((n : Neighbour) → Contains sorted n ↔ Contains rows n) → (last : ℕ) → IsLastOf (FromSome (InCommits h) rows) last → IsLastOf (FromSome (InCommits h) sorted) last
same_last h rows sorted same last = last_same (FromSome (InCommits h) rows) (FromSome (InCommits h) sorted) last (λ y. ((λ f. (f.0, (same f.0).1 f.1, f.2)), (λ f. (f.0, (same f.0).0 f.1, f.2))))

-- with the firsts they are all neighbours
pub all_neighbours : (h : List Event) (i : ℕ) (rows all found : List Neighbour) → IsPivotAt h i → AreEnds h i rows → Adds (λ n. (n.role ≡ First) × HasRole h i First n.txn) rows all
    → IsStrictlySortedBy by_neighbour found → ((n : Neighbour) → Contains found n ↔ Contains all n) → AreNeighbours h i found
all_neighbours h i rows all found pivot are firsts up same = record {
  ascending = (sorted_rows all found up same).ascending;
  each = λ n. (
    (λ c. elim ((firsts n).0 ((same n).0 c)) [
      | inl end ↦ (pivot, ((are n).0 end).1)
      | inr first ↦ (pivot, subst (λ r. HasRole h i r n.txn) (sym first.0) first.1)
    ]),
    (λ p. (same n).1 (by_role n n.role refl p.1)),
  );
}
  where
    by_role : (n : Neighbour) (r : Role) → n.role ≡ r → HasRole h i n.role n.txn → Contains all n
    by_role n In is has = (firsts n).1 (inl ((are n).1 ((λ e. absurd cc), has)))
    by_role n Out is has = (firsts n).1 (inl ((are n).1 ((λ e. absurd cc), has)))
    by_role n First is has = (firsts n).1 (inr (is, subst (λ r. HasRole h i r n.txn) is has))

pub no_neighbours : (h : List Event) (i : ℕ) (found : List Neighbour) → length found ≡ 0 → ¬ IsPivotAt h i → AreNeighbours h i found
no_neighbours h i found none not = grind arith

module _ (h : List Event) (n t : ℕ) (at : IsCommittedAt h n t) where
  same_pivot : (p : IsPivotAt h n) → IsPivot h t
  same_pivot p = subst (IsPivot h) (one_txn_at h n p.0 t p.1 at) p.2

  -- who made no version is none
  pub none_made : IsWellFormed h → (versions : List KeyVersion) → AreAllVersions h versions → (made : List ℕ) → ListsAscending (λ q. (v : KeyVersion) × IsAtPosition h q v × (0 < v.commit) × (v.txn ≡ t)) made → length made ≡ 0 → ¬ IsPivotAt h n
  none_made wf versions are made all none p =
      let into = (same_pivot p).0 in
      let k = into.1.1 in
      let look = look_of_rw h wf k into.0 t into.1.2 in
      let m = made_at h wf versions are k t look.1 look.2 in
      let has = (all.each m.0).1 (m.1.0, m.1.1, m.1.4, m.1.3) in
      omega arith

  -- nor who has no outs
  pub none_out : (rows : List Neighbour) → length rows ≡ 0 → ((u : Neighbour) → u.role ≡ Out → IsVulnerableAt h n u.txn → Contains rows u) → ¬ IsPivotAt h n
  none_out rows none all p =
      let out = (same_pivot p).1 in
      let j = number_of h at.0 at.1 out.0 (target_committed h t out.0 out.1) in
      let has = all (record { role = Out; txn = j.0 }) refl (t, out.0, at, j.1, out.1) in
      omega arith

  -- nor who has no ins
  pub none_in : (rows : List Neighbour) → AreEnds h n rows → (last : ℕ) → IsLastOf (FromSome (InCommits h) rows) last → last ≡ 0 → ¬ IsPivotAt h n
  none_in rows are last greatest none p =
      let into = (same_pivot p).0 in
      let commits = source_committed h into.0 t into.1 in
      let above = commits_above h into.0 commits.0 commits.1 in
      let most = (last_same (FromSome (InCommits h) rows) (EntersAt h t) last (ins_enter h n t at rows are) greatest commits.0 above).1 (commits.0, (into.0, into.1, commits.1), omega arith) in
      omega arith

  -- who has both is one
  pub both_pivot : (rows : List Neighbour) → AreEnds h n rows → (last : ℕ) → IsLastOf (FromSome (InCommits h) rows) last → last ≢ 0 → (out : Neighbour) → out.role ≡ Out → IsVulnerableAt h n out.txn → IsPivotAt h n
  both_pivot rows are last greatest some out role v =
      let enters = (last_same (FromSome (InCommits h) rows) (EntersAt h t) last (ins_enter h n t at rows are) greatest last (omega arith)).0 (omega arith) in
      let into = enters.1 in
      (t, at, ((into.0, into.1), (v.1, subst (λ s. IsVulnerable h s v.1) (one_txn_at h n v.0 t v.2 at) v.4)))
