-- Where transactions stand, look by look.
use Rattle.std.proofs.Common.{◌≡◌, ◌⊎◌, inl, inr, ℕ, ◌+◌, ◌<◌, ◌≤◌, List, ◌∷◌, length, max, get_or, set, take, refl, sym, subst, ◌∙◌, arith}
use Rattle.std.specs.Prelude.{◌↔◌, ⊤, Contains}
use Rattle.std.proofs.lemmas.Bool.{cases_order}
use Rattle.std.proofs.lemmas.List.{length-set, take_all}
use Rattle.sia_events.specs.declared.event.Event.{Event}
use Rattle.sia_events.specs.NarrowDependencies.{IsNextVersion, Looked}
use Rattle.sia_index.specs.declared.info.KeyVersion.{KeyVersion}
use Rattle.sia_index.specs.Info.{IsKeyAt}
use Rattle.sia_index.specs.Numbers.{IsCommittedAt}
use Rattle.sia_index.specs.Positions.{HasPosition, IsAtPosition, NoneBehind}
use Rattle.sia_parts.specs.declared.accesses.Accesses.{Accesses}
use Rattle.sia_parts.specs.Accesses.{AreAccesses, SawPosition}
use Rattle.sia_graph.specs.Late.{IsLookAt, IsRaised, StandsAt}
use Rattle.sia_graph.specs.Makers.{IsMaker}
use Rattle.sia_graph.specs.Passed.{IsOwnPassed}
use Rattle.sia_graph.proofs.Shared.MakersTold.{next_told, none_next}
use Rattle.sia_graph.proofs.SsiTest.Raised.{raised_at}
use Rattle.sia_parts.proofs.EdgeRows.PositionOrder.{by_commit as commits_less, one_version as one_at}
use Rattle.sia_parts.proofs.Shared.OneNumber.{one_key as one_key_at, one_committed as one_txn_at}
use Rattle.sia_graph.proofs.Shared.Positions.{first_cases}

-- one position has the version of a key at a commit
pub one_position : (h : List Event) (p q : ℕ) (v w : KeyVersion) → IsAtPosition h p v → IsAtPosition h q w → v.key ≡ w.key → v.commit ≡ w.commit → p ≡ q
one_position h p q v w at other key commit = elim (cases_order p q) [
  | inl same ↦ same
  | inr (inl less) ↦ let l = commits_less h p q v w at other key less in absurd (omega arith)
  | inr (inr more) ↦ let l = commits_less h q p w v other at (sym key) more in absurd (omega arith)
]

module _ (h : List Event) (i : ℕ) where
  -- what an index answers of the next version tells where one stands
  module _ (p : ℕ) (v : KeyVersion) (at : IsAtPosition h p v) where
    pub stands_last : NoneBehind h v.key v.commit → StandsAt h i p p
    stands_last none = inl (refl, none_next h p v at none i)

    module _ (e : ℕ) (w : KeyVersion) (there : IsAtPosition h e w) (key : w.key ≡ v.key) (some : 0 < w.commit) (next : IsNextVersion h v.key v.commit w.txn) where
      pub stands_own : IsMaker h e i → StandsAt h i p e
      stands_own m = inr (v, w, at, there, key, some, next, subst (λ (x : KeyVersion). IsCommittedAt h i x.txn) (one_at h e m.0 w m.1 there) m.3)

      pub stands_here : ¬ IsMaker h e i → StandsAt h i p p
      stands_here none = inl (refl, λ m. none ((next_told h p v at e w there some next i).1 m))

  raised_none : (P : ℕ → Type 0) (old : List ℕ) (to : ℕ) → ((p : ℕ) → ¬ P p) → IsRaised h i P old old to
  raised_none P old to none = record { long = refl; kept = λ e. omega arith; sound = λ e x l. inl l; has = λ p is. absurd (none p is) }

  -- one look more
  raised_more : (P Q : ℕ → Type 0) (old table : List ℕ) (to p e : ℕ) → IsRaised h i P old table to → e < length table → StandsAt h i p e → ((q : ℕ) → P q → Q q) → Q p → ((q : ℕ) → Q q → P q ⊎ (p ≡ q))
      → IsRaised h i Q old (set table e (max (get_or table e 0) to)) to
  raised_more P Q old table to p e before inside here more own back =
      let now = raised_at table e to inside in
      record {
        long = length-set table e (max (get_or table e 0) to) ∙ before.long;
        kept = λ f. (now f (get_or old f 0)).1 (inl (before.kept f));
        sound = λ f x l. elim ((now f x).0 l) [
          | inl under ↦ elim (before.sound f x under) [ inl o ↦ inl o | inr w ↦ inr (w.0, more w.0 w.1, w.2, w.3) ]
          | inr at ↦ inr (p, own, subst (StandsAt h i p) at.0 here, at.1)
        ];
        has = λ q look. elim (back q look) [
          | inl had ↦ let w = before.has q had in (w.0, w.1, (now w.0 to).1 (inl w.2))
          | inr same ↦ (e, subst (λ q. StandsAt h i q e) same here, (now e to).1 (inr (refl, omega arith)))
        ];
      }

  raised_same : (P Q : ℕ → Type 0) (old table : List ℕ) (to : ℕ) → IsRaised h i P old table to → ((p : ℕ) → P p ↔ Q p) → IsRaised h i Q old table to
  raised_same P Q old table to raised same = grind arith

  -- by the first n of the positions that were seen, and then by the first n of the keys that were passed over
  abbrev pub IsSeenFirst : List ℕ → ℕ → ℕ → Type 0
  IsSeenFirst saw n p = Contains (take n saw) p

  abbrev pub IsOwnFirst : List ℕ → List ℕ → ℕ → ℕ → Type 0
  IsOwnFirst saw own n p = Contains saw p ⊎ ((j : ℕ) × (v : KeyVersion) × Contains (take n own) j × IsAtPosition h p v × IsKeyAt h j v.key × (v.commit ≡ 0))

  pub seen_more : (saw : List ℕ) (n d : ℕ) (old table : List ℕ) (to e : ℕ) → n < length saw → IsRaised h i (IsSeenFirst saw n) old table to → e < length table → StandsAt h i (get_or saw n d) e
      → IsRaised h i (IsSeenFirst saw (n + 1)) old (set table e (max (get_or table e 0) to)) to
  seen_more saw n d old table to e below raised inside here =
      raised_more (IsSeenFirst saw n) (IsSeenFirst saw (n + 1)) old table to (get_or saw n d) e raised inside here
      (λ q c. (first_cases saw n d q below).1 (inl c)) ((first_cases saw n d (get_or saw n d) below).1 (inr refl)) (λ q. (first_cases saw n d q below).0)

  pub seen_all : (saw own : List ℕ) (n : ℕ) (old table : List ℕ) (to : ℕ) → length saw ≤ n → IsRaised h i (IsSeenFirst saw n) old table to → IsRaised h i (IsOwnFirst saw own 0) old table to
  seen_all saw own n old table to all raised = grind (arith, raised_same, take_all)

  pub own_more : (saw own : List ℕ) (n d : ℕ) (old table : List ℕ) (to p e : ℕ) (v : KeyVersion) → n < length own → IsRaised h i (IsOwnFirst saw own n) old table to → e < length table
      → IsAtPosition h p v → IsKeyAt h (get_or own n d) v.key → v.commit ≡ 0 → StandsAt h i p e → IsRaised h i (IsOwnFirst saw own (n + 1)) old (set table e (max (get_or table e 0) to)) to
  own_more saw own n d old table to p e v below raised inside at key zero here =
      let j = get_or own n d in
      raised_more (IsOwnFirst saw own n) (IsOwnFirst saw own (n + 1)) old table to p e raised inside here
      (λ q o. elim o [ inl c ↦ inl c | inr w ↦ inr (w.0, w.1, (first_cases own n d w.0 below).1 (inl w.2), w.3, w.4, w.5) ])
      (inr (j, v, (first_cases own n d j below).1 (inr refl), at, key, zero))
      (λ q o. elim o [
        | inl c ↦ inl (inl c)
        | inr w ↦ elim ((first_cases own n d w.0 below).0 w.2) [
          | inl before ↦ inl (inr (w.0, w.1, before, w.3, w.4, w.5))
          | inr same ↦ inr (one_position h p q v w.1 at w.3 (one_key_at h j v.key w.1.key key (subst (λ k. IsKeyAt h k w.1.key) (sym same) w.4)) (zero ∙ sym w.5))
        ]
      ])

  pub own_all : (a : Accesses) (saw own : List ℕ) (n : ℕ) (old table : List ℕ) (to : ℕ) → length own ≤ n → ((q : ℕ) → Contains saw q ↔ SawPosition a i q) → ((j : ℕ) → Contains own j ↔ IsOwnPassed h a i j)
      → IsRaised h i (IsOwnFirst saw own n) old table to → IsRaised h i (IsLookAt h a i) old table to
  own_all a saw own n old table to all saw_are own_are raised =
      raised_same (IsOwnFirst saw own n) (IsLookAt h a i) old table to raised
      (λ p. (
        (λ o. elim o [ inl c ↦ inl ((saw_are p).0 c) | inr w ↦ inr (w.0, w.1, (own_are w.0).0 (subst (λ (xs : List ℕ). Contains xs w.0) (take_all n own all) w.2), w.3, w.4, w.5) ]),
        (λ l. elim l [ inl s ↦ inl ((saw_are p).1 s) | inr w ↦ inr (w.0, w.1, subst (λ (xs : List ℕ). Contains xs w.0) (sym (take_all n own all)) ((own_are w.0).1 w.2), w.3, w.4, w.5) ]),
      ))

-- where one stands there is a position
pub stands_there : (h : List Event) (i p e : ℕ) → HasPosition h p → StandsAt h i p e → HasPosition h e
stands_there h i p e q r = grind arith

-- a look at a position is one of the transaction
pub look_at : (h : List Event) (a : Accesses) (are : AreAccesses h (λ _. ⊤) a) (i t p : ℕ) → IsCommittedAt h i t → IsLookAt h a i p → (u : KeyVersion) × IsAtPosition h p u × Looked h t u.key u.commit
look_at h a are i t p at (inl saw) =
    let w = are.saw i p saw in
    let v = w.3.version in
    (v.0, v.1, subst (λ x. Looked h x v.0.key v.0.commit) (one_txn_at h i w.0 t w.3.txn at) (subst (λ k. Looked h w.0 k v.0.commit) (sym v.2) (subst (λ c. Looked h w.0 w.1 c) (sym v.3) w.4)))
look_at h a are i t p at (inr own) =
    let w = are.missed i own.0 own.2.0 in
    let look = subst (λ k. Looked h w.0 k 0) (one_key_at h own.0 w.1 own.1.key w.3 own.4) w.4 in
    (own.1, own.3, subst (λ c. Looked h t own.1.key c) (sym own.5) (subst (λ x. Looked h x own.1.key 0) (one_txn_at h i w.0 t w.2 at) look))
