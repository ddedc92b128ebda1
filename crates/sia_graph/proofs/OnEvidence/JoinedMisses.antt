-- Range misses in order, joined one after another: what was reached before is passed over once.
use Rattle.std.proofs.Common.{◌≡◌, ◌⊎◌, inl, inr, ℕ, ◌+◌, ◌<◌, ◌≤◌, List, length, get_or, take, sym, subst, ◌∙◌, ap, arith, ◌↔◌, Contains, refl}
use Rattle.std.specs.List.Sorted.{IsNonDecreasingBy}
use Rattle.std.proofs.lemmas.Bool.{cases_lt}
use Rattle.std.proofs.lemmas.List.{get_or-take, get_or_default, length-take, take_all}
use Rattle.sia_parts.specs.declared.accesses.RangeMiss.{RangeMiss}
use Rattle.sia_parts.specs.Sights.{Adds, FromSome}
use Rattle.sia_parts.proofs.Shared.Adding.{FromFirst, adds_both, adds_nothing, adds_same, first_more}
use Rattle.sia_graph.specs.Passed.{IsHeldBy}
use Rattle.sia_graph.proofs.Shared.Positions.{first_cases}

abbrev pub Holds : RangeMiss → ℕ → Type 0
Holds s j = (s.from ≤ j) × (j < s.to)

-- the first n range misses are passed over, and reach so far
pub record HasJoinedTo (keys : List ℕ) (misses : List RangeMiss) (n : ℕ) (own₀ own : List ℕ) (held₀ held : List RangeMiss) (reached : ℕ) : Type 0 where
  pub own_are : Adds (λ j. FromFirst Holds misses n j × Contains keys j) own₀ own
  pub held_are : (j : ℕ) → IsHeldBy held j ↔ (IsHeldBy held₀ j ⊎ (FromFirst Holds misses n j × ¬ Contains keys j))
  pub reached_by : (reached ≡ 0) ⊎ ((s : RangeMiss) × Contains (take n misses) s × (s.to ≡ reached))

module _ (keys : List ℕ) (misses : List RangeMiss) (own₀ : List ℕ) (held₀ : List RangeMiss) where
  none_first : (j : ℕ) → ¬ FromFirst Holds misses 0 j
  none_first j f = let l = f.1.1 in omega arith

  pub joined_none : HasJoinedTo keys misses 0 own₀ own₀ held₀ held₀ 0
  joined_none = grind (arith, adds_nothing, none_first)

  module _ (rise : IsNonDecreasingBy (λ (s : RangeMiss). s.from) misses) (n : ℕ) (d : RangeMiss) (below : n < length misses) (reached from : ℕ)
      (low : (get_or misses n d).from ≤ from) (past : reached ≤ from) (least : (from ≤ (get_or misses n d).from) ⊎ (from ≤ reached))
      (reach : (reached ≡ 0) ⊎ ((s : RangeMiss) × Contains (take n misses) s × (s.to ≡ reached))) where
    -- what isn't passed over anew was passed over before
    over : (j : ℕ) → FromFirst Holds misses (n + 1) j → FromFirst Holds misses n j ⊎ ((from ≤ j) × (j < (get_or misses n d).to))
    over j f = elim ((first_more Holds misses n d below j).1 f) [
      | inl before ↦ inl before
      | inr here ↦ elim (cases_lt j from) [
        | inr after ↦ inr (after, here.1)
        | inl less ↦ inl (elim reach [
          | inl none ↦ let h = here.0 in absurd (elim least [ inl a ↦ omega arith | inr a ↦ omega arith ])
          | inr s ↦
              let c = s.1 in
              let under : c.0 < n = let l = c.1 in omega (arith, length-take n misses) in
              let is : get_or misses c.0 d ≡ s.0 =
              get_or_default misses c.0 d s.0 (omega arith) ∙ sym (get_or-take n misses c.0 s.0 under) ∙ c.2 in
              let up : (get_or misses c.0 d).from ≤ (get_or misses n d).from = rise c.0 n d (omega arith) below in
              let f = ap (λ (x : RangeMiss). x.from) is in
              (s.0, c, (omega arith, elim least [ inl a ↦ absurd (omega arith) | inr a ↦ omega arith ]))
        ])
      ]
    ]

    back : (j : ℕ) → FromFirst Holds misses n j ⊎ ((from ≤ j) × (j < (get_or misses n d).to)) → FromFirst Holds misses (n + 1) j
    back j (inl before) = (first_more Holds misses n d below j).0 (inl before)
    back j (inr new) = (first_more Holds misses n d below j).0 (inr ((let a = new.0 in omega arith), new.1))

    pub joined_more : (own own' : List ℕ) (held held' : List RangeMiss) (most : ℕ) → HasJoinedTo keys misses n own₀ own held₀ held reached
        → Adds (λ j. (from ≤ j) × (j < (get_or misses n d).to) × Contains keys j) own own'
        → ((j : ℕ) → IsHeldBy held' j ↔ (IsHeldBy held j ⊎ ((from ≤ j) × (j < (get_or misses n d).to) × ¬ Contains keys j)))
        → (most ≡ reached) ⊎ (most ≡ (get_or misses n d).to) → HasJoinedTo keys misses (n + 1) own₀ own' held₀ held' most
    joined_more own own' held held' most before adds helds ends = record {
      own_are =
          adds_same (λ j. (FromFirst Holds misses n j × Contains keys j) ⊎ ((from ≤ j) × (j < (get_or misses n d).to) × Contains keys j)) (λ j. FromFirst Holds misses (n + 1) j × Contains keys j) own₀ own'
          (λ j e. elim e [ inl p ↦ (back j (inl p.0), p.1) | inr p ↦ (back j (inr (p.0, p.1)), p.2) ])
          (λ j p. elim (over j p.0) [ inl f ↦ inl (f, p.1) | inr f ↦ inr (f.0, f.1, p.1) ])
          (adds_both (λ j. FromFirst Holds misses n j × Contains keys j) (λ j. (from ≤ j) × (j < (get_or misses n d).to) × Contains keys j) own₀ own own' before.own_are adds);
      held_are = λ j. (
        (λ u. elim ((helds j).0 u) [
          | inl h ↦ elim ((before.held_are j).0 h) [ inl o ↦ inl o | inr p ↦ inr (back j (inl p.0), p.1) ]
          | inr p ↦ inr (back j (inr (p.0, p.1)), p.2)
        ]),
        (λ e. (helds j).1 (elim e [
          | inl o ↦ inl ((before.held_are j).1 (inl o))
          | inr p ↦ elim (over j p.0) [ inl f ↦ inl ((before.held_are j).1 (inr (f, p.1))) | inr f ↦ inr (f.0, f.1, p.1) ]
        ])),
      );
      reached_by = elim ends [
        | inl same ↦ elim before.reached_by [
          | inl none ↦ inl (same ∙ none)
          | inr s ↦ inr (s.0, (first_cases misses n d s.0 below).1 (inl s.1), s.2 ∙ sym same)
        ]
        | inr here ↦ inr (get_or misses n d, (first_cases misses n d (get_or misses n d) below).1 (inr refl), sym here)
      ];
    }

  module _ (n : ℕ) (all : length misses ≤ n) (own : List ℕ) (held : List RangeMiss) (reached : ℕ) (joined : HasJoinedTo keys misses n own₀ own held₀ held reached) where
    every : (j : ℕ) → FromFirst Holds misses n j ↔ IsHeldBy misses j
    every j = subst (λ (l : List RangeMiss). FromSome Holds l j ↔ IsHeldBy misses j) (sym (take_all n misses all)) ((λ f. f), (λ f. f))

    pub joined_own : Adds (λ j. IsHeldBy misses j × Contains keys j) own₀ own
    joined_own =
        adds_same (λ j. FromFirst Holds misses n j × Contains keys j) (λ j. IsHeldBy misses j × Contains keys j) own₀ own (λ j p. ((every j).0 p.0, p.1)) (λ j p. ((every j).1 p.0, p.1)) joined.own_are

    pub joined_held : (j : ℕ) → IsHeldBy held j ↔ (IsHeldBy held₀ j ⊎ (IsHeldBy misses j × ¬ Contains keys j))
    joined_held j = (
      (λ u. elim ((joined.held_are j).0 u) [ inl o ↦ inl o | inr p ↦ inr ((every j).0 p.0, p.1) ]),
      (λ e. (joined.held_are j).1 (elim e [ inl o ↦ inl o | inr p ↦ inr ((every j).1 p.0, p.1) ])),
    )
