-- Whether an event of a replay is right at a key.
use Rattle.std.proofs.Common.{◌≡◌, ◌≢◌, ◌⊎◌, inl, inr, ℕ, ◌+◌, ◌<◌, ◌≤◌, false, List, [], ◌∷◌, length, get_or, map, min, Option, Some, None, Result, Ok, Err, ltb, unwrap_or, ap, sym, ◌∙◌, refl, subst, arith, All, Contains, IsTrue, ◌↔◌, MatchOption, BTreeMap, nat_cmp, is_gt, is_ok}
use Rattle.std.specs.List.Sorted.{IsStrictlyIncreasing, IsBinarySearchResult, IsSearchInRange}
use Rattle.std.proofs.lemmas.Bool.{cases_lt, cases_eq, cases_order, ne_eqb, ltb-true, lt-ltb, le-ltb, eq-eqb}
use Rattle.std.proofs.lemmas.List.{get_or-map, get_or_default, length-map}
use Rattle.std.proofs.lemmas.List.Kept.{AllPairs-from_increasing}
use Rattle.sia_events.proofs.Writing.ListedPairs.{found_pair, found_none}
use Rattle.sia_events.specs.declared.event.Event.{Event}
use Rattle.sia_events.specs.Transactions.{Wrote, CommitsAt}
use Rattle.sia_events.specs.Refusals.{IsWellFormed}
use Rattle.sia_events.specs.Replay.{MayFollow}
use Rattle.std.specs.BTreeMap.Range.{IsRangeOf}
use Rattle.std.specs.declared.ops.Bound.TheVariants.{Included}
use Rattle.sia_events.specs.declared.event.Event.TheVariants.{Range, Write}
use Rattle.sia_graph.specs.Replaying.{Agrees, IsRight, version_in}
use Rattle.sia_graph.proofs.Shared.Facts.{commits_lt}

module _ (listed : List (ℕ × ℕ)) (up : IsStrictlyIncreasing (map (λ p. p.0) listed)) where
  pub keys_less : (i j : ℕ) (d : ℕ × ℕ) → i < j → j < length listed → (get_or listed i d).0 < (get_or listed j d).0
  keys_less i j d l b =
      let n = length-map listed (λ (p : ℕ × ℕ). p.0) in
      let e = get_or-map (λ (p : ℕ × ℕ). p.0) listed i d 0 (omega arith) in
      let f = get_or-map (λ (p : ℕ × ℕ). p.0) listed j d 0 b in
      let m = AllPairs-from_increasing (map (λ p. p.0) listed) up i j 0 l (omega arith) in
      omega arith

  -- a listed pair with a lesser key than the one at i stands before it
  pub before_key : (i k v : ℕ) (d : ℕ × ℕ) → i < length listed → k < (get_or listed i d).0 → (c : Contains listed (k, v)) → c.0 < i
  before_key i k v d l less c =
      let j = c.0 in
      let g = ap (λ (p : ℕ × ℕ). p.0) (get_or_default listed j d (k, v) c.1 ∙ c.2) in
      elim (cases_order i j) [
        | inl same ↦ let h = ap (λ n. (get_or listed n d).0) same in absurd (omega arith)
        | inr (inl after) ↦ let m = keys_less i j d after c.1 in absurd (omega arith)
        | inr (inr before) ↦ before
      ]

  -- what a search for the key says
  pub is_listed_by : (key : ℕ) (r : Result ℕ ℕ) → IsSearchInRange r (length listed) → IsBinarySearchResult (λ p. nat_cmp p.0 key) listed r → IsTrue (is_ok r) ↔ ((v : ℕ) × Contains listed (key, v))
  is_listed_by key (Ok i) below at = ((λ _. ((get_or listed i (0, 0)).1, found_pair listed up key i below at (0, 0))), (λ _. refl))
  is_listed_by key (Err i) below search = ((λ t. let e = t in cc), (λ w. absurd (found_none listed up key i search w.0 w.1)))

-- of two committed writers the one that commits first may be followed by the other
pub follows_iff : (h : List Event) → IsWellFormed h → (k v t c d : ℕ) → v ≢ 0 → v ≢ t → Wrote h v k → Wrote h t k → CommitsAt h v c → CommitsAt h t d → IsTrue (ltb c d) ↔ MayFollow h k v t
follows_iff h wf k v t c d some other first second at_c at_d = grind (arith, ltb-true, lt-ltb, commits_lt)

no_lesser : (k q : ℕ) → k ≤ q → is_gt (nat_cmp k q) ≡ false
no_lesser k q l = grind (arith, cases_eq, le-ltb, eq-eqb, cases_lt, lt-ltb)

-- the first entry of a range of a map
pub range_first : (m : BTreeMap ℕ ℕ) (a b : ℕ) (r : List (ℕ × ℕ)) → IsRangeOf nat_cmp (Included a) (Included b) m r → (k v : ℕ) (t : List (ℕ × ℕ)) → r ≡ (k, v) ∷ t
    → (a ≤ k) × (k ≤ b) × (v ≡ version_in m k) × ((q : ℕ) → a ≤ q → q < k → version_in m q ≡ 0)
range_first m a b r range k v t is = grind (arith, unwrap_or, no_lesser, cases_lt, le-ltb, ne_eqb)

-- and where a range has none
pub range_none : (m : BTreeMap ℕ ℕ) (a b : ℕ) (r : List (ℕ × ℕ)) → IsRangeOf nat_cmp (Included a) (Included b) m r → r ≡ [] → (q : ℕ) → a ≤ q → q ≤ b → version_in m q ≡ 0
range_none m a b r range none q low high = ap (λ o. unwrap_or o 0) (range.5 none q (no_lesser a q low, no_lesser q b high))

-- the keys up to one that is right are right
pub passed_key : (versions : BTreeMap ℕ ℕ) (listed : List (ℕ × ℕ)) (lo from key version : ℕ) → ((k : ℕ) → k < from → lo ≤ k → ((v : ℕ) → ¬ Contains listed (k, v)) → version_in versions k ≡ 0)
    → ((k : ℕ) → from ≤ k → k < key → version_in versions k ≡ 0) → version ≡ version_in versions key → (version ≡ 0) ⊎ ((v : ℕ) × Contains listed (key, v))
    → (k : ℕ) → k < key + 1 → lo ≤ k → ((v : ℕ) → ¬ Contains listed (k, v)) → version_in versions k ≡ 0
passed_key versions listed lo from key version before between is right k l low unlisted = elim (cases_lt k from) [
  | inl less ↦ before k less low unlisted
  | inr more ↦ elim (cases_eq k key) [
    | inr other ↦ between k more (elim (cases_lt k key) [ inl less ↦ less | inr past ↦ absurd (other (omega arith)) ])
    | inl same ↦ elim right [
      | inl none ↦ ap (version_in versions) same ∙ sym is ∙ none
      | inr w ↦ absurd (unlisted w.0 (subst (λ n. Contains listed (n, w.0)) (sym same) w.1))
    ]
  ]
]

module _ (found : ℕ → ℕ) (t lo hi : ℕ) (listed : List (ℕ × ℕ)) where
  -- a range read is right at k where it is right as to what it lists there, and found nothing else there
  pub range_agrees : (k : ℕ) → ((v : ℕ) → Contains listed (k, v) → v ≡ found k) → (lo ≤ k → k ≤ hi → ((v : ℕ) → ¬ Contains listed (k, v)) → found k ≡ 0) → Agrees found (Range t lo hi listed) k
  range_agrees k here nothing v saw = elim (saw.2) [ inl c ↦ here v c | inr w ↦ w.1 ∙ sym (nothing saw.0 saw.1 w.0) ]

  pub listed_wrong : All (λ p. (lo ≤ p.0) × (p.0 ≤ hi)) listed → (key v : ℕ) → Contains listed (key, v) → v ≢ found key → ¬ Agrees found (Range t lo hi listed) key
  listed_wrong within key v c other agrees =
      let w = subst (λ (p : ℕ × ℕ). (lo ≤ p.0) × (p.0 ≤ hi)) c.2 (within c.0 (key, v) c.1) in
      other (agrees v (w.0, w.1, inl c))

  pub unlisted_wrong : (key : ℕ) → lo ≤ key → key ≤ hi → ((v : ℕ) → ¬ Contains listed (key, v)) → found key ≢ 0 → ¬ Agrees found (Range t lo hi listed) key
  unlisted_wrong key low high none other agrees = other (sym (agrees 0 (low, high, inr (none, refl))))

module _ (h : List Event) (found : ℕ → ℕ) where
  -- a write is right at every key but its own
  pub write_right : (t key : ℕ) → MayFollow h key (found key) t → (k : ℕ) → IsRight h found (Write t key) k
  write_right t key f k e = subst (λ n. MayFollow h n (found n) t) (sym e) f

-- where all that is listed is right, the rest decides
pub none_listed_wrong : (found : ℕ → ℕ) (t lo hi : ℕ) (listed : List (ℕ × ℕ)) (r : Option ℕ) → ((k v : ℕ) → Contains listed (k, v) → v ≡ found k)
    → MatchOption r ((k : ℕ) → lo ≤ k → k ≤ hi → ((v : ℕ) → ¬ Contains listed (k, v)) → found k ≡ 0)
    (λ key. (lo ≤ key) × (key ≤ hi) × ((v : ℕ) → ¬ Contains listed (key, v)) × (found key ≢ 0) × ((k : ℕ) → k < key → lo ≤ k → ((v : ℕ) → ¬ Contains listed (k, v)) → found k ≡ 0))
    → MatchOption r ((k : ℕ) → Agrees found (Range t lo hi listed) k) (λ key. ¬ Agrees found (Range t lo hi listed) key × ((k : ℕ) → k < key → Agrees found (Range t lo hi listed) k))
none_listed_wrong found t lo hi listed None here nothing = λ k. range_agrees found t lo hi listed k (here k) (nothing k)
none_listed_wrong found t lo hi listed (Some key) here w = (
  unlisted_wrong found t lo hi listed key w.0 w.1 w.2 w.3,
  λ k l. range_agrees found t lo hi listed k (here k) (λ low high none. w.4 k l low none),
)

-- the lesser of the first wrong key that is listed and the first that isn't
pub least_wrong : (found : ℕ → ℕ) (t lo hi : ℕ) (listed : List (ℕ × ℕ)) (r : Option ℕ) (key least : ℕ) → All (λ p. (lo ≤ p.0) × (p.0 ≤ hi)) listed
    → (v : ℕ) × Contains listed (key, v) × (v ≢ found key) → ((k v : ℕ) → k < key → Contains listed (k, v) → v ≡ found k)
    → MatchOption r ((k : ℕ) → lo ≤ k → k ≤ hi → ((v : ℕ) → ¬ Contains listed (k, v)) → found k ≡ 0)
    (λ key. (lo ≤ key) × (key ≤ hi) × ((v : ℕ) → ¬ Contains listed (key, v)) × (found key ≢ 0) × ((k : ℕ) → k < key → lo ≤ k → ((v : ℕ) → ¬ Contains listed (k, v)) → found k ≡ 0))
    → least ≡ min (unwrap_or r key) key
    → (¬ Agrees found (Range t lo hi listed) least) × ((k : ℕ) → k < least → Agrees found (Range t lo hi listed) k)
least_wrong found t lo hi listed None key least within w before nothing is =
    let same : key ≡ least = omega arith in (
      subst (λ n. ¬ Agrees found (Range t lo hi listed) n) same (listed_wrong found t lo hi listed within key w.0 w.1 w.2),
      λ k l. range_agrees found t lo hi listed k (λ v. before k v (omega arith)) (nothing k),
    )
least_wrong found t lo hi listed (Some other) key least within w before u is =
    let Wrong = λ (n : ℕ). ¬ Agrees found (Range t lo hi listed) n in (
      elim (cases_lt key other) [
        | inl less ↦ let same : key ≡ least = omega arith in subst Wrong same (listed_wrong found t lo hi listed within key w.0 w.1 w.2)
        | inr more ↦ let same : other ≡ least = omega arith in subst Wrong same (unlisted_wrong found t lo hi listed other u.0 u.1 u.2 u.3)
      ],
      λ k l. range_agrees found t lo hi listed k (λ v. before k v (omega arith)) (λ low high none. u.4 k (omega arith) low none),
    )
