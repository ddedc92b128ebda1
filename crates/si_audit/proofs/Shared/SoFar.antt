-- What reads of more keys do to the bounds that the reads before them gave.
use Rattle.std.proofs.Common.{◌≡◌, ◌≢◌, ◌⊎◌, inl, inr, ℕ, ◌+◌, ◌<◌, ◌≤◌, List, refl, sym, subst, ◌∙◌, arith, ◌↔◌, suc, ◌-◌, length, Option, Some, None, ap, MatchOption}
use Rattle.std.proofs.lemmas.Bool.{cases_lt}
use Rattle.sia_events.specs.declared.event.Event.{Event}
use Rattle.sia_events.specs.declared.event.Event.TheVariants.{Commit, Write}
use Rattle.sia_events.specs.NarrowDependencies.{CommitsVersion, IsAsOf, IsNextVersion}
use Rattle.sia_events.specs.Reads.{SawAt}
use Rattle.sia_events.specs.Refusals.{IsWellFormed}
use Rattle.sia_events.specs.Transactions.{Wrote, CommitsAt, IsCommitted}
use Rattle.sia_events.proofs.Shared.Starts.{one_event}
use Rattle.sia_events.proofs.Shared.TransactionDecisions.{place_within}
use Rattle.sia_events.proofs.Writing.Ranges.{one_version}
use Rattle.sia_events.proofs.Writing.WellFormed.{few_events, one_commit}
use Rattle.sia_index.specs.Info.{IsKeyAt}
use Rattle.sia_index.specs.declared.info.KeyVersion.{KeyVersion}
use Rattle.sia_index.specs.Positions.{HasVersionUpTo, IsAtPosition, NoneBehind}
use Rattle.sia_index.proofs.Shared.KeyChains.{key_number}
use Rattle.sia_index.proofs.Shared.Ordered.{ascends}
use Rattle.sia_parts.proofs.Auditing.AsOf.{commit_positive, one_as_of}
use Rattle.sia_parts.proofs.Shared.BadWrites.{made_version}
use Rattle.sia_parts.proofs.Shared.OneNumber.{one_key, one_key_number}
use Rattle.si_audit.specs.Bounds.{IsBound, IsSoFar, Sees, AreSoFar}
use Rattle.si_audit.specs.Snapshots.{Bars, ReadAsks}
use Rattle.si_audit.specs.declared.snapshots.Bound.{Bound}
use Rattle.si_audit.specs.declared.snapshots.Bounds.{Bounds}
use Rattle.sia_events.proofs.OfLaws.Seen.{actor_is_txn, saw_written}
use Rattle.sia_events.specs.Numbering.{names_of, version_at, write_at, writes_of}
use Rattle.sia_parts.proofs.Auditing.LogWrites.{write_wrote}
use Rattle.sia_parts.proofs.Auditing.Positions.{at_as_of}

module _ (Reaches : ℕ → ℕ → Type 0) (unbound : ℕ) (P Q : ℕ → ℕ → ℕ → Type 0) where
  -- what has Q and not P stands behind all that has P, and none of it is beyond the bound
  kept : (b : Bound) → ((c p k : ℕ) → P c p k → Q c p k)
      → ((c p k : ℕ) → Q c p k → P c p k ⊎ (Reaches b.commit c × ¬ Reaches unbound c × ((d q j : ℕ) → P d q j → (q < p) ⊎ ((q ≡ p) × (j ≤ k)))))
      → IsBound Reaches unbound P b → IsBound Reaches unbound Q b
  kept b more either is = grind arith

  -- of what has Q, one is beyond all else
  taken : (b : Bound) → 0 < b.place → Q b.commit b.place b.key
      → ((c p k : ℕ) → Q c p k → Reaches b.commit c × (c ≡ b.commit → (b.place ≡ p) × (b.key ≡ k)))
      → IsBound Reaches unbound Q b
  taken b positive here each = grind arith

module _ (h : List Event) (p : ℕ) where
  key_less : (i j x y : ℕ) → IsKeyAt h i x → IsKeyAt h j y → i < j → x < y
  key_less i j x y at other less =
      let there = key_number h at.0 at.1 j y other in
      grind (arith, ascends)

  behind : (m q r i j k : ℕ) → r ≡ p → m ≤ i → IsSoFar h p m q j → IsKeyAt h i k → (q < r) ⊎ ((q ≡ r) × (j ≤ k))
  behind m q r i j k here most (inl less) at = inl (omega arith)
  behind m q r i j k here most (inr same) at = inr (same.0 ∙ sym here, (let less = key_less same.1 i j k same.2 at (let below = same.3 in omega arith) in omega arith))

  so_far_more : (m n q k : ℕ) → m ≤ n → IsSoFar h p m q k → IsSoFar h p n q k
  so_far_more m n q k le p = grind arith

  so_far_or : (m n q k : ℕ) → IsSoFar h p n q k → IsSoFar h p m q k ⊎ ((q ≡ p) × (i : ℕ) × IsKeyAt h i k × (m ≤ i) × (i < n))
  so_far_or m n q k (inl less) = inl (inl less)
  so_far_or m n q k (inr same) = elim (cases_lt same.1 m) [
    | inl less ↦ inl (inr (same.0, same.1, same.2, less))
    | inr most ↦ inr (same.0, same.1, same.2, most, same.3)
  ]

  module _ (Reaches : ℕ → ℕ → Type 0) (unbound : ℕ) (A : ℕ → ℕ → ℕ → Type 0) (m : ℕ) where
    kept_here : (n : ℕ) (b : Bound) → m ≤ n → ((c i k : ℕ) → m ≤ i → i < n → IsKeyAt h i k → A c p k → Reaches b.commit c × ¬ Reaches unbound c)
        → IsBound Reaches unbound (λ c q k. IsSoFar h p m q k × A c q k) b → IsBound Reaches unbound (λ c q k. IsSoFar h p n q k × A c q k) b
    kept_here n b le near is =
        kept Reaches unbound (λ c q k. IsSoFar h p m q k × A c q k) (λ c q k. IsSoFar h p n q k × A c q k) b
        (λ c q k x. (so_far_more m n q k le x.0, x.1))
        (λ c q k x. elim (so_far_or m n q k x.0) [
          | inl old ↦ inl (old, x.1)
          | inr new ↦
              let reach = near c new.1 k new.3 new.4 new.2 (subst (λ r. A c r k) new.0 x.1) in
              inr (reach.0, reach.1, λ d r j y. behind m r q new.1 j k new.0 new.3 y.0 new.2)
        ])
        is

    taken_here : (old c key : ℕ) → 0 < p → IsKeyAt h m key → A c p key → ((d : ℕ) → A d p key → Reaches c d) → ((d : ℕ) → Reaches old d → Reaches c d × (d ≢ c))
        → ((d q k : ℕ) → IsSoFar h p m q k × A d q k → Reaches old d)
        → IsBound Reaches unbound (λ d q k. IsSoFar h p (m + 1) q k × A d q k) (record { commit = c; place = p; key = key })
    taken_here old c key positive at here most beyond each =
        taken Reaches unbound (λ d q k. IsSoFar h p m q k × A d q k) (λ d q k. IsSoFar h p (m + 1) q k × A d q k) (record { commit = c; place = p; key = key })
        positive
        (inr (refl, m, at, omega arith), here)
        (λ d q k x. elim (so_far_or m (m + 1) q k x.0) [
          | inl old_one ↦ let far = beyond d (each d q k (old_one, x.1)) in (far.0, λ same. absurd (far.1 same))
          | inr new ↦
              let low = new.3 in
              let less = new.4 in
              let number : new.1 ≡ m = omega arith in
              let same : k ≡ key = one_key h m k key (subst (λ i. IsKeyAt h i k) number new.2) at in
              (most d (subst (λ j. A d p j) same (subst (λ r. A d r k) new.0 x.1)), λ e. (sym new.0, sym same))
        ])

-- u's version of k is the next one after place c, and is committed at d
abbrev IsNextAt : List Event → ℕ → ℕ → ℕ → ℕ → Type 0
IsNextAt h k c u d = CommitsVersion h k u d × (c < d) × ((x : ℕ) (e : ℕ) → CommitsVersion h k x e → c < e → d ≤ e)

-- what holds of two numbers holds of the same
same_two : (P : ℕ → ℕ → Type 0) (a b c d : ℕ) → a ≡ b → c ≡ d → P a c → P b d
same_two P a b c d first second is = subst (P b) second (subst (λ n. P n c) first is)

next_at : (h : List Event) → IsWellFormed h → (q : ℕ) (w : KeyVersion) → IsAtPosition h q w → 0 < w.commit → (k c d : ℕ) → IsNextVersion h k c w.txn → d ≡ w.commit → IsNextAt h k c w.txn d
next_at h wf q w at positive k c d next is =
    let same : next.0 ≡ d = one_commit h wf w.txn next.0 w.commit next.1.1 (made_version h q w at positive).1 ∙ sym is in
    subst (λ e. IsNextAt h k c w.txn e) same (next.1, next.2, next.3)

-- the low bound after a version was seen: that version's commit, if it is later
abbrev pub IsLowAfter : ℕ → ℕ → ℕ → Bounds → Bounds → Type 0
IsLowAfter p commit key old new = ((old.low.commit < commit) × (new ≡ record old { low = record { commit = commit; place = p; key = key } })) ⊎ ((commit ≤ old.low.commit) × (new ≡ old))

-- and the high bound: the commit of the next version, if there is one and it is earlier
abbrev pub IsHighAfter : List Event → ℕ → KeyVersion → ℕ → Bounds → Bounds → Type 0
IsHighAfter h p version key old new = ((new ≡ old) × NoneBehind h version.key version.commit)
    ⊎ ((q : ℕ) × (w : KeyVersion) × (d : ℕ) × IsAtPosition h q w × (0 < w.commit) × IsNextVersion h version.key version.commit w.txn × (d ≡ w.commit)
    × (((d < old.high.commit) × (new ≡ record old { high = record { commit = d; place = p; key = key } })) ⊎ ((old.high.commit ≤ d) × (new ≡ old))))

module _ (h : List Event) (wf : IsWellFormed h) (t p : ℕ) where
  pub one_saw : (k v w : ℕ) → SawAt h p t k v → SawAt h p t k w → v ≡ w
  one_saw k v w saw also = grind (arith, one_event, one_version)

  few_commits : (k u c : ℕ) → CommitsVersion h k u c → c ≤ 500000000
  few_commits k u c made = grind (arith, place_within, few_events)

  abbrev LowSo : ℕ → Bound → Type 0
  LowSo m b = IsBound (λ c d. d ≤ c) 0 (λ c q k. IsSoFar h p m q k × ReadAsks h t c q k) b

  abbrev HighSo : ℕ → Bound → Type 0
  HighSo m b = IsBound (λ c d. c ≤ d) 4294967295 (λ c q k. IsSoFar h p m q k × Bars h t c q k) b

  low_kept : (m n : ℕ) (b : Bound) → m ≤ n → ((i k v c : ℕ) → m ≤ i → i < n → IsKeyAt h i k → SawAt h p t k v → v ≢ t → IsAsOf h v c → c ≤ b.commit)
      → LowSo m b → LowSo n b
  low_kept m n b le near is = kept_here h p (λ c d. d ≤ c) 0 (ReadAsks h t) m n b le
      (λ c i k low high at asks. (
        near i k asks.0 c low high at asks.1 asks.2 (inr asks.3),
        λ none. (let positive = commit_positive h wf asks.0 c asks.3 in omega arith),
      ))
      is

  high_kept : (m n : ℕ) (b : Bound) → m ≤ n → ((i k v c u d : ℕ) → m ≤ i → i < n → IsKeyAt h i k → SawAt h p t k v → v ≢ t → IsAsOf h v c → CommitsVersion h k u d → c < d → b.commit ≤ d)
      → HighSo m b → HighSo n b
  high_kept m n b le near is = kept_here h p (λ c d. c ≤ d) 4294967295 (Bars h t) m n b le
      (λ c i k low high at bars. (
        near i k bars.0 bars.1 bars.2 c low high at bars.3 bars.4 bars.5 bars.6 bars.7,
        λ none. (let few = few_commits k bars.2 c bars.6 in omega arith),
      ))
      is

  -- the reads of some keys tell nothing that isn't known
  pub sees_kept : (m n : ℕ) (b : Bounds) → m ≤ n
      → ((i k v c : ℕ) → m ≤ i → i < n → IsKeyAt h i k → SawAt h p t k v → v ≢ t → IsAsOf h v c → (c ≤ b.low.commit) × ((u d : ℕ) → CommitsVersion h k u d → c < d → b.high.commit ≤ d))
      → Sees h t p m p n b b
  sees_kept m n b le near = record {
    misfit = refl;
    never = refl;
    first = refl;
    bounds = λ so. record {
      low = low_kept m n b.low le (λ i k v c first last at saw other is. (near i k v c first last at saw other is).0) so.low;
      high = high_kept m n b.high le (λ i k v c u d first last at saw other is. (near i k v c first last at saw other is).1 u d) so.high;
    };
  }

  -- version 0 was seen of keys of which no version is committed so far that it would be barred
  pub sees_passed : (m n least : ℕ) (b : Bounds) → m ≤ n → b.high.commit ≤ least + 1
      → ((i k : ℕ) → m ≤ i → i < n → IsKeyAt h i k → SawAt h p t k 0) → ((i k : ℕ) → m ≤ i → i < n → IsKeyAt h i k → ¬ HasVersionUpTo h k least)
      → Sees h t p m p n b b
  sees_passed m n least b le most saw none = sees_kept m n b le (λ i k v c first last at seen other is.
      let zero : v ≡ 0 = one_saw k v 0 seen (saw i k first last at) in
      let begin : c ≡ 0 = one_as_of h wf 0 c 0 (subst (λ w. IsAsOf h w c) zero is) (inl (refl, refl)) in (
        omega arith,
        λ u d made late. elim (cases_lt least d) [ inl less ↦ omega arith | inr up ↦ absurd (none i k first last at (u, d, made, up)) ],
      ))

  -- one version of one key was seen
  module _ (m key v commit : ℕ) (at : IsKeyAt h m key) (as_of : IsAsOf h v commit) (other : v ≢ t) (saw : SawAt h p t key v) where
    placed : 0 < p
    placed = (place_within h p saw.0 saw.1).0

    only : (i k w c : ℕ) → m ≤ i → i < m + 1 → IsKeyAt h i k → SawAt h p t k w → IsAsOf h w c → (k ≡ key) × (c ≡ commit)
    only i k w c low less here seen is =
        let number : i ≡ m = omega arith in
        let same : k ≡ key = one_key h m k key (subst (λ j. IsKeyAt h j k) number here) at in
        let version : w ≡ v = one_saw key w v (subst (λ j. SawAt h p t j w) same seen) saw in
        (same, one_as_of h wf v c commit (subst (λ x. IsAsOf h x c) version is) as_of)

    asked : 0 < commit → IsAsOf h v commit → ReadAsks h t commit p key
    asked positive p = grind arith

    abbrev here : ℕ → Bound
    here c = record { commit = c; place = p; key = key }

    low_taken : (b : Bound) → b.commit < commit → LowSo m b → LowSo (m + 1) (here commit)
    low_taken b more is = taken_here h p (λ c d. d ≤ c) 0 (ReadAsks h t) m b.commit commit key placed at
        (asked (omega arith) as_of)
        (λ d asks. (let is_it = (only m key asks.0 d (omega arith) (omega arith) at asks.1 (inr asks.3)).1 in omega arith))
        (λ d most. (omega arith, λ e. omega arith))
        is.each

    low_left : (b : Bound) → commit ≤ b.commit → LowSo m b → LowSo (m + 1) b
    low_left b most is = low_kept m (m + 1) b (omega arith)
        (λ i k w c low less there seen no from. (let is_it = (only i k w c low less there seen from).1 in omega arith)) is

    -- the next version of the key is the first that is barred
    high_taken : (u d : ℕ) → IsNextAt h key commit u d → (b : Bound) → d < b.commit → HighSo m b → HighSo (m + 1) (here d)
    high_taken u d next b less is = taken_here h p (λ c d. c ≤ d) 4294967295 (Bars h t) m b.commit d key placed at
        (v, commit, u, saw, other, as_of, next.0, next.1)
        (λ e bars.
        let begin = (only m key bars.0 bars.1 (omega arith) (omega arith) at bars.3 bars.5).1 in
        let late = bars.7 in
        next.2 bars.2 e bars.6 (omega arith))
        (λ e most. (omega arith, λ same. omega arith))
        is.each

    high_left : (b : Bound) → ((u d : ℕ) → CommitsVersion h key u d → commit < d → b.commit ≤ d) → HighSo m b → HighSo (m + 1) b
    high_left b barred is = high_kept m (m + 1) b (omega arith)
        (λ i k w c u d low less there seen no from made late.
        let one = only i k w c low less there seen from in
        let begin = one.1 in
        barred u d (subst (λ j. CommitsVersion h j u d) one.0 made) (omega arith))
        is

    sees_low : (old mid : Bounds) → IsLowAfter p commit key old mid → (high : Bound) → (HighSo m mid.high → HighSo (m + 1) high) → Sees h t p m p (m + 1) old (record mid { high = high })
    sees_low old mid p high = grind (arith, low_taken, low_left)

  pub sees_version : (m key v commit : ℕ) (version : KeyVersion) → version.key ≡ key → commit ≡ version.commit → IsKeyAt h m key → IsAsOf h v version.commit → v ≢ t → SawAt h p t key v
      → (old mid new : Bounds) → IsLowAfter p commit key old mid → IsHighAfter h p version key mid new → Sees h t p m p (m + 1) old new
  sees_version m key v commit version key_is is at as_of other saw old mid new low (inl none) =
      let now = subst (IsAsOf h v) (sym is) as_of in
      let last = same_two (NoneBehind h) version.key key version.commit commit key_is (sym is) none.1 in
      subst (Sees h t p m p (m + 1) old) (sym none.0) (sees_low m key v commit at now other saw old mid low mid.high
      (high_left m key v commit at now other saw mid.high (λ u d made late. let most = last u d made in absurd (omega arith))))
  sees_version m key v commit version key_is is at as_of other saw old mid new low (inr next) =
      let now = subst (IsAsOf h v) (sym is) as_of in
      let w = next.1 in
      let d = next.2 in
      let there = next_at h wf next.0 w next.3 next.4 key commit d (same_two (λ k n. IsNextVersion h k n w.txn) version.key key version.commit commit key_is (sym is) next.5) next.6 in
      elim next.7 [
        | inl less ↦ subst (Sees h t p m p (m + 1) old) (sym less.1) (sees_low m key v commit at now other saw old mid low (record { commit = d; place = p; key = key })
            (high_taken m key v commit at now other saw w.txn d there mid.high less.0))
        | inr most ↦ subst (Sees h t p m p (m + 1) old) (sym most.1) (sees_low m key v commit at now other saw old mid low mid.high
            (high_left m key v commit at now other saw mid.high (λ u e made late. let least = there.2 u e made late in let under = most.0 in omega arith)))
      ]

-- ---- What is known of a transaction's snapshots goes on from one number of a key to another, and stays where it sees no written key.

pub bound_alike : (Reaches : ℕ → ℕ → Type 0) (unbound : ℕ) (P Q : ℕ → ℕ → ℕ → Type 0) → ((c p k : ℕ) → P c p k → Q c p k) → ((c p k : ℕ) → Q c p k → P c p k) → (b : Bound) → IsBound Reaches unbound P b → IsBound Reaches unbound Q b
bound_alike Reaches unbound P Q to from b is = grind arith

module _ (h : List Event) (wf : IsWellFormed h) (t : ℕ) where
  -- what asks for a commit or bars one saw a written key
  read_wrote : (c p k : ℕ) → ReadAsks h t c p k → (v u : ℕ) × SawAt h p t k v × Wrote h u k
  read_wrote c p k r =
      let is = (actor_is_txn h wf r.0 c (Commit r.0, r.3, refl)).0 in
      let before = saw_written h wf p t k r.0 r.1 (λ zero. absurd (omega arith)) in
      (r.0, r.0, r.1, (before.0, before.2))

  pub far_alike : (p m q n : ℕ) → ((r k v u : ℕ) → SawAt h r t k v → Wrote h u k → IsSoFar h p m r k ↔ IsSoFar h q n r k) → (b : Bounds) → AreSoFar h t p m b → AreSoFar h t q n b
  far_alike p m q n alike b are = record {
    low = bound_alike (λ c d. d ≤ c) 0 (λ c r k. IsSoFar h p m r k × ReadAsks h t c r k) (λ c r k. IsSoFar h q n r k × ReadAsks h t c r k)
        (λ c r k w. (let s = read_wrote c r k w.1 in ((alike r k s.0 s.1 s.2 s.3).0 w.0, w.1)))
        (λ c r k w. (let s = read_wrote c r k w.1 in ((alike r k s.0 s.1 s.2 s.3).1 w.0, w.1)))
        b.low are.low;
    high = bound_alike (λ c d. c ≤ d) 4294967295 (λ c r k. IsSoFar h p m r k × Bars h t c r k) (λ c r k. IsSoFar h q n r k × Bars h t c r k)
        (λ c r k w. (let s = w.1 in ((alike r k s.0 s.2 s.3 s.6.0).0 w.0, s)))
        (λ c r k w. (let s = w.1 in ((alike r k s.0 s.2 s.3 s.6.0).1 w.0, s)))
        b.high are.high;
  }

  pub sees_then : (p m q n r o : ℕ) (old mid new : Bounds) → Sees h t p m q n old mid → Sees h t q n r o mid new → Sees h t p m r o old new
  sees_then p m q n r o old mid new a b = grind arith

  sees_alike : (p m q n : ℕ) → ((r k v u : ℕ) → SawAt h r t k v → Wrote h u k → IsSoFar h p m r k ↔ IsSoFar h q n r k) → (b : Bounds) → Sees h t p m q n b b
  sees_alike p m q n alike b = record { misfit = refl; never = refl; first = refl; bounds = far_alike p m q n alike b }

  -- at place p no written key is seen
  pub sees_none : (p : ℕ) → ((k v u : ℕ) → SawAt h p t k v → ¬ Wrote h u k) → (b : Bounds) → Sees h t p 0 (p + 1) 0 b b
  sees_none p none b = sees_alike p 0 (p + 1) 0 (λ r k v u saw wrote. (
    (λ w. elim w [ inl less ↦ inl (omega arith) | inr here ↦ absurd (let low = here.3 in omega arith) ]),
    (λ w. elim w [
      | inl less ↦ elim (cases_lt r p) [ inl before ↦ inl before | inr after ↦ absurd (none k v u (subst (λ x. SawAt h x t k v) (omega arith) saw) wrote) ]
      | inr here ↦ absurd (let low = here.3 in omega arith)
    ]),
  )) b

  -- the written keys that are seen at place p have numbers from first to before end
  pub sees_place : (p first end : ℕ) → ((k v u : ℕ) → SawAt h p t k v → Wrote h u k → (i : ℕ) × IsKeyAt h i k × (first ≤ i) × (i < end)) → (old new : Bounds) → Sees h t p first p end old new → Sees h t p 0 (p + 1) 0 old new
  sees_place p first end inside old new sees = sees_then p 0 p first (p + 1) 0 old old new (sees_alike p 0 p first before old) (sees_then p first p end (p + 1) 0 old new new sees (sees_alike p end (p + 1) 0 behind new))
    where
      before : (r k v u : ℕ) → SawAt h r t k v → Wrote h u k → IsSoFar h p 0 r k ↔ IsSoFar h p first r k
      before r k v u saw wrote = (
        (λ w. elim w [ inl less ↦ inl less | inr here ↦ absurd (let low = here.3 in omega arith) ]),
        (λ w. elim w [
          | inl less ↦ inl less
          | inr here ↦ absurd
              (let i = inside k v u (subst (λ x. SawAt h x t k v) here.0 saw) wrote in
              let same = one_key_number h i.0 here.1 k i.1 here.2 in
              grind arith)
        ]),
      )

      behind : (r k v u : ℕ) → SawAt h r t k v → Wrote h u k → IsSoFar h p end r k ↔ IsSoFar h (p + 1) 0 r k
      behind r k v u saw wrote = (
        (λ w. elim w [ inl less ↦ inl (omega arith) | inr here ↦ (let same = here.0 in inl (omega arith)) ]),
        (λ w. elim w [
          | inl less ↦ elim (cases_lt r p) [
            | inl under ↦ inl under
            | inr after ↦
                let same : r ≡ p = omega arith in
                let i = inside k v u (subst (λ x. SawAt h x t k v) same saw) wrote in
                inr (same, i.0, i.1, i.3)
          ]
          | inr here ↦ absurd (let low = here.3 in omega arith)
        ]),
      )

-- ---- Where the version stands that was seen by a read of a written key.

-- version v of k stands at the position and isn't t's own, or it is that or is as of no place
abbrev pub IsStanding : List Event → ℕ → ℕ → ℕ → Option ℕ → Type 0
IsStanding h t k v position = MatchOption position ((c : ℕ) → v ≢ t → ¬ IsAsOf h v c) (λ q. (version : KeyVersion) × IsAtPosition h q version × (version.key ≡ k) × IsAsOf h v version.commit × (v ≢ t))

module _ (h : List Event) (wf : IsWellFormed h) (t k write : ℕ) where
  -- version 0 stands first
  stands_first : (p i q : ℕ) → write ≡ 0 → IsKeyAt h i k → SawAt h p t k (version_at (names_of h) write)
      → (version : KeyVersion) × IsAtPosition h q version × IsKeyAt h i version.key × (version.commit ≡ 0)
      → IsStanding h t k (version_at (names_of h) write) (Some q)
  stands_first p i q none at saw first =
      let zero : version_at (names_of h) write ≡ 0 = ap (version_at (names_of h)) none in
      let positive = (actor_is_txn h wf t p (saw.0, saw.1, saw.2)).0 in
      (first.0, first.1, one_key h i first.0.key k first.2 at, inl (zero, first.3), λ same. omega arith)

  -- and that of a write where the write's does
  stands_written : 0 < write → write ≤ length (writes_of h) → (write_at (names_of h) (write - 1)).0 ≡ k → version_at (names_of h) write ≢ t → (position : Option ℕ)
      → MatchOption position (¬ IsCommitted h (write_at (names_of h) (write - 1)).1) (λ q. (version : KeyVersion) × IsAtPosition h q version
      × (version.key ≡ (write_at (names_of h) (write - 1)).0) × (version.txn ≡ (write_at (names_of h) (write - 1)).1) × (0 < version.commit))
      → IsStanding h t k (version_at (names_of h) write) position
  stands_written some bound key other position there =
      let next : suc (write - 1) ≡ write = omega arith in
      of_position (ap (version_at (names_of h)) next) position there
    where
      of_position : (write_at (names_of h) (write - 1)).1 ≡ version_at (names_of h) write → (position : Option ℕ)
          → MatchOption position (¬ IsCommitted h (write_at (names_of h) (write - 1)).1) (λ q. (version : KeyVersion) × IsAtPosition h q version
          × (version.key ≡ (write_at (names_of h) (write - 1)).0) × (version.txn ≡ (write_at (names_of h) (write - 1)).1) × (0 < version.commit))
          → IsStanding h t k (version_at (names_of h) write) position
      of_position same None none = λ c _ is. elim is [
        | inl zero ↦
            let wrote = write_wrote h write some bound in
            let positive = (actor_is_txn h wf (write_at (names_of h) (write - 1)).1 wrote.0 (Write (write_at (names_of h) (write - 1)).1 (write_at (names_of h) (write - 1)).0, wrote.1, refl)).0 in
            grind arith
        | inr commits ↦ none (c, subst (λ u. CommitsAt h u c) (sym same) commits)
      ]
      of_position same (Some q) at =
          (at.0, at.1, at.2 ∙ key, subst (λ u. IsAsOf h u at.0.commit) (at.3 ∙ same) (at_as_of h q at.0 at.1), other)

  -- one of three: version 0 of key number i, a version of its own, or that of a write
  abbrev pub IsFound : ℕ → Option ℕ → Type 0
  IsFound i position = ((write ≡ 0) × (q : ℕ) × ((version : KeyVersion) × IsAtPosition h q version × IsKeyAt h i version.key × (version.commit ≡ 0)) × (position ≡ Some q))
      ⊎ ((position ≡ None) × (r : ℕ) × (r ≡ version_at (names_of h) write) × (r ≡ t))
      ⊎ ((write ≢ 0) × (r : ℕ) × (r ≡ version_at (names_of h) write) × (r ≢ t) × (there : Option ℕ) × (position ≡ there)
      × MatchOption there (¬ IsCommitted h (write_at (names_of h) (write - 1)).1) (λ q. (version : KeyVersion) × IsAtPosition h q version
      × (version.key ≡ (write_at (names_of h) (write - 1)).0) × (version.txn ≡ (write_at (names_of h) (write - 1)).1) × (0 < version.commit)))

  pub stands_at : (p i : ℕ) → write ≤ length (writes_of h) → IsKeyAt h i k → (0 < write → (write_at (names_of h) (write - 1)).0 ≡ k) → SawAt h p t k (version_at (names_of h) write)
      → (position : Option ℕ) → IsFound i position → IsStanding h t k (version_at (names_of h) write) position
  stands_at p i bound at key saw position (inl zero) = subst (IsStanding h t k (version_at (names_of h) write)) (sym zero.3) (stands_first p i zero.1 zero.0 at saw zero.2)
  stands_at p i bound at key saw position (inr (inl own)) = subst (IsStanding h t k (version_at (names_of h) write)) (sym own.0) (λ c other. absurd (other (sym own.2 ∙ own.3)))
  stands_at p i bound at key saw position (inr (inr made)) = grind (arith, stands_written)

  -- what stands nowhere tells nothing
  pub sees_nothing : (p n : ℕ) → IsKeyAt h n k → SawAt h p t k (version_at (names_of h) write) → IsStanding h t k (version_at (names_of h) write) None → (b : Bounds) → Sees h t p n p (n + 1) b b
  sees_nothing p n at saw none b = sees_kept h wf t p n (n + 1) b (omega arith) (λ i j u c low less here seen other is.
      let number : i ≡ n = omega arith in
      let same : j ≡ k = one_key h n j k (subst (λ m. IsKeyAt h m j) number here) at in
      let version : u ≡ version_at (names_of h) write = one_saw h wf t p k u (version_at (names_of h) write) (subst (λ l. SawAt h p t l u) same seen) saw in
      absurd (none c (λ own. other (version ∙ own)) (subst (λ x. IsAsOf h x c) version is)))

-- what the sight of a version that a write made does to the bounds
abbrev pub Puts : ℕ → ℕ → ℕ → ℕ → Bounds → Bounds → List Event → Type 0
Puts t p n write old new h = (k : ℕ) → IsKeyAt h n k → (0 < write → (write_at (names_of h) (write - 1)).0 ≡ k) → SawAt h p t k (version_at (names_of h) write) → Sees h t p n p (n + 1) old new
