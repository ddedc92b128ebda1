-- Where the walks over versions may stop: the least start of who made a version or a later one, and the last commit of who saw one
-- or an earlier one.
use Rattle.std.proofs.Common.{◌≡◌, inl, inr, ℕ, ◌+◌, ◌<◌, ◌≤◌, List, [], ◌∷◌, ◌++◌, length, get_or, max, min, replicate, set, take, ap, sym, subst, ◌∙◌, arith}
use Rattle.std.specs.Prelude.{◌↔◌, Contains, slice_index, slice_index_or}
use Rattle.std.proofs.lemmas.Bool.{cases_eq, cases_lt}
use Rattle.std.proofs.lemmas.List.{get_or-append-add, get_or-replicate, get_or-set_other, get_or-set_same, get_or-take, get_or_append_left, get_or_default, length-append, length-replicate, length-set, length-take, take_more}
use Rattle.std.proofs.lemmas.List.Elements.{Contains-push_cases}
use Rattle.sia_events.specs.declared.event.Event.{Event}
use Rattle.sia_events.specs.Refusals.{IsWellFormed}
use Rattle.sia_events.specs.Transactions.{CommitsAt, StartsAt}
use Rattle.sia_events.proofs.Shared.Starts.{one_start}
use Rattle.sia_events.proofs.Writing.WellFormed.{one_commit}
use Rattle.sia_index.specs.declared.info.KeyVersion.{KeyVersion}
use Rattle.sia_index.specs.Numbers.{IsCommittedAt}
use Rattle.sia_index.specs.Positions.{AreMakersBehind, ArePositions, IsAtPosition}
use Rattle.sia_parts.specs.EdgeRows.{HasReading, IsOfKey}
use Rattle.sia_parts.specs.Sights.{FromSome}
use Rattle.sia_parts.proofs.EdgeRows.PositionOrder.{ascends_at, between_of_key, has_position, one_key_of, one_version, position_below}
use Rattle.sia_parts.proofs.Shared.Adding.{FromFirst}
use Rattle.sia_parts.proofs.Shared.OneNumber.{one_committed as one_txn_at}
use Rattle.sia_graph.specs.declared.neighbours.Neighbour.{Neighbour}
use Rattle.sia_graph.specs.declared.neighbours.Neighbours.{Neighbours}
use Rattle.sia_graph.specs.Found.{AreFirstStarts, AreLastCommits, CanFind}
use Rattle.sia_graph.proofs.OfNeighbours.Lookers.{IsLookRow}
use Rattle.sia_graph.proofs.OfPivots.Outs.{OverlapsMaker}

-- the first n of a list give what all give, where none behind gives anything
pub first_stop : {A B : Type 0} (P : A → B → Type 0) (xs : List A) (n : ℕ) (d : A) → ((k : ℕ) (j : B) → n ≤ k → k < length xs → ¬ P (get_or xs k d) j) → (j : B) → FromFirst P xs n j ↔ FromSome P xs j
first_stop P xs n d none j = (
  (λ f.
      let c = f.1 in
      let long = length-take n xs in
      let before : c.0 < n = (let b = c.1 in omega arith) in
      (f.0, (c.0, (let b = c.1 in omega arith), sym (get_or-take n xs c.0 f.0 before) ∙ c.2), f.2)),
  (λ f.
      let c = f.1 in
      elim (cases_lt c.0 n) [
        | inl before ↦ (f.0, (c.0, (let b = c.1 in omega (arith, length-take n xs)), get_or-take n xs c.0 f.0 before ∙ c.2), f.2)
        | inr behind ↦ absurd (none c.0 j behind c.1 (subst (λ x. P x j) (sym c.2 ∙ get_or_default xs c.0 f.0 d c.1) f.2))
      ]),
)

module _ (h : List Event) where
  -- what stands between two versions of a key, or at the later one, is one of them that commits
  pub key_between : (p m q : ℕ) (v x w : KeyVersion) → IsAtPosition h p v → IsAtPosition h m x → IsAtPosition h q w → w.key ≡ v.key → p < m → m ≤ q → v.commit < x.commit
  key_between p m q v x w at there end same less le = elim (ascends_at h p m v x at there less) [
    | inr both ↦ both.1
    | inl under ↦ elim (cases_lt m q) [
      | inl before ↦ elim (ascends_at h m q x w there end before) [ inl above ↦ absurd (omega arith) | inr e ↦ absurd (let f = e.0 in omega arith) ]
      | inr most ↦
          let here : q ≡ m = omega arith in
          let e = ap (λ (y : KeyVersion). y.key) (one_version h m x w there (subst (λ n. IsAtPosition h n w) here end)) in
          absurd (omega arith)
    ]
  ]

  -- no version from position i on, of the key of one before it, has a maker that starts before `least`
  abbrev pub StartFrom : ℕ → ℕ → Type 0
  StartFrom i least = (p q s : ℕ) (v w : KeyVersion) → IsAtPosition h p v → IsAtPosition h q w → w.key ≡ v.key → p < i → i ≤ q → StartsAt h w.txn s → least ≤ s

  pub starts_end : (count i least : ℕ) → ArePositions h count → count ≤ i → StartFrom i least
  starts_end count i least are past p q s v w at end same less le starts = absurd (let below = position_below h count q w are end in omega arith)

  pub starts_none : (count : ℕ) → ArePositions h count → (starts : List ℕ) → starts ≡ replicate count 0 → AreFirstStarts h starts
  starts_none count are starts is = record {
    long = subst (ArePositions h) (sym (ap (length {A = ℕ}) is ∙ length-replicate count 0)) are;
    first = λ p q s v w at end same le st. (let zero = ap (λ (xs : List ℕ). slice_index xs p) is ∙ get_or-replicate count p 0 0 (position_below h count p v are at) in omega arith);
  }

  -- version 0 is the first of its key
  pub starts_zero : (i least : ℕ) (x : KeyVersion) → IsAtPosition h i x → x.commit ≡ 0 → StartFrom i least
  starts_zero i least x there zero p q s v w at end same less le st = absurd (let more = key_between p i q v x w at there end same less le in omega arith)

  module _ (i least start new : ℕ) (x : KeyVersion) (there : IsAtPosition h i x) (starts_at : StartsAt h x.txn start) (is : new ≡ min least start) (later : StartFrom (i + 1) least) where
    from_here : (p q s : ℕ) (v w : KeyVersion) → IsAtPosition h p v → IsAtPosition h q w → w.key ≡ v.key → p ≤ i → i ≤ q → StartsAt h w.txn s → new ≤ s
    from_here p q s v w at end same before le st = elim (cases_lt i q) [
      | inl behind ↦ (let most = later p q s v w at end same (omega arith) (omega arith) st in omega arith)
      | inr most ↦
          let here : q ≡ i = omega arith in
          let one = ap (λ (y : KeyVersion). y.txn) (one_version h i x w there (subst (λ n. IsAtPosition h n w) here end)) in
          let own = one_start h x.txn start s starts_at (subst (λ t. StartsAt h t s) (sym one) st) in
          omega arith
    ]

    pub starts_next : StartFrom i new
    starts_next p q s v w at end same less le st = from_here p q s v w at end same (omega arith) le st

    pub starts_set : (starts : List ℕ) → AreFirstStarts h starts → AreFirstStarts h (set starts i new)
    starts_set starts are = record {
      long = subst (ArePositions h) (sym (length-set starts i new)) are.long;
      first = λ p q s v w at end same le st. elim (cases_eq p i) [
        | inl here ↦
            let value = ap (λ n. slice_index (set starts i new) n) here ∙ get_or-set_same starts i new 0 (position_below h (length starts) i x are.long there) in
            let most = from_here p q s v w at end same (omega arith) (omega arith) st in
            omega arith
        | inr other ↦ (let value = get_or-set_other starts i p new 0 other in let most = are.first p q s v w at end same le st in omega arith)
      ];
    }

  module _ (looks : List (List ℕ)) where
    -- who is noted before position i, at the key of one from it on, commits up to `last`
    abbrev pub CommitBefore : ℕ → ℕ → Type 0
    CommitBefore i last = (p q u t c : ℕ) (v w : KeyVersion) → IsAtPosition h p v → IsAtPosition h q w → w.key ≡ v.key → q < i → i ≤ p → HasReading looks q u → IsCommittedAt h u t → CommitsAt h t c → c ≤ last

    -- the numbers at the first n positions are as they should be
    abbrev pub AreLastTo : ℕ → List ℕ → Type 0
    AreLastTo n ends = (length ends ≡ n)
        × ((p q u t c : ℕ) (v w : KeyVersion) → IsAtPosition h p v → IsAtPosition h q w → w.key ≡ v.key → q ≤ p → p < n → HasReading looks q u → IsCommittedAt h u t → CommitsAt h t c → c ≤ slice_index ends p)

    -- those who are noted at position i and are among these commit up to `last`
    abbrev pub CommitAmong : List ℕ → ℕ → Type 0
    CommitAmong these last = (u t c : ℕ) → Contains these u → IsCommittedAt h u t → CommitsAt h t c → c ≤ last

    -- one more of them
    pub among_more : IsWellFormed h → (xs : List ℕ) (n : ℕ) → n < length xs → (last commit new t : ℕ) → new ≡ max last commit → IsCommittedAt h (get_or xs n 0) t → CommitsAt h t commit → CommitAmong (take n xs) last → CommitAmong (take (n + 1) xs) new
    among_more wf xs n below last commit new t is at commits before u s c d has other = elim (Contains-push_cases (take n xs) (get_or xs n 0) u (subst (λ ys. Contains ys u) (take_more xs n 0 below) d)) [
      | inl first ↦ (let most = before u s c first has other in omega arith)
      | inr same ↦
          let own = one_txn_at h u s t has (subst (λ m. IsCommittedAt h m t) same at) in
          let e = one_commit h wf t c commit (subst (λ x. CommitsAt h x c) own other) commits in
          omega arith
    ]

    -- version 0 is the first of its key
    pub commits_zero : (i last : ℕ) (x : KeyVersion) → IsAtPosition h i x → x.commit ≡ 0 → CommitBefore i last
    commits_zero i last x there zero p q u t c v w at end same less le noted has commits = absurd (let more = key_between q i p w x v end there at (sym same) less le in omega arith)

    module _ (i old last : ℕ) (before : CommitBefore i old) (most : old ≤ last) (here : CommitAmong (slice_index_or looks i []) last) where
      up_to_here : (p q u t c : ℕ) (v w : KeyVersion) → IsAtPosition h p v → IsAtPosition h q w → w.key ≡ v.key → q ≤ i → i ≤ p → HasReading looks q u → IsCommittedAt h u t → CommitsAt h t c → c ≤ last
      up_to_here p q u t c v w at end same le from noted has commits = elim (cases_lt q i) [
        | inl less ↦ (let first = before p q u t c v w at end same less from noted has commits in omega arith)
        | inr last_one ↦ let is : q ≡ i = omega arith in here u t c (subst (λ n. HasReading looks n u) is noted) has commits
      ]

      pub commits_next : CommitBefore (i + 1) last
      commits_next p q u t c v w at end same less le noted has commits = up_to_here p q u t c v w at end same (omega arith) (omega arith) noted has commits

      pub commits_push : (ends : List ℕ) → AreLastTo i ends → AreLastTo (i + 1) (ends ++ last ∷ [])
      commits_push ends are = (
        (let long = are.0 in omega (arith, length-append ends (last ∷ []))),
        (λ p q u t c v w at end same le less noted has commits. elim (cases_lt p i) [
          | inl under ↦ (let long = are.0 in let value = get_or_append_left ends (last ∷ []) 0 p (omega arith) in let first = are.1 p q u t c v w at end same le under noted has commits in omega arith)
          | inr over ↦
              let long = are.0 in
              let is : p ≡ length ends + 0 = omega arith in
              let value = ap (λ n. slice_index (ends ++ last ∷ []) n) is ∙ get_or-append-add ends (last ∷ []) 0 0 in
              let first = up_to_here p q u t c v w at end same (omega arith) (omega arith) noted has commits in
              omega arith
        ]),
      )

    pub commits_all : (ends : List ℕ) → (n : ℕ) → length looks ≤ n → n ≤ length looks → ArePositions h (length looks) → AreLastTo n ends → AreLastCommits h looks ends
    commits_all ends n most within are is = record {
      long = (let long = is.0 in omega arith);
      last = λ p q u t c v w at end same le noted has commits. is.1 p q u t c v w at end same le (let below = position_below h (length looks) p v are at in omega arith) noted has commits;
    }

-- number i, which is that of t
module _ (n : Neighbours) (can : CanFind n) (i t : ℕ) (at : IsCommittedAt n.evidence.index.now i t) where
  abbrev h : List Event
  h = n.evidence.index.now

  -- the makers from one on start when number i has committed
  pub makers_late : (commit : ℕ) → CommitsAt h t commit → (q : ℕ) (v : KeyVersion) (makers : List ℕ) → AreMakersBehind h q v makers → (m : ℕ) → m < length makers → commit ≤ slice_index n.starts.items (q + 1 + m)
      → (k j : ℕ) → m ≤ k → k < length makers → ¬ OverlapsMaker h i (get_or makers k 0) j
  makers_late commit commits q v makers behind m below late k j from within (is, other, o) =
      let first = behind.each m 0 below in
      let w = behind.each k 0 within in
      let own = one_txn_at h j o.1 w.0.txn o.3 (subst (λ x. IsCommittedAt h x w.0.txn) (sym is) w.4) in
      let mine = one_txn_at h i o.0 t o.2 at in
      let starts = o.4.1 in
      let least = can.starts.first (q + 1 + m) (q + 1 + k) starts.0 first.0 w.0 first.1 w.1 (w.2 ∙ sym first.2) (omega arith) (subst (λ u. StartsAt h u starts.0) own starts.2) in
      let same = one_commit h can.evidence.well_formed t starts.1 commit (subst (λ u. CommitsAt h u starts.1) mine starts.3) commits in
      let less = starts.4 in
      omega arith

  -- who saw a version of the key up to that at position q committed before number i started
  pub lookers_late : (start : ℕ) → StartsAt h t start → (j from q to : ℕ) → IsOfKey h j from → IsOfKey h j to → from ≤ q → q < to → slice_index n.ends.items q ≤ start
      → (p : ℕ) (row : Neighbour) → from ≤ p → p < q + 1 → ¬ FromSome (IsLookRow n i) (slice_index_or n.looks.now p []) row
  lookers_late start starts j from q to first last low high early p row over under (look, c, is) =
      let count = length n.looks.now in
      let end = position_below h count to last.version can.looks.long last.at in
      let here = between_of_key h j from q to first last low (omega arith) (has_position h count q can.looks.long (omega arith)) in
      let there = between_of_key h j from p to first last over (omega arith) (has_position h count p can.looks.long (omega arith)) in
      let o = is.2 in
      let mine = one_txn_at h i o.0 t o.2 at in
      let before = o.4.0 in
      let most = can.ends.last q p look o.1 before.1 here.version there.version here.at there.at (one_key_of h j p q there here) (omega arith) c o.3 before.3 in
      let same = one_start h t before.0 start (subst (λ u. StartsAt h u before.0) mine before.2) starts in
      let less = before.4 in
      omega arith
