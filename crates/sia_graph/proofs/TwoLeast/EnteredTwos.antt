-- Who passed over keys, by blocks of these: what stands with some block over a key.
-- Numbers of transactions that are entered at places, transaction by transaction, and the two least at each.
use Rattle.std.proofs.Common.{◌≡◌, ◌≢◌, ◌⊎◌, inl, inr, ℕ, ◌+◌, ◌*◌, ◌/◌, ◌^◌, ◌<◌, ◌≤◌, List, ◌∷◌, [], ◌++◌, length, get_or, set, map, take, min, append_assoc, subst, sym, ap, ◌∙◌, arith, Bool, replicate}
use Rattle.std.specs.Prelude.{◌↔◌, Contains, ⊤}
use Rattle.std.proofs.Math.Seq.{take-append_seam}
use Rattle.std.proofs.lemmas.Bool.{cases_lt, cases_eq, false≢true}
use Rattle.std.proofs.lemmas.List.{map_more, get_or-replicate, get_or-set_other, get_or-set_same, get_or_past, length-replicate, length-set}
use Rattle.std.proofs.lemmas.List.Elements.{Contains-append_left, Contains-append_right, Contains-append_cases, Contains-push, Contains-push_cases}
use Rattle.sia_graph.specs.KeyBlocks.{IsUnderSome}
use Rattle.sia_graph.specs.Twos.{AreTwosOf, AreTwosOver, IsLeastNumber, IsWith, IsLeftMaker, IsLeftPasser, IsLeftReader, IsTwo, IsUpTo}
use Rattle.sia_graph.specs.declared.twos.Two.{Two}
use Rattle.sia_graph.proofs.SparseGraphs.KeyBlocks.{half_over, lower_over, one_block}
use Rattle.sia_graph.proofs.Shared.LeastNumbers.{least_either, least_none, least_same, other_of, two_none, two_merged, two_same}
use Rattle.sia_graph.proofs.OfPivots.ListedAs.{mapped}
use Rattle.sia_graph.proofs.Shared.EarlierSources.{put_one, up_to_first, up_to_next}
use Rattle.sia_events.specs.declared.event.Event.{Event}
use Rattle.sia_events.specs.Lists.{ListsAscending}
use Rattle.sia_events.specs.NarrowDependencies.{IsNextVersion}
use Rattle.sia_events.specs.Refusals.{IsWellFormed}
use Rattle.sia_index.specs.Numbers.{IsCommittedAt}
use Rattle.sia_index.specs.Positions.{IsAtPosition}
use Rattle.sia_index.specs.declared.info.KeyVersion.{KeyVersion}
use Rattle.sia_parts.specs.Accesses.{AreAccesses}
use Rattle.sia_parts.specs.declared.accesses.Accesses.{Accesses}
use Rattle.sia_parts.specs.declared.accesses.RangeMiss.{RangeMiss}
use Rattle.sia_graph.specs.Passed.{IsHeldBy}
use Rattle.sia_graph.specs.Previous.{IsLeftIn}
use Rattle.sia_graph.proofs.Shared.AccessLists.{missed_is, saw_is}
use Rattle.sia_parts.proofs.Shared.OneNumber.{one_committed as one_txn_at}

-- what was written over a whole list
pub refilled : {A : Type 0} (new rest : List A) (n : ℕ) → length new ≡ n → take n (new ++ rest) ≡ new
refilled new rest n long = ap (λ m. take m (new ++ rest)) (sym long) ∙ take-append_seam new rest

abbrev pub At : List (ℕ × ℕ) → ℕ → ℕ → Type 0
At entries block r = Contains entries (block, r)

-- one block more of a number
pub entries_more : (entries : List (ℕ × ℕ)) (blocks : List ℕ) (i n : ℕ) → n < length blocks
    → entries ++ map (λ b. (b, i)) (take (n + 1) blocks) ≡ (entries ++ map (λ b. (b, i)) (take n blocks)) ++ (get_or blocks n 0, i) ∷ []
entries_more entries blocks i n l = ap (λ xs. entries ++ xs) (map_more (λ (b : ℕ). (b, i)) blocks n 0 l) ∙ sym (append_assoc entries (map (λ b. (b, i)) (take n blocks)) ((get_or blocks n 0, i) ∷ []))

pub entry_put : (entries : List (ℕ × ℕ)) (nodes : List Two) (block i : ℕ) (d new : Two) → block < length nodes → i < 4294967295 → ((b r : ℕ) → At entries b r → r < 4294967295)
    → IsWith (get_or nodes block d) i new → AreTwosOf (At entries) nodes → AreTwosOf (At (entries ++ (block, i) ∷ [])) (set nodes block new)
entry_put entries nodes block i d new below few all with are =
    put_one (At entries) (At (entries ++ (block, i) ∷ [])) nodes block i d new below few with all
    (λ b r c. Contains-append_left entries ((block, i) ∷ []) (b, r) c) (Contains-push entries (block, i))
    (λ b r c. elim (Contains-push_cases entries (block, i) (b, r) c) [
      | inl old ↦ inl old
      | inr e ↦ inr (ap (λ (x : ℕ × ℕ). x.0) (sym e), ap (λ (x : ℕ × ℕ). x.1) (sym e))
    ])
    are

pub entries_few : (entries : List (ℕ × ℕ)) (blocks : List ℕ) (i : ℕ) → i < 4294967295 → ((b r : ℕ) → At entries b r → r < 4294967295)
    → (b r : ℕ) → At (entries ++ map (λ b. (b, i)) blocks) b r → r < 4294967295
entries_few entries blocks i few all b r c = elim (Contains-append_cases entries (map (λ b. (b, i)) blocks) (b, r) c) [
  | inl old ↦ all b r old
  | inr added ↦ let from = (mapped (λ (b : ℕ). (b, i)) blocks (b, r)).0 added in let e : i ≡ r = ap (λ (x : ℕ × ℕ). x.1) from.2 in omega arith
]

-- what is entered then
pub entry_cases : (entries : List (ℕ × ℕ)) (places : List ℕ) (i place r : ℕ) → At (entries ++ map (λ b. (b, i)) places) place r ↔ (At entries place r ⊎ ((r ≡ i) × Contains places place))
entry_cases entries places i place r =
    let more : List (ℕ × ℕ) = map (λ (b : ℕ). (b, i)) places in (
      (λ has. elim (Contains-append_cases entries more (place, r) has) [
        | inl old ↦ inl old
        | inr added ↦ let x = (mapped (λ (b : ℕ). (b, i)) places (place, r)).0 added in inr (sym (ap (λ (y : ℕ × ℕ). y.1) x.2), subst (λ b. Contains places b) (ap (λ (y : ℕ × ℕ). y.0) x.2) x.1)
      ]),
      (λ w. elim w [
        | inl old ↦ Contains-append_left entries more (place, r) old
        | inr x ↦ Contains-append_right entries more (place, r) ((mapped (λ (b : ℕ). (b, i)) places (place, r)).1 (place, x.1, ap (λ (n : ℕ). (place, n)) (sym x.0)))
      ]),
    )

-- some keys that number i passed over, beside what is there
pub over_more : (P : ℕ → ℕ → Type 0) (Held : ℕ → Type 0) (size i : ℕ) (nodes new : List Two) (blocks : List ℕ) → i < 4294967295
    → ((j : ℕ) → j < size → IsUnderSome size blocks j ↔ Held j)
    → ((b : ℕ) → Contains blocks b → (0 < b) × (b < length new)) → length nodes ≡ length new
    → ((entries : List (ℕ × ℕ)) → ((b r : ℕ) → At entries b r → r < 4294967295) → AreTwosOf (At entries) nodes → AreTwosOf (At (entries ++ map (λ b. (b, i)) blocks)) new)
    → AreTwosOver size P nodes → AreTwosOver size (λ key r. P key r ⊎ ((r ≡ i) × Held key)) new
over_more P Held size i nodes new blocks few over within long put are =
    record {
      entries = are.entries ++ map (λ (b : ℕ). (b, i)) blocks;
      few = entries_few are.entries blocks i few are.few;
      over = λ key r l. (
        (λ has. elim ((entry_cases are.entries blocks i has.0 r).0 has.1) [
          | inl old ↦ inl ((are.over key r l).0 (has.0, old, has.2))
          | inr x ↦ inr (x.0, (over key l).0 (has.0, x.1, has.2))
        ]),
        (λ w. elim w [
          | inl p ↦ let has = (are.over key r l).1 p in (has.0, (entry_cases are.entries blocks i has.0 r).1 (inl has.1), has.2)
          | inr x ↦ let under = (over key l).1 x.1 in (under.0, (entry_cases are.entries blocks i under.0 r).1 (inr (x.0, under.1)), under.2)
        ]),
      );
      within = λ b r has. elim ((entry_cases are.entries blocks i b r).0 has) [
        | inl old ↦ let w = are.within b r old in (w.0, omega arith)
        | inr x ↦ within b x.1
      ];
      twos = put are.entries are.few are.twos;
    }

pub over_as : (P Q : ℕ → ℕ → Type 0) (size : ℕ) (nodes : List Two) → ((key r : ℕ) → P key r → Q key r) → ((key r : ℕ) → Q key r → P key r) → AreTwosOver size P nodes → AreTwosOver size Q nodes
over_as P Q size nodes to back are = grind arith

-- nothing yet
pub over_none : (P : ℕ → ℕ → Type 0) → ((key r : ℕ) → ¬ P key r) → (size : ℕ) (nodes : List Two) → ((block : ℕ) (d : Two) → block < length nodes → get_or nodes block d ≡ record { least = 4294967295; next = 4294967295 })
    → AreTwosOver size P nodes
over_none P none size nodes empty = grind (arith, two_none)

-- what stands with the blocks over the key that are lower than this height
abbrev pub IsUnder : List (ℕ × ℕ) → ℕ → ℕ → ℕ → ℕ → Type 0
IsUnder entries leaf height me r = (b : ℕ) × (n : ℕ) × (n < height) × (b * 2 ^ n ≤ leaf) × (leaf < (b + 1) * 2 ^ n) × At entries b r × (r ≢ me)

-- what is known on the way from a leaf to the greatest block over it
abbrev pub IsRising : List Two → ℕ → ℕ → ℕ → ℕ → Type 0
IsRising nodes leaf me block least = (height : ℕ) × (block * 2 ^ height ≤ leaf) × (leaf < (block + 1) * 2 ^ height)
    × ((entries : List (ℕ × ℕ)) → ((b r : ℕ) → At entries b r → r < 4294967295) → AreTwosOf (At entries) nodes → IsLeastNumber (IsUnder entries leaf height me) least)

pub rises_from : (nodes : List Two) (leaf me : ℕ) → IsRising nodes leaf me leaf 4294967295
rises_from nodes leaf me = (0, omega arith, omega arith, λ entries few are. least_none (IsUnder entries leaf 0 me) (λ q is. let none = is.2 in omega arith))

pub rises_on : (nodes : List Two) (leaf me block least at : ℕ) (d : Two) → block < length nodes
    → ((get_or nodes block d).least ≡ me → at ≡ (get_or nodes block d).next) → ((get_or nodes block d).least ≢ me → at ≡ (get_or nodes block d).least)
    → IsRising nodes leaf me block least → IsRising nodes leaf me (block / 2) (min least at)
rises_on nodes leaf me block least at d inside own another rising =
    let e = rising.0 in
    let half = half_over block e leaf rising.1 rising.2 in (
      e + 1,
      half.0,
      half.1,
      λ entries few are.
          least_either (IsUnder entries leaf e me) (λ r. At entries block r × (r ≢ me)) (IsUnder entries leaf (e + 1) me) least at
          (λ r is. few is.0 r is.5)
          (λ r is. let l = is.2 in (is.0, is.1, omega arith, is.3, is.4, is.5, is.6))
          (λ r is. (block, e, omega arith, rising.1, rising.2, is.0, is.1))
          (λ r is. elim (cases_lt is.1 e) [
            | inl less ↦ inl (is.0, is.1, less, is.3, is.4, is.5, is.6)
            | inr more ↦
                let f : is.1 ≡ e = omega arith in
                let g : is.0 ≡ block = one_block is.0 block (2 ^ e) leaf (subst (λ n. is.0 * 2 ^ n ≤ leaf) f is.3) (subst (λ n. leaf < (is.0 + 1) * 2 ^ n) f is.4) rising.1 rising.2 in
                inr (subst (λ b. At entries b r) g is.5, is.6)
          ])
          (rising.3 entries few are) (other_of (At entries block) (get_or nodes block d) me at own another (are block d inside)),
    )

pub risen : (nodes : List Two) (size key me least : ℕ) → key < size → IsRising nodes (size + key) me 0 least → (P : ℕ → ℕ → Type 0) → AreTwosOver size P nodes
    → IsLeastNumber (λ r. P key r × (r ≢ me)) least
risen nodes size key me least l rising P are =
    least_same (IsUnder are.entries (size + key) rising.0 me) (λ r. P key r × (r ≢ me)) least
    (λ r is. ((are.over key r l).0 (is.0, is.5, (is.1, is.3, is.4)), is.6))
    (λ r is.
    let has = (are.over key r l).1 is.0 in
    let over = has.2 in
    (has.0, over.0, lower_over has.0 over.0 rising.0 (size + key) rising.2 over.1 (are.within has.0 r has.1).0, over.1, over.2, has.1, is.1))
    (rising.3 are.entries are.few are.twos)

-- who has P at a place is entered there
pub record AreEntered (P : ℕ → ℕ → Type 0) (twos : List Two) : Type 0 where
  pub entries : List (ℕ × ℕ)
  pub few : (q r : ℕ) → At entries q r → r < 4294967295
  pub same : (q r : ℕ) → At entries q r ↔ P q r
  pub least : AreTwosOf (At entries) twos

-- what putting a number at places does
abbrev pub IsPutAt : List ℕ → ℕ → List Two → List Two → Type 0
IsPutAt places i old new = (entries : List (ℕ × ℕ)) → ((q r : ℕ) → At entries q r → r < 4294967295) → AreTwosOf (At entries) old → AreTwosOf (At (entries ++ map (λ b. (b, i)) places)) new

abbrev pub none : Two
none = record { least = 4294967295; next = 4294967295 }

-- no number at all places
pub none_at : (n : ℕ) (twos : List Two) → twos ≡ replicate n none → (length twos ≡ n) × ((q : ℕ) (d : Two) → q < length twos → get_or twos q d ≡ none)
none_at n twos is = let long = ap (length {A = Two}) is ∙ length-replicate n none in (long, λ q d l. ap (λ xs. get_or xs q d) is ∙ get_or-replicate n q none d (omega arith))

-- nothing yet
pub none_entered : (P : ℕ → ℕ → Type 0) → ((q r : ℕ) → ¬ P q r) → (twos : List Two) → ((q : ℕ) (d : Two) → q < length twos → get_or twos q d ≡ none) → AreEntered P twos
none_entered P none twos empty = grind (arith, two_none)

pub entered_as : (P Q : ℕ → ℕ → Type 0) (twos : List Two) → ((q r : ℕ) → P q r ↔ Q q r) → AreEntered P twos → AreEntered Q twos
entered_as P Q twos is are = grind arith

module _ (P : ℕ → ℕ → Type 0) (t : ℕ) where
  -- those before a number and that one are those before the next
  one_more : (Here : ℕ → Type 0) → ((q : ℕ) → Here q ↔ P q t) → (q r : ℕ) → (((r < t) × P q r) ⊎ ((r ≡ t) × Here q)) ↔ ((r < t + 1) × P q r)
  one_more Here p q r = grind (arith, cases_lt)

  none_more : ((q : ℕ) → ¬ P q t) → (q r : ℕ) → ((r < t) × P q r) ↔ ((r < t + 1) × P q r)
  none_more none q r = grind (arith, cases_lt)

  -- number t has P at the places of a row
  pub next_entered : (row : List ℕ) (twos new : List Two) → t < 4294967295 → ((q : ℕ) → Contains row q ↔ P q t) → IsPutAt row t twos new
      → AreEntered (λ q r. (r < t) × P q r) twos → AreEntered (λ q r. (r < t + 1) × P q r) new
  next_entered row twos new few is put are = record {
    entries = are.entries ++ map (λ (b : ℕ). (b, t)) row;
    few = entries_few are.entries row t few are.few;
    same = λ q r.
        let cases = entry_cases are.entries row t q r in
        let more = one_more (λ p. Contains row p) is q r in (
          (λ has. more.0 (elim (cases.0 has) [ inl old ↦ inl ((are.same q r).0 old) | inr x ↦ inr x ])),
          (λ w. cases.1 (elim (more.1 w) [ inl old ↦ inl ((are.same q r).1 old) | inr x ↦ inr x ])),
        );
    least = put are.entries are.few are.least;
  }

  -- number t has P nowhere
  pub next_none : (twos : List Two) → ((q : ℕ) → ¬ P q t) → AreEntered (λ q r. (r < t) × P q r) twos → AreEntered (λ q r. (r < t + 1) × P q r) twos
  next_none twos none are = entered_as (λ q r. (r < t) × P q r) (λ q r. (r < t + 1) × P q r) twos (none_more none) are

  -- the same of blocks over keys
  pub next_over : (size : ℕ) (blocks : List ℕ) (twos new : List Two) (Held : ℕ → Type 0) → t < 4294967295 → ((j : ℕ) → Held j ↔ P j t)
      → ((j : ℕ) → j < size → IsUnderSome size blocks j ↔ (IsUnderSome size [] j ⊎ Held j)) → ((b : ℕ) → Contains blocks b → Contains {X = ℕ} [] b ⊎ ((0 < b) × (b < 2 * size)))
      → length twos ≡ 2 * size → length new ≡ 2 * size → IsPutAt blocks t twos new
      → AreTwosOver size (λ j r. (r < t) × P j r) twos → AreTwosOver size (λ j r. (r < t + 1) × P j r) new
  next_over size blocks twos new Held few is over within was long put are =
      over_as (λ j r. ((r < t) × P j r) ⊎ ((r ≡ t) × Held j)) (λ j r. (r < t + 1) × P j r) size new (λ j r. (one_more Held is j r).0) (λ j r. (one_more Held is j r).1)
      (over_more (λ j r. (r < t) × P j r) Held size t twos new blocks few
      (λ j l. (
        (λ under. elim ((over j l).0 under) [ inl n ↦ absurd (let none = n.1.1 in omega arith) | inr held ↦ held ]),
        (λ held. (over j l).1 (inr held)),
      ))
      (λ b has. elim (within b has) [ inl n ↦ absurd (let none = n.1 in omega arith) | inr w ↦ (w.0, (let l = w.1 in omega arith)) ])
      (was ∙ sym long) put are)

  pub none_over : (size : ℕ) (twos : List Two) → ((j : ℕ) → ¬ P j t) → AreTwosOver size (λ j r. (r < t) × P j r) twos → AreTwosOver size (λ j r. (r < t + 1) × P j r) twos
  none_over size twos none are = over_as (λ j r. (r < t) × P j r) (λ j r. (r < t + 1) × P j r) size twos (λ j r. (none_more none j r).0) (λ j r. (none_more none j r).1) are

module _ (h : List Event) (a : Accesses) (are : AreAccesses h (λ _. ⊤) a) (left : List Bool) (t u : ℕ) (number : IsCommittedAt h t u) (is : IsLeftIn left t) where
  -- the positions of what number t made or saw, and the keys that it passed over
  pub maker_row : (made : List ℕ) → ListsAscending (λ q. (v : KeyVersion) × IsAtPosition h q v × (0 < v.commit) × (v.txn ≡ u)) made → (q : ℕ) → Contains made q ↔ IsLeftMaker h left q t
  maker_row made lists q = (
    (λ c. let v = (lists.each q).0 c in (is, v.0, v.1, subst (IsCommittedAt h t) (sym v.3) number, v.2)),
    (λ m. (lists.each q).1 (m.1, m.2, m.4, one_txn_at h t m.1.txn u m.3 number)),
  )

  pub reader_row : (saw : List ℕ) → saw ≡ get_or a.saw t [] → (q : ℕ) → Contains saw q ↔ IsLeftReader a left q t
  reader_row saw same q = (
    (λ c. (is, (saw_is h a are t u number q).0 (subst (λ (l : List ℕ). Contains l q) same c))),
    (λ s. subst (λ (l : List ℕ). Contains l q) (sym same) ((saw_is h a are t u number q).1 s.1)),
  )

  pub passer_row : (misses : List RangeMiss) → misses ≡ get_or a.missed t [] → (j : ℕ) → IsHeldBy misses j ↔ IsLeftPasser a left j t
  passer_row misses same j = (
    (λ f. (is, (f.0, (missed_is h a are t u number f.0).0 (subst (λ (l : List RangeMiss). Contains l f.0) same f.1), f.2.0, f.2.1))),
    (λ m. (m.1.0, subst (λ (l : List RangeMiss). Contains l m.1.0) (sym same) ((missed_is h a are t u number m.1.0).1 m.1.1), (m.1.2, m.1.3))),
  )

-- who is left is among so many
pub left_below : (left : List Bool) (r : ℕ) → IsLeftIn left r → r < length left
left_below left r is = grind (arith, cases_lt, false≢true, get_or_past)

-- up to before a position, those at earlier ones of its key are entered at each; from there on none are
pub record IsUpRun (h : List Event) (entries : List (ℕ × ℕ)) (n : ℕ) (twos : List Two) : Type 0 where
  pub below : (q : ℕ) (d : Two) → q < n → q < length twos → IsTwo (IsUpTo h (At entries) q) (get_or twos q d)
  pub above : (q : ℕ) (d : Two) → n ≤ q → q < length twos → IsTwo (At entries q) (get_or twos q d)

module _ (h : List Event) (wf : IsWellFormed h) (entries : List (ℕ × ℕ)) (few : (q r : ℕ) → At entries q r → r < 4294967295) (twos : List Two) (q : ℕ) (inside : q < length twos)
    (v : KeyVersion) (at : IsAtPosition h q v) (run : IsUpRun h entries q twos) where
  -- version 0 has no earlier one
  pub run_first : v.commit ≡ 0 → IsUpRun h entries (q + 1) twos
  run_first zero_ =
      let first = up_to_first h wf (At entries) q v at zero_ in
      record {
        below = λ p d l m. elim (cases_lt p q) [
          | inl less ↦ run.below p d less m
          | inr more ↦
              let same : q ≡ p = omega arith in
              subst (λ n. IsTwo (IsUpTo h (At entries) n) (get_or twos n d)) same
              (two_same (At entries q) (IsUpTo h (At entries) q) (get_or twos q d) (λ r x. (first r).1 x) (λ r x. (first r).0 x) (run.above q d (omega arith) inside))
        ];
        above = λ p d l m. run.above p d (omega arith) m;
      }

  -- another has those at the one before it beside its own
  pub run_next : (b : ℕ) → ((w : KeyVersion) × IsAtPosition h b w × (w.key ≡ v.key) × (w.commit < v.commit) × IsNextVersion h v.key w.commit v.txn × (b < q))
      → (d e : Two) (mid new : Two) → IsWith (get_or twos q d) (get_or twos b e).least mid → IsWith mid (get_or twos b e).next new → IsUpRun h entries (q + 1) (set twos q new)
  run_next b before d e mid new one next =
      let up = up_to_next h wf (At entries) q v at b before in
      let is : IsTwo (IsUpTo h (At entries) q) new =
      two_merged (At entries q) (IsUpTo h (At entries) b) (IsUpTo h (At entries) q) (few q) (λ r u. few u.0 r u.3) (λ r p. (up r).1 (inl p)) (λ r u. (up r).1 (inr u)) (λ r u. (up r).0 u)
      (get_or twos q d) (get_or twos b e) mid new one next (run.above q d (omega arith) inside) (run.below b e before.5 (omega arith)) in
      let long = length-set twos q new in
      record {
        below = λ p f l m. elim (cases_eq p q) [
          | inl same ↦
              subst (λ n. IsTwo (IsUpTo h (At entries) n) (get_or (set twos q new) n f)) (sym same)
              (subst (IsTwo (IsUpTo h (At entries) q)) (sym (get_or-set_same twos q new f inside)) is)
          | inr other ↦
              subst (IsTwo (IsUpTo h (At entries) p)) (sym (get_or-set_other twos q p new f other))
              (run.below p f (elim (cases_lt p q) [ inl low ↦ low | inr more ↦ absurd (other (omega arith)) ]) (omega arith))
        ];
        above = λ p f l m. subst (IsTwo (At entries p)) (sym (get_or-set_other twos q p new f (λ e. (let x = e in omega arith)))) (run.above p f (omega arith) (omega arith));
      }

-- all are entered, and those at earlier positions of a key with those at each
pub entered_up : (h : List Event) (P : ℕ → ℕ → Type 0) (n : ℕ) (twos new : List Two) → ((q r : ℕ) → P q r → r < n)
    → ((entries : List (ℕ × ℕ)) → ((q r : ℕ) → At entries q r → r < 4294967295) → AreTwosOf (At entries) twos → AreTwosOf (IsUpTo h (At entries)) new)
    → AreEntered (λ q r. (r < n) × P q r) twos → AreTwosOf (IsUpTo h P) new
entered_up h P n twos new few up are q d l =
    two_same (IsUpTo h (At are.entries) q) (IsUpTo h P q) (get_or new q d)
    (λ r w. (w.0, w.1, w.2, ((are.same w.0 r).0 w.3).1)) (λ r w. (w.0, w.1, w.2, (are.same w.0 r).1 (few w.0 r w.3, w.3)))
    (up are.entries are.few are.least q d l)
