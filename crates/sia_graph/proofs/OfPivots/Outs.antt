-- Rows of those to whom a transaction has a vulnerable edge, position by position and key by key.
use Rattle.std.proofs.Common.{◌≡◌, ◌≢◌, ◌⊎◌, inl, inr, ℕ, ◌+◌, ◌-◌, ◌<◌, ◌≤◌, List, length, get_or, take, max, ap, refl, sym, subst, ◌∙◌, arith}
use Rattle.std.specs.Prelude.{◌↔◌, ⊤, Contains, vec_capacity}
use Rattle.std.specs.Global.{Vec}
use Rattle.std.specs.List.Sorted.{IsNonDecreasingBy}
use Rattle.std.proofs.lemmas.Bool.{cases_lt}
use Rattle.std.proofs.lemmas.List.{take_all}
use Rattle.std.proofs.lemmas.List.Elements.{Contains-get_or}
use Rattle.sia_events.specs.declared.event.Event.{Event}
use Rattle.sia_events.specs.declared.event.Event.TheVariants.{Commit}
use Rattle.sia_events.specs.NarrowDependencies.{CommitsVersion, Looked}
use Rattle.sia_events.specs.Refusals.{IsWellFormed}
use Rattle.sia_events.specs.Transactions.{Overlap}
use Rattle.sia_events.proofs.Shared.TransactionDecisions.{place_within}
use Rattle.sia_events.proofs.Writing.WellFormed.{few_events}
use Rattle.sia_index.specs.declared.info.KeyVersion.{KeyVersion}
use Rattle.sia_index.specs.Info.{HasKeyAt, IsKeyAt}
use Rattle.sia_index.specs.Numbers.{IsCommittedAt}
use Rattle.sia_index.specs.Positions.{AreMakersBehind, ArePositions, HasPosition, HasVersionUpTo, IsAtPosition}
use Rattle.sia_parts.specs.declared.accesses.Accesses.{Accesses}
use Rattle.sia_parts.specs.declared.accesses.RangeMiss.{RangeMiss}
use Rattle.sia_parts.specs.Accesses.{AreAccesses, HasMiss, Missed, SawPosition}
use Rattle.sia_parts.specs.EdgeRows.{IsOfKey}
use Rattle.sia_parts.specs.Sights.{Adds, FromSome}
use Rattle.sia_parts.proofs.EdgeRows.AccessRows.{first_below, first_kept, first_last}
use Rattle.sia_parts.proofs.EdgeRows.EdgeLoops.{ReachesTo}
use Rattle.sia_parts.proofs.EdgeRows.KeyEnds.{rises_at}
use Rattle.sia_parts.proofs.EdgeRows.PositionOrder.{ascends_at, by_commit as commits_less, by_commit_from as commits_most, by_position as positions_less, one_version as one_at, position_of}
use Rattle.sia_parts.proofs.EdgeRows.Room.{StandFrom}
use Rattle.sia_parts.proofs.Shared.Adding.{FromFirst, adds_both, adds_nothing, adds_same, first_more}
use Rattle.sia_graph.specs.declared.neighbours.Neighbour.{Neighbour}
use Rattle.sia_graph.specs.declared.neighbours.Role.TheVariants.{Out}
use Rattle.sia_graph.specs.declared.neighbours.Neighbours.{Neighbours}
use Rattle.sia_graph.specs.Found.{CanFind, OverlapAt, PutsMore, missed_of, saw_of}
use Rattle.sia_graph.specs.Links.{EndsBehind, IsVulnerableAt, OverlapsAfter, OverlapsBehind, OverlapsIn}
use Rattle.sia_graph.proofs.Shared.AccessLists.{missed_is, saw_is, saw_position}
use Rattle.sia_graph.proofs.Shared.PositionEdges.{look_of_rw, rw_from_look}
use Rattle.sia_graph.proofs.Shared.EarlierSources.{positions_below}
use Rattle.sia_graph.proofs.Shared.Numbered.{commits_at}
use Rattle.sia_parts.proofs.Shared.OneNumber.{one_committed_number as one_number, one_key as one_key_at, one_committed as one_txn_at}

-- nothing, the same, and one after another
pub puts_none : (P : Neighbour → Type 0) (rows : Vec Neighbour) → ((n : Neighbour) → ¬ P n) → PutsMore P 0 rows rows
puts_none P rows none = record { adds = adds_nothing P rows.items none; few = omega arith; room = refl }

pub puts_like : (P Q : Neighbour → Type 0) (n m : ℕ) (old new : Vec Neighbour) → n ≤ m → ((x : Neighbour) → P x ↔ Q x) → PutsMore P n old new → PutsMore Q m old new
puts_like P Q n m old new most same puts = record {
  adds = adds_same P Q old.items new.items (λ x. (same x).0) (λ x. (same x).1) puts.adds;
  few = (let few = puts.few in omega arith);
  room = puts.room;
}

pub puts_then : (P Q R : Neighbour → Type 0) (n m k : ℕ) (old mid new : Vec Neighbour) → n + m ≤ k → ((x : Neighbour) → (P x ⊎ Q x) ↔ R x) → PutsMore P n old mid → PutsMore Q m mid new → PutsMore R k old new
puts_then P Q R n m k old mid new most same first second = record {
  adds = adds_same (λ x. P x ⊎ Q x) R old.items new.items (λ x. (same x).0) (λ x. (same x).1) (adds_both P Q old.items mid.items new.items first.adds second.adds);
  few = (let a = first.few in let b = second.few in omega arith);
  room = second.room ∙ first.room;
}

-- outs by their numbers
abbrev pub IsOut : (ℕ → Type 0) → Neighbour → Type 0
IsOut P n = (n.role ≡ Out) × P n.txn

pub outs_same : (P Q : ℕ → Type 0) → ((j : ℕ) → P j ↔ Q j) → (n : Neighbour) → IsOut P n ↔ IsOut Q n
outs_same P Q same n = ((λ p. (p.0, (same n.txn).0 p.1)), (λ q. (q.0, (same n.txn).1 q.1)))

pub outs_both : (P Q R : ℕ → Type 0) → ((j : ℕ) → (P j ⊎ Q j) ↔ R j) → (n : Neighbour) → (IsOut P n ⊎ IsOut Q n) ↔ IsOut R n
outs_both P Q R same n = grind arith

pub adds_same_outs : (P Q : ℕ → Type 0) (old new : List Neighbour) → ((j : ℕ) → P j ↔ Q j) → Adds (IsOut P) old new → Adds (IsOut Q) old new
adds_same_outs P Q old new same = adds_same (IsOut P) (IsOut Q) old new (λ n. (outs_same P Q same n).0) (λ n. (outs_same P Q same n).1)

pub adds_then : (P Q R : ℕ → Type 0) (old mid new : List Neighbour) → ((j : ℕ) → (P j ⊎ Q j) ↔ R j) → Adds (IsOut P) old mid → Adds (IsOut Q) mid new → Adds (IsOut R) old new
adds_then P Q R old mid new same first second = adds_same (λ n. IsOut P n ⊎ IsOut Q n) (IsOut R) old new (λ n. (outs_both P Q R same n).0) (λ n. (outs_both P Q R same n).1) (adds_both (IsOut P) (IsOut Q) old mid new first second)

-- what all of a list give
pub first_all : {A B : Type 0} (P : A → B → Type 0) (xs : List A) (n : ℕ) → length xs ≤ n → (j : B) → FromFirst P xs n j ↔ FromSome P xs j
first_all P xs n all j = subst (λ ys. FromFirst P xs n j ↔ FromSome P ys j) (take_all n xs all) ((λ f. f), (λ f. f))

-- the maker, where it is another and overlaps i
abbrev pub OverlapsMaker : List Event → ℕ → ℕ → ℕ → Type 0
OverlapsMaker h i maker j = (j ≡ maker) × (j ≢ i) × OverlapAt h i j

abbrev pub span : ℕ → ℕ → RangeMiss
span from to = record { from = from; to = to }

-- the end is that of the key of one of the first n positions, where there is one
abbrev pub EndsOne : List Event → List ℕ → ℕ → ℕ → Type 0
EndsOne h xs n end = 0 < end → (q : ℕ) × Contains (take n xs) q × EndsBehind h q end

module _ (h : List Event) where
  -- positions go by keys
  keys_rise : (q p : ℕ) (v w : KeyVersion) → IsAtPosition h q v → IsAtPosition h p w → q ≤ p → v.key ≤ w.key
  keys_rise q p v w at other le = elim (cases_lt q p) [
    | inl less ↦ elim (ascends_at h q p v w at other less) [ inl under ↦ omega arith | inr same ↦ (let e = same.0 in omega arith) ]
    | inr most ↦ let here : q ≡ p = omega arith in let e = ap (λ (x : KeyVersion). x.key) (one_at h p v w (subst (λ n. IsAtPosition h n v) here at) other) in omega arith
  ]

  -- what stands before the end of a key's positions, and not before one of them, is of that key
  within_end : (q p e : ℕ) → EndsBehind h q e → q ≤ p → p < e → (v w : KeyVersion) → IsAtPosition h q v → IsAtPosition h p w → w.key ≡ v.key
  within_end q p e (last, is, most, (x, y, first, end, same)) le less v w at other =
      let one = ap (λ (z : KeyVersion). z.key) (one_at h q v x at first) in
      let up = keys_rise q p v w at other le in
      let on = keys_rise p last w y other end (omega arith) in
      omega arith

  pub ends_within : (q e count : ℕ) → ArePositions h count → EndsBehind h q e → e ≤ count
  ends_within q e count are (last, is, most, (x, y, first, end, same)) = let below = positions_below h count last are (y, end) in omega arith

  -- so those of later keys stand at the end or behind it
  pub later_stand : (q e j : ℕ) (v : KeyVersion) → IsAtPosition h q v → IsKeyAt h j v.key → EndsBehind h q e → StandFrom h (j + 1) e
  later_stand q e j v at key (last, is, most, (x, y, first, end, same)) i p more of = elim (cases_lt p e) [
    | inr past ↦ past
    | inl before ↦
        let one = ap (λ (z : KeyVersion). z.key) (one_at h q v x at first) in
        let own : IsKeyAt h j y.key = subst (IsKeyAt h j) (one ∙ same) key in
        absurd (let rises = rises_at h own.0 own.1 p last i j of.version y of.at end of.key own (omega arith) in omega arith)
  ]

module _ (h : List Event) (i : ℕ) where
  -- who is put for a maker
  pub put_maker : (maker : ℕ) (n : Neighbour) → ((n ≡ record { role = Out; txn = maker }) × (maker ≢ i) × OverlapAt h i maker) ↔ IsOut (OverlapsMaker h i maker) n
  put_maker maker n = (
    (λ p.
        let number : n.txn ≡ maker = ap (λ (x : Neighbour). x.txn) p.0 in
        (ap (λ (x : Neighbour). x.role) p.0, (number, subst (λ m. m ≢ i) (sym number) p.1, subst (OverlapAt h i) (sym number) p.2))),
    (λ p. ((λ x. record { role = p.0 x; txn = p.1.0 x }), subst (λ m. m ≢ i) p.1.0 p.1.1, subst (OverlapAt h i) p.1.0 p.1.2)),
  )

  -- those of the makers behind a position are all behind it
  pub makers_all : (q : ℕ) (v : KeyVersion) → IsAtPosition h q v → (makers : List ℕ) → AreMakersBehind h q v makers → (n : ℕ) → ((j : ℕ) → FromFirst (OverlapsMaker h i) makers n j ↔ FromSome (OverlapsMaker h i) makers j)
      → (j : ℕ) → FromFirst (OverlapsMaker h i) makers n j ↔ OverlapsBehind h i q j
  makers_all q v at makers behind n all j =
      let some = all j in (
        (λ f.
            let (maker, c, p) = some.0 f in
            let w = behind.each c.0 maker c.1 in
            let number : get_or makers c.0 maker ≡ j = c.2 ∙ sym p.0 in
            let own = subst (λ m. IsCommittedAt h m w.0.txn) number w.4 in
            let o = p.2 in
            let made = subst (λ k. CommitsVersion h k w.0.txn w.0.commit) w.2 (commits_at h (q + 1 + c.0) w.0 w.1 w.3) in
            let after = commits_less h q (q + 1 + c.0) v w.0 at w.1 (sym w.2) (omega arith) in
            (v, at, (o.0, w.0.txn, w.0.commit, o.2, own, made, after, p.1, subst (Overlap h o.0) (one_txn_at h j o.1 w.0.txn o.3 own) o.4))),
        (λ b.
            let a : OverlapsAfter h i v.key v.commit j = subst (λ (y : KeyVersion). OverlapsAfter h i y.key y.commit j) (one_at h q b.0 v b.1 at) b.2 in
            let w : KeyVersion = record { key = v.key; commit = a.2; txn = a.1 } in
            let p = position_of h at.0 at.1 w (inr a.5) in
            let after = positions_less h q p.0 v w at p.1 refl a.6 in
            let most = behind.all p.0 w p.1 refl in
            let m = p.0 - (q + 1) in
            let below : m < length makers = omega arith in
            let place : q + 1 + m ≡ p.0 = omega arith in
            let is = behind.each m 0 below in
            let same = one_at h p.0 is.0 w (subst (λ x. IsAtPosition h x is.0) place is.1) p.1 in
            let number = one_number h j (get_or makers m 0) a.1 a.4 (subst (λ (y : KeyVersion). IsCommittedAt h (get_or makers m 0) y.txn) same is.4) in
            some.1 (get_or makers m 0, Contains-get_or makers m 0 below, (number, a.7, (a.0, a.1, a.3, a.4, a.8)))),
      )

  -- what is behind a position is behind an older one of the same key
  pub behind_older : (q p : ℕ) (v w : KeyVersion) → q ≤ p → IsAtPosition h q v → IsAtPosition h p w → w.key ≡ v.key → (j : ℕ) → OverlapsBehind h i p j → OverlapsBehind h i q j
  behind_older q p v w le at there same j b =
      let up = commits_most h q p v w at there (sym same) le in
      let a : OverlapsAfter h i v.key w.commit j = subst (λ k. OverlapsAfter h i k w.commit j) same (subst (λ (y : KeyVersion). OverlapsAfter h i y.key y.commit j) (one_at h p b.0 w b.1 there) b.2) in
      (v, at, (a.0, a.1, a.2, a.3, a.4, a.5, (let l = a.6 in omega arith), a.7, a.8))

  -- the next position, where it is before the end of a key of which an older one was seen
  module _ (xs : List ℕ) (n : ℕ) (below : n < length xs) where
    pub ends_same : (end : ℕ) → EndsOne h xs n end → EndsOne h xs (n + 1) end
    ends_same end ends some = let is = ends some in (is.0, first_kept xs n 0 below is.0 is.1, is.2)

    pub ends_more : (end : ℕ) → EndsBehind h (get_or xs n 0) end → EndsOne h xs (n + 1) end
    ends_more end is some = (get_or xs n 0, first_last xs n 0 below, is)

    pub seen_held : IsNonDecreasingBy (λ q. q) xs → (end : ℕ) → EndsOne h xs n end → get_or xs n 0 < end → (w : KeyVersion) → IsAtPosition h (get_or xs n 0) w
        → (j : ℕ) → FromFirst (OverlapsBehind h i) xs n j ↔ FromFirst (OverlapsBehind h i) xs (n + 1) j
    seen_held rise end ends less w there j =
        let is = ends (omega arith) in
        let e = is.2 in
        let le = first_below xs n 0 below (λ q. q) rise is.0 is.1 in
        let same = within_end h is.0 (get_or xs n 0) end e le less e.3.0 w e.3.2 there in (
          (λ f. (first_more (OverlapsBehind h i) xs n 0 below j).0 (inl f)),
          (λ f. elim ((first_more (OverlapsBehind h i) xs n 0 below j).1 f) [
            | inl before ↦ before
            | inr here ↦ (is.0, is.1, behind_older is.0 (get_or xs n 0) e.3.0 w le e.3.2 there same j here)
          ]),
        )

  module _ (wf : IsWellFormed h) where
    visible : (k j : ℕ) → OverlapsAfter h i k 0 j → HasVersionUpTo h k 4294967295
    visible k j p =
        let within = (place_within h p.2 (Commit p.1) p.5.1).1 in
        let few = few_events h wf in
        (p.1, p.2, p.5, omega arith)

    pub keys_none : (from j : ℕ) → ¬ OverlapsIn h i (span from from) j
    keys_none from j p = let a = p.2 in let b = p.3 in omega arith

    -- the next key of which a version was committed
    pub keys_more : (start from key q : ℕ) (v : KeyVersion) → start ≤ from → from ≤ key → IsAtPosition h q v → IsKeyAt h key v.key → v.commit ≡ 0
        → ((m k : ℕ) → from ≤ m → m < key → IsKeyAt h m k → ¬ HasVersionUpTo h k 4294967295)
        → (j : ℕ) → (OverlapsIn h i (span start from) j ⊎ OverlapsBehind h i q j) ↔ OverlapsIn h i (span start (key + 1)) j
    keys_more start from key q v low le at is zero none j = (
      (λ e. elim e [
        | inl p ↦ (p.0, p.1, p.2, (let l = p.3 in omega arith), p.4, p.5)
        | inr p ↦ (
          key,
          v.key,
          omega arith,
          omega arith,
          is,
          subst (λ c. OverlapsAfter h i v.key c j) zero (subst (λ (x : KeyVersion). OverlapsAfter h i x.key x.commit j) (one_at h q p.0 v p.1 at) p.2),
        )
      ]),
      (λ p. elim (cases_lt p.0 from) [
        | inl under ↦ inl (p.0, p.1, p.2, under, p.4, p.5)
        | inr over ↦ elim (cases_lt p.0 key) [
          | inl less ↦ absurd (none p.0 p.1 over less p.4 (visible p.1 j p.5))
          | inr more ↦
              let same : p.0 ≡ key = (let l = p.3 in omega arith) in
              let name = one_key_at h key p.1 v.key (subst (λ n. IsKeyAt h n p.1) same p.4) is in
              inr (v, at, subst (λ c. OverlapsAfter h i v.key c j) (sym zero) (subst (λ k. OverlapsAfter h i k 0 j) name p.5))
        ]
      ]),
    )

    -- the next range miss, from where those before end
    module _ (misses : List RangeMiss) (n : ℕ) (d : RangeMiss) (below : n < length misses) (rise : IsNonDecreasingBy (λ (m : RangeMiss). m.from) misses) (reached start : ℕ)
        (is : start ≡ max (get_or misses n d).from reached) (reaches : ReachesTo misses n reached) where
      abbrev here : RangeMiss
      here = get_or misses n d

      pub misses_more : (end : ℕ) → (end ≡ start) ⊎ (end ≤ here.to) → ((m k : ℕ) → end ≤ m → m < here.to → IsKeyAt h m k → ¬ HasVersionUpTo h k 4294967295)
          → (j : ℕ) → (FromFirst (OverlapsIn h i) misses n j ⊎ OverlapsIn h i (span start end) j) ↔ FromFirst (OverlapsIn h i) misses (n + 1) j
      misses_more end within none j = (
        (λ e. elim e [
          | inl first ↦ (first_more (OverlapsIn h i) misses n d below j).0 (inl first)
          | inr p ↦
              (first_more (OverlapsIn h i) misses n d below j).0 (inr (p.0, p.1, omega arith, elim within [ inl e ↦ absurd (omega arith) | inr e ↦ omega arith ], p.4, p.5))
        ]),
        (λ f. elim ((first_more (OverlapsIn h i) misses n d below j).1 f) [
          | inl first ↦ inl first
          | inr p ↦ elim (cases_lt p.0 reached) [
            | inl under ↦
                let l = p.2 in
                let m = reaches p.0 under (λ x c. let first = first_below misses n d below (λ (miss : RangeMiss). miss.from) rise x c in omega arith) in
                inl (m.0, m.1, (p.0, p.1, m.2, m.3, p.4, p.5))
            | inr behind ↦ elim (cases_lt p.0 end) [
              | inl before ↦ let l = p.2 in inr (p.0, p.1, omega arith, before, p.4, p.5)
              | inr over ↦ absurd (none p.0 p.1 over p.3 p.4 (visible p.1 j p.5))
            ]
          ]
        ]),
      )

    -- what is behind all that one saw and passed over are the ends of its vulnerable edges
    pub all_outs : (a : Accesses) → AreAccesses h (λ _. ⊤) a → (t : ℕ) → IsCommittedAt h i t → (saw : List ℕ) (missed : List RangeMiss) → ((q : ℕ) → Contains saw q ↔ SawPosition a i q)
        → ((miss : RangeMiss) → Contains missed miss ↔ HasMiss a i miss) → (j : ℕ) → (FromSome (OverlapsBehind h i) saw j ⊎ FromSome (OverlapsIn h i) missed j) ↔ IsVulnerableAt h i j
    all_outs a are t at saw missed saw_is missed_is j = (
      (λ e. elim e [
        | inl f ↦
            let l = are.saw i f.0 ((saw_is f.0).0 f.1) in
            let x = l.3.version in
            let same = one_at h f.0 x.0 f.2.0 x.1 f.2.1 in
            let look = subst (λ c. Looked h l.0 f.2.0.key c) (sym x.3 ∙ ap (λ (y : KeyVersion). y.commit) same) (subst (λ k. Looked h l.0 k l.2) (sym x.2 ∙ ap (λ (y : KeyVersion). y.key) same) l.4) in
            vulnerable_by l.0 f.2.0.key f.2.0.commit l.3.txn look f.2.2
        | inr f ↦
            let l = are.missed i f.2.0 (f.0, (missed_is f.0).0 f.1, f.2.2, f.2.3) in
            vulnerable_by l.0 f.2.1 0 l.2 (subst (λ k. Looked h l.0 k 0) (one_key_at h f.2.0 l.1 f.2.1 l.3 f.2.4) l.4) f.2.5
      ]),
      (λ v.
          let k = v.4.1 in
          let l = look_of_rw h wf k v.0 v.1 v.4.2 in
          let differ : j ≢ i = λ same. v.4.2.0 (one_txn_at h i v.0 v.1 v.2 (subst (λ n. IsCommittedAt h n v.1) same v.3)) in
          let after : OverlapsAfter h i k l.0 j = (v.0, v.1, l.1, v.2, v.3, l.2, l.4, differ, v.4.0) in
          elim (are.each v.0 k l.0 v.1 l.3 l.2.0 tt) [
            | inl s ↦
                let x = s.2.version in
                let mine : SawPosition a i s.1 = subst (λ n. SawPosition a n s.1) (one_number h s.0 i v.0 s.2.txn v.2) s.2.saw in
                let behind : OverlapsBehind h i s.1 j = (x.0, x.1, subst (λ c. OverlapsAfter h i x.0.key c j) (sym x.3) (subst (λ k. OverlapsAfter h i k l.0 j) (sym x.2) after)) in
                inl (s.1, (saw_is s.1).1 mine, behind)
            | inr p ↦
                let key = p.2.key in
                let mine = subst (λ n. Missed a n key.0) (one_number h p.1 i v.0 p.2.txn v.2) key.2 in
                inr (mine.0, (missed_is mine.0).1 mine.1, (key.0, k, mine.2, mine.3, key.1, subst (λ c. OverlapsAfter h i k c j) p.0 after))
          ]),
    )
      where
        vulnerable_by : (t k c : ℕ) → IsCommittedAt h i t → Looked h t k c → OverlapsAfter h i k c j → IsVulnerableAt h i j
        vulnerable_by t k c at look o =
            let one = one_txn_at h i o.0 t o.3 at in
            let differ : t ≢ o.1 = λ same. o.7 (one_number h j i t (subst (IsCommittedAt h j) (sym same) o.4) at) in
            (t, o.1, at, o.4, (subst (λ x. Overlap h x o.1) one o.8, k, rw_from_look h wf k t o.1 c o.2 differ o.5 look o.6))

-- at most as many rows more as there are positions, and as positions before some one, at which those of the keys from number j on
-- stand or behind it
pub record TakesTo (h : List Event) (count j : ℕ) (old new : Vec Neighbour) : Type 0 where
  pub low : ℕ
  pub stand : StandFrom h j low
  pub within : low ≤ count
  pub few : length new.items ≤ length old.items + count + low
  pub room : vec_capacity new ≡ vec_capacity old

module _ (h : List Event) (count : ℕ) (old : Vec Neighbour) where
  pub takes_later : (j i : ℕ) (new : Vec Neighbour) → j ≤ i → TakesTo h count j old new → TakesTo h count i old new
  takes_later j i new le takes = record { low = takes.low; stand = λ k q more of. takes.stand k q (omega arith) of; within = takes.within; few = takes.few; room = takes.room }

  -- those of the next key
  pub takes_more : ArePositions h count → (j i q e : ℕ) (mid new : Vec Neighbour) → TakesTo h count j old mid → j ≤ i → (of : IsOfKey h i q) → EndsBehind h q e
      → length new.items ≤ length mid.items + (e - q) → vec_capacity new ≡ vec_capacity mid → TakesTo h count (i + 1) old new
  takes_more are j i q e mid new takes le of end few same = record {
    low = e;
    stand = later_stand h q e i of.version of.at of.key end;
    within = ends_within h q e count are end;
    few = (let low = takes.stand i q le of in let is = end.1 in let behind = end.2 in let first = takes.few in omega arith);
    room = same ∙ takes.room;
  }

-- what one saw and passed over, in order
module _ (n : Neighbours) (can : CanFind n) (i t : ℕ) (at : IsCommittedAt n.evidence.index.now i t) where
  pub saw_all : (q : ℕ) → Contains (saw_of n i) q ↔ SawPosition n.evidence.accesses.now i q
  saw_all q = saw_is n.evidence.index.now n.evidence.accesses.now can.evidence.accesses i t at q

  pub missed_all : (miss : RangeMiss) → Contains (missed_of n i) miss ↔ HasMiss n.evidence.accesses.now i miss
  missed_all miss = missed_is n.evidence.index.now n.evidence.accesses.now can.evidence.accesses i t at miss

  -- a position that it saw, and a range miss that it has, with the keys up to its end
  pub saw_at : (xs : List ℕ) → xs ≡ saw_of n i → (k : ℕ) → k < length xs → HasPosition n.evidence.index.now (get_or xs k 0)
  saw_at xs is k below =
      let q = get_or xs k 0 in
      saw_position n.evidence.index.now n.evidence.accesses.now can.evidence.accesses i t at q ((saw_all q).0 (subst (λ ys. Contains ys q) is (Contains-get_or xs k 0 below)))

  pub miss_at : (xs : List RangeMiss) → xs ≡ missed_of n i → (k : ℕ) → k < length xs → ((get_or xs k (span 0 0)).from < (get_or xs k (span 0 0)).to) × ((j : ℕ) → j < (get_or xs k (span 0 0)).to → HasKeyAt n.evidence.index.now j)
  miss_at xs is k below =
      let miss = get_or xs k (span 0 0) in
      let has = (missed_all miss).0 (subst (λ ys. Contains ys miss) is (Contains-get_or xs k (span 0 0) below)) in
      let some : miss.from < miss.to = can.evidence.accesses.some i miss has in
      let last = (can.evidence.accesses.missed i (miss.to - 1) (miss, has, omega arith, omega arith)).3 in
      (some, (λ j less. (last.0, last.1, (let inside = last.2 in omega arith))))
