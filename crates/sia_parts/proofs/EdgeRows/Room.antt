-- How many rows stand at the positions of keys, and from which position on the later ones stand.
use Rattle.std.proofs.Common.{◌≡◌, inl, inr, ℕ, zero, suc, ◌+◌, ◌-◌, ◌<◌, ◌≤◌, List, [], ◌∷◌, ◌++◌, length, take, refl, ap, sym, subst, ◌∙◌, arith}
use Rattle.std.specs.Prelude.{slice_index_or, vec_capacity}
use Rattle.std.specs.Global.{Vec}
use Rattle.std.proofs.lemmas.Bool.{cases_lt}
use Rattle.std.proofs.lemmas.List.{length-append}
use Rattle.sia_events.specs.declared.event.Event.{Event}
use Rattle.sia_events.proofs.Worked.OneList.{one_list_by}
use Rattle.sia_index.specs.Lists.{joined}
use Rattle.sia_index.specs.Positions.{ArePositions}
use Rattle.sia_index.proofs.Sorting.Turned.{held_few, held_next}
use Rattle.sia_parts.specs.declared.edges.EdgeTo.{EdgeTo}
use Rattle.sia_parts.specs.declared.edges.Edges.{Edges}
use Rattle.sia_parts.specs.EdgeRows.{IsKeyEnd, IsOfKey, Puts, StandsBehind, noted_before}
use Rattle.sia_parts.specs.Sights.{Adds}
use Rattle.sia_parts.proofs.EdgeRows.KeyEnds.{rises_at}
use Rattle.sia_parts.proofs.EdgeRows.PositionOrder.{position_below, same_number}

-- the same rows, or one more
module _ (P Q : EdgeTo → Type 0) (n m : ℕ) (old mid : Vec EdgeTo) (before : Puts P n old mid) where
  pub puts_like : n ≤ m → Adds Q old.items mid.items → Puts Q m old mid
  puts_like most adds = record { adds = adds; few = (let few = before.few in omega arith); room = before.room }

  pub puts_push : n < m → (new : Vec EdgeTo) (row : EdgeTo) → new.items ≡ mid.items ++ row ∷ [] → vec_capacity new ≡ vec_capacity mid → Adds Q old.items (mid.items ++ row ∷ []) → Puts Q m old new
  puts_push most new row is same adds = record {
    adds = rw is adds;
    few = (let few = before.few in let long = ap (length {A = EdgeTo}) is ∙ length-append mid.items (row ∷ []) in omega arith);
    room = same ∙ before.room;
  }

-- how many are noted
pub noted_rises : (readings : List (List ℕ)) (q n : ℕ) → q ≤ n → noted_before readings q ≤ noted_before readings n
noted_rises readings zero n le = omega arith
noted_rises readings (suc q) zero le = absurd (omega arith)
noted_rises [] (suc q) (suc n) le = omega arith
noted_rises (xs ∷ readings) (suc q) (suc n) le =
    let rest = noted_rises readings q n (omega arith) in
    omega (arith, rest, length-append xs (joined (take q readings)), length-append xs (joined (take n readings)))

pub noted_all : (readings : List (List ℕ)) (n : ℕ) → noted_before readings n ≤ length (joined readings)
noted_all readings n = held_few readings n

pub noted_more : (readings : List (List ℕ)) (n : ℕ) → n < length readings → noted_before readings (n + 1) ≡ noted_before readings n + length (slice_index_or readings n [])
noted_more readings n below = held_next readings n below

module _ (h : List Event) (q e : ℕ) (end : IsKeyEnd h q e) where
  pub end_behind : q < e
  end_behind = end.past end.of.0 q end.of.1 end.of.1

  pub end_within : (count : ℕ) → ArePositions h count → e ≤ count
  end_within count are = elim (cases_lt count e) [
    | inr most ↦ most
    | inl over ↦ absurd (
        let first = position_below h count q end.of.1.version are end.of.1.at in
        let there = end.there count (omega arith) over in
        let below = position_below h count count there.0 are there.1 in
        omega arith)
  ]

  -- before the end are positions of one key
  key_back : (p j : ℕ) → q ≤ p → p < e → IsOfKey h j p → IsOfKey h j q
  key_back p j le less of = subst (λ i. IsOfKey h i q) (same_number h end.of.0 j p (end.own end.of.0 p end.of.1 le less) of) end.of.1

  pub key_stands : (p : ℕ) → q ≤ p → p < e → StandsBehind h q p
  key_stands p le less = record { le = le; forth = λ j of. end.own j p of le less; back = λ j of. key_back p j le less of }

  -- so those of later keys stand at it or behind it
  pub later_keys : (j : ℕ) → IsOfKey h j q → (i p : ℕ) → j < i → IsOfKey h i p → e ≤ p
  later_keys j own i p less of = elim (cases_lt p e) [
    | inr past ↦ past
    | inl before ↦ elim (cases_lt p q) [
      | inr from ↦ absurd (let same = same_number h i j q (key_back p i from before of) own in omega arith)
      | inl under ↦ absurd (let rises = rises_at h own.key.0 own.key.1 p q i j of.version own.version of.at own.at of.key own.key (omega arith) in omega arith)
    ]
  ]

-- the positions of the keys from number j on stand at low or behind it
abbrev pub StandFrom : List Event → ℕ → ℕ → Type 0
StandFrom h j low = (i q : ℕ) → j ≤ i → IsOfKey h i q → low ≤ q

-- there is one number of positions
pub one_count : (h : List Event) (n m : ℕ) → ArePositions h n → ArePositions h m → n ≡ m
one_count h n m a b = sym a.2 ∙ ap length (one_list_by _ _ a.0 b.0 a.1 b.1) ∙ b.2

-- there are at most as many rows more as positions before some one, at which those of the keys from number j on stand or behind it
pub record TakesTo (edges : Edges) (j : ℕ) (old new : Vec EdgeTo) : Type 0 where
  pub low : ℕ
  pub stand : StandFrom edges.index.now j low
  pub within : low ≤ length edges.readings.now
  pub few : length new.items ≤ length old.items + low
  pub room : vec_capacity new ≡ vec_capacity old

module _ (edges : Edges) (old : Vec EdgeTo) where
  pub takes_none : TakesTo edges 0 old old
  takes_none = record { low = 0; stand = λ i q le of. omega arith; within = omega arith; few = omega arith; room = refl }

  pub takes_later : (j i : ℕ) (new : Vec EdgeTo) → j ≤ i → TakesTo edges j old new → TakesTo edges i old new
  takes_later j i new le takes = record { low = takes.low; stand = λ k q more of. takes.stand k q (omega arith) of; within = takes.within; few = takes.few; room = takes.room }

  -- those of the next key
  pub takes_more : ArePositions edges.index.now (length edges.readings.now) → (j i q e : ℕ) (mid new : Vec EdgeTo) → TakesTo edges j old mid → j ≤ i → IsOfKey edges.index.now i q → IsKeyEnd edges.index.now q e
      → length new.items ≤ length mid.items + (e - q) → vec_capacity new ≡ vec_capacity mid → TakesTo edges (i + 1) old new
  takes_more are j i q e mid new takes le own end few same = record {
    low = e;
    stand = λ k p more of. later_keys edges.index.now q e end i own k p (omega arith) of;
    within = end_within edges.index.now q e end (length edges.readings.now) are;
    few = (let low = takes.stand i q le own in let behind = end_behind edges.index.now q e end in let first = takes.few in omega arith);
    room = same ∙ takes.room;
  }
