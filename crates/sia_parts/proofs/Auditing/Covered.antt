-- How far the listed keys of a range read have been gone through.
use Rattle.std.proofs.Common.{◌≡◌, ◌⊎◌, inl, inr, ℕ, false, ◌+◌, ◌<◌, ◌≤◌, List, length, get_or, ap, sym, subst, ◌∙◌, arith}
use Rattle.std.proofs.lemmas.Bool.{cases_eq, cases_lt}
use Rattle.std.proofs.lemmas.List.{get_or_default}
use Rattle.sia_events.specs.declared.event.Event.{Event}
use Rattle.sia_events.specs.Numbering.{names_of, pair_at}
use Rattle.sia_events.specs.Reads.{SawAt}
use Rattle.sia_events.specs.Transactions.{Wrote, WroteBefore}
use Rattle.sia_index.specs.Info.{IsKeyAt}
use Rattle.sia_parts.specs.declared.audit.sights.Known.{Known}
use Rattle.sia_parts.specs.declared.audit.ranges.Cover.{Cover}
use Rattle.sia_parts.specs.declared.audit.sights.Seen.{Seen}
use Rattle.sia_parts.specs.Seeing.{Gains, IsCover, IsSightWithin}
use Rattle.sia_parts.proofs.Auditing.Gaining.{gains_both}
use Rattle.sia_parts.proofs.Shared.OneNumber.{at_is_written, one_key, one_key_number}
use Rattle.sia_parts.proofs.Auditing.Passing.{number_before}

-- the numbers of the first n listed keys are below next, and those of the others aren't
pub record HasCovered (h : List Event) (cover : Cover) (n next : ℕ) : Type 0 where
  pub low : cover.first ≤ next
  pub high : (next ≡ cover.first) ⊎ (next ≤ cover.end)
  pub behind : (m i d : ℕ) → m < n → m < length cover.pairs.now → IsKeyAt h i (pair_at (names_of h) (get_or cover.pairs.now m d)).0 → i < next
  pub ahead : (m i d : ℕ) → n ≤ m → m < length cover.pairs.now → IsKeyAt h i (pair_at (names_of h) (get_or cover.pairs.now m d)).0 → next ≤ i

module _ (h : List Event) (known : Known) (cover : Cover) (is : IsCover h known cover) where
  pub covered_none : HasCovered h cover 0 cover.first
  covered_none = record {
    low = omega arith;
    high = inl (λ i. cover.first);
    behind = λ m i d none below at. absurd (omega arith);
    ahead = λ m i d after below at. ((is.each i).1 (_, at, (is.inside m d below).0, (is.inside m d below).1)).0;
  }

  -- where the reader is known not to have written the covered keys
  pub not_own_within : cover.own ≡ false → (i k : ℕ) → cover.first ≤ i → i < cover.end → IsKeyAt h i k → ¬ WroteBefore h known.reader.txn k known.reader.place
  not_own_within none i k low less at =
      let own = (is.each i).0 (low, less) in
      is.own none k (subst (λ j. cover.lo ≤ j) (one_key h i own.0 k own.1 at) own.2) (subst (λ j. j ≤ cover.hi) (one_key h i own.0 k own.1 at) own.3)

  module _ (n next : ℕ) (so : HasCovered h cover n next) where
    module _ (d : ℕ) (below : n < length cover.pairs.now) where
      -- a listed key that isn't written changes nothing
      pub covered_unwritten : ((u : ℕ) → ¬ Wrote h u (pair_at (names_of h) (get_or cover.pairs.now n d)).0) → HasCovered h cover (n + 1) next
      covered_unwritten none = record {
        low = so.low;
        high = so.high;
        behind = λ m i e upto inside at. elim (cases_eq m n) [
          | inl same ↦ absurd
              (let wrote = at_is_written h i _ at in
              none wrote.0 (subst (λ p. Wrote h wrote.0 (pair_at (names_of h) p).0) (ap (λ j. get_or cover.pairs.now j e) same ∙ get_or_default cover.pairs.now n e d below) wrote.1))
          | inr other ↦ so.behind m i e (omega arith) inside at
        ];
        ahead = λ m i e after inside at. so.ahead m i e (omega arith) inside at;
      }

      module _ (i : ℕ) (at : IsKeyAt h i (pair_at (names_of h) (get_or cover.pairs.now n d)).0) where
        pub inside_cover : (cover.first ≤ i) × (i < cover.end)
        inside_cover = (is.each i).1 (_, at, (is.inside n d below).0, (is.inside n d below).1)

        pub next_number : next ≤ i
        next_number = so.ahead n i d (omega arith) below at

        -- a later listed key has a greater number
        later : (m j e : ℕ) → n < m → m < length cover.pairs.now → IsKeyAt h j (pair_at (names_of h) (get_or cover.pairs.now m e)).0 → i < j
        later m j e after inside other =
            let keys_rise = is.ascend n m e after inside in
            let own = ap (λ p. (pair_at (names_of h) p).0) (get_or_default cover.pairs.now n e d below) in
            number_before h at.0 at.1 i j _ _ at other (omega arith)

        pub covered_more : HasCovered h cover (n + 1) (i + 1)
        covered_more = record {
          low = (let low = so.low in let more = next_number in omega arith);
          high = inr (let w = inside_cover in let less = w.1 in omega arith);
          behind = λ m j e upto inside other. elim (cases_eq m n) [
            | inl same ↦
                let own = subst (λ p. IsKeyAt h j (pair_at (names_of h) p).0) (ap (λ x. get_or cover.pairs.now x e) same ∙ get_or_default cover.pairs.now n e d below) other in
                let one = one_key_number h j i _ own at in
                omega arith
            | inr differ ↦ (let less = so.behind m j e (omega arith) inside other in let more = next_number in omega arith)
          ];
          ahead = λ m j e after inside other. (let less = later m j e (omega arith) inside other in omega arith);
        }

        -- the keys between are not listed
        pub not_between : (j : ℕ) → next ≤ j → j < i → (k : ℕ) × IsKeyAt h j k × SawAt h known.reader.place known.reader.txn k 0
        not_between j from under =
            let w = inside_cover in
            let k = (is.each j).0 ((let low = so.low in omega arith), (let less = w.1 in omega arith)) in (
              k.0,
              k.1,
              is.unlisted k.0 k.2 k.3 (λ m e inside same.
                  let other = subst (IsKeyAt h j) (sym same) k.1 in
                  elim (cases_lt m n) [
                    | inl before ↦ (let less = so.behind m j e before inside other in omega arith)
                    | inr after ↦ elim (cases_eq m n) [
                      | inl here ↦
                          let own = subst (λ p. IsKeyAt h j (pair_at (names_of h) p).0) (ap (λ x. get_or cover.pairs.now x e) here ∙ get_or_default cover.pairs.now n e d below) other in
                          let one = one_key_number h j i _ own at in
                          omega arith
                      | inr differ ↦ (let less = later m j e (omega arith) inside other in omega arith)
                    ]
                  ]),
            )

    -- nor are those behind the last one
    pub not_behind : length cover.pairs.now ≤ n → (j : ℕ) → next ≤ j → j < cover.end → (k : ℕ) × IsKeyAt h j k × SawAt h known.reader.place known.reader.txn k 0
    not_behind all j from under =
        let k = (is.each j).0 ((let low = so.low in omega arith), under) in
        (k.0, k.1, is.unlisted k.0 k.2 k.3 (λ m e inside same. let less = so.behind m j e (omega arith) inside (subst (IsKeyAt h j) (sym same) k.1) in omega arith))

    -- all of them together
    pub covered_all : (old mid new : Seen) → Gains h (IsSightWithin h known.reader.place cover.first next) old mid → Gains h (IsSightWithin h known.reader.place next cover.end) mid new → Gains h (IsSightWithin h known.reader.place cover.first cover.end) old new
    covered_all old mid new first last = gains_both h (IsSightWithin h known.reader.place cover.first next) (IsSightWithin h known.reader.place next cover.end) (IsSightWithin h known.reader.place cover.first cover.end)
        (λ s w. elim (cases_lt w.2 next) [ inl less ↦ inl (w.0, w.1, w.2, w.3, w.4, less) | inr more ↦ inr (w.0, w.1, w.2, w.3, more, w.5) ])
        (λ s w. (w.0, w.1, w.2, w.3, w.4, (let from = w.4 in let less = w.5 in elim so.high [ inl none ↦ absurd (omega arith) | inr le ↦ omega arith ])))
        (λ s w. (w.0, w.1, w.2, w.3, (let low = so.low in let from = w.4 in omega arith), w.5))
        old mid new first last
