-- Keys that a range read passed over, by their numbers.
use Rattle.std.proofs.Common.{◌≡◌, inl, inr, ℕ, ◌+◌, ◌-◌, ◌<◌, ◌≤◌, List, Option, Some, None, unwrap_or, length, refl, ap, sym, subst, ◌∙◌, arith}
use Rattle.std.specs.Option.{option_or}
use Rattle.std.specs.Prelude.{All, Bool, MatchOption, slice_index}
use Rattle.std.proofs.lemmas.Bool.{cases_eq, cases_lt}
use Rattle.std.proofs.lemmas.List.{get_or_default}
use Rattle.sia_events.specs.declared.event.Event.{Event}
use Rattle.sia_events.specs.Reads.{IsDue, SawAt}
use Rattle.sia_events.specs.Refusals.{IsWellFormed}
use Rattle.sia_events.specs.Transactions.{Wrote, WroteBefore}
use Rattle.sia_events.proofs.OfLaws.Seen.{actor_is_txn}
use Rattle.sia_index.specs.Info.{AreWrittenKeys, HasKeyAt, IsKeyAt}
use Rattle.sia_index.proofs.Shared.KeyChains.{key_number}
use Rattle.sia_index.proofs.Shared.Ordered.{ascends}
use Rattle.sia_index.proofs.Sorting.Points.{PointBelow, point_below, point_from}
use Rattle.sia_index.specs.Positions.{HasVersionUpTo}
use Rattle.sia_parts.proofs.Auditing.Positions.{none_is_due}
use Rattle.sia_parts.specs.declared.audit.sights.Known.{Known}
use Rattle.sia_parts.specs.declared.audit.sights.Seen.{Seen}
use Rattle.sia_parts.specs.Sights.{Sight, Gives, LooksAt}
use Rattle.sia_parts.specs.declared.audit.sights.WrongReads.{WrongReads}
use Rattle.sia_parts.specs.declared.accesses.RangeMiss.{RangeMiss}
use Rattle.sia_parts.specs.Accesses.{IsMissAt, IsPassedBy}
use Rattle.sia_parts.specs.Known.{IsKnown}
use Rattle.sia_parts.specs.Seeing.{AddsWrong, Gains, HaveUpTo, IsGap, IsMiss, IsSightWithin, sight_of}
use Rattle.sia_parts.proofs.Auditing.AsOf.{one_as_of}
use Rattle.sia_parts.proofs.Auditing.Gaining.{is_sight, one_sight}
use Rattle.sia_parts.proofs.Shared.OneNumber.{one_key, one_key_number}
use Rattle.sia_parts.proofs.Auditing.Saw.{due_not_wrong, wrong_one}

module _ (h : List Event) (keys : List ℕ) (are : AreWrittenKeys h keys) where
  up : (i j : ℕ) → i < j → j < length keys → slice_index keys i < slice_index keys j
  up i j less below = ascends (λ (k : ℕ). k) (λ k. (t : ℕ) × Wrote h t k) keys are i j 0 less below

  -- numbers go as the keys
  pub number_before : (i j k l : ℕ) → IsKeyAt h i k → IsKeyAt h j l → k < l → i < j
  number_before i j k l at other less =
      let a = key_number h keys are i k at in
      let b = key_number h keys are j l other in
      let first = a.1 in
      let second = b.1 in
      elim (cases_lt i j) [
        | inl before ↦ before
        | inr after ↦ elim (cases_eq i j) [
          | inl same ↦ absurd (let e = ap (λ n. slice_index keys n) same in omega arith)
          | inr other ↦ absurd (let over = up j i (omega arith) a.0 in omega arith)
        ]
      ]

  pub number_from : (i j k l : ℕ) → IsKeyAt h i k → IsKeyAt h j l → k ≤ l → i ≤ j
  number_from i j k l at other le = elim (cases_lt j i) [
    | inl before ↦ absurd (let over = number_rises j i l k other at before in omega arith)
    | inr after ↦ after
  ]
    where
      number_rises : (i j k l : ℕ) → IsKeyAt h i k → IsKeyAt h j l → i < j → k < l
      number_rises i j k l at other less =
          let a = key_number h keys are i k at in
          let b = key_number h keys are j l other in
          let first = a.1 in
          let second = b.1 in
          let over = up i j less b.0 in
          omega arith

  pub key_before : (i j k l : ℕ) → IsKeyAt h i k → IsKeyAt h j l → i ≤ j → k ≤ l
  key_before i j k l at other le = elim (cases_lt l k) [
    | inl less ↦ absurd (let over = number_before j i l k other at less in omega arith)
    | inr more ↦ more
  ]

  pub has_number : (k u : ℕ) → Wrote h u k → (j : ℕ) × IsKeyAt h j k
  has_number k u wrote = let c = (are.each k).1 (u, wrote) in (c.0, (keys, are, c.1, get_or_default keys c.0 0 k c.1 ∙ c.2))

  -- a number that there is
  pub key_there : (i : ℕ) → HasKeyAt h i → (i < length keys) × IsKeyAt h i (slice_index keys i)
  key_there i has =
      let at : IsKeyAt h i (slice_index has.0 i) = (has.0, has.1, has.2, refl) in
      let own = key_number h keys are i (slice_index has.0 i) at in
      (own.0, (keys, are, own.0, refl))

  pub there_before : (i j k : ℕ) → IsKeyAt h j k → i ≤ j → HasKeyAt h i
  there_before i j k at le = (at.0, at.1, (let below = at.2 in omega arith))

  -- of the keys with numbers from one to before another none below a key has P
  module _ (P : ℕ → Type 0) (from to : ℕ) (some : from < to) (has : (i : ℕ) → i < to → HasKeyAt h i) where
    abbrev pub lo : ℕ
    lo = slice_index keys from

    abbrev pub hi : ℕ
    hi = slice_index keys (to - 1)

    low : IsKeyAt h from lo
    low = (key_there from (has from some)).1

    high : IsKeyAt h (to - 1) hi
    high = (key_there (to - 1) (has (to - 1) (omega arith))).1

    pub passes_none : ((k : ℕ) → lo ≤ k → k ≤ hi → ¬ P k) → (i k : ℕ) → from ≤ i → i < to → IsKeyAt h i k → ¬ P k
    passes_none none i k first last at = none k (key_before from i lo k low at first) (key_before i (to - 1) k hi at high (omega arith))

    pub passes_some : (key n : ℕ) → PointBelow (λ (k : ℕ). k) keys key n → lo ≤ key → key ≤ hi → ((k : ℕ) → lo ≤ k → k < key → ¬ P k)
        → (from ≤ n) × (n < to) × ((i k : ℕ) → from ≤ i → i < n → IsKeyAt h i k → ¬ P k)
    passes_some key n point above under none = (
      elim (cases_lt n from) [
        | inl less ↦
            let first = (key_there from (has from some)).0 in
            let at = point_from (λ (k : ℕ). k) keys key n point n 0 (omega arith) (omega arith) in
            let rise = up n from less first in
            absurd (omega arith)
        | inr more ↦ more
      ],
      elim (cases_lt n to) [
        | inl less ↦ less
        | inr more ↦
            let last = (key_there (to - 1) (has (to - 1) (omega arith))).0 in
            let at = point_below (λ (k : ℕ). k) keys key n point (to - 1) 0 last (omega arith) in
            absurd (omega arith)
      ],
      λ i k first less at.
          let own = key_number h keys are i k at in
          let under = point_below (λ (k : ℕ). k) keys key n point i 0 own.0 less in
          none k (key_before from i lo k low at first) (let e = own.1 in omega arith),
    )

module _ (h : List Event) (wf : IsWellFormed h) (known : Known) (is_known : IsKnown h known) (own : Bool) (from to : ℕ) (gap : IsGap h known own from to) where
  abbrev P : Sight → Type 0
  P = IsSightWithin h known.reader.place from to

  -- what is seen of a key that wasn't listed is version 0
  saw_none : (s : Sight) (is : P s) → SawAt h known.reader.place known.reader.txn s.key 0
  saw_none s is =
      let saw = gap.unlisted is.2 is.4 is.5 in
      subst (λ k. SawAt h known.reader.place known.reader.txn k 0) (one_key h is.2 saw.0 s.key saw.1 is.3) saw.2

  abbrev unlisted : ℕ → Sight
  unlisted k = sight_of known k 0

  only : (s : Sight) → P s → s ≡ unlisted s.key
  only s is = one_sight h wf known.reader.place known.reader.txn s.key 0 is.2 (saw_none s is) is.3 s (is.0, is.1, is.2, is.3, omega arith, omega arith)

  -- where version 0 was due nothing is wrong
  pub none_wrong : (a b : ℕ) → from ≤ a → b ≤ to → ((i k : ℕ) → a ≤ i → i < b → IsKeyAt h i k → IsDue h known.reader.txn known.reader.place k 0) → (old : WrongReads) → AddsWrong h (IsSightWithin h known.reader.place a b) old old
  none_wrong a b low high due = due_not_wrong h wf (IsSightWithin h known.reader.place a b) (λ s is.
      let first = is.4 in
      let last = is.5 in
      let same : s ≡ unlisted s.key = only s (is.0, is.1, is.2, is.3, omega arith, omega arith) in
      subst (λ (x : Sight). IsDue h x.txn x.place x.key x.saw) (sym same) (due is.2 s.key is.4 is.5 is.3))

  -- where the reader wrote none of the keys before, and none has a version as of its start, version 0 is due
  abbrev pub OwnNone : ℕ → Type 0
  OwnNone k = ¬ WroteBefore h known.reader.txn k known.reader.place

  abbrev pub DueNone : ℕ → Type 0
  DueNone k = IsDue h known.reader.txn known.reader.place k 0

  abbrev pub IsVisibleFrom : ℕ → ℕ → Option ℕ → Type 0
  IsVisibleFrom a b visible = MatchOption visible ((i k : ℕ) → a ≤ i → i < b → IsKeyAt h i k → ¬ HasVersionUpTo h k known.reader.start)
      (λ j. (a ≤ j) × (j < b) × ((i k : ℕ) → a ≤ i → i < j → IsKeyAt h i k → ¬ HasVersionUpTo h k known.reader.start) × ((k : ℕ) → IsKeyAt h j k → HasVersionUpTo h k known.reader.start))

  due_none : (k : ℕ) → OwnNone k → ¬ HasVersionUpTo h k known.reader.start → DueNone k
  due_none k other none = none_is_due h wf known.reader.txn known.reader.place k known.reader.start is_known.reader.starts other none

  pub visible_due : (a b : ℕ) (visible : Option ℕ) → ((i k : ℕ) → a ≤ i → i < b → IsKeyAt h i k → OwnNone k) → IsVisibleFrom a b visible → HaveUpTo DueNone h a b visible
  visible_due a b None other none = λ i k first last at. due_none k (other i k first last at) (none i k first last at)
  visible_due a b (Some j) other is = (is.0, is.1, λ i k first less at. due_none k (other i k first (let below = is.1 in omega arith) at) (is.2 i k first less at))

  own_due : (a b : ℕ) (visible : Option ℕ) (end n : ℕ) → end ≡ unwrap_or visible b → IsVisibleFrom a b visible → (a ≤ n) × (n < end) × ((i k : ℕ) → a ≤ i → i < n → IsKeyAt h i k → OwnNone k) → HaveUpTo DueNone h a b (Some n)
  own_due a b None end n same none own = (own.0, (let less = own.1 in omega arith), λ i k first less at. due_none k (own.2 i k first less at) (none i k first (let below = own.1 in omega arith) at))
  own_due a b (Some j) end n same is own = (own.0, (let less = own.1 in let below = is.1 in omega arith), λ i k first less at. due_none k (own.2 i k first less at) (is.2 i k first (let below = own.1 in omega arith) at))

  no_own_due : (a b : ℕ) (visible : Option ℕ) (end : ℕ) → end ≡ unwrap_or visible b → IsVisibleFrom a b visible → ((i k : ℕ) → a ≤ i → i < end → IsKeyAt h i k → OwnNone k) → HaveUpTo DueNone h a b visible
  no_own_due a b None end same none other = λ i k first last at. due_none k (other i k first (omega arith) at) (none i k first last at)
  no_own_due a b (Some j) end same is other = (is.0, is.1, λ i k first less at. due_none k (other i k first (omega arith) at) (is.2 i k first less at))

  pub or_due : (a b : ℕ) (visible own : Option ℕ) (end : ℕ) → end ≡ unwrap_or visible b → IsVisibleFrom a b visible → HaveUpTo OwnNone h a end own → HaveUpTo DueNone h a b (option_or own visible)
  or_due a b visible None end same is none = no_own_due a b visible end same is none
  or_due a b visible (Some n) end same is own = own_due a b visible end n same is own

  -- what is wrong at one key
  pub one_wrong : (i k : ℕ) → from ≤ i → i < to → IsKeyAt h i k → (old new : WrongReads) → (SawAt h known.reader.place known.reader.txn k 0 → AddsWrong h (λ s. s ≡ unlisted k) old new) → AddsWrong h (IsSightWithin h known.reader.place i (i + 1)) old new
  one_wrong i k low less at old new adds =
      let saw = gap.unlisted i low less in
      let here : SawAt h known.reader.place known.reader.txn k 0 = subst (λ j. SawAt h known.reader.place known.reader.txn j 0) (one_key h i saw.0 k saw.1 at) saw.2 in
      wrong_one h (IsSightWithin h known.reader.place i (i + 1)) (unlisted k) (is_sight h wf known.reader.place known.reader.txn k 0 i here at) (one_sight h wf known.reader.place known.reader.txn k 0 i here at) old new (adds here)

  -- those passed over give no look but the range miss
  pub gap_gains : (old : Seen) (wrong : WrongReads) (missed : List (ℕ × RangeMiss))
      → AddsWrong h P old.wrong wrong
      → Gives IsPassedBy (λ at. (known.number ≡ Some at.0) × IsMissAt (record { from = from; to = to }) at.1) old.missed missed
      → (All IsMiss old.missed → All IsMiss missed)
      → Gains h P old (record { wrong = wrong; saw = old.saw; missed = missed; near = old.near })
  gap_gains old wrong missed adds gives some = record {
    wrong = adds;
    looks = λ at. (
      (λ e. elim e [
        | inl look ↦ inl (inl look)
        | inr f ↦ elim ((gives (at.0, at.1)).0 f.0) [
          | inl before ↦ inl (inr (before, f.1))
          | inr is ↦
              let saw = gap.unlisted at.1 is.1.0 is.1.1 in
              let positive : 0 < known.reader.txn = (actor_is_txn h wf known.reader.txn known.reader.place (saw.2.0, saw.2.1, saw.2.2)).0 in
              inr (unlisted saw.0, (refl, saw.2, at.1, saw.1, is.1.0, is.1.1), ((is_known.number at.0).0 is.0, saw.1, (λ zero. omega arith), inl (refl, f.1)))
        ]
      ]),
      (λ e. elim e [
        | inl before ↦ elim before [ inl look ↦ inl look | inr f ↦ inr ((gives (at.0, at.1)).1 (inl f.0), f.1) ]
        | inr f ↦
            let is = f.1 in
            let look = subst (λ (s : Sight). LooksAt h s at) (only f.0 is) f.2 in
            let number : is.2 ≡ at.1 = one_key_number h is.2 at.1 f.0.key is.3 look.1 in
            let first = is.4 in
            let last = is.5 in
            inr ((gives (at.0, at.1)).1 (inr ((is_known.number at.0).1 look.0, (omega arith, omega arith))), one_as_of h wf 0 at.2 0 look.3 (inl (refl, refl)))
      ]),
    );
    placed = λ all. all;
    some = some;
  }

-- the keys with numbers from within the gap
pub part_of_gap : (h : List Event) (known : Known) (own : Bool) (from to : ℕ) → IsGap h known own from to → (a b : ℕ) → from ≤ a → b ≤ to → IsGap h known own a b
part_of_gap h known own from to gap a b low high = record {
  unlisted = λ i first last. gap.unlisted i (omega arith) (omega arith);
  not_own = λ told i k first last at. gap.not_own told i k (omega arith) (omega arith) at;
}
