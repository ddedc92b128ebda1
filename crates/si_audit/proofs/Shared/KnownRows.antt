-- The row of each transaction, and that its recorded start fits it where the row says so.
use Rattle.std.proofs.Common.{◌≡◌, ℕ, ◌<◌, ◌≤◌, List, Some, false, length, get_or, slice_get, sym, subst, ◌∙◌, inl, inr, ◌-◌, arith, ◌↔◌, IsTrue, ◌≢◌, ◌+◌, set, ap, None}
use Rattle.std.proofs.lemmas.Bool.{false≢true, cases_lt, cases_eq}
use Rattle.std.proofs.lemmas.Option.{get_or_from_slice_get, slice_get_within, slice_get-get_or}
use Rattle.sia_events.specs.declared.event.Event.{Event}
use Rattle.sia_events.specs.Numbering.{txns_of}
use Rattle.sia_events.specs.Refusals.{IsWellFormed}
use Rattle.sia_events.specs.Transactions.{HasEvent}
use Rattle.sia_index.proofs.Shared.LogNames.{numbered_has_event, txns_stand_once}
use Rattle.si_audit.specs.Bounds.{EachTxn, IsKnownOf, IsKnownTo, IsBound, IsFirstSoFar, IsLow, IsSoFar, Sees}
use Rattle.si_audit.specs.Snapshots.{FitsStart, IsSnapshot, Bars, IsAsked, IsInNone, AccessesAt, ReadAsks}
use Rattle.si_audit.specs.declared.snapshots.Bounds.{Bounds}
use Rattle.si_audit.proofs.Shared.SnapshotBounds.{access_within, idle_fits, fits_start, start_before, fits_bounds}
use Rattle.sia_events.proofs.Writing.WellFormed.{few_events}
use Rattle.si_audit.specs.SnapshotLines.{AreSnapshots, IsExcluded, IsLatest, IsNeeded}
use Rattle.std.proofs.lemmas.List.{get_or-set_other, get_or-set_same, length-set}
use Rattle.sia_index.proofs.Shared.NumberedNames.{same_some}
use Rattle.sia_events.specs.Events.{actor}
use Rattle.sia_events.specs.Places.{at_place}
use Rattle.sia_events.specs.Reads.{SawAt}
use Rattle.sia_events.proofs.Shared.Starts.{one_event}
use Rattle.sia_events.proofs.Shared.TransactionDecisions.{has_start, place_within}
use Rattle.si_audit.proofs.Shared.SoFar.{bound_alike, sees_none}

-- each transaction's row is there
pub row_known : (h : List Event) (all : List Bounds) → EachTxn (IsKnownOf h) h all → (i t : ℕ) → slice_get (txns_of h) i ≡ Some t → (d : Bounds) → (i < length all) × HasEvent h t × IsKnownOf h t (get_or all i d)
row_known h all each i t at d =
    let row = each i t at in
    (slice_get_within all i row.0 row.1, numbered_has_event h i t at, subst (IsKnownOf h t) (sym (get_or_from_slice_get all i row.0 d row.1)) row.2)

module _ (h : List Event) (wf : IsWellFormed h) (t : ℕ) (b : Bounds) (known : IsKnownOf h t b) where
  -- its recorded start fits
  pub start_fits : HasEvent h t → b.misfit ≡ false → (n : ℕ) × IsSnapshot h t n
  start_fits has unset =
      let fits : ¬ ¬ FitsStart h t = λ none. false≢true (sym unset ∙ known.marked.misfit.1 none) in
      let iff = fits_start h wf t has in
      let start : FitsStart h t = iff.1 (
        (λ p k saw due bad. fits (λ f. (iff.0 f).0 p k saw due bad)),
        (λ k first bad. fits (λ f. (iff.0 f).1 k first bad)),
      ) in
      (start.0, ((λ p access. start_before h wf t start.0 p start.1 access), start.2))

-- ---- Which snapshots fit a transaction that is known of and that its recorded start doesn't fit, and which bounds exclude each other
-- where none does.

module _ (h : List Event) (wf : IsWellFormed h) (t : ℕ) (b : Bounds) (known : IsKnownOf h t b) (misfit : IsTrue b.misfit) where
  first_within : (0 < b.first) × (b.first ≤ 500000000)
  first_within = let within = access_within h t b.first (known.first misfit).0 in let above : 0 < b.first = within.0 in let few : b.first ≤ length h = within.1 in let events : length h ≤ 500000000 = few_events h wf in (above, omega arith)

  low_least : (n : ℕ) → ((c : ℕ) → IsAsked h t c → c ≤ n) → b.low.commit ≤ n
  low_least n asked = elim (known.low misfit) [ inl none ↦ (let zero : b.low.commit ≡ 0 = none.0 in omega arith) | inr needed ↦ asked b.low.commit needed.0 ]

  low_greatest : (c : ℕ) → IsAsked h t c → c ≤ b.low.commit
  low_greatest c asked = elim (known.low misfit) [ inl none ↦ absurd (none.1 c asked) | inr needed ↦ needed.1 c asked ]

  high_above : (n : ℕ) → n ≤ 500000000 → ((c p k : ℕ) → Bars h t c p k → n < c) → n < b.high.commit
  high_above n few barred = elim (cases_lt 0 b.high.place) [
    | inl some ↦ barred b.high.commit b.high.place b.high.key ((known.high misfit).some some).0
    | inr none ↦ (let greatest : b.high.commit ≡ 4294967295 = ((known.high misfit).none (omega arith)).0 in omega arith)
  ]

  module _ (none : (p k : ℕ) → ¬ IsInNone h t p k) where
    -- those that fit are the ones from the latest commit that is asked for to before the first one that is barred, and before the
    -- first access
    pub snapshots_between : (n : ℕ) → IsSnapshot h t n ↔ ((b.low.commit ≤ n) × (n < b.high.commit) × (n < b.first))
    snapshots_between n = (
      (λ fits.
          let bounded = (fits_bounds h wf t n).0 fits.1 in
          let early : n < b.first = fits.0 b.first (known.first misfit).0 in
          grind (arith, first_within, low_least, high_above)),
      (λ within.
          let least : b.low.commit ≤ n = within.0 in
          let below : n < b.high.commit = within.1 in
          let early : n < b.first = within.2 in (
            (λ p access. let up : b.first ≤ p = (known.first misfit).1 p access in omega arith),
            (fits_bounds h wf t n).1 (record {
              none = none;
              low = λ c asked. (let most : c ≤ b.low.commit = low_greatest c asked in omega arith);
              high = λ c p k bars. (let up : b.high.commit ≤ c = (known.high misfit).each c p k bars in omega arith);
            }),
          )),
    )

    -- and where none does something is asked for
    pub needed : ((n : ℕ) → ¬ IsSnapshot h t n) → IsNeeded h t b.low.commit b.low.place b.low.key
    needed never = elim (known.low misfit) [
      | inr x ↦ x
      | inl free ↦ absurd (never 0 ((snapshots_between 0).1 (low_least 0 (λ c asked. absurd (free.1 c asked)), high_above 0 (omega arith) (λ c p k bars. let less : bars.1 < c = bars.7 in omega arith), first_within.0)))
    ]

  -- one that fits is before what is barred, and before the first access
  pub early : (n : ℕ) → IsSnapshot h t n → (n < b.high.commit) × (n < b.first)
  early n fits = let within = (snapshots_between ((fits_bounds h wf t n).0 fits.1).none n).0 fits in (within.1, within.2)

  -- from one to another, where one fits
  pub spans : (n : ℕ) → IsSnapshot h t n → (end : ℕ) → end ≤ b.high.commit → end ≤ b.first → ((m : ℕ) → m < b.high.commit → m < b.first → m < end) → AreSnapshots h t b.low.commit (end - 1)
  spans n fits end before early last =
      let between = snapshots_between ((fits_bounds h wf t n).0 fits.1).none in
      let within = (between n).0 fits in
      let least : b.low.commit ≤ n = within.0 in
      let some : n < end = last n within.1 within.2 in (
        omega arith,
        λ m. (
          (λ s. let x = (between m).0 s in let up : m < end = last m x.1 x.2 in (x.0, omega arith)),
          (λ x. let most : m ≤ end - 1 = x.1 in (between m).1 (x.0, omega arith, omega arith)),
        ),
      )

  pub excluded : b.high.commit < b.first → IsExcluded h t b.high.commit b.high.place b.high.key
  excluded early = (
    (λ q access. let up : b.first ≤ q = (known.first misfit).1 q access in omega arith),
    elim (cases_lt 0 b.high.place) [
      | inl some ↦ (known.high misfit).some some
      | inr none ↦ (let greatest : b.high.commit ≡ 4294967295 = ((known.high misfit).none (omega arith)).0 in let few : b.first ≤ 500000000 = first_within.1 in absurd (omega arith))
    ],
    (known.high misfit).each,
  )

  pub latest : b.first ≤ b.high.commit → IsLatest h t b.first
  latest late = ((known.first misfit).0, (known.first misfit).1, (λ d q j bars. let up : b.high.commit ≤ d = (known.high misfit).each d q j bars in omega arith))

-- ---- Rows of transactions by their numbers, of which one is changed.

-- what is read of a list by a number is what stands there
pub same_row : (all : List Bounds) (n : ℕ) (b r : Bounds) → slice_get all n ≡ Some b → r ≡ get_or all n r → b ≡ r
same_row all n b r is read = sym (get_or_from_slice_get all n b r is) ∙ sym read

-- a row of the list is changed: what is known of it, and of the others
module _ (h : List Event) (all : List Bounds) (n : ℕ) (new : Bounds) where
  set_here : n < length all → slice_get (set all n new) n ≡ Some new
  set_here below = slice_get-get_or (set all n new) n new (let long = length-set all n new in omega arith) ∙ ap Some (get_or-set_same all n new new below)

  set_else : (i : ℕ) (b : Bounds) → i ≢ n → slice_get all i ≡ Some b → slice_get (set all n new) i ≡ Some b
  set_else i b other is =
      let below = slice_get_within all i b is in
      slice_get-get_or (set all n new) i b (let long = length-set all n new in omega arith) ∙ ap Some (get_or-set_other all n i new b other ∙ get_or_from_slice_get all i b b is)

  pub each_set : (P Q : ℕ → ℕ → Bounds → Type 0) (t : ℕ) → slice_get (txns_of h) n ≡ Some t → ((i u : ℕ) (b : Bounds) → u ≢ t → i ≢ n → P i u b → Q i u b) → ((b : Bounds) → P n t b → slice_get all n ≡ Some b → Q n t new)
      → ((i u : ℕ) → slice_get (txns_of h) i ≡ Some u → (b : Bounds) × (slice_get all i ≡ Some b) × P i u b) → (i u : ℕ) → slice_get (txns_of h) i ≡ Some u → (b : Bounds) × (slice_get (set all n new) i ≡ Some b) × Q i u b
  each_set P Q t here others own each i u at = grind (arith, cases_eq, same_some, set_here, slice_get_within, set_else, txns_stand_once)

-- the rows before number n have all that is to be known, and the others what all events tell
abbrev pub AreKnownFrom : List Event → ℕ → List Bounds → Type 0
AreKnownFrom h n all = (i t : ℕ) → slice_get (txns_of h) i ≡ Some t → (b : Bounds) × (slice_get all i ≡ Some b) × ((i < n → IsKnownOf h t b) × (n ≤ i → IsKnownTo h t (length h + 1) b))

-- ---- What is known of a transaction's snapshots goes on from place to place, and at the end is all that there is to be known.

module _ (h : List Event) (wf : IsWellFormed h) (t : ℕ) where
  -- who reads or writes at a place is the actor there
  pub access_actor : (p : ℕ) (e : Event) → at_place h p ≡ Some e → AccessesAt h t p → actor e ≡ t
  access_actor p e at a = grind (arith, one_event)

  pub none_accesses : (p : ℕ) → None ≡ at_place h p → ¬ AccessesAt h t p
  none_accesses p none a = grind arith

  first_on : (p f : ℕ) → ¬ AccessesAt h t p → IsFirstSoFar h t p f → IsFirstSoFar h t (p + 1) f
  first_on p f none is = elim is [
    | inl before ↦ inl (
      before.0,
      λ q a. elim (cases_lt p q) [
        | inl after ↦ omega arith
        | inr le ↦ (let from = before.1 q a in let same : q ≡ p = omega arith in absurd (none (subst (AccessesAt h t) same a)))
      ],
    )
    | inr some ↦ inr some
  ]

  first_at : (p f g : ℕ) → AccessesAt h t p → IsFirstSoFar h t p f → (f ≡ 0 → g ≡ p) → (0 < f → g ≡ f) → IsFirstSoFar h t (p + 1) g
  first_at p f g here is zero more = elim is [
    | inl before ↦ (let same = zero before.0 in inr (subst (AccessesAt h t) (sym same) here, λ q a. let from = before.1 q a in omega arith))
    | inr some ↦ (let same = more (access_within h t f some.0).0 in inr (subst (AccessesAt h t) (sym same) some.0, λ q a. let from = some.1 q a in omega arith))
  ]

  -- a place where t neither reads nor writes tells nothing
  pub known_on : (p : ℕ) → ¬ AccessesAt h t p → (b : Bounds) → IsKnownTo h t p b → IsKnownTo h t (p + 1) b
  known_on p none b is = record {
    marked = is.marked;
    reads = λ bad. (sees_none h wf t p (λ k v u saw wrote. none (k, inr (v, saw))) b).bounds (is.reads bad);
    first = λ bad. first_on p b.first none (is.first bad);
  }

  -- nor does any place where the start fits
  pub known_fit : (p q : ℕ) (b : Bounds) → b.misfit ≡ false → IsKnownTo h t p b → IsKnownTo h t q b
  known_fit p q b fits is = grind (arith, false≢true)

  -- a read or write tells what it sees, and may be the first
  pub known_more : (p : ℕ) (old mid : Bounds) (g : ℕ) → AccessesAt h t p → Sees h t p 0 (p + 1) 0 old mid → (mid.first ≡ 0 → g ≡ p) → (0 < mid.first → g ≡ mid.first) → IsKnownTo h t p old
      → IsKnownTo h t (p + 1) (record { misfit = mid.misfit; never = mid.never; low = mid.low; high = mid.high; first = g })
  known_more p old mid g here sees zero more is = record {
    marked = grind arith;
    reads = λ bad. (let are = sees.bounds (is.reads (subst IsTrue sees.misfit bad)) in record { low = are.low; high = are.high });
    first = λ bad. first_at p old.first g here (is.first (subst IsTrue sees.misfit bad)) (λ none. zero (sees.first ∙ none)) (λ some. (let same = sees.first in more (omega arith) ∙ same));
  }

  fits_idle : HasEvent h t → ((p : ℕ) → ¬ AccessesAt h t p) → FitsStart h t
  fits_idle has none = let start = has_start h t has in (start.0, start.1, idle_fits h t start.0 none)

  -- where the start fits there is no more to be known
  pub known_of_fit : (p : ℕ) (b : Bounds) → b.misfit ≡ false → IsKnownTo h t p b → IsKnownOf h t b
  known_of_fit p b fits is = grind (arith, false≢true)

  -- and else the writes tell the rest
  pub known_of : HasEvent h t → (old new : Bounds) → IsTrue old.misfit → IsKnownTo h t (length h + 1) old → (IsBound (λ c d. d ≤ c) 0 (ReadAsks h t) old.low → IsLow h t new.low) → ◌≡◌ {A = Bounds} new (record { misfit = old.misfit; never = old.never; low = new.low; high = old.high; first = old.first }) → IsKnownOf h t new
  known_of has old new bad is low same = subst (IsKnownOf h t) (sym same) (record {
    marked = record { misfit = is.marked.misfit; never = is.marked.never };
    low = λ _. low (bound_alike (λ c d. d ≤ c) 0 (λ c q k. IsSoFar h (length h + 1) 0 q k × ReadAsks h t c q k) (ReadAsks h t) (λ c q k w. w.1) (λ c q k r. (inl (seen q k r.0 r.1), r)) old.low (is.reads bad).low);
    high = λ _. bound_alike (λ c d. c ≤ d) 4294967295 (λ c q k. IsSoFar h (length h + 1) 0 q k × Bars h t c q k) (Bars h t) (λ c q k w. w.1) (λ c q k r. (inl (seen q k r.0 r.3), r)) old.high (is.reads bad).high;
    first = λ _. elim (is.first bad) [
      | inl none ↦ absurd (is.marked.misfit.0 bad (fits_idle has (λ p a. let w = (access_within h t p a).1 in let from = none.1 p a in absurd (omega arith))))
      | inr some ↦ some
    ];
  })
    where
      seen : (q k v : ℕ) → SawAt h q t k v → q < length h + 1
      seen q k v saw = let w = (place_within h q saw.0 saw.1).1 in omega arith
