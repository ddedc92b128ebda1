-- What follows from a view: what is due, and which look it gives.
use Rattle.std.proofs.Common.{◌≡◌, ◌≢◌, inl, inr, ℕ, ◌+◌, ◌<◌, ◌≤◌, List, Option, Some, None, Result, Ok, Err, Bool, false, sym, subst, arith}
use Rattle.std.specs.Prelude.{◌↔◌, MatchOption, OnOk}
use Rattle.std.specs.Option.{is_some}
use Rattle.sia_events.specs.declared.event.Event.{Event}
use Rattle.sia_events.specs.declared.event.Event.TheVariants.{Read}
use Rattle.sia_events.specs.Events.{Saw}
use Rattle.sia_events.specs.NarrowDependencies.{IsAsOf}
use Rattle.sia_events.specs.Numbering.{names_of, pair_at}
use Rattle.sia_events.specs.Places.{at_place}
use Rattle.sia_events.specs.Reads.{IsDue}
use Rattle.sia_events.specs.Refusals.{IsWellFormed}
use Rattle.sia_events.specs.Transactions.{Wrote, WroteBefore}
use Rattle.sia_events.proofs.OfLaws.Seen.{actor_is_txn, saw_written}
use Rattle.sia_events.proofs.Shared.Starts.{one_event}
use Rattle.sia_index.specs.Info.{IsKeyAt}
use Rattle.sia_index.specs.declared.info.KeyVersion.{KeyVersion}
use Rattle.sia_index.specs.Positions.{IsAtPosition, IsNewestAsOf}
use Rattle.sia_parts.specs.declared.audit.sights.Known.{Known}
use Rattle.sia_parts.specs.declared.audit.sights.Seen.{Seen}
use Rattle.sia_parts.specs.Sights.{Adds, Sight, IsSight, LooksAt}
use Rattle.sia_parts.specs.declared.audit.sights.View.{View}
use Rattle.sia_parts.specs.declared.audit.sights.WrongReads.{WrongReads}
use Rattle.sia_parts.specs.Known.{IsKnown}
use Rattle.sia_parts.specs.Seeing.{AddsWrong, Gains, IsLoose, IsPositionOf, IsSightWithin, IsView, sight_of}
use Rattle.sia_parts.proofs.Auditing.Gaining.{GainsLook, gains_one, gains_same, is_sight, look_gains, one_sight}
use Rattle.sia_parts.proofs.Shared.OneNumber.{at_is_written, one_key_number}
use Rattle.sia_parts.proofs.Auditing.Positions.{at_as_of, newest_is_due}
use Rattle.sia_parts.proofs.Auditing.Saw.{due_not_wrong}

pub on_ok : {T E : Type 0} (r : Result T E) (P Q : Type 0) → (P → Q) → OnOk r P → OnOk r Q
on_ok (Ok x) P Q to p = to p
on_ok (Err e) P Q to p = tt

pub on_both : {T E : Type 0} (r : Result T E) (P Q R : Type 0) → (P → Q → R) → OnOk r P → OnOk r Q → OnOk r R
on_both (Ok x) P Q R to p q = to p q
on_both (Err e) P Q R to p q = tt

module _ (h : List Event) (wf : IsWellFormed h) (known : Known) (is_known : IsKnown h known) (view : View) (is : IsView h known view) where
  t : ℕ
  t = known.reader.txn

  p : ℕ
  p = known.reader.place

  abbrev k : ℕ
  k = (pair_at (names_of h) view.pair).0

  abbrev v : ℕ
  v = (pair_at (names_of h) view.pair).1

  abbrev pub seen_sight : Sight
  seen_sight = sight_of known k v

  -- where the version stands
  pub stands : (q : ℕ) → view.at.position ≡ Some q → IsPositionOf h k v q
  stands q some = subst (λ (o : Option ℕ). MatchOption o (IsLoose h v) (IsPositionOf h k v)) some is.at.position

  -- who hadn't written the key saw another's version
  pub saw_other : view.mine ≡ false → v ≢ known.reader.txn
  saw_other told same =
      let positive : 0 < known.reader.txn = (actor_is_txn h wf known.reader.txn known.reader.place (is.saw.0, is.saw.1, is.saw.2)).0 in
      let before = saw_written h wf known.reader.place known.reader.txn k v is.saw (λ zero. omega arith) in
      let mine = is.mine.1 (subst (λ u. WroteBefore h u k known.reader.place) same before) in
      cc

  -- what is the newest as of the start is due to it
  pub seen_is_due : (q : ℕ) → view.at.position ≡ Some q → view.mine ≡ false → ((w : KeyVersion) → IsAtPosition h q w → IsNewestAsOf h known.reader.start w) → IsDue h known.reader.txn known.reader.place k v
  seen_is_due q some told newest =
      let there = stands q some in
      let w = there.0 in
      let other : ¬ WroteBefore h known.reader.txn w.key known.reader.place = λ before. let mine = is.mine.1 (subst (λ j. WroteBefore h known.reader.txn j known.reader.place) there.2 before) in cc in
      subst (IsDue h known.reader.txn known.reader.place k) there.3 (subst (λ j. IsDue h known.reader.txn known.reader.place j w.txn) there.2
      (newest_is_due h wf known.reader.txn known.reader.place known.reader.start q w there.1 is_known.reader.starts other (newest w there.1)))

  -- a version without a position, or the reader's own, gives no look
  pub looks_not : view.at.position ≡ None → (at : ℕ × ℕ × ℕ) → ¬ LooksAt h seen_sight at
  looks_not none at look =
      let loose = subst (λ (o : Option ℕ). MatchOption o (IsLoose h v) (IsPositionOf h k v)) none is.at.position in
      elim look.3 [ inl zero ↦ loose.0 zero.0 | inr commits ↦ loose.1 (at.2, commits) ]

  pub own_not : v ≡ known.reader.txn → (at : ℕ × ℕ × ℕ) → ¬ LooksAt h seen_sight at
  own_not same at look = look.2 same

  -- which versions have no position
  loose_told : (o : Option ℕ) → MatchOption o (IsLoose h v) (IsPositionOf h k v) → (told : Bool) → told ≡ is_some o → (told ≡ false) ↔ IsLoose h v
  loose_told None loose told same = ((λ no. loose), (λ yes. same))
  loose_told (Some q) there told same = (
    (λ no. absurd cc),
    (λ loose.
        let as_of = subst (λ u. IsAsOf h u there.0.commit) there.3 (at_as_of h q there.0 there.1) in
        elim as_of [ inl zero ↦ absurd (loose.0 zero.0) | inr commits ↦ absurd (loose.1 (there.0.commit, commits)) ]),
  )

  -- what the names give, where they are those of the version
  pub wrong_named : (names : ℕ × ℕ) → names ≡ pair_at (names_of h) view.pair → (due : ℕ) → IsDue h known.reader.txn known.reader.place k due → (committed : Bool) → committed ≡ is_some view.at.position → (old new : WrongReads)
      → ((g : List Event) → IsWellFormed g → IsKnown g known → IsSight g (sight_of known names.0 names.1) → IsDue g known.reader.txn known.reader.place names.0 due → ((committed ≡ false) ↔ IsLoose g names.1)
      → AddsWrong g (λ s. s ≡ sight_of known names.0 names.1) old new) → AddsWrong h (λ s. s ≡ seen_sight) old new
  wrong_named names same due is_due committed told old new adds = subst (λ (q : ℕ × ℕ). IsSight h (sight_of known q.0 q.1) → IsDue h known.reader.txn known.reader.place q.0 due → ((committed ≡ false) ↔ IsLoose h q.1)
      → AddsWrong h (λ s. s ≡ sight_of known q.0 q.1) old new) same (adds h wf is_known) is.saw is_due (loose_told view.at.position is.at.position committed told)

  pub gains_view : (old : Seen) (wrong : WrongReads) (saw : List (ℕ × ℕ)) → AddsWrong h (λ s. s ≡ seen_sight) old.wrong wrong → GainsLook h seen_sight old.saw saw
      → Gains h (IsSightWithin h known.reader.place view.at.key (view.at.key + 1)) old (record { wrong = wrong; saw = saw; missed = old.missed; near = old.near })
  gains_view old wrong saw adds gains = gains_one h (IsSightWithin h known.reader.place view.at.key (view.at.key + 1)) seen_sight
      (is_sight h wf known.reader.place known.reader.txn k v view.at.key is.saw is.at.key)
      (one_sight h wf known.reader.place known.reader.txn k v view.at.key is.saw is.at.key)
      old wrong saw adds gains

  -- what is the newest as of the start is no wrong read, and its look is added
  pub gains_newest : (q : ℕ) → view.at.position ≡ Some q → view.mine ≡ false → ((w : KeyVersion) → IsAtPosition h q w → IsNewestAsOf h known.reader.start w)
      → (old : Seen) (saw : List (ℕ × ℕ)) → Adds (λ (p : ℕ × ℕ). (known.number ≡ Some p.0) × (p.1 ≡ q)) old.saw saw
      → Gains h (IsSightWithin h known.reader.place view.at.key (view.at.key + 1)) old (record { wrong = old.wrong; saw = saw; missed = old.missed; near = old.near })
  gains_newest q some told newest old saw adds = gains_view old old.wrong saw
      (due_not_wrong h wf (λ s. s ≡ seen_sight) (λ s same. subst (λ (x : Sight). IsDue h x.txn x.place x.key x.saw) (sym same) (seen_is_due q some told newest)) old.wrong)
      (look_gains h wf seen_sight known.number q is_known.number (saw_other told) (stands q some) old.saw saw adds)

-- where a transaction read a key only, all that is seen there is of that key
module _ (h : List Event) (p t k v : ℕ) (at : at_place h p ≡ Some (Read t k v)) where
  pub read_key : (s : Sight) → IsSight h s → s.place ≡ p → s.key ≡ k
  read_key s saw place =
      let event : saw.0 ≡ Read t k v = one_event h s.place p saw.0 (Read t k v) place saw.1 at in
      (subst (λ e. Saw e s.key s.saw) event saw.3).0

  -- a key that isn't written, or has another number, gives nothing
  pub read_unwritten : (from to : ℕ) → ((u : ℕ) → ¬ Wrote h u k) → (s : Sight) → ¬ IsSightWithin h p from to s
  read_unwritten from to none s is =
      let wrote = at_is_written h is.2 s.key is.3 in
      none wrote.0 (subst (Wrote h wrote.0) (read_key s is.1 is.0) wrote.1)

  pub read_number : (i from to : ℕ) → IsKeyAt h i k → (s : Sight) → IsSightWithin h p from to s → (from ≤ i) × (i < to)
  read_number i from to key s is =
      let same : is.2 ≡ i = one_key_number h is.2 i k (subst (IsKeyAt h is.2) (read_key s is.1 is.0) is.3) key in
      let low = is.4 in
      let less = is.5 in
      (omega arith, omega arith)

  pub read_gains : (i from to : ℕ) → IsKeyAt h i k → from ≤ i → i < to → (old new : Seen) → Gains h (IsSightWithin h p i (i + 1)) old new → Gains h (IsSightWithin h p from to) old new
  read_gains i from to key low less old new gains = gains_same h (IsSightWithin h p i (i + 1)) (IsSightWithin h p from to)
      (λ s is. (is.0, is.1, is.2, is.3, (let a = is.4 in omega arith), (let b = is.5 in omega arith)))
      (λ s is.
      let same : is.2 ≡ i = one_key_number h is.2 i k (subst (IsKeyAt h is.2) (read_key s is.1 is.0) is.3) key in
      (is.0, is.1, is.2, is.3, omega arith, omega arith))
      old new gains
