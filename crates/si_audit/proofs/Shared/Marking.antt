-- What the bad reads and bad writes, as they are gone over, say of each transaction.
use Rattle.std.proofs.Common.{◌≡◌, ◌≢◌, ◌⊎◌, inl, inr, ℕ, ◌<◌, ◌≤◌, List, [], ◌∷◌, ◌++◌, Bool, Option, replicate, Some, None, true, false, length, get_or, slice_get, set, take, refl, ap, sym, subst, ◌∙◌, arith, rules}
use Rattle.std.specs.Prelude.{◌↔◌, AllPairs, IsTrue, MatchOption, Contains, is_some, not, ⊤}
use Rattle.std.specs.Bool.{then_some}
use Rattle.std.specs.Option.{option_or}
use Rattle.std.proofs.lemmas.Bool.{both_ways, cases_eq, false≢true, not-false, not_from_true, true_from_ne_false, true≢false}
use Rattle.std.proofs.lemmas.List.{get_or-replicate, get_or-set_other, get_or-set_same, get_or-take, get_or_default, length-replicate, length-set, length-take}
use Rattle.std.proofs.lemmas.List.Elements.{Contains-append_left, Contains-push, Contains-push_cases}
use Rattle.std.proofs.lemmas.Option.{slice_get-get_or, slice_get_within}
use Rattle.sia_events.specs.declared.event.Event.{Event}
use Rattle.sia_events.specs.Isolation.{IsBadRead, IsBadWrite}
use Rattle.sia_events.specs.Lists.{Precedes}
use Rattle.sia_events.specs.Numbering.{txns_of}
use Rattle.sia_events.specs.Reads.{IsDue, SawAt}
use Rattle.sia_events.specs.Refusals.{IsWellFormed}
use Rattle.sia_events.specs.Transactions.{HasEvent, IsCommitted, WroteBefore}
use Rattle.sia_events.proofs.OfLaws.Anomalies.{due_wrote_before, wrote_before_due}
use Rattle.sia_events.proofs.OfLaws.Due.{has_due, one_due}
use Rattle.sia_events.proofs.OfLaws.Seen.{saw_written}
use Rattle.sia_events.proofs.Shared.TransactionDecisions.{place_within}
use Rattle.sia_index.specs.declared.info.Lifetime.{Lifetime}
use Rattle.sia_index.specs.Lifetimes.{IsLifetime}
use Rattle.sia_index.proofs.Shared.LogNames.{numbered_has_event, txns_stand_once}
use Rattle.sia_index.proofs.Shared.NumberedNames.{same_some}
use Rattle.sia_parts.specs.declared.finding.BadRead.{BadRead}
use Rattle.sia_parts.specs.declared.finding.BadWrite.{BadWrite}
use Rattle.sia_parts.specs.Entries.{bad_read_rank}
use Rattle.sia_parts.specs.Findings.{ListsBadReads, ListsBadWrites}
use Rattle.si_audit.specs.Bounds.{EachTxn, IsKnownTo, IsSoFar}
use Rattle.si_audit.specs.Snapshots.{FitsStart, IsFirst, IsInNone}
use Rattle.si_audit.specs.declared.snapshots.Bounds.{Bounds}
use Rattle.si_audit.proofs.Shared.SnapshotBounds.{access_within, fits_start}

-- of a transaction nothing is known yet
abbrev pub unknown : Bounds
unknown = record { misfit = false; never = None; low = record { commit = 0; place = 0; key = 0 }; high = record { commit = 4294967295; place = 0; key = 0 }; first = 0 }

-- no snapshot has what this bad read saw
abbrev pub IsLost : List Event → BadRead → Type 0
IsLost h r = (r.due ≡ r.txn) ⊎ ((r.saw ≢ 0) × ¬ IsCommitted h r.saw)

abbrev pub HasRead : List BadRead → ℕ → Type 0
HasRead reads t = (r : BadRead) × Contains reads r × (r.txn ≡ t)

abbrev pub HasWrite : List BadWrite → ℕ → Type 0
HasWrite writes t = (w : BadWrite) × Contains writes w × (w.second ≡ t)

-- the first of t's reads that no snapshot has
pub record IsFirstLost (h : List Event) (reads : List BadRead) (t : ℕ) (at : ℕ × ℕ) : Type 0 where
  pub read : BadRead
  pub listed : Contains reads read
  pub own : read.txn ≡ t
  pub lost : IsLost h read
  pub place : at.0 ≡ read.place
  pub key : at.1 ≡ read.key
  pub first : (s : BadRead) → Contains reads s → s.txn ≡ t → IsLost h s → (read.place < s.place) ⊎ ((read.place ≡ s.place) × (read.key ≤ s.key))

-- or that there is none
abbrev pub TellsLost : List Event → List BadRead → ℕ → Option (ℕ × ℕ) → Type 0
TellsLost h reads t told = MatchOption told ((r : BadRead) → Contains reads r → r.txn ≡ t → ¬ IsLost h r) (IsFirstLost h reads t)

-- what these bad reads and bad writes say of t
pub record IsTold (h : List Event) (reads : List BadRead) (writes : List BadWrite) (t : ℕ) (b : Bounds) : Type 0 where
  pub misfit : IsTrue b.misfit ↔ (HasRead reads t ⊎ HasWrite writes t)
  pub never : TellsLost h reads t b.never
  pub low : b.low ≡ unknown.low
  pub high : b.high ≡ unknown.high
  pub first : b.first ≡ 0

-- of each transaction, by its number in the log
pub record AreTold (h : List Event) (reads : List BadRead) (writes : List BadWrite) (all : List Bounds) : Type 0 where
  pub long : length all ≡ length (txns_of h)
  pub each : (i t : ℕ) → slice_get (txns_of h) i ≡ Some t → IsTold h reads writes t (get_or all i unknown)

pub told_none : (h : List Event) (t : ℕ) → IsTold h [] [] t unknown
told_none h t = grind (arith, true≢false)

-- that a transaction has no commit is told by a look-up
pub unknown_or_none : (h : List Event) (t : ℕ) (o : Option Lifetime) (none : Bool) → is_some o ≡ not none → MatchOption o (¬ IsCommitted h t) (IsLifetime h t) → IsTrue none ↔ (¬ IsCommitted h t)
unknown_or_none h t o none is not_there = grind (arith, not-false, true≢false, not_from_true)

-- at first
pub told_first : (h : List Event) (n : ℕ) → n ≡ length (txns_of h) → (all : List Bounds) → all ≡ replicate n unknown → AreTold h [] [] all
told_first h n long all same = grind (arith, length-replicate, get_or-replicate, slice_get_within, told_none)

-- bad reads before one in the list are of an earlier place or key
pub earlier_reads : (reads : List BadRead) → AllPairs (λ x y. Precedes (bad_read_rank x) (bad_read_rank y)) reads → (k : ℕ) → k < length reads → (d s : BadRead) → Contains (take k reads) s → (s.place < (get_or reads k d).place) ⊎ ((s.place ≡ (get_or reads k d).place) × (s.key < (get_or reads k d).key))
earlier_reads reads up k inside d s (j, below, here) =
    let less : j < k = omega (arith, length-take k reads) in
    let there : get_or reads j s ≡ s = sym (get_or-take k reads j s less) ∙ here in
    let before = up j k s less inside in
    of_ranks (subst (λ y. Precedes (bad_read_rank s) (bad_read_rank y)) (get_or_default reads k s d inside) (subst (λ x. Precedes (bad_read_rank x) (bad_read_rank (get_or reads k s))) there before))
  where
    of_ranks : Precedes (bad_read_rank s) (bad_read_rank (get_or reads k d)) → (s.place < (get_or reads k d).place) ⊎ ((s.place ≡ (get_or reads k d).place) × (s.key < (get_or reads k d).key))
    of_ranks (inl less) = inl less
    of_ranks (inr (same, inl less)) = inr (same, less)
    of_ranks (inr (same, inr none)) = absurd none.1

-- how a bad read changes what is known of its transaction
pub record TakesRead (h : List Event) (r : BadRead) (is : Bool) (old new : Bounds) : Type 0 where
  pub told : IsTrue is ↔ IsLost h r
  pub misfit : new.misfit ≡ true
  pub never : new.never ≡ option_or old.never (then_some is (r.place, r.key))
  pub low : new.low ≡ old.low
  pub high : new.high ≡ old.high
  pub first : new.first ≡ old.first

module _ (h : List Event) (reads : List BadRead) (writes : List BadWrite) (r : BadRead) (t : ℕ) (old : Bounds) (told : IsTold h reads writes t old) where
  abbrev more : List BadRead
  more = reads ++ r ∷ []

  longer : HasRead reads t → HasRead more t
  longer (s, c, own) = (s, Contains-append_left reads (r ∷ []) s c, own)

  -- nothing, if it is of another
  read_of_other : r.txn ≢ t → IsTold h more writes t old
  read_of_other other = record {
    misfit = (
      (λ mis. elim (told.misfit.0 mis) [ inl has ↦ inl (longer has) | inr has ↦ inr has ]),
      (λ has. told.misfit.1 (elim has [ inl s ↦ inl (s.0, before s.0 s.1 s.2, s.2) | inr w ↦ inr w ])),
    );
    never = of_never old.never told.never;
    low = told.low;
    high = told.high;
    first = told.first;
  }
    where
      before : (s : BadRead) → Contains more s → s.txn ≡ t → Contains reads s
      before s c own = elim (Contains-push_cases reads r s c) [ inl old ↦ old | inr same ↦ absurd (other (ap (λ (x : BadRead). x.txn) same ∙ own)) ]

      of_never : (o : Option (ℕ × ℕ)) → TellsLost h reads t o → TellsLost h more t o
      of_never None none = λ s c own. none s (before s c own) own
      of_never (Some at) is = record { read = is.read; listed = Contains-append_left reads (r ∷ []) is.read is.listed; own = is.own; lost = is.lost; place = is.place; key = is.key; first = λ s c own. is.first s (before s c own) own }

  module _ (own : r.txn ≡ t) (behind : (s : BadRead) → Contains reads s → (s.place < r.place) ⊎ ((s.place ≡ r.place) × (s.key < r.key))) (is : Bool) (new : Bounds) (takes : TakesRead h r is old new) where
    its : IsLost h r → ((s : BadRead) → Contains reads s → s.txn ≡ t → ¬ IsLost h s) → IsFirstLost h more t (r.place, r.key)
    its lost none = record {
      read = r;
      listed = Contains-push reads r;
      own = own;
      lost = lost;
      place = refl;
      key = refl;
      first = λ s c mine found. elim (Contains-push_cases reads r s c) [
        | inl before ↦ absurd (none s before mine found)
        | inr same ↦ inr (ap (λ (x : BadRead). x.place) same, (let e = ap (λ (x : BadRead). x.key) same in omega arith))
      ];
    }

    of_own : (o : Option (ℕ × ℕ)) (b : Bool) → (IsTrue b ↔ IsLost h r) → TellsLost h reads t o → TellsLost h more t (option_or o (then_some b (r.place, r.key)))
    of_own None true so none = its (so.0 refl) none
    of_own None false so none = λ s c mine lost. elim (Contains-push_cases reads r s c) [ inl before ↦ none s before mine lost | inr same ↦ false≢true (so.1 (subst (IsLost h) (sym same) lost)) ]
    of_own (Some at) b so found = record {
      read = found.read;
      listed = Contains-append_left reads (r ∷ []) found.read found.listed;
      own = found.own;
      lost = found.lost;
      place = found.place;
      key = found.key;
      first = λ s c mine lost. elim (Contains-push_cases reads r s c) [
        | inl before ↦ found.first s before mine lost
        | inr same ↦ elim (behind found.read found.listed) [
          | inl less ↦ inl (let e = ap (λ (x : BadRead). x.place) same in omega arith)
          | inr even ↦ inr (even.0 ∙ ap (λ (x : BadRead). x.place) same, (let e = ap (λ (x : BadRead). x.key) same in let less = even.1 in omega arith))
        ]
      ];
    }

    read_of_own : IsTold h more writes t new
    read_of_own = record {
      misfit = ((λ mis. inl (r, Contains-push reads r, own)), λ has. takes.misfit);
      never = subst (TellsLost h more t) (sym takes.never) (of_own old.never is takes.told told.never);
      low = takes.low ∙ told.low;
      high = takes.high ∙ told.high;
      first = takes.first ∙ told.first;
    }

-- as two writes to its row leave it
pub takes_read : (h : List Event) (r : BadRead) (is : Bool) → (IsTrue is ↔ IsLost h r) → (all : List Bounds) (n : ℕ) → n < length all → (a b d : Bounds) → a ≡ get_or all n a → b ≡ get_or (set all n (record a { misfit = true })) n b → d ≡ get_or (set all n (record a { misfit = true })) n d → (never : Option (ℕ × ℕ)) → never ≡ option_or d.never (then_some is (r.place, r.key))
    → TakesRead h r is (get_or all n unknown) (record b { never = never })
takes_read h r is told all n inside a b d first second third never same = grind (arith, get_or_default, get_or-set_same)

-- a bad write makes its second a misfit
module _ (h : List Event) (reads : List BadRead) (writes : List BadWrite) (w : BadWrite) (t : ℕ) (old : Bounds) (told : IsTold h reads writes t old) where
  write_of_other : w.second ≢ t → IsTold h reads (writes ++ w ∷ []) t old
  write_of_other other = record {
    misfit = (
      (λ mis. elim (told.misfit.0 mis) [ inl has ↦ inl has | inr has ↦ inr (has.0, Contains-append_left writes (w ∷ []) has.0 has.1, has.2) ]),
      (λ has. told.misfit.1 (elim has [
        | inl r ↦ inl r
        | inr x ↦ elim (Contains-push_cases writes w x.0 x.1) [ inl before ↦ inr (x.0, before, x.2) | inr same ↦ absurd (other (ap (λ (y : BadWrite). y.second) same ∙ x.2)) ]
      ])),
    );
    never = told.never;
    low = told.low;
    high = told.high;
    first = told.first;
  }

  write_of_own : w.second ≡ t → IsTold h reads (writes ++ w ∷ []) t (record old { misfit = true })
  write_of_own own = grind (arith, Contains-push)

-- a row is changed, and each other row is of another transaction
told_more : (h : List Event) (n t : ℕ) → slice_get (txns_of h) n ≡ Some t → (reads more_reads : List BadRead) (writes more_writes : List BadWrite) (all : List Bounds) → AreTold h reads writes all → (new : Bounds)
    → ((u : ℕ) (b : Bounds) → t ≢ u → IsTold h reads writes u b → IsTold h more_reads more_writes u b) → (IsTold h reads writes t (get_or all n unknown) → IsTold h more_reads more_writes t new) → AreTold h more_reads more_writes (set all n new)
told_more h n t at reads more_reads writes more_writes all told new other own = record {
  long = length-set all n new ∙ told.long;
  each = λ i u is. elim (cases_eq i n) [
    | inl same ↦
        let name : t ≡ u = same_some t u (sym at ∙ ap (slice_get (txns_of h)) (sym same) ∙ is) in
        let here : get_or (set all n new) n unknown ≡ new = get_or-set_same all n new unknown (let below = slice_get_within (txns_of h) n t at in omega (arith, told.long)) in
        subst (λ j. IsTold h more_reads more_writes u (get_or (set all n new) j unknown)) (sym same) (subst (IsTold h more_reads more_writes u) (sym here) (subst (λ v. IsTold h more_reads more_writes v new) name (own (told.each n t at))))
    | inr differ ↦
        subst (IsTold h more_reads more_writes u) (sym (get_or-set_other all n i new unknown differ))
        (other u (get_or all i unknown) (λ same. differ (txns_stand_once h i n t (subst (λ v. slice_get (txns_of h) i ≡ Some v) (sym same) is) at)) (told.each i u is))
  ];
}

-- the next bad read, and the next bad write
pub told_read : (h : List Event) (n : ℕ) (reads : List BadRead) (writes : List BadWrite) (all : List Bounds) (r : BadRead) (is : Bool) (new : Bounds) → slice_get (txns_of h) n ≡ Some r.txn
    → ((s : BadRead) → Contains reads s → (s.place < r.place) ⊎ ((s.place ≡ r.place) × (s.key < r.key))) → TakesRead h r is (get_or all n unknown) new → AreTold h reads writes all → AreTold h (reads ++ r ∷ []) writes (set all n new)
told_read h n reads writes all r is new at behind takes told = search (rules, told, told_more, read_of_other, read_of_own)

pub told_write : (h : List Event) (n : ℕ) (reads : List BadRead) (writes : List BadWrite) (all : List Bounds) (w : BadWrite) → slice_get (txns_of h) n ≡ Some w.second
    → AreTold h reads writes all → AreTold h reads (writes ++ w ∷ []) (set all n (record (get_or all n unknown) { misfit = true }))
told_write h n reads writes all w at told = search (rules, arith, told_more, write_of_other, write_of_own)

-- all of them tell what there is to know before the first event
module _ (h : List Event) (wf : IsWellFormed h) (reads : List BadRead) (writes : List BadWrite) (bad_reads : ListsBadReads h (λ _. ⊤) reads) (bad_writes : ListsBadWrites h (λ _. ⊤) writes) (t : ℕ) (has : HasEvent h t) (b : Bounds) (told : IsTold h reads writes t b) where
  bad_read : (r : BadRead) → Contains reads r → r.txn ≡ t → IsBadRead h r.place t r.key r.saw r.due
  bad_read r c own = subst (λ u. IsBadRead h r.place u r.key r.saw r.due) own ((bad_reads.each r).0 c).0

  misfit_is : IsTrue b.misfit ↔ (¬ FitsStart h t)
  misfit_is = (
    (λ mis fits. let none = (fits_start h wf t has).0 fits in elim (told.misfit.0 mis) [
      | inl r ↦ none.0 r.0.place r.0.key r.0.saw r.0.due (bad_read r.0 r.1 r.2)
      | inr w ↦ none.1 w.0.key w.0.first (subst (IsBadWrite h w.0.key w.0.first) w.2 ((bad_writes.each w.0).0 w.1).0)
    ]),
    (λ none. true_from_ne_false b.misfit (λ unset. none ((fits_start h wf t has).1 (
      (λ p k saw due bad. let r : BadRead = record { place = p; txn = t; key = k; saw = saw; due = due } in both_ways b.misfit unset (told.misfit.1 (inl (r, (bad_reads.each r).1 (bad, tt), refl)))),
      (λ k first bad. let w : BadWrite = record { key = k; first = first; second = t } in both_ways b.misfit unset (told.misfit.1 (inr (w, (bad_writes.each w).1 (bad, tt), refl)))),
    )))),
  )

  lost_in_none : (r : BadRead) → Contains reads r → r.txn ≡ t → IsLost h r → IsInNone h t r.place r.key
  lost_in_none r c own lost =
      let bad = bad_read r c own in (
        r.saw,
        bad.0,
        elim lost [
          | inl due ↦ inl (wrote_before_due h wf r.place t r.key r.saw r.due bad (due ∙ own), (λ same. bad.2 (same ∙ sym own ∙ sym due)))
          | inr not_there ↦ inr (
            not_there.0,
            (λ same. bad.2 (same ∙ sym (due_wrote_before h wf r.place t r.key r.saw r.due bad (subst (λ u. WroteBefore h u r.key r.place) same (saw_written h wf r.place t r.key r.saw bad.0 not_there.0))))),
            not_there.1,
          )
        ],
      )

  in_none_lost : (p k : ℕ) → IsInNone h t p k → (r : BadRead) × Contains reads r × (r.txn ≡ t) × IsLost h r × (r.place ≡ p) × (r.key ≡ k)
  in_none_lost p k (v, saw, why) =
      let due = has_due h wf t p k has in
      let r : BadRead = record { place = p; txn = t; key = k; saw = v; due = due.0 } in
      let is = told_by due.0 due.1 why in
      (r, (bad_reads.each r).1 ((saw, due.1, is.0), tt), refl, is.1, refl, refl)
    where
      never_due : (v ≢ 0) × (v ≢ t) × (¬ IsCommitted h v) → ¬ IsDue h t p k v
      never_due other (inl own) = other.1 own.1
      never_due other (inr (none, inl newest)) = other.2 (newest.0.1.1, newest.0.1.3)
      never_due other (inr (none, inr zero)) = other.0 zero.1

      told_by : (due : ℕ) → IsDue h t p k due → (WroteBefore h t k p × (v ≢ t)) ⊎ ((v ≢ 0) × (v ≢ t) × ¬ IsCommitted h v) → (v ≢ due) × ((due ≡ t) ⊎ ((v ≢ 0) × ¬ IsCommitted h v))
      told_by due is (inl own) = let same : due ≡ t = one_due h t p k due t is (inl (own.0, refl)) in ((λ e. own.1 (e ∙ same)), inl same)
      told_by due is (inr other) = ((λ e. never_due other (subst (IsDue h t p k) (sym e) is)), inr (other.0, other.2))

  never_is : MatchOption b.never ((p k : ℕ) → ¬ IsInNone h t p k) (λ at. IsFirst (IsInNone h t) at.0 at.1)
  never_is = of_option b.never told.never
    where
      of_option : (o : Option (ℕ × ℕ)) → TellsLost h reads t o → MatchOption o ((p k : ℕ) → ¬ IsInNone h t p k) (λ at. IsFirst (IsInNone h t) at.0 at.1)
      of_option None none = λ p k is. let r = in_none_lost p k is in none r.0 r.1 r.2 r.3
      of_option (Some at) is = (
        subst (λ p. IsInNone h t p at.1) (sym is.place) (subst (IsInNone h t is.read.place) (sym is.key) (lost_in_none is.read is.listed is.own is.lost)),
        λ q j none. let s = in_none_lost q j none in let place = s.4 in let key = s.5 in let here = is.place in let there = is.key in elim (is.first s.0 s.1 s.2 s.3) [
          | inl less ↦ inl (omega arith)
          | inr even ↦ let same = even.0 in let least = even.1 in inr (omega arith, omega arith)
        ],
      )

  none_so_far : (q k v : ℕ) → ¬ (IsSoFar h 1 0 q k × SawAt h q t k v)
  none_so_far q k v p = grind (arith, place_within)

  pub known_first : IsKnownTo h t 1 b
  known_first = grind (arith, misfit_is, never_is, none_so_far, access_within)

-- so each row is known
pub known_all : (h : List Event) → IsWellFormed h → (reads : List BadRead) (writes : List BadWrite) → ListsBadReads h (λ _. ⊤) reads → ListsBadWrites h (λ _. ⊤) writes → (all : List Bounds) → AreTold h reads writes all → EachTxn (λ t. IsKnownTo h t 1) h all
known_all h wf reads writes bad_reads bad_writes all told i t at = (
  get_or all i unknown,
  slice_get-get_or all i unknown (let below = slice_get_within (txns_of h) i t at in omega (arith, told.long)),
  known_first h wf reads writes bad_reads bad_writes t (numbered_has_event h i t at) (get_or all i unknown) (told.each i t at),
)
