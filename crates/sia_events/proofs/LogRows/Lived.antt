-- Where transactions start and how they end, with one event more.
use Rattle.std.proofs.Common.{◌≡◌, ◌≢◌, ◌⊎◌, inl, inr, ℕ, zero, suc, ◌≤◌, true, false, List, [], ◌∷◌, ◌++◌, length, take, set, Option, Some, None, refl, sym, subst, ap, arith, slice_get}
use Rattle.std.specs.Prelude.{All, ◌==◌, MatchOption}
use Rattle.std.specs.List.{list_any}
use Rattle.std.proofs.Math.Seq.{take-append_seam}
use Rattle.sia_events.specs.declared.event.Event.{Event}
use Rattle.sia_events.specs.declared.event.Event.TheVariants.{Commit, Abort}
use Rattle.sia_events.specs.declared.log.TxnRow.{TxnRow}
use Rattle.sia_events.specs.declared.log.TxnEnd.{TxnEnd}
use Rattle.sia_events.specs.declared.log.TxnEnd.TheVariants.{Open, Committed, Aborted}
use Rattle.sia_events.specs.Events.{actor, named_start}
use Rattle.sia_events.specs.Places.{at_place}
use Rattle.sia_events.specs.Known.{acts, ends}
use Rattle.sia_events.specs.Transactions.{IsFirstEvent, StartsAt, IsOpen}
use Rattle.sia_events.specs.Numbering.{Ends}
use Rattle.sia_events.specs.Drafts.{new_txn}
use Rattle.sia_events.specs.LogTables.{Lives}
use Rattle.sia_events.proofs.Shared.Faults.{IsAmong, any_among, among_any, same_true, ends_is, true_false}
use Rattle.std.proofs.lemmas.Bool.{or_parts, false_from_ne_true}
use Rattle.std.proofs.lemmas.Bool.Decides.{nat_tests}
use Rattle.std.proofs.lemmas.Option.{get_or_from_slice_get, slice_get_within}
use Rattle.sia_events.proofs.Shared.EventTests.{starts_before, starts_named, acts as as_test}
use Rattle.std.proofs.lemmas.List.Elements.{All-cons, All-nil}
use Rattle.sia_events.proofs.LogRows.RowsRead.{get_more, push_cases}

pub at_more : (h : List Event) (e f : Event) (p : ℕ) → at_place h p ≡ Some f → at_place (h ++ e ∷ []) p ≡ Some f
at_more h e f p at = grind (arith, get_more)

pub at_push : (h : List Event) (e f : Event) (p : ℕ) → at_place (h ++ e ∷ []) p ≡ Some f → (at_place h p ≡ Some f) ⊎ ((p ≡ suc (length h)) × (f ≡ e))
at_push h e f zero at = absurd (let x : None ≡ Some f = at in cc)
at_push h e f (suc i) at = elim (push_cases h e i f at) [
  | inl there ↦ inl there
  | inr here ↦ inr (ap suc here.0, here.1)
]

pub at_last : (h : List Event) (e : Event) → at_place (h ++ e ∷ []) (suc (length h)) ≡ Some e
at_last [] e = refl
at_last (g ∷ h) e = at_last h e

pub place_in : (h : List Event) (p : ℕ) (f : Event) → at_place h p ≡ Some f → p ≤ length h
place_in h p f at = grind (arith, slice_get_within)

among_at : (h : List Event) (f : Event) (p : ℕ) → at_place h p ≡ Some f → IsAmong h f
among_at h f p at = grind (arith)

at_among : (h : List Event) (f : Event) → IsAmong h f → (p : ℕ) × (at_place h p ≡ Some f)
at_among h f among = (suc among.0, among.1)

from_get : {A : Type 0} (P : A → Type 0) (xs : List A) → ((k : ℕ) (x : A) → slice_get xs k ≡ Some x → P x) → All P xs
from_get P [] each = All-nil P
from_get P (x ∷ xs) each = All-cons P x xs (each 0 x refl) (from_get P xs (λ k y at. each (suc k) y at))

pub to_get : {A : Type 0} (P : A → Type 0) (xs : List A) (k : ℕ) (x : A) → All P xs → slice_get xs k ≡ Some x → P x
to_get P xs k x all at = subst P (get_or_from_slice_get xs k x x at) (all k x (slice_get_within xs k x at))

no_acts : (name : ℕ) (h : List Event) → list_any (acts name) h ≡ false → list_any (as_test name) h ≡ false
no_acts name [] none = refl
no_acts name (e ∷ es) none = let parts = or_parts (name == actor e) (list_any (acts name) es) none in rw (swapped (actor e) name parts.0, no_acts name es parts.1) refl where
  swapped : (a b : ℕ) → (b == a) ≡ false → (a == b) ≡ false
  swapped a b other = grind (arith, nat_tests)

module _ (h : List Event) (e : Event) where
  first_more : (t p : ℕ) (f : Event) → IsFirstEvent h t p f → IsFirstEvent (h ++ e ∷ []) t p f
  first_more t p f first = (
    at_more h e f p first.0,
    first.1,
    λ q acts_at. elim (at_push h e acts_at.0 q acts_at.1) [
      | inl there ↦ first.2 q (acts_at.0, there, acts_at.2)
      | inr here ↦ (let low = place_in h p f first.0 in let is = here.0 in omega arith)
    ],
  )

  pub start_more : (t s : ℕ) → StartsAt h t s → StartsAt (h ++ e ∷ []) t s
  start_more t s starts = (starts.0, starts.1, first_more t starts.0 starts.1 starts.2, starts.3)

  not_by_last : (t p : ℕ) → ends t e ≡ false → (f : Event) → (f ≡ Commit t) ⊎ (f ≡ Abort t) → at_place (h ++ e ∷ []) p ≡ Some f → at_place h p ≡ Some f
  not_by_last t p going f is at = elim (at_push h e f p at) [
    | inl there ↦ there
    | inr here ↦ absurd (true_false (ends t e) (subst (λ (g : Event). ends t g ≡ true) here.1 (elim is [
      | inl commit ↦ subst (λ (g : Event). ends t g ≡ true) (sym commit) (same_true t)
      | inr abort ↦ subst (λ (g : Event). ends t g ≡ true) (sym abort) (same_true t)
    ])) going)
  ]

  open_more : (t : ℕ) → ends t e ≡ false → IsOpen h t → IsOpen (h ++ e ∷ []) t
  open_more t going is = ((is.0.0, (is.0.1.0, at_more h e is.0.1.0 is.0.0 is.0.1.1, is.0.1.2)), (λ done. is.1 (done.0, not_by_last t done.0 going (Commit t) (inl refl) done.1)), (λ done. is.2 (done.0, not_by_last t done.0 going (Abort t) (inr refl) done.1)))

  ends_more : (t : ℕ) (end : TxnEnd) → ends t e ≡ false → Ends h t end → Ends (h ++ e ∷ []) t end
  ends_more t end going is = grind (arith, open_more, at_more)

  pub lives_more : (x : TxnRow) → ends x.name e ≡ false → Lives h x → Lives (h ++ e ∷ []) x
  lives_more x going is = (start_more x.name x.start is.0, ends_more x.name x.end going is.1)

  -- a transaction whose first event this is
  pub starts_new : (name start : ℕ) → actor e ≡ name → list_any (acts name) h ≡ false → MatchOption (named_start e) (start ≡ length h) (λ s. start ≡ s) → StartsAt (h ++ e ∷ []) name start
  starts_new name start acts_is none named = starts (named_start e) refl named where
    nothing : list_any (as_test name) (take (length h) (h ++ e ∷ [])) ≡ false
    nothing = rw (take-append_seam h (e ∷ [])) (no_acts name h none)

    starts : (o : Option ℕ) → named_start e ≡ o → MatchOption o (start ≡ length h) (λ s. start ≡ s) → StartsAt (h ++ e ∷ []) name start
    starts None is here = subst (StartsAt (h ++ e ∷ []) name) (sym here) (starts_before (h ++ e ∷ []) name (length h) e (at_last h e) acts_is nothing is)
    starts (Some s) is here = subst (StartsAt (h ++ e ∷ []) name) (sym here) (starts_named (h ++ e ∷ []) name (length h) s e (at_last h e) acts_is nothing is)

  pub lives_new : (name start : ℕ) → actor e ≡ name → list_any (acts name) h ≡ false → ends name e ≡ false → MatchOption (named_start e) (start ≡ length h) (λ s. start ≡ s) → Lives (h ++ e ∷ []) (new_txn name start)
  lives_new name start acts_is none going named = (starts_new name start acts_is none named, ((suc (length h), (e, at_last h e, acts_is)), (λ done. never (Commit name) (inl refl) (same_true name) done.0 done.1), (λ done. never (Abort name) (inr refl) (same_true name) done.0 done.1))) where
    never : (f : Event) → (f ≡ Commit name) ⊎ (f ≡ Abort name) → acts name f ≡ true → (q : ℕ) → at_place (h ++ e ∷ []) q ≡ Some f → ⊥
    never f is acting q at = true_false (list_any (acts name) h) (among_any (acts name) h f (among_at h f q (not_by_last name q going f is at)) acting) none

-- what the row says tells whether the transaction has ended
pub lives_ended : (h : List Event) (name : ℕ) (end : TxnEnd) → Ends h name end → end ≢ Open → list_any (ends name) h ≡ true
lives_ended h name Open is ended = absurd (ended refl)
lives_ended h name (Committed p) is ended = among_any (ends name) h (Commit name) (among_at h (Commit name) p is) (same_true name)
lives_ended h name (Aborted p) is ended = among_any (ends name) h (Abort name) (among_at h (Abort name) p is) (same_true name)

pub lives_going : (h : List Event) (name : ℕ) → IsOpen h name → list_any (ends name) h ≡ false
lives_going h name is = false_from_ne_true (list_any (ends name) h) (λ some. let a = any_among (ends name) h some in elim (ends_is name a.0 a.2) [
  | inl commit ↦ is.1 (at_among h (Commit name) (subst (IsAmong h) commit a.1))
  | inr abort ↦ is.2 (at_among h (Abort name) (subst (IsAmong h) abort a.1))
])

-- a row is set, and the others live by their numbers
pub all_set : {A : Type 0} (P : A → Type 0) (xs : List A) (d : ℕ) (y : A) → ((k : ℕ) (x : A) → slice_get xs k ≡ Some x → k ≢ d → P x) → P y → All P (set xs d y)
all_set P [] d y others here = λ k x less. absurd (omega arith)
all_set P (x ∷ xs) zero y others here = All-cons P y xs here (from_get P xs (λ k z at. others (suc k) z at (λ e. omega arith)))
all_set P (x ∷ xs) (suc d) y others here = All-cons P x (set xs d y) (others 0 x refl (λ e. omega arith)) (all_set P xs d y (λ k z at ne. others (suc k) z at (λ e. ne (omega arith))) here)
