-- What the row of a transaction in a log tells of it.
use Rattle.std.proofs.Common.{◌≡◌, ◌≢◌, inl, inr, ℕ, ◌+◌, ◌<◌, List, [], ◌∷◌, ◌++◌, length, refl, ap, ◌∙◌, arith}
use Rattle.std.specs.Prelude.{slice_index, slice_index_or}
use Rattle.std.proofs.lemmas.Bool.{cases_lt}
use Rattle.std.proofs.lemmas.List.{length_push, get_or_append_left, get_or_push}
use Rattle.sia_events.specs.declared.event.Event.{Event}
use Rattle.sia_events.specs.Numbering.{Ends}
use Rattle.sia_events.specs.Refusals.{IsWellFormed}
use Rattle.sia_events.specs.declared.log.TxnEnd.{TxnEnd}
use Rattle.sia_events.specs.declared.log.TxnEnd.TheVariants.{Open, Committed, Aborted}
use Rattle.sia_events.specs.Transactions.{IsCommitted}
use Rattle.sia_events.proofs.OfLaws.Endings.{one_end}

-- what is known to end otherwise didn't commit
pub not_committed : (h : List Event) → IsWellFormed h → (t : ℕ) (end : TxnEnd) → ((p : ℕ) → end ≢ Committed p) → Ends h t end → ¬ IsCommitted h t
not_committed h wf t Open none ends done = ends.1 done
not_committed h wf t (Aborted p) none ends done = one_end h wf t done.0 p done.1 ends
not_committed h wf t (Committed p) none ends done = none p refl

-- a list beside one of names: as long, and each with what it says of its name
abbrev pub StandBeside : {B : Type 0} → (ℕ → B → Type 0) → ℕ → List ℕ → List B → Type 0
StandBeside {B} R n names bs = (length bs ≡ n) × ((i : ℕ) (d : B) → i < n → R (slice_index names i) (slice_index_or bs i d))

pub beside_more : {B : Type 0} (R : ℕ → B → Type 0) (n : ℕ) (names : List ℕ) (bs : List B) (t : ℕ) (b : B) → length names ≡ n → StandBeside R n names bs → R t b → StandBeside R (n + 1) (names ++ t ∷ []) (bs ++ b ∷ [])
beside_more R n names bs t b long so here = (
  length_push bs b ∙ ap (λ m. m + 1) so.0,
  λ i d below. elim (cases_lt i n) [
    | inl less ↦ rw (get_or_append_left names (t ∷ []) 0 i (omega arith), get_or_append_left bs (b ∷ []) d i (omega (arith, so.0))) (so.1 i d less)
    | inr more ↦ rw (get_or_push names t 0 i (omega arith), get_or_push bs b d i (omega (arith, so.0))) here
  ],
)
