-- What reads saw of keys: the sights of read events, and what comes of a sight.
use Rattle.std.proofs.Common.{◌≡◌, ◌⊎◌, inl, inr, ℕ, List, [], ◌∷◌, ◌++◌, Bool, false, refl, ap, sym, subst, ◌∙◌}
use Rattle.std.specs.Prelude.{◌↔◌, IsSome}
use Rattle.sia_events.specs.declared.event.Event.{Event}
use Rattle.sia_events.specs.Isolation.{IsBadRead, IsUnexplained}
use Rattle.sia_events.specs.Refusals.{IsWellFormed}
use Rattle.sia_events.specs.Transactions.{IsCommitted}
use Rattle.sia_events.specs.Reads.{IsDue}
use Rattle.sia_events.proofs.OfLaws.Anomalies.{due_wrote_before, wrote_before_due}
use Rattle.sia_events.proofs.OfLaws.Due.{one_due}
use Rattle.sia_parts.specs.declared.audit.sights.Known.{Known}
use Rattle.sia_parts.specs.declared.audit.sights.WrongReads.{WrongReads}
use Rattle.sia_parts.specs.declared.finding.BadRead.{BadRead}
use Rattle.sia_parts.specs.declared.finding.Unexplained.{Unexplained}
use Rattle.sia_parts.specs.Known.{IsKnown}
use Rattle.sia_parts.specs.Seeing.{AddsWrong, IsLoose}
use Rattle.sia_parts.specs.Sights.{Sight, Adds, FromSight, IsBadOf, IsUnexplainedOf, bad_sight, unexplained_sight}
use Rattle.sia_parts.proofs.OfReasons.Named.{unexplained_is_bad}
use Rattle.sia_parts.proofs.Shared.Adding.{adds_both, adds_nothing, adds_push, adds_same}

-- the bad read of a sight has the version due
pub bad_alone : (h : List Event) (s : Sight) (due : ℕ) → IsDue h s.txn s.place s.key due → (x : BadRead) → IsBadOf h s x → ◌≡◌ {A = BadRead} (record { place = s.place; txn = s.txn; key = s.key; saw = s.saw; due = due }) x
bad_alone h s due is x bad =
    let same = bad.0 in
    let other : IsDue h s.txn s.place s.key x.due = subst (λ (y : Sight). IsDue h y.txn y.place y.key x.due) same bad.1.1 in
    let version : due ≡ x.due = one_due h s.txn s.place s.key due x.due is other in
    λ i. record { place = (sym same i).place; txn = (sym same i).txn; key = (sym same i).key; saw = (sym same i).saw; due = version i }

pub bad_none : (h : List Event) (s : Sight) (due : ℕ) → IsDue h s.txn s.place s.key due → due ≡ s.saw → (x : BadRead) → ¬ IsBadOf h s x
bad_none h s due is good x bad =
    let same = bad_alone h s due is x bad in
    bad.1.2 (sym (ap (λ (y : BadRead). y.saw) same) ∙ sym good ∙ ap (λ (y : BadRead). y.due) same)

-- an unexplained read isn't of the version due
explained : (h : List Event) → IsWellFormed h → (s : Sight) (due : ℕ) → IsDue h s.txn s.place s.key due → due ≡ s.saw → (u : Unexplained) → ¬ IsUnexplainedOf h s u
explained h wf s due is good u un =
    let here : IsUnexplained h s.place s.txn s.key s.saw = subst (λ (y : Sight). IsUnexplained h y.place y.txn y.key y.saw) un.0 un.1 in
    (unexplained_is_bad h wf s.place s.txn s.key s.saw due here is).2 (sym good)

-- whether a bad read is unexplained
pub unexplained_told : (h : List Event) → IsWellFormed h → (known : Known) → IsKnown h known → (k v due : ℕ) → IsBadRead h known.reader.place known.reader.txn k v due → (committed : Bool) → ((committed ≡ false) ↔ IsLoose h v)
    → (IsSome known.number × ((due ≡ known.reader.txn) ⊎ (committed ≡ false))) ↔ IsUnexplained h known.reader.place known.reader.txn k v
unexplained_told h wf known is_known k v due bad committed loose = (
  (λ told. (
    is_known.ends.0 told.0,
    bad.0,
    elim told.1 [
      | inl own ↦ inl (wrote_before_due h wf known.reader.place known.reader.txn k v due bad own, (λ same. bad.2 (same ∙ sym own)))
      | inr is ↦
          let lost = loose.0 is in
          inr (lost.0, (λ same. lost.1 (subst (IsCommitted h) (sym same) (is_known.ends.0 told.0))), lost.1)
    ],
  )),
  (λ is. (
    is_known.ends.1 is.0,
    elim is.2 [
      | inl own ↦ inl (due_wrote_before h wf known.reader.place known.reader.txn k v due bad own.0)
      | inr lost ↦ inr (loose.1 (lost.0, lost.2))
    ],
  )),
)

pub bad_put : (h : List Event) (b : BadRead) → IsBadRead h b.place b.txn b.key b.saw b.due → (xs : List BadRead) → Adds (FromSight (λ s. s ≡ bad_sight b) (IsBadOf h)) xs (xs ++ b ∷ [])
bad_put h b bad xs = adds_push (FromSight (λ s. s ≡ bad_sight b) (IsBadOf h)) xs b (bad_sight b, refl, (refl, bad)) (λ x f. bad_alone h (bad_sight b) b.due bad.1 x (subst (λ s. IsBadOf h s x) f.1 f.2))

pub unexplained_put : (h : List Event) (u : Unexplained) → IsUnexplained h u.place u.txn u.key u.saw → (xs : List Unexplained) → Adds (FromSight (λ s. s ≡ unexplained_sight u) (IsUnexplainedOf h)) xs (xs ++ u ∷ [])
unexplained_put h u is xs = adds_push (FromSight (λ s. s ≡ unexplained_sight u) (IsUnexplainedOf h)) xs u (unexplained_sight u, refl, (refl, is)) (λ x f.
    let same : unexplained_sight u ≡ unexplained_sight x = sym (f.2.0 ∙ f.1) in
    λ i. record { place = (same i).place; txn = (same i).txn; key = (same i).key; saw = (same i).saw })

pub none_put : (h : List Event) (s : Sight) → ¬ IsUnexplained h s.place s.txn s.key s.saw → (xs : List Unexplained) → Adds (FromSight (λ x. x ≡ s) (IsUnexplainedOf h)) xs xs
none_put h s none xs = adds_nothing (FromSight (λ x. x ≡ s) (IsUnexplainedOf h)) xs (λ u f. none (subst (λ (y : Sight). IsUnexplained h y.place y.txn y.key y.saw) (f.2.0 ∙ f.1) f.2.1))

module _ {B : Type 0} (Q : Sight → B → Type 0) where
  sights_same : (P R : Sight → Type 0) → ((s : Sight) → P s → R s) → ((s : Sight) → R s → P s) → (old new : List B) → Adds (FromSight P Q) old new → Adds (FromSight R Q) old new
  sights_same P R to from old new = adds_same (FromSight P Q) (FromSight R Q) old new (λ b f. (f.0, to f.0 f.1, f.2)) (λ b f. (f.0, from f.0 f.1, f.2))

  sights_both : (P O R : Sight → Type 0) → ((s : Sight) → R s → P s ⊎ O s) → ((s : Sight) → P s → R s) → ((s : Sight) → O s → R s) → (old mid new : List B)
      → Adds (FromSight P Q) old mid → Adds (FromSight O Q) mid new → Adds (FromSight R Q) old new
  sights_both P O R to one other old mid new first second = adds_same (λ b. FromSight P Q b ⊎ FromSight O Q b) (FromSight R Q) old new
      (λ b e. elim e [ inl f ↦ (f.0, one f.0 f.1, f.2) | inr f ↦ (f.0, other f.0 f.1, f.2) ])
      (λ b f. elim (to f.0 f.1) [ inl p ↦ inl (f.0, p, f.2) | inr o ↦ inr (f.0, o, f.2) ])
      (adds_both (FromSight P Q) (FromSight O Q) old mid new first second)

module _ (h : List Event) where
  pub wrong_none : (P : Sight → Type 0) → ((s : Sight) → ¬ P s) → (wrong : WrongReads) → AddsWrong h P wrong wrong
  wrong_none P none wrong = record {
    bad_reads = adds_nothing (FromSight P (IsBadOf h)) wrong.bad_reads.items (λ b f. none f.0 f.1);
    unexplained = adds_nothing (FromSight P (IsUnexplainedOf h)) wrong.unexplained.items (λ u f. none f.0 f.1);
  }

  -- of versions that are due nothing is wrong
  pub due_not_wrong : IsWellFormed h → (P : Sight → Type 0) → ((s : Sight) → P s → IsDue h s.txn s.place s.key s.saw) → (wrong : WrongReads) → AddsWrong h P wrong wrong
  due_not_wrong wf P due wrong = record {
    bad_reads = adds_nothing (FromSight P (IsBadOf h)) wrong.bad_reads.items (λ b f. bad_none h f.0 f.0.saw (due f.0 f.1) refl b f.2);
    unexplained = adds_nothing (FromSight P (IsUnexplainedOf h)) wrong.unexplained.items (λ u f. explained h wf f.0 f.0.saw (due f.0 f.1) refl u f.2);
  }

  pub wrong_same : (P Q : Sight → Type 0) → ((s : Sight) → P s → Q s) → ((s : Sight) → Q s → P s) → (old new : WrongReads) → AddsWrong h P old new → AddsWrong h Q old new
  wrong_same P Q to from old new adds = record {
    bad_reads = sights_same (IsBadOf h) P Q to from old.bad_reads.items new.bad_reads.items adds.bad_reads;
    unexplained = sights_same (IsUnexplainedOf h) P Q to from old.unexplained.items new.unexplained.items adds.unexplained;
  }

  -- the only sight
  pub wrong_one : (P : Sight → Type 0) (s : Sight) → P s → ((x : Sight) → P x → x ≡ s) → (old new : WrongReads) → AddsWrong h (λ x. x ≡ s) old new → AddsWrong h P old new
  wrong_one P s has only old new = wrong_same (λ x. x ≡ s) P (λ x same. subst P (sym same) has) only old new

  -- one after another
  pub wrong_both : (P Q R : Sight → Type 0) → ((s : Sight) → R s → P s ⊎ Q s) → ((s : Sight) → P s → R s) → ((s : Sight) → Q s → R s) → (old mid new : WrongReads) → AddsWrong h P old mid → AddsWrong h Q mid new → AddsWrong h R old new
  wrong_both P Q R to one other old mid new first second = record {
    bad_reads = sights_both (IsBadOf h) P Q R to one other old.bad_reads.items mid.bad_reads.items new.bad_reads.items first.bad_reads second.bad_reads;
    unexplained = sights_both (IsUnexplainedOf h) P Q R to one other old.unexplained.items mid.unexplained.items new.unexplained.items first.unexplained second.unexplained;
  }
