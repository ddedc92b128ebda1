-- What holds of the bytes that a source had, and of what was read and written of them.
use Rattle.std.proofs.Common.{◌≡◌, ℕ, List, ◌++◌, Bool, true, false, Option, Some, None, IfSome, Result, Ok, Err, IfOk, IsTrue, IsFalse, ap, refl, sym, subst, ◌+◌, ◌<◌, length, min, ◌∙◌, arith, length-append, append-nil}
use Rattle.std.specs.Io.KnownBytes.{Appends, Consumes, IsAtEnd}
use Rattle.sia_events.specs.Limits.{Limits}
use Rattle.si_audit.specs.declared.engine.Outcome.{Outcome}
use Rattle.si_audit.specs.declared.options.Form.{Form}
use Rattle.si_audit.specs.declared.run.RunFault.{RunFault}
use Rattle.si_audit.specs.Report.{IsReport}
use Rattle.sia_events.specs.Locating.{Located}
use Rattle.sia_events.specs.Streaming.{Progress, StandsForRead}
use Rattle.si_audit.specs.declared.options.Form.TheVariants.{Explained}
use Rattle.si_audit.specs.declared.engine.Auditor.{Auditor}
use Rattle.si_audit.specs.Options.{Choices}
use Rattle.si_audit.specs.Engine.{IsFed, IsReceived}

-- a fact of each text that what was read stands for, of the text that the source had
pub of_source : (P Stands : List ℕ → Type 0) (remaining : Option (List ℕ)) → IfSome remaining Stands → ((text : List ℕ) → Stands text → P text) → IfSome remaining P
of_source P Stands None stands f = tt
of_source P Stands (Some text) stands f = f text stands

-- a front of the report was written
pub front_written : (limits : Limits) (form : Form) (taken now : Option (List ℕ)) (text bytes : List ℕ) → IsReport limits form text bytes → (front rest : List ℕ) → bytes ≡ front ++ rest → Appends taken now front
    → (bs : List ℕ) × (more : List ℕ) × IsReport limits form text (bs ++ more) × Appends taken now bs
front_written limits form taken now text bytes report front rest split wrote = (front, rest, subst (IsReport limits form text) split report, wrote)

-- a fact of the outcome that a run answers, if it answers one
pub of_outcome : (P : Outcome → Type 0) (r : Result Outcome RunFault) (outcome : Outcome) → IfOk r (λ o. o ≡ outcome) → (r ≡ Ok outcome → P outcome) → IfOk r P
of_outcome P (Ok o) outcome same f = subst P (sym same) (f (ap Ok same))
of_outcome P (Err e) outcome same f = tt

-- no write was refused where no call failed
pub none_refused : (failed refused : Bool) → (IsTrue refused → IsTrue failed) → ¬ IsTrue failed → IsFalse refused
none_refused failed true fails none = absurd (none (fails refl))
none_refused failed false fails none = refl

-- what is too long already stands for every text that goes on from it
stands_longer : (limits : Limits) (r : Progress) (front rest : List ℕ) → limits.bytes < length front → StandsForRead limits r front → StandsForRead limits r (front ++ rest)
stands_longer limits r front rest long stands =
    let len : length (front ++ rest) ≡ length front + length rest = length-append front rest in
    let same : min (length front) (limits.bytes + 1) ≡ min (length (front ++ rest)) (limits.bytes + 1) = omega arith in
    record {
      limits_are = stands.limits_are;
      within = stands.within;
      counted = stands.counted ∙ same;
      judged = λ short. absurd (omega arith);
    }

-- and what is located in it goes by texts within the limit alone
received_longer : (limits : Limits) (IsWanted : Type 0) (l : Located) (r : Progress) (front rest : List ℕ) → limits.bytes < length front → IsReceived limits IsWanted l r front → IsReceived limits IsWanted l r (front ++ rest)
received_longer limits IsWanted l r front rest long received =
    let len : length (front ++ rest) ≡ length front + length rest = length-append front rest in
    (stands_longer limits r front rest long received.0, λ wanted short. absurd (omega arith))

-- so does an auditor that was fed it
fed_longer : (limits : Limits) (o : Choices) (a : Auditor) (front rest : List ℕ) → limits.bytes < length front → IsFed limits o a front → IsFed limits o a (front ++ rest)
fed_longer limits o a front rest long fed = record { options = fed.options; received = received_longer limits (o.form ≡ Explained) a.locator a.text front rest long fed.received }

pub at_the_end : (limits : Limits) (o : Choices) (had left : Option (List ℕ)) (front : List ℕ) (a : Auditor) → Consumes had left front → IsAtEnd left → IsFed limits o a front → IfSome had (IsFed limits o a)
at_the_end limits o None left front a consumed end fed = tt
at_the_end limits o (Some xs) None front a consumed end fed = absurd consumed
at_the_end limits o (Some xs) (Some ys) front a consumed end fed = subst (IsFed limits o a) (sym (consumed ∙ ap (λ (m : List ℕ). front ++ m) end ∙ append-nil front)) fed

pub past_the_limit : (limits : Limits) (o : Choices) (had left : Option (List ℕ)) (front : List ℕ) (a : Auditor) → Consumes had left front → limits.bytes < length front → IsFed limits o a front → IfSome had (IsFed limits o a)
past_the_limit limits o None left front a consumed long fed = tt
past_the_limit limits o (Some xs) None front a consumed long fed = absurd consumed
past_the_limit limits o (Some xs) (Some ys) front a consumed long fed = subst (IsFed limits o a) (sym consumed) (fed_longer limits o a front ys long fed)
