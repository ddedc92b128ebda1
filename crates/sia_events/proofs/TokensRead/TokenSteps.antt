-- Reading a token, by its letter and the number behind it.
use Rattle.std.proofs.Common.{◌≡◌, ℕ, ◌-◌, ◌≤◌, ◌==◌, List, [], ◌∷◌, length, take, drop, get_or, Option, Ok, Err, refl, sym, ap, subst, ◌∙◌, arith}
use Rattle.std.specs.Prelude.{Result, if◌then◌else◌}
use Rattle.sia_events.specs.declared.event.Event.{Event}
use Rattle.sia_events.specs.declared.fault.Reason.{Reason}
use Rattle.sia_events.specs.declared.fault.Reason.TheVariants.{BadEvent}
use Rattle.sia_events.specs.declared.fault.Refusal.{Refusal}
use Rattle.sia_events.proofs.JudgedTexts.Judged.{to_end}
use Rattle.sia_events.specs.Parsing.{◌>>=◌, Fails, Gives, after_byte, item_at, number_at, begin_at, read_at, write_at, commit_at, abort_at, event_at}

-- what fails first, fails
pub fails_first : {A B : Type 0} (e : Refusal) (read : Result A Reason) (next : A → Result B Reason) → Fails e read → Fails e (read >>= next)
fails_first e read next fails = grind (arith)

abbrev pub by_letter : ℕ → Option ℕ → List ℕ → Result Event Reason
by_letter letter txn rest = if letter == 98 then begin_at txn rest
    else if letter == 114 then read_at txn rest
    else if letter == 119 then write_at txn rest
    else if letter == 99 then commit_at txn rest
    else if letter == 97 then abort_at txn rest
    else Err BadEvent

pub event_by : (token : List ℕ) (txn : Option ℕ) (rest : List ℕ) → 1 ≤ length token → number_at (take (length token - 1) (drop 1 token)) ≡ Ok (txn, rest) → event_at token ≡ by_letter (get_or token 0 0) txn rest
unfolding event_at
event_by [] txn rest some read = absurd (omega arith)
event_by (letter ∷ bytes) txn rest some read =
    let whole : number_at bytes ≡ Ok (txn, rest) = ap number_at (sym (to_end 1 (letter ∷ bytes))) ∙ read in
    rw whole refl

pub number_fails : (e : Refusal) (token : List ℕ) → 1 ≤ length token → Fails e (number_at (take (length token - 1) (drop 1 token))) → Fails e (event_at token)
unfolding event_at
number_fails e [] some fails = absurd (omega arith)
number_fails e (letter ∷ bytes) some fails = fails_first e (number_at bytes) _ (subst (λ (bs : List ℕ). Fails e (number_at bs)) (to_end 1 (letter ∷ bytes)) fails)

-- a colon behind the first number of a read
pub read_colon : {X : Type 0} (view : X → Event) (result : Result X Refusal) (txn first : Option ℕ) (text rest more : List ℕ) → after_byte 91 text ≡ Ok rest → number_at rest ≡ Ok (first, more) → 1 ≤ length more → get_or more 0 0 ≡ 58 → Gives view result (item_at txn first (take (length more - 1) (drop 1 more))) → Gives view result (read_at txn text)
unfolding read_at
read_colon view result txn first text rest [] open_at number some colon gives = absurd (omega arith)
read_colon view result txn first text rest (c ∷ cs) open_at number some colon gives =
    let is : c ≡ 58 = colon in
    rw (open_at, number, is) (subst (λ (bs : List ℕ). Gives view result (item_at txn first bs)) (to_end 1 (c ∷ cs)) gives)
