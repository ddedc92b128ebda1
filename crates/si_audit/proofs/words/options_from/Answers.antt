-- The matches of the words are those that the command's own clauses name, and the words are taken where there are some.
use Rattle.std.proofs.Common.{◌≡◌, ◌≢◌, ◌∙◌, true, refl, sym, subst, ap, map, List, [], Result, Ok, Err, IfErr, string_bytes, IsErrAnd}
use Rattle.std.proofs.lemmas.Bool.{false_from_ne_true}
use Rattle.std.proofs.lemmas.Result.{IfErr-weaker, IfOk-weaker}
use Rattle.clap.specs.Words.{App, HasMatchesOf, Row, Text, app_of, fault_of, found_of, is_simple, is_simple_and_free, matches_of, rows_of, takes}
use Rattle.clap.specs.declared.builder.command.Command.{Command}
use Rattle.clap.specs.declared.parser.matches.ArgMatches.{ArgMatches}
use Rattle.sia_parts.specs.Parts.{IsCutting, HasTooManyCuts}
use Rattle.si_audit.specs.Options.{Choices}
use Rattle.si_audit.specs.Words.{IsOwed, GivesOptions, StandsInTheWay, cuts_among, form_among, level_among, limits_among, workers_among, AreChosen, ChooseNoLevel, ChooseTooManyCuts, program}
use Rattle.si_audit.specs.declared.words.LineFault.{LineFault}
use Rattle.si_audit.specs.declared.words.LineFault.TheVariants.{NoMemory, TooManyCuts, UnknownLevel, Help, Usage}
use Rattle.si_audit.proofs.OptionWords.NumbersGiven.{numbers_given}
use Rattle.si_audit.proofs.OptionWords.TakenWords.{program_takes}
use Rattle.si_audit.proofs.words.options_from.Goals as goal

chosen_from : (rows : List Row) (words : List Text) (o : Choices) → rows ≡ matches_of program words → takes program words ≡ true → GivesOptions rows o → AreChosen words o
chosen_from rows words o is taken g = record {
  taken = taken;
  workers = g.workers ∙ ap workers_among is;
  parts = subst (λ (r : List Row). IsCutting (cuts_among r) o.parts) is g.parts;
  few = subst (λ (r : List Row). ¬ HasTooManyCuts (cuts_among r)) is g.few;
  form = g.form ∙ ap form_among is;
  level = ap level_among (sym is) ∙ g.level;
  limits = g.limits ∙ ap limits_among is;
}

owed_from : (rows : List Row) (words : List Text) (fault : LineFault) → rows ≡ matches_of program words → takes program words ≡ true
    → StandsInTheWay rows fault → IsOwed words fault
owed_from rows words NoMemory is taken h = tt
owed_from rows words TooManyCuts is taken h = record {
  taken = taken;
  many = subst (λ (r : List Row). HasTooManyCuts (cuts_among r)) is h;
}
owed_from rows words UnknownLevel is taken h = record {
  taken = taken;
  none = ap level_among (sym is) ∙ h;
}
owed_from rows words fault is taken h = absurd h

-- words that are taken are told of by want of memory alone
told_owed : (words : List Text) (fault : LineFault) → (takes program words ≡ true → fault ≡ NoMemory) → fault ≢ TooManyCuts → fault ≢ UnknownLevel → IsOwed words fault
told_owed words NoMemory memory cuts level = tt
told_owed words TooManyCuts memory cuts level = absurd (cuts refl)
told_owed words UnknownLevel memory cuts level = absurd (level refl)
told_owed words (Help text) memory cuts level = false_from_ne_true (takes program words) (λ taken. let bad : Help text ≡ NoMemory = memory taken in cc)
told_owed words (Usage text) memory cuts level = false_from_ne_true (takes program words) (λ taken. let bad : Usage text ≡ NoMemory = memory taken in cc)

no_memory_owed : {X : Type 0} (words : List Text) (r : Result X LineFault) → IsErrAnd r (λ fault. fault ≡ NoMemory) → IfErr r (IsOwed words)
no_memory_owed words (Ok o) h = tt
no_memory_owed words (Err fault) h = subst (IsOwed words) (sym h) tt

many_from : {X : Type 0} (words : List Text) (r : Result X LineFault) → IfErr r (IsOwed words) → r ≡ Err TooManyCuts → ChooseTooManyCuts words
many_from {X = X} words r owed is = subst (λ (x : Result X LineFault). IfErr x (IsOwed words)) is owed

no_level_from : {X : Type 0} (words : List Text) (r : Result X LineFault) → IfErr r (IsOwed words) → r ≡ Err UnknownLevel → ChooseNoLevel words
no_level_from {X = X} words r owed is = subst (λ (x : Result X LineFault). IfErr x (IsOwed words)) is owed

-- the parse of the program's words
record Parsed (words : List Text) (rows : List Row) : Type 0 where
  taken : takes program words ≡ true
  rows_are : rows ≡ matches_of program words

parsed : (words : List Text) (c : Command) (m : ArgMatches) → app_of c ≡ program → HasMatchesOf (app_of c) words m
    → (is_simple_and_free (app_of c) ≡ true → fault_of (app_of c) words ≡ []) → Parsed words (rows_of (found_of m))
parsed words c m app matches kinds = record {
  taken = program_takes words (ap (λ (a : App). fault_of a words) (sym app) ∙ kinds (ap is_simple_and_free app));
  rows_are = (matches (ap is_simple app)).0 ∙ ap (λ (a : App). matches_of a words) app;
}

pub returns-in_err-command-clause-fault : goal.returns-in_err-command-clause-fault
returns-in_err-command-clause-fault c = no_memory_owed (map string_bytes c.args.words.now) c.from_residual.result c.from_residual.ensures.1

pub options_of-requires : goal.options_of-requires
options_of-requires c = numbers_given c.in_ok-command.field-0 c.in-Ok.matches c.in-Ok.ensures.parsed c.in_ok-command.ensures

pub returns-in-Ok : goal.returns-in-Ok
returns-in-Ok c =
    let words = map string_bytes c.args.words.now in
    let rows = rows_of (found_of c.in-Ok.matches) in
    let p = parsed words c.in_ok-command.field-0 c.in-Ok.matches c.in_ok-command.ensures c.in-Ok.ensures.matches c.in-Ok.ensures.kinds in
    let fault = IfErr-weaker c.options_of.result _ _ (λ fault owes. owed_from rows words fault p.rows_are p.taken owes) c.options_of.ensures.fault in record {
      chosen = IfOk-weaker c.options_of.result _ _ (λ o given. chosen_from rows words o p.rows_are p.taken given) c.options_of.ensures.given;
      too_many = many_from words c.options_of.result fault;
      no_level = no_level_from words c.options_of.result fault;
      fault = fault;
    }

pub returns-in-Err-clause-fault : goal.returns-in-Err-clause-fault
returns-in-Err-clause-fault c =
    let words = map string_bytes c.args.words.now in
    told_owed words c.told.result (λ taken. c.told.ensures.memory (c.in-Err.ensures.passes (ap (λ (a : App). takes a words) c.in_ok-command.ensures ∙ taken))) c.told.ensures.cuts c.told.ensures.level
