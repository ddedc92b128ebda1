-- The texts for the help change nothing that a parse reads.
use Rattle.std.proofs.Common.{◌≡◌, ◌∙◌, ap, ap₂, codes, List, [], ◌∷◌, Some, subst, sym}
use Rattle.std.specs.List.{AllZip}
use Rattle.std.proofs.lemmas.Result.{IfOk-weaker}
use Rattle.clap.specs.Words.{App, Rule, AddsArg, AddsInTurn, app_of, new_app, new_rule, rule_of, with_rule}
use Rattle.clap.specs.Simple.{app_of_fields}
use Rattle.clap.specs.declared.builder.action.ArgAction.TheVariants.{Append}
use Rattle.clap.specs.declared.builder.arg.Arg.{Arg}
use Rattle.clap.specs.declared.builder.command.Command.{Command}
use Rattle.clap.specs.declared.builder.value_parser.ValueParser.TheVariants.{Unsigned}
use Rattle.si_audit.specs.Words.{brief_rule, bytes_rule, check_rule, cuts_rule, events_rule, explain_rule, with_version, workers_rule}
use Rattle.si_audit.proofs.OptionWords.ArgumentsFor.{IsFor, parsed}
use Rattle.si_audit.proofs.words.command.Goals as goal

-- the command with these rules, one after another
abbrev with_rules : App → List Rule → App
with_rules a [] = a
with_rules a (r ∷ rules) = with_rules (with_rule a r) rules

all_added : (rules : List Rule) (xs : List Arg) (a : App) (old new : Command) → app_of old ≡ a → AllZip IsFor rules xs → AddsInTurn AddsArg old xs new → app_of new ≡ with_rules a rules
all_added [] [] a old new start are same = ap app_of (sym same) ∙ start
all_added (r ∷ rules) (x ∷ xs) a old new start (is, are) (m, step, rest) = all_added rules xs (with_rule a r) m new (step.shape is.local ∙ ap₂ with_rule start is.rule) are rest
all_added rules xs a old new start are adds = absurd are

pub returns : goal.returns
returns c =
    let start_is : app_of c.after_help.result ≡ with_version (new_app (codes "si_audit")) =
    ap app_of_fields c.after_help.ensures ∙ (ap app_of_fields c.about.ensures ∙ (ap app_of_fields c.version.ensures ∙ ap with_version c.new-2.ensures.app)) in
    let workers : IsFor workers_rule c.value_parser.result = parsed _ c.option.result c.value_parser.result (Unsigned 1 64) (record { rule = c.option.ensures.rule; local = c.option.ensures.local }) c.value_parser.ensures.others (c.value_parser.ensures.given.1 ∙ ap Some c.value_parser.ensures.given.2) in
    let cuts : IsFor cuts_rule c.value_parser-cuts.result =
    parsed (record (new_rule (codes "cut")) { action = Some Append; value_names = 1 }) c.help.result c.value_parser-cuts.result (Unsigned 0 18446744073709551615) (record {
      rule = ap rule_of c.help.ensures ∙ (ap rule_of c.action.ensures ∙ ap (λ (s : Rule). record s { action = Some Append })
          (ap rule_of c.value_name.ensures ∙ ap (λ (s : Rule). record s { value_names = 1 }) c.new.ensures.rule));
      local = ap (λ (x : Arg). x.global) c.help.ensures ∙ (ap (λ (x : Arg). x.global) c.action.ensures ∙ (ap (λ (x : Arg). x.global) c.value_name.ensures ∙ c.new.ensures.optional.1));
    }) c.value_parser-cuts.ensures.others (c.value_parser-cuts.ensures.given.1 ∙ ap Some c.value_parser-cuts.ensures.given.2) in
    let brief : IsFor brief_rule c.named.result = record { rule = c.named.ensures.rule; local = c.named.ensures.local } in
    let explain : IsFor explain_rule c.named-2.result = record { rule = c.named-2.ensures.rule; local = c.named-2.ensures.local } in
    let check : IsFor check_rule c.option-2.result = record { rule = c.option-2.ensures.rule; local = c.option-2.ensures.local } in
    let events : IsFor events_rule c.value_parser-2.result = parsed _ c.option-3.result c.value_parser-2.result (Unsigned 1 500000000) (record { rule = c.option-3.ensures.rule; local = c.option-3.ensures.local }) c.value_parser-2.ensures.others (c.value_parser-2.ensures.given.1 ∙ ap Some c.value_parser-2.ensures.given.2) in
    let bytes : IsFor bytes_rule c.value_parser-3.result = parsed _ c.option-4.result c.value_parser-3.result (Unsigned 1 17179869184) (record { rule = c.option-4.ensures.rule; local = c.option-4.ensures.local }) c.value_parser-3.ensures.others (c.value_parser-3.ensures.given.1 ∙ ap Some c.value_parser-3.ensures.given.2) in
    let each = c.value_parser.result ∷ c.value_parser-cuts.result ∷ c.named.result ∷ c.named-2.result ∷ c.option-2.result ∷ c.value_parser-2.result ∷ c.value_parser-3.result ∷ [] in
    IfOk-weaker c.args-2.result _ _ (λ r adds. all_added (workers_rule ∷ cuts_rule ∷ brief_rule ∷ explain_rule ∷ check_rule ∷ events_rule ∷ bytes_rule ∷ []) each _ c.after_help.result r start_is
    (workers, (cuts, (brief, (explain, (check, (events, (bytes, tt))))))) (subst (λ xs. AddsInTurn AddsArg c.after_help.result xs r) c.in_ok-arguments.ensures.items adds)) c.args-2.ensures
