-- The name of the level is the text that the matches have.
use Rattle.std.proofs.Common.{◌≡◌, ◌∙◌, ap, Option, Some, None, codes, rules, unwrap_or, []}
use Rattle.clap.specs.Words.{Text, first_of, first_value, found_of, rows_of}
use Rattle.clap.specs.declared.parser.matches.Found.{Found}
use Rattle.clap.proofs.WalkLemmas.{first_value-rows}
use Rattle.si_audit.specs.declared.options.Level.{Level}
use Rattle.si_audit.specs.declared.options.Level.TheVariants.{Gsi, Serializable, Si, Ssi}
use Rattle.si_audit.specs.Words.{level_named}
use Rattle.si_audit.proofs.words.level_in.Goals as goal

named : (f : Found) (o : Option Text) (level : Option Level) → o ≡ first_value f (codes "check") → level ≡ level_named (unwrap_or o []) → level ≡ level_named (unwrap_or (first_of (codes "check") (rows_of f)) [])
named f o level is same = same ∙ ap (λ (text : Option Text). level_named (unwrap_or text [])) (is ∙ first_value-rows f (codes "check"))

pub returns-in-serializable : goal.returns-in-serializable
returns-in-serializable c = named (found_of c.args.matches.now) (Some c.in_ok-get_str.field-0.now) (Some Serializable) c.in_ok-get_str.ensures (search rules)

pub returns-in-ssi : goal.returns-in-ssi
returns-in-ssi c = named (found_of c.args.matches.now) (Some c.in_ok-get_str.field-0.now) (Some Ssi) c.in_ok-get_str.ensures (search rules)

pub returns-in-si : goal.returns-in-si
returns-in-si c = named (found_of c.args.matches.now) (Some c.in_ok-get_str.field-0.now) (Some Si) c.in_ok-get_str.ensures (search rules)

pub returns-in-gsi : goal.returns-in-gsi
returns-in-gsi c = named (found_of c.args.matches.now) (Some c.in_ok-get_str.field-0.now) (Some Gsi) c.in_ok-get_str.ensures (search rules)

pub returns-in_default : goal.returns-in_default
returns-in_default c = named (found_of c.args.matches.now) (Some c.in_ok-get_str.field-0.now) None c.in_ok-get_str.ensures (search rules)

pub returns-in_err-get_str : goal.returns-in_err-get_str
returns-in_err-get_str c = named (found_of c.args.matches.now) None _ c.in_err-get_str.ensures c.from_residual.ensures
