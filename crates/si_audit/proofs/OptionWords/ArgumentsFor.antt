-- Arguments for a rule.
use Rattle.std.proofs.Common.{◌≡◌, false, Some, arith}
use Rattle.clap.specs.Words.{Rule, rule_of}
use Rattle.clap.specs.declared.builder.arg.Arg.{Arg}
use Rattle.clap.specs.declared.builder.value_parser.ValueParser.{ValueParser}

-- an argument for this rule, which isn't global
pub record IsFor (r : Rule) (x : Arg) : Type 0 where
  pub rule : rule_of x ≡ r
  pub local : x.global ≡ false

-- its values are read by the parser
pub parsed : (r : Rule) (x y : Arg) (p : ValueParser) → IsFor r x → y ≡ record x { value_parser = y.value_parser } → y.value_parser ≡ Some p
    → IsFor (record r { parser = Some p }) y
parsed r x y p is others given = grind arith
