-- The matches have the text of the option, and it is a number.
use Rattle.std.proofs.Common.{◌≡◌, ◌∙◌, refl, sym, subst, ap, arith, Option, Some, None, Bor, IsSome, IsSomeAnd, option_map, unwrap_or, []}
use Rattle.clap.specs.Words.{IsUnsignedIn, Text, first_of, first_value, found_of, rows_of}
use Rattle.clap.specs.declared.parser.matches.Found.{Found}
use Rattle.clap.proofs.WalkLemmas.{first_value-rows}
use Rattle.si_audit.specs.Words.{number_in}
use Rattle.si_audit.proofs.words.number_of.Goals as goal

-- a number that is there is a value
is_there : (o : Option (Bor Text)) → IsSomeAnd (option_map (λ s. s.now) o) (IsUnsignedIn 1 18446744073709551615) → IsSome o
is_there None has = absurd has
is_there (Some text) has = refl

-- the text that the matches have
text_is : (f : Found) (name : Text) (o : Option (Bor Text)) (text : Bor Text) → o ≡ Some text → option_map (λ s. s.now) o ≡ first_value f name
    → Some text.now ≡ first_of name (rows_of f)
text_is f name o text some is = subst (λ (p : Option (Bor Text)). option_map (λ s. s.now) p ≡ first_value f name) some is ∙ first_value-rows f name

pub unwrap-requires : goal.unwrap-requires
unwrap-requires c = is_there c.get_str.result
    (subst (λ (x : Option Text). IsSomeAnd x (IsUnsignedIn 1 18446744073709551615)) (sym (c.get_str.ensures ∙ first_value-rows (found_of c.args.matches.now) c.args.name.now)) c.requires)

pub number-requires : goal.number-requires
number-requires c =
    let f = found_of c.args.matches.now in
    let h = subst (λ (x : Option Text). IsSomeAnd x (IsUnsignedIn 1 18446744073709551615)) (sym (text_is f c.args.name.now c.get_str.result c.unwrap.result c.unwrap.ensures c.get_str.ensures)) c.requires in
    (h.0, h.1, omega arith, h.3)

pub returns : goal.returns
returns c =
    let f = found_of c.args.matches.now in
    c.number.ensures ∙ ap (λ (o : Option Text). number_in (unwrap_or o [])) (text_is f c.args.name.now c.get_str.result c.unwrap.result c.unwrap.ensures c.get_str.ensures)
