-- The number that the table has.
use Rattle.std.proofs.Common.{◌≡◌, ◌∙◌, length, arith, subst}
use Rattle.std.specs.Prelude.{slice_index}
use Rattle.std.proofs.lemmas.List.{get_or_default}
use Rattle.sia_index.proofs.Shared.NumberedNames.{number_written}
use Rattle.sia_index.specs.Tables.{AreTables}
use Rattle.sia_index.proofs.index.Index.written_number.Goals as goal

pub index-number-requires : goal.index-number-requires
index-number-requires c =
    let are = subst (λ h. AreTables h c.self.inside.txns c.self.inside.keys c.self.inside.versions c.self.inside.writes) c.self.view_is c.self.invariant in
    omega (arith, are.keys_are.long, c.requires, c.self.inside.keys.numbers.ok)

pub returns : goal.returns
returns c =
    let are = subst (λ h. AreTables h c.self.inside.txns c.self.inside.keys c.self.inside.versions c.self.inside.writes) c.self.view_is c.self.invariant in
    let is : c.index-number.result.now ≡ slice_index c.self.inside.keys.numbers.items c.args.key = c.index-number.ensures ∙ get_or_default _ c.args.key _ 0 (omega (arith, are.keys_are.long, c.requires)) in
    let long : c.len.result ≡ length c.self.inside.keys.keys.items = omega (arith, c.len.ensures, c.self.inside.keys.keys.ok) in
    number_written c.args.self.now _ _ _ are.keys_are c.args.key c.requires _ (rw (is, long) at c.then_some.ensures)
