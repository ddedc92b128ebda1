-- The number that the table has, and no other.
use Rattle.std.proofs.Common.{◌≡◌, ◌∙◌, length, arith, subst}
use Rattle.std.specs.Prelude.{slice_index}
use Rattle.std.proofs.lemmas.List.{get_or_default}
use Rattle.sia_index.proofs.Shared.NumberedNames.{number_exactly}
use Rattle.sia_index.specs.Tables.{AreTables}
use Rattle.sia_index.proofs.index.Index.committed_number.Goals as goal

pub index-number-requires : goal.index-number-requires
index-number-requires c =
    let are = subst (λ h. AreTables h c.self.inside.txns c.self.inside.keys c.self.inside.versions c.self.inside.writes) c.self.view_is c.self.invariant in
    omega (arith, are.txns_are.committed.long, c.requires, c.self.inside.txns.committed_numbers.ok)

pub returns : goal.returns
returns c i =
    let are = subst (λ h. AreTables h c.self.inside.txns c.self.inside.keys c.self.inside.versions c.self.inside.writes) c.self.view_is c.self.invariant in
    let is : c.index-number.result.now ≡ slice_index c.self.inside.txns.committed_numbers.items c.args.txn = c.index-number.ensures ∙ get_or_default _ c.args.txn _ 0 (omega (arith, are.txns_are.committed.long, c.requires)) in
    let long : c.len.result ≡ length c.self.inside.txns.committed.items = omega (arith, c.len.ensures, c.self.inside.txns.committed.ok) in
    number_exactly _ _ _ _ are.txns_are.committed c.args.txn c.requires _ (rw (is, long) at c.then_some.ensures) i
