-- The table has it.
use Rattle.std.proofs.Common.{◌≡◌, sym, subst, refl, ◌∙◌, arith}
use Rattle.std.specs.Prelude.{slice_index}
use Rattle.std.proofs.lemmas.List.{get_or_default}
use Rattle.sia_index.specs.Tables.{AreTables}
use Rattle.sia_index.proofs.Shared.KeyChains.{key_number}
use Rattle.sia_index.specs.Info.{IsKeyAt}
use Rattle.sia_index.specs.Positions.{IsAtPosition}
use Rattle.sia_index.specs.declared.info.KeyVersion.{KeyVersion}
use Rattle.sia_index.proofs.Answering.PositionLaws.{at, first_at}
use Rattle.sia_index.proofs.index.Index.first_position.Goals as goal

pub index-requires : goal.index-requires
index-requires c =
    let are = subst (λ h. AreTables h c.self.inside.txns c.self.inside.keys c.self.inside.versions c.self.inside.writes) c.self.view_is c.self.invariant in
    omega (arith, (key_number c.args.self.now _ are.keys_are.listed_are c.args.i _ (c.requires.0, c.requires.1, c.requires.2, refl)).0, are.versions_are.firsts_are.count, c.self.inside.versions.firsts.ok)

pub returns : goal.returns
returns c =
    let are = subst (λ h. AreTables h c.self.inside.txns c.self.inside.keys c.self.inside.versions c.self.inside.writes) c.self.view_is c.self.invariant in
    let first = first_at c.args.self.now _ _ _ _ are c.args.i _ (c.requires.0, c.requires.1, c.requires.2, refl) in
    let inside = (key_number c.args.self.now _ are.keys_are.listed_are c.args.i _ (c.requires.0, c.requires.1, c.requires.2, refl)).0 in
    let firsts = c.self.inside.versions.firsts.items in
    let own : c.index.result.now ≡ slice_index firsts c.args.i = c.index.ensures ∙ get_or_default firsts c.args.i c.index.result.now 0 (omega (arith, inside, are.versions_are.firsts_are.count)) in
    subst (λ q. (v : KeyVersion) × IsAtPosition c.args.self.now q v × IsKeyAt c.args.self.now c.args.i v.key × (v.commit ≡ 0)) (sym own) (at c.args.self.now _ _ _ _ are (slice_index firsts c.args.i), first.1, first.2, first.3)
