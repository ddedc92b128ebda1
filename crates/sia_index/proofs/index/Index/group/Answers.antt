-- Version 0 of the key, and that of the next one.
use Rattle.std.proofs.Common.{◌≡◌, ◌+◌, ◌<◌, ◌≤◌, length, map, ap, sym, subst, refl, ◌∙◌, arith}
use Rattle.std.specs.Prelude.{slice_index}
use Rattle.std.proofs.lemmas.List.{get_or_default}
use Rattle.sia_index.specs.Tables.{AreTables}
use Rattle.sia_events.proofs.Worked.OneList.{one_list_by}
use Rattle.sia_index.specs.Rows.{IsKeyStretch}
use Rattle.sia_index.specs.VersionRows.{version_of}
use Rattle.sia_index.proofs.Shared.KeyChains.{key_number}
use Rattle.sia_index.proofs.Answering.PositionLaws.{key_stretch}
use Rattle.sia_index.proofs.index.Index.group.Goals as goal

pub index-requires : goal.index-requires
index-requires c =
    let are = subst (λ h. AreTables h c.self.inside.txns c.self.inside.keys c.self.inside.versions c.self.inside.writes) c.self.view_is c.self.invariant in
    omega (arith, (key_number c.args.self.now _ are.keys_are.listed_are c.args.i _ (c.requires.0, c.requires.1, c.requires.2, refl)).0, are.versions_are.firsts_are.count, c.self.inside.versions.firsts.ok)

pub end_at-requires : goal.end_at-requires
end_at-requires c =
    let are = subst (λ h. AreTables h c.self.inside.txns c.self.inside.keys c.self.inside.versions c.self.inside.writes) c.self.view_is c.self.invariant in
    omega (arith, (key_number c.args.self.now _ are.keys_are.listed_are c.args.i _ (c.requires.0, c.requires.1, c.requires.2, refl)).0, are.versions_are.firsts_are.count, ap length c.deref.ensures.value)

pub returns : goal.returns
returns c k versions is listed =
    let are = subst (λ h. AreTables h c.self.inside.txns c.self.inside.keys c.self.inside.versions c.self.inside.writes) c.self.view_is c.self.invariant in
    let firsts = c.self.inside.versions.firsts.items in
    let inside = (key_number c.args.self.now _ are.keys_are.listed_are c.args.i k is).0 in
    let own : c.index.result.now ≡ slice_index firsts c.args.i = c.index.ensures ∙ get_or_default firsts c.args.i c.index.result.now 0 (omega (arith, inside, are.versions_are.firsts_are.count)) in
    let next = subst (λ fs. c.args.i + 1 < length fs → c.end_at.result ≡ slice_index fs (c.args.i + 1)) c.deref.ensures.value c.end_at.ensures.next in
    let last = subst (λ fs. length fs ≤ c.args.i + 1 → c.end_at.result ≡ c.len-count.result) c.deref.ensures.value c.end_at.ensures.last in
    let names = map (version_of c.args.self.now c.self.inside.keys.keys.items) are.versions_are.rows in
    let stretch : IsKeyStretch names k (slice_index firsts c.args.i) c.end_at.result = key_stretch c.args.self.now _ _ _ _ are c.args.i k c.end_at.result is next (λ past. last past ∙ omega (arith, c.len-count.ensures, c.self.inside.versions.made.ok)) in
    subst (λ vs. IsKeyStretch vs k c.index.result.now c.end_at.result) (one_list_by _ _ names versions are.versions_are.rows_are.listed listed) (subst (λ from. IsKeyStretch names k from c.end_at.result) (sym own) stretch)
