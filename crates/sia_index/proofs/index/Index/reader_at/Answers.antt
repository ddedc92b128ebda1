-- What the tables say.
use Rattle.std.proofs.Common.{◌≡◌, ◌<◌, Some, length, refl, arith, slice_get, subst}
use Rattle.std.proofs.lemmas.Bool.Decides.{nat_tests}
use Rattle.std.proofs.lemmas.Option.{slice_get-get_or}
use Rattle.sia_events.specs.Numbering.{names_of, txn_at, txns_of}
use Rattle.sia_index.specs.Tables.{AreTables}
use Rattle.sia_index.proofs.Answering.OwnRows.{own_row, own_within, wrote_none, wrote_some}
use Rattle.sia_index.proofs.index.Index.reader_at.Goals as goal

pub index-known-requires : goal.index-known-requires
index-known-requires c = omega (arith, (own_row _ _ c.self.view_is _ _ _ _ c.self.invariant _ _ (slice_get-get_or (txns_of c.args.self.now) c.args.txn 0 c.requires)).0, c.self.inside.txns.known.ok)

pub at-requires : goal.at-requires
at-requires c =
    let are = subst (λ h. AreTables h c.self.inside.txns c.self.inside.keys c.self.inside.versions c.self.inside.writes) c.self.view_is c.self.invariant in
    own_within c.args.self.now _ are.keys_are.listed_are _ are.writes_are _ _ (slice_get-get_or (txns_of c.args.self.now) c.args.txn 0 c.requires)

pub returns : goal.returns
returns c =
    let h = c.args.self.now in
    let t = txn_at (names_of h) c.args.txn in
    let are = subst (λ h. AreTables h c.self.inside.txns c.self.inside.keys c.self.inside.versions c.self.inside.writes) c.self.view_is c.self.invariant in
    let at : slice_get (txns_of h) c.args.txn ≡ Some t = slice_get-get_or (txns_of h) c.args.txn 0 c.requires in
    let row = (own_row _ _ c.self.view_is _ _ _ _ c.self.invariant _ _ at).1 c.index-known.result.now c.index-known.ensures in
    record {
      txn_is = row.0;
      numbered = at;
      place_is = refl;
      starts = row.1;
      wrote_none = λ none. wrote_none h _ are.keys_are.listed_are _ are.writes_are _ _ at (rw c.at.ensures at (let e : length c.at.result.now ≡ 0 = grind (arith, nat_tests, none, c.is_empty.ensures) in e));
      wrote_some = λ some. wrote_some h _ are.keys_are.listed_are _ are.writes_are _ _ at (rw c.at.ensures at (let e : 0 < length c.at.result.now = grind (arith, nat_tests, some, c.is_empty.ensures) in e));
    }
