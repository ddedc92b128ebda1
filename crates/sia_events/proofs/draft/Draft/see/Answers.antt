-- The row gets another version of its key.
use Rattle.std.proofs.Common.{◌≡◌, Some, ap, sym, subst, ◌∙◌, slice_get}
use Rattle.std.proofs.Math.Seq.{map-set_same}
use Rattle.std.proofs.lemmas.Option.{slice_get-get_or, get_or_from_slice_get}
use Rattle.sia_events.specs.Finding.{Finds}
use Rattle.sia_events.specs.LogTables.{names_in}
use Rattle.sia_events.specs.declared.log.SeenRow.{SeenRow}
use Rattle.sia_events.proofs.Shared.Drafted.{seen_now}
use Rattle.sia_events.proofs.draft.Draft.see.Goals as goal

pub returns-in-Some-clause-found : goal.returns-in-Some-clause-found
returns-in-Some-clause-found c =
    let d = c.args.self.now in
    let found = c.requires.found in
    let rows = d.last_seen.items in
    let row = c.in-Some.row.now in
    let at = c.in-Some.ensures.item.3 in
    let is : slice_get rows c.args.number ≡ Some row = slice_get-get_or rows c.args.number row at.0 ∙ ap Some (sym (at.1 row)) in
    let same = map-set_same (λ (x : SeenRow). x.key) rows c.args.number (record { key = row.key; version = c.args.version; write = c.args.write }) row (ap (λ (x : SeenRow). x.key) (sym (get_or_from_slice_get rows c.args.number row row is))) in
    record {
      sound = found.sound;
      txns = found.txns;
      keys = subst (Finds d.keys) (sym same) found.keys;
      writes = found.writes;
      long = found.long;
      level = same ∙ found.level;
      seen = seen_now (names_in d.tables) rows c.args.number c.args.version c.args.write row found.seen c.requires.seen is;
    }
