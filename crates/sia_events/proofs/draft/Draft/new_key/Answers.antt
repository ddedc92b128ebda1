-- The tables grow by one key.
use Rattle.std.proofs.Common.{◌≡◌, ◌++◌, ◌∷◌, [], ℕ, ◌<◌, List, length, map, refl, sym, subst, ◌∙◌, ap, arith}
use Rattle.std.proofs.lemmas.List.{map-append}
use Rattle.sia_events.specs.Finding.{Finds}
use Rattle.sia_events.specs.declared.log.SeenRow.{SeenRow}
use Rattle.sia_events.proofs.LogRows.Logs.{key_grown}
use Rattle.sia_events.proofs.Shared.Drafted.{key_found}
use Rattle.sia_events.proofs.LogRows.Finders.{below_last}
use Rattle.sia_events.proofs.LogRows.Distinct.{entered_new}
use Rattle.sia_events.proofs.draft.Draft.new_key.Goals as goal
use Rattle.sia_events.proofs.LogRows.RowsRead.{last_there}

abbrev names : List SeenRow → List ℕ
names = map (λ x. x.key)

one_more : (c : goal.In_ok-add_from) → names c.push.new.self.items ≡ names c.args.self.now.last_seen.items ++ c.args.name ∷ []
one_more c = ap names c.in_ok-push.ensures.items ∙ map-append (λ (x : SeenRow). x.key) c.args.self.now.last_seen.items (record { key = c.args.name; version = 0; write = 0 } ∷ [])

len : (c : goal.In_ok-add_from) → c.len-number.result ≡ length c.args.self.now.tables.keys.items
len c = let ok = c.args.self.now.tables.keys.ok in omega (arith, c.len-number.ensures)

few : (c : goal.In_ok-add_from) → length c.args.self.now.tables.keys.items < 536870912
few c = let ok = c.args.self.now.tables.keys.ok in omega (arith, c.len-number.ensures, c.if-number-ge-MOST_ROWS.false)

pub returns-clause-found : goal.returns-clause-found
returns-clause-found c = key_found c.args.self.now _ c.args.name c.requires.found c.in_ok-push-2.ensures.items (key_grown c.args.self.now.tables _ c.args.name c.requires.found.sound (record {
  txns = refl;
  writes = refl;
  ranges = refl;
  pairs = refl;
  events = refl;
}) c.in_ok-push-2.ensures.items (few c) c.requires.new) c.requires.found.txns
    (subst (λ (xs : List SeenRow). Finds c.add_from.new.self (names xs)) c.deref.ensures.value (c.in_ok-add_from.ensures (below_last c.args.self.now.keys _ (names c.args.self.now.last_seen.items) c.args.name c.len-number.result (ap names c.deref.ensures.value ∙ one_more c) (len c ∙ sym (ap length c.requires.found.level)) c.requires.found.keys))) c.requires.found.writes c.requires.found.long c.in_ok-push.ensures.items

pub returns-clause-has : goal.returns-clause-has
returns-clause-has c = record {
  same = record {
    txns = refl;
    writes = refl;
    ranges = refl;
    pairs = refl;
    events = refl;
  };
  is = rw (c.in_ok-push-2.ensures.items) (last_there c.args.self.now.tables.keys.items c.args.name _ (len c));
  keys = c.in_ok-push-2.ensures.items ∙ sym (entered_new c.args.self.now.tables.keys.items c.args.name c.requires.new);
}
