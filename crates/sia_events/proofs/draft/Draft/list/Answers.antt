-- One pair more has a number, or none.
use Rattle.std.proofs.Common.{◌≡◌, ◌+◌, ◌<◌, ◌∷◌, [], ◌++◌, List, length, take, drop, get_or, refl, sym, subst, ap, ◌∙◌, arith}
use Rattle.std.proofs.lemmas.Grind.{take_at_read}
use Rattle.std.proofs.lemmas.List.{take_all, map-append, length-map, length-append, length-take-le}
use Rattle.std.proofs.lemmas.Option.{slice_get_within}
use Rattle.std.proofs.lemmas.Result.{err_from_is_err_and}
use Rattle.sia_events.specs.declared.draft.Draft.{Draft}
use Rattle.sia_events.specs.declared.draft.Mention.{Mention}
use Rattle.sia_events.specs.LogTables.{names_in}
use Rattle.sia_events.specs.Numbering.{pair_at}
use Rattle.sia_events.specs.Drafts.{AreFound, HasPair, Lists, ListsOne, mentioned}
use Rattle.sia_events.proofs.Shared.Drafted.{has_key, lists_none, lists_more, lists_refused, pair_pushed, one_there}
use Rattle.sia_events.proofs.draft.Draft.list.Goals as goal
use Rattle.sia_events.proofs.draft.Draft.list.Goals.{in-Some, in-None+in_ok-pair-in-None}

abbrev none : Mention
none = record { key = 0; saw = 0; number = 0 }

split : (front back : List Mention) (m : Mention) → mentioned (front ++ m ∷ back) ≡ mentioned front ++ (m.key, m.saw) ∷ mentioned back
split front back m = map-append (λ (m : Mention). (m.key, m.saw)) front (m ∷ back)

pub loop-mention-init : goal.loop-mention-init
loop-mention-init c = (c.requires, lists_none c.args.self.now.tables)

joined : (c : goal.In_ok-push) → AreFound c.match-seen_last.self × HasPair c.loop-mention.self.tables c.match-seen_last.self.tables (get_or c.args.listed.now c.loop-mention.mention-index none).key (get_or c.args.listed.now c.loop-mention.mention-index none).saw c.match-seen_last.pair
joined c = elim c.match-seen_last.branch [
  | in-Some w ↦
      let m = get_or c.args.listed.now c.loop-mention.mention-index none in
      rw (w.self-is, w.pair-is) (
        c.loop-mention.invariant.0,
        record {
          number = m.number;
          write = w.in-Some.write;
          has = has_key c.loop-mention.self.tables m.key m.number w.in-Some.ensures.key;
          seen = w.in-Some.ensures.seen;
          some = w.pair_number-pair.ensures.some;
          none = w.pair_number-pair.ensures.none;
        },
      )
  | in-None+in_ok-pair-in-None w ↦ rw (w.self-is, w.pair-is) (w.in_ok-pair-in-None.ensures.found, w.in_ok-pair-in-None.ensures.has)
]

pub pair_number-pair-requires : goal.pair_number-pair-requires
pair_number-pair-requires c =
    let m = get_or c.args.listed.now c.loop-mention.mention-index none in
    let w = slice_get_within c.loop-mention.self.tables.keys.items m.number m.key c.in-Some.ensures.key in
    let few = c.loop-mention.invariant.0.sound.short.keys in
    omega arith

abbrev after : goal.In_ok-push → Draft
after c = record { tables = record { txns = c.match-seen_last.self.tables.txns; keys = c.match-seen_last.self.tables.keys; writes = c.match-seen_last.self.tables.writes; ranges = c.match-seen_last.self.tables.ranges; pairs = c.push.new.self; events = c.match-seen_last.self.tables.events }; txns = c.match-seen_last.self.txns; keys = c.match-seen_last.self.keys; writes = c.match-seen_last.self.writes; last_seen = c.match-seen_last.self.last_seen }

pub loop-mention-preserved : goal.loop-mention-preserved
loop-mention-preserved c =
    let t = c.loop-mention.self in
    let m = get_or c.args.listed.now c.loop-mention.mention-index none in
    let i = c.loop-mention.invariant in
    let l = i.1 in
    let front = take c.loop-mention.mention-index c.args.listed.now in
    let long : length front ≡ c.loop-mention.mention-index = length-take-le c.loop-mention.mention-index c.args.listed.now (omega (arith, c.loop-mention-test.true)) in
    let count : length l.more ≡ length front = sym (length-map l.more (pair_at (names_in t.tables))) ∙ ap length l.are ∙ length-map front (λ (m : Mention). (m.key, m.saw)) in
    let more : length t.tables.pairs.items ≡ length c.args.self.now.tables.pairs.items + length l.more = ap length l.pairs ∙ length-append c.args.self.now.tables.pairs.items l.more in
    let same : length c.match-seen_last.self.tables.pairs.items ≡ length t.tables.pairs.items = ap length (joined c).1.has.same.pairs in
    let room : length c.match-seen_last.self.tables.pairs.items < 2147483648 = (let ok = c.args.self.now.tables.pairs.ok in omega (arith, c.len.ensures, c.if-listed-len.false, c.loop-mention-test.true)) in
    let one : AreFound (after c) × ListsOne t.tables (after c).tables m.key m.saw = pair_pushed t c.match-seen_last.self (after c) m.key m.saw c.match-seen_last.pair i.0 (joined c).1 (joined c).0 room refl refl refl refl refl refl refl refl refl c.in_ok-push.ensures.items in
    (one.0, lists_more c.args.self.now.tables t.tables (after c).tables _ _ _ _ c.requires.sound i.0.sound one.0.sound i.1 one.1 (ap mentioned (take_at_read c.args.listed.now c.loop-mention.mention-index none c.loop-mention-test.true).1 ∙ split (take c.loop-mention.mention-index c.args.listed.now) [] m))

pub returns-in_err-pair-in-None : goal.returns-in_err-pair-in-None
returns-in_err-pair-in-None c =
    let p = err_from_is_err_and c.from_residual.result c.from_residual.ensures.1 in
    rw (p.1, p.2) (record {
      found = tt;
      lists = tt;
      refused = lists_refused c.args.self.now c.loop-mention.self c.other_pair.new.self (mentioned (take c.loop-mention.mention-index c.args.listed.now)) (mentioned c.args.listed.now) _ _ _ c.in_err-pair-in-None.field-0.0 c.requires.sound c.loop-mention.invariant.0 c.loop-mention.invariant.1 c.in_err-pair-in-None.ensures.refused (ap mentioned (one_there none c.args.listed.now c.loop-mention.mention-index c.loop-mention-test.true) ∙ split (take c.loop-mention.mention-index c.args.listed.now) (drop (c.loop-mention.mention-index + 1) c.args.listed.now) _);
    })

pub returns : goal.returns
returns c = record {
  found = c.loop-mention.invariant.0;
  lists = subst (λ (xs : List Mention). Lists c.args.self.now.tables c.loop-mention.self.tables (mentioned xs)) (take_all c.loop-mention.mention-index c.args.listed.now c.loop-mention-test.false) c.loop-mention.invariant.1;
  refused = tt;
}
