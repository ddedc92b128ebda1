use Rattle.std.proofs.Common.{◌≡◌, ℕ, false, cond, List, Some, unwrap_or, get_or, ap, sym, ◌∙◌, subst, arith, nat_cmp}
use Rattle.std.proofs.lemmas.Option.{same_Some}
use Rattle.std.specs.BTreeMap.{BTreeMap, Updates}
use Rattle.std.proofs.lemmas.Bool.{cases_eq, eq-eqb, ne_eqb}
use Rattle.sia_events.specs.declared.event.Event.{Event}
use Rattle.sia_events.specs.declared.event.Event.TheVariants.{Write}
use Rattle.sia_events.specs.Events.{actor}
use Rattle.sia_events.specs.Places.{at_place}
use Rattle.sia_events.specs.Replay.{is_write_of}
use Rattle.sia_graph.proofs.ReplayedTxns.MapSteps.{get_other, get_same, IsOnChain, next_event, is_next, place_within, fewer_places, on_chain_more, told_wrong, told_all}
use Rattle.sia_graph.specs.declared.serial_replay.Mismatch.{Mismatch}
use Rattle.sia_graph.specs.Replaying.{AreWritten, after, version_in}
use Rattle.sia_graph.proofs.serial_replay.replay_txn.Goals as goal
use Rattle.sia_graph.proofs.serial_replay.replay_txn.Goals.{in-Some+in_default-wrong_key+in-Write+in_ok-insert, in-Some+in_default-wrong_key+in_default-event, in_default}

pub returns-in-Some-wrong_key-clause-wrong : goal.returns-in-Some-wrong_key-clause-wrong
returns-in-Some-wrong_key-clause-wrong c = λ m is others.
    let h = c.args.h.now in
    let start = version_in c.args.versions.now in
    let at = c.loop-at.at in
    let on = c.loop-at.invariant in
    let same = same_Some _ m is in
    told_wrong h c.args.txn start c.loop-at.versions at on c.in-Some.event.now (is_next h c.args.txn start c.loop-at.versions at on c.loop-at-test.true c.in-Some.event.now (sym c.in-Some.ensures))
    c.in-Some-wrong_key.key c.version_of.result (c.in-Some-wrong_key.ensures.0, c.in-Some-wrong_key.ensures.1, c.version_of.ensures) m
    (ap (λ (x : Mismatch). x.place) (sym same)) (ap (λ (x : Mismatch). x.key) (sym same)) (ap (λ (x : Mismatch). x.found) (sym same)) others

pub bounds-next-at : goal.bounds-next-at
bounds-next-at c =
    let l = place_within c.args.h.now c.args.txn (version_in c.args.versions.now) c.loop-at.versions c.loop-at.at c.loop-at.invariant c.loop-at-test.true in
    omega arith

pub loop-at-smaller : goal.loop-at-smaller
loop-at-smaller c = fewer_places c.args.h.now c.args.txn (version_in c.args.versions.now) c.loop-at.versions c.loop-at.at c.loop-at.invariant c.loop-at-test.true c.args.next.now c.requires.next

-- a write puts its transaction at its key, where it was written
kept : (old new : BTreeMap ℕ ℕ) (t key : ℕ) → Updates nat_cmp old new key (Some t) → (k : ℕ) → version_in new k ≡ after (version_in old) (Write t key) k
kept old new t key u k = grind (arith, cases_eq, unwrap_or, get_same, eq-eqb, get_other, ne_eqb)

-- another event changes nothing
no_write : (e : Event) → ((t key : ℕ) → e ≡ Write t key → ⊥) → (k : ℕ) → is_write_of k e ≡ false
no_write e p k = grind arith

written : (h : List Event) (old new : BTreeMap ℕ ℕ) (t key p : ℕ) → Updates nat_cmp old new key (Some t) → at_place h p ≡ Some (Write t key) → AreWritten h old → AreWritten h new
written h old new t key p u there before k v has = grind (arith, cases_eq, same_Some, get_same, get_other)

pub loop-at-preserved : goal.loop-at-preserved
loop-at-preserved c =
    let h = c.args.h.now in
    let t = c.args.txn in
    let start = version_in c.args.versions.now in
    let at = c.loop-at.at in
    let on = c.loop-at.invariant in
    let next = get_or c.args.next.now at 0 in
    elim c.match-event.branch [
      | in-Some+in_default-wrong_key+in-Write+in_ok-insert v ↦
          let e = v.in-Some.event.now in
          let there = sym v.in-Some.ensures in
          let n = is_next h t start c.loop-at.versions at on c.loop-at-test.true e there in
          let u = v.in_ok-insert.ensures.updates in
          subst (λ (m : BTreeMap ℕ ℕ). IsOnChain h t start m next) (sym v.versions-is)
          (on_chain_more h t start c.loop-at.versions at on e n v.in_default-wrong_key.ensures v.insert.new.self
          (written h c.loop-at.versions v.insert.new.self v.in-Write.txn v.in-Write.key at u (there ∙ ap Some v.in-Write.is) on.written)
          (subst (λ (e : Event). (k : ℕ) → version_in v.insert.new.self k ≡ after (version_in c.loop-at.versions) e k) (sym v.in-Write.is) (kept c.loop-at.versions v.insert.new.self v.in-Write.txn v.in-Write.key u))
          next (c.requires.next.1 at e (let l = n.2 in omega arith) there))
      | in-Some+in_default-wrong_key+in_default-event v ↦
          let e = v.in-Some.event.now in
          let there = sym v.in-Some.ensures in
          let n = is_next h t start c.loop-at.versions at on c.loop-at-test.true e there in
          subst (λ (m : BTreeMap ℕ ℕ). IsOnChain h t start m next) (sym v.versions-is)
          (on_chain_more h t start c.loop-at.versions at on e n v.in_default-wrong_key.ensures c.loop-at.versions on.written
          (λ k. sym (ap (λ b. cond b (actor e) (version_in c.loop-at.versions k)) (no_write e v.in_default-event.not-Write k)))
          next (c.requires.next.1 at e (let l = n.2 in omega arith) there))
      | in_default v ↦ absurd (let k = v.in_default.ensures in let f = (next_event h t start c.loop-at.versions at on c.loop-at-test.true).1.0 in let g = k ∙ f in cc)
    ]

pub returns-clause-right : goal.returns-clause-right
returns-clause-right c = λ _. told_all c.args.h.now c.args.txn (version_in c.args.versions.now) c.loop-at.versions c.loop-at.at c.loop-at.invariant c.loop-at-test.false
