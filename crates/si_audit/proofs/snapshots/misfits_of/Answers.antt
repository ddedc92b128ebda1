-- Each bad read and each bad write is told to its transaction's row.
use Rattle.std.proofs.Common.{◌≡◌, ◌∷◌, ◌++◌, ◌<◌, inl, inr, [], ℕ, Option, Some, true, eqb, get_or, length, set, slice_get, take, refl, ap, sym, subst, ◌∙◌, rules, arith}
use Rattle.std.specs.Prelude.{◌↔◌, AllPairs, Contains, IsTrue, MatchOption}
use Rattle.std.specs.Option.{option_or}
use Rattle.std.proofs.lemmas.Bool.{eq-eqb, false≢true, not_from_true}
use Rattle.std.proofs.lemmas.List.{get_or_default, length-set, set-set, take_all, take_more}
use Rattle.std.proofs.lemmas.List.Elements.{Contains-get_or}
use Rattle.std.proofs.lemmas.Option.{slice_get_within}
use Rattle.sia_events.specs.Lists.{Precedes}
use Rattle.sia_events.specs.Numbering.{txns_of}
use Rattle.sia_events.specs.Transactions.{HasEvent, IsCommitted}
use Rattle.sia_events.specs.declared.event.Event.TheVariants.{Write}
use Rattle.sia_index.proofs.Shared.NumberedNames.{has_number}
use Rattle.sia_index.specs.Lifetimes.{IsLifetime}
use Rattle.sia_parts.specs.declared.finding.BadRead.{BadRead}
use Rattle.sia_parts.specs.declared.finding.BadWrite.{BadWrite}
use Rattle.sia_parts.specs.Entries.{bad_read_rank}
use Rattle.si_audit.specs.declared.snapshots.Bounds.{Bounds}
use Rattle.si_audit.proofs.Shared.Marking.{AreTold, IsLost, earlier_reads, known_all, takes_read, told_first, told_read, told_write, unknown, unknown_or_none}
use Rattle.si_audit.proofs.snapshots.misfits_of.Goals.{After-unwrap_or-number, After-unwrap_or-number-in-loop-b-2, then-b, else-b+then-b-ne0, else-b+else-b-ne0}
use Rattle.si_audit.proofs.snapshots.misfits_of.Goals as goal

abbrev none : BadRead
none = record { place = 0; txn = 0; key = 0; saw = 0; due = 0 }

abbrev no_write : BadWrite
no_write = record { key = 0; first = 0; second = 0 }

pub loop-b-init : goal.loop-b-init
loop-b-init c = told_first c.args.log.now c.txn_count.result c.txn_count.ensures c.in_ok-all.all.items (c.in_ok-all.ensures.items_if_clones_equal (λ y k. search rules))

-- the number of who read
reader : (c : After-unwrap_or-number) → slice_get (txns_of c.args.log.now) c.unwrap_or-number.result ≡ Some (get_or c.deref-b-items.result.now c.loop-b.b-index none).txn
reader c =
    let h = c.args.log.now in
    let reads = c.deref-b-items.result.now in
    let r : BadRead = get_or reads c.loop-b.b-index none in
    let bad = ((c.requires.judgement.bad_reads.each r).0 (subst (λ l. Contains l r) c.deref-b-items.ensures.value (Contains-get_or reads c.loop-b.b-index none c.loop-b-test.true))).0 in
    let found = subst (λ g. MatchOption c.txn_number.result (¬ HasEvent g r.txn) (λ n. slice_get (txns_of g) n ≡ Some r.txn)) c.requires.index c.txn_number.ensures in
    rw c.unwrap_or-number.ensures (has_number h r.txn c.txn_number.result found (r.place, (bad.0.0, bad.0.1, bad.0.2)))

inside_reads : (c : After-unwrap_or-number) → c.unwrap_or-number.result < length c.loop-b.all.items
inside_reads c = let below = slice_get_within (txns_of c.args.log.now) _ _ (reader c) in omega (arith, c.loop-b.invariant.long)

pub index_mut-requires : goal.index_mut-requires
index_mut-requires c = omega (arith, inside_reads (goal.at.index_mut-requires c).After-unwrap_or-number, c.loop-b.all.ok.0)

pub index-requires : goal.index-requires
index-requires c = omega (arith, length-set {A = Bounds}, inside_reads (goal.at.index-requires c).After-unwrap_or-number, c.loop-b.all.ok.0)

pub index_mut-requires-in-loop-b : goal.index_mut-requires-in-loop-b
index_mut-requires-in-loop-b c = omega (arith, length-set {A = Bounds}, inside_reads (goal.at.index_mut-requires-in-loop-b c).After-unwrap_or-number, c.loop-b.all.ok.0)

pub loop-b-preserved : goal.loop-b-preserved
loop-b-preserved c =
    let h = c.args.log.now in
    let reads = c.deref-b-items.result.now in
    let i = c.loop-b.b-index in
    let r : BadRead = get_or reads i none in
    let n = c.unwrap_or-number.result in
    let d = (goal.at.loop-b-preserved c).After-unwrap_or-number in
    let all = c.loop-b.all.items in
    let a = c.index_mut.result.now in
    let b = c.index_mut-in-loop-b.result.now in
    let new : Bounds = record b { never = c.or.result } in
    let up = subst (AllPairs (λ x y. Precedes (bad_read_rank x) (bad_read_rank y))) (sym c.deref-b-items.ensures.value) c.requires.judgement.bad_reads.ascending in
    let lost : IsTrue c.if-b.is_lost ↔ IsLost h r = elim c.if-b.branch [
      | then-b w ↦ ((λ e. inl w.if-b.true), (λ l. w.is_lost-is ∙ eq-eqb r.due r.txn w.if-b.true))
      | else-b+then-b-ne0 w ↦
          let told = unknown_or_none h r.saw w.lifetime_of.result w.is_none.result w.is_none.ensures (subst (λ g. MatchOption w.lifetime_of.result (¬ IsCommitted g r.saw) (IsLifetime g r.saw)) c.requires.index w.lifetime_of.ensures) in
          ((λ e. inr (w.if-b-ne0.true, told.0 (sym w.is_lost-is ∙ e))), (λ l. w.is_lost-is ∙ elim l [ inl own ↦ absurd (w.if-b.false own) | inr gone ↦ told.1 gone.1 ]))
      | else-b+else-b-ne0 w ↦ ((λ e. absurd (false≢true (sym (w.is_lost-is ∙ not_from_true (eqb r.saw 0) (eq-eqb r.saw 0 w.if-b-ne0.false)) ∙ e))), (λ l. absurd (elim l [ inl own ↦ w.if-b.false own | inr gone ↦ gone.0 w.if-b-ne0.false ])))
    ] in
    let takes = takes_read h r c.if-b.is_lost lost all n (inside_reads d) a b c.index.result.now c.index_mut.ensures.value c.index_mut-in-loop-b.ensures.value c.index.ensures c.or.result (c.or.ensures ∙ ap (λ (o : Option (ℕ × ℕ)). option_or c.index.result.now.never o) c.then_some-lost.ensures) in
    let more = told_read h n (take i reads) [] all r c.if-b.is_lost new (reader d) (earlier_reads reads up i c.loop-b-test.true none) takes c.loop-b.invariant in
    subst (λ l. AreTold h l [] (set (set all n (record a { misfit = true })) n new)) (sym (take_more reads i none c.loop-b-test.true)) (subst (AreTold h (take i reads ++ r ∷ []) []) (sym (set-set all n (record a { misfit = true }) new)) more)

pub loop-b-2-init : goal.loop-b-2-init
loop-b-2-init c = subst (λ l. AreTold c.args.log.now l [] c.loop-b.all.items) (take_all c.loop-b.b-index c.deref-b-items.result.now c.loop-b-test.false ∙ c.deref-b-items.ensures.value) c.loop-b.invariant

-- the number of who wrote second
second : (c : After-unwrap_or-number-in-loop-b-2) → slice_get (txns_of c.args.log.now) c.unwrap_or-number-in-loop-b-2.result ≡ Some (get_or c.deref-b-items-2.result.now c.loop-b-2.b-index no_write).second
second c =
    let writes = c.deref-b-items-2.result.now in
    let w : BadWrite = get_or writes c.loop-b-2.b-index no_write in
    let bad = ((c.requires.judgement.bad_writes.each w).0 (subst (λ l. Contains l w) c.deref-b-items-2.ensures.value (Contains-get_or writes c.loop-b-2.b-index no_write c.loop-b-2-test.true))).0 in
    let found = subst (λ g. MatchOption c.txn_number-in-loop-b-2.result (¬ HasEvent g w.second) (λ n. slice_get (txns_of g) n ≡ Some w.second)) c.requires.index c.txn_number-in-loop-b-2.ensures in
    rw c.unwrap_or-number-in-loop-b-2.ensures (has_number c.args.log.now w.second c.txn_number-in-loop-b-2.result found (bad.1.0, (Write w.second w.key, bad.1.1, refl)))

inside_writes : (c : After-unwrap_or-number-in-loop-b-2) → c.unwrap_or-number-in-loop-b-2.result < length c.loop-b-2.all.items
inside_writes c = let below = slice_get_within (txns_of c.args.log.now) _ _ (second c) in omega (arith, c.loop-b-2.invariant.long)

pub index_mut-requires-in-loop-b-2 : goal.index_mut-requires-in-loop-b-2
index_mut-requires-in-loop-b-2 c = omega (arith, inside_writes (goal.at.index_mut-requires-in-loop-b-2 c).After-unwrap_or-number-in-loop-b-2, c.loop-b-2.all.ok.0)

pub loop-b-2-preserved : goal.loop-b-2-preserved
loop-b-2-preserved c =
    let h = c.args.log.now in
    let writes = c.deref-b-items-2.result.now in
    let i = c.loop-b-2.b-index in
    let w : BadWrite = get_or writes i no_write in
    let n = c.unwrap_or-number-in-loop-b-2.result in
    let d = (goal.at.loop-b-2-preserved c).After-unwrap_or-number-in-loop-b-2 in
    let all = c.loop-b-2.all.items in
    let a = c.index_mut-in-loop-b-2.result.now in
    let same : get_or all n unknown ≡ a = sym (c.index_mut-in-loop-b-2.ensures.value ∙ get_or_default all n a unknown (inside_writes d)) in
    let more = told_write h n c.args.j.now.bad_reads.items (take i writes) all w (second d) c.loop-b-2.invariant in
    subst (λ l. AreTold h c.args.j.now.bad_reads.items l (set all n (record a { misfit = true }))) (sym (take_more writes i no_write c.loop-b-2-test.true))
    (subst (λ (x : Bounds). AreTold h c.args.j.now.bad_reads.items (take i writes ++ w ∷ []) (set all n (record x { misfit = true }))) same more)

pub returns : goal.returns
returns c =
    let told = subst (λ l. AreTold c.args.log.now c.args.j.now.bad_reads.items l c.loop-b-2.all.items) (take_all c.loop-b-2.b-index c.deref-b-items-2.result.now c.loop-b-2-test.false ∙ c.deref-b-items-2.ensures.value) c.loop-b-2.invariant in
    known_all c.args.log.now c.law.ensures c.args.j.now.bad_reads.items c.args.j.now.bad_writes.items c.requires.judgement.bad_reads c.requires.judgement.bad_writes c.loop-b-2.all.items told
