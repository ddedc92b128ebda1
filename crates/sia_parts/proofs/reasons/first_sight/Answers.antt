-- One event after another under the edge's key, and then those of ranges.
use Rattle.std.proofs.Common.{◌≡◌, ◌⊎◌, ◌+◌, ◌∷◌, [], inl, inr, ℕ, List, get_or, refl, rules, sym, subst, ◌∙◌, arith}
use Rattle.std.specs.Prelude.{Contains, slice_index_or}
use Rattle.std.proofs.lemmas.Bool.{cases_lt}
use Rattle.std.proofs.lemmas.List.{get_or_default}
use Rattle.std.proofs.lemmas.List.Elements.{Contains-get_or}
use Rattle.sia_events.specs.Reads.{SawAt}
use Rattle.sia_parts.specs.declared.reasons.Act.{Act}
use Rattle.sia_parts.specs.Sightings.{Gives, reader_of}
use Rattle.sia_parts.proofs.OfReasons.Groups.{group_between}
use Rattle.sia_parts.proofs.OfReasons.InTwoNumbers.{firsts_rise, group_rises}
use Rattle.sia_parts.proofs.OfReasons.Sighted.{first_kept, first_left, first_of_all, first_of_fewer, first_taken, found_under, is_early, is_late, sees_other, sight_at, those_under}
use Rattle.sia_parts.proofs.reasons.first_sight.Invariants.{OrAmong, UnderFirst}
use Rattle.sia_parts.proofs.reasons.first_sight.Goals as goal
use Rattle.sia_parts.proofs.reasons.first_sight.Goals.{then-is_none_or+in-Some+then-gives, then-is_none_or+in-Some+else-gives, then-is_none_or+in_default, else-is_none_or}

abbrev none : Act
none = record { txn = 0; key = 0; place = 0 }

one_more : (At : ℕ → Type 0) (group : List Act) (n p : ℕ) → OrAmong At group (n + 1) p → OrAmong At group n p ⊎ (p ≡ (get_or group n none).place)
one_more At group n p (inl old) = inl (inl old)
one_more At group n p (inr new) = elim (cases_lt new.0 n) [
  | inl less ↦ inl (inr (new.0, less, new.2))
  | inr more ↦ let last : new.0 ≡ n = omega arith in inr (sym new.2 ∙ subst (λ i. (get_or group new.0 none).place ≡ (get_or group i none).place) last refl)
]

pub between-own-requires : goal.between-own-requires
between-own-requires c = firsts_rise (λ (act : Act). act.txn) (λ act. act.key) c.args.acts.now c.requires.acts.rise

pub between-act-items-requires : goal.between-act-items-requires
between-act-items-requires c =
    let own = c.between-own.result.now in
    group_rises (λ (act : Act). act.txn) (λ act. act.key) c.args.acts.now c.reader_of_edge.result own c.requires.acts.rise
    (group_between (λ (act : Act). act.txn) c.args.acts.now own c.reader_of_edge.result (rw c.from-reader.ensures at c.between-own.ensures))

pub loop-key-init : goal.loop-key-init
loop-key-init c = λ p v at saw. absurd (omega arith)

pub loop-act-init : goal.loop-act-init
loop-act-init c =
    let e = c.args.e.now in
    let t = reader_of e.kind e.src e.dst in
    let h = c.args.h.now in
    let A = UnderFirst c.args.acts.now t (e.key ∷ 18446744073709551615 ∷ []) c.loop-key.key-index in
    first_of_fewer (Gives e.kind h e.src e.dst e.key) h t e.key A (OrAmong A c.between-act-items.result.now 0)
    (λ p among. elim among [ inl old ↦ old | inr new ↦ absurd (omega arith) ]) c.loop-key.first c.loop-key.invariant

pub gives-requires-clause-seen : goal.gives-requires-clause-seen
gives-requires-clause-seen c =
    let e = c.args.e.now in
    let t = reader_of e.kind e.src e.dst in
    let h = c.args.h.now in
    let acts = c.args.acts.now in
    let key = slice_index_or (e.key ∷ 18446744073709551615 ∷ []) c.loop-key.key-index 0 in
    let group = c.between-act-items.result.now in
    let act : Act = get_or group c.loop-act.act-index none in
    let those = those_under h t acts c.requires.acts c.reader_of_edge.result key c.between-own.result.now group c.reader_of_edge.ensures (rw c.from-reader.ensures at c.between-own.ensures) c.between-act-items.ensures in
    let mine = (those act).0 (Contains-get_or group c.loop-act.act-index none c.loop-act-test.true) in
    let saw = c.in-Some.ensures in
    (act.place, subst (λ g. SawAt g act.place t e.key c.in-Some.version) (sym c.requires.index) (sight_at h t acts c.requires.acts act mine.0 mine.1 e.key c.in-Some.version saw.0 saw.1 saw.2))

pub loop-act-preserved : goal.loop-act-preserved
loop-act-preserved c =
    let e = c.args.e.now in
    let t = reader_of e.kind e.src e.dst in
    let h = c.args.h.now in
    let P = Gives e.kind h e.src e.dst e.key in
    let acts = c.args.acts.now in
    let keys = e.key ∷ 18446744073709551615 ∷ [] in
    let group = c.between-act-items.result.now in
    let n = c.loop-act.act-index in
    let act : Act = get_or group n none in
    let those = those_under h t acts c.requires.acts c.reader_of_edge.result (slice_index_or keys c.loop-key.key-index 0) c.between-own.result.now group c.reader_of_edge.ensures (rw c.from-reader.ensures at c.between-own.ensures) c.between-act-items.ensures in
    let mine = (those act).0 (Contains-get_or group n none c.loop-act-test.true) in
    let A = OrAmong (UnderFirst acts t keys c.loop-key.key-index) group n in
    let B = OrAmong (UnderFirst acts t keys c.loop-key.key-index) group (n + 1) in
    let split = one_more (UnderFirst acts t keys c.loop-key.key-index) group n in
    let so = c.loop-act.invariant in
    elim c.if-is_none_or.branch [
      | then-is_none_or+in-Some+then-gives w ↦
          let saw = w.in-Some.ensures in
          let fits = subst (λ g. Gives e.kind g e.src e.dst e.key w.in-Some.version) c.requires.index (w.gives.ensures.0 w.if-gives.true) in
          rw w.first-is (first_taken P h t e.key A B act.place split c.loop-act.first so (is_early _ act.place _ (λ s post. search rules) c.loop-act.first c.is_none_or.ensures w.if-is_none_or.true) w.in-Some.version
          (sight_at h t acts c.requires.acts act mine.0 mine.1 e.key w.in-Some.version saw.0 saw.1 saw.2) fits)
      | then-is_none_or+in-Some+else-gives w ↦
          let saw = w.in-Some.ensures in
          rw w.first-is (first_left P h t e.key A B act.place split c.loop-act.first so (sees_other h c.law.ensures P act.place e.key w.in-Some.version saw.0 saw.1 saw.2
          (λ fits. let yes = sym (w.gives.ensures.1 (subst (λ g. Gives e.kind g e.src e.dst e.key w.in-Some.version) (sym c.requires.index) fits)) ∙ w.if-gives.false in cc) t))
      | then-is_none_or+in_default w ↦ rw w.first-is (first_left P h t e.key A B act.place split c.loop-act.first so (λ v saw fits. w.in_default.ensures saw.0 v saw.1 saw.3))
      | else-is_none_or w ↦ rw w.first-is (first_kept P h t e.key A B act.place split c.loop-act.first so (is_late _ act.place _ (λ s post. search rules) c.loop-act.first c.is_none_or.ensures w.if-is_none_or.false))
    ]

pub loop-key-preserved : goal.loop-key-preserved
loop-key-preserved c =
    let e = c.args.e.now in
    let t = reader_of e.kind e.src e.dst in
    let h = c.args.h.now in
    let acts = c.args.acts.now in
    let keys = e.key ∷ 18446744073709551615 ∷ [] in
    let group = c.between-act-items.result.now in
    let those = those_under h t acts c.requires.acts c.reader_of_edge.result (slice_index_or keys c.loop-key.key-index 0) c.between-own.result.now group c.reader_of_edge.ensures (rw c.from-reader.ensures at c.between-own.ensures) c.between-act-items.ensures in
    let old = UnderFirst acts t keys c.loop-key.key-index in
    first_of_fewer (Gives e.kind h e.src e.dst e.key) h t e.key (OrAmong old group c.loop-act.act-index) (UnderFirst acts t keys (c.loop-key.key-index + 1))
    (λ p under. elim (cases_lt under.0 c.loop-key.key-index) [
      | inl less ↦ inl (under.0, less, under.2)
      | inr more ↦
          let last : under.0 ≡ c.loop-key.key-index = omega arith in
          let x : Act = record { txn = t; key = slice_index_or keys c.loop-key.key-index 0; place = p } in
          let has = (those x).1 (subst (λ j. Contains acts (record { txn = t; key = slice_index_or keys j 0; place = p })) last under.2, refl, refl) in
          inr (has.0, (let all = c.loop-act-test.false in let inside = has.1 in omega arith), subst (λ (a : Act). a.place ≡ p) (get_or_default group has.0 x none has.1) (subst (λ (a : Act). a.place ≡ p) (sym has.2) refl))
    ]) c.loop-act.first c.loop-act.invariant

pub returns : goal.returns
returns c =
    let e = c.args.e.now in
    let t = reader_of e.kind e.src e.dst in
    let h = c.args.h.now in
    let acts = c.args.acts.now in
    let keys = e.key ∷ 18446744073709551615 ∷ [] in
    first_of_all (Gives e.kind h e.src e.dst e.key) h t e.key (UnderFirst acts t keys c.loop-key.key-index)
    (λ p v saw.
    let under = found_under h t acts c.requires.acts p e.key v saw in
    elim under.1 [
      | inl own ↦ (0, (let all = c.loop-key-test.false in omega arith), subst (λ k. Contains acts (record { txn = t; key = k; place = p })) own under.2)
      | inr any ↦ (1, (let all = c.loop-key-test.false in omega arith), subst (λ k. Contains acts (record { txn = t; key = k; place = p })) any under.2)
    ]) c.loop-key.first c.loop-key.invariant
