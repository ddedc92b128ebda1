use Rattle.std.proofs.Common.{◌≡◌, ◌≢◌, ◌<◌, ◌≤◌, ◌+◌, ◌/◌, inl, inr, min, ap, refl, sym, subst, ◌∙◌, arith}
use Rattle.std.proofs.lemmas.Bool.{cases_lt}
use Rattle.sia_graph.specs.Twos.{IsBeforeVersion, IsLeastNumber, IsLeftMaker, IsLeftPasser, IsLeftReader, IsTwo, IsUpTo}
use Rattle.sia_graph.specs.declared.twos.Two.{Two}
use Rattle.sia_graph.proofs.Shared.EarlierSources.{SawBelow, before_version, key_within, none_saw, saw_below, before_less, positions_below}
use Rattle.sia_graph.proofs.Shared.LeastNumbers.{least_none, other_of}
use Rattle.sia_graph.proofs.TwoLeast.EnteredTwos.{IsRising, rises_from, rises_on, risen}
use Rattle.sia_graph.proofs.twos.Earlier.least_before.Goals.{In-loop-block, in-Some, in-None, then-key-self, else-key-self}
use Rattle.sia_graph.proofs.twos.Earlier.least_before.Goals as goal

pub index-requires : goal.index-requires
index-requires c =
    omega (arith, positions_below c.args.index.now _ c.args.position c.requires.is.3.makers_long c.requires.position)

pub loop-block-init : goal.loop-block-init
loop-block-init c =
    let me = c.args.me in
    let leaf = c.args.self.now.size + c.key_at-key.result in
    elim c.if-key-self.branch [
      | then-key-self w ↦
          let is = w.block-is in
          ((λ less. (subst (λ b. IsRising c.args.self.now.passed.items leaf me b 4294967295) (sym is) (rises_from c.args.self.now.passed.items leaf me), omega arith)), (λ most. absurd (omega arith)), omega arith)
      | else-key-self w ↦ let m = w.if-key-self.false in ((λ less. absurd (omega arith)), (λ most. (w.block-is, refl)), omega arith)
    ]

-- blocks are over the key, since one is left
over_key : (c : In-loop-block) → c.key_at-key.result < c.args.self.now.size
over_key c = grind (arith, cases_lt)

pub loop-block-preserved : goal.loop-block-preserved
loop-block-preserved c =
    let nodes = c.args.self.now.passed.items in
    let leaf = c.args.self.now.size + c.key_at-key.result in
    let below = over_key (goal.at.loop-block-preserved c).In-loop-block in
    let so = c.loop-block.invariant.0 below in
    let node = c.index-in-loop-block.result.now in
    let is = c.index-in-loop-block.ensures in (
      (λ less. (
        subst (IsRising nodes leaf c.args.me (c.loop-block.block / 2)) (sym c.min-passed.ensures)
            (rises_on nodes leaf c.args.me c.loop-block.block c.loop-block.passed c.other.result node (omega arith)
            (subst (λ (t : Two). t.least ≡ c.args.me → c.other.result ≡ t.next) is c.other.ensures.own)
            (subst (λ (t : Two). t.least ≢ c.args.me → c.other.result ≡ t.least) is c.other.ensures.another) so.0),
        omega arith,
      )),
      (λ most. absurd (omega arith)),
      (let few = c.loop-block.invariant.2 in let e = c.min-passed.ensures in omega arith),
    )

pub index-requires-in-Some : goal.index-requires-in-Some
index-requires-in-Some c =
    let b = before_less c.args.index.now c.args.position c.requires.position c.position_before.result c.position_before.ensures c.in-Some.before c.in-Some.is in
    omega (arith, positions_below c.args.index.now _ c.args.position c.requires.is.3.makers_long c.requires.position)

pub returns : goal.returns
returns c a left are =
    let h = c.args.index.now in
    let wf = c.requires.is.2 in
    let q = c.args.position in
    let v = c.requires.position in
    let me = c.args.me in
    let made =
    other_of (IsUpTo h (IsLeftMaker h left) q) c.index.result.now me c.other-made.result c.other-made.ensures.own c.other-made.ensures.another
    (subst (IsTwo (IsUpTo h (IsLeftMaker h left) q)) (sym c.index.ensures) (are.makers q c.index.result.now (positions_below h _ q are.makers_long v))) in
    let key = c.key_at-key.result in
    let size = c.args.self.now.size in
    let none : c.loop-block.block ≡ 0 = (let f = c.loop-block-test.false in omega arith) in
    let passed : IsLeastNumber (λ r. IsLeftPasser a left key r × (r ≢ me)) c.loop-block.passed = elim (cases_lt key size) [
      | inl less ↦
          risen c.args.self.now.passed.items size key me c.loop-block.passed less
          (subst (λ b. IsRising c.args.self.now.passed.items (size + key) me b c.loop-block.passed) none (c.loop-block.invariant.0 less).0) (IsLeftPasser a left) are.passed
      | inr most ↦
          subst (IsLeastNumber (λ r. IsLeftPasser a left key r × (r ≢ me))) (sym (c.loop-block.invariant.1 most).1)
          (least_none _ (λ r w. elim (key_within h a size are.size key v.0.key (c.key_at-key.ensures v.0 v.1)) [ inl less ↦ omega arith | inr nobody ↦ nobody r w.0.1 ]))
    ] in
    let seen : IsLeastNumber (λ r. SawBelow h a left q r × (r ≢ me)) c.match-position_before.seen = elim c.match-position_before.branch [
      | in-Some w ↦
          let b = before_less h q v c.position_before.result c.position_before.ensures w.in-Some.before w.in-Some.is in
          let two = w.index-in-Some.result.now in
          subst (IsLeastNumber (λ r. SawBelow h a left q r × (r ≢ me))) (sym w.seen-is)
          (saw_below h wf a left q w.in-Some.before v.0 v.1 (w.in-Some.ensures v.0 v.1) two me w.other-seen.result w.other-seen.ensures.own w.other-seen.ensures.another
          (subst (IsTwo (IsUpTo h (IsLeftReader a left) w.in-Some.before)) (sym w.index-in-Some.ensures) (are.readers w.in-Some.before two (omega (arith, positions_below h _ q are.makers_long v)))))
      | in-None w ↦ subst (IsLeastNumber (λ r. SawBelow h a left q r × (r ≢ me))) (sym w.seen-is) (none_saw h wf a left q v.0 v.1 (w.in-None.ensures v.0 v.1) me)
    ] in
    let bound : c.match-position_before.seen ≤ 4294967295 = elim c.match-position_before.branch [
      | in-Some w ↦ let e = w.seen-is in omega arith
      | in-None w ↦ let e = w.seen-is in omega arith
    ] in
    subst (IsLeastNumber (λ r. IsBeforeVersion h a left q r × (r ≢ me))) (sym (c.min-2.ensures ∙ ap (λ n. min n c.match-position_before.seen) c.min.ensures))
    (before_version h wf a left q v.0 v.1 c.key_at-key.result (c.key_at-key.ensures v.0 v.1) me c.other-made.result c.loop-block.passed c.match-position_before.seen (omega arith) (omega arith) bound made passed seen)
