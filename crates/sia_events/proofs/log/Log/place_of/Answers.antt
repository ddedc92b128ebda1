-- The middle one is on one side or the other.
use Rattle.std.proofs.Common.{ℕ, ◌+◌, ◌-◌, ◌/◌, ◌<◌, get_or, inl, inr, ap, sym, subst, ◌∙◌, arith}
use Rattle.std.proofs.lemmas.Bool.{cases_eq}
use Rattle.std.proofs.lemmas.List.{get_or_default}
use Rattle.sia_events.specs.Numbering.{names_of, pair_at}
use Rattle.sia_events.proofs.log.Log.place_of.Goals as goal

pub loop-low-preserved-then-pair-key : goal.loop-low-preserved-then-pair-key
loop-low-preserved-then-pair-key c =
    let names = names_of c.args.self.now in
    let pairs = c.args.pairs.now in
    let so = c.loop-low.invariant in
    let turn = c.loop-low-test.true in
    let bound = so.bound in
    let middle : ℕ = c.loop-low.low + (c.loop-low.high - c.loop-low.low) / 2 in
    let less : (pair_at names (get_or pairs middle 0)).0 < c.args.key = subst (λ (q : ℕ × ℕ). q.0 < c.args.key) c.pair.ensures c.if-pair-key.true in
    record {
      order = omega arith;
      bound = bound;
      below = λ i d before. elim (cases_eq i middle) [
        | inl same ↦ subst (λ x. (pair_at names x).0 < c.args.key) (get_or_default pairs middle 0 d (omega arith) ∙ ap (λ j. get_or pairs j d) (sym same)) less
        | inr other ↦ let under = c.requires.ascend i middle d (omega arith) (omega arith) in let own = ap (λ x. (pair_at names x).0) (get_or_default pairs middle 0 d (omega arith)) in omega arith
      ];
      above = so.above;
    }

pub loop-low-preserved : goal.loop-low-preserved
loop-low-preserved c = grind (arith, get_or_default)
