-- Each read event goes to the parts that it concerns, whose keys ascend.
use Rattle.std.proofs.Common.{◌≡◌, ℕ, List, [], ◌∷◌, ◌++◌, Vec, Global, length, ap, sym, subst, ◌∙◌, arith}
use Rattle.std.specs.Prelude.{Contains, slice_index_or}
use Rattle.sia_parts.proofs.ReadLists.DealtReads.{all_dealt, none_dealt, one_more}
use Rattle.sia_parts.proofs.ReadLists.PartOrder.{firsts_rise, parts_apart}
use Rattle.sia_parts.proofs.reads.Reads.of.Goals as goal

pub put_read-requires-clause-first : goal.put_read-requires-clause-first
put_read-requires-clause-first c = firsts_rise c.requires.0 c.args.parts.now c.requires.1

pub put_read-requires-clause-apart : goal.put_read-requires-clause-apart
put_read-requires-clause-apart c = parts_apart c.requires.0 c.args.parts.now c.requires.1

pub put_read-requires-clause-long : goal.put_read-requires-clause-long
put_read-requires-clause-long c = let e = c.loop-before.invariant.long in omega arith

pub loop-before-init : goal.loop-before-init
loop-before-init c = none_dealt _ _ _ (let long = c.loop.invariant in omega arith)

pub loop-before-preserved : goal.loop-before-preserved
loop-before-preserved c = one_more c.args.log.now c.args.parts.now c.loop-before.before c.loop-before.dealt.items c.put_read.new.dealt.items c.loop-before.invariant c.in_ok-put_read.ensures

pub returns : goal.returns
returns c = record {
  long = c.loop-before.invariant.long;
  each = all_dealt c.args.log.now c.args.parts.now c.loop-before.before c.loop-before.dealt.items c.loop-before.invariant (omega (arith, c.loop-before-test.false));
}

-- one part has all
pub returns-then-parts-eq1 : goal.returns-then-parts-eq1
returns-then-parts-eq1 c =
    let all = c.in_ok-places_of_reads.field-0 in
    let is : c.push.new.self.items ≡ all ∷ [] = c.in_ok-push.ensures.items ∙ ap (λ (lists : List (Vec ℕ Global)). lists ++ all ∷ []) c.in_ok-dealt.ensures.items in
    record {
      long = ap length is ∙ sym c.if-parts-eq1.true;
      each = λ i places part below p t k v saw inside.
          (let first : i ≡ 0 = let one = c.if-parts-eq1.true in omega arith in
          let same : slice_index_or c.push.new.self.items i places ≡ all = ap (λ n. slice_index_or c.push.new.self.items n places) first ∙ ap (λ (lists : List (Vec ℕ Global)). slice_index_or lists 0 places) is in
          subst (λ (v : Vec ℕ Global). Contains v.items p) (sym same) (c.in_ok-places_of_reads.ensures p t k v saw));
    }
