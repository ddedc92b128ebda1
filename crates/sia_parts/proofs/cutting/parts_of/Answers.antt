-- The part from one start to the next, or to the greatest key.
use Rattle.std.proofs.Common.{◌≡◌, ◌+◌, ◌≤◌, [], ◌∷◌, ◌++◌, ap, drop, sym, ◌∙◌, append_assoc, arith}
use Rattle.std.specs.Prelude.{slice_index}
use Rattle.std.proofs.lemmas.List.Elements.{All-push}
use Rattle.std.proofs.lemmas.List.Kept.{AllPairs-from_increasing}
use Rattle.sia_parts.specs.declared.cutting.Part.{Part}
use Rattle.sia_parts.specs.Parts.{parts_from}
use Rattle.sia_parts.proofs.CutKeys.PartLemmas.{part_then, part_last}
use Rattle.sia_parts.proofs.cutting.parts_of.Goals as goal
use Rattle.sia_parts.proofs.cutting.parts_of.Goals.{in-Some, in-None}

pub overflow_sub-hi : goal.overflow_sub-hi
overflow_sub-hi c =
    let next = c.in-Some.ensures.lookup in
    let below = next.3.0 in
    let rise = AllPairs-from_increasing _ c.requires c.loop-i.i (c.loop-i.i + 1) c.in-Some.next.now (omega arith) below in
    let at = next.1 in
    omega arith

pub loop-i-preserved : goal.loop-i-preserved
loop-i-preserved c =
    let starts = c.args.starts.now in
    let i = c.loop-i.i in
    let old = c.loop-i.parts.items in
    let part : Part = record { lo = slice_index starts i; hi = c.match-get.hi } in
    let behind : parts_from (drop i starts) ≡ part ∷ parts_from (drop (i + 1) starts) = elim c.match-get.branch [
      | in-Some w ↦
          let next = w.in-Some.ensures.lookup in
          let at = next.4 (omega arith) 0 in
          rw (w.hi-is, at) (part_then starts i next.3.0)
      | in-None w ↦ rw w.hi-is (part_last starts i c.loop-i-test.true w.in-None.ensures.lookup.3)
    ] in
    let ordered : slice_index starts i ≤ c.match-get.hi = elim c.match-get.branch [
      | in-Some w ↦
          let next = w.in-Some.ensures.lookup in
          let at = next.4 (omega arith) 0 in
          let rise = AllPairs-from_increasing starts c.requires i (i + 1) 0 (omega arith) next.3.0 in
          let hi = w.hi-is in
          omega arith
      | in-None w ↦ let hi = w.hi-is in let fits = c.type_inv.starts i in omega arith
    ] in
    rw c.in_ok-push.ensures.items (record {
      parts = c.loop-i.invariant.parts ∙ ap (λ rest. old ++ rest) behind ∙ sym (append_assoc old (part ∷ []) (parts_from (drop (i + 1) starts)));
      ordered = All-push (λ (p : Part). p.lo ≤ p.hi) old part c.loop-i.invariant.ordered ordered;
    })
