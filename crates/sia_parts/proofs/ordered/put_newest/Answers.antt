-- A position is put where it is the newest of its key. Else the next one has one that serves.
use Rattle.std.proofs.Common.{◌≡◌, ◌+◌, ◌-◌, ◌++◌, ◌∷◌, [], length, ap, sym, subst, ◌∙◌, arith}
use Rattle.std.specs.Prelude.{slice_index}
use Rattle.std.proofs.lemmas.List.{length-append}
use Rattle.sia_index.specs.Info.{IsKeyAt}
use Rattle.sia_index.specs.Lists.{with_last}
use Rattle.sia_parts.specs.EdgeRows.{StandsBehind}
use Rattle.sia_parts.proofs.EdgeRows.AccessRows.{newest_all, newest_none, newest_put, newest_same, put_last}
use Rattle.sia_parts.proofs.EdgeRows.PositionOrder.{stands_behind}
use Rattle.sia_parts.proofs.ordered.put_newest.Goals as goal

pub key_at-requires : goal.key_at-requires
key_at-requires c = c.requires.positions (c.loop-i.i - 1 + 1) 0 (let most = c.loop-i.auto.i in let some = c.loop-i-test.true in let other = c.if-i-saw.false in omega arith)

pub key_at-requires-else-i-saw : goal.key_at-requires-else-i-saw
key_at-requires-else-i-saw c = c.requires.positions (c.loop-i.i - 1) 0 (let most = c.loop-i.auto.i in let some = c.loop-i-test.true in omega arith)

pub loop-i-init : goal.loop-i-init
loop-i-init c = ([], c.in_ok-open.ensures, newest_none c.args.ix.now c.args.saw.now _ (omega arith))

pub put-requires : goal.put-requires
put-requires c = record { some = omega (arith, ap length c.loop-i.invariant.1, length-append c.args.newest.now (c.loop-i.invariant.0 ∷ [])) }

pub loop-i-preserved : goal.loop-i-preserved
loop-i-preserved c =
    let some = c.loop-i-test.true in
    let most = c.loop-i.auto.i in
    let next : c.loop-i.i - 1 + 1 ≡ c.loop-i.i = omega arith in
    let other = c.if-i-saw.false in
    let first = c.requires.positions (c.loop-i.i - 1) 0 (omega arith) in
    let second = c.requires.positions (c.loop-i.i - 1 + 1) 0 (omega arith) in
    let own = c.key_at-else-i-saw.ensures first.0 first.1 in
    let behind = subst (λ j. IsKeyAt c.args.ix.now j second.0.key) c.if-key_at.false (c.key_at.ensures second.0 second.1) in (
      c.loop-i.invariant.0,
      c.loop-i.invariant.1,
      newest_same c.args.ix.now c.args.saw.now (c.loop-i.i - 1) c.loop-i.i (sym next) (omega arith) _ c.loop-i.invariant.2 (omega arith)
          (subst (λ n. StandsBehind c.args.ix.now (slice_index c.args.saw.now (c.loop-i.i - 1)) (slice_index c.args.saw.now n)) next
          (stands_behind c.args.ix.now c.key_at-else-i-saw.result _ _ (c.requires.rise (c.loop-i.i - 1) (c.loop-i.i - 1 + 1) 0 (omega arith) (omega arith)) (record { version = first.0; at = first.1; key = own }) (record { version = second.0; at = second.1; key = behind }))),
    )

pub loop-i-preserved-in-loop-i : goal.loop-i-preserved-in-loop-i
loop-i-preserved-in-loop-i c =
    let some = c.loop-i-test.true in
    let most = c.loop-i.auto.i in (
      c.loop-i.invariant.0 ++ slice_index c.args.saw.now (c.loop-i.i - 1) ∷ [],
      c.in_ok-put.ensures ∙ ap (λ lists. with_last lists (slice_index c.args.saw.now (c.loop-i.i - 1))) c.loop-i.invariant.1 ∙ put_last c.args.newest.now c.loop-i.invariant.0 _,
      newest_put c.args.ix.now c.args.saw.now (c.loop-i.i - 1) c.loop-i.i (omega arith) (omega arith) _ c.loop-i.invariant.2,
    )

pub returns : goal.returns
returns c = (c.loop-i.invariant.0, c.loop-i.invariant.1, newest_all c.args.ix.now c.args.saw.now c.loop-i.i (let last = c.loop-i-test.false in omega arith) _ c.loop-i.invariant.2)
