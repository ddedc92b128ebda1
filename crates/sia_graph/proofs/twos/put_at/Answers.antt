use Rattle.std.proofs.Common.{◌<◌, ◌++◌, get_or, length, map, set, take, subst, sym, arith, append-nil, take_all}
use Rattle.sia_graph.specs.Twos.{AreTwosOf}
use Rattle.sia_graph.proofs.TwoLeast.EnteredTwos.{At, entries_few, entries_more, entry_put}
use Rattle.sia_graph.proofs.twos.put_at.Goals as goal

pub loop-place-init : goal.loop-place-init
loop-place-init c entries few are = subst (λ xs. AreTwosOf (At xs) c.args.twos.now) (sym (append-nil entries)) are

pub loop-place-preserved : goal.loop-place-preserved
loop-place-preserved c entries few are =
    let places = c.args.places.now in
    let n = c.loop-place.place-index in
    let twos = c.loop-place.twos in
    let place = get_or places n 0 in
    let before = entries ++ map (λ b. (b, c.args.number)) (take n places) in
    let below : place < length twos = (let a = c.requires.within n 0 c.loop-place-test.true in let e = c.loop-place.auto.twos in omega arith) in
    subst (λ xs. AreTwosOf (At xs) (set twos place c.with.result)) (sym (entries_more entries places c.args.number n c.loop-place-test.true))
    (entry_put before twos place c.args.number _ c.with.result below c.requires.few (entries_few entries (take n places) c.args.number c.requires.few few)
    c.with.ensures (c.loop-place.invariant entries few are))

pub returns : goal.returns
returns c entries few are =
    subst (λ xs. AreTwosOf (At (entries ++ map (λ b. (b, c.args.number)) xs)) c.loop-place.twos) (take_all c.loop-place.place-index c.args.places.now c.loop-place-test.false)
    (c.loop-place.invariant entries few are)
