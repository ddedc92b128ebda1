-- After the piece the locator stands for the text so far.
use Rattle.std.proofs.Common.{◌≡◌, ◌+◌, ◌≤◌, ℕ, List, length, take, drop, get_or, refl, subst, arith}
use Rattle.std.proofs.lemmas.List.{length-drop, length-take}
use Rattle.sia_events.proofs.JudgedTexts.Judged.{to_end}
use Rattle.sia_events.proofs.TokenPlaces.Stopping.{PassesPiece, PassesRest, passes_more, passes_rest, passes_all}
use Rattle.sia_events.proofs.TokenPlaces.BesideReader.{stands_fed}
use Rattle.sia_events.proofs.locating.Locator.feed.Goals as goal

pub loop-at-preserved : goal.loop-at-preserved
loop-at-preserved c =
    let piece = c.args.piece.now in
    let next = c.loop-at.at + 1 in
    let n = c.pass_rest.result in
    let last = c.unwrap_or-last.result in
    let rest = c.pass_rest.ensures in
    let turn = c.loop-at-test.true in
    let within : n ≤ length (drop next piece) = subst (λ (xs : List ℕ). n ≤ length xs) (to_end next piece) rest.within in
    let room : next + n ≤ length piece = omega (arith, length-drop next piece) in
    let passed : PassesPiece c.args.self.now c.pass.new.self piece (take next piece) last =
    passes_more c.args.self.now c.loop-at.self c.pass.new.self piece c.loop-at.at (get_or piece c.loop-at.at 0) last turn refl c.loop-at.invariant.passes (record {
      follows = c.pass.ensures.follows;
      within = c.pass.ensures.within;
      stopped = λ closed most. let k = c.pass.ensures.stopped closed most in record { closed = k.0; number = k.1; place = k.2; token = k.3 };
    }) in
    let long : length (take n (drop next piece)) ≡ n = omega (arith, length-take n (drop next piece)) in
    let more : PassesRest c.pass.new.self c.pass_rest.new.self (take n (drop next piece)) = grind (arith, to_end) in
    let all = passes_rest c.args.self.now c.pass.new.self c.pass_rest.new.self piece next n last room passed more in
    let place : next + n ≡ c.loop-at.at + (1 + n) = omega arith in
    record { within = omega arith; passes = subst (λ k. PassesPiece c.args.self.now c.pass_rest.new.self piece (take k piece) last) place all }

pub returns : goal.returns
returns c = λ limits before after text a b is stands short.
    stands_fed text c.args.piece.now c.unwrap_or-last.result c.args.self.now c.loop-at.self
    (passes_all c.args.self.now c.loop-at.self c.args.piece.now c.loop-at.at c.unwrap_or-last.result c.loop-at-test.false c.loop-at.invariant.passes)
    (let bytes = a.within.bytes in omega (arith, short)) limits short before after c.args.refused c.unwrap_or-last.ensures a b is stands
