-- The bytes before the first separator take one column each.
use Rattle.std.proofs.Common.{◌≡◌, ◌≤◌, length, take, subst, sym, arith}
use Rattle.std.proofs.lemmas.List.{length-take}
use Rattle.sia_events.specs.Locating.{Located, Follows}
use Rattle.sia_events.proofs.JudgedTexts.Tokens.{unbroken_front}
use Rattle.sia_events.proofs.Shared.Canonical.{HasNoSeparator}
use Rattle.sia_events.proofs.Shared.Following.{passed_rest}
use Rattle.sia_events.proofs.TokenPlaces.Locations.{few_columns}
use Rattle.sia_events.proofs.locating.Locator.pass_rest.Goals as goal

pub returns-clause-follows : goal.returns-clause-follows
returns-clause-follows c = λ text few f.
    let old = c.self.inside in
    let n = c.token_len-len.result in
    let piece = c.args.piece.now in
    let view : Located = record { number = old.number; next = old.next; place = old.place; token = take old.len old.token; is_open = old.is_open } in
    let here : Follows view text = subst (λ (l : Located). Follows l text) (sym c.self.view_is) f in
    let within = c.token_len-len.ensures.within in
    let long : length (take n piece) ≡ n = omega (arith, length-take n piece) in
    let unbroken : HasNoSeparator (take n piece) = subst (λ k. HasNoSeparator (take k piece)) (sym c.token_len-len.ensures.len) (unbroken_front piece) in
    let few_kept : old.len ≤ 60 = c.self.invariant in
    let short : length (take old.len old.token) ≤ 60 = omega (arith, length-take old.len old.token) in
    let most = few_columns text old.next.line old.next.column here.next_is in
    passed_rest (take n piece) text (take c.keep-self-inside.result c.keep-self-inside.new.token) view c.saturating_add-self-inside.result short c.keep-self-inside.ensures.kept c.if-not-self.false unbroken (omega arith) here (let adds = c.saturating_add-self-inside.ensures in omega arith)
