-- The bytes of the spelling stand there, and no digit follows.
use Rattle.std.proofs.Common.{◌≡◌, ◌<◌, ◌-◌, length, drop, get_or, false, refl, arith}
use Rattle.std.proofs.lemmas.List.{take_all, length-drop}
use Rattle.sia_events.specs.Parsing.{is_digit}
use Rattle.sia_events.proofs.TokensRead.SameBytes.{spelled_again}
use Rattle.sia_events.proofs.mentions.Spelling.past.Goals as goal
use Rattle.sia_events.proofs.mentions.Spelling.past.Goals.{else-not-goes_on-via-then-not-goes_on+else-is_ascii_digit, else-not-goes_on-via-else-not-goes_on}

pub returns-clause-pair : goal.returns-clause-pair
returns-clause-pair c =
    let text = c.args.text.now in
    let s = c.args.self.now in
    let few = c.if-not-is_ahead.ensures.few refl in
    let within : s.len < length text = omega (arith, c.if-text-len.false) in
    let stops : is_digit (get_or text s.len 0) ≡ false = grind (arith, else-not-goes_on-via-then-not-goes_on+else-is_ascii_digit, else-not-goes_on-via-else-not-goes_on) in
    let read = spelled_again text s.bytes s.len s.key s.saw within (omega (arith, few)) (c.if-not-is_ahead.ensures.same refl) stops (s.spells few) in
    rw (take_all (length text - s.len) (drop s.len text) (omega (arith, length-drop s.len text))) read
