-- Spellings of worked events, and the tokens of a worked text.
use Rattle.std.proofs.Common.{◌≡◌, [], ◌∷◌, codes, refl}
use Rattle.sia_events.specs.declared.event.Event.TheVariants.{Range}
use Rattle.sia_events.specs.Text.{numeral, spell, tokens}

zero_spelled : numeral 0 ≡ codes "0"
unfolding numeral
zero_spelled = refl

great_spelled : numeral 18446744073709551615 ≡ codes "18446744073709551615"
unfolding numeral
great_spelled = refl

huge_spelled : numeral 100000000000000000000000000000000000000000000000000000000000000000000000000000 ≡ codes "100000000000000000000000000000000000000000000000000000000000000000000000000000"
unfolding numeral
huge_spelled = refl

range_spelled : spell (Range 3 10 20 ((12, 4) ∷ (13, 0) ∷ [])) ≡ codes "r3[10..20;12:4,13:0]"
unfolding numeral
range_spelled = refl

bare_range_spelled : spell (Range 1 0 18446744073709551615 []) ≡ codes "r1[0..18446744073709551615]"
unfolding numeral
bare_range_spelled = refl

split : tokens (codes "  r1[3..9;5:0]\n\tw1[4]\r\nc1 ") ≡ codes "r1[3..9;5:0]" ∷ codes "w1[4]" ∷ codes "c1" ∷ []
split = refl
