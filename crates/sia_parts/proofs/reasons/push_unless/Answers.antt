use Rattle.std.proofs.Common.{◌++◌, inr, refl}
use Rattle.sia_parts.proofs.OfReasons.PushedWords.{three_words}
use Rattle.sia_parts.proofs.reasons.push_unless.Goals as goal

pub returns : goal.returns
returns c =
    let told = c.in_ok-push_version.ensures in (
      c.args.around.0.now ++ told.0 ++ c.args.around.1.now,
      inr (c.if-version-known.false, told.0, told.1, refl),
      three_words c.args.out.now.items _ _ _ c.args.around.0.now told.0 c.args.around.1.now refl told.2 c.in_ok-extend_from_slice.ensures.items,
    )
