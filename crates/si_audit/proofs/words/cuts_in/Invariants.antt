use Rattle.std.proofs.Common.{◌≡◌, map, take}
use Rattle.si_audit.specs.Words.{number_in}
use Rattle.si_audit.proofs.words.cuts_in.Given as goal

abbrev pub invariant-loop-text : goal.invariant-loop-text
invariant-loop-text l = l.cuts.items ≡ map (λ t. number_in t.now) (take l.text-index l.texts)
