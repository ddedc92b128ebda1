use Rattle.std.proofs.Common.{◌≡◌, ◌++◌, flat_map, take}
use Rattle.si_audit.specs.Spaced.{spaced, words_of}
use Rattle.si_audit.proofs.report.push_words.Given as goal

abbrev pub invariant-loop-some : goal.invariant-loop-some
invariant-loop-some l = l.out.items ≡ l.fn.out.items ++ spaced (flat_map words_of (take l.some-index l.words))
