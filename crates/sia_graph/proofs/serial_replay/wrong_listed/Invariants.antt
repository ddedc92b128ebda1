use Rattle.std.proofs.Common.{◌≡◌, ℕ, ◌<◌, get_or}
use Rattle.sia_graph.specs.Replaying.{version_in}
use Rattle.sia_graph.proofs.serial_replay.wrong_listed.Given as goal

abbrev pub invariant-loop-key : goal.invariant-loop-key
invariant-loop-key l = (i : ℕ) (d : ℕ × ℕ) → i < l.key-index → (get_or l.listed i d).1 ≡ version_in l.versions (get_or l.listed i d).0
