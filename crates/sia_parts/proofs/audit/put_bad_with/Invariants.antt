-- Where the walk back has come, and what is found so far.
use Rattle.std.proofs.Common.{◌≡◌, ◌≤◌}
use Rattle.sia_index.specs.declared.info.KeyVersion.{KeyVersion}
use Rattle.sia_index.specs.Positions.{IsAtPosition}
use Rattle.sia_parts.specs.Sights.{Adds}
use Rattle.sia_parts.proofs.Shared.BadWrites.{IsBadFrom}
use Rattle.sia_parts.proofs.audit.put_bad_with.Given as goal

abbrev pub invariant-loop-before : goal.invariant-loop-before
invariant-loop-before l = (v : KeyVersion) × (w : KeyVersion) × IsAtPosition l.ix l.second v × IsAtPosition l.ix l.at w × (w.key ≡ v.key) × (w.commit ≤ v.commit) × Adds (IsBadFrom l.ix v w.commit) l.fn.bad.items l.bad.items

abbrev pub decreases-loop-before : goal.decreases-loop-before
decreases-loop-before l = l.at
