-- What a reader or writer of std becomes as a source or a sink.
use Rattle.std.specs.Prelude.{◌≡◌, ℕ, zero, suc, ◌+◌, min, Result, Ok, Err, Bool, true, false, ◌||◌, IsTrue, refl}
use Rattle.si_audit.specs.declared.devices.FromStd.{FromStd}

-- the reader or writer itself
abbrev pub device_of : {D : Type 0} → FromStd D → D
device_of s = s.device

-- how many reads of it gave bytes, as far as it counts
abbrev pub given_of : {D : Type 0} → FromStd D → ℕ
given_of s = s.reads

-- how many reads gave bytes after one more read, counted up to 2 ^ 64 - 1
abbrev pub reads_after : {E : Type 0} → ℕ → Result ℕ E → ℕ
reads_after before (Ok zero) = before
reads_after before (Ok (suc n)) = min (before + 1) 18446744073709551615
reads_after before (Err e) = before

-- no call on it has failed
pub record IsSound {D : Type 0} (s : FromStd D) : Type 0 where
  pub refused : s.refused ≡ false
  pub flush_failed : s.flush_failed ≡ false

-- what the first of two tests says, one of the two says
pub or_first : (a b : Bool) → IsTrue a → IsTrue (a || b)
or_first true b e = refl
or_first false b e = cc
