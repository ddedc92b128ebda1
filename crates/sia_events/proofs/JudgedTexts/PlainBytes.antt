-- Bytes above 32 separate no tokens.
use Rattle.std.proofs.Common.{◌≡◌, inl, inr, ℕ, ◌+◌, ◌<◌, ◌≤◌, false, List, length, get_or, nat_le, arith}
use Rattle.std.specs.List.{position_or_len}
use Rattle.std.specs.Simd.Lanes.{chunk}
use Rattle.std.proofs.lemmas.Bool.{cases_lt}
use Rattle.std.proofs.lemmas.Bool.Decides.{nat_tests}
use Rattle.std.proofs.lemmas.Simd.{run_in_chunk_le, run_in_chunk_fails}
use Rattle.sia_events.specs.Text.{is_separator}

above_32 : (c : ℕ) → nat_le c 32 ≡ false → is_separator c ≡ false
above_32 c above = grind (arith, nat_tests)

-- none of the first len bytes is a separator
pub record IsUnbroken (bytes : List ℕ) (len : ℕ) : Type 0 where
  pub within : len ≤ length bytes
  pub passed : (k : ℕ) → k < len → is_separator (get_or bytes k 0) ≡ false

-- r of the next 16 bytes come before the first that is at most 32
pub unbroken_further : (bytes : List ℕ) (len r : ℕ) → len + 16 ≤ length bytes → r ≡ position_or_len (λ c. nat_le c 32) (chunk len 16 bytes) → IsUnbroken bytes len → IsUnbroken bytes (len + r)
unbroken_further bytes len r room counted before = record {
  within = (let few = run_in_chunk_le (λ c. nat_le c 32) bytes len 16 r 0 room counted in omega arith);
  passed = λ k below. elim (cases_lt k len) [
    | inl less ↦ before.passed k less
    | inr from ↦ above_32 (get_or bytes k 0) (run_in_chunk_fails (λ c. nat_le c 32) bytes len 16 r 0 room counted k from below)
  ];
}
