-- What is known of a number within narrower bounds.
use Rattle.std.proofs.Common.{◌≤◌, ℕ, arith, Option, IsSomeAnd, unwrap_or, []}
use Rattle.clap.specs.Words.{IsUnsignedIn, Text}
use Rattle.si_audit.specs.Words.{number_in}

pub within_any : (most : ℕ) (o : Option Text) → most ≤ 18446744073709551615 → IsSomeAnd o (IsUnsignedIn 1 most) → IsSomeAnd o (IsUnsignedIn 1 18446744073709551615)
within_any most o few has = grind arith

pub bounds : (most : ℕ) (o : Option Text) → IsSomeAnd o (IsUnsignedIn 1 most) → (1 ≤ number_in (unwrap_or o [])) × (number_in (unwrap_or o []) ≤ most)
bounds most o has = grind arith
