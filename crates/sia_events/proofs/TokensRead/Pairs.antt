-- Reading listed keys one after the other, as a loop does.
use Rattle.std.proofs.Common.{◌≡◌, ℕ, zero, suc, ◌+◌, ◌<◌, ◌≤◌, true, false, List, [], length, take, drop, Option, Some, None, Result, Ok, refl, sym, ◌∙◌, append_assoc, arith}
use Rattle.std.specs.Prelude.{Bool, nat_eq, ◌∷◌, ◌++◌}
use Rattle.std.specs.Cmp.Lexicographic.{pointwise}
use Rattle.std.proofs.Math.Bool.{and-true}
use Rattle.sia_events.specs.declared.fault.Reason.{Reason}
use Rattle.sia_events.specs.declared.fault.Refusal.{Refusal}
use Rattle.sia_events.specs.Parsing.{◌>>=◌, Fails, kept, joined, one_pair, begins_with, pair_at, pairs_within, pairs_at, list_at}

abbrev pub with_front : Option (List (ℕ × ℕ)) → Result (Option (List (ℕ × ℕ)) × List ℕ) Reason → Result (Option (List (ℕ × ℕ)) × List ℕ) Reason
with_front front read = read >>= λ x. Ok (joined front x.0, x.1)

joined-assoc : (front one others : Option (List (ℕ × ℕ))) → joined front (joined one others) ≡ joined (joined front one) others
joined-assoc front one others = grind (arith, append_assoc)

with_front-with_front : (front one : Option (List (ℕ × ℕ))) (read : Result (Option (List (ℕ × ℕ)) × List ℕ) Reason) → with_front front (with_front one read) ≡ with_front (joined front one) read
with_front-with_front front one read = grind (arith, joined-assoc)

-- a pair is pushed
pub pair_joins : (old : Bool) (pairs : List (ℕ × ℕ)) {all : List (ℕ × ℕ)} (p : ℕ × ℕ) → all ≡ pairs ++ p ∷ [] → kept old all ≡ joined (kept old pairs) (one_pair (Some p))
pair_joins old pairs p is = grind (arith)

-- a pair counts for nothing
pub none_joins : (old : Bool) (pairs : List (ℕ × ℕ)) → None ≡ joined (kept old pairs) (one_pair None)
none_joins old pairs = grind (arith)

pub starts : (bytes : List ℕ) → with_front (Some []) (pairs_within (length bytes + 1) bytes) ≡ pairs_at bytes
unfolding pairs_at
starts bytes = grind (arith)

-- whether a byte is ahead, as a search for it answers
pub ahead : (b : ℕ) (bytes : List ℕ) → pointwise nat_eq (take 1 bytes) (b ∷ []) ≡ begins_with b bytes
ahead b bytes = grind (arith, and-true)

-- whether it is ahead, as a text is asked for it
pub starts_so : (b : ℕ) (bytes : List ℕ) → pointwise nat_eq (b ∷ []) (take 1 bytes) ≡ begins_with b bytes
starts_so b bytes = grind (arith, and-true)

-- a byte that is ahead can be passed
pub shortened : (b : ℕ) (bytes : List ℕ) → begins_with b bytes ≡ true → length (drop 1 bytes) < length bytes
shortened b bytes begun = grind (arith)

pub list_begun : (bytes rest : List ℕ) → begins_with 59 bytes ≡ true → rest ≡ drop 1 bytes → pairs_at rest ≡ list_at bytes
unfolding list_at
list_begun bytes rest begun is = rw (begun, is) refl

pub no_list : (bytes : List ℕ) → begins_with 59 bytes ≡ false → list_at bytes ≡ Ok (Some [], bytes)
unfolding list_at
no_list bytes none = rw none refl

-- after a pair and a comma
pub goes_on : (more : ℕ) (front : Option (List (ℕ × ℕ))) (bytes : List ℕ) (pair : Option (ℕ × ℕ)) (after : List ℕ) (total : Result (Option (List (ℕ × ℕ)) × List ℕ) Reason) → length bytes < more → length (drop 1 after) < length after → length after ≤ length bytes
    → pair_at bytes ≡ Ok (pair, after) → begins_with 44 after ≡ true → with_front front (pairs_within more bytes) ≡ total
    → (less : ℕ) × (length (drop 1 after) < less) × (with_front (joined front (one_pair pair)) (pairs_within less (drop 1 after)) ≡ total)
unfolding pairs_within
goes_on zero front bytes pair after total low shorter shortened h comma so_far = absurd (omega arith)
goes_on (suc more) front bytes pair after total low shorter shortened h comma so_far =
    let one : with_front front (pairs_within (suc more) bytes) ≡ with_front front (with_front (one_pair pair) (pairs_within more (drop 1 after))) = rw (h, comma) refl in
    (more, omega arith, sym (with_front-with_front front (one_pair pair) (pairs_within more (drop 1 after))) ∙ sym one ∙ so_far)

-- after the last pair
pub is_done : (more : ℕ) (front : Option (List (ℕ × ℕ))) (bytes : List ℕ) (pair : Option (ℕ × ℕ)) (after : List ℕ) (total : Result (Option (List (ℕ × ℕ)) × List ℕ) Reason) → length bytes < more
    → pair_at bytes ≡ Ok (pair, after) → begins_with 44 after ≡ false → with_front front (pairs_within more bytes) ≡ total → total ≡ Ok (joined front (one_pair pair), after)
unfolding pairs_within
is_done more front bytes pair after total low h comma so_far = grind (arith)

-- where a pair has no form
pub fails : (e : Refusal) (more : ℕ) (front : Option (List (ℕ × ℕ))) (bytes : List ℕ) (total : Result (Option (List (ℕ × ℕ)) × List ℕ) Reason) → length bytes < more → Fails e (pair_at bytes) → with_front front (pairs_within more bytes) ≡ total → Fails e total
unfolding pairs_within
fails e more front bytes total low h so_far = grind (arith)
