-- The first sight that gives the edge, of those under the keys so far, and of the ones so far under this key.
use Rattle.std.proofs.Common.{◌≡◌, ◌⊎◌, ◌<◌, ℕ, List, slice_index_or}
use Rattle.std.specs.Prelude.{Contains}
use Rattle.sia_parts.specs.declared.reasons.Act.{Act}
use Rattle.sia_parts.specs.Sightings.{Gives, reader_of}
use Rattle.sia_parts.proofs.OfReasons.Sighted.{IsFirstAt}
use Rattle.sia_parts.proofs.reasons.first_sight.Given as goal

-- places of t's reads under the first n of these keys
abbrev pub UnderFirst : List Act → ℕ → List ℕ → ℕ → ℕ → Type 0
UnderFirst acts t keys n p = (j : ℕ) × (j < n) × Contains acts (record { txn = t; key = slice_index_or keys j 0; place = p })

-- and of the first i of these
abbrev pub OrAmong : (ℕ → Type 0) → List Act → ℕ → ℕ → Type 0
OrAmong At group n p = At p ⊎ ((i : ℕ) × (i < n) × ((slice_index_or group i (record { txn = 0; key = 0; place = 0 })).place ≡ p))

abbrev pub invariant-loop-act : goal.invariant-loop-act
invariant-loop-act l = IsFirstAt (Gives l.e.kind l.h l.e.src l.e.dst l.e.key) l.h (reader_of l.e.kind l.e.src l.e.dst) l.e.key
    (OrAmong (UnderFirst l.acts (reader_of l.e.kind l.e.src l.e.dst) l.key-items l.key-index) l.act-items l.act-index) l.first

abbrev pub invariant-loop-key : goal.invariant-loop-key
invariant-loop-key l = IsFirstAt (Gives l.e.kind l.h l.e.src l.e.dst l.e.key) l.h (reader_of l.e.kind l.e.src l.e.dst) l.e.key
    (UnderFirst l.acts (reader_of l.e.kind l.e.src l.e.dst) l.key-items l.key-index) l.first
