-- One part that holds all keys.
use Rattle.std.proofs.Common.{◌≡◌, inl, inr, [], ◌∷◌, get_or, refl, subst, sym, arith}
use Rattle.sia_parts.specs.declared.cutting.Part.{Part}
use Rattle.sia_parts.specs.Parts.{IsCutting}

abbrev pub whole : Part
whole = record { lo = 0; hi = 18446744073709551615 }

pub uncut : IsCutting [] (whole ∷ [])
uncut = (
  0 ∷ [],
  record {
    ascending = λ i j d less below. absurd (omega arith);
    each = λ s. (
      (λ c. let e : c.0 ≡ 0 = (let b = c.1 in omega arith) in inl (sym (subst (λ k. get_or (0 ∷ []) k s ≡ s) e c.2))),
      (λ w. elim w [ inl zero_ ↦ (0, omega arith, sym zero_) | inr c ↦ absurd (let below = c.1 in omega arith) ]),
    );
  },
  refl,
)
