-- All reads are dealt to one part, and what is found there with the edges is the part's.
use Rattle.std.proofs.Common.{inl, inr, [], ◌∷◌, refl, sym, subst, ◌∙◌, arith}
use Rattle.std.specs.Prelude.{Contains}
use Rattle.sia_events.specs.Refusals.{IsWellFormed}
use Rattle.sia_parts.specs.declared.cutting.Part.{Part}
use Rattle.sia_parts.proofs.Auditing.KeyLemmas.{seen_key}
use Rattle.sia_parts.proofs.Auditing.Members.{contains_first, contains_none, first_or_later}
use Rattle.sia_parts.proofs.audit.audit_part.Goals as goal

abbrev all : Part
all = record { lo = 0; hi = 18446744073709551615 }

pub of-requires : goal.of-requires
of-requires c = (
  [],
  (
    0 ∷ [],
    record {
      ascending = λ i j d less below. absurd (omega arith);
      each = λ x. (
        (λ has. elim (first_or_later 0 x [] has) [ inl same ↦ inl (sym same) | inr none ↦ absurd (contains_none x none) ]),
        (λ s. elim s [ inl zero ↦ subst (Contains (0 ∷ [])) (sym zero) (contains_first 0 []) | inr none ↦ absurd (contains_none x none) ]),
      );
    },
    refl,
  ),
)

pub find_in_part-requires-clause-places : goal.find_in_part-requires-clause-places
find_in_part-requires-clause-places c p t k v saw inside =
    let h = c.log-log.result.now in
    let wf : IsWellFormed h = subst IsWellFormed (c.requires ∙ sym c.log-log.ensures) c.law.ensures in
    let fits = seen_key h wf p t k v saw in
    c.of_part.ensures h (all ∷ []) all c.in_ok-reads.ensures refl p t k v saw (omega arith, omega arith)
