-- The miss is one more, unless the last one holds it.
use Rattle.std.proofs.Common.{◌≡◌, inl, inr, ℕ, Some, refl, ap, sym, subst, ◌∙◌, arith}
use Rattle.std.proofs.lemmas.Option.{same_Some}
use Rattle.sia_parts.specs.declared.accesses.RangeMiss.{RangeMiss}
use Rattle.sia_parts.specs.Accesses.{IsMissAt, IsPassedBy}
use Rattle.sia_parts.specs.Seeing.{IsMiss}
use Rattle.sia_parts.proofs.Shared.Adding.{gives_held}
use Rattle.sia_parts.proofs.Auditing.Gaining.{all_adds}
use Rattle.sia_parts.proofs.audit.ranges.put_miss.Goals as goal

pub returns : goal.returns
returns c =
    let reader = c.in-Some.reader in
    let row : ℕ × RangeMiss = (reader, c.args.miss) in
    record {
      misses = λ at. (
        (λ f. elim ((c.in_ok-put.ensures f.0).0 f.1) [
          | inl before ↦ inl (f.0, before, f.2)
          | inr same ↦
              let own = subst (λ (p : ℕ × RangeMiss). IsPassedBy p at) same f.2 in
              inr (c.in-Some.is ∙ ap Some own.0, own.1)
        ]),
        (λ e. elim e [
          | inl f ↦ (f.0, (c.in_ok-put.ensures f.0).1 (inl f.1), f.2)
          | inr is ↦ (row, (c.in_ok-put.ensures row).1 (inr refl), (same_Some reader at.0 (sym c.in-Some.is ∙ is.0), is.1))
        ]),
      );
      some = all_adds IsMiss (λ p. p ≡ row) c.args.missed.now c.put.new.self c.in_ok-put.ensures (λ p same. subst IsMiss (sym same) c.requires);
    }

pub returns-then-miss-held-clause-misses : goal.returns-then-miss-held-clause-misses
returns-then-miss-held-clause-misses c = gives_held IsPassedBy (λ at. (c.args.number ≡ Some at.0) × IsMissAt c.args.miss at.1) c.args.missed.now (λ at is.
    let low = is.1.0 in
    let high = is.1.1 in
    let from = c.if-held-miss.true in
    let to = c.if-miss-held.true in
    let same : c.in-Some.reader ≡ at.0 = same_Some c.in-Some.reader at.0 (sym c.in-Some.is ∙ is.0) in
    ((c.in-Some-last.last, c.in-Some-last.held), c.in-Some-last.ensures, (c.if-last-reader.true ∙ same, (omega arith, omega arith))))
