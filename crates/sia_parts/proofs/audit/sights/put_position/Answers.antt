-- The row is that of the reader's number.
use Rattle.std.proofs.Common.{◌≡◌, ℕ, Some, ap, sym, ◌∙◌}
use Rattle.std.proofs.lemmas.Option.{same_Some}
use Rattle.sia_parts.proofs.Shared.Adding.{adds_same}
use Rattle.sia_parts.proofs.audit.sights.put_position.Goals as goal

pub returns-in_ok-put : goal.returns-in_ok-put
returns-in_ok-put c =
    let reader = c.in-Some.reader in
    adds_same (λ (p : ℕ × ℕ). p ≡ (reader, c.args.position)) (λ (p : ℕ × ℕ). (c.args.number ≡ Some p.0) × (p.1 ≡ c.args.position)) _ _
    (λ p same. (c.in-Some.is ∙ ap Some (sym (ap (λ (q : ℕ × ℕ). q.0) same)), ap (λ (q : ℕ × ℕ). q.1) same))
    (λ p own.
    let number : reader ≡ p.0 = same_Some reader p.0 (sym c.in-Some.is ∙ own.0) in
    λ i. (sym number i, own.1 i))
    c.in_ok-put.ensures
