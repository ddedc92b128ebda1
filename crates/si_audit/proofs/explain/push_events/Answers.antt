use Rattle.std.proofs.Common.{◌≡◌, List, ℕ, [], ◌++◌, ◌∙◌, OnOk, Result, ap, append-nil, codes, refl, subst, sym}
use Rattle.std.proofs.lemmas.Result.{on_ok_weaker}
use Rattle.sia_parts.specs.declared.finding.Kind.{Kind}
use Rattle.si_audit.specs.Reasons.{TellsEvents}
use Rattle.sia_parts.proofs.OfReasons.PushedWords.{three_words}
use Rattle.si_audit.proofs.explain.push_events.Goals as goal

-- one thing, and another behind it
both_told : {A E : Type 0} (r : Result A E) (Both One Other : List ℕ → Type 0) (o m n : List ℕ) → ((x y : List ℕ) → One x → Other y → Both (x ++ codes "; " ++ y))
    → (x : List ℕ) × One x × (m ≡ o ++ [] ++ x) → OnOk r ((y : List ℕ) × Other y × (n ≡ m ++ codes "; " ++ y)) → OnOk r ((words : List ℕ) × Both words × (n ≡ o ++ words))
both_told r Both One Other o m n both one = on_ok_weaker r (λ other. (
  one.0 ++ codes "; " ++ other.0,
  both one.0 other.0 one.1 other.1,
  three_words o _ _ _ one.0 (codes "; ") other.0 (one.2 ∙ ap (λ (x : List ℕ). x ++ one.0) (append-nil o)) refl other.2,
))

pub returns-in_ok-push_version-in-Ww : goal.returns-in_ok-push_version-in-Ww
returns-in_ok-push_version-in-Ww c =
    both_told c.push_version-in-Ww.result (TellsEvents c.args.e.now.kind c.args.of.now.history.now c.args.e.now) _ _ _ _ _
    (λ x y p q. subst (λ (kind : Kind). TellsEvents kind c.args.of.now.history.now c.args.e.now (x ++ codes "; " ++ y)) (sym c.in-Ww.is) (x, y, p, q, refl)) c.in_ok-push_version-in-Ww.ensures c.push_version-in-Ww.ensures

pub returns-in_ok-push_version-in-Wr : goal.returns-in_ok-push_version-in-Wr
returns-in_ok-push_version-in-Wr c =
    both_told c.push_sight.result (TellsEvents c.args.e.now.kind c.args.of.now.history.now c.args.e.now) _ _ _ _ _
    (λ x y p q. subst (λ (kind : Kind). TellsEvents kind c.args.of.now.history.now c.args.e.now (x ++ codes "; " ++ y)) (sym c.in-Wr.is) (x, y, p, q, refl)) c.in_ok-push_version-in-Wr.ensures c.push_sight.ensures

pub returns-in_ok-push_sight-in-Rw : goal.returns-in_ok-push_sight-in-Rw
returns-in_ok-push_sight-in-Rw c =
    both_told c.push_version-in-Rw.result (TellsEvents c.args.e.now.kind c.args.of.now.history.now c.args.e.now) _ _ _ _ _
    (λ x y p q. subst (λ (kind : Kind). TellsEvents kind c.args.of.now.history.now c.args.e.now (x ++ codes "; " ++ y)) (sym c.in-Rw.is) (x, y, p, q, refl)) c.in_ok-push_sight-in-Rw.ensures c.push_version-in-Rw.ensures
