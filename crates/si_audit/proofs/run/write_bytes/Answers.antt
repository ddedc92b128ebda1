use Rattle.std.proofs.Common.{◌≡◌, ◌≢◌, ◌↔◌, ◌⊎◌, inl, inr, ℕ, ◌<◌, ◌-◌, Bool, true, false, List, ◌++◌, Result, Ok, IsErr, IsTrue, IsFalse, length, take, drop, refl, arith, ap, sym, ◌∙◌, append_assoc, take-append-drop}
use Rattle.std.proofs.KnownBytes.{Appends-trans}
use Rattle.std.proofs.lemmas.Grind.{common_steps}
use Rattle.si_audit.specs.declared.devices.Failed.{Failed}
use Rattle.si_audit.proofs.run.write_bytes.Goals as goal

-- what was taken goes from the rest to the front
moved : (bytes front rest : List ℕ) (n : ℕ) → bytes ≡ front ++ rest → bytes ≡ (front ++ take n rest) ++ take (length rest - n) (drop n rest)
moved bytes front rest n e =
    let all : take (length rest - n) (drop n rest) ≡ drop n rest = grind (arith, common_steps) in
    e ∙ ap (λ (l : List ℕ). front ++ l) (sym (take-append-drop n rest)) ∙ sym (append_assoc front (take n rest) (drop n rest)) ∙ ap (λ (l : List ℕ). (front ++ take n rest) ++ l) (sym all)

-- a write that took some bytes is no failure
still : (new old : Bool) (n len : ℕ) → (IsTrue new ↔ (IsTrue old ⊎ IsErr {E = Failed} (Ok n) ⊎ (◌≡◌ {A = Result ℕ Failed} (Ok n) (Ok 0) × (0 < len)))) → IsFalse old → n ≢ 0 → IsFalse new
still true old n len e was some = elim (e.0 refl) [
  | inl o ↦ cc
  | inr (inl f) ↦ cc
  | inr (inr z) ↦ let same : ◌≡◌ {A = Result ℕ Failed} (Ok n) (Ok 0) = z.0 in absurd (some (cc))
]
still false old n len e was some = refl

pub writing-preserved : goal.writing-preserved
writing-preserved g c = record {
  front = c.writing.invariant.front ++ take c.in_ok-taken.taken c.writing.rest.now;
  split = moved _ _ _ c.in_ok-taken.taken c.writing.invariant.split;
  appended = Appends-trans _ _ _ _ _ c.writing.invariant.appended c.in_ok-taken.ensures.bytes;
  sound = still _ _ _ _ c.in_ok-taken.ensures.failed c.writing.invariant.sound c.if-taken-eq0.false;
  open_still = still _ _ _ _ c.in_ok-taken.ensures.refused c.writing.invariant.open_still c.if-taken-eq0.false;
}
