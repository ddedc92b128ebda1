-- The slot is filled, or the tree gets the name.
use Rattle.std.proofs.Common.{◌≡◌, ℕ, ◌+◌, ◌<◌, ◌≤◌, List, Some, refl, ap, arith, slice_get, sym, subst, ◌∙◌}
use Rattle.sia_events.specs.declared.finder.Finder.{Finder}
use Rattle.sia_events.specs.Finding.{home, AreTaken, Reaches}
use Rattle.sia_events.proofs.LogRows.Finders.{copied_is, equal_some, filled_keeps, filled_finds, grown_keeps, grown_finds}
use Rattle.sia_events.proofs.finder.Finder.put.Goals as goal

at_home : (f g : Finder) (name h : ℕ) → f ≡ g → h ≡ home g name → h ≡ home f name
at_home f g name h same is = is ∙ ap (λ (x : Finder). home x name) (sym same)

all_steps : (e step : ℕ) → e < 8 → 8 ≤ step → e < step
all_steps e step less done = omega arith

is_free : (c : goal.After-self-1) → slice_get c.loop-step.self.slots.items (c.home-home.result + c.loop-step.step) ≡ Some 0
is_free c = sym (ap (λ (slots : List ℕ). slice_get slots (c.home-home.result + c.loop-step.step)) c.deref.ensures.value) ∙ sym (copied_is c.deref.result.now _ c.get.result c.get.ensures.lookup.0 c.get.ensures.lookup.1) ∙ sym c.copied.ensures ∙ equal_some c.copied.result 0 (sym c.if-eq.true ∙ c.eq.ensures)

pub returns-then-eq-clause-taken : goal.returns-then-eq-clause-taken
returns-then-eq-clause-taken c = λ names named. filled_finds c.loop-step.self _ (c.home-home.result + c.loop-step.step) c.args.number (record {
  factor = refl;
  mask = refl;
  tree = refl;
  slots = refl;
  free = is_free c;
}) names c.args.name c.loop-step.step (ap (λ i. i + c.loop-step.step) (at_home c.loop-step.self c.args.self.now c.args.name c.home-home.result c.loop-step.invariant.1 c.home-home.ensures.home)) c.loop-step-test.true (subst (λ i. AreTaken c.loop-step.self.slots.items i c.loop-step.step) (at_home c.loop-step.self c.args.self.now c.args.name c.home-home.result c.loop-step.invariant.1 c.home-home.ensures.home) c.loop-step.invariant.0) named

pub returns-then-eq-clause-kept : goal.returns-then-eq-clause-kept
returns-then-eq-clause-kept c = λ names other named was. filled_keeps c.loop-step.self _ (c.home-home.result + c.loop-step.step) c.args.number (record {
  factor = refl;
  mask = refl;
  tree = refl;
  slots = refl;
  free = is_free c;
}) names other (subst (λ (f : Finder). Reaches f names other) (sym c.loop-step.invariant.1) was)

pub returns-clause-taken : goal.returns-clause-taken
returns-clause-taken c = λ names named. grown_finds c.loop-step.self _ c.args.name c.args.number (record {
  factor = refl;
  mask = refl;
  slots = refl;
  here = c.in_ok-insert.ensures.updates.1;
  others = c.in_ok-insert.ensures.updates.2;
  taken = subst (λ i. AreTaken c.loop-step.self.slots.items i 8) (at_home c.loop-step.self c.args.self.now c.args.name c.home-home.result c.loop-step.invariant.1 c.home-home.ensures.home) (λ e less. c.loop-step.invariant.0 e (all_steps e c.loop-step.step less c.loop-step-test.false));
}) names named

pub returns-clause-kept : goal.returns-clause-kept
returns-clause-kept c = λ names other named was. grown_keeps c.loop-step.self _ c.args.name c.args.number (record {
  factor = refl;
  mask = refl;
  slots = refl;
  here = c.in_ok-insert.ensures.updates.1;
  others = c.in_ok-insert.ensures.updates.2;
  taken = subst (λ i. AreTaken c.loop-step.self.slots.items i 8) (at_home c.loop-step.self c.args.self.now c.args.name c.home-home.result c.loop-step.invariant.1 c.home-home.ensures.home) (λ e less. c.loop-step.invariant.0 e (all_steps e c.loop-step.step less c.loop-step-test.false));
}) names other named (subst (λ (f : Finder). Reaches f names other) (sym c.loop-step.invariant.1) was)
