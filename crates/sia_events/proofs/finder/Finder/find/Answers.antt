-- The slots are looked at one after another, and then the tree.
use Rattle.std.proofs.Common.{◌≡◌, ◌≢◌, ℕ, ◌+◌, ◌<◌, ◌∙◌, List, Some, ap, arith, map, rules, slice_get, sym}
use Rattle.sia_events.specs.Finding.{FindsBelow}
use Rattle.sia_events.proofs.LogRows.Finders.{copied_is, free_first, from_below, no_slot, none_in_tree, not_found, of_tree, one_more_other, other_slot}
use Rattle.sia_events.proofs.finder.Finder.find.Goals as goal
use Rattle.sia_events.proofs.finder.Finder.find.Goals.{In-Some-eq0, After-from_residual, Else-is_named-2, in-Some+else-is_named, in-None-1}

pub loop-step-init : goal.loop-step-init
loop-step-init g c = λ e less. absurd (omega arith)

at_slot : (g : _) (c : goal.Joined-copied g) → c.copied.result ≡ slice_get c.args.self.now.slots.items (c.home-home.result + c.loop-step.step)
at_slot g c = c.copied.ensures ∙ copied_is c.deref.result.now _ c.get.result c.get.ensures.lookup.0 c.get.ensures.lookup.1 ∙ ap (λ (slots : List ℕ). slice_get slots (c.home-home.result + c.loop-step.step)) c.deref.ensures.value

pub loop-step-preserved : goal.loop-step-preserved
loop-step-preserved g c = one_more_other c.args.self.now.slots.items (map g.R.Named.named c.args.rows.now) c.home-home.result c.args.name c.loop-step.step c.loop-step.invariant (elim c.match-copied.branch [
  | in-Some+else-is_named w ↦ other_slot c.args.self.now.slots.items _ (c.home-home.result + c.loop-step.step) _ _ w.in-Some.slot (at_slot g c) w.in-Some.is w.in-Some.slot-test.1 (w.is_named.ensures.no w.if-is_named.false)
  | in-None-1 w ↦ no_slot c.args.self.now.slots.items _ (c.home-home.result + c.loop-step.step) _ _ (at_slot g c) (search rules)
])

at_first : (g : _) (c : In-Some-eq0 g) → c.copied.result ≡ slice_get c.args.self.now.slots.items (c.home-home.result + c.loop-step.step)
at_first g c = c.copied.ensures ∙ copied_is c.deref.result.now _ c.get.result c.get.ensures.lookup.0 c.get.ensures.lookup.1 ∙ ap (λ (slots : List ℕ). slice_get slots (c.home-home.result + c.loop-step.step)) c.deref.ensures.value

free : (g : _) (c : In-Some-eq0 g) (end : ℕ) → FindsBelow c.args.self.now (map g.R.Named.named c.args.rows.now) end → (n : ℕ) → n < end → slice_get (map g.R.Named.named c.args.rows.now) n ≢ Some c.args.name
free g c end = free_first c.args.self.now (map g.R.Named.named c.args.rows.now) c.args.name c.home-home.result c.loop-step.step end c.home-home.ensures.home c.loop-step-test.true c.loop-step.invariant (sym (at_first g c) ∙ c.in-Some-eq0.is ∙ ap Some c.in-Some-eq0.field-0-test)

pub returns-in-Some-eq0-clause-none : goal.returns-in-Some-eq0-clause-none
returns-in-Some-eq0-clause-none g c = from_below c.args.self.now (map g.R.Named.named c.args.rows.now) c.args.name (free g c _)

pub returns-in-Some-eq0-clause-none_below : goal.returns-in-Some-eq0-clause-none_below
returns-in-Some-eq0-clause-none_below g c = free g c

missing : (g : _) (c : After-from_residual g) (end : ℕ) → FindsBelow c.args.self.now (map g.R.Named.named c.args.rows.now) end → (n : ℕ) → n < end → slice_get (map g.R.Named.named c.args.rows.now) n ≢ Some c.args.name
missing g c end = not_found c.args.self.now (map g.R.Named.named c.args.rows.now) c.args.name c.home-home.result c.loop-step.step end c.home-home.ensures.home c.loop-step-test.false c.loop-step.invariant (none_in_tree _ _ _ c.in_err-number.ensures.value)

pub returns-in_err-number-clause-none : goal.returns-in_err-number-clause-none
returns-in_err-number-clause-none g c = λ finds. rw (c.from_residual.ensures) (from_below c.args.self.now (map g.R.Named.named c.args.rows.now) c.args.name (missing g c _) finds)

pub returns-in_err-number-clause-none_below : goal.returns-in_err-number-clause-none_below
returns-in_err-number-clause-none_below g c = λ end finds. rw (c.from_residual.ensures) (missing g c end finds)

other : (g : _) (c : Else-is_named-2 g) (end : ℕ) → FindsBelow c.args.self.now (map g.R.Named.named c.args.rows.now) end → (n : ℕ) → n < end → slice_get (map g.R.Named.named c.args.rows.now) n ≢ Some c.args.name
other g c end = not_found c.args.self.now (map g.R.Named.named c.args.rows.now) c.args.name c.home-home.result c.loop-step.step end c.home-home.ensures.home c.loop-step-test.false c.loop-step.invariant (of_tree _ _ c.in_ok-number.field-0.now _ c.in_ok-number.ensures.value (c.is_named-2.ensures.no c.if-is_named-2.false))

pub returns-clause-none : goal.returns-clause-none
returns-clause-none g c = from_below c.args.self.now (map g.R.Named.named c.args.rows.now) c.args.name (other g c _)

pub returns-clause-none_below : goal.returns-clause-none_below
returns-clause-none_below g c = other g c
