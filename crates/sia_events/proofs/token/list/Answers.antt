-- A pair goes on the list, ends it, or has no form.
use Rattle.std.proofs.Common.{◌≡◌, ◌<◌, ◌+◌, ◌-◌, Option, Some, None, length, drop, sym, ◌∙◌, subst, arith}
use Rattle.std.proofs.lemmas.List.{take_rest}
use Rattle.std.proofs.lemmas.Result.{err_from_is_err_and}
use Rattle.std.specs.Prelude.{MatchOption}
use Rattle.sia_events.specs.Listings.{listed, TakesPair}
use Rattle.sia_events.specs.Parsing.{list_at}
use Rattle.sia_events.proofs.TokensRead.Pairs.{with_front, ahead, list_begun, no_list, starts, shortened, goes_on, is_done, fails}
use Rattle.sia_events.proofs.token.list.Goals as goal
use Rattle.sia_events.proofs.token.list.Goals.{in-Some-2, in-None+in_ok-after-in-None}

pub loop-taken-init : goal.loop-taken-init
loop-taken-init c = grind (arith, list_begun, ahead, with_front, starts)

pub returns-in_default : goal.returns-in_default
returns-in_default c = rw (c.clear.ensures.items) (no_list c.args.text.now (sym (ahead 59 c.args.text.now) ∙ c.in_default.ensures.cases))

pub returns-in_err-taken : goal.returns-in_err-taken
returns-in_err-taken c = grind (arith, err_from_is_err_and, fails)

pub returns-in_err-after-in-None : goal.returns-in_err-after-in-None
returns-in_err-after-in-None c = grind (arith, err_from_is_err_and, fails)

there : {A : Type 0} (P : Type 0) (Q : A → Type 0) {x : Option A} {a : A} → x ≡ Some a → MatchOption x P Q → Q a
there P Q is told = subst (λ y. MatchOption y P Q) is told

not_there : {A : Type 0} (P : Type 0) (Q : A → Type 0) {x : Option A} → x ≡ None → MatchOption x P Q → P
not_there P Q is told = subst (λ y. MatchOption y P Q) is told

taken : (c : goal.After-rest-in-loop-taken-1) → TakesPair (listed c.loop-taken.listing) (listed c.match-branch-2.listing) c.loop-taken.rest.now c.match-branch-2.goes_on.0.now c.match-branch-2.goes_on.1
taken c = elim c.match-branch-2.branch [
  | in-Some-2 w ↦ rw (w.listing-is, w.goes_on-is) (there _ _ w.in-Some-2.is c.in_ok-taken.ensures.takes)
  | in-None+in_ok-after-in-None w ↦ rw (w.listing-is, w.goes_on-is, ← not_there _ _ w.in-None.is c.in_ok-taken.ensures.takes) w.in_ok-after-in-None.ensures.takes
]

pub returns-then-not-goes_on : goal.returns-then-not-goes_on
returns-then-not-goes_on c = grind (arith, is_done)

less_left : (c : goal.After-rest-in-loop-taken-1) → length (drop 1 c.match-branch-2.goes_on.0.now) < length c.match-branch-2.goes_on.0.now
less_left c = shortened 44 c.match-branch-2.goes_on.0.now (sym (taken c).comma ∙ c.if-not-goes_on.false)

pub loop-taken-preserved : goal.loop-taken-preserved
loop-taken-preserved c =
    let after = c.match-branch-2.goes_on.0.now in
    let i = c.loop-taken.invariant in
    let t = taken c in
    rw (take_rest after 1, t.joins) (goes_on i.0 (listed c.loop-taken.listing) c.loop-taken.rest.now t.pair after (list_at c.args.text.now) i.1 (less_left c) t.shorter t.read (sym t.comma ∙ c.if-not-goes_on.false) i.2)
