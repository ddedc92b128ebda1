use Rattle.std.specs.List.{AllWithin, HoldsAt}
use Rattle.std.proofs.Common.{◌≡◌, ◌⊎◌, inl, inr, ℕ, Bool, true, false, List, Option, sym, ◌+◌, ◌<◌, ◌≤◌, length, ap, get_or, refl, reverse, subst, ◌∙◌, arith, MatchOption, unwrap_or}
use Rattle.std.proofs.lemmas.Bool.{cases_lt}
use Rattle.sia_graph.specs.Previous.{IsLeftIn}
use Rattle.sia_graph.specs.Searched.{IsEdgeIn, IsMemberIn}
use Rattle.sia_graph.specs.Walks.{ArePreviousFrom, GoesRoundFrom, LeadsBack, StaysWithin, back}
use Rattle.sia_graph.specs.declared.cycle.Step.{Step}
use Rattle.sia_graph.specs.Orders.{Leads}
use Rattle.sia_graph.proofs.Cycles.Rounds.{IsPartOfRound, part_more, part_none, round_made}
use Rattle.sia_graph.proofs.Cycles.PrintedCycle.{fed_by_stuck, least_home, previous_from, round_home, shifted, leads_all, printed, stays_within}
use Rattle.sia_graph.proofs.Cycles.Walks.{back_more, back_next, ends_round, least_more, stays}
use Rattle.sia_graph.proofs.cycle.cycle_of.Goals.{After-loop, In_ok-steps, After-round, After-unwrap_or-place}
use Rattle.sia_graph.proofs.cycle.cycle_of.Goals as goal

-- the first that is left
abbrev IsFirstLeft : List Bool → Option ℕ → Type 0
IsFirstLeft left r = MatchOption r (AllWithin (λ b. b ≡ false) left 0 (length left)) (λ i. (i < length left) × HoldsAt (λ b. b ≡ true) left i × AllWithin (λ b. b ≡ false) left 0 i)

is_first : (left : List Bool) (r : Option ℕ) → IsFirstLeft left r → ((i : ℕ) × (i < length left) × IsLeftIn left i) → (start : ℕ) → start ≡ unwrap_or r 0 → (start < length left) × IsLeftIn left start × ((i : ℕ) → i < start → ¬ IsLeftIn left i)
is_first left r p q start s = grind arith

start_is : (c : After-unwrap_or-place) → (c.unwrap_or-place.result < length c.args.left.now) × IsLeftIn c.args.left.now c.unwrap_or-place.result × ((i : ℕ) → i < c.unwrap_or-place.result → ¬ IsLeftIn c.args.left.now i)
start_is c = grind (arith, is_first)

within : (c : After-unwrap_or-place) → StaysWithin c.args.previous.now
within c = stays_within c.args.ids.now (IsEdgeIn c.args.edges.now) (IsLeftIn c.args.left.now) c.args.previous.now c.requires.long.1 c.requires.least

started : (c : After-unwrap_or-place) → c.unwrap_or-place.result < length c.args.previous.now
started c = let a = (start_is c).0 in let b = c.requires.long in omega arith

-- as many steps back as there are positions lead to the place, and one goes round from there
reached : (c : After-loop) → back c.args.previous.now (length c.args.previous.now) c.unwrap_or-place.result ≡ c.loop.place
reached c = grind arith

turns : (c : After-loop) → (period : ℕ) × (0 < period) × (period ≤ length c.args.previous.now) × (back c.args.previous.now period c.loop.place ≡ c.loop.place)
turns c =
    subst (λ place. (period : ℕ) × (0 < period) × (period ≤ length c.args.previous.now) × (back c.args.previous.now period place ≡ place)) (reached c)
    (ends_round c.args.previous.now c.unwrap_or-place.result (within (goal.at.round-init c).After-unwrap_or-place) (started (goal.at.round-init c).After-unwrap_or-place))

-- home is the least of as many steps back from there
home_is : (c : After-round) → ((n : ℕ) × (n ≤ length c.args.previous.now) × (back c.args.previous.now n c.loop.place ≡ c.round.home)) × ((n : ℕ) → n ≤ length c.args.previous.now → c.round.home ≤ back c.args.previous.now n c.loop.place)
home_is c = grind arith

pub loop-preserved : goal.loop-preserved
loop-preserved c = grind (arith, within, back_next)

pub round-init : goal.round-init
round-init c = grind arith

pub round-preserved : goal.round-preserved
round-preserved c =
    let previous = c.args.previous.now in
    let next = get_or previous c.round.place 0 in
    let home = c.min-home.result in
    let chosen : ((next < c.round.home) × (home ≡ next)) ⊎ ((c.round.home ≤ next) × (home ≡ c.round.home)) = elim (cases_lt next c.round.home) [
      | inl less ↦ inl (less, omega arith)
      | inr more ↦ inr (more, omega arith)
    ] in
    let more = least_more previous c.loop.place c.round.counter c.round.place c.round.home next c.round.invariant.1 refl c.round.invariant.2 c.round.invariant.3 home chosen in (
      within (goal.at.round-preserved c).After-unwrap_or-place c.round.place c.round.invariant.0,
      ap (λ i. get_or previous i 0) c.round.invariant.1 ∙ sym (back_next previous c.round.counter c.loop.place),
      more.0,
      more.1,
    )

-- home is a place on the cycle
home_inside : (c : In_ok-steps) → c.round.home < length c.args.previous.now
home_inside c = grind (arith, home_is, stays, within)

round_is : (c : In_ok-steps) → (period : ℕ) × (0 < period) × (period ≤ length c.args.previous.now) × (back c.args.previous.now period c.round.home ≡ c.round.home)
round_is c =
    let w = turns (goal.at.walk-init c).After-loop in
    let v = home_is (goal.at.walk-init c).After-round in
    (w.0, w.1, w.2, round_home c.args.previous.now c.loop.place w.0 c.round.home w.1 w.3 (v.0.0, v.0.2) (λ n l. v.1 n (let few = w.2 in omega arith)))

least_is : (c : In_ok-steps) → (n : ℕ) → c.round.home ≤ back c.args.previous.now n c.round.home
least_is c =
    let w = turns (goal.at.walk-init c).After-loop in
    let v = home_is (goal.at.walk-init c).After-round in
    least_home c.args.previous.now c.loop.place w.0 c.round.home w.1 w.3 (v.0.0, v.0.2) (λ n l. v.1 n (let few = w.2 in omega arith))

-- as many steps back from the start lead home
homed : (c : After-loop) (home n : ℕ) → back c.args.previous.now n c.loop.place ≡ home → back c.args.previous.now (length c.args.previous.now + n) c.unwrap_or-place.result ≡ home
homed c home n is = grind (arith, back_more, reached)

-- each step back is along an edge from the least that leads there
previous_are : (c : After-unwrap_or-place) → ArePreviousFrom c.args.ids.now (IsEdgeIn c.args.edges.now) (IsLeftIn c.args.left.now) c.args.previous.now c.unwrap_or-place.result
previous_are c =
    let ids = c.args.ids.now in
    let E = IsEdgeIn c.args.edges.now in
    let L = IsLeftIn c.args.left.now in
    let r = c.requires.stuck in
    let first = start_is c in
    let inside : c.unwrap_or-place.result < length ids = let a = first.0 in let b = c.requires.long.0 in omega arith in
    previous_from ids E L c.args.previous.now c.unwrap_or-place.result c.requires.least inside first.1 (fed_by_stuck ids (IsMemberIn ids c.args.edges.now) E L r.0 r.2 r.1)

leads_is : (c : In_ok-steps) (n : ℕ) → Leads (IsEdgeIn c.args.edges.now) (get_or c.args.ids.now (get_or c.args.previous.now (back c.args.previous.now n c.round.home) 0) 0) (get_or c.args.ids.now (back c.args.previous.now n c.round.home) 0)
leads_is c =
    let ids = c.args.ids.now in
    let E = IsEdgeIn c.args.edges.now in
    let L = IsLeftIn c.args.left.now in
    let previous = c.args.previous.now in
    let start = c.unwrap_or-place.result in
    let v = (home_is (goal.at.walk-init c).After-round).0 in
    let home = homed (goal.at.walk-init c).After-loop c.round.home v.0 v.2 in
    leads_all ids E L previous c.round.home (subst (ArePreviousFrom ids E L previous) home (shifted ids E L previous (length previous + v.0) start (previous_are (goal.at.walk-init c).After-unwrap_or-place)))

pub walk-init : goal.walk-init
walk-init c =
    let round = round_is c in (
      round.0,
      round.2,
      round.3,
      subst (λ (l : List Step). IsPartOfRound c.args.ids.now (IsEdgeIn c.args.edges.now) c.args.previous.now c.round.home round.0 l c.round.home) (sym c.in_ok-steps.ensures.items)
          (part_none c.args.ids.now (IsEdgeIn c.args.edges.now) c.args.previous.now c.round.home round.0 (home_inside c) round.1),
    )

pub least_step-requires-clause-leads : goal.least_step-requires-clause-leads
least_step-requires-clause-leads c =
    subst (λ i. Leads (IsEdgeIn c.args.edges.now) (get_or c.args.ids.now (get_or c.args.previous.now i 0) 0) (get_or c.args.ids.now i 0)) (sym c.walk.invariant.3.reached)
    (leads_is (goal.at.least_step-requires-clause-leads c).In_ok-steps (length c.walk.steps.items))

pub walk-preserved : goal.walk-preserved
walk-preserved c =
    let previous = c.args.previous.now in
    let part = c.walk.invariant in
    let before = (goal.at.walk-preserved c).In_ok-steps in (
      part.0,
      part.1,
      part.2,
      subst (λ (l : List Step). IsPartOfRound c.args.ids.now (IsEdgeIn c.args.edges.now) previous c.round.home part.0 l (get_or previous c.walk.at 0)) (sym c.in_ok-push.ensures.items)
          (part_more c.args.ids.now c.requires.ascending (IsEdgeIn c.args.edges.now) previous c.requires.long.1 (within (goal.at.walk-preserved c).After-unwrap_or-place) c.round.home (home_inside before) part.0 part.2 (least_is before)
          c.walk.steps.items c.walk.at part.3 c.least_step.result c.least_step.ensures.from c.least_step.ensures.least c.if-before-home.false),
    )

pub returns : goal.returns
returns c =
    let ids = c.args.ids.now in
    let E = IsEdgeIn c.args.edges.now in
    let L = IsLeftIn c.args.left.now in
    let previous = c.args.previous.now in
    let start = c.unwrap_or-place.result in
    let r = c.requires.stuck in
    let first = start_is (goal.at.returns c).After-unwrap_or-place in
    let inside : start < length ids = let a = first.0 in let b = c.requires.long.0 in omega arith in
    let before = (goal.at.returns c).In_ok-steps in
    let v = (home_is (goal.at.returns c).After-round).0 in
    let part = c.walk.invariant in
    let made = λ (leads : LeadsBack r.0 ids E previous c.round.home). subst (λ (l : List Step). GoesRoundFrom r.0 E (get_or ids c.round.home 0) l) (sym (c.reverse.ensures.items ∙ ap reverse c.in_ok-push.ensures.items))
    (round_made ids c.requires.ascending E previous c.requires.long.1 (within (goal.at.returns c).After-unwrap_or-place) c.round.home (home_inside before) part.0 part.2 (least_is before)
    c.walk.steps.items c.walk.at part.3 c.least_step.result c.least_step.ensures.from c.least_step.ensures.least c.if-before-home.true r.0 leads) in
    printed ids E L previous c.requires.ascending r.0 r.2 (IsMemberIn ids c.args.edges.now) start (length previous + v.0) c.round.home c.reverse.new.self.items
    (previous_are (goal.at.returns c).After-unwrap_or-place) inside first.1 first.2 (homed (goal.at.returns c).After-loop c.round.home v.0 v.2) made r.1
