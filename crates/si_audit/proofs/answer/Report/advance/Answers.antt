-- A piece of the bytes before the lines of edges, of these, of those of pivots, or of the bytes behind them, before which nothing is left.
use Rattle.std.proofs.Common.{rules, ◌≡◌, ◌<◌, [], length, refl, sym, subst}
use Rattle.std.proofs.lemmas.Bool.{eqb-true}
use Rattle.si_audit.specs.Left.{AreEdgesLeft, IsYet, Left}
use Rattle.si_audit.specs.Sheet.{text_on}
use Rattle.si_audit.proofs.OfEngine.Giving.{edges_shown, front_shown, no_bytes, pivots_shown}
use Rattle.si_audit.proofs.OfReport.TextsInTurn.{blank}
use Rattle.si_audit.proofs.answer.Report.advance.Goals as goal

pub returns-then-not-is_empty-clause-gives : goal.returns-then-not-is_empty-clause-gives
returns-then-not-is_empty-clause-gives c bytes yet =
    let (edges, pivots, mine, later, all) = subst (λ (r : Left). IsYet r bytes) (sym c.self.view_is) yet in
    let same : c.take-self-inside.result.now ≡ c.self.inside.front.now = search rules in
    let none : c.take-self-inside.new.dest.now ≡ [] = search rules in
    let some : 0 < length c.take-self-inside.result.now = search rules in
    (_, front_shown bytes c.self.inside.front.now edges pivots c.self.inside.back.now _ _ (text_on c.self.inside.sheet) all same none some, (edges, pivots, mine, later, refl))

pub returns-then-give_told-clause-gives : goal.returns-then-give_told-clause-gives
returns-then-give_told-clause-gives c bytes yet =
    let (edges, pivots, mine, later, all) = subst (λ (r : Left). IsYet r bytes) (sym c.self.view_is) yet in
    let same : c.take-self-inside.result.now ≡ c.self.inside.front.now = search rules in
    let none : c.take-self-inside.new.dest.now ≡ [] = search rules in
    let empty = no_bytes c.take-self-inside.result.now (eqb-true _ 0 (sym c.if-not-is_empty.ensures)) in
    let (rest, parted, left) = c.give_told.ensures.gives edges mine in
    (_, edges_shown bytes c.self.inside.front.now edges pivots c.self.inside.back.now _ _ (text_on c.give_told.new.sheet) rest all same none empty parted, (rest, pivots, left, later, refl))

pub returns-then-give_told-2-clause-gives : goal.returns-then-give_told-2-clause-gives
returns-then-give_told-2-clause-gives c bytes yet =
    let (edges, pivots, mine, later, all) = subst (λ (r : Left). IsYet r bytes) (sym c.self.view_is) yet in
    let same : c.take-self-inside.result.now ≡ c.self.inside.front.now = search rules in
    let none : c.take-self-inside.new.dest.now ≡ [] = search rules in
    let empty = no_bytes c.take-self-inside.result.now (eqb-true _ 0 (sym c.if-not-is_empty.ensures)) in
    let (past, split, still) = c.give_told.ensures.gives edges mine in
    let (gone, zero) = c.if-give_told.ensures.end refl in
    let after : past ≡ [] = subst (λ edges. AreEdgesLeft edges past) gone still in
    let (rest, parted, left) = c.give_told-2.ensures.gives pivots later in (
      _,
      pivots_shown bytes c.self.inside.front.now edges pivots c.self.inside.back.now _ _ past (text_on c.give_told-2.new.sheet) rest all same none empty (blank c.give_told.new.sheet past edges split zero after) after parted,
      (past, rest, still, left, refl),
    )
