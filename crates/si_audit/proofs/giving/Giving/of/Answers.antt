-- There are no rows.
use Rattle.std.proofs.Common.{◌≡◌, ◌++◌, [], sym, subst}
use Rattle.si_audit.specs.Giving.{IsTextOf}
use Rattle.si_audit.proofs.giving.Giving.of.Goals as goal

pub returns-clause-all : goal.returns-clause-all
returns-clause-all g c = λ text is.
    let none : g.T.Told.text c.args.told 0 c.in_ok-with_capacity.field-0.items 0 ≡ [] = rw c.in_ok-with_capacity.ensures.items (g.T.Told.ends c.args.told 0 []) in
    (text, subst (λ n. IsTextOf (g.T.Told.tells c.args.told) 0 n text) (sym c.count.ensures) is, (λ i. sym none i ++ text))
