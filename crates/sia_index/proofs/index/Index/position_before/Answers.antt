-- The version before it is the one before in the list.
use Rattle.std.proofs.Common.{sym, subst, ◌∙◌, arith}
use Rattle.sia_index.specs.Tables.{AreTables}
use Rattle.sia_index.proofs.Answering.PositionLaws.{before_at}
use Rattle.sia_index.proofs.index.Index.position_before.Goals as goal

pub overflow_sub-result : goal.overflow_sub-result
overflow_sub-result c =
    let are = subst (λ h. AreTables h c.self.inside.txns c.self.inside.keys c.self.inside.versions c.self.inside.writes) c.self.view_is c.self.invariant in
    (before_at c.args.self.now _ _ _ _ are c.args.position c.requires.0 c.requires.1 (let none = c.if-commit_at-eq0.false in let is = c.commit_at.ensures c.requires.0 c.requires.1 in omega arith)).0

pub returns-then-commit_at-eq0 : goal.returns-then-commit_at-eq0
returns-then-commit_at-eq0 c v at = sym (c.commit_at.ensures v at) ∙ c.if-commit_at-eq0.true

pub returns : goal.returns
returns c v at =
    let are = subst (λ h. AreTables h c.self.inside.txns c.self.inside.keys c.self.inside.versions c.self.inside.writes) c.self.view_is c.self.invariant in
    let (some, w, there, key, less, next) = before_at c.args.self.now _ _ _ _ are c.args.position v at (let none = c.if-commit_at-eq0.false in let is = c.commit_at.ensures v at in omega arith) in
    (w, there, key, less, next, omega arith)
