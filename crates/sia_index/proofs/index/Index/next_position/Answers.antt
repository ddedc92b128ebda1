-- What is behind it is of its key, or nothing is.
use Rattle.std.proofs.Common.{subst, arith}
use Rattle.sia_index.specs.Tables.{AreTables}
use Rattle.sia_index.specs.Positions.{IsCommitBehind}
use Rattle.sia_index.proofs.Answering.PositionLaws.{next_fits, next_is}
use Rattle.sia_index.proofs.index.Index.next_position.Goals as goal

pub returns-then-commit_behind-eq0 : goal.returns-then-commit_behind-eq0
returns-then-commit_behind-eq0 c v at = subst (IsCommitBehind c.args.self.now c.args.position v) c.if-commit_behind-eq0.true (c.commit_behind.ensures v at)

pub overflow_add-result : goal.overflow_add-result
overflow_add-result c =
    let are = subst (λ h. AreTables h c.self.inside.txns c.self.inside.keys c.self.inside.versions c.self.inside.writes) c.self.view_is c.self.invariant in
    let fits = next_fits c.args.self.now _ _ _ _ are c.args.position c.requires.0 c.commit_behind.result (c.commit_behind.ensures c.requires.0 c.requires.1) c.if-commit_behind-eq0.false in omega arith

pub returns : goal.returns
returns c v at =
    let are = subst (λ h. AreTables h c.self.inside.txns c.self.inside.keys c.self.inside.versions c.self.inside.writes) c.self.view_is c.self.invariant in
    next_is c.args.self.now _ _ _ _ are c.args.position v c.commit_behind.result (c.commit_behind.ensures v at) c.if-commit_behind-eq0.false
