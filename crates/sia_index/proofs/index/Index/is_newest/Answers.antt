-- It isn't before its own commit, and before the next one.
use Rattle.std.proofs.Common.{◌+◌, ◌%◌, subst, arith}
use Rattle.std.proofs.lemmas.Bool.{le-leb, leb-true}
use Rattle.sia_index.specs.Tables.{AreTables}
use Rattle.sia_index.proofs.Answering.PositionLaws.{newest_is}
use Rattle.sia_index.proofs.VersionRows.VersionTables.{before_wrapped}
use Rattle.sia_index.proofs.index.Index.is_newest.Goals as goal

pub returns-then-commit_at-place : goal.returns-then-commit_at-place
returns-then-commit_at-place c v at = ((λ yes. absurd cc), (λ newest. absurd (let over = c.if-commit_at-place.true in let is = c.commit_at.ensures v at in let within = newest.0 in omega arith)))

pub returns : goal.returns
returns c v at =
    let are = subst (λ h. AreTables h c.self.inside.txns c.self.inside.keys c.self.inside.versions c.self.inside.writes) c.self.view_is c.self.invariant in
    let told = newest_is c.args.self.now _ _ _ _ are c.args.position c.args.place c.commit_behind.result v (c.commit_behind.ensures v at) (let within = c.if-commit_at-place.false in let is = c.commit_at.ensures v at in omega arith) c.ranges.place.fits in
    let is = before_wrapped c.commit_behind.result (omega arith) in (
      (λ yes. told.0 (let within = leb-true c.args.place ((c.commit_behind.result + 4294967295) % 4294967296) yes in omega arith)),
      (λ newest. le-leb c.args.place ((c.commit_behind.result + 4294967295) % 4294967296) (let within = told.1 newest in omega arith)),
    )
