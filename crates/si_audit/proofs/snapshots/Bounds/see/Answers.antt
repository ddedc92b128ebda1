-- The version that was seen is asked for, and those of its key behind it are barred.
use Rattle.std.proofs.Common.{inl, inr, refl}
use Rattle.si_audit.proofs.Shared.SoFar.{sees_version}
use Rattle.si_audit.proofs.snapshots.Bounds.see.Goals as goal
use Rattle.si_audit.proofs.snapshots.Bounds.see.Goals.{then-self-commit, else-self-commit}

pub commit_at-commit-requires-in-Some : goal.commit_at-commit-requires-in-Some
commit_at-commit-requires-in-Some c = let next = c.in-Some.ensures c.requires.0 c.requires.1 in (next.0, next.1)

pub returns-then-commit-self : goal.returns-then-commit-self
returns-then-commit-self c t m v version at key is as_of other saw =
    let next = c.in-Some.ensures version at in
    sees_version c.args.ix.now c.law.ensures t c.args.place m c.args.key v c.commit_at-commit.result version key (c.commit_at-commit.ensures version at) is as_of other saw c.args.self.now c.if-self-commit.self _
    (elim c.if-self-commit.branch [ then-self-commit w ↦ inl (w.if-self-commit.true, w.self-is) | else-self-commit w ↦ inr (w.if-self-commit.false, w.self-is) ])
    (inr (c.in-Some.next, next.0, c.commit_at-commit-in-Some.result, next.1, next.3, next.4, c.commit_at-commit-in-Some.ensures next.0 next.1, inl (c.if-commit-self.true, refl)))

pub returns-else-commit-self : goal.returns-else-commit-self
returns-else-commit-self c t m v version at key is as_of other saw =
    let next = c.in-Some.ensures version at in
    sees_version c.args.ix.now c.law.ensures t c.args.place m c.args.key v c.commit_at-commit.result version key (c.commit_at-commit.ensures version at) is as_of other saw c.args.self.now c.if-self-commit.self c.if-self-commit.self
    (elim c.if-self-commit.branch [ then-self-commit w ↦ inl (w.if-self-commit.true, w.self-is) | else-self-commit w ↦ inr (w.if-self-commit.false, w.self-is) ])
    (inr (c.in-Some.next, next.0, c.commit_at-commit-in-Some.result, next.1, next.3, next.4, c.commit_at-commit-in-Some.ensures next.0 next.1, inr (c.if-commit-self.false, refl)))

pub returns-in_default : goal.returns-in_default
returns-in_default c t m v version at key is as_of other saw =
    sees_version c.args.ix.now c.law.ensures t c.args.place m c.args.key v c.commit_at-commit.result version key (c.commit_at-commit.ensures version at) is as_of other saw c.args.self.now c.if-self-commit.self c.if-self-commit.self
    (elim c.if-self-commit.branch [ then-self-commit w ↦ inl (w.if-self-commit.true, w.self-is) | else-self-commit w ↦ inr (w.if-self-commit.false, w.self-is) ])
    (inl (refl, c.in_default.ensures version at))
