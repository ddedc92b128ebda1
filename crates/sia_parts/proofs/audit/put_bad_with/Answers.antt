-- Walking back from the second version as long as those before it were committed after its transaction's start.
use Rattle.std.proofs.Common.{◌≡◌, ◌<◌, ◌≤◌, List, [], ◌∷◌, ◌++◌, get_or, refl, sym, subst, ◌∙◌, arith}
use Rattle.sia_events.specs.declared.event.Event.{Event}
use Rattle.sia_events.specs.NarrowDependencies.{CommitsVersion, IsNextVersion}
use Rattle.sia_events.specs.Transactions.{StartsAt}
use Rattle.sia_index.specs.declared.info.KeyVersion.{KeyVersion}
use Rattle.sia_index.specs.declared.info.Lifetime.{Lifetime}
use Rattle.sia_index.proofs.Shared.KeyChains.{key_number}
use Rattle.sia_parts.specs.Sights.{Adds, IsBadWith}
use Rattle.sia_parts.proofs.Auditing.AsOf.{commit_positive}
use Rattle.sia_parts.proofs.Shared.BadWrites.{IsBadFrom, late_first, made_version, none_from_self, none_with_zero, pair_is_bad, walked, walked_more, walked_none}
use Rattle.sia_parts.proofs.Auditing.Committing.{committed_number}
use Rattle.sia_parts.proofs.Auditing.Positions.{one_at}
use Rattle.sia_parts.proofs.audit.put_bad_with.Goals as goal

pub returns-in_default : goal.returns-in_default
returns-in_default c v at = none_with_zero c.args.ix.now c.law.ensures c.args.second v at (c.in_default.ensures v at) c.args.bad.now.items

pub bounds-lifetimes-maker : goal.bounds-lifetimes-maker
bounds-lifetimes-maker c =
    let h = c.args.ix.now in
    let v = c.requires in
    let made = c.in-Some.ensures v.0 v.1 in
    let long = (c.lifetimes-2.ensures c.committed-txns.result.now c.committed-txns.ensures).long in
    let below = (committed_number h c.committed-txns.result.now c.committed-txns.ensures c.in-Some.maker v.0.txn made.1).0 in
    omega arith

pub loop-before-init : goal.loop-before-init
loop-before-init c =
    let h = c.args.ix.now in
    let v = c.requires in
    let made = c.in-Some.ensures v.0 v.1 in
    let version = made_version h c.args.second v.0 v.1 made.0 in
    (v.0, v.0, v.1, v.1, refl, omega arith, none_from_self h c.law.ensures v.0 version.1 c.args.bad.now.items)

pub maker_at-requires-in-Some-position_before : goal.maker_at-requires-in-Some-position_before
maker_at-requires-in-Some-position_before c =
    let inv = c.loop-before.invariant in
    let before = c.in-Some-position_before.ensures inv.1 inv.3 in
    (before.0, before.1)

pub commit_at-requires : goal.commit_at-requires
commit_at-requires c =
    let inv = c.loop-before.invariant in
    let before = c.in-Some-position_before.ensures inv.1 inv.3 in
    (before.0, before.1)

pub bounds-txns-first : goal.bounds-txns-first
bounds-txns-first c =
    let inv = c.loop-before.invariant in
    let before = c.in-Some-position_before.ensures inv.1 inv.3 in
    let made = c.in-Some-maker_at.ensures before.0 before.1 in
    (committed_number c.args.ix.now c.committed-txns.result.now c.committed-txns.ensures c.in-Some-maker_at.first before.0.txn made.1).0

pub bounds-txns-maker : goal.bounds-txns-maker
bounds-txns-maker c =
    let inv = c.loop-before.invariant in
    let made = c.in-Some.ensures inv.0 inv.2 in
    (committed_number c.args.ix.now c.committed-txns.result.now c.committed-txns.ensures c.in-Some.maker inv.0.txn made.1).0

pub bounds-written_keys-key_at : goal.bounds-written_keys-key_at
bounds-written_keys-key_at c =
    let inv = c.loop-before.invariant in
    (key_number c.args.ix.now c.written_keys.result.now c.written_keys.ensures c.key_at.result inv.0.key (c.key_at.ensures inv.0 inv.2)).0

pub loop-before-smaller : goal.loop-before-smaller
loop-before-smaller c =
    let inv = c.loop-before.invariant in
    let before = c.in-Some-position_before.ensures inv.1 inv.3 in
    before.5

-- what is known where a version stands before the one that the walk has come to
module _ (h : List Event) (v w x : KeyVersion) where
  next_of : w.key ≡ v.key → IsNextVersion h w.key x.commit w.txn → IsNextVersion h v.key x.commit w.txn
  next_of same next = subst (λ k. IsNextVersion h k x.commit w.txn) same next

pub returns-in_default-maker_at : goal.returns-in_default-maker_at
returns-in_default-maker_at c v at =
    let h = c.args.ix.now in
    let wf = c.law.ensures in
    let inv = c.loop-before.invariant in
    let w = inv.1 in
    let before = c.in-Some-position_before.ensures w inv.3 in
    let x = before.0 in
    let zero = c.in_default-maker_at.ensures x before.1 in
    let w_version = made_version h c.loop-before.at w inv.3 (let less = before.3 in omega arith) in
    let all = walked h wf inv.0 w x (before.2 ∙ inv.4) (next_of h inv.0 w x inv.4 before.4) w_version.1 0 (omega arith) (λ b bad d commits. (let positive = commit_positive h wf b.first d commits in positive)) c.args.bad.now.items c.loop-before.bad.items inv.6 in
    subst (λ (u : KeyVersion). Adds (IsBadWith h u) c.args.bad.now.items c.loop-before.bad.items) (one_at h c.args.second inv.0 v inv.2 at) all

pub returns-then-commit_at-start : goal.returns-then-commit_at-start
returns-then-commit_at-start c v at =
    let h = c.args.ix.now in
    let wf = c.law.ensures in
    let inv = c.loop-before.invariant in
    let w = inv.1 in
    let before = c.in-Some-position_before.ensures w inv.3 in
    let x = before.0 in
    let made = c.in-Some.ensures inv.0 inv.2 in
    let number = committed_number h c.committed-txns.result.now c.committed-txns.ensures c.in-Some.maker inv.0.txn made.1 in
    let none : Lifetime = record { start = 0; commit = 0 } in
    let start = (get_or c.lifetimes-2.result.now c.in-Some.maker none).start in
    let starts : StartsAt h inv.0.txn start = subst (λ u. StartsAt h u start) number.1 ((c.lifetimes-2.ensures c.committed-txns.result.now c.committed-txns.ensures).each c.in-Some.maker none number.0).0 in
    let commit : c.commit_at.result ≡ x.commit = c.commit_at.ensures x before.1 in
    let most : x.commit ≤ start = subst (λ n. n ≤ start) commit c.if-commit_at-start.true in
    let w_version = made_version h c.loop-before.at w inv.3 (let less = before.3 in omega arith) in
    let all = walked h wf inv.0 w x (before.2 ∙ inv.4) (next_of h inv.0 w x inv.4 before.4) w_version.1 start most (late_first h wf inv.0 start starts) c.args.bad.now.items c.loop-before.bad.items inv.6 in
    subst (λ (u : KeyVersion). Adds (IsBadWith h u) c.args.bad.now.items c.loop-before.bad.items) (one_at h c.args.second inv.0 v inv.2 at) all

pub loop-before-preserved : goal.loop-before-preserved
loop-before-preserved c =
    let h = c.args.ix.now in
    let wf = c.law.ensures in
    let txns = c.committed-txns.result.now in
    let inv = c.loop-before.invariant in
    let v = inv.0 in
    let w = inv.1 in
    let before = c.in-Some-position_before.ensures w inv.3 in
    let x = before.0 in
    let made = c.in-Some.ensures v inv.2 in
    let number = committed_number h txns c.committed-txns.ensures c.in-Some.maker v.txn made.1 in
    let first = c.in-Some-maker_at.ensures x before.1 in
    let first_number = committed_number h txns c.committed-txns.ensures c.in-Some-maker_at.first x.txn first.1 in
    let none : Lifetime = record { start = 0; commit = 0 } in
    let start = (get_or c.lifetimes-2.result.now c.in-Some.maker none).start in
    let starts : StartsAt h v.txn start = subst (λ u. StartsAt h u start) number.1 ((c.lifetimes-2.ensures txns c.committed-txns.ensures).each c.in-Some.maker none number.0).0 in
    let commit : c.commit_at.result ≡ x.commit = c.commit_at.ensures x before.1 in
    let late : start < x.commit = subst (λ n. start < n) commit c.if-commit_at-start.false in
    let less : x.commit < w.commit = before.3 in
    let most : w.commit ≤ v.commit = inv.5 in
    let w_version = made_version h c.loop-before.at w inv.3 (omega arith) in
    let v_version = made_version h c.args.second v inv.2 made.0 in
    let same : x.key ≡ v.key = before.2 ∙ inv.4 in
    let x_version : CommitsVersion h v.key x.txn x.commit = subst (λ k. CommitsVersion h k x.txn x.commit) same (made_version h c.in-Some-position_before.before x before.1 first.0) in
    let bad = pair_is_bad h wf v x start v_version x_version (omega arith) starts late in
    let more = walked_more h wf v w x same (next_of h v w x inv.4 before.4) w_version.1 x_version bad c.args.bad.now.items c.loop-before.bad.items inv.6 in
    let key = (key_number h c.written_keys.result.now c.written_keys.ensures c.key_at.result v.key (c.key_at.ensures v inv.2)).1 in
    let one : c.push.new.self.items ≡ c.loop-before.bad.items ++ record { key = v.key; first = x.txn; second = v.txn } ∷ [] =
    c.in_ok-push.ensures.items ∙ (λ i. c.loop-before.bad.items ++ record { key = key i; first = first_number.1 i; second = number.1 i } ∷ []) in
    (v, x, inv.2, before.1, same, (omega arith), subst (λ l. Adds (IsBadFrom h v x.commit) c.args.bad.now.items l) (sym one) more)

pub returns : goal.returns
returns c v at =
    let h = c.args.ix.now in
    let inv = c.loop-before.invariant in
    let zero : inv.1.commit ≡ 0 = c.in_default-position_before.ensures inv.1 inv.3 in
    let all = walked_none h c.law.ensures inv.0 inv.1.commit zero c.args.bad.now.items c.loop-before.bad.items inv.6 in
    subst (λ (u : KeyVersion). Adds (IsBadWith h u) c.args.bad.now.items c.loop-before.bad.items) (one_at h c.args.second inv.0 v inv.2 at) all
