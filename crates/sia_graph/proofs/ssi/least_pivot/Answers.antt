use Rattle.std.proofs.Common.{◌≡◌, inl, inr, ℕ, ◌-◌, ◌<◌, List, Ok, get_or, map, min, refl, sym, subst, ◌∙◌, arith, rules}
use Rattle.std.proofs.lemmas.Bool.{cases_lt, false≢true}
use Rattle.std.proofs.lemmas.Iterator.{YieldsList-from_map, YieldsList-from_slice, items_from_collect}
use Rattle.std.proofs.lemmas.Iterator.Consumers.{YieldsList-at}
use Rattle.sia_events.specs.declared.event.Event.{Event}
use Rattle.sia_events.specs.Transactions.{CommitsAt}
use Rattle.sia_events.proofs.OfLaws.Looks.{commits_above}
use Rattle.sia_index.specs.declared.info.Lifetime.{Lifetime}
use Rattle.sia_index.specs.Numbers.{IsCommittedAt}
use Rattle.sia_graph.specs.EarlyVersions.{IsLimit}
use Rattle.sia_graph.specs.Late.{AreCommits, AreLate, Enters, IsLastOf}
use Rattle.sia_graph.proofs.SsiTest.FoundFirsts.{none_first, pivot_least, commit_lived, commits_lived, has_first, limit_is}
use Rattle.sia_parts.proofs.EdgeRows.Readings.{few_txns}
use Rattle.sia_graph.proofs.ssi.least_pivot.Goals.{In_ok-commits, In_ok-late}
use Rattle.sia_graph.proofs.ssi.least_pivot.Goals as goal

abbrev commit_of : Lifetime → ℕ
commit_of lifetime = lifetime.commit

abbrev no_lifetime : Lifetime
no_lifetime = record { start = 0; commit = 0 }

commits_are : (c : In_ok-commits) → c.in_ok-commits.commits.items ≡ map commit_of c.lifetimes-lifetimes.result.now
commits_are c =
    items_from_collect {E = ℕ} (Ok c.in_ok-commits.commits) c.in_ok-commits.ensures.ran
    (YieldsList-from_map _ commit_of (YieldsList-at c.map.ensures.source (YieldsList-from_slice c.lifetimes-lifetimes.result.now c.iter.ensures.rest)) c.map.ensures.closure (λ x r q k. search rules))

-- the commits of all, and the limit of one
module _ (c : In_ok-late) (commits_is : c.in_ok-commits.commits.items ≡ map commit_of c.lifetimes-lifetimes.result.now) where
  abbrev h : List Event
  h = c.args.evidence.now.index.now

  abbrev commits : List ℕ
  commits = c.in_ok-commits.commits.items

  are : AreCommits h commits
  are =
      let txns = c.committed-txns.result.now in
      commits_lived h txns c.committed-txns.ensures c.lifetimes-lifetimes.result.now (c.lifetimes-lifetimes.ensures txns c.committed-txns.ensures) commits commits_is

  lates : (late : List ℕ) → late ≡ c.in_ok-late.late.items → AreLate h commits late
  lates late is = subst (AreLate h commits) (sym is) (subst (λ (l : List ℕ). AreLate h l c.in_ok-late.late.items) c.deref.ensures.value c.in_ok-late.ensures)

  ends : (n t : ℕ) → IsCommittedAt h n t → CommitsAt h t (get_or c.lifetimes-lifetimes.result.now n no_lifetime).commit
  ends n t at = (commit_lived h c.lifetimes-lifetimes.result.now c.lifetimes-lifetimes.ensures n t at).1 no_lifetime

  positive : (n t : ℕ) → IsCommittedAt h n t → 0 < (get_or c.lifetimes-lifetimes.result.now n no_lifetime).commit
  positive n t at = commits_above h t _ (ends n t at)

  limited : (n t : ℕ) → IsCommittedAt h n t → (greatest : ℕ) → IsLastOf (Enters h commits t) greatest → (limit : ℕ) → limit ≡ min greatest ((get_or c.lifetimes-lifetimes.result.now n no_lifetime).commit - 1) → IsLimit h t limit
  limited n t at greatest last limit is =
      subst (IsLimit h t) (sym is) (limit_is h c.requires.evidence.well_formed at.0 at.1 commits are t _ greatest (ends n t at) last)

pub overflow_cast-txn-end : goal.overflow_cast-txn-end
overflow_cast-txn-end c = let few = few_txns c.args.evidence.now.index.now c.requires.evidence.well_formed c.committed-txns.result.now c.committed-txns.ensures in omega arith

pub overflow_sub-last : goal.overflow_sub-last
overflow_sub-last c =
    let start = goal.at.overflow_sub-last c in
    let t = get_or c.committed-txns.result.now c.loop-txn.txn 0 in
    let p = positive start.In_ok-late (commits_are start.In_ok-commits) c.loop-txn.txn t (c.committed-txns.result.now, c.committed-txns.ensures, omega arith, refl) in
    omega arith

pub greatest_entering-requires-clause-txn : goal.greatest_entering-requires-clause-txn
greatest_entering-requires-clause-txn c =
    (get_or c.committed-txns.result.now c.loop-txn.txn 0, (c.committed-txns.result.now, c.committed-txns.ensures, omega arith, refl))

pub has_early-requires-clause-txn : goal.has_early-requires-clause-txn
has_early-requires-clause-txn c =
    let start = goal.at.has_early-requires-clause-txn c in
    let n = c.loop-txn.txn in
    let t = get_or c.committed-txns.result.now n 0 in
    let number : IsCommittedAt c.args.evidence.now.index.now n t = (c.committed-txns.result.now, c.committed-txns.ensures, omega arith, refl) in
    let before = start.In_ok-late in
    let is = commits_are start.In_ok-commits in
    (t, (get_or c.lifetimes-lifetimes.result.now n no_lifetime).commit, number, ends before is n t number, omega (arith, positive before is n t number))

pub returns-then-has_early : goal.returns-then-has_early
returns-then-has_early c =
    let start = goal.at.returns-then-has_early c in
    let n = c.loop-txn.txn in
    let t = get_or c.committed-txns.result.now n 0 in
    let number : IsCommittedAt c.args.evidence.now.index.now n t = (c.committed-txns.result.now, c.committed-txns.ensures, omega arith, refl) in
    let before = start.In_ok-late in
    let is = commits_are start.In_ok-commits in
    let late = lates before is c.deref-in-loop-txn.result.now c.deref-in-loop-txn.ensures.value in
    let limit = limited before is n t number c.greatest_entering.result (c.greatest_entering.ensures (commits before is) t late number) c.min-limit.result c.min-limit.ensures in
    let first = (has_first (h before is) c.requires.evidence.well_formed c.requires.kept t c.min-limit.result limit).0 ((c.has_early.ensures t number).0 c.if-has_early.true) in
    (t, number, pivot_least (h before is) c.committed-txns.result.now c.committed-txns.ensures c.requires.evidence.well_formed c.requires.kept n t number first c.loop-txn.invariant.0, limit)

pub loop-txn-preserved : goal.loop-txn-preserved
loop-txn-preserved c = (
  λ j u below at first. elim (cases_lt j c.loop-txn.txn) [
    | inl less ↦ c.loop-txn.invariant.0 j u less at first
    | inr more ↦
        let start = goal.at.loop-txn-preserved c in
        let before = start.In_ok-late in
        let is = commits_are start.In_ok-commits in
        let n = c.loop-txn.txn in
        let same : j ≡ n = omega arith in
        let here = subst (λ m. IsCommittedAt (h before is) m u) same at in
        let late = lates before is c.deref-in-loop-txn.result.now c.deref-in-loop-txn.ensures.value in
        let limit = limited before is n u here c.greatest_entering.result (c.greatest_entering.ensures (commits before is) u late here) c.min-limit.result c.min-limit.ensures in
        let early = (has_first (h before is) c.requires.evidence.well_formed c.requires.kept u c.min-limit.result limit).1 first in
        false≢true (sym c.if-has_early.false ∙ (c.has_early.ensures u here).1 early)
  ],
  (let l = c.loop-txn-test.true in omega arith),
)

pub returns : goal.returns
returns c =
    none_first c.args.evidence.now.index.now c.committed-txns.result.now c.committed-txns.ensures c.requires.evidence.well_formed c.requires.kept
    (λ j u below at. c.loop-txn.invariant.0 j u (let l = c.loop-txn-test.false in omega arith) at)
