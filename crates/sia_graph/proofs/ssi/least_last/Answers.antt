use Rattle.std.proofs.Common.{◌≡◌, ◌≢◌, inl, inr, ℕ, List, ◌<◌, ◌≤◌, length, get_or, replicate, set, refl, sym, subst, ◌∙◌, arith, ◌↔◌}
use Rattle.std.proofs.lemmas.Bool.{cases_lt}
use Rattle.std.proofs.lemmas.List.{get_or-set_other, get_or-set_same, length-replicate}
use Rattle.sia_events.specs.declared.event.Event.{Event}
use Rattle.sia_events.specs.DangerousStructures.{IsFirst}
use Rattle.sia_events.specs.Transactions.{CommitsAt}
use Rattle.sia_events.proofs.Writing.WellFormed.{one_commit}
use Rattle.sia_index.specs.declared.info.Lifetime.{Lifetime}
use Rattle.sia_index.specs.Numbers.{IsCommittedAt}
use Rattle.sia_graph.specs.Dangerous.{IsLeast}
use Rattle.sia_graph.specs.EarlyVersions.{IsLimit}
use Rattle.sia_graph.specs.Late.{AreLate, Enters}
use Rattle.sia_graph.proofs.SsiTest.FoundFirsts.{first_committed, least_named, reached_first, commit_lived}
use Rattle.sia_graph.proofs.SsiTest.Marks.{none_there}
use Rattle.sia_graph.proofs.Shared.Numbered.{number_of, txn_number}
use Rattle.sia_parts.proofs.EdgeRows.Readings.{few_txns}
use Rattle.sia_parts.proofs.Shared.OneNumber.{one_committed as one_txn_at}
use Rattle.sia_graph.proofs.ssi.least_last.Goals.{In_ok-late, else-is_early-via-then-is_early+else-greatest_entering-gt0, else-is_early-via-else-is_early}
use Rattle.sia_graph.proofs.ssi.least_last.Goals as goal

abbrev no_lifetime : Lifetime
no_lifetime = record { start = 0; commit = 0 }

-- the pivot alone has a value, and who is reached from it is a first
module _ (c : In_ok-late) where
  abbrev h : List Event
  h = c.args.evidence.now.index.now

  abbrev txns : List ℕ
  txns = c.committed-count.result.now

  abbrev values : List ℕ
  values = set c.in_ok-values.values.items c.args.pivot 1

  zeros : c.in_ok-values.values.items ≡ replicate (length txns) 0
  zeros = c.in_ok-values.ensures.items_if_clones_equal (λ y e. e)

  marked : get_or values c.args.pivot 0 ≡ 1
  marked = grind (arith, txn_number, get_or-set_same, zeros, length-replicate)

  others : (i : ℕ) → i ≢ c.args.pivot → get_or values i 0 ≡ 0
  others i other = get_or-set_other c.in_ok-values.values.items c.args.pivot i 1 0 other ∙ none_there (length txns) i c.in_ok-values.values.items zeros

  lates : (late : List ℕ) → late ≡ c.in_ok-late.late.items → AreLate h values late
  lates late is = subst (AreLate h values) (sym is) (subst (λ (l : List ℕ). AreLate h l c.in_ok-late.late.items) c.deref.ensures.value c.in_ok-late.ensures)

  ends : (n u : ℕ) → IsCommittedAt h n u → CommitsAt h u (get_or c.lifetimes-lifetimes.result.now n no_lifetime).commit
  ends n u at = (commit_lived h c.lifetimes-lifetimes.result.now c.lifetimes-lifetimes.ensures n u at).1 no_lifetime

  module _ (t : ℕ) (at : IsCommittedAt h c.args.pivot t) where
    limited : IsLimit h t c.args.limit
    limited = let p = c.requires.pivot in subst (λ x. IsLimit h x c.args.limit) (one_txn_at h c.args.pivot p.0 t p.1 at) p.3

    first_of : (u : ℕ) → ((d : ℕ) × (y : ℕ) × CommitsAt h u d × (d ≤ c.args.limit) × Enters h values u y × (0 < y)) ↔ IsFirst h t u
    first_of = reached_first h txns c.committed-count.ensures c.requires.evidence.well_formed c.requires.kept c.args.pivot t at values marked others c.args.limit limited

    least : (n u : ℕ) → IsCommittedAt h n u → IsFirst h t u → ((j v : ℕ) → j < n → IsCommittedAt h j v → ¬ IsFirst h t v) → IsLeast (IsFirst h t) u
    least = least_named h txns c.committed-count.ensures (IsFirst h t) (first_committed h txns c.committed-count.ensures c.requires.evidence.well_formed c.requires.kept t)

pub overflow_cast-txn-end : goal.overflow_cast-txn-end
overflow_cast-txn-end c = let few = few_txns c.args.evidence.now.index.now c.requires.evidence.well_formed c.committed-count.result.now c.committed-count.ensures in omega arith

pub greatest_entering-requires-clause-txn : goal.greatest_entering-requires-clause-txn
greatest_entering-requires-clause-txn c =
    (get_or c.committed-count.result.now c.loop-txn.txn 0, (c.committed-count.result.now, c.committed-count.ensures, omega arith, refl))

pub returns-then-greatest_entering-gt0 : goal.returns-then-greatest_entering-gt0
returns-then-greatest_entering-gt0 c t at =
    let before = (goal.at.returns-then-greatest_entering-gt0 c).In_ok-late in
    let n = c.loop-txn.txn in
    let u = get_or (txns before) n 0 in
    let number : IsCommittedAt (h before) n u = (txns before, c.committed-count.ensures, omega arith, refl) in
    let late = lates before c.deref-then-is_early.result.now c.deref-then-is_early.ensures.value in
    let w = (c.greatest_entering.ensures (values before) u late number 1 (omega arith)).0 (let some = c.if-greatest_entering-gt0.true in omega arith) in
    let first = (first_of before t at u).0 (_, w.0, ends before n u number, c.if-is_early.true, w.1, (let some = w.2 in omega arith)) in
    (u, number, least before t at n u number first (λ j v below num. c.loop-txn.invariant.0 j t v below at num))

pub loop-txn-preserved : goal.loop-txn-preserved
loop-txn-preserved c = (
  λ j t u below at number first. elim (cases_lt j c.loop-txn.txn) [
    | inl less ↦ c.loop-txn.invariant.0 j t u less at number first
    | inr more ↦
        let before = (goal.at.loop-txn-preserved c).In_ok-late in
        let same : j ≡ c.loop-txn.txn = omega arith in
        let here = subst (λ n. IsCommittedAt (h before) n u) same number in
        let reached = (first_of before t at u).1 first in
        elim c.else-is_early.branch [
          | else-is_early-via-then-is_early+else-greatest_entering-gt0 w ↦
              let late = lates before w.deref-then-is_early.result.now w.deref-then-is_early.ensures.value in
              let enters = (w.greatest_entering.ensures (values before) u late here 1 (omega arith)).1 (reached.1, reached.4, omega arith) in
              omega arith
          | else-is_early-via-else-is_early w ↦
              let one = one_commit (h before) c.requires.evidence.well_formed u reached.0 _ reached.2 (ends before c.loop-txn.txn u here) in
              omega arith
        ]
  ],
  (let l = c.loop-txn-test.true in omega arith),
)

pub returns : goal.returns
returns c t at =
    let before = (goal.at.returns c).In_ok-late in
    let p = c.requires.pivot in
    let first = subst (λ x. IsFirst (h before) x p.2.0) (one_txn_at (h before) c.args.pivot p.0 t p.1 at) p.2.1 in
    let n = number_of (h before) (txns before) c.committed-count.ensures p.2.0 (first_committed (h before) (txns before) c.committed-count.ensures c.requires.evidence.well_formed c.requires.kept t p.2.0 first) in
    absurd (c.loop-txn.invariant.0 n.0 t p.2.0 (let below = (txn_number (h before) (txns before) c.committed-count.ensures n.0 p.2.0 n.1).0 in let l = c.loop-txn-test.false in omega arith) at n.1 first)
