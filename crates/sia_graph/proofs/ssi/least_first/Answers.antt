use Rattle.std.proofs.Common.{◌≡◌, ℕ, List, ◌-◌, ◌≤◌, length, refl, ap, sym, subst, ◌∙◌, arith}
use Rattle.sia_events.specs.declared.event.Event.{Event}
use Rattle.sia_events.specs.DangerousStructures.{IsFirst}
use Rattle.sia_events.specs.Transactions.{CommitsAt}
use Rattle.sia_index.specs.Lifetimes.{AreLifetimes}
use Rattle.sia_index.specs.Numbers.{IsCommittedAt}
use Rattle.sia_graph.specs.Dangerous.{IsLeast, MayBeFirst}
use Rattle.sia_index.specs.declared.info.Lifetime.{Lifetime}
use Rattle.sia_graph.specs.EarlyVersions.{AreValuesFrom}
use Rattle.sia_graph.specs.Late.{AreLate, Enters, IsLastOf}
use Rattle.sia_graph.proofs.SsiTest.FoundFirsts.{first_fits, first_least, values_more}
use Rattle.sia_parts.proofs.EdgeRows.Readings.{few_txns}
use Rattle.sia_graph.proofs.ssi.least_first.Goals.{After-greatest_entering, After-loop-txn, then-place-commit, else-place-commit}
use Rattle.sia_graph.proofs.ssi.least_first.Goals as goal

pub loop-txn-preserved : goal.loop-txn-preserved
loop-txn-preserved c =
    let none : Lifetime = record { start = 0; commit = 0 } in (
      values_more c.args.place c.lifetimes-lifetimes.result.now c.loop-txn.values.items c.push.new.self.items c.loop-txn.txn _ none c.loop-txn-test.true c.loop-txn.invariant.0 c.in_ok-push.ensures.items
          (λ le. elim c.if-place-commit.branch [ then-place-commit w ↦ w.push-is | else-place-commit w ↦ absurd (let less = w.if-place-commit.false in omega arith) ])
          (λ less. elim c.if-place-commit.branch [ then-place-commit w ↦ absurd (let le = w.if-place-commit.true in omega arith) | else-place-commit w ↦ w.push-is ]),
      (let l = c.loop-txn-test.true in omega arith),
    )

pub overflow_cast-left : goal.overflow_cast-left
overflow_cast-left c =
    let txns = c.committed-txns.result.now in
    omega (arith, few_txns c.args.evidence.now.index.now c.requires.evidence.well_formed txns c.committed-txns.ensures, (c.lifetimes-lifetimes.ensures txns c.committed-txns.ensures).long)

-- each has its value
values_are : (c : After-loop-txn) → AreValuesFrom c.args.place c.lifetimes-lifetimes.result.now c.loop-txn.values.items (length c.lifetimes-lifetimes.result.now)
values_are c = grind arith

pub late_of-requires-clause-values : goal.late_of-requires-clause-values
late_of-requires-clause-values c = grind (arith, values_are)

pub overflow_cast-result : goal.overflow_cast-result
overflow_cast-result c = let few = few_txns c.args.evidence.now.index.now c.requires.evidence.well_formed c.committed-txns.result.now c.committed-txns.ensures in omega arith

-- what enters the pivot tells the first
module _ (c : After-greatest_entering) (t last : ℕ) (at : IsCommittedAt c.args.evidence.now.index.now c.args.pivot t) (ends : CommitsAt c.args.evidence.now.index.now last c.args.place) (first : IsFirst c.args.evidence.now.index.now t last)
    (from : AreValuesFrom c.args.place c.lifetimes-lifetimes.result.now c.loop-txn.values.items (length c.lifetimes-lifetimes.result.now)) where
  abbrev h : List Event
  h = c.args.evidence.now.index.now

  abbrev txns : List ℕ
  txns = c.committed-txns.result.now

  lived : AreLifetimes h txns c.lifetimes-lifetimes.result.now
  lived = c.lifetimes-lifetimes.ensures txns c.committed-txns.ensures

  entering : IsLastOf (Enters h c.loop-txn.values.items t) c.greatest_entering.result
  entering =
      let values = c.loop-txn.values.items in
      c.greatest_entering.ensures values t (subst (AreLate h values) (sym c.deref-2.ensures.value) (subst (λ (l : List ℕ). AreLate h l c.in_ok-late.late.items) c.deref.ensures.value c.in_ok-late.ensures)) at

  fits : c.greatest_entering.result ≤ length txns
  fits =
      let l = first_fits h txns c.committed-txns.ensures c.requires.evidence.well_formed c.requires.kept c.args.pivot t at last c.args.place ends first c.lifetimes-lifetimes.result.now lived
      c.loop-txn.values.items from c.greatest_entering.result entering in
      omega (arith, lived.long)

  told : (n : ℕ) → n ≡ length txns - c.greatest_entering.result → (u : ℕ) × IsCommittedAt h n u × IsLeast (MayBeFirst h t last) u
  told n is =
      first_least h txns c.committed-txns.ensures c.requires.evidence.well_formed c.requires.kept c.args.pivot t at last c.args.place ends first c.lifetimes-lifetimes.result.now lived
      c.loop-txn.values.items from c.greatest_entering.result entering n (is ∙ ap (λ m. m - c.greatest_entering.result) (sym lived.long))

pub overflow_sub-result : goal.overflow_sub-result
overflow_sub-result c =
    let p = c.requires.pivot in
    fits (goal.at.overflow_sub-result c).After-greatest_entering p.0 p.1 p.2 p.3 p.4 (values_are (goal.at.overflow_sub-result c).After-loop-txn)

pub returns : goal.returns
returns c t last at ends first = told (goal.at.returns c).After-greatest_entering t last at ends first (values_are (goal.at.returns c).After-loop-txn) (length c.committed-txns.result.now - c.greatest_entering.result) refl
