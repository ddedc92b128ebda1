-- Each turn passes a row, and then whole blocks.
use Rattle.std.proofs.Common.{◌≡◌, ◌+◌, ◌/◌, inl, inr, arith, ap}
use Rattle.std.specs.Prelude.{slice_index_or}
use Rattle.std.proofs.lemmas.Bool.{cases_lt}
use Rattle.std.proofs.lemmas.List.{get_or_default}
use Rattle.sia_index.proofs.VersionRows.Trees.{rows_passed}
use Rattle.sia_index.proofs.minima.next_below.Goals as goal

pub loop-i-preserved : goal.loop-i-preserved
loop-i-preserved g c =
    let i = c.loop-i.i in
    let rows = c.args.rows.now in
    let next = c.max-i.ensures in
    let first = c.loop-i.invariant.0 in
    let inside = c.loop-i-test.true in
    let within = c.requires.within in (
      omega arith,
      λ k d after before below. elim (cases_lt k i) [
        | inl less ↦ c.loop-i.invariant.1 k d after less below
        | inr more ↦ elim (cases_lt i k) [
          | inl behind ↦ rows_passed g.O.By.by rows c.args.minima.now c.requires.minima_are c.args.limit (i + 1) c.next_block-block.result (c.next_block-block.ensures.passed ((i + 1) / 16) (omega arith) (omega arith)) k d (omega arith) (omega arith) (omega arith)
          | inr most ↦
              let at : k ≡ i = omega arith in
              let own = ap (λ n. g.O.By.by (slice_index_or rows n d)) at in
              let row = ap g.O.By.by (get_or_default rows i d c.index-rows-i.result (omega arith)) in
              let is = ap g.O.By.by c.index-rows-i.is in
              let number = c.number.ensures in
              let least = c.if-number-limit.false in
              omega arith
        ]
      ],
    )
