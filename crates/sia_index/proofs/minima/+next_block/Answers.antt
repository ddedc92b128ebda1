-- What is asked of the nodes below, and what they pass.
use Rattle.std.proofs.Common.{◌+◌, ◌/◌, inl, inr, arith}
use Rattle.std.proofs.lemmas.Bool.{cases_lt}
use Rattle.sia_index.proofs.VersionRows.Trees.{covers_left, covers_right, node_within, passes_node}
use Rattle.sia_index.proofs.minima.+next_block.Goals as goal

pub next_block-next-requires : goal.next_block-next-requires
next_block-next-requires t c =
    let node = node_within c.args.minima.now c.args.node c.args.low c.args.width c.requires in
    let some = c.if-half-eq0.false in
    (omega (arith, c.decreases, node.2), covers_left c.args.minima.now c.args.node c.args.low c.args.width c.requires (omega arith))

pub next_block-requires : goal.next_block-requires
next_block-requires t c =
    let node = node_within c.args.minima.now c.args.node c.args.low c.args.width c.requires in
    let some = c.if-half-eq0.false in
    (omega (arith, c.decreases, node.2), covers_right c.args.minima.now c.args.node c.args.low c.args.width c.requires (omega arith))

pub returns-then-limit-minima-clause-passed : goal.returns-then-limit-minima-clause-passed
returns-then-limit-minima-clause-passed t c at low from = passes_node c.args.minima.now c.args.node c.args.low c.args.width c.requires c.args.limit at low c.if-limit-minima.true

pub returns-else-next-low-clause-passed : goal.returns-else-next-low-clause-passed
returns-else-next-low-clause-passed t c at low from size block count after before =
    let most = c.if-next-low.false in
    elim (cases_lt block (c.args.low + c.args.width / 2)) [
      | inl left ↦ c.next_block-next.ensures.passed at low from size block count after (omega arith)
      | inr right ↦ c.next_block.ensures.passed block right (omega arith) size block count (omega arith) before
    ]
