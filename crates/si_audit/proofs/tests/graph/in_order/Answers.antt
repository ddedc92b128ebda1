use Rattle.std.proofs.Common.{◌≡◌, ◌∙◌, refl, sym, arith, false, not}
use Rattle.std.specs.Bool.{◌==◌}
use Rattle.std.specs.Ordering.{ordering_index}
use Rattle.std.specs.declared.cmp.Ordering.TheVariants.{Less, Equal, Greater}
use Rattle.std.specs.declared.cmp.Ordering.{Ordering}
use Rattle.sia_parts.specs.Entries.{edge_rank}
use Rattle.sia_parts.proofs.Shared.Listing.{edge_before}
use Rattle.si_audit.proofs.OfTests.InOrder.{pairs_from_next, next_more}
use Rattle.si_audit.proofs.tests.graph.in_order.Goals as goal

only_less : (o : Ordering) → false ≡ not (ordering_index o == 0) → o ≡ Less
only_less Less e = refl
only_less Equal e = cc
only_less Greater e = cc

pub loop-i-preserved : goal.loop-i-preserved
loop-i-preserved c =
    next_more edge_rank c.args.edges.now c.loop-i.i _ _ c.loop-i.auto.i c.loop-i-test.true (edge_before _ _ (sym c.cmp.ensures ∙ only_less _ c.if-ne.ensures))
    c.loop-i.invariant

pub returns : goal.returns
returns c = λ _. pairs_from_next edge_rank c.args.edges.now (λ k d l. c.loop-i.invariant k d (let a = c.loop-i-test.false in omega arith))
