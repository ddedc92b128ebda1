-- The lists of the parts, one behind another and put in order, are what the definitions name.
use Rattle.std.proofs.Common.{[]}
use Rattle.std.specs.Prelude.{Contains}
use Rattle.sia_parts.specs.declared.finding.Findings.{Findings}
use Rattle.sia_parts.specs.Findings.{ArePartFindings}
use Rattle.sia_parts.proofs.Shared.Adding.{adds_list, from_all, from_more, from_none}
use Rattle.sia_parts.proofs.Gathered.FieldLemmas.{bad_reads_all, bad_writes_all, unexplained_all, edges_all}
use Rattle.sia_parts.proofs.Shared.Listing.{edge_before}
use Rattle.sia_parts.proofs.finding.gather.Goals as goal

pub loop-part-init : goal.loop-part-init
loop-part-init c = record {
  bad_reads = rw c.new.ensures.items (from_none (λ (part : Findings). Contains part.bad_reads.items) c.deref-part-items.result.now []);
  bad_writes = rw c.new-2.ensures.items (from_none (λ (part : Findings). Contains part.bad_writes.items) c.deref-part-items.result.now []);
  unexplained = rw c.new-3.ensures.items (from_none (λ (part : Findings). Contains part.unexplained.items) c.deref-part-items.result.now []);
  edges = rw c.new-4.ensures.items (from_none (λ (part : Findings). Contains part.edges.items) c.deref-part-items.result.now []);
}

pub loop-part-preserved : goal.loop-part-preserved
loop-part-preserved c = record {
  bad_reads = from_more (λ (part : Findings). Contains part.bad_reads.items) c.deref-part-items.result.now c.loop-part.part-index c.part-item.result [] c.loop-part.all.bad_reads.items _ c.loop-part-test.true c.loop-part.invariant.bad_reads (rw (c.in_ok-extend_from_slice.ensures.items, c.deref.ensures.value, ← c.part-item.is) (adds_list _ _));
  bad_writes = from_more (λ (part : Findings). Contains part.bad_writes.items) c.deref-part-items.result.now c.loop-part.part-index c.part-item.result [] c.loop-part.all.bad_writes.items _ c.loop-part-test.true c.loop-part.invariant.bad_writes (rw (c.in_ok-extend_from_slice-2.ensures.items, c.deref-in-loop-part.ensures.value, ← c.part-item.is) (adds_list _ _));
  unexplained = from_more (λ (part : Findings). Contains part.unexplained.items) c.deref-part-items.result.now c.loop-part.part-index c.part-item.result [] c.loop-part.all.unexplained.items _ c.loop-part-test.true c.loop-part.invariant.unexplained (rw (c.in_ok-extend_from_slice-3.ensures.items, c.deref-in-loop-part-2.ensures.value, ← c.part-item.is) (adds_list _ _));
  edges = from_more (λ (part : Findings). Contains part.edges.items) c.deref-part-items.result.now c.loop-part.part-index c.part-item.result [] c.loop-part.all.edges.items _ c.loop-part-test.true c.loop-part.invariant.edges (rw (c.in_ok-extend_from_slice-4.ensures.items, c.deref-in-loop-part-3.ensures.value, ← c.part-item.is) (adds_list _ _));
}

pub returns : goal.returns
returns c h points cutting wf cuts zip =
    let R = ArePartFindings h in
    let parts = c.args.parts.items in
    record {
      bad_reads = bad_reads_all h points cutting wf cuts R parts zip (λ part. part.bad_reads.items) (λ part found a. a.bad_reads) _ _ (rw c.deref-part-items.ensures.value at (from_all (λ (part : Findings). Contains part.bad_reads.items) c.deref-part-items.result.now c.loop-part.part-index [] c.loop-part.all.bad_reads.items c.loop-part-test.false c.loop-part.invariant.bad_reads)) (record { sorted = c.in_ok-put_in_order.ensures.sorted; keeps = c.in_ok-put_in_order.ensures.keeps; adds_none = c.in_ok-put_in_order.ensures.adds_none });
      bad_writes = bad_writes_all h points cutting wf cuts R parts zip (λ part. part.bad_writes.items) (λ part found a. a.bad_writes) _ _ (rw c.deref-part-items.ensures.value at (from_all (λ (part : Findings). Contains part.bad_writes.items) c.deref-part-items.result.now c.loop-part.part-index [] c.loop-part.all.bad_writes.items c.loop-part-test.false c.loop-part.invariant.bad_writes)) (record { sorted = c.in_ok-put_in_order-2.ensures.sorted; keeps = c.in_ok-put_in_order-2.ensures.keeps; adds_none = c.in_ok-put_in_order-2.ensures.adds_none });
      unexplained = unexplained_all h points cutting wf cuts R parts zip (λ part. part.unexplained.items) (λ part found a. a.unexplained) _ _ (rw c.deref-part-items.ensures.value at (from_all (λ (part : Findings). Contains part.unexplained.items) c.deref-part-items.result.now c.loop-part.part-index [] c.loop-part.all.unexplained.items c.loop-part-test.false c.loop-part.invariant.unexplained)) (record { sorted = c.in_ok-put_in_order-3.ensures.sorted; keeps = c.in_ok-put_in_order-3.ensures.keeps; adds_none = c.in_ok-put_in_order-3.ensures.adds_none });
      edges = edges_all h points cutting wf cuts R parts zip (λ part. part.edges.items) (λ part found a. a.edges) _ edge_before _ _ (rw c.deref-part-items.ensures.value at (from_all (λ (part : Findings). Contains part.edges.items) c.deref-part-items.result.now c.loop-part.part-index [] c.loop-part.all.edges.items c.loop-part-test.false c.loop-part.invariant.edges)) (record { sorted = c.in_ok-put_in_order-4.ensures.sorted; keeps = c.in_ok-put_in_order-4.ensures.keeps; adds_none = c.in_ok-put_in_order-4.ensures.adds_none });
    }
