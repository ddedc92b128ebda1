-- The edges from one source stand behind those from the sources before it.
use Rattle.std.proofs.Common.{ℕ, ◌+◌, map, sym, subst, arith}
use Rattle.std.proofs.lemmas.List.{take_all}
use Rattle.sia_index.specs.Numbers.{IsCommittedAt}
use Rattle.sia_parts.specs.EdgeRows.{AreEdgesFrom, edge_of}
use Rattle.sia_parts.specs.Parts.{IsWithin}
use Rattle.sia_parts.proofs.EdgeRows.EdgeLists.{edges_all, edges_joined, edges_none, has_number}
use Rattle.sia_parts.proofs.EdgeRows.Readings.{few_txns}
use Rattle.sia_parts.proofs.edges.edges_at.Goals as goal

pub overflow_cast-source-end : goal.overflow_cast-source-end
overflow_cast-source-end c = let few = few_txns c.args.ix.now c.law.ensures c.committed-txns.result.now c.committed-txns.ensures in omega arith

pub loop-source-init : goal.loop-source-init
loop-source-init c = (rw c.new-all.ensures.items (edges_none c.args.ix.now (IsWithin c.args.within) 0), (let bound = c.most_rows.ensures in let room = c.in_ok-rows.ensures.capacity in omega arith))

pub put_from-requires-clause-source : goal.put_from-requires-clause-source
put_from-requires-clause-source c = subst (λ h. (t : ℕ) × IsCommittedAt h c.loop-source.source t) (sym c.of-edges.ensures.index) (has_number c.args.ix.now c.committed-txns.result.now c.committed-txns.ensures c.loop-source.source c.loop-source-test.true)

pub loop-source-preserved : goal.loop-source-preserved
loop-source-preserved c =
    let h = c.args.ix.now in
    let W = IsWithin c.args.within in
    let txns = c.committed-txns.result.now in
    let keys = c.written_keys-keys.result.now in
    let i = c.loop-source.source in
    let rows = c.put_from.new.rows.items in
    let from : AreEdgesFrom h W i rows = subst (λ g. AreEdgesFrom g W i rows) c.of-edges.ensures.index (subst (λ w. AreEdgesFrom c.of-edges.result.index.now (IsWithin w) i rows) c.of-edges.ensures.within c.put_from.ensures.edges) in
    (rw (c.loop-row.invariant, take_all c.loop-row.row-index c.deref-row-items.result.now c.loop-row-test.false, c.deref-row-items.ensures.value) (edges_joined h W 0 i (i + 1) (omega arith) (omega arith) c.loop-source.all.items (map (edge_of txns keys i) rows) c.loop-source.invariant.0 (from.edges txns keys c.committed-txns.ensures c.written_keys-keys.ensures)), (let same = c.put_from.ensures.room in let room = c.loop-source.invariant.1 in omega arith))

pub returns : goal.returns
returns c = edges_all c.args.ix.now (IsWithin c.args.within) c.committed-txns.result.now c.committed-txns.ensures c.loop-source.source (let last = c.loop-source-test.false in let most = c.loop-source.auto in omega arith) c.loop-source.all.items c.loop-source.invariant.0
