-- The other, if it is another whose lifetime overlaps.
use Rattle.std.proofs.Common.{[], ◌∷◌, length, refl, ap, sym, ◌∙◌, arith}
use Rattle.std.proofs.lemmas.Bool.{false≢true}
use Rattle.std.proofs.lemmas.List.{length-append}
use Rattle.sia_index.specs.declared.info.Lifetime.{Lifetime}
use Rattle.sia_index.proofs.Answering.Table.{overlap_by}
use Rattle.sia_parts.proofs.Shared.Adding.{adds_nothing, adds_push}
use Rattle.sia_graph.specs.declared.neighbours.Neighbour.{Neighbour}
use Rattle.sia_graph.proofs.OfPivots.Vulnerable.{lived}
use Rattle.sia_graph.proofs.neighbours.Neighbours.put_if_overlaps.Goals.{else-other-number-via-then-other-number+else-overlap, else-other-number-via-else-other-number}
use Rattle.sia_graph.proofs.neighbours.Neighbours.put_if_overlaps.Goals as goal

abbrev none : Lifetime
none = record { start = 0; commit = 0 }

pub returns-then-overlap : goal.returns-then-overlap
returns-then-overlap c =
    let h = c.args.self.now.evidence.index.now in
    let t = c.requires.number in
    let u = c.requires.other in
    let live = lived h c.lifetimes-lifetimes.result.now c.lifetimes-lifetimes.ensures in
    let tells = overlap_by h c.requires.evidence.well_formed t.0 u.0 _ _ ((live c.args.number t.0 t.1).1 none) ((live c.args.other u.0 u.1).1 none) in
    let row : Neighbour = record { role = c.args.role; txn = c.args.other } in
    record {
      adds = rw c.push_reserved.ensures.items (adds_push _ c.args.rows.now.items row (refl, c.if-other-number.true, (t.0, u.0, t.1, u.1, tells.0 (c.overlap.ensures.0 c.if-overlap.true))) (λ n p. sym p.0));
      few = (let long = ap (length {A = Neighbour}) c.push_reserved.ensures.items ∙ length-append c.args.rows.now.items (row ∷ []) in omega arith);
      room = c.push_reserved.ensures.capacity;
    }

pub returns-else-other-number : goal.returns-else-other-number
returns-else-other-number c =
    let h = c.args.self.now.evidence.index.now in
    let live = lived h c.lifetimes-lifetimes.result.now c.lifetimes-lifetimes.ensures in
    record {
      adds = adds_nothing _ c.args.rows.now.items (λ n p. elim c.else-other-number.branch [
        | else-other-number-via-then-other-number+else-overlap e ↦
            let o = p.2 in
            let tells = overlap_by h c.requires.evidence.well_formed o.0 o.1 _ _ ((live c.args.number o.0 o.2).1 none) ((live c.args.other o.1 o.3).1 none) in
            false≢true (sym e.if-overlap.false ∙ e.overlap.ensures.1 (tells.1 o.4))
        | else-other-number-via-else-other-number e ↦ p.1 e.if-other-number.false
      ]);
      few = omega arith;
      room = refl;
    }
