-- The outs, the ins and the firsts are all neighbours, where there are outs and ins.
use Rattle.std.proofs.Common.{◌≡◌, ◌<◌, ℕ, inl, inr, length, get_or, ap, sym, subst, ◌∙◌, arith}
use Rattle.std.specs.Prelude.{All, Contains}
use Rattle.std.specs.Vec.{vec_len}
use Rattle.std.proofs.lemmas.Bool.{cases_lt, eq-eqb, eqb-true, false≢true}
use Rattle.std.proofs.lemmas.List.Elements.{Contains-get_or}
use Rattle.sia_index.specs.Numbers.{IsCommittedAt}
use Rattle.sia_parts.specs.Sights.{FromSome}
use Rattle.sia_graph.specs.declared.neighbours.Neighbour.{Neighbour}
use Rattle.sia_graph.specs.declared.neighbours.Role.TheVariants.{In, Out}
use Rattle.sia_graph.specs.Found.{AreEnds, InCommits}
use Rattle.sia_graph.specs.Late.{IsLastOf}
use Rattle.sia_graph.specs.Links.{IsVulnerableAt}
use Rattle.sia_graph.specs.Neighbours.{HasRole}
use Rattle.sia_graph.proofs.OfPivots.PivotRows.{all_neighbours, both_pivot, ends_at, ends_of, no_neighbours, none_in, none_made, none_out, rows_apart, same_ends, same_last, sorted_rows, few_outs, few_within}
use Rattle.sia_graph.proofs.neighbours.Neighbours.put_of.Goals.{After-put_ins, After-sort}
use Rattle.sia_graph.proofs.neighbours.Neighbours.put_of.Goals as goal

pub returns-then-is_empty-clause-found : goal.returns-then-is_empty-clause-found
returns-then-is_empty-clause-found c =
    let t = c.requires.number in
    let long = c.requires.can.looks.long in
    no_neighbours c.args.self.now.evidence.index.now c.args.number _ (ap (length {A = Neighbour}) c.clear.ensures.items)
    (none_made c.args.self.now.evidence.index.now c.args.number t.0 t.1 c.requires.can.evidence.well_formed long.0 long.1 c.made_by.result.now (c.made_by.ensures t.0 t.1) (eqb-true (length c.made_by.result.now) 0 (sym c.if-is_empty.ensures)))

pub returns-then-is_empty-2-clause-found : goal.returns-then-is_empty-2-clause-found
returns-then-is_empty-2-clause-found c =
    let t = c.requires.number in
    let rows = c.put_outs.new.rows in
    let empty = eqb-true _ 0 (sym c.if-is_empty-2.ensures) in
    let none : length rows.items ≡ 0 = (let ok = rows.ok in omega arith) in
    no_neighbours c.args.self.now.evidence.index.now c.args.number rows.items none
    (none_out c.args.self.now.evidence.index.now c.args.number t.0 t.1 rows.items none (λ u role v. (c.put_outs.ensures.adds u).1 (inr (role, v))))

-- all ends are there
ends : (c : After-put_ins) → AreEnds c.args.self.now.evidence.index.now c.args.number c.put_ins.new.rows.items
ends c = ends_of c.args.self.now.evidence.index.now c.args.number c.clear.new.self.items c.put_outs.new.rows.items c.put_ins.new.rows.items c.clear.ensures.items c.put_outs.ensures.adds c.put_ins.ensures.adds

pub last_in-last-requires-clause-rows : goal.last_in-last-requires-clause-rows
last_in-last-requires-clause-rows c =
    subst (All (λ (n : Neighbour). (u : ℕ) × IsCommittedAt c.args.self.now.evidence.index.now n.txn u)) (sym c.deref.ensures.value)
    (ends_at c.args.self.now.evidence.index.now c.args.number c.put_ins.new.rows.items (ends (goal.at.last_in-last-requires-clause-rows c).After-put_ins))

pub returns-then-last-eq0-clause-found : goal.returns-then-last-eq0-clause-found
returns-then-last-eq0-clause-found c =
    let t = c.requires.number in
    let h = c.args.self.now.evidence.index.now in
    no_neighbours h c.args.number _ (ap (length {A = Neighbour}) c.clear-then-last-eq0.ensures.items)
    (none_in h c.args.number t.0 t.1 c.put_ins.new.rows.items (ends (goal.at.returns-then-last-eq0-clause-found c).After-put_ins) c.last_in-last.result
    (subst (λ xs. IsLastOf (FromSome (InCommits h) xs) c.last_in-last.result) c.deref.ensures.value c.last_in-last.ensures) c.if-last-eq0.true)

sorted_ends : (c : After-sort) → AreEnds c.args.self.now.evidence.index.now c.args.number c.put_ins.new.rows.items → AreEnds c.args.self.now.evidence.index.now c.args.number c.sort.new.list.items
sorted_ends c are = same_ends c.args.self.now.evidence.index.now c.args.number c.put_ins.new.rows.items c.sort.new.list.items c.sort.ensures.same are

pub put_firsts-requires-clause-ends : goal.put_firsts-requires-clause-ends
put_firsts-requires-clause-ends c = sorted_ends (goal.at.put_firsts-requires-clause-ends c).After-sort (ends (goal.at.put_firsts-requires-clause-ends c).After-put_ins)

sorted_last : (c : After-sort) → IsLastOf (FromSome (InCommits c.args.self.now.evidence.index.now) c.sort.new.list.items) c.last_in-last.result
sorted_last c =
    let h = c.args.self.now.evidence.index.now in
    same_last h c.put_ins.new.rows.items c.sort.new.list.items c.sort.ensures.same c.last_in-last.result (subst (λ xs. IsLastOf (FromSome (InCommits h) xs) c.last_in-last.result) c.deref.ensures.value c.last_in-last.ensures)

pub put_firsts-requires-clause-last : goal.put_firsts-requires-clause-last
put_firsts-requires-clause-last c = sorted_last (goal.at.put_firsts-requires-clause-last c).After-sort

pub put_firsts-requires-clause-room : goal.put_firsts-requires-clause-room
put_firsts-requires-clause-room c =
    let h = c.args.self.now.evidence.index.now in
    let i = c.args.number in
    let outs = c.put_outs.new.rows.items in
    let rows = c.put_ins.new.rows.items in
    let sorted = c.sort.new.list.items in
    let are = sorted_ends (goal.at.put_firsts-requires-clause-room c).After-sort (ends (goal.at.put_firsts-requires-clause-room c).After-put_ins) in
    let apart = rows_apart (Contains rows) sorted (sorted_rows rows sorted c.sort.ensures.sorted c.sort.ensures.same) in
    let some = few_outs sorted outs apart (λ n c' role. (c.put_outs.ensures.adds n).1 (inr (role, subst (λ r. HasRole h i r n.txn) role ((are n).0 c').1))) in
    let all = few_within sorted rows apart (λ k d below. (c.sort.ensures.same (get_or sorted k d)).0 (Contains-get_or sorted k d below)) in
    omega arith

pub returns-clause-found : goal.returns-clause-found
returns-clause-found c =
    let a = (goal.at.returns-clause-found c).After-sort in
    let h = c.args.self.now.evidence.index.now in
    let i = c.args.number in
    let t = c.requires.number in
    let outs = c.put_outs.new.rows in
    let none : Neighbour = record { role = In; txn = 0 } in
    let some : 0 < length outs.items = elim (cases_lt 0 (length outs.items)) [
      | inl more ↦ more
      | inr empty ↦ absurd (let ok = outs.ok in false≢true (sym c.if-is_empty-2.false ∙ c.is_empty-2.ensures ∙ eq-eqb (vec_len outs) 0 (omega arith)))
    ] in
    let out = get_or outs.items 0 none in
    let is : (out.role ≡ Out) × IsVulnerableAt h i out.txn = elim ((c.put_outs.ensures.adds out).0 (Contains-get_or outs.items 0 none some)) [
      | inl first ↦ absurd (let empty = ap (length {A = Neighbour}) c.clear.ensures.items in let below = first.1 in omega arith)
      | inr is ↦ is
    ] in
    let are = sorted_ends a (ends (goal.at.returns-clause-found c).After-put_ins) in
    let pivot = both_pivot h i t.0 t.1 c.sort.new.list.items are c.last_in-last.result (sorted_last a) c.if-last-eq0.false out is.0 is.1 in
    all_neighbours h i c.sort.new.list.items c.put_firsts.new.rows.items c.sort-2.new.list.items pivot are c.put_firsts.ensures.adds c.sort-2.ensures.sorted c.sort-2.ensures.same
