-- The next row once more, if it is an out that commits early enough.
use Rattle.std.proofs.Common.{◌≡◌, ◌∷◌, ◌++◌, ◌+◌, ◌<◌, ◌≤◌, ◌∙◌, [], ℕ, List, length, get_or, refl, ap, sym, subst, append_assoc, arith}
use Rattle.std.specs.Prelude.{Contains}
use Rattle.std.proofs.lemmas.Bool.{false≢true}
use Rattle.std.proofs.lemmas.List.Elements.{Contains-get_or}
use Rattle.std.proofs.lemmas.List.Sums.{count_by_more_yes}
use Rattle.sia_index.specs.declared.info.Lifetime.{Lifetime}
use Rattle.sia_index.specs.Numbers.{IsCommittedAt}
use Rattle.sia_parts.proofs.Shared.Adding.{adds_nothing, adds_push, adds_same, from_more}
use Rattle.sia_graph.specs.declared.neighbours.Neighbour.{Neighbour}
use Rattle.sia_graph.specs.declared.neighbours.Role.TheVariants.{In, Out, First}
use Rattle.sia_graph.specs.Found.{is_out}
use Rattle.sia_graph.specs.Neighbours.{HasRole}
use Rattle.sia_graph.proofs.OfPivots.PivotRows.{IsFirstOf, all_firsts, early, front_is, out_is, outs_most, outs_rise, role_same, same_role}
use Rattle.sia_graph.proofs.OfPivots.Outs.{first_all}
use Rattle.sia_graph.proofs.OfPivots.Vulnerable.{lived}
use Rattle.sia_graph.proofs.neighbours.Neighbours.put_firsts.Goals.{After-eq, then-eq+then-lifetimes-txn, else-eq, else-eq-via-then-eq+else-lifetimes-txn, else-eq-via-else-eq}
use Rattle.sia_graph.proofs.neighbours.Neighbours.put_firsts.Goals as goal

abbrev none : Neighbour
none = record { role = In; txn = 0 }

abbrev unlived : Lifetime
unlived = record { start = 0; commit = 0 }

-- the row that is read is the next of those in front
inside : (c : After-eq) → c.loop-i.i < length c.args.rows.now.items
inside c = let below = c.loop-i-test.true in let long = c.len-i-end.ensures in let ok = c.args.rows.now.ok in omega arith

next : (c : After-eq) → c.index.result.now ≡ get_or c.args.rows.now.items c.loop-i.i none
next c = let front = c.loop-i.invariant.0 in front_is c.args.rows.now.items front.0 c.loop-i.rows.items c.loop-i.i none c.index.result.now front.1 (inside c) c.index.ensures

holds : (c : After-eq) → Contains c.args.rows.now.items c.index.result.now
holds c = subst (Contains c.args.rows.now.items) (sym (next c)) (Contains-get_or c.args.rows.now.items c.loop-i.i none (inside c))

is_at : (c : After-eq) → c.index.result.now.role ≡ Out → (u : ℕ) × IsCommittedAt c.args.self.now.evidence.index.now c.index.result.now.txn u
is_at c role =
    let v = subst (λ r. HasRole c.args.self.now.evidence.index.now c.args.number r c.index.result.now.txn) role ((c.requires.ends c.index.result.now).0 (holds c)).1 in
    (v.1, v.3)

pub bounds-lifetimes-txn : goal.bounds-lifetimes-txn
bounds-lifetimes-txn c =
    let u = is_at (goal.at.bounds-lifetimes-txn c).After-eq (same_role _ Out (sym c.eq.ensures ∙ c.if-eq.true)) in
    (lived c.args.self.now.evidence.index.now c.lifetimes-lifetimes.result.now c.lifetimes-lifetimes.ensures c.index.result.now.txn u.0 u.1).0

pub push_reserved-requires : goal.push_reserved-requires
push_reserved-requires c =
    let a = (goal.at.push_reserved-requires c).After-eq in
    let rows = c.args.rows.now.items in
    let test = out_is (get_or rows c.loop-i.i none) (subst (λ (n : Neighbour). n.role ≡ Out) (next a) (same_role _ Out (sym c.eq.ensures ∙ c.if-eq.true))) in
    let more = count_by_more_yes is_out rows c.loop-i.i none (inside a) test in
    let most = outs_most rows (c.loop-i.i + 1) in
    omega arith

pub loop-i-preserved : goal.loop-i-preserved
loop-i-preserved c =
    let a = (goal.at.loop-i-preserved c).After-eq in
    let h = c.args.self.now.evidence.index.now in
    let wf = c.requires.evidence.well_formed in
    let number = c.args.number in
    let t = c.requires.number in
    let rows = c.args.rows.now.items in
    let i = c.loop-i.i in
    let P = IsFirstOf h number in
    let o = c.index.result.now in
    let front = c.loop-i.invariant.0 in
    let live = lived h c.lifetimes-lifetimes.result.now c.lifetimes-lifetimes.ensures in
    let own = (live number t.0 t.1).1 unlived in
    let rise = outs_rise rows i none (inside a) in
    elim c.if-eq.branch [
      | then-eq+then-lifetimes-txn w ↦
          let role = same_role _ Out (sym c.eq.ensures ∙ w.if-eq.true) in
          let u = is_at a role in
          let tells = early h wf number t.0 t.1 rows c.requires.ends _ c.args.last own.1 c.requires.last o (holds a) role u.0 _ u.1 ((live o.txn u.0 u.1).1 unlived).1 in
          let first : HasRole h number First o.txn = tells.0 (rw (← c.min-last.ensures) w.if-lifetimes-txn.true) in
          let test = out_is (get_or rows i none) (subst (λ (n : Neighbour). n.role ≡ Out) (next a) role) in
          let more = count_by_more_yes is_out rows i none (inside a) test in
          let row : Neighbour = record { role = First; txn = o.txn } in
          rw w.rows-is (
            (front.0 ++ row ∷ [], w.push_reserved.ensures.items ∙ ap (λ (ys : List Neighbour). ys ++ row ∷ []) front.1 ∙ append_assoc rows front.0 (row ∷ [])),
            from_more P rows i none _ _ _ (inside a) c.loop-i.invariant.1 (rw (w.push_reserved.ensures.items, ← next a) (adds_push (P o) c.loop-i.rows.items row (role, refl, first) (λ n p. sym p.1))),
            omega arith,
            w.push_reserved.ensures.capacity ∙ c.loop-i.invariant.3,
          )
      | else-eq w ↦
          rw w.rows-is (
            front,
            from_more P rows i none _ _ _ (inside a) c.loop-i.invariant.1 (rw (← next a) (adds_nothing (P o) c.loop-i.rows.items (λ n p. elim w.else-eq.branch [
              | else-eq-via-then-eq+else-lifetimes-txn e ↦
                  let u = is_at a p.0 in
                  let tells = early h wf number t.0 t.1 rows c.requires.ends _ c.args.last own.1 c.requires.last o (holds a) p.0 u.0 _ u.1 ((live o.txn u.0 u.1).1 unlived).1 in
                  omega arith
              | else-eq-via-else-eq e ↦ false≢true (sym e.if-eq.false ∙ c.eq.ensures ∙ role_same o.role Out p.0)
            ]))),
            omega arith,
            c.loop-i.invariant.3,
          )
    ]

pub returns : goal.returns
returns c =
    let h = c.args.self.now.evidence.index.now in
    let t = c.requires.number in
    let rows = c.args.rows.now.items in
    let all : length rows ≤ c.loop-i.i = (let long = c.len-i-end.ensures in let ok = c.args.rows.now.ok in omega arith) in
    let few = c.loop-i.invariant.2 in
    let most = outs_most rows c.loop-i.i in
    record {
      adds = adds_same _ _ _ _ (λ n f. (all_firsts h c.requires.evidence.well_formed c.args.number t.0 t.1 rows c.requires.ends n).0 ((first_all (IsFirstOf h c.args.number) rows c.loop-i.i all n).0 f))
          (λ n f. (first_all (IsFirstOf h c.args.number) rows c.loop-i.i all n).1 ((all_firsts h c.requires.evidence.well_formed c.args.number t.0 t.1 rows c.requires.ends n).1 f)) c.loop-i.invariant.1;
      few = omega arith;
      room = c.loop-i.invariant.3;
    }
