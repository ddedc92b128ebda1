-- The commit of the next row, if it is an in.
use Rattle.std.proofs.Common.{◌∙◌, ◌+◌, inl, inr, get_or, sym, subst, arith}
use Rattle.std.proofs.lemmas.Bool.{false≢true}
use Rattle.sia_events.proofs.Writing.WellFormed.{one_commit}
use Rattle.sia_index.specs.declared.info.Lifetime.{Lifetime}
use Rattle.sia_parts.specs.Sights.{FromSome}
use Rattle.sia_parts.proofs.Shared.Adding.{FromFirst, first_more}
use Rattle.sia_graph.specs.declared.neighbours.Neighbour.{Neighbour}
use Rattle.sia_graph.specs.declared.neighbours.Role.TheVariants.{In}
use Rattle.sia_graph.proofs.OfPivots.PivotRows.{last_same, role_same, same_role}
use Rattle.sia_graph.specs.Found.{InCommits}
use Rattle.sia_graph.proofs.OfPivots.Outs.{first_all}
use Rattle.sia_graph.proofs.OfPivots.Vulnerable.{lived}
use Rattle.sia_events.specs.Transactions.{CommitsAt}
use Rattle.sia_graph.proofs.SsiTest.Entering.{last_either}
use Rattle.sia_parts.proofs.Shared.OneNumber.{one_committed as one_txn_at}
use Rattle.sia_graph.proofs.neighbours.Neighbours.last_in.Goals.{then-eq, else-eq}
use Rattle.sia_graph.proofs.neighbours.Neighbours.last_in.Goals as goal

abbrev none : Neighbour
none = record { role = In; txn = 0 }

abbrev unlived : Lifetime
unlived = record { start = 0; commit = 0 }

pub bounds-lifetimes-row : goal.bounds-lifetimes-row
bounds-lifetimes-row c =
    let u = c.requires.rows c.loop-row.row-index none c.loop-row-test.true in
    (lived c.args.self.now.evidence.index.now c.lifetimes-lifetimes.result.now c.lifetimes-lifetimes.ensures _ u.0 u.1).0

pub loop-row-preserved : goal.loop-row-preserved
loop-row-preserved c =
    let h = c.args.self.now.evidence.index.now in
    let xs = c.args.rows.now in
    let n = c.loop-row.row-index in
    let row = get_or xs n none in
    let u = c.requires.rows n none c.loop-row-test.true in
    let life = (lived h c.lifetimes-lifetimes.result.now c.lifetimes-lifetimes.ensures row.txn u.0 u.1).1 unlived in
    elim c.if-eq.branch [
      | then-eq w ↦
          last_either (FromFirst (InCommits h) xs n) (InCommits h row) (FromFirst (InCommits h) xs (n + 1)) c.loop-row.last (get_or c.lifetimes-lifetimes.result.now row.txn unlived).commit c.if-eq.last (w.last-is ∙ w.max-last.ensures) (first_more (InCommits h) xs n none c.loop-row-test.true) c.loop-row.invariant
          (λ x some. (
            (λ le. (_, (same_role row.role In (sym c.eq.ensures ∙ w.if-eq.true), u.0, u.1, life.1), le)),
            (λ p.
                let is = p.1 in
                let own = one_txn_at h row.txn is.1 u.0 is.2 u.1 in
                let same = one_commit h c.requires.evidence.well_formed u.0 p.0 _ (subst (λ s. CommitsAt h s p.0) own is.3) life.1 in
                omega arith),
          ))
      | else-eq w ↦ rw w.last-is (last_same (FromFirst (InCommits h) xs n) (FromFirst (InCommits h) xs (n + 1)) c.loop-row.last (λ y. (
        (λ f. (first_more (InCommits h) xs n none c.loop-row-test.true y).0 (inl f)),
        (λ f. elim ((first_more (InCommits h) xs n none c.loop-row-test.true y).1 f) [ inl before ↦ before | inr is ↦ absurd (false≢true (sym w.if-eq.false ∙ c.eq.ensures ∙ role_same row.role In is.0)) ]),
      )) c.loop-row.invariant)
    ]

pub returns : goal.returns
returns c =
    let h = c.args.self.now.evidence.index.now in
    last_same (FromFirst (InCommits h) c.args.rows.now c.loop-row.row-index) (FromSome (InCommits h) c.args.rows.now) c.loop-row.last (first_all (InCommits h) c.args.rows.now c.loop-row.row-index c.loop-row-test.false) c.loop-row.invariant
