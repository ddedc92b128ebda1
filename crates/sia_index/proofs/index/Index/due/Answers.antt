-- The transaction's own write, or the last of the key's versions within the start, where there is one.
use Rattle.std.proofs.Common.{inl, refl, sym, subst, arith}
use Rattle.sia_events.specs.Refusals.{IsWellFormed}
use Rattle.sia_events.specs.Transactions.{WroteBefore}
use Rattle.sia_index.specs.declared.info.Made.{Made}
use Rattle.sia_index.specs.Info.{IsReader}
use Rattle.sia_index.proofs.Answering.Due.{none_due, last_due}
use Rattle.sia_index.proofs.Shared.Ordered.{above, ascends, last_of, rises}
use Rattle.sia_index.proofs.index.Index.due.Goals as goal

pub wrote_before-requires : goal.wrote_before-requires
wrote_before-requires c =
    let of_txn = subst (λ t. IsReader c.args.self.now t c.args.place c.reader-reader.result) (sym c.reader-reader.ensures.txn_is) c.reader-reader.ensures in
    subst (λ p. IsReader c.args.self.now c.reader-reader.result.txn p c.reader-reader.result) (sym c.reader-reader.ensures.place_is) of_txn

pub returns-then-wrote_before : goal.returns-then-wrote_before
returns-then-wrote_before c =
    let h = c.args.self.now in
    let wrote = subst (λ t. WroteBefore h t c.args.k c.reader-reader.result.place) c.reader-reader.ensures.txn_is (c.if-wrote_before.ensures.0 refl) in
    inl (subst (λ p. WroteBefore h c.args.t c.args.k p) c.reader-reader.ensures.place_is wrote, refl)

pub place_above-within-requires : goal.place_above-within-requires
place_above-within-requires c = rises (λ (made : Made). made.commit) _ (ascends (λ (made : Made). made.commit) _ _ c.versions-versions.ensures)

pub returns-then-within-eq0 : goal.returns-then-within-eq0
returns-then-within-eq0 c =
    let wf = subst IsWellFormed c.self.view_is c.self.invariant.well_formed in
    let up = ascends (λ (made : Made). made.commit) _ _ c.versions-versions.ensures in
    let point = rw c.from.ensures at c.place_above-within.ensures.point in
    none_due _ wf c.args.t c.args.place c.args.k c.reader-reader.result.start c.reader-reader.ensures.starts
    (λ wrote. let own = c.if-wrote_before.ensures.1 (subst (λ t. WroteBefore c.args.self.now t c.args.k c.reader-reader.result.place) (sym c.reader-reader.ensures.txn_is) (subst (λ p. WroteBefore c.args.self.now c.args.t c.args.k p) (sym c.reader-reader.ensures.place_is) wrote)) in cc)
    _ c.versions-versions.ensures (λ k d below. above (λ (made : Made). made.commit) _ up _ _ point k d (omega arith) below)

pub returns : goal.returns
returns c =
    let wf = subst IsWellFormed c.self.view_is c.self.invariant.well_formed in
    let up = ascends (λ (made : Made). made.commit) _ _ c.versions-versions.ensures in
    let point = rw c.from.ensures at c.place_above-within.ensures.point in
    last_due _ wf c.args.t c.args.place c.args.k c.reader-reader.result.start c.reader-reader.ensures.starts
    (λ wrote. let own = c.if-wrote_before.ensures.1 (subst (λ t. WroteBefore c.args.self.now t c.args.k c.reader-reader.result.place) (sym c.reader-reader.ensures.txn_is) (subst (λ p. WroteBefore c.args.self.now c.args.t c.args.k p) (sym c.reader-reader.ensures.place_is) wrote)) in cc)
    _ c.versions-versions.ensures _
    (last_of (λ (made : Made). made.commit) _ up _ _ point (record { txn = 0; commit = 0 }) (omega arith) c.place_above-within.ensures.bound)
