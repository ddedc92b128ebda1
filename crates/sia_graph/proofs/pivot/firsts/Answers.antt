-- The greatest commit of the ins, and of the outs the next that commits early enough.
use Rattle.std.proofs.Common.{◌∷◌, ◌++◌, ◌+◌, ◌<◌, ◌≤◌, ◌∙◌, [], ℕ, List, length, get_or, map, refl, ap, arith, sym, subst, ◌↔◌, slice_index}
use Rattle.std.proofs.lemmas.List.{get_or-map, length-map, take_all}
use Rattle.std.proofs.lemmas.List.Elements.{Contains-get_or}
use Rattle.sia_events.specs.DangerousStructures.{IsFirst, IsVulnerable}
use Rattle.sia_index.specs.Numbers.{IsCommittedAt}
use Rattle.sia_index.specs.declared.info.Lifetime.{Lifetime}
use Rattle.sia_parts.specs.Sights.{FromSome}
use Rattle.sia_parts.proofs.Shared.Adding.{FromFirst, first_more}
use Rattle.sia_graph.specs.declared.pivot.Link.{Link}
use Rattle.sia_graph.specs.Late.{IsLastOf}
use Rattle.sia_graph.proofs.OfPivots.ListedAs.{listed_as}
use Rattle.sia_graph.proofs.OfPivots.Picked.{all_picked, picked_more, picked_same}
use Rattle.sia_graph.proofs.OfPivots.PivotRows.{EntersAt, first_by, last_same}
use Rattle.sia_graph.proofs.OfPivots.Vulnerable.{CommitsIn, ins_commit, outs_named, lived}
use Rattle.sia_graph.proofs.Shared.Numbered.{txn_number}
use Rattle.sia_graph.proofs.SsiTest.Entering.{last_either}
use Rattle.sia_parts.proofs.Shared.OneNumber.{one_committed as one_txn_at}
use Rattle.sia_graph.proofs.pivot.firsts.Goals.{After-min-last, then-lifetimes-out+in_ok-push, else-lifetimes-out}
use Rattle.sia_graph.proofs.pivot.firsts.Goals as goal

abbrev none : Link
none = record { at = 0; other = 0 }

abbrev unlived : Lifetime
unlived = record { start = 0; commit = 0 }

pub bounds-lifetimes-into : goal.bounds-lifetimes-into
bounds-lifetimes-into c =
    let link = get_or c.args.ins.now c.loop-into.into-index none in
    let v = (c.requires.ins.each link).0 (Contains-get_or c.args.ins.now c.loop-into.into-index none c.loop-into-test.true) in
    (lived c.args.ix.now c.lifetimes-lifetimes.result.now c.lifetimes-lifetimes.ensures link.at v.1.0 v.1.2).0

pub loop-into-preserved : goal.loop-into-preserved
loop-into-preserved c =
    let C = CommitsIn c.lifetimes-lifetimes.result.now in
    let ins = c.args.ins.now in
    let i = c.loop-into.into-index in
    last_either (FromFirst C ins i) (C (get_or ins i none)) (FromFirst C ins (i + 1)) c.loop-into.last _ c.max-last.result c.max-last.ensures (first_more C ins i none c.loop-into-test.true) c.loop-into.invariant
    (λ x some. ((λ le. (_, refl, le)), (λ w. let e = w.1 in let l = w.2 in omega arith)))

pub bounds-lifetimes-out : goal.bounds-lifetimes-out
bounds-lifetimes-out c =
    let link = get_or c.args.outs.now c.loop-out.out-index none in
    let v = (c.requires.outs.each link).0 (Contains-get_or c.args.outs.now c.loop-out.out-index none c.loop-out-test.true) in
    (lived c.args.ix.now c.lifetimes-lifetimes.result.now c.lifetimes-lifetimes.ensures link.other v.1.1 v.1.3).0

pub bounds-txns-out : goal.bounds-txns-out
bounds-txns-out c =
    let link = get_or c.args.outs.now c.loop-out.out-index none in
    let v = (c.requires.outs.each link).0 (Contains-get_or c.args.outs.now c.loop-out.out-index none c.loop-out-test.true) in
    (txn_number c.args.ix.now c.committed-txns.result.now c.committed-txns.ensures link.other v.1.1 v.1.3).0

-- each of the outs is a first exactly if it commits early enough
early : (c : After-min-last) → (t : ℕ) → IsCommittedAt c.args.ix.now c.args.txn t → (n : ℕ) → n < length c.args.outs.now
    → ((get_or c.lifetimes-lifetimes.result.now (get_or c.args.outs.now n none).other unlived).commit ≤ c.min-last.result) ↔ IsFirst c.args.ix.now t (slice_index c.committed-txns.result.now (get_or c.args.outs.now n none).other)
early c t at n below =
    let h = c.args.ix.now in
    let lifetimes = c.lifetimes-lifetimes.result.now in
    let live = lived h lifetimes c.lifetimes-lifetimes.ensures in
    let link = get_or c.args.outs.now n none in
    let v = (c.requires.outs.each link).0 (Contains-get_or c.args.outs.now n none below) in
    let named = (txn_number h c.committed-txns.result.now c.committed-txns.ensures link.other v.1.1 v.1.3).1 in
    let ins = c.args.ins.now in
    let all = subst (λ (xs : List Link). IsLastOf (FromSome (CommitsIn lifetimes) xs) c.loop-into.last) (take_all c.loop-into.into-index ins (let e = c.loop-into-test.false in omega arith)) c.loop-into.invariant in
    let greatest = last_same (FromSome (CommitsIn lifetimes) ins) (EntersAt h t) c.loop-into.last (ins_commit h c.args.txn t at c.committed-txns.result.now c.committed-txns.ensures c.law.ensures lifetimes live ins c.requires.ins) all in
    rw (named, c.min-last.ensures) (first_by h c.law.ensures t _ c.loop-into.last ((live c.args.txn t at).1 unlived).1 greatest v.1.1 _
    (subst (λ x. IsVulnerable h x v.1.1) (one_txn_at h c.args.txn v.1.0 t (subst (λ m. IsCommittedAt h m v.1.0) v.0 v.1.2) at) v.1.4) ((live link.other v.1.1 v.1.3).1 unlived).1)

pub loop-out-preserved : goal.loop-out-preserved
loop-out-preserved c t at =
    let h = c.args.ix.now in
    let outs = c.args.outs.now in
    let n = c.loop-out.out-index in
    let txns = c.committed-txns.result.now in
    let names = map (λ (link : Link). slice_index txns link.other) outs in
    let up = (outs_named h c.args.txn t at txns c.committed-txns.ensures outs c.requires.outs).ascending in
    let within : n < length names = let l = c.loop-out-test.true in omega (arith, length-map outs (λ (link : Link). slice_index txns link.other)) in
    let named = get_or-map (λ (link : Link). slice_index txns link.other) outs n none 0 c.loop-out-test.true in
    let tells = early (goal.at.loop-out-preserved c).After-min-last t at n c.loop-out-test.true in
    elim c.if-lifetimes-out.branch [
      | then-lifetimes-out+in_ok-push w ↦
          picked_more (λ u. u ∷ []) (IsFirst h t) names up n 0 within c.loop-out.firsts.items c.if-lifetimes-out.firsts.items (c.loop-out.invariant t at) (rw named (tells.0 w.if-lifetimes-out.true))
          (ap (λ v. v.items) w.firsts-is ∙ w.in_ok-push.ensures.items ∙ ap (λ m. c.loop-out.firsts.items ++ m ∷ []) (sym named))
      | else-lifetimes-out w ↦
          picked_same (λ u. u ∷ []) (IsFirst h t) names up n 0 within c.loop-out.firsts.items c.if-lifetimes-out.firsts.items (c.loop-out.invariant t at)
          (λ is. let le = tells.1 (subst (IsFirst h t) named is) in let more = w.if-lifetimes-out.false in omega arith) (ap (λ v. v.items) w.firsts-is)
    ]

pub returns : goal.returns
returns c t at =
    let h = c.args.ix.now in
    let outs = c.args.outs.now in
    let txns = c.committed-txns.result.now in
    let names = map (λ (link : Link). slice_index txns link.other) outs in
    listed_as (λ u. u ∷ []) _ (IsFirst h t) (λ u. ((λ w. w.1), (λ is. (((outs_named h c.args.txn t at txns c.committed-txns.ensures outs c.requires.outs).each u).1 is.0, is)))) c.loop-out.firsts.items
    (all_picked (λ u. u ∷ []) (IsFirst h t) names c.loop-out.out-index (let l = c.loop-out-test.false in omega (arith, length-map outs (λ (link : Link). slice_index txns link.other))) c.loop-out.firsts.items (c.loop-out.invariant t at))
