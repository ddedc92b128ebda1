use Rattle.std.proofs.Common.{◌+◌, inl, inr, ℕ, List, get_or, min, take, sym, subst, arith, ◌↔◌, Contains, take_all}
use Rattle.std.proofs.lemmas.List.Elements.{Contains-get_or}
use Rattle.sia_parts.specs.Accesses.{SawPosition}
use Rattle.sia_parts.specs.Sights.{FromSome}
use Rattle.sia_graph.specs.Twos.{IsLeastNumber, IsLeftMaker, IsLeftSource, IsTwo, IsUpTo}
use Rattle.sia_graph.proofs.Shared.AccessLists.{saw_is, saw_position}
use Rattle.sia_graph.proofs.Shared.EarlierSources.{OfEither, OfMade, OfSeen, sources_are, positions_below}
use Rattle.sia_graph.proofs.Shared.LeastNumbers.{first_least, least_join, least_none, other_of}
use Rattle.sia_graph.proofs.twos.Earlier.least_source.Goals as goal

pub least_before-requires-clause-position : goal.least_before-requires-clause-position
least_before-requires-clause-position c =
    let u = c.requires.me in
    let made = c.made_by-position-items.result.now in
    let v = ((c.made_by-position-items.ensures u.0 u.1).each (get_or made c.loop-position.position-index 0)).0 (Contains-get_or made c.loop-position.position-index 0 c.loop-position-test.true) in
    (v.0, v.1)

pub loop-position-preserved : goal.loop-position-preserved
loop-position-preserved c =
    let e = c.args.evidence.now in
    let made = c.made_by-position-items.result.now in
    let i = c.loop-position.position-index in
    let f = c.min-least.ensures in (
      omega arith,
      λ left are.
          subst (IsLeastNumber (FromSome (OfMade e.index.now e.accesses.now left c.args.me) (take (i + 1) made))) (sym f)
          (first_least (OfMade e.index.now e.accesses.now left c.args.me) made i 0 c.loop-position.least c.least_before.result c.loop-position-test.true c.loop-position.invariant.0 (omega arith)
          (c.loop-position.invariant.1 left are) (c.least_before.ensures e.accesses.now left are)),
    )

pub loop-position-2-init : goal.loop-position-2-init
loop-position-2-init c left are = (4294967295, omega arith, least_none _ (λ q f. (let n = f.1.1 in omega arith)), (let l = c.loop-position.invariant.0 in omega arith))

pub index-requires : goal.index-requires
index-requires c =
    let e = c.args.evidence.now in
    let h = e.index.now in
    let a = e.accesses.now in
    let u = c.requires.me in
    let row = c.at-position-items.result.now in
    let q = get_or row c.loop-position-2.position-index 0 in
    let there = subst (λ (xs : List ℕ). Contains xs q) c.at-position-items.ensures (Contains-get_or row c.loop-position-2.position-index 0 c.loop-position-2-test.true) in
    let l = positions_below h _ q c.requires.earlier.1.makers_long (saw_position h a c.requires.is.accesses c.args.me u.0 u.1 q ((saw_is h a c.requires.is.accesses c.args.me u.0 u.1 q).0 there)) in
    omega arith

pub loop-position-2-preserved : goal.loop-position-2-preserved
loop-position-2-preserved c left are =
    let e = c.args.evidence.now in
    let u = c.requires.me in
    let at = get_or c.at-position-items.result.now c.loop-position-2.position-index 0 in
    let there = subst (λ (xs : List ℕ). Contains xs at) c.at-position-items.ensures (Contains-get_or c.at-position-items.result.now c.loop-position-2.position-index 0 c.loop-position-2-test.true) in
    let saw = (saw_is e.index.now e.accesses.now c.requires.is.accesses c.args.me u.0 u.1 at).0 there in
    let below = positions_below e.index.now _ at are.makers_long (saw_position e.index.now e.accesses.now c.requires.is.accesses c.args.me u.0 u.1 at saw) in
    let w = c.loop-position-2.invariant left are in
    let new = c.other.result in
    let q = get_or c.at-position-items.result.now c.loop-position-2.position-index 0 in
    let made =
    other_of (IsUpTo e.index.now (IsLeftMaker e.index.now left) q) c.index.result.now c.args.me new c.other.ensures.own c.other.ensures.another
    (subst (IsTwo (IsUpTo e.index.now (IsLeftMaker e.index.now left) q)) (sym c.index.ensures) (are.makers q c.index.result.now below)) in (
      min w.0 new,
      omega arith,
      first_least (OfSeen e.index.now left c.args.me) c.at-position-items.result.now c.loop-position-2.position-index 0 w.0 new c.loop-position-2-test.true w.1 (omega arith)
          w.2 made,
      omega arith,
    )

pub returns : goal.returns
returns c left are =
    let e = c.args.evidence.now in
    let h = e.index.now in
    let a = e.accesses.now in
    let me = c.args.me in
    let u = c.requires.me in
    let made = c.made_by-position-items.result.now in
    let saw = c.at-position-items.result.now in
    let w = c.loop-position-2.invariant left are in
    let first : IsLeastNumber (FromSome (OfMade h a left me) made) c.loop-position.least =
    subst (λ (xs : List ℕ). IsLeastNumber (FromSome (OfMade h a left me) xs) c.loop-position.least) (take_all c.loop-position.position-index made c.loop-position-test.false) (c.loop-position.invariant.1 left are) in
    let second : IsLeastNumber (FromSome (OfSeen h left me) saw) w.0 =
    subst (λ (xs : List ℕ). IsLeastNumber (FromSome (OfSeen h left me) xs) w.0) (take_all c.loop-position-2.position-index saw c.loop-position-2-test.false) w.2 in
    let both = least_join (FromSome (OfMade h a left me) made) (FromSome (OfSeen h left me) saw) (OfEither h a left me made saw) c.loop-position.least w.0 c.loop-position.invariant.0 w.1
    (λ r x. inl x) (λ r x. inr x) (λ r x. x) first second in
    let versions = are.makers_long in
    subst (IsLeastNumber (IsLeftSource h left me)) (sym w.3)
    (sources_are h c.requires.is.well_formed a left versions.0 versions.1 c.requires.is.accesses me u.0 u.1 made saw (c.made_by-position-items.ensures u.0 u.1)
    (λ q. subst (λ (xs : List ℕ). Contains xs q ↔ SawPosition a me q) (sym c.at-position-items.ensures) (saw_is h a c.requires.is.accesses me u.0 u.1 q)) (min c.loop-position.least w.0) both)
