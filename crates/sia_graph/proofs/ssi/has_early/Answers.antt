use Rattle.std.proofs.Common.{◌≡◌, ◌-◌, ◌<◌, ◌≤◌, inl, inr, true, ℕ, List, Option, Some, None, get_or, refl, sym, subst, ◌∙◌, arith, is_some, ◌↔◌, Contains, MatchOption}
use Rattle.std.proofs.lemmas.Bool.{false≢true}
use Rattle.std.proofs.lemmas.List.{take_all}
use Rattle.std.proofs.lemmas.List.Elements.{Contains-get_or}
use Rattle.sia_events.specs.declared.event.Event.{Event}
use Rattle.sia_index.specs.Info.{HasKeyAt, IsKeyAt}
use Rattle.sia_index.specs.Positions.{HasVersionUpTo, IsAtPosition}
use Rattle.sia_parts.specs.declared.accesses.RangeMiss.{RangeMiss}
use Rattle.sia_parts.specs.Accesses.{HasMiss, SawPosition}
use Rattle.sia_graph.specs.EarlyVersions.{HasEarly, IsFollowedBy}
use Rattle.sia_index.specs.declared.info.KeyVersion.{KeyVersion}
use Rattle.sia_graph.proofs.Shared.AccessLists.{missed_is, saw_is, saw_position}
use Rattle.sia_graph.proofs.SsiTest.FoundFirsts.{missed_early, next_follows, none_early, none_follows, saw_early}
use Rattle.sia_parts.proofs.Shared.OneNumber.{one_committed as one_txn_at}
use Rattle.sia_graph.proofs.ssi.has_early.Goals.{After-at-position-items, After-at-miss-items, In-Some, in-Some+else-commit_at-place, in_default}
use Rattle.sia_graph.proofs.ssi.has_early.Goals as goal
use Rattle.sia_graph.proofs.Shared.Positions.{first_cases}

-- what is listed was seen, and the other way round
seen : (c : After-at-position-items) → (p : ℕ) → Contains c.at-position-items.result.now p → SawPosition c.args.evidence.now.accesses.now c.args.txn p
seen c p has =
    let e = c.args.evidence.now in
    let txn = c.requires.txn in
    (saw_is e.index.now e.accesses.now c.requires.evidence.accesses c.args.txn txn.0 txn.2 p).0 (subst (λ (l : List ℕ). Contains l p) c.at-position-items.ensures has)

pub next_position-requires : goal.next_position-requires
next_position-requires c =
    let e = c.args.evidence.now in
    let txn = c.requires.txn in
    let saw = c.at-position-items.result.now in
    let n = c.loop-position.position-index in
    saw_position e.index.now e.accesses.now c.requires.evidence.accesses c.args.txn txn.0 txn.2 (get_or saw n 0) (seen (goal.at.next_position-requires c).After-at-position-items (get_or saw n 0) (Contains-get_or saw n 0 c.loop-position-test.true))

-- where the next version of the same key is and when it was committed
next_is : (c : In-Some) → (v : KeyVersion) × IsAtPosition c.args.evidence.now.index.now (get_or c.at-position-items.result.now c.loop-position.position-index 0) v × (w : KeyVersion)
    × IsAtPosition c.args.evidence.now.index.now c.in-Some.next w × (IsFollowedBy c.args.evidence.now.index.now v c.args.place ↔ (w.commit ≤ c.args.place))
next_is c =
    let e = c.args.evidence.now in
    let txn = c.requires.txn in
    let saw = c.at-position-items.result.now in
    let n = c.loop-position.position-index in
    let q = get_or saw n 0 in
    let v = saw_position e.index.now e.accesses.now c.requires.evidence.accesses c.args.txn txn.0 txn.2 q ((saw_is e.index.now e.accesses.now c.requires.evidence.accesses c.args.txn txn.0 txn.2 q).0 (subst (λ (l : List ℕ). Contains l q) c.at-position-items.ensures (Contains-get_or saw n 0 c.loop-position-test.true))) in
    let w = c.in-Some.ensures v.0 v.1 in
    let told = next_follows e.index.now c.requires.evidence.well_formed q c.in-Some.next v.0 w.0 v.1 w.1 w.2 w.3 w.4 c.args.place in
    (v.0, v.1, w.0, w.1, (told.1, told.0))

pub commit_at-requires : goal.commit_at-requires
commit_at-requires c = let is = next_is (goal.at.commit_at-requires c).In-Some in (is.2, is.3)

pub returns-then-commit_at-place : goal.returns-then-commit_at-place
returns-then-commit_at-place c t at =
    let e = c.args.evidence.now in
    let h = e.index.now in
    let txn = c.requires.txn in
    let saw = c.at-position-items.result.now in
    let n = c.loop-position.position-index in
    let q = get_or saw n 0 in
    let has = seen (goal.at.returns-then-commit_at-place c).After-at-position-items q (Contains-get_or saw n 0 c.loop-position-test.true) in
    let is = next_is (goal.at.returns-then-commit_at-place c).In-Some in
    let by = subst (λ n. n ≤ c.args.place) (c.commit_at.ensures is.2 is.3) c.if-commit_at-place.true in
    let early = saw_early h c.requires.evidence.well_formed e.accesses.now c.requires.evidence.accesses c.args.txn txn.0 txn.1 c.args.place txn.2 txn.3 txn.4 q is.0 is.1 has (is.4.1 by) in
    ((λ is. subst (λ x. HasEarly h x c.args.place) (one_txn_at h c.args.txn txn.0 t txn.2 at) early), (λ f. refl))

pub loop-position-preserved : goal.loop-position-preserved
loop-position-preserved c p v has there f =
    let h = c.args.evidence.now.index.now in
    let saw = c.at-position-items.result.now in
    let n = c.loop-position.position-index in
    let q = get_or saw n 0 in
    elim ((first_cases saw n 0 p c.loop-position-test.true).0 has) [
      | inl before ↦ c.loop-position.invariant p v before there f
      | inr same ↦
          let here = subst (λ r. IsAtPosition h r v) (sym same) there in
          elim c.match-next_position.branch [
            | in-Some+else-commit_at-place w ↦
                let x = w.in-Some.ensures v here in
                let told = next_follows h c.requires.evidence.well_formed q w.in-Some.next v x.0 here x.1 x.2 x.3 x.4 c.args.place in
                absurd (omega arith)
            | in_default w ↦ absurd (none_follows h c.requires.evidence.well_formed v (w.in_default.ensures v here) c.args.place f)
          ]
    ]

pub loop-miss-init : goal.loop-miss-init
loop-miss-init c =
    let e = c.args.evidence.now in
    let txn = c.requires.txn in
    let saw = c.at-position-items.result.now in (
      (λ p v s there f.
          let listed = subst (λ (l : List ℕ). Contains l p) (sym c.at-position-items.ensures) ((saw_is e.index.now e.accesses.now c.requires.evidence.accesses c.args.txn txn.0 txn.2 p).1 s) in
          c.loop-position.invariant p v (subst (λ (l : List ℕ). Contains l p) (sym (take_all c.loop-position.position-index saw (let l = c.loop-position-test.false in omega arith))) listed) there f),
      (λ m j k has. let l = has.1 in absurd (omega arith)),
    )

-- a listed range miss is one of the transaction
missed : (c : After-at-miss-items) → (m : RangeMiss) → Contains c.at-miss-items.result.now m → HasMiss c.args.evidence.now.accesses.now c.args.txn m
missed c m has =
    let e = c.args.evidence.now in
    let txn = c.requires.txn in
    (missed_is e.index.now e.accesses.now c.requires.evidence.accesses c.args.txn txn.0 txn.2 m).0 (subst (λ (l : List RangeMiss). Contains l m) c.at-miss-items.ensures has)

-- and each of its keys has a number
keyed : (c : After-at-miss-items) → (m : RangeMiss) → HasMiss c.args.evidence.now.accesses.now c.args.txn m → (i : ℕ) → i < m.to → HasKeyAt c.args.evidence.now.index.now i
keyed c m has i below =
    let some = c.requires.evidence.accesses.some c.args.txn m has in
    let w = c.requires.evidence.accesses.missed c.args.txn (m.to - 1) (m, has, omega arith, omega arith) in
    (w.3.0, w.3.1, (let l = w.3.2 in omega arith))

pub next_visible-requires : goal.next_visible-requires
next_visible-requires c =
    let none : RangeMiss = record { from = 0; to = 0 } in
    let misses = c.at-miss-items.result.now in
    let n = c.loop-miss.miss-index in
    let m = get_or misses n none in
    let start = (goal.at.next_visible-requires c).After-at-miss-items in
    keyed start m (missed start m (Contains-get_or misses n none c.loop-miss-test.true))

-- a key of the range miss is visible exactly if there is a next one
visible : (h : List Event) (miss : RangeMiss) (place : ℕ) → ((i : ℕ) → i < miss.to → HasKeyAt h i) → (found : Option ℕ)
    → MatchOption found ((i k : ℕ) → miss.from ≤ i → i < miss.to → IsKeyAt h i k → ¬ HasVersionUpTo h k place)
    (λ j. (miss.from ≤ j) × (j < miss.to) × ((i k : ℕ) → miss.from ≤ i → i < j → IsKeyAt h i k → ¬ HasVersionUpTo h k place) × ((k : ℕ) → IsKeyAt h j k → HasVersionUpTo h k place))
    → (is_some found ≡ true) ↔ ((j : ℕ) × (k : ℕ) × (miss.from ≤ j) × (j < miss.to) × IsKeyAt h j k × HasVersionUpTo h k place)
visible h miss place keys None told = ((λ e. absurd (false≢true e)), (λ v. absurd (told v.0 v.1 v.2 v.3 v.4 v.5)))
visible h miss place keys (Some j) told =
    let key = keys j told.1 in
    let k = get_or key.0 j 0 in
    let at : IsKeyAt h j k = (key.0, key.1, key.2, refl) in
    ((λ e. (j, k, told.0, told.1, at, told.3 k at)), (λ f. refl))

pub returns-then-is_some : goal.returns-then-is_some
returns-then-is_some c t at =
    let e = c.args.evidence.now in
    let h = e.index.now in
    let txn = c.requires.txn in
    let none : RangeMiss = record { from = 0; to = 0 } in
    let misses = c.at-miss-items.result.now in
    let n = c.loop-miss.miss-index in
    let m = get_or misses n none in
    let start = (goal.at.returns-then-is_some c).After-at-miss-items in
    let has = missed start m (Contains-get_or misses n none c.loop-miss-test.true) in
    let w = (visible h m c.args.place (keyed start m has) c.next_visible.result c.next_visible.ensures).0 (sym c.is_some.ensures ∙ c.if-is_some.true) in
    let early = missed_early h c.requires.evidence.well_formed e.accesses.now c.requires.evidence.accesses c.args.txn txn.0 txn.1 c.args.place txn.2 txn.3 txn.4 w.0 w.1 w.4 (m, has, w.2, w.3) w.5 in
    ((λ is. subst (λ x. HasEarly h x c.args.place) (one_txn_at h c.args.txn txn.0 t txn.2 at) early), (λ f. refl))

pub loop-miss-preserved : goal.loop-miss-preserved
loop-miss-preserved c = (
  c.loop-miss.invariant.0,
  λ m j k has low high key up.
      let none : RangeMiss = record { from = 0; to = 0 } in
      let misses = c.at-miss-items.result.now in
      let n = c.loop-miss.miss-index in
      let x = get_or misses n none in
      elim ((first_cases misses n none m c.loop-miss-test.true).0 has) [
        | inl before ↦ c.loop-miss.invariant.1 m j k before low high key up
        | inr same ↦
            let from : x.from ≤ j = subst (λ (y : RangeMiss). y.from ≤ j) (sym same) low in
            let to : j < x.to = subst (λ (y : RangeMiss). j < y.to) (sym same) high in
            let start = (goal.at.loop-miss-preserved c).After-at-miss-items in
            let keys = keyed start x (missed start x (Contains-get_or misses n none c.loop-miss-test.true)) in
            false≢true (sym (sym c.is_some.ensures ∙ c.if-is_some.false) ∙ (visible c.args.evidence.now.index.now x c.args.place keys c.next_visible.result c.next_visible.ensures).1 (j, k, from, to, key, up))
      ],
)

pub returns : goal.returns
returns c t at =
    let e = c.args.evidence.now in
    let h = e.index.now in
    let txn = c.requires.txn in
    let misses = c.at-miss-items.result.now in
    let none =
    none_early h c.requires.evidence.well_formed e.accesses.now c.requires.evidence.accesses c.args.txn txn.0 txn.1 c.args.place txn.2 txn.3 txn.4
    (λ p v s there. c.loop-miss.invariant.0 p v s there)
    (λ j k m key.
    let listed = subst (λ (l : List RangeMiss). Contains l m.0) (sym c.at-miss-items.ensures) ((missed_is h e.accesses.now c.requires.evidence.accesses c.args.txn txn.0 txn.2 m.0).1 m.1) in
    c.loop-miss.invariant.1 m.0 j k (subst (λ (l : List RangeMiss). Contains l m.0) (sym (take_all c.loop-miss.miss-index misses (let l = c.loop-miss-test.false in omega arith))) listed) m.2 m.3 key) in
    ((λ is. absurd (false≢true is)), (λ early. absurd (none (subst (λ x. HasEarly h x c.args.place) (one_txn_at h c.args.txn t txn.0 at txn.2) early))))
