-- The commit of the next one who saw the version, where it is greater.
use Rattle.std.proofs.Common.{◌<◌, ℕ, List, ap, get_or, length, sym, subst, ◌∙◌, arith}
use Rattle.std.specs.Prelude.{Contains}
use Rattle.std.proofs.lemmas.List.{take_all}
use Rattle.std.proofs.lemmas.List.Elements.{Contains-get_or}
use Rattle.sia_index.specs.Numbers.{IsCommittedAt}
use Rattle.sia_index.specs.Positions.{HasPosition}
use Rattle.sia_index.specs.declared.info.Lifetime.{Lifetime}
use Rattle.sia_parts.proofs.EdgeRows.Room.{one_count}
use Rattle.sia_graph.proofs.OfNeighbours.Stops.{CommitAmong, CommitBefore, among_more, commits_all, commits_next, commits_push, commits_zero}
use Rattle.sia_graph.proofs.OfPivots.Vulnerable.{lived}
use Rattle.sia_parts.proofs.EdgeRows.PositionOrder.{has_position}
use Rattle.sia_graph.proofs.neighbours.ends_of.Goals.{After-at-look-items, After-commit_at, then-commit_at-eq0, else-commit_at-eq0}
use Rattle.sia_graph.proofs.neighbours.ends_of.Goals as goal

abbrev unlived : Lifetime
unlived = record { start = 0; commit = 0 }

pub loop-position-init : goal.loop-position-init
loop-position-init c = (
  (ap (length {A = ℕ}) c.in_ok-ends.ensures.items, λ p q u t d v w at end same le less. absurd (omega arith)),
  (λ p q u t d v w at end same less. absurd (omega arith)),
)

pub commit_at-requires : goal.commit_at-requires
commit_at-requires c = has_position c.args.evidence.now.index.now c.position_count-count.result c.loop-position.position c.position_count-count.ensures c.loop-position-test.true

here : (c : After-commit_at) → HasPosition c.args.evidence.now.index.now c.loop-position.position
here c = has_position c.args.evidence.now.index.now c.position_count-count.result c.loop-position.position c.position_count-count.ensures c.loop-position-test.true

-- the next one who saw the version has a number
looker : (c : After-at-look-items) → (k : ℕ) → k < length c.at-look-items.result.now → (t : ℕ) × IsCommittedAt c.args.evidence.now.index.now (get_or c.at-look-items.result.now k 0) t
looker c k below =
    let look = get_or c.at-look-items.result.now k 0 in
    let has = subst (λ (xs : List ℕ). Contains xs look) c.at-look-items.ensures (Contains-get_or c.at-look-items.result.now k 0 below) in
    let is = c.requires.evidence.accesses.saw look c.loop-position.position ((c.requires.looks.each c.loop-position.position look).0 has) in
    (is.0, is.3.txn)

pub at-look-items-requires : goal.at-look-items-requires
at-look-items-requires c = (let same = one_count c.args.evidence.now.index.now _ _ c.position_count-count.ensures c.requires.looks.long in let below = c.loop-position-test.true in omega arith)

pub loop-look-init : goal.loop-look-init
loop-look-init c = (omega arith, λ u t d none. absurd (let below = none.1 in omega arith))

pub bounds-lifetimes-look : goal.bounds-lifetimes-look
bounds-lifetimes-look c =
    let t = looker (goal.at.bounds-lifetimes-look c).After-at-look-items c.loop-look.look-index c.loop-look-test.true in
    (lived c.args.evidence.now.index.now c.lifetimes-lifetimes.result.now c.lifetimes-lifetimes.ensures _ t.0 t.1).0

pub loop-look-preserved : goal.loop-look-preserved
loop-look-preserved c =
    let h = c.args.evidence.now.index.now in
    let xs = c.at-look-items.result.now in
    let n = c.loop-look.look-index in
    let t = looker (goal.at.loop-look-preserved c).After-at-look-items n c.loop-look-test.true in
    let lifetimes = c.lifetimes-lifetimes.result.now in
    let look = get_or xs n 0 in
    let life = (lived h lifetimes c.lifetimes-lifetimes.ensures look t.0 t.1).1 unlived in (
      (let is = c.max-last.ensures in let le = c.loop-look.invariant.0 in omega arith),
      among_more h c.args.looks.now c.requires.evidence.well_formed xs n c.loop-look-test.true c.loop-look.last (get_or lifetimes look unlived).commit c.max-last.result t.0 c.max-last.ensures t.1 life.1 c.loop-look.invariant.1,
    )

pub loop-position-preserved : goal.loop-position-preserved
loop-position-preserved c =
    let h = c.args.evidence.now.index.now in
    let looks = c.args.looks.now in
    let q = c.loop-position.position in
    let at = here (goal.at.loop-position-preserved c).After-commit_at in
    let old = c.if-commit_at-eq0.last in
    let before : CommitBefore h looks q old = elim c.if-commit_at-eq0.branch [
      | then-commit_at-eq0 w ↦ commits_zero h looks q old at.0 at.1 (sym (c.commit_at.ensures at.0 at.1) ∙ w.if-commit_at-eq0.true)
      | else-commit_at-eq0 w ↦ subst (CommitBefore h looks q) (sym w.last-is) c.loop-position.invariant.1
    ] in
    let all = subst (λ (xs : List ℕ). CommitAmong h looks xs c.loop-look.last) (take_all c.loop-look.look-index c.at-look-items.result.now c.loop-look-test.false ∙ c.at-look-items.ensures) c.loop-look.invariant.1 in (
      rw c.in_ok-push.ensures.items (commits_push h looks q old c.loop-look.last before c.loop-look.invariant.0 all c.loop-position.ends.items c.loop-position.invariant.0),
      commits_next h looks q old c.loop-look.last before c.loop-look.invariant.0 all,
    )

pub returns : goal.returns
returns c =
    let same = one_count c.args.evidence.now.index.now _ _ c.position_count-count.ensures c.requires.looks.long in
    commits_all c.args.evidence.now.index.now c.args.looks.now c.loop-position.ends.items c.loop-position.position (let past = c.loop-position-test.false in omega arith) (let most = c.loop-position.auto.position-end in omega arith) c.requires.looks.long c.loop-position.invariant.0
