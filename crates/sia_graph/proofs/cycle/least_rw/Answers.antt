use Rattle.std.proofs.Common.{◌⊎◌, inl, inr, ℕ, List, get_or, min, sym, subst, arith, ◌↔◌, Contains, take_all}
use Rattle.sia_events.specs.Dependencies.{RwEdge}
use Rattle.sia_parts.specs.Accesses.{HasMiss, SawPosition}
use Rattle.sia_parts.specs.Sights.{FromSome}
use Rattle.sia_parts.specs.declared.accesses.RangeMiss.{RangeMiss}
use Rattle.sia_parts.specs.declared.finding.Kind.TheVariants.{Rw}
use Rattle.sia_graph.specs.Extremes.{HasRwEdge}
use Rattle.sia_graph.specs.LeastEdges.{IsMet, IsMissMet}
use Rattle.sia_graph.specs.Twos.{IsLeastNumber}
use Rattle.sia_graph.proofs.Shared.AccessLists.{missed_is, saw_is, saw_position}
use Rattle.sia_graph.proofs.Shared.LeastNumbers.{first_least, least_join, least_none}
use Rattle.sia_graph.proofs.Cycles.MetEdges.{least_key, rw_met, as_missed, begins_at}
use Rattle.sia_parts.proofs.Shared.OneNumber.{one_committed as one_txn_at}
use Rattle.sia_graph.proofs.cycle.least_rw.Goals as goal

pub least_met-least-requires-clause-made : goal.least_met-least-requires-clause-made
least_met-least-requires-clause-made c = let l = c.requires.leads in (l.1, c.made_by-made.ensures l.1 l.3)

pub least_met-least-requires-clause-others : goal.least_met-least-requires-clause-others
least_met-least-requires-clause-others c p there =
    let e = c.args.evidence.now in
    let l = c.requires.leads in
    let a = c.requires.is.accesses in
    saw_position e.index.now e.accesses.now a c.args.t l.0 l.2 p ((saw_is e.index.now e.accesses.now a c.args.t l.0 l.2 p).0 (subst (λ (xs : List ℕ). Contains xs p) c.at.ensures there))

pub least_made-requires : goal.least_made-requires
least_made-requires c = let l = c.requires.leads in (l.1, c.made_by-made.ensures l.1 l.3)

pub loop-miss-init : goal.loop-miss-init
loop-miss-init c = (4294967295, omega arith, least_none _ (λ q f. (let n = f.1.1 in omega arith)), omega arith)

pub loop-miss-preserved : goal.loop-miss-preserved
loop-miss-preserved c =
    let h = c.args.evidence.now.index.now in
    let made = c.made_by-made.result.now in
    let misses = c.at-miss-items.result.now in
    let i = c.loop-miss.miss-index in
    let d : RangeMiss = record { from = 0; to = 0 } in
    let w = c.loop-miss.invariant in
    let new = c.least_made.result in (
      min w.0 new,
      omega arith,
      first_least (IsMissMet h made) misses i d w.0 new c.loop-miss-test.true w.1 (omega arith) w.2
          (as_missed h made (get_or misses i d) c.first_or_end-from.result c.first_or_end-to.result new (λ q j. begins_at h c.first_or_end-from.result (get_or misses i d).from q j c.first_or_end-from.ensures.parts) (λ q j. begins_at h c.first_or_end-to.result (get_or misses i d).to q j c.first_or_end-to.ensures.parts) c.least_made.ensures),
      omega arith,
    )

pub returns : goal.returns
returns c t u source target =
    let e = c.args.evidence.now in
    let h = e.index.now in
    let a = e.accesses.now in
    let are = c.requires.is.accesses in
    let l = c.requires.leads in
    let edge = subst (λ x. HasRwEdge h x u) (one_txn_at h c.args.t l.0 t l.2 source) (subst (λ x. HasRwEdge h l.0 x) (one_txn_at h c.args.u l.1 u l.3 target) l.4) in
    let made = c.made_by-made.result.now in
    let saw = c.at.result.now in
    let missed = c.at-miss-items.result.now in
    let keys = c.keys_law.ensures in
    let positions = c.position_count-count.ensures in
    let numbers = rw_met h c.requires.is.well_formed positions.0 positions.1 keys.0 keys.1 t u a are edge.1.0 made saw missed c.args.t source (c.made_by-made.ensures u target)
    (λ q. subst (λ (xs : List ℕ). Contains xs q ↔ SawPosition a c.args.t q) (sym c.at.ensures) (saw_is h a are c.args.t t source q))
    (λ miss. subst (λ (xs : List RangeMiss). Contains xs miss ↔ HasMiss a c.args.t miss) (sym c.at-miss-items.ensures) (missed_is h a are c.args.t t source miss)) in
    let w = c.loop-miss.invariant in
    let second = subst (λ (xs : List RangeMiss). IsLeastNumber (FromSome (IsMissMet h made) xs) w.0) (take_all c.loop-miss.miss-index missed c.loop-miss-test.false) w.2 in
    let least = least_join (FromSome (IsMet h Rw made) saw) (FromSome (IsMissMet h made) missed) (λ j. FromSome (IsMet h Rw made) saw j ⊎ FromSome (IsMissMet h made) missed j) c.least_met-least.result w.0 (omega arith) w.1
    (λ j x. inl x) (λ j x. inr x) (λ j x. x) c.least_met-least.ensures second in
    least_key h (λ j. FromSome (IsMet h Rw made) saw j ⊎ FromSome (IsMissMet h made) missed j) (RwEdge h t u) numbers c.loop-miss.least
    (subst (IsLeastNumber (λ j. FromSome (IsMet h Rw made) saw j ⊎ FromSome (IsMissMet h made) missed j)) (sym w.3) least) (λ e. edge)
