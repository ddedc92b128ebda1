use Rattle.std.proofs.Common.{◌≢◌, ◌<◌, ◌≤◌, ℕ, List, sym, subst, arith, ◌↔◌, Contains}
use Rattle.sia_events.specs.Dependencies.{WrEdge, WwEdge}
use Rattle.sia_index.specs.Numbers.{IsCommittedAt}
use Rattle.sia_parts.specs.Accesses.{SawPosition}
use Rattle.sia_parts.specs.Entries.{EdgeOfKind, IsEdge, kind_number}
use Rattle.sia_parts.specs.Sights.{FromSome}
use Rattle.sia_parts.specs.declared.finding.Kind.{Kind}
use Rattle.sia_parts.specs.declared.finding.Kind.TheVariants.{Ww, Wr, Rw}
use Rattle.sia_graph.specs.LeastEdges.{IsMet}
use Rattle.sia_graph.specs.Orders.{Leads}
use Rattle.sia_graph.proofs.Shared.AccessLists.{saw_is, saw_position}
use Rattle.sia_graph.proofs.Cycles.MetEdges.{AreNumbersOf, least_key, least_of_kind, no_key, not_same, of_last, wr_met, ww_met}
use Rattle.sia_parts.proofs.Shared.OneNumber.{one_committed as one_txn_at}
use Rattle.sia_graph.proofs.cycle.least_edge.Goals.{After-least_met-ww, After-least_met-wr}
use Rattle.sia_graph.proofs.cycle.least_edge.Goals as goal

pub least_met-ww-requires-clause-made : goal.least_met-ww-requires-clause-made
least_met-ww-requires-clause-made c = let l = c.requires.leads in (l.0, c.made_by-made.ensures l.0 l.2)

pub least_met-ww-requires-clause-others : goal.least_met-ww-requires-clause-others
least_met-ww-requires-clause-others c p there = let l = c.requires.leads in let v = ((c.made_by.ensures l.1 l.3).each p).0 there in (v.0, v.1)

module _ (c : After-least_met-ww) (t u : ℕ) (source : IsCommittedAt c.args.evidence.now.index.now c.args.t t) (target : IsCommittedAt c.args.evidence.now.index.now c.args.u u) where
  -- some edge leads from t to u
  leads : Leads (IsEdge c.args.evidence.now.index.now) t u
  leads =
      let h = c.args.evidence.now.index.now in
      let l = c.requires.leads in
      subst (λ x. Leads (IsEdge h) x u) (one_txn_at h c.args.t l.0 t l.2 source) (subst (λ x. Leads (IsEdge h) l.0 x) (one_txn_at h c.args.u l.1 u l.3 target) l.4)

  edge : (kind : Kind) × (k : ℕ) × EdgeOfKind c.args.evidence.now.index.now kind t u k
  edge = grind (arith, leads)

  other : t ≢ u
  other =
      let positions = c.position_count-count.ensures in
      let keys = c.keys_law.ensures in
      not_same c.args.evidence.now.index.now c.requires.is.well_formed positions.0 positions.1 keys.0 keys.1 t u edge.0 edge.1 edge.2

  ww : AreNumbersOf c.args.evidence.now.index.now (FromSome (IsMet c.args.evidence.now.index.now Ww c.made_by-made.result.now) c.made_by.result.now) (WwEdge c.args.evidence.now.index.now t u)
  ww =
      let positions = c.position_count-count.ensures in
      let keys = c.keys_law.ensures in
      ww_met c.args.evidence.now.index.now c.requires.is.well_formed positions.0 positions.1 keys.0 keys.1 t u c.made_by-made.result.now c.made_by.result.now (c.made_by-made.ensures t source) (c.made_by.ensures u target)

  no_ww : 4294967295 ≤ c.least_met-ww.result → (k : ℕ) → ¬ WwEdge c.args.evidence.now.index.now t u k
  no_ww most =
      let h = c.args.evidence.now.index.now in
      no_key h c.requires.is.well_formed (FromSome (IsMet h Ww c.made_by-made.result.now) c.made_by.result.now) (WwEdge h t u) ww c.least_met-ww.result c.least_met-ww.ensures most

pub returns-then-ww-lt-NONE : goal.returns-then-ww-lt-NONE
returns-then-ww-lt-NONE c t u source target =
    let h = c.args.evidence.now.index.now in
    let w = least_key h (FromSome (IsMet h Ww c.made_by-made.result.now) c.made_by.result.now) (WwEdge h t u) (ww (goal.at.returns-then-ww-lt-NONE c).After-least_met-ww t u source target)
    c.least_met-ww.result c.least_met-ww.ensures (λ e. absurd (omega arith)) in
    (w.0, w.1, least_of_kind h t u Ww w.0 w.2 (λ x j l. absurd (omega arith)))

pub least_met-wr-requires-clause-made : goal.least_met-wr-requires-clause-made
least_met-wr-requires-clause-made c = let l = c.requires.leads in (l.0, c.made_by-made.ensures l.0 l.2)

pub least_met-wr-requires-clause-others : goal.least_met-wr-requires-clause-others
least_met-wr-requires-clause-others c p there =
    let e = c.args.evidence.now in
    let l = c.requires.leads in
    let a = c.requires.is.accesses in
    saw_position e.index.now e.accesses.now a c.args.u l.1 l.3 p ((saw_is e.index.now e.accesses.now a c.args.u l.1 l.3 p).0 (subst (λ (xs : List ℕ). Contains xs p) c.at.ensures there))

module _ (c : After-least_met-wr) (t u : ℕ) (apart : t ≢ u) (source : IsCommittedAt c.args.evidence.now.index.now c.args.t t) (target : IsCommittedAt c.args.evidence.now.index.now c.args.u u) where
  wr : AreNumbersOf c.args.evidence.now.index.now (FromSome (IsMet c.args.evidence.now.index.now Wr c.made_by-made.result.now) c.at.result.now) (WrEdge c.args.evidence.now.index.now t u)
  wr =
      let h = c.args.evidence.now.index.now in
      let a = c.args.evidence.now.accesses.now in
      let are = c.requires.is.accesses in
      let positions = c.position_count-count.ensures in
      let keys = c.keys_law.ensures in
      wr_met h c.requires.is.well_formed positions.0 positions.1 keys.0 keys.1 t u a are apart c.made_by-made.result.now c.at.result.now c.args.u target (c.made_by-made.ensures t source)
      (λ q. subst (λ (xs : List ℕ). Contains xs q ↔ SawPosition a c.args.u q) (sym c.at.ensures) (saw_is h a are c.args.u u target q))

  no_wr : 4294967295 ≤ c.least_met-wr.result → (k : ℕ) → ¬ WrEdge c.args.evidence.now.index.now t u k
  no_wr most =
      let h = c.args.evidence.now.index.now in
      no_key h c.requires.is.well_formed (FromSome (IsMet h Wr c.made_by-made.result.now) c.at.result.now) (WrEdge h t u) wr c.least_met-wr.result c.least_met-wr.ensures most

pub returns-then-wr-lt-NONE : goal.returns-then-wr-lt-NONE
returns-then-wr-lt-NONE c t u source target =
    let h = c.args.evidence.now.index.now in
    let at = goal.at.returns-then-wr-lt-NONE c in
    let less = c.if-wr-lt-NONE.true in
    let apart = other at.After-least_met-ww t u source target in
    let w = least_key h (FromSome (IsMet h Wr c.made_by-made.result.now) c.at.result.now) (WrEdge h t u) (wr at.After-least_met-wr t u apart source target) c.least_met-wr.result c.least_met-wr.ensures (λ e. absurd (omega arith)) in
    (w.0, w.1, least_of_kind h t u Wr w.0 w.2 (below (no_ww at.After-least_met-ww t u source target c.if-ww-lt-NONE.false)))
  where
    below : (no_ww : (k : ℕ) → ¬ WwEdge c.args.evidence.now.index.now t u k) → (x : Kind) (j : ℕ) → kind_number x < 1 → ¬ EdgeOfKind c.args.evidence.now.index.now x t u j
    below no_ww Ww j less edge = no_ww j edge
    below no_ww Wr j less edge = omega arith
    below no_ww Rw j less edge = omega arith

pub least_rw-requires-clause-leads : goal.least_rw-requires-clause-leads
least_rw-requires-clause-leads c =
    let h = c.args.evidence.now.index.now in
    let at = goal.at.least_rw-requires-clause-leads c in
    let l = c.requires.leads in
    let e = edge at.After-least_met-ww l.0 l.1 l.2 l.3 in
    let apart = other at.After-least_met-ww l.0 l.1 l.2 l.3 in
    (l.0, l.1, l.2, l.3, (e.1, of_last h l.0 l.1 e.1 e.0 e.2 (no_ww at.After-least_met-ww l.0 l.1 l.2 l.3 c.if-ww-lt-NONE.false) (no_wr at.After-least_met-wr l.0 l.1 apart l.2 l.3 c.if-wr-lt-NONE.false)))

pub returns : goal.returns
returns c t u source target =
    let h = c.args.evidence.now.index.now in
    let at = goal.at.returns c in
    let apart = other at.After-least_met-ww t u source target in
    let w = c.least_rw.ensures t u source target in
    (w.0, w.1, least_of_kind h t u Rw w.0 w.2 (below (no_ww at.After-least_met-ww t u source target c.if-ww-lt-NONE.false) (no_wr at.After-least_met-wr t u apart source target c.if-wr-lt-NONE.false)))
  where
    below : (no_ww : (k : ℕ) → ¬ WwEdge c.args.evidence.now.index.now t u k) → (no_wr : (k : ℕ) → ¬ WrEdge c.args.evidence.now.index.now t u k) → (x : Kind) (j : ℕ) → kind_number x < 2
        → ¬ EdgeOfKind c.args.evidence.now.index.now x t u j
    below no_ww no_wr Ww j less edge = no_ww j edge
    below no_ww no_wr Wr j less edge = no_wr j edge
    below no_ww no_wr Rw j less edge = omega arith
