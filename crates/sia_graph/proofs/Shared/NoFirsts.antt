-- Findings with no bad read, no bad write and no first are those of a history that passes.
use Rattle.std.proofs.Common.{◌≡◌, ◌↔◌, ◌<◌, ℕ, List, [], ◌∷◌, length, get_or, sym, subst, ◌∙◌, Bool, arith}
use Rattle.std.specs.Prelude.{IsTrue, ⊤, All}
use Rattle.std.proofs.lemmas.List.{get_or-map, length-map}
use Rattle.sia_events.specs.declared.event.Event.{Event}
use Rattle.sia_events.specs.DangerousStructures.{IsPivot, IsFirst, NoFirst, PassesSsi}
use Rattle.sia_events.specs.Isolation.{IsBadRead, IsBadWrite, IsolationKept}
use Rattle.sia_parts.specs.Entries.{bad_read_rank, bad_write_rank}
use Rattle.sia_parts.specs.declared.finding.BadRead.{BadRead}
use Rattle.sia_parts.specs.declared.finding.BadWrite.{BadWrite}
use Rattle.sia_parts.specs.Findings.{ListsBadReads, ListsBadWrites}
use Rattle.sia_graph.specs.declared.pivot.Pivot.{Pivot}
use Rattle.sia_graph.specs.Pivots.{ArePivots}
use Rattle.sia_graph.proofs.OnEvidence.Judging.{empty_list, none_listed}

module _ (h : List Event) (ps : List Pivot) (pivots : ArePivots h ps) where
  -- the entry of a pivot
  entry_of : (t : ℕ) (d : Pivot) → IsPivot h t → (k : ℕ) × (k < length ps) × ((get_or ps k d).txn ≡ t)
  entry_of t d pivot =
      let c = (pivots.txns.each t).1 pivot in
      let k = c.0 in
      let n = length-map ps (λ (p : Pivot). p.txn) in
      let e = get_or-map (λ (p : Pivot). p.txn) ps k d t (omega arith) in
      (k, omega arith, sym e ∙ c.2)

  no_first : All (λ p. p.firsts ≡ []) ps → NoFirst h
  no_first none t u first =
      let d : Pivot = record { txn = 0; ins = []; outs = []; firsts = [] } in
      let at = entry_of t d ((first.2, first.3), (u, first.0)) in
      let p = get_or ps at.0 d in
      let f = subst (λ x. IsFirst h x u) (sym at.2) first in
      none_listed (λ x. x ∷ []) (λ x. IsFirst h p.txn x) p.firsts ((pivots.neighbours at.0 d at.1).firsts) (none at.0 d at.1) u f

  none_first : NoFirst h → All (λ p. p.firsts ≡ []) ps
  none_first none k d l =
      let p = get_or ps k d in
      empty_list (λ x. x ∷ []) (λ x. IsFirst h p.txn x) p.firsts (pivots.neighbours k d l).firsts (λ u. none p.txn u)

-- isolation is kept exactly where there is no bad read and no bad write
module _ (h : List Event) (reads : List BadRead) (writes : List BadWrite) (found_reads : ListsBadReads h (λ _. ⊤) reads) (found_writes : ListsBadWrites h (λ _. ⊤) writes) where
  pub kept : reads ≡ [] → writes ≡ [] → IsolationKept h
  kept no_reads no_writes = record {
    reads = λ p t k saw due bad. none_listed bad_read_rank (λ b. IsBadRead h b.place b.txn b.key b.saw b.due × ⊤) reads found_reads no_reads (record { place = p; txn = t; key = k; saw = saw; due = due }) (bad, tt);
    writes = λ k first second bad. none_listed bad_write_rank (λ b. IsBadWrite h b.key b.first b.second × ⊤) writes found_writes no_writes (record { key = k; first = first; second = second }) (bad, tt);
  }

  pub no_bad_reads : IsolationKept h → reads ≡ []
  no_bad_reads e = empty_list bad_read_rank (λ b. IsBadRead h b.place b.txn b.key b.saw b.due × ⊤) reads found_reads (λ b bad. e.reads b.place b.txn b.key b.saw b.due bad.0)

  pub no_bad_writes : IsolationKept h → writes ≡ []
  no_bad_writes e = empty_list bad_write_rank (λ b. IsBadWrite h b.key b.first b.second × ⊤) writes found_writes (λ b bad. e.writes b.key b.first b.second bad.0)

pub passes_by : (b : Bool) (h : List Event) (reads : List BadRead) (writes : List BadWrite) (ps : List Pivot) → (IsTrue b ↔ ((reads ≡ []) × (writes ≡ []) × All (λ p. p.firsts ≡ []) ps))
    → ListsBadReads h (λ _. ⊤) reads → ListsBadWrites h (λ _. ⊤) writes → ArePivots h ps → IsTrue b ↔ PassesSsi h
passes_by b h reads writes ps e found_reads found_writes pivots = (
  (λ t. let q = e.0 t in (kept h reads writes found_reads found_writes q.0 q.1, no_first h ps pivots q.2)),
  (λ q. e.1 (no_bad_reads h reads writes found_reads found_writes q.0, no_bad_writes h reads writes found_reads found_writes q.0, none_first h ps pivots q.1)),
)
