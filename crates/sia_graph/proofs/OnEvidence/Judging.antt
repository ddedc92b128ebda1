-- What follows from the findings of a history: what is settled, and whether a serial order replays it.
use Rattle.std.proofs.Common.{◌≡◌, ◌↔◌, ◌⊎◌, inl, inr, ℕ, Bool, List, [], ◌∷◌, refl, subst, arith}
use Rattle.std.specs.Prelude.{IsTrue, IfOk, MatchOption, Option, Result, ⊤}
use Rattle.sia_events.specs.declared.event.Event.{Event}
use Rattle.sia_events.specs.Lists.{ListsBy}
use Rattle.sia_events.specs.Refusals.{IsWellFormed}
use Rattle.sia_events.specs.Transactions.{IsCommitted}
use Rattle.sia_events.specs.Isolation.{IsBadRead, IsBadWrite, IsUnexplained, IsolationKept, NoneUnexplained}
use Rattle.sia_events.specs.Dependencies.{WwEdge, WrEdge, RwEdge, HasEdge}
use Rattle.sia_events.specs.DangerousStructures.{NoFirst, PassesSsi}
use Rattle.sia_events.specs.Replay.{IsOrder, Keeps, IsSerializable}
use Rattle.sia_events.specs.Laws.{ReplayLaw, SsiLaw}
use Rattle.sia_parts.specs.declared.finding.Kind.{Kind}
use Rattle.sia_parts.specs.declared.finding.Kind.TheVariants.{Ww, Wr, Rw}
use Rattle.sia_parts.specs.declared.finding.Unexplained.{Unexplained}
use Rattle.sia_parts.specs.Entries.{EdgeOfKind, IsEdge, bad_read_rank, bad_write_rank, unexplained_rank}
use Rattle.sia_parts.specs.Findings.{ListsUnexplained}
use Rattle.sia_graph.specs.declared.judgement.Verdict.{Verdict}
use Rattle.sia_graph.specs.declared.judgement.Verdict.TheVariants.{Order, Cycle}
use Rattle.sia_graph.specs.Dangerous.{IsDangerous}
use Rattle.sia_graph.specs.declared.ssi.Dangerous.{Dangerous}
use Rattle.sia_graph.specs.declared.judgement.Judgement.{Judgement}
use Rattle.sia_graph.specs.Judgements.{IsJudgement}
use Rattle.sia_graph.specs.Orders.{Leads, IsKeepingOrder}
use Rattle.sia_graph.specs.Verdicts.{IsVerdict, IsOrderVerdict}

module _ {A : Type 0} (rank : A → List ℕ) (P : A → Type 0) where
  -- nothing has P where the list is empty
  pub none_listed : (xs : List A) → ListsBy rank P xs → xs ≡ [] → (x : A) → ¬ P x
  none_listed xs p q x r = grind arith

  -- the list is empty where nothing has P
  pub empty_list : (xs : List A) → ListsBy rank P xs → ((x : A) → ¬ P x) → xs ≡ []
  empty_list [] l none = refl
  empty_list (x ∷ xs) l none = absurd (none x ((l.each x).0 (0, omega arith, refl)))

module _ (h : List Event) where
  edge_of_kind : (kind : Kind) (t u k : ℕ) → EdgeOfKind h kind t u k → HasEdge h t u
  edge_of_kind Ww t u k e = (k, inl e)
  edge_of_kind Wr t u k e = (k, inr (inl e))
  edge_of_kind Rw t u k e = (k, inr (inr e))

  pub has_by : (t u : ℕ) → Leads (IsEdge h) t u → HasEdge h t u
  has_by t u l = subst (λ x. HasEdge h x u) l.2 (subst (HasEdge h l.0.src) l.3 (edge_of_kind l.0.kind l.0.src l.0.dst l.0.key l.1))

  pub leads_by : (t u : ℕ) → HasEdge h t u → Leads (IsEdge h) t u
  leads_by t u w = by_kind w.0 w.1
    where
      by_kind : (k : ℕ) → WwEdge h t u k ⊎ WrEdge h t u k ⊎ RwEdge h t u k → Leads (IsEdge h) t u
      by_kind k (inl e) = (record { src = t; kind = Ww; dst = u; key = k }, e, refl, refl)
      by_kind k (inr (inl e)) = (record { src = t; kind = Wr; dst = u; key = k }, e, refl, refl)
      by_kind k (inr (inr e)) = (record { src = t; kind = Rw; dst = u; key = k }, e, refl, refl)

  module _ (wf : IsWellFormed h) (v : Verdict) (is : IsVerdict (IsCommitted h) (IsEdge h) v) where
    keeping : (order : List ℕ) → IsOrder h order → Keeps (HasEdge h) order → IsKeepingOrder (IsCommitted h) (IsEdge h) order
    keeping order ordered kept = (ordered, λ t u l. kept t u (has_by t u l))

    -- some order keeps every edge only where the verdict is an order
    order_verdict : (order : List ℕ) → IsOrder h order → Keeps (HasEdge h) order → IsOrderVerdict v
    order_verdict order ordered kept = by_verdict v is
      where
        by_verdict : (w : Verdict) → IsVerdict (IsCommitted h) (IsEdge h) w → IsOrderVerdict w
        by_verdict (Order least) i = tt
        by_verdict (Cycle steps) i = absurd (i.0 order (keeping order ordered kept))

    kept_order : IsOrderVerdict v → (order : List ℕ) × IsOrder h order × Keeps (HasEdge h) order
    kept_order ordered = grind (arith, leads_by)

    module _ (unexplained : List Unexplained) (found : ListsUnexplained h (λ _. ⊤) unexplained) where
      all_explained : unexplained ≡ [] → NoneUnexplained h
      all_explained none p t k v is = none_listed unexplained_rank (λ b. IsUnexplained h b.place b.txn b.key b.saw × ⊤) unexplained found none (record { place = p; txn = t; key = k; saw = v }) (is, tt)

      none_unexplained : NoneUnexplained h → unexplained ≡ []
      none_unexplained none = empty_list unexplained_rank (λ b. IsUnexplained h b.place b.txn b.key b.saw × ⊤) unexplained found (λ b is. none b.place b.txn b.key b.saw is.0)

      -- a serial order replays the history exactly where the verdict is an order and no read is unexplained
      pub serializable_where : ReplayLaw h → (b : Bool) → (IsTrue b ↔ (IsOrderVerdict v × (unexplained ≡ []))) → IsTrue b ↔ IsSerializable h
      serializable_where law b e = (
        (λ is.
            let w = e.0 is in
            let o = kept_order w.0 in
            (o.0, o.1, (law o.0 o.1).1 (o.2, all_explained w.1))),
        (λ s.
            let kept = (law s.0 s.1).0 s.2 in
            e.1 (order_verdict s.0 s.1 kept.0, none_unexplained kept.1)),
      )

      -- what passes the test of serializable snapshot isolation is serializable, and its verdict is an order
      pub passed_is_serializable : SsiLaw h → (b pass : Bool) → (IsTrue b ↔ (IsOrderVerdict v × (unexplained ≡ []))) → (IsTrue pass ↔ PassesSsi h) → IsTrue pass → IsTrue b × IsOrderVerdict v
      passed_is_serializable law b pass e p is = grind (arith, order_verdict, none_unexplained)

-- a history kept isolation exactly where its judgement has no bad read and no bad write
pub kept_where : (h : List Event) (j : Judgement) → IsJudgement h j → ((j.bad_reads.items ≡ []) × (j.bad_writes.items ≡ [])) ↔ IsolationKept h
kept_where h j is = (to, from)
  where
    to : (j.bad_reads.items ≡ []) × (j.bad_writes.items ≡ []) → IsolationKept h
    to e = record {
      reads = λ p t k saw due bad. none_listed bad_read_rank (λ b. IsBadRead h b.place b.txn b.key b.saw b.due × ⊤) j.bad_reads.items is.bad_reads e.0 (record { place = p; txn = t; key = k; saw = saw; due = due }) (bad, tt);
      writes = λ k first second bad. none_listed bad_write_rank (λ b. IsBadWrite h b.key b.first b.second × ⊤) j.bad_writes.items is.bad_writes e.1 (record { key = k; first = first; second = second }) (bad, tt);
    }

    from : IsolationKept h → (j.bad_reads.items ≡ []) × (j.bad_writes.items ≡ [])
    from e = (
      empty_list bad_read_rank (λ b. IsBadRead h b.place b.txn b.key b.saw b.due × ⊤) j.bad_reads.items is.bad_reads (λ b bad. e.reads b.place b.txn b.key b.saw b.due bad.0),
      empty_list bad_write_rank (λ b. IsBadWrite h b.key b.first b.second × ⊤) j.bad_writes.items is.bad_writes (λ b bad. e.writes b.key b.first b.second bad.0),
    )

-- of a history that kept isolation what is dangerous is told as it is
pub where_kept : {E : Type 0} (h : List Event) (r : Result (Option Dangerous) E) → IsolationKept h → IfOk r (λ found. MatchOption found (NoFirst h) (IsDangerous h))
    → IfOk r (λ found. MatchOption found (IsolationKept h → NoFirst h) (λ d. IsolationKept h × IsDangerous h d))
where_kept h r p q = grind arith
