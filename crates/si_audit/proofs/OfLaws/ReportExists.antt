-- Each text has one report of each form.
use Rattle.std.proofs.Common.{◌≡◌, ◌⊎◌, inl, inr, ℕ, ◌≤◌, List, [], ◌∷◌, ◌++◌, codes, ap, sym, subst, ◌∙◌, arith, ◌≢◌, ◌<◌, length, Some, refl, ◌&&◌, ◌+◌, ◌-◌, zero, suc, Bool, true, false, cond, reverse, All, count_by, ◌↔◌, Result, Ok, Err, IsTrue}
use Rattle.sia_events.specs.declared.event.Event.{Event}
use Rattle.sia_events.specs.DangerousStructures.{IsFirst, IsVulnerable, NoFirst, PassesSsi}
use Rattle.sia_events.specs.Dependencies.{RwEdge, IsVersionBefore}
use Rattle.sia_events.specs.Events.{actor}
use Rattle.sia_events.specs.Refusals.{IsWellFormed, IsAccepted, IsRefusal}
use Rattle.sia_events.specs.Text.{numeral, goes_on, is_separator, onto_first, tokens, with_byte}
use Rattle.sia_events.specs.Transactions.{IsOpen, CommitsBefore, IsCommitted, Wrote, WroteBefore, IsAborted}
use Rattle.sia_events.proofs.OfLaws.Anomalies.{anomaly_law}
use Rattle.sia_events.proofs.Writing.WellFormed.{seen_was_written}
use Rattle.sia_parts.specs.declared.finding.BadRead.{BadRead}
use Rattle.sia_parts.specs.declared.finding.BadWrite.{BadWrite}
use Rattle.sia_parts.specs.declared.finding.Edge.{Edge}
use Rattle.sia_parts.specs.declared.finding.Kind.{Kind}
use Rattle.sia_parts.specs.declared.finding.Kind.TheVariants.{Ww, Wr, Rw}
use Rattle.sia_parts.specs.declared.finding.Unexplained.{Unexplained}
use Rattle.sia_parts.specs.Telling.{TellsUnless, TellsVersion, event_words, start_words}
use Rattle.sia_parts.proofs.OfReasons.Named.{due_written}
use Rattle.sia_graph.specs.declared.ssi.Dangerous.{Dangerous}
use Rattle.sia_graph.specs.declared.judgement.Verdict.{Verdict}
use Rattle.sia_graph.specs.declared.judgement.Verdict.TheVariants.{Cycle}
use Rattle.sia_graph.specs.Dangerous.{MayBeFirst, HasFirst}
use Rattle.si_audit.specs.Account.{Account, IsAccount}
use Rattle.si_audit.specs.Explained.{IsExplained, TellsAll, TellsDanger, TellsVerdict, WithReasons, dangerous_edges, dangerous_line, edges_round}
use Rattle.si_audit.specs.Lines.{bad_read_line, bad_write_line, edge_word, is_empty, unexplained_line, verdict_line, refusal_line, report_text}
use Rattle.si_audit.specs.Reasons.{TellsBadRead, TellsBadWrite, TellsClass, TellsConflict, TellsEvents, TellsSight, TellsStep, TellsUnexplained, reason, untold_of}
use Rattle.si_audit.proofs.OfLaws.CountsTold.{counts_told}
use Rattle.si_audit.proofs.Shared.SnapshotsExist.{snapshots_exist, some_or_none}
use Rattle.si_audit.proofs.Shared.Telling.{Told, all_told}
use Rattle.std.proofs.lemmas.Bool.{cases_eq, cases_lt, cases_Bool}
use Rattle.std.proofs.lemmas.Option.{slice_get_within}
use Rattle.sia_events.specs.declared.event.Event.TheVariants.{Write, Abort, Commit}
use Rattle.sia_events.specs.Isolation.{IsBadRead, IsBadWrite, IsUnexplained, IsolationKept}
use Rattle.sia_events.specs.Places.{at_place}
use Rattle.sia_events.specs.Reads.{SawAt}
use Rattle.sia_events.proofs.Shared.Decisions.{Decided, both, decided_alike, first_below}
use Rattle.sia_events.proofs.OfLaws.SawDecisions.{saw_at_or_not}
use Rattle.sia_events.proofs.Shared.TransactionDecisions.{aborted_or_not, at_or_not, committed_or_not, has_start, wrote_before_or_not, wrote_or_not, open_or_not, place_within}
use Rattle.sia_parts.specs.Entries.{EdgeOfKind, IsEdge}
use Rattle.sia_parts.specs.LostUpdates.{IsLostUpdate, LosesAt}
use Rattle.sia_parts.specs.Sightings.{Gives, reader_of}
use Rattle.sia_graph.specs.declared.cycle.Step.{Step}
use Rattle.sia_graph.specs.Allowed.{IsAllowedAt, IsRwOverlap}
use Rattle.sia_graph.specs.Cycles.{GoesRound, step_edge}
use Rattle.sia_graph.specs.Verdicts.{IsVerdict, IsOrderVerdict}
use Rattle.sia_graph.proofs.OfLaws.AllowedCycles.{both_at, edge_at, place_after}
use Rattle.sia_graph.proofs.Shared.Deciding.{either_decided, not_decided, three_decided}
use Rattle.sia_graph.proofs.Shared.EdgesDecided.{edge_decided}
use Rattle.sia_graph.proofs.Shared.Facts.{commits_before_decided}
use Rattle.sia_graph.proofs.Shared.NoStuckSet.{overlap_decided, vulnerable_decided}
use Rattle.sia_graph.proofs.OfPivots.Vulnerable.{source_committed, target_committed}
use Rattle.si_audit.proofs.OfLaws.FindingsExist.{least_of, some_committed, seen_small, top_is, bad_reads_exist, bad_writes_exist, unexplained_exist, txns_listed, verdict_exists}
use Rattle.std.specs.List.{position_or_len}
use Rattle.std.proofs.lemmas.List.Elements.{All-nil, All-cons}
use Rattle.sia_events.specs.Locations.{IsTokenAt, is_line_feed}
use Rattle.sia_events.proofs.Shared.Canonical.{ends_token, goes_on_token}
use Rattle.sia_events.proofs.TokenPlaces.Locations.{tokens_some}
use Rattle.sia_events.specs.Limits.{Limits, greatest, AreWithin}
use Rattle.sia_events.specs.declared.fault.Reason.{Reason}
use Rattle.sia_events.specs.declared.fault.TextFault.{TextFault}
use Rattle.sia_events.specs.declared.fault.TextFault.TheVariants.{NoMemory, TextTooLong, Refused}
use Rattle.sia_events.specs.Judging.{JudgedAll, StopsAt, judged}
use Rattle.sia_events.specs.Lists.{CountsAll}
use Rattle.sia_events.proofs.Shared.Clean.{clean_none, read_as}
use Rattle.sia_events.proofs.Shared.FirstFaults.{stops_first}
use Rattle.sia_events.proofs.OfLaws.Histories.{has_history}
use Rattle.sia_events.proofs.JudgedTexts.Judged.{JudgedAll-none, StopsAt-after, StopsAt-first, StopsAt-more}
use Rattle.sia_graph.proofs.OfLaws.FiniteHistories.{listing_holds}
use Rattle.sia_graph.proofs.OnEvidence.Judging.{serializable_where}
use Rattle.sia_graph.proofs.OfLaws.ReplayLaw.{replay_holds}
use Rattle.si_audit.specs.declared.options.Form.{Form}
use Rattle.si_audit.specs.declared.options.Form.TheVariants.{Explained}
use Rattle.si_audit.specs.RefusedPlaces.{TellsToken, place_line}
use Rattle.si_audit.specs.Report.{IsReport, TellsAccount, TellsRefusal}
use Rattle.si_audit.proofs.OfLaws.OneReport.{one_report_of}
use Rattle.si_audit.specs.Laws.{HasOneReport}
use Rattle.si_audit.proofs.OfLaws.OutcomesTold.{kept_told}

-- ---- an account has an explained report

line_told : {A : Type 0} (line_of : A → List ℕ) (Tells : A → List ℕ → Type 0) (x : A) → Told (Tells x) → Told (WithReasons line_of Tells x)
line_told line_of Tells x told = (line_of x ++ told.0, (told.0, told.1, refl))

module _ (h : List Event) (wf : IsWellFormed h) where
  version_told : (k v : ℕ) → Wrote h v k → Told (TellsVersion h k v)
  version_told k v wrote =
      let (w, first) = least_of (λ p. at_place h p ≡ Some (Write v k)) (λ p. at_or_not h p (Write v k)) wrote.0 wrote.1 in
      elim (committed_or_not h v) [
        | inl c ↦ (event_words h k w ++ codes ", " ++ event_words h k c.0, (w, first, inr (c.0, inl c.1, refl)))
        | inr still ↦ elim (aborted_or_not h v) [
          | inl a ↦ (event_words h k w ++ codes ", " ++ event_words h k a.0, (w, first, inr (a.0, inr a.1, refl)))
          | inr never ↦ (event_words h k w, (w, first, inl (((wrote.0, (Write v k, wrote.1, refl)), still, never), refl)))
        ]
      ]

  unless_told : (known : ℕ) (before behind : List ℕ) (k v : ℕ) → (v ≢ known → Wrote h v k) → Told (TellsUnless known h before k v behind)
  unless_told known before behind k v wrote = elim (cases_eq v known) [
    | inl same ↦ ([], inl (same, refl))
    | inr other ↦ let told = version_told k v (wrote other) in (before ++ told.0 ++ behind, inr (other, told.0, told.1, refl))
  ]

  saw_wrote : (p t k v : ℕ) → SawAt h p t k v → v ≢ 0 → Wrote h v k
  saw_wrote p t k v (e, at, same, saw) some = let w = seen_was_written h wf p k v e at saw some in (w.0, w.2)

  bad_read_told : (b : BadRead) → IsBadRead h b.place b.txn b.key b.saw b.due → Told (TellsBadRead h b)
  bad_read_told b bad =
      let name = (anomaly_law h wf).named b.place b.txn b.key b.saw b.due bad in
      let start = has_start h b.txn (b.place, (bad.0.0, bad.0.1, bad.0.2)) in
      let saw = unless_told 0 (codes "  saw: ") (codes "\n") b.key b.saw (saw_wrote b.place b.txn b.key b.saw bad.0) in
      let due = unless_told 0 (codes "  due: ") (codes "\n") b.key b.due (due_written h b.txn b.place b.key b.due bad.1) in
      (_, (name.0, start.0, saw.0, due.0, name.1, start.1, saw.1, due.1, refl))

  unexplained_told : (b : Unexplained) → IsUnexplained h b.place b.txn b.key b.saw → Told (TellsUnexplained h b)
  unexplained_told b odd =
      let due = (anomaly_law h wf).unexplained b.place b.txn b.key b.saw odd in
      let told = bad_read_told (record { place = b.place; txn = b.txn; key = b.key; saw = b.saw; due = due.0 }) due.1 in
      (told.0, (due.0, due.1, told.1))

  before_or_not : (k v w : ℕ) → Decided (IsVersionBefore h k v w)
  before_or_not k v w = grind (arith, cases_eq v 0, wrote_or_not h w k, committed_or_not h w, edge_decided h wf Ww v w k)

  loses_or_not : (k first second p : ℕ) → Decided (LosesAt h k first second p)
  loses_or_not k first second p =
      decided_alike ((v : ℕ) × (SawAt h p second k v × (¬ WroteBefore h second k p) × IsVersionBefore h k v first)) (LosesAt h k first second p) (λ x. (x.0, x.1.0, x.1.1, x.1.2)) (λ x. (x.0, (x.1, x.2, x.3)))
      (some_or_none (λ v. SawAt h p second k v × (¬ WroteBefore h second k p) × IsVersionBefore h k v first)
      (λ v. three_decided (SawAt h p second k v) (¬ WroteBefore h second k p) (IsVersionBefore h k v first) (saw_at_or_not h p second k v) (not_decided (WroteBefore h second k p) (wrote_before_or_not h second k p)) (before_or_not k v first))
      (λ v x. let small = (seen_small h wf p second k v x.0).3 in let is = top_is in omega arith))

  lost_or_not : (k first second : ℕ) → Decided (IsLostUpdate h k first second)
  lost_or_not k first second = some_or_none (LosesAt h k first second) (loses_or_not k first second) (λ p x. let small = (seen_small h wf p second k x.0 x.1).0 in let is = top_is in omega arith)

  conflict_told : (b : BadWrite) (start : List ℕ) → Told (TellsConflict h b start)
  conflict_told b start = elim (lost_or_not b.key b.first b.second) [
    | inl lost ↦
        let least = least_of (LosesAt h b.key b.first b.second) (loses_or_not b.key b.first b.second) lost.0 lost.1 in
        (codes "lost update: " ++ start ++ codes "; " ++ event_words h b.key least.0, inl (least.0, (least.1.0, least.1.1), refl))
    | inr not ↦ (codes "write conflict: " ++ start, inr (not, refl))
  ]

  bad_write_told : (b : BadWrite) → IsBadWrite h b.key b.first b.second → Told (TellsBadWrite h b)
  bad_write_told b bad =
      let name = conflict_told b (start_words b.second bad.2.0) in
      let first = version_told b.key b.first bad.0 in
      let second = version_told b.key b.second bad.1 in
      (_, (bad.2.0, name.0, first.0, second.0, bad.2.2, name.1, first.1, second.1, refl))

  gives_or_not : (kind : Kind) (t u k v : ℕ) → Decided (Gives kind h t u k v)
  gives_or_not Ww t u k v = inr (λ x. x)
  gives_or_not Wr t u k v =
      three_decided (IsCommitted h v) (v ≢ u) ((t ≡ v) ⊎ IsVersionBefore h k t v) (committed_or_not h v) (not_decided (v ≡ u) (cases_eq v u)) (either_decided (t ≡ v) (IsVersionBefore h k t v) (cases_eq t v) (before_or_not k t v))
  gives_or_not Rw t u k v =
      three_decided ((v ≡ 0) ⊎ IsCommitted h v) (v ≢ t) (IsVersionBefore h k v u) (either_decided (v ≡ 0) (IsCommitted h v) (cases_eq v 0) (committed_or_not h v)) (not_decided (v ≡ t) (cases_eq v t)) (before_or_not k v u)

  gives_wrote : (kind : Kind) (t u k p v : ℕ) → SawAt h p (reader_of kind t u) k v → Gives kind h t u k v → v ≢ untold_of kind t → Wrote h v k
  gives_wrote kind t u k p v saw gives other = grind (arith, saw_wrote)

  -- the first sight of what gives an edge
  module _ (e : Edge) where
    abbrev IsSight : ℕ → ℕ → Type 0
    IsSight q w = SawAt h q (reader_of e.kind e.src e.dst) e.key w × Gives e.kind h e.src e.dst e.key w

    sight_or_not : (q : ℕ) → Decided ((w : ℕ) × (IsSight q w))
    sight_or_not q =
        some_or_none (IsSight q) (λ w. both (SawAt h q (reader_of e.kind e.src e.dst) e.key w) (Gives e.kind h e.src e.dst e.key w) (saw_at_or_not h q (reader_of e.kind e.src e.dst) e.key w) (gives_or_not e.kind e.src e.dst e.key w))
        (λ w x. let small = (seen_small h wf q (reader_of e.kind e.src e.dst) e.key w x.0).3 in let is = top_is in omega arith)

    sight_told : (p v : ℕ) → SawAt h p (reader_of e.kind e.src e.dst) e.key v → Gives e.kind h e.src e.dst e.key v → Told (TellsSight h e)
    sight_told p v saw gives =
        let (q, (found, least)) = least_of (λ q. (w : ℕ) × (IsSight q w)) sight_or_not p (v, (saw, gives)) in
        let version = unless_told (untold_of e.kind e.src) (codes "; ") [] e.key found.0 (gives_wrote e.kind e.src e.dst e.key q found.0 found.1.0 found.1.1) in
        (event_words h e.key q ++ version.0, (q, found.0, version.0, (found.1.0, found.1.1, λ r w also good. least r (w, (also, good))), version.1, refl))

  edge_events_told : (kind : Kind) (t u k : ℕ) → EdgeOfKind h kind t u k → Told (TellsEvents kind h (record { src = t; kind = kind; dst = u; key = k }))
  edge_events_told Ww t u k x =
      let one = version_told k t x.0 in
      let other = version_told k u x.1 in
      (one.0 ++ codes "; " ++ other.0, (one.0, other.0, one.1, other.1, refl))
  edge_events_told Wr t u k x =
      let one = version_told k t x.1.0 in
      let other = sight_told (record { src = t; kind = Wr; dst = u; key = k }) x.3 x.4 x.5 (x.6, x.7, x.8) in
      (one.0 ++ codes "; " ++ other.0, (one.0, other.0, one.1, other.1, refl))
  edge_events_told Rw t u k x =
      let one = sight_told (record { src = t; kind = Rw; dst = u; key = k }) x.3 x.4 x.5 (x.6, x.7, x.8) in
      let other = version_told k u x.2.0 in
      (one.0 ++ codes "; " ++ other.0, (one.0, other.0, one.1, other.1, refl))

  step_told : (e : Edge) → IsEdge h e → Told (TellsStep h e)
  step_told e is =
      let words = edge_events_told e.kind e.src e.dst e.key is in
      (reason (numeral e.src ++ codes " " ++ edge_word e.kind e.key ++ codes " " ++ numeral e.dst ++ codes ": " ++ words.0), (words.0, words.1, refl))

  round_told : (set : List ℕ) (steps : List Step) (home : ℕ) → GoesRound (IsEdge h) set steps home → Told (TellsAll (TellsStep h) (edges_round steps home))
  round_told set [] home round = ([], refl)
  round_told set (s ∷ []) home round = let one = step_told (step_edge s home) round.1.0 in (one.0 ++ [], (one.0, [], one.1, refl, refl))
  round_told set (s ∷ next ∷ steps) home round =
      let one = step_told (step_edge s next.txn) round.1.0 in
      let rest = round_told set (next ∷ steps) home round.2 in
      (one.0 ++ rest.0, (one.0, rest.0, one.1, rest.1, refl))

  overlap_or_not : (e : Edge) → Decided (IsRwOverlap h e)
  overlap_or_not e = grind (arith, overlap_decided h wf e.src e.dst)

  class_told : (edges : List Edge) → Told (TellsClass h edges)
  class_told edges = elim (first_below (IsAllowedAt h edges) allowed_or_not (length edges)) [
    | inl x ↦ (_, inl ((x.0, x.2), refl))
    | inr none ↦ (_, inr ((λ x. none x.0 (slice_get_within edges x.0 x.1.0 x.1.2.1) x.1), refl))
  ]
    where
      allowed_or_not : (i : ℕ) → Decided (IsAllowedAt h edges i)
      allowed_or_not i = elim (cases_lt i (length edges)) [
        | inl inside ↦
            let next = place_after edges i inside in
            let at = both_at h edges i next.0 inside next.1 next.2 in
            decided_alike (IsRwOverlap h (edge_at edges i) × IsRwOverlap h (edge_at edges next.0)) (IsAllowedAt h edges i) at.1 at.0
            (both (IsRwOverlap h (edge_at edges i)) (IsRwOverlap h (edge_at edges next.0)) (overlap_or_not (edge_at edges i)) (overlap_or_not (edge_at edges next.0)))
        | inr past ↦ inr (λ x. let inside : i < length edges = slice_get_within edges i x.0 x.2.1 in omega arith)
      ]

  verdict_told : (v : Verdict) → IsVerdict (IsCommitted h) (IsEdge h) v → Told (TellsVerdict h v)
  verdict_told (Cycle (s ∷ steps)) is =
      let edges = edges_round (s ∷ steps) s.txn in
      let told = round_told is.1.0 (s ∷ steps) s.txn is.1.8 in
      let class = class_told edges in
      (told.0 ++ class.0, (told.0, class.0, told.1, class.1, refl))
  verdict_told v is = ([], refl)

  may_be_or_not : (t u s : ℕ) → Decided (MayBeFirst h t u s)
  may_be_or_not t u s = both (IsVulnerable h s t) ((u ≡ s) ⊎ CommitsBefore h u s) (vulnerable_decided h wf s t) (either_decided (u ≡ s) (CommitsBefore h u s) (cases_eq u s) (commits_before_decided h wf u s))

  first_or_not : (t u : ℕ) → Decided (IsFirst h t u)
  first_or_not t u = decided_alike (IsVulnerable h t u × CommitsBefore h u t × ((s : ℕ) × (MayBeFirst h t u s))) (IsFirst h t u) (λ x. (x.0, x.1, x.2.0, x.2.1.0, x.2.1.1)) (λ f. (f.0, f.1, (f.2, (f.3, f.4))))
      (three_decided (IsVulnerable h t u) (CommitsBefore h u t) ((s : ℕ) × (MayBeFirst h t u s)) (vulnerable_decided h wf t u) (commits_before_decided h wf u t) (some_committed h (MayBeFirst h t u) (may_be_or_not t u) (λ s x. source_committed h s t x.0)))

  has_first_or_not : (t : ℕ) → Decided (HasFirst h t)
  has_first_or_not t = some_committed h (IsFirst h t) (first_or_not t) (λ u f. target_committed h t u f.0)

  some_first : Decided ((t : ℕ) × HasFirst h t)
  some_first = some_committed h (HasFirst h) has_first_or_not (λ t x. source_committed h t x.0 x.1.0)

  pub no_first_or_not : Decided (NoFirst h)
  no_first_or_not = elim some_first [ inl w ↦ inr (λ none. none w.0 w.1.0 w.1.1) | inr none ↦ inl (λ t u f. none (t, (u, f))) ]

  structure_told : (d : Dangerous) → RwEdge h d.first d.pivot d.first_key → RwEdge h d.pivot d.last d.last_key → Told (WithReasons dangerous_line (λ d. TellsAll (TellsStep h) (dangerous_edges d)) d)
  structure_told d a b =
      let one = step_told (record { src = d.first; kind = Rw; dst = d.pivot; key = d.first_key }) a in
      let two = step_told (record { src = d.pivot; kind = Rw; dst = d.last; key = d.last_key }) b in
      line_told dangerous_line (λ d. TellsAll (TellsStep h) (dangerous_edges d)) d (one.0 ++ (two.0 ++ []), (one.0, two.0 ++ [], one.1, (two.0, [], two.1, refl, refl), refl))

  dangerous_told : IsolationKept h → (t : ℕ) → HasFirst h t → Told (TellsDanger h)
  dangerous_told kept t has =
      let (pivot, p) = least_of (HasFirst h) has_first_or_not t has in
      let (last, l) = least_of (IsFirst h pivot) (first_or_not pivot) p.0.0 p.0.1 in
      let f = l.0 in
      let (first, x) = least_of (MayBeFirst h pivot last) (may_be_or_not pivot last) f.2 (f.3, f.4) in
      let (first_key, a) = least_of (RwEdge h first pivot) (edge_decided h wf Rw first pivot) x.0.0.1 x.0.0.2 in
      let (last_key, b) = least_of (RwEdge h pivot last) (edge_decided h wf Rw pivot last) f.0.1 f.0.2 in
      let d : Dangerous = record { first = first; first_key = first_key; pivot = pivot; last_key = last_key; last = last } in
      let told = structure_told d a.0 b.0 in
      (told.0, inr (kept, d, record { pivot = p; last = l; first = x; first_key = a; last_key = b }, told.1))

  danger_told : Decided (IsolationKept h) → Told (TellsDanger h)
  danger_told (inr broken) = ([], inl ((λ kept. absurd (broken kept)), refl))
  danger_told (inl kept) = elim some_first [
    | inl w ↦ dangerous_told kept w.0 w.1
    | inr none ↦ ([], inl ((λ k t u f. none (t, (u, f))), refl))
  ]

  pub explained_exists : (a : Account) → IsAccount h a → Decided (IsolationKept h) → Told (IsExplained h a)
  explained_exists a is kept =
      let reads = all_told (WithReasons bad_read_line (TellsBadRead h)) a.bad_reads (λ b c. line_told bad_read_line (TellsBadRead h) b (bad_read_told b ((is.bad_reads.each b).0 c).0)) in
      let writes = all_told (WithReasons bad_write_line (TellsBadWrite h)) a.bad_writes (λ b c. line_told bad_write_line (TellsBadWrite h) b (bad_write_told b ((is.bad_writes.each b).0 c).0)) in
      let odd = all_told (WithReasons unexplained_line (TellsUnexplained h)) a.unexplained (λ b c. line_told unexplained_line (TellsUnexplained h) b (unexplained_told b ((is.unexplained.each b).0 c).0)) in
      let snapshots = snapshots_exist h wf in
      let danger = danger_told kept in
      let verdict = line_told verdict_line (TellsVerdict h) a.verdict (verdict_told a.verdict is.verdict) in
      let counts = counts_told h wf a.bad_reads a.bad_writes (λ b c. ((is.bad_reads.each b).0 c).0) (λ b. lost_or_not b.key b.first b.second) in
      (_, (counts.0, reads.0, writes.0, odd.0, snapshots.0, danger.0, verdict.0, counts.1, reads.1, writes.1, odd.1, snapshots.1, danger.1, verdict.1, refl))

-- ---- and a text a report

-- the token with this number stands in the text
abbrev Stands : List ℕ → ℕ → Type 0
Stands text n = (line : ℕ) × (column : ℕ) × (token : List ℕ) × IsTokenAt text n line column token

skipped : (c : ℕ) (after : List ℕ) (ts : List (List ℕ)) → is_separator c ≡ true → with_byte c after ts ≡ ts
skipped c after ts e = ap (λ b. cond b ts (cond (goes_on after) (onto_first c ts) ((c ∷ []) ∷ ts))) e

onto_length : (c : ℕ) (ts : List (List ℕ)) → 0 < length ts → length (onto_first c ts) ≡ length ts
onto_length c ts some = grind arith

going : (cs : List ℕ) → goes_on cs ≡ true → (d : ℕ) × (ds : List ℕ) × (cs ≡ d ∷ ds) × (is_separator d ≡ false)
going cs e = grind arith

-- a byte before a front that isn't empty
front_more : (c : ℕ) (front : List ℕ) → (front ≡ []) ⊎ ((before : List ℕ) × (d : ℕ) × (front ≡ before ++ d ∷ []) × (is_separator d ≡ true)) → (front ≢ []) ⊎ (is_separator c ≡ true)
    → (c ∷ front ≡ []) ⊎ ((before : List ℕ) × (d : ℕ) × (c ∷ front ≡ before ++ d ∷ []) × (is_separator d ≡ true))
front_more c front (inl none) (inl some) = absurd (some none)
front_more c front (inl none) (inr sep) = inr ([], c, ap (λ (xs : List ℕ). c ∷ xs) none, sep)
front_more c front (inr w) other = inr (c ∷ w.0, w.1, ap (λ (xs : List ℕ). c ∷ xs) w.2, w.3)

-- a front begins as the text does
front_begins : (cs front back : List ℕ) → cs ≡ front ++ back → front ≢ [] → goes_on front ≡ goes_on cs
front_begins cs front back e some = grind arith

token_goes_on : (token rest : List ℕ) → token ≢ [] → All (λ c. is_separator c ≡ false) token → goes_on (token ++ rest) ≡ true
token_goes_on [] rest some all = absurd (some refl)
token_goes_on (c ∷ token) rest some all = ap (λ b. cond b false true) (all 0 c (omega arith))

is_none : (xs : List ℕ) → (xs ≡ []) ⊎ (xs ≢ [])
is_none [] = inl refl
is_none (x ∷ xs) = inr (λ e. cc)

module _ (c : ℕ) (cs : List ℕ) where
  -- what stands behind a byte, where the byte ends no token that stands there
  behind : (i j : ℕ) (s : Stands cs j) → (s.3.front ≢ []) ⊎ (is_separator c ≡ true) → length (with_byte c s.3.front (tokens s.3.front)) + 1 ≡ i → Stands (c ∷ cs) i
  behind i j s apart number = (
    count_by is_line_feed (c ∷ s.3.front) + 1,
    position_or_len is_line_feed (reverse (c ∷ s.3.front)) + 1,
    s.2,
    record {
      front = c ∷ s.3.front;
      rest = s.3.rest;
      whole = ap (λ (xs : List ℕ). c ∷ xs) s.3.whole;
      some = s.3.some;
      unbroken = s.3.unbroken;
      front_ends = front_more c s.3.front s.3.front_ends apart;
      rest_begins = s.3.rest_begins;
      number_is = number;
      begins = record { line_is = refl; column_is = refl };
    },
  )

  -- a token that begins with the byte
  first : (token rest : List ℕ) → is_separator c ≡ false → cs ≡ token ++ rest → All (λ d. is_separator d ≡ false) token → goes_on rest ≡ false → Stands (c ∷ cs) 1
  first token rest plain whole unbroken stops = (
    1,
    1,
    c ∷ token,
    record {
      front = [];
      rest = rest;
      whole = ap (λ (xs : List ℕ). c ∷ xs) whole;
      some = λ e. cc;
      unbroken = All-cons (λ d. is_separator d ≡ false) c token plain unbroken;
      front_ends = inl refl;
      rest_begins = stops;
      number_is = refl;
      begins = record { line_is = refl; column_is = refl };
    },
  )

  first_goes_on : (i : ℕ) → is_separator c ≡ false → goes_on cs ≡ true → Stands cs i → Stands (c ∷ cs) i
  first_goes_on i plain on (line, column, token, s) = elim (is_none s.front) [
    | inl none ↦ subst (Stands (c ∷ cs)) (ap (λ (xs : List ℕ). length (tokens xs) + 1) (sym none) ∙ s.number_is) (first token s.rest plain (s.whole ∙ ap (λ (xs : List ℕ). xs ++ (token ++ s.rest)) none) s.unbroken s.rest_begins)
    | inr some ↦
        let on_too = front_begins cs s.front (token ++ s.rest) s.whole some ∙ on in
        let (d, ds, is, begins) = going s.front on_too in
        let many : 0 < length (tokens s.front) = subst (λ (xs : List ℕ). 0 < length (tokens xs)) (sym is) (tokens_some d ds begins) in
        behind i i (line, column, token, s) (inl some) (ap (λ (ts : List (List ℕ)). length ts + 1) (goes_on_token c s.front (tokens s.front) plain on_too) ∙ ap (λ (n : ℕ). n + 1) (onto_length c (tokens s.front) many) ∙ s.number_is)
  ]

  first_ends : (j : ℕ) → is_separator c ≡ false → goes_on cs ≡ false → Stands cs j → Stands (c ∷ cs) (suc j)
  first_ends j plain stops (line, column, token, s) = elim (is_none s.front) [
    | inl none ↦ let on = ap goes_on (s.whole ∙ ap (λ (xs : List ℕ). xs ++ (token ++ s.rest)) none) ∙ token_goes_on token s.rest s.some s.unbroken in let both : false ≡ true = sym stops ∙ on in absurd (cc)
    | inr some ↦
        let stops_too = front_begins cs s.front (token ++ s.rest) s.whole some ∙ stops in
        let one_more : length (with_byte c s.front (tokens s.front)) ≡ suc (length (tokens s.front)) = ap length (ends_token c s.front (tokens s.front) plain stops_too) in
        let number = s.number_is in
        behind (suc j) j (line, column, token, s) (inl some) (omega arith)
  ]

stands_somewhere : (text : List ℕ) (i : ℕ) → i < length (tokens text) → Stands text (suc i)
stands_somewhere [] i l = absurd (omega arith)
stands_somewhere (c ∷ cs) i l = by_bits (is_separator c) (goes_on cs) i refl refl l (stands_somewhere cs)
  where
    by_bits : (a b : Bool) (i : ℕ) → is_separator c ≡ a → goes_on cs ≡ b → i < length (tokens (c ∷ cs)) → ((j : ℕ) → j < length (tokens cs) → Stands cs (suc j)) → Stands (c ∷ cs) (suc i)
    by_bits true b i p q l rest =
        let e = ap length (skipped c cs (tokens cs) p) in
        let s = rest i (omega arith) in
        behind c cs (suc i) (suc i) s (inr p) (ap (λ (ts : List (List ℕ)). length ts + 1) (skipped c s.3.front (tokens s.3.front) p) ∙ s.3.number_is)
    by_bits false true i p q l rest =
        let (d, ds, is, begins) = going cs q in
        let many : 0 < length (tokens cs) = subst (λ (xs : List ℕ). 0 < length (tokens xs)) (sym is) (tokens_some d ds begins) in
        let e = ap length (goes_on_token c cs (tokens cs) p q) ∙ onto_length c (tokens cs) many in
        first_goes_on c cs (suc i) p q (rest i (omega arith))
    by_bits false false zero p q l rest = first c cs [] cs p refl (All-nil (λ d. is_separator d ≡ false)) q
    by_bits false false (suc j) p q l rest = let e = ap length (ends_token c cs (tokens cs) p q) in first_ends c cs (suc j) p q (rest j (omega arith))

-- a bit that tells what can be told
bit : (P : Type 0) → Decided P → (b : Bool) × (IsTrue b ↔ P)
bit P p = grind arith

ordered_or_not : (v : Verdict) → Decided (IsOrderVerdict v)
ordered_or_not v = grind arith

empty_or_not : {A : Type 0} (xs : List A) → Decided (xs ≡ [])
empty_or_not [] = inl refl
empty_or_not (x ∷ xs) = inr (λ e. cc)

-- a token after another is taken, up to one that is refused
module _ (limits : Limits) where
  judged_or_stops : (ts : List (List ℕ)) (events : List Event) → ((all : List Event) × JudgedAll limits events ts all) ⊎ ((all : List Event) × (r : Reason) × StopsAt limits events ts all r)
  unfolding JudgedAll
  judged_or_stops [] events = inl (events, JudgedAll-none limits events)
  judged_or_stops (w ∷ ts) events = by_answer (judged limits events w) refl (judged_or_stops ts)
    where
      by_answer : (answer : Result Event Reason) → judged limits events w ≡ answer → ((more : List Event) → ((all : List Event) × JudgedAll limits more ts all) ⊎ ((all : List Event) × (r : Reason) × StopsAt limits more ts all r))
          → ((all : List Event) × JudgedAll limits events (w ∷ ts) all) ⊎ ((all : List Event) × (r : Reason) × StopsAt limits events (w ∷ ts) all r)
      by_answer (Err r) is rest = inr (events, r, StopsAt-more limits events events (w ∷ []) ts r (StopsAt-first limits events events w r refl is))
      by_answer (Ok e) is rest = elim (rest (events ++ e ∷ [])) [
        | inl x ↦ inl (x.0, (e, is, x.1))
        | inr x ↦ inr (x.0, x.1, StopsAt-after limits events (events ++ e ∷ []) x.0 (w ∷ []) ts x.1 (e, is, refl) x.2)
      ]

  -- a text is refused or accepted
  refused_or_not : AreWithin limits greatest → (text : List ℕ) → ((fault : TextFault) × IsRefusal limits text fault) ⊎ IsAccepted limits text
  refused_or_not within text = elim (cases_lt limits.bytes (length text)) [
    | inl long ↦ inl (TextTooLong, long)
    | inr short ↦ elim (judged_or_stops (tokens text) []) [
      | inl x ↦ inr (read_as limits text x.0 within short x.1).accepted
      | inr x ↦ inl (Refused (suc (length x.0)) x.1, (short, stops_first limits [] (tokens text) x.0 x.1 (clean_none limits) x.2))
    ]
  ]

module _ (h : List Event) (wf : IsWellFormed h) where
  counted : (P : ℕ → Type 0) → ((t : ℕ) → Decided (P t)) → ((t : ℕ) → P t → (p : ℕ) × (e : Event) × (at_place h p ≡ Some e) × (actor e ≡ t)) → (n : ℕ) × CountsAll P n
  counted P decide acts = let ts = txns_listed h P decide acts in (length ts.0, (ts.0, ts.1, refl))

  account_exists : (a : Account) × IsAccount h a
  account_exists =
      let committed = counted (IsCommitted h) (committed_or_not h) (λ t c. (c.0, Commit t, c.1, refl)) in
      let aborted = counted (IsAborted h) (aborted_or_not h) (λ t c. (c.0, Abort t, c.1, refl)) in
      let unfinished = counted (IsOpen h) (open_or_not h) (λ t o. let e = o.0.1 in (o.0.0, e.0, e.1, e.2)) in
      let reads = bad_reads_exist h wf in
      let writes = bad_writes_exist h wf in
      let odd = unexplained_exist h wf in
      let listing = listing_holds h wf in
      let verdict = verdict_exists h wf in
      let kept = kept_told h reads.0 writes.0 reads.1 writes.1 in
      let kept_or_not : Decided (IsolationKept h) = elim (cases_Bool (is_empty reads.0 && is_empty writes.0)) [ inl e ↦ inl (kept.0 e) | inr e ↦ inr (λ k. let same = sym (kept.1 k) ∙ e in cc) ] in
      let pass = bit (PassesSsi h) (both (IsolationKept h) (NoFirst h) kept_or_not (no_first_or_not h wf)) in
      let serial = bit (IsOrderVerdict verdict.0 × (odd.0 ≡ [])) (both (IsOrderVerdict verdict.0) (odd.0 ≡ []) (ordered_or_not verdict.0) (empty_or_not odd.0)) in (
        record {
          events = length h;
          committed = committed.0;
          aborted = aborted.0;
          unfinished = unfinished.0;
          bad_reads = reads.0;
          bad_writes = writes.0;
          unexplained = odd.0;
          edges = listing.0.0;
          pivots = listing.1.0;
          pass = pass.0;
          serializable = serial.0;
          verdict = verdict.0;
        },
        record {
          events = refl;
          committed = committed.1;
          aborted = aborted.1;
          unfinished = unfinished.1;
          bad_reads = reads.1;
          bad_writes = writes.1;
          unexplained = odd.1;
          edges = listing.0.1;
          pivots = listing.1.1;
          pass = pass.1;
          serializable = serializable_where h wf verdict.0 verdict.1 odd.0 odd.1 (replay_holds h wf) serial.0 serial.1;
          verdict = verdict.1;
        },
      )

kept_or_not : (h : List Event) (a : Account) → IsAccount h a → Decided (IsolationKept h)
kept_or_not h a is =
    let kept = kept_told h a.bad_reads a.bad_writes is.bad_reads is.bad_writes in
    elim (cases_Bool (is_empty a.bad_reads && is_empty a.bad_writes)) [ inl e ↦ inl (kept.0 e) | inr e ↦ inr (λ k. let same = sym (kept.1 k) ∙ e in cc) ]

token_told : (limits : Limits) (text : List ℕ) (fault : TextFault) → IsRefusal limits text fault → Told (TellsToken text fault)
token_told limits text NoMemory refusal = absurd refusal
token_told limits text TextTooLong refusal = ([], refl)
token_told limits text (Refused n why) (short, fault) =
    let within = place_within (tokens text) n fault.has.0 fault.has.1 in
    let some : 0 < n = within.0 in
    let most : n ≤ length (tokens text) = within.1 in
    let one : suc (n - 1) ≡ n = omega arith in
    let at = subst (Stands text) one (stands_somewhere text (n - 1) (omega arith)) in
    (place_line at.0 at.1 at.2, (at.0, at.1, at.2, at.3, refl))

refusal_told : (limits : Limits) (form : Form) (text : List ℕ) (fault : TextFault) → IsRefusal limits text fault → Told (TellsRefusal form text fault)
refusal_told limits Explained text fault refusal = let place = token_told limits text fault refusal in (refusal_line fault ++ place.0, (place.0, place.1, refl))
refusal_told limits form text fault refusal = (refusal_line fault, refl)

account_told : (form : Form) (h : List Event) → IsWellFormed h → (a : Account) → IsAccount h a → Told (TellsAccount form h a)
account_told Explained h wf a is = explained_exists h wf a is (kept_or_not h a is)
account_told form h wf a is = (report_text form a, refl)

report_exists : (limits : Limits) → AreWithin limits greatest → (form : Form) (text : List ℕ) → Told (IsReport limits form text)
report_exists limits within form text = elim (refused_or_not limits within text) [
  | inl w ↦ let told = refusal_told limits form text w.0 w.1 in (told.0, inl (w.0, w.1, told.1))
  | inr accepted ↦
      let (h, stands, wf) = has_history limits text within accepted in
      let a = account_exists h wf in
      let told = account_told form h wf a.0 a.1 in
      (told.0, inr (h, a.0, accepted, stands, a.1, told.1))
]

pub one_report_exists : (limits : Limits) → AreWithin limits greatest → (form : Form) (text : List ℕ) → HasOneReport limits form text
one_report_exists limits within form text = let r = report_exists limits within form text in (r.0, r.1, λ others is. one_report_of limits within form text r.0 others r.1 is)
