-- A text has one report.
use Rattle.std.proofs.Common.{◌≡◌, ◌⊎◌, inl, inr, ℕ, ◌≤◌, List, [], ◌∷◌, ◌++◌, codes, ap, sym, subst, ◌∙◌, arith, refl, suc, map}
use Rattle.sia_events.specs.declared.event.Event.{Event}
use Rattle.sia_events.specs.DangerousStructures.{IsFirst, IsVulnerable, IsPivot, PassesSsi}
use Rattle.sia_events.specs.Dependencies.{RwEdge}
use Rattle.sia_events.specs.Events.{Saw}
use Rattle.sia_events.specs.Refusals.{IsWellFormed, IsAccepted, IsRefusal}
use Rattle.sia_events.specs.Text.{numeral, StandsFor}
use Rattle.sia_events.specs.Transactions.{AbortsAt, CommitsAt, IsOpen, IsCommitted, IsAborted}
use Rattle.sia_events.proofs.OfLaws.Anomalies.{anomaly_law}
use Rattle.sia_events.proofs.OfLaws.Due.{one_due}
use Rattle.sia_events.proofs.OfLaws.Endings.{one_abort, one_end}
use Rattle.sia_events.proofs.Writing.Ranges.{one_version}
use Rattle.sia_events.proofs.Shared.Starts.{one_event, one_start}
use Rattle.sia_events.proofs.Writing.WellFormed.{one_commit}
use Rattle.sia_parts.specs.declared.finding.BadRead.{BadRead}
use Rattle.sia_parts.specs.declared.finding.BadWrite.{BadWrite}
use Rattle.sia_parts.specs.declared.finding.Edge.{Edge}
use Rattle.sia_parts.specs.declared.finding.Kind.{Kind}
use Rattle.sia_parts.specs.declared.finding.Kind.TheVariants.{Ww, Wr, Rw}
use Rattle.sia_parts.specs.declared.finding.Unexplained.{Unexplained}
use Rattle.sia_parts.specs.Telling.{TellsUnless, TellsVersion, event_words, start_words}
use Rattle.sia_graph.specs.declared.ssi.Dangerous.{Dangerous}
use Rattle.sia_graph.specs.declared.judgement.Verdict.{Verdict}
use Rattle.sia_graph.specs.declared.judgement.Verdict.TheVariants.{Cycle}
use Rattle.sia_graph.specs.Dangerous.{IsDangerous, IsLeast, MayBeFirst}
use Rattle.si_audit.specs.Account.{Account, IsAccount}
use Rattle.si_audit.specs.Explained.{IsExplained, TellsAll, TellsDanger, TellsVerdict, WithReasons, dangerous_edges, dangerous_line, edges_round}
use Rattle.si_audit.specs.Lines.{bad_read_line, bad_write_line, edge_word, unexplained_line, verdict_line}
use Rattle.si_audit.specs.Reasons.{TellsBadRead, TellsBadWrite, TellsClass, TellsConflict, TellsEvents, TellsSight, TellsStep, TellsUnexplained, anomaly_words, reason, untold_of}
use Rattle.si_audit.proofs.OfLaws.CountsTold.{one_counts}
use Rattle.si_audit.proofs.Shared.SnapshotsExist.{one_snapshots}
use Rattle.si_audit.proofs.Shared.Telling.{IsOne, one_all}
use Rattle.sia_events.specs.Isolation.{IsBadRead, IsBadWrite, IsUnexplained}
use Rattle.sia_parts.specs.Entries.{IsEdge, bad_read_rank, bad_write_rank, unexplained_rank, edge_rank}
use Rattle.std.specs.Prelude.{All, ⊤}
use Rattle.std.specs.Bool.{one_answer}
use Rattle.sia_events.specs.Limits.{Limits, greatest, AreWithin}
use Rattle.sia_events.specs.declared.fault.TextFault.{TextFault}
use Rattle.sia_events.specs.declared.fault.TextFault.TheVariants.{Refused}
use Rattle.sia_events.specs.Lists.{ListsAscending}
use Rattle.sia_events.specs.Replay.{IsSerializable}
use Rattle.sia_events.proofs.Shared.Canonical.{spellings_injective}
use Rattle.sia_events.proofs.OfLaws.OneRefusal.{one_refusal}
use Rattle.sia_events.proofs.TokenPlaces.Locations.{one_location}
use Rattle.sia_events.proofs.OfLaws.Histories.{accepted_well_formed, greater_accept}
use Rattle.sia_events.proofs.Worked.OneList.{one_list_by, one_count}
use Rattle.sia_graph.specs.declared.pivot.Pivot.{Pivot}
use Rattle.sia_graph.specs.Pivots.{ListsNeighbours, ArePivots}
use Rattle.sia_graph.proofs.OfLaws.OneVerdict.{one_verdict}
use Rattle.si_audit.specs.declared.options.Form.{Form}
use Rattle.si_audit.specs.declared.options.Form.TheVariants.{Explained}
use Rattle.si_audit.specs.RefusedPlaces.{TellsToken, place_line}
use Rattle.si_audit.specs.Report.{HasSameReport, IsReport, OneReport, TellsAccount, TellsRefusal}

-- ---- an account has one explained report

one_with_reasons : {A : Type 0} (line_of : A → List ℕ) (Tells : A → List ℕ → Type 0) → ((x : A) → IsOne (Tells x)) → (x : A) → IsOne (WithReasons line_of Tells x)
one_with_reasons line_of Tells one x a b p q = p.2 ∙ ap (λ (reasons : List ℕ). line_of x ++ reasons) (one x p.0 q.0 p.1 q.1) ∙ sym q.2

module _ (h : List Event) (wf : IsWellFormed h) where
  ends_once : (v : ℕ) (q r : ℕ) → CommitsAt h v q ⊎ AbortsAt h v q → CommitsAt h v r ⊎ AbortsAt h v r → q ≡ r
  ends_once v q r p s = grind (arith, one_commit, one_end, one_abort)

  open_has_no_end : (v q : ℕ) → IsOpen h v → ¬ (CommitsAt h v q ⊎ AbortsAt h v q)
  open_has_no_end v q o p = grind arith

  one_version_told : (k v : ℕ) → IsOne (TellsVersion h k v)
  one_version_told k v a b x y =
      let same : x.0 ≡ y.0 = (let up : x.0 ≤ y.0 = x.1.1 y.0 y.1.0 in let down : y.0 ≤ x.0 = y.1.1 x.0 x.1.0 in omega arith) in
      by_ends x.2 y.2 same
    where
      by_ends : {w z : ℕ} → ((IsOpen h v × (a ≡ event_words h k w)) ⊎ ((q : ℕ) × (CommitsAt h v q ⊎ AbortsAt h v q) × (a ≡ event_words h k w ++ codes ", " ++ event_words h k q)))
          → ((IsOpen h v × (b ≡ event_words h k z)) ⊎ ((q : ℕ) × (CommitsAt h v q ⊎ AbortsAt h v q) × (b ≡ event_words h k z ++ codes ", " ++ event_words h k q))) → w ≡ z → a ≡ b
      by_ends (inl m) (inl n) same = m.1 ∙ ap (event_words h k) same ∙ sym n.1
      by_ends (inl m) (inr n) same = absurd (open_has_no_end v n.0 m.0 n.1)
      by_ends (inr m) (inl n) same = absurd (open_has_no_end v m.0 n.0 m.1)
      by_ends (inr m) (inr n) same =
          m.2 ∙ ap (λ w. event_words h k w ++ codes ", " ++ event_words h k m.0) same
          ∙ ap (λ q. event_words h k _ ++ codes ", " ++ event_words h k q) (ends_once v m.0 n.0 m.1 n.1) ∙ sym n.2

  one_unless : (known : ℕ) (before behind : List ℕ) (k v : ℕ) → IsOne (TellsUnless known h before k v behind)
  one_unless known before behind k v a b (inl x) (inl y) = x.1 ∙ sym y.1
  one_unless known before behind k v a b (inl x) (inr y) = absurd (y.0 x.0)
  one_unless known before behind k v a b (inr x) (inl y) = absurd (x.0 y.0)
  one_unless known before behind k v a b (inr x) (inr y) = x.3 ∙ ap (λ words. before ++ words ++ behind) (one_version_told k v x.1 y.1 x.2 y.2) ∙ sym y.3

  pub one_bad_read : (r : BadRead) → IsOne (TellsBadRead h r)
  one_bad_read r a b x y =
      let name = (anomaly_law h wf).once r.place r.txn r.key r.saw r.due x.0 y.0 x.4 y.4 in
      let start = one_start h r.txn x.1 y.1 x.5 y.5 in
      let saw = one_unless 0 (codes "  saw: ") (codes "\n") r.key r.saw x.2 y.2 x.6 y.6 in
      let due = one_unless 0 (codes "  due: ") (codes "\n") r.key r.due x.3 y.3 x.7 y.7 in
      x.8 ∙ (λ i. reason (anomaly_words (name i) ++ codes ": " ++ event_words h r.key r.place ++ codes "; " ++ start_words r.txn (start i)) ++ saw i ++ due i) ∙ sym y.8

  pub one_unexplained : (r : Unexplained) → IsOne (TellsUnexplained h r)
  one_unexplained r a b x y =
      let due = one_due h r.txn r.place r.key x.0 y.0 x.1.1 y.1.1 in
      one_bad_read (record { place = r.place; txn = r.txn; key = r.key; saw = r.saw; due = y.0 }) a b
      (subst (λ (u : ℕ). TellsBadRead h (record { place = r.place; txn = r.txn; key = r.key; saw = r.saw; due = u }) a) due x.2) y.2

  one_conflict : (r : BadWrite) (start : List ℕ) → IsOne (TellsConflict h r start)
  one_conflict r start a b (inl x) (inl y) =
      let place : x.0 ≡ y.0 = (let up : x.0 ≤ y.0 = x.1.1 y.0 y.1.0 in let down : y.0 ≤ x.0 = y.1.1 x.0 x.1.0 in omega arith) in
      x.2 ∙ ap (λ p. codes "lost update: " ++ start ++ codes "; " ++ event_words h r.key p) place ∙ sym y.2
  one_conflict r start a b (inl x) (inr y) = absurd (y.0 (x.0, x.1.0))
  one_conflict r start a b (inr x) (inl y) = absurd (x.0 (y.0, y.1.0))
  one_conflict r start a b (inr x) (inr y) = x.1 ∙ sym y.1

  pub one_bad_write : (r : BadWrite) → IsOne (TellsBadWrite h r)
  one_bad_write r a b x y =
      let start = one_start h r.second x.0 y.0 x.4 y.4 in
      let name = one_conflict r (start_words r.second y.0) x.1 y.1 (subst (λ (s : ℕ). TellsConflict h r (start_words r.second s) x.1) start x.5) y.5 in
      let first = one_version_told r.key r.first x.2 y.2 x.6 y.6 in
      let second = one_version_told r.key r.second x.3 y.3 x.7 y.7 in
      x.8 ∙ (λ i. reason (name i ++ codes "; " ++ first i ++ codes "; " ++ second i)) ∙ sym y.8

  one_sight : (e : Edge) → IsOne (TellsSight h e)
  one_sight e a b x y =
      let place : x.0 ≡ y.0 = (let up : x.0 ≤ y.0 = x.3.2 y.0 y.1 y.3.0 y.3.1 in let down : y.0 ≤ x.0 = y.3.2 x.0 x.1 x.3.0 x.3.1 in omega arith) in
      let event = one_event h x.0 y.0 x.3.0.0 y.3.0.0 place x.3.0.1 y.3.0.1 in
      let version : x.1 ≡ y.1 = one_version h wf y.0 e.key x.1 y.1 y.3.0.0 y.3.0.1 (subst (λ f. Saw f e.key x.1) event x.3.0.3) y.3.0.3 in
      let words = one_unless (untold_of e.kind e.src) (codes "; ") [] e.key y.1 x.2 y.2 (subst (λ (v : ℕ). TellsUnless (untold_of e.kind e.src) h (codes "; ") e.key v [] x.2) version x.4) y.4 in
      x.5 ∙ (λ i. event_words h e.key (place i) ++ words i) ∙ sym y.5

  one_events : (kind : Kind) (e : Edge) → IsOne (TellsEvents kind h e)
  one_events Ww e a b x y = x.4 ∙ (λ i. one_version_told e.key e.src x.0 y.0 x.2 y.2 i ++ codes "; " ++ one_version_told e.key e.dst x.1 y.1 x.3 y.3 i) ∙ sym y.4
  one_events Wr e a b x y = x.4 ∙ (λ i. one_version_told e.key e.src x.0 y.0 x.2 y.2 i ++ codes "; " ++ one_sight e x.1 y.1 x.3 y.3 i) ∙ sym y.4
  one_events Rw e a b x y = x.4 ∙ (λ i. one_sight e x.0 y.0 x.2 y.2 i ++ codes "; " ++ one_version_told e.key e.dst x.1 y.1 x.3 y.3 i) ∙ sym y.4

  one_step : (e : Edge) → IsOne (TellsStep h e)
  one_step e a b x y = x.2 ∙ (λ i. reason (numeral e.src ++ codes " " ++ edge_word e.kind e.key ++ codes " " ++ numeral e.dst ++ codes ": " ++ one_events e.kind e x.0 y.0 x.1 y.1 i)) ∙ sym y.2

  one_class : (edges : List Edge) → IsOne (TellsClass h edges)
  one_class edges a b p q = grind arith

  pub one_verdict_told : (v : Verdict) → IsOne (TellsVerdict h v)
  one_verdict_told (Cycle (s ∷ steps)) a b x y =
      let edges = edges_round (s ∷ steps) s.txn in
      x.4 ∙ (λ i. one_all (TellsStep h) one_step edges x.0 y.0 x.2 y.2 i ++ one_class edges x.1 y.1 x.3 y.3 i) ∙ sym y.4
  one_verdict_told v a b x y = x ∙ sym y

  one_least : (P : ℕ → Type 0) (m n : ℕ) → IsLeast P m → IsLeast P n → m ≡ n
  one_least P m n x y = let up : m ≤ n = x.1 n y.0 in let down : n ≤ m = y.1 m x.0 in omega arith

  one_structure : (d e : Dangerous) → IsDangerous h d → IsDangerous h e → d ≡ e
  one_structure d e x y =
      let pivot = one_least _ d.pivot e.pivot x.pivot y.pivot in
      let last = one_least _ d.last e.last (subst (λ (p : ℕ). IsLeast (IsFirst h p) d.last) pivot x.last) y.last in
      let first = one_least _ d.first e.first (subst (λ (l : ℕ). IsLeast (MayBeFirst h e.pivot l) d.first) last (subst (λ (p : ℕ). IsLeast (MayBeFirst h p d.last) d.first) pivot x.first)) y.first in
      let first_key = one_least _ d.first_key e.first_key (subst (λ (t : ℕ). IsLeast (RwEdge h t e.pivot) d.first_key) first (subst (λ (p : ℕ). IsLeast (RwEdge h d.first p) d.first_key) pivot x.first_key)) y.first_key in
      let last_key = one_least _ d.last_key e.last_key (subst (λ (t : ℕ). IsLeast (RwEdge h e.pivot t) d.last_key) last (subst (λ (p : ℕ). IsLeast (RwEdge h p d.last) d.last_key) pivot x.last_key)) y.last_key in
      λ i. record { first = first i; first_key = first_key i; pivot = pivot i; last_key = last_key i; last = last i }

  pub one_danger : IsOne (TellsDanger h)
  one_danger a b (inl x) (inl y) = x.1 ∙ sym y.1
  one_danger a b (inl x) (inr y) = absurd (x.0 y.0 y.1.pivot _ y.2.pivot.0.1)
  one_danger a b (inr x) (inl y) = absurd (y.0 x.0 x.1.pivot _ x.2.pivot.0.1)
  one_danger a b (inr x) (inr y) =
      one_with_reasons dangerous_line (λ d. TellsAll (TellsStep h) (dangerous_edges d)) (λ d. one_all (TellsStep h) one_step (dangerous_edges d)) y.1 a b
      (subst (λ d. WithReasons dangerous_line (λ d. TellsAll (TellsStep h) (dangerous_edges d)) d a) (one_structure x.1 y.1 x.2 y.2) x.3) y.3

pub one_explained : (h : List Event) → IsWellFormed h → (a : Account) → IsOne (IsExplained h a)
one_explained h wf a bytes others x y =
    let counts = one_counts h a.bad_reads a.bad_writes x.0 y.0 x.7 y.7 in
    let reads = one_all (WithReasons bad_read_line (TellsBadRead h)) (one_with_reasons bad_read_line (TellsBadRead h) (one_bad_read h wf)) a.bad_reads x.1 y.1 x.8 y.8 in
    let writes = one_all (WithReasons bad_write_line (TellsBadWrite h)) (one_with_reasons bad_write_line (TellsBadWrite h) (one_bad_write h wf)) a.bad_writes x.2 y.2 x.9 y.9 in
    let unexplained = one_all (WithReasons unexplained_line (TellsUnexplained h)) (one_with_reasons unexplained_line (TellsUnexplained h) (one_unexplained h wf)) a.unexplained x.3 y.3 x.10 y.10 in
    let snapshots = one_snapshots h wf x.4 y.4 x.11 y.11 in
    let danger = one_danger h wf x.5 y.5 x.12 y.12 in
    let verdict = one_with_reasons verdict_line (TellsVerdict h) (one_verdict_told h wf) a.verdict x.6 y.6 x.13 y.13 in
    grind arith

-- ---- and a text one report

-- a pivot's transaction tells its neighbours
one_entry : (h : List Event) (p q : Pivot) → p.txn ≡ q.txn → ListsNeighbours h p → ListsNeighbours h q → p ≡ q
one_entry h p q e a b =
    let ins = one_list_by (λ x. x ∷ []) (λ t. IsVulnerable h t p.txn) p.ins q.ins a.ins (subst (λ (u : ℕ). ListsAscending (λ t. IsVulnerable h t u) q.ins) (sym e) b.ins) in
    let outs = one_list_by (λ x. x ∷ []) (λ t. IsVulnerable h p.txn t) p.outs q.outs a.outs (subst (λ (u : ℕ). ListsAscending (λ t. IsVulnerable h u t) q.outs) (sym e) b.outs) in
    let firsts = one_list_by (λ x. x ∷ []) (λ t. IsFirst h p.txn t) p.firsts q.firsts a.firsts (subst (λ (u : ℕ). ListsAscending (λ t. IsFirst h u t) q.firsts) (sym e) b.firsts) in
    λ i. record { txn = e i; ins = ins i; outs = outs i; firsts = firsts i }

entries : (h : List Event) (ps qs : List Pivot) → map (λ p. p.txn) ps ≡ map (λ p. p.txn) qs → All (ListsNeighbours h) ps → All (ListsNeighbours h) qs → ps ≡ qs
entries h [] [] e a b = refl
entries h (p ∷ ps) (q ∷ qs) e a b =
    let first : p.txn ≡ q.txn = cc in
    let rest : map (λ p. p.txn) ps ≡ map (λ p. p.txn) qs = cc in
    let x = one_entry h p q first (a 0 p (omega arith)) (b 0 q (omega arith)) in
    let y = entries h ps qs rest (λ k d l. a (suc k) d (omega arith)) (λ k d l. b (suc k) d (omega arith)) in
    λ i. x i ∷ y i
entries h ps qs e a b = cc

one_pivots : (h : List Event) (ps qs : List Pivot) → ArePivots h ps → ArePivots h qs → ps ≡ qs
one_pivots h ps qs a b = entries h ps qs (one_list_by (λ x. x ∷ []) (IsPivot h) (map (λ p. p.txn) ps) (map (λ p. p.txn) qs) a.txns b.txns) a.neighbours b.neighbours

-- a history has one account
pub one_account : (h : List Event) (a b : Account) → IsAccount h a → IsAccount h b → a ≡ b
one_account h a b x y = λ i. record {
  events = (x.events ∙ sym y.events) i;
  committed = one_count (IsCommitted h) a.committed b.committed x.committed y.committed i;
  aborted = one_count (IsAborted h) a.aborted b.aborted x.aborted y.aborted i;
  unfinished = one_count (IsOpen h) a.unfinished b.unfinished x.unfinished y.unfinished i;
  bad_reads = one_list_by bad_read_rank (λ r. IsBadRead h r.place r.txn r.key r.saw r.due × ⊤) a.bad_reads b.bad_reads x.bad_reads y.bad_reads i;
  bad_writes = one_list_by bad_write_rank (λ w. IsBadWrite h w.key w.first w.second × ⊤) a.bad_writes b.bad_writes x.bad_writes y.bad_writes i;
  unexplained = one_list_by unexplained_rank (λ r. IsUnexplained h r.place r.txn r.key r.saw × ⊤) a.unexplained b.unexplained x.unexplained y.unexplained i;
  edges = one_list_by edge_rank (λ e. IsEdge h e × ⊤) a.edges b.edges x.edges y.edges i;
  pivots = one_pivots h a.pivots b.pivots x.pivots y.pivots i;
  pass = one_answer {P = PassesSsi h} a.pass b.pass x.pass y.pass i;
  serializable = one_answer {P = IsSerializable h} a.serializable b.serializable x.serializable y.serializable i;
  verdict = one_verdict (IsCommitted h) (IsEdge h) a.verdict b.verdict x.verdict y.verdict i;
}

-- of a refusal one thing stands below
one_token_told : (text : List ℕ) (fault : TextFault) → IsOne (TellsToken text fault)
one_token_told text (Refused n reason) a b x y =
    let same = one_location text n x.0 x.1 x.2 y.0 y.1 y.2 x.3 y.3 in
    x.4 ∙ (λ i. place_line (same.0 i) (same.1 i) (same.2 i)) ∙ sym y.4
one_token_told text fault a b x y = x ∙ sym y

-- a form tells one thing of a refusal
one_refusal_told : (form : Form) (text : List ℕ) (fault : TextFault) → IsOne (TellsRefusal form text fault)
one_refusal_told form text fault a b x y = grind (arith, one_token_told)

-- and one of an account
one_account_told : (form : Form) (h : List Event) → IsWellFormed h → (a : Account) → IsOne (TellsAccount form h a)
one_account_told Explained h wf a bytes others x y = one_explained h wf a bytes others x y
one_account_told form h wf a bytes others x y = x ∙ sym y

-- two reports of a text, of whatever forms, tell of one fault, or of one account of one history
pub told_of_one : (limits : Limits) (form other : Form) (text bytes others : List ℕ) → IsReport limits form text bytes → IsReport limits other text others
    → ((fault : TextFault) × IsRefusal limits text fault × TellsRefusal form text fault bytes × TellsRefusal other text fault others)
    ⊎ ((h : List Event) × (a : Account) × IsAccepted limits text × StandsFor text h × TellsAccount form h a bytes × TellsAccount other h a others)
told_of_one limits form other text bytes others (inl p) (inl q) = inl (q.0, q.1, subst (λ fault. TellsRefusal form text fault bytes) (one_refusal limits text p.0 q.0 p.1 q.1) p.2, q.2)
told_of_one limits form other text bytes others (inl p) (inr q) = absurd (q.2 p.0 p.1)
told_of_one limits form other text bytes others (inr p) (inl q) = absurd (p.2 q.0 q.1)
told_of_one limits form other text bytes others (inr p) (inr q) =
    let same = spellings_injective p.0 q.0 (sym p.3 ∙ q.3) in
    let account = one_account p.0 p.1 q.1 p.4 (subst (λ h. IsAccount h q.1) (sym same) q.4) in
    inr (q.0, q.1, q.2, q.3, subst (λ a. TellsAccount form q.0 a bytes) account (subst (λ h. TellsAccount form h p.1 bytes) same p.5), q.5)

pub one_report_of : (limits : Limits) → AreWithin limits greatest → (form : Form) (text : List ℕ) → OneReport limits form text
one_report_of limits within form text bytes others x y = elim (told_of_one limits form form text bytes others x y) [
  | inl w ↦ one_refusal_told form text w.0 bytes others w.2 w.3
  | inr w ↦ one_account_told form w.0 (accepted_well_formed limits text w.0 within w.2 w.3) w.1 bytes others w.4 w.5
]

pub same_report : (form : Form) (text : List ℕ) → HasSameReport form text
same_report form text limits others bytes within accepted (inl p) = absurd (accepted p.0 p.1)
same_report form text limits others bytes within accepted (inr p) = inr (p.0, p.1, greater_accept text limits others within accepted, p.3, p.4, p.5)
