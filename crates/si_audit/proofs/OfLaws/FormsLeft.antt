-- The brief report is what is left of the others.
use Rattle.std.proofs.Common.{◌≡◌, ◌&&◌, ◌+◌, inl, inr, ℕ, Bool, true, false, cond, List, [], ◌∷◌, ◌++◌, flat_map, take, codes, refl, ap, sym, subst, ◌∙◌, append-nil, arith}
use Rattle.std.proofs.lemmas.Bool.{and_from, and_parts, not_from_false}
use Rattle.std.proofs.lemmas.Bool.Decides.{nat_tests}
use Rattle.sia_events.specs.Limits.{Limits}
use Rattle.sia_events.specs.declared.event.Event.{Event}
use Rattle.sia_events.specs.declared.fault.Reason.{Reason}
use Rattle.sia_events.specs.declared.fault.TextFault.{TextFault}
use Rattle.sia_events.specs.declared.fault.TextFault.TheVariants.{NoMemory, TextTooLong, Refused}
use Rattle.sia_events.specs.Locations.{shown, shown_byte}
use Rattle.sia_events.specs.Text.{numeral}
use Rattle.sia_parts.specs.declared.finding.Kind.TheVariants.{Rw}
use Rattle.sia_graph.specs.declared.ssi.Dangerous.{Dangerous}
use Rattle.sia_graph.specs.declared.judgement.Verdict.{Verdict}
use Rattle.sia_graph.specs.declared.judgement.Verdict.TheVariants.{Cycle}
use Rattle.si_audit.specs.Account.{Account}
use Rattle.si_audit.specs.declared.options.Form.{Form}
use Rattle.si_audit.specs.declared.options.Form.TheVariants.{Full, Brief, Explained}
use Rattle.si_audit.specs.Explained.{IsExplained, TellsAll, TellsDanger, TellsVerdict, WithReasons, dangerous_edges, dangerous_line, edges_round}
use Rattle.si_audit.specs.Laws.{FormsLaw}
use Rattle.si_audit.specs.Lines.{bad_read_line, bad_write_line, edge_word, events_line, is_empty, isolation_line, refusal_line, report_text, unexplained_line, verdict_line}
use Rattle.si_audit.specs.Reasons.{TellsBadRead, TellsBadWrite, TellsStep, TellsUnexplained}
use Rattle.si_audit.specs.RefusedPlaces.{TellsToken, place_line}
use Rattle.si_audit.specs.Report.{IsReport, TellsAccount, TellsRefusal}
use Rattle.si_audit.specs.SnapshotLines.{TellsSnapshot}
use Rattle.si_audit.proofs.OfLaws.CountsTold.{counts_go}
use Rattle.si_audit.proofs.OfLaws.OneReport.{told_of_one}
use Rattle.si_audit.proofs.OfLaws.ReportLines.{IsLine, IsUnbroken, Leaves, bad_read_goes, bad_read_is, bad_write_goes, bad_write_is, class_goes, edge_unbroken, events_is, glued, isolation_is, keep, leaves_both, leaves_line, leaves_nothing, long_is, numeral_unbroken, refusal_is, report_leaves, serializable_is, snapshot_goes, ssi_is, stays, step_goes, told_in_explained, unbroken_both, unexplained_goes, unexplained_is, verdict_is, what_is_left, words_line}

-- what is told of all, where it is known what is left of what is told of each
module _ (keep : List ℕ → Bool) where
  all_left : {A : Type 0} (Tells : A → List ℕ → Type 0) (left : A → List ℕ) → ((x : A) (bytes : List ℕ) → Tells x bytes → Leaves keep bytes (left x)) → (xs : List A) (bytes : List ℕ) → TellsAll Tells xs bytes → Leaves keep bytes (flat_map left xs)
  all_left Tells left each [] bytes is = subst (λ (b : List ℕ). Leaves keep b []) (sym is) (leaves_nothing keep)
  all_left Tells left each (x ∷ xs) bytes (one, rest, told, more, is) =
      subst (λ (b : List ℕ). Leaves keep b (left x ++ flat_map left xs)) (sym is) (leaves_both keep (each x one told) (all_left Tells left each xs rest more))

  all_go : {A : Type 0} (Tells : A → List ℕ → Type 0) → ((x : A) (bytes : List ℕ) → Tells x bytes → Leaves keep bytes []) → (xs : List A) (bytes : List ℕ) → TellsAll Tells xs bytes → Leaves keep bytes []
  all_go Tells each [] bytes is = subst (λ (b : List ℕ). Leaves keep b []) (sym is) (leaves_nothing keep)
  all_go Tells each (x ∷ xs) bytes (one, rest, told, more, is) = subst (λ (b : List ℕ). Leaves keep b []) (sym is) (leaves_both keep (each x one told) (all_go Tells each xs rest more))

  -- a line, and reasons that go
  with_left : {A : Type 0} (line_of : A → List ℕ) (Tells : A → List ℕ → Type 0) (x : A) (stay : Bool) → IsLine (line_of x) → keep (line_of x) ≡ stay → ((bytes : List ℕ) → Tells x bytes → Leaves keep bytes [])
      → (bytes : List ℕ) → WithReasons line_of Tells x bytes → Leaves keep bytes (cond stay (line_of x) [])
  with_left line_of Tells x stay line is_kept goes bytes (reasons, told, is) =
      let both : Leaves keep (line_of x ++ reasons) (cond stay (line_of x) [] ++ []) = leaves_both keep (leaves_line keep (line_of x) stay line is_kept) (goes reasons told) in
      subst (λ (b : List ℕ). Leaves keep b (cond stay (line_of x) [])) (sym is) (subst (Leaves keep (line_of x ++ reasons)) (append-nil (cond stay (line_of x) [])) both)

-- how lines begin that stand in a report of this form and not in a brief one
abbrev pub told_in : Form → List (List ℕ)
told_in Explained = told_in_explained
told_in form = codes "edge " ∷ codes "pivot " ∷ []

-- how the line of a verdict begins
pub verdict_begins : (P : List ℕ → Type 0) → ((w : List ℕ) → P (111 ∷ w)) → ((w : List ℕ) → P (99 ∷ w)) → (v : Verdict) → P (verdict_line v)
verdict_begins P order cycle v = grind arith

dangerous_is : (d : Dangerous) → IsLine (dangerous_line d)
dangerous_is d =
    words_line (codes "dangerous" ∷ numeral d.first ∷ edge_word Rw d.first_key ∷ numeral d.pivot ∷ edge_word Rw d.last_key ∷ numeral d.last ∷ [])
    (refl, (numeral_unbroken d.first, (edge_unbroken Rw d.first_key, (numeral_unbroken d.pivot, (edge_unbroken Rw d.last_key, (numeral_unbroken d.last, tt))))))

-- the lists that a brief report doesn't have, and nothing where snapshots and the danger stood
same_lines : (x s z v : List ℕ) → ((((x ++ []) ++ s) ++ []) ++ z) ++ v ≡ ((((x ++ []) ++ []) ++ s) ++ z) ++ v
same_lines x s z v = ap (λ (y : List ℕ). (y ++ z) ++ v) (append-nil ((x ++ []) ++ s)) ∙ ap (λ (y : List ℕ). ((y ++ s) ++ z) ++ v) (sym (append-nil (x ++ [])))

module _ (h : List Event) where
  verdict_goes : (v : Verdict) (bytes : List ℕ) → TellsVerdict h v bytes → Leaves keep bytes []
  verdict_goes (Cycle (s ∷ steps)) bytes told =
      let edges = edges_round (s ∷ steps) s.txn in
      subst (λ (b : List ℕ). Leaves keep b []) (sym told.4) (leaves_both keep (all_go keep (TellsStep h) (step_goes h) edges told.0 told.2) (class_goes h edges told.1 told.3))
  verdict_goes v bytes is = subst (λ (b : List ℕ). Leaves keep b []) (sym is) (leaves_nothing keep)

  danger_goes : (bytes : List ℕ) → TellsDanger h bytes → Leaves keep bytes []
  danger_goes bytes (inl x) = subst (λ (b : List ℕ). Leaves keep b []) (sym x.1) (leaves_nothing keep)
  danger_goes bytes (inr x) =
      with_left keep dangerous_line (λ d. TellsAll (TellsStep h) (dangerous_edges d)) x.1 false (dangerous_is x.1) refl
      (λ b told. all_go keep (TellsStep h) (step_goes h) (dangerous_edges x.1) b told) bytes x.3

  explained_leaves : (a : Account) (bytes : List ℕ) → IsExplained h a bytes → Leaves keep bytes (report_text Brief a)
  explained_leaves a bytes (counts, reads, writes, unexplained, snapshots, danger, verdict, told_counts, told_reads, told_writes, told_unexplained, told_snapshots, told_danger, told_verdict, is) =
      let head = leaves_both keep (leaves_line keep _ true (events_is a.events a.committed a.aborted a.unfinished) refl) (leaves_line keep _ true (isolation_is (is_empty a.bad_reads && is_empty a.bad_writes)) refl) in
      let front = events_line a.events a.committed a.aborted a.unfinished ++ isolation_line (is_empty a.bad_reads && is_empty a.bad_writes) in
      let counted : Leaves keep (front ++ counts) front = subst (Leaves keep (front ++ counts)) (append-nil front) (leaves_both keep head (counts_go h a.bad_reads a.bad_writes counts told_counts)) in
      let some = all_left keep (WithReasons bad_read_line (TellsBadRead h)) bad_read_line (λ x. with_left keep bad_read_line (TellsBadRead h) x true (bad_read_is x) refl (bad_read_goes h x)) a.bad_reads reads told_reads in
      let more = all_left keep (WithReasons bad_write_line (TellsBadWrite h)) bad_write_line (λ x. with_left keep bad_write_line (TellsBadWrite h) x true (bad_write_is x) refl (bad_write_goes h x)) a.bad_writes writes told_writes in
      let rest = all_left keep (WithReasons unexplained_line (TellsUnexplained h)) unexplained_line (λ x. with_left keep unexplained_line (TellsUnexplained h) x true (unexplained_is x) refl (unexplained_goes h x)) a.unexplained unexplained told_unexplained in
      let told = all_go keep (TellsSnapshot h) (snapshot_goes h) told_snapshots.0 snapshots told_snapshots.2 in
      let found = leaves_both keep (leaves_both keep (leaves_both keep (leaves_both keep counted some) more) rest) told in
      let tested = leaves_both keep (leaves_both keep found (leaves_line keep _ true (ssi_is a.pass) refl)) (danger_goes danger told_danger) in
      let settled = with_left keep verdict_line (TellsVerdict h) a.verdict true (verdict_is a.verdict) (verdict_begins (λ l. keep l ≡ true) (λ w. refl) (λ w. refl) a.verdict) (verdict_goes a.verdict) verdict told_verdict in
      let all = leaves_both keep (leaves_both keep tested (leaves_line keep _ true (serializable_is a.serializable) refl)) settled in
      grind (arith, same_lines)

-- what is shown of a byte
byte_unbroken : (c : ℕ) → IsUnbroken (shown_byte c)
byte_unbroken c = grind (arith, and_parts, nat_tests, and_from, not_from_false)

shown_unbroken : (bs : List ℕ) → IsUnbroken (flat_map shown_byte bs)
shown_unbroken [] = refl
shown_unbroken (c ∷ bs) = unbroken_both (shown_byte c) (flat_map shown_byte bs) (byte_unbroken c) (shown_unbroken bs)

place_goes : (text : List ℕ) (fault : TextFault) (bytes : List ℕ) → TellsToken text fault bytes → Leaves keep bytes []
place_goes text (Refused n why) bytes (row, column, token, at, is) =
    subst (λ (b : List ℕ). Leaves keep b []) (sym is) (leaves_line keep (place_line row column token) false (
      codes "  line " ++ numeral row ++ codes ", column " ++ numeral column ++ codes ": " ++ shown token,
      glued (codes "  line ") (numeral row ∷ codes ", column " ∷ numeral column ∷ codes ": " ∷ shown token ∷ []) refl (numeral_unbroken row, (refl, (numeral_unbroken column, (refl, (shown_unbroken (take 60 token), tt))))),
      refl,
    ) refl)
place_goes text fault bytes is = subst (λ (b : List ℕ). Leaves keep b []) (sym is) (leaves_nothing keep)

text_leaves : (form : Form) (a : Account) → Leaves (stays (told_in Full)) (report_text form a) (report_text Brief a)
text_leaves form a = report_leaves (stays (told_in Full)) true true true true true false false true true true (record {
  events = λ n c x o. refl;
  isolation = λ b. refl;
  bad_reads = λ x. refl;
  bad_writes = λ x. refl;
  unexplained = λ x. refl;
  edges = λ x. refl;
  pivots = λ x. refl;
  ssi = λ b. refl;
  serializable = λ b. refl;
  verdict = verdict_begins (λ l. stays (told_in Full) l ≡ true) (λ w. refl) (λ w. refl);
}) form a

-- of a report of each form that of the brief form is left
pub account_leaves : (form : Form) (h : List Event) (a : Account) (bytes : List ℕ) → TellsAccount form h a bytes → Leaves (stays (told_in form)) bytes (report_text Brief a)
account_leaves Explained h a bytes is = explained_leaves h a bytes is
account_leaves form h a bytes is = subst (λ (b : List ℕ). Leaves (stays (told_in form)) b (report_text Brief a)) (sym is) (text_leaves form a)

-- the refusal line stays in each form
refusal_leaves : (words : List (List ℕ)) → stays words (refusal_line TextTooLong) ≡ true → ((token : ℕ) (r : Reason) → stays words (refusal_line (Refused token r)) ≡ true) → (fault : TextFault) → Leaves (stays words) (refusal_line fault) (refusal_line fault)
refusal_leaves words long one NoMemory = leaves_nothing (stays words)
refusal_leaves words long one TextTooLong = leaves_line (stays words) (refusal_line TextTooLong) true long_is long
refusal_leaves words long one (Refused token r) = leaves_line (stays words) (refusal_line (Refused token r)) true (refusal_is token r) (one token r)

pub refused_leaves : (form : Form) (text : List ℕ) (fault : TextFault) (bytes : List ℕ) → TellsRefusal form text fault bytes → Leaves (stays (told_in form)) bytes (refusal_line fault)
refused_leaves Explained text fault bytes (place, token, is) = grind (arith, leaves_both, refusal_leaves, place_goes, append-nil)
refused_leaves form text fault bytes is = subst (λ (b : List ℕ). Leaves (stays (told_in form)) b (refusal_line fault)) (sym is) (refusal_leaves (told_in form) refl (λ token r. refl) fault)

brief_left : (limits : Limits) (form : Form) (text bytes brief : List ℕ) → IsReport limits form text bytes → IsReport limits Brief text brief → Leaves (stays (told_in form)) bytes brief
brief_left limits form text bytes brief x y = elim (told_of_one limits form Brief text bytes brief x y) [
  | inl w ↦ subst (Leaves (stays (told_in form)) bytes) (sym w.3) (refused_leaves form text w.0 bytes w.2)
  | inr w ↦ subst (Leaves (stays (told_in form)) bytes) (sym w.5) (account_leaves form w.0 w.1 bytes w.4)
]

pub forms_hold : (limits : Limits) (text : List ℕ) → FormsLaw limits text
forms_hold limits text = record {
  full = λ full brief x y. (what_is_left (stays (told_in Full)) full brief (brief_left limits Full text full brief x y)).0;
  explained = λ explained brief x y. (what_is_left (stays (told_in Explained)) explained brief (brief_left limits Explained text explained brief x y)).0;
}
