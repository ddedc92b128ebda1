-- How the run of a text ends, read off the lines of its report.
use Rattle.std.proofs.Common.{◌≡◌, ◌⊎◌, ◌↔◌, ◌&&◌, inl, inr, ℕ, Bool, true, false, List, [], ◌∷◌, ◌++◌, codes, refl, ap, sym, subst, ◌∙◌, ◌≢◌, filter, get_or, append-nil, arith, append_assoc, Contains}
use Rattle.std.specs.Prelude.{⊤}
use Rattle.std.specs.List.{concat}
use Rattle.std.proofs.lemmas.List.Elements.{All-contains, All-contains_itself, All-filter}
use Rattle.std.proofs.lemmas.Bool.{and_from, and_parts, false_from_ne_true}
use Rattle.sia_events.specs.Limits.{Limits}
use Rattle.sia_events.specs.declared.event.Event.{Event}
use Rattle.sia_events.specs.declared.fault.TextFault.{TextFault}
use Rattle.sia_events.specs.declared.fault.TextFault.TheVariants.{NoMemory, TextTooLong, Refused as RefusedToken}
use Rattle.sia_events.specs.Isolation.{IsBadRead, IsBadWrite, IsolationKept}
use Rattle.sia_events.specs.Refusals.{IsAccepted, IsRefusal}
use Rattle.sia_events.specs.Text.{StandsFor}
use Rattle.sia_events.proofs.Shared.Canonical.{spellings_injective}
use Rattle.sia_index.proofs.VersionRows.StableDeal.{filter_has}
use Rattle.sia_parts.specs.declared.finding.BadRead.{BadRead}
use Rattle.sia_parts.specs.declared.finding.BadWrite.{BadWrite}
use Rattle.sia_parts.specs.Findings.{ListsBadReads, ListsBadWrites}
use Rattle.sia_parts.specs.Entries.{bad_read_rank, bad_write_rank}
use Rattle.sia_graph.proofs.OnEvidence.Judging.{empty_list, none_listed}
use Rattle.si_audit.specs.Account.{Account, IsAccount}
use Rattle.si_audit.specs.declared.options.Form.{Form}
use Rattle.si_audit.specs.declared.options.Form.TheVariants.{Full, Brief, Explained}
use Rattle.si_audit.specs.declared.options.Level.{Level}
use Rattle.si_audit.specs.declared.options.Level.TheVariants.{Serializable, Ssi, Si}
use Rattle.si_audit.specs.declared.engine.Outcome.TheVariants.{Clean, Faulty}
use Rattle.si_audit.specs.Laws.{LinesLaw, TellsOutcomes, begins, lines_of}
use Rattle.si_audit.specs.Lines.{is_empty, refusal_line, isolation_line, report_text, serializable_line, ssi_line}
use Rattle.si_audit.specs.Outcomes.{IsOutcome, Meets}
use Rattle.si_audit.specs.Report.{TellsAccount, TellsRefusal}
use Rattle.sia_parts.proofs.Auditing.Members.{contains_first, contains_none, first_or_later}
use Rattle.si_audit.proofs.OfLaws.ReportLines.{IsLine, Leaves, isolation_is, lines_again, long_is, refusal_is, report_leaves, serializable_is, ssi_is, stays, what_is_left}
use Rattle.si_audit.proofs.OfLaws.FormsLeft.{account_leaves, refused_leaves, told_in, verdict_begins}

-- a line that a filter keeps is in what it leaves
same_line : (keep : List ℕ → Bool) (l : List ℕ) → keep l ≡ true → (bytes left : List ℕ) → Leaves keep bytes left → Contains (lines_of bytes) l ↔ Contains (lines_of left) l
same_line keep l stay bytes left leaves =
    let ls = lines_of bytes in
    let lines = (what_is_left keep bytes left leaves).1 in (
      λ c. subst (λ (ms : List (List ℕ)). Contains ms l) (sym lines) (filter_has keep ls l stay c),
      λ c. All-contains (Contains ls) (filter keep ls) l (All-filter keep (Contains ls) ls (All-contains_itself ls)) (subst (λ (ms : List (List ℕ)). Contains ms l) lines c),
    )

one_line : (l m : List ℕ) → IsLine l → Contains (lines_of l) m → l ≡ m
one_line l m is c =
    let lines : lines_of l ≡ l ∷ [] = ap lines_of (sym (append-nil l)) ∙ lines_again (l ∷ []) (is, tt) in
    elim (first_or_later l m [] (subst (λ (ls : List (List ℕ)). Contains ls m) lines c)) [ inl same ↦ same | inr later ↦ absurd (contains_none m later) ]

has_itself : (l : List ℕ) → IsLine l → Contains (lines_of l) l
has_itself l is = subst (λ (ls : List (List ℕ)). Contains ls l) (sym (ap lines_of (sym (append-nil l)) ∙ lines_again (l ∷ []) (is, tt))) (contains_first l [])

-- lines that tell a bit
module _ (line_of : Bool → List ℕ) (are : (b : Bool) → IsLine (line_of b)) (place : ℕ) (apart : get_or (line_of true) place 0 ≢ get_or (line_of false) place 0) where
  told_by : (b c : Bool) → line_of b ≡ line_of c → b ≡ c
  told_by b c e = grind arith

  line_told : (keep : List ℕ → Bool) → ((b : Bool) → keep (line_of b) ≡ true) → (bytes : List ℕ) (is : Bool) → Leaves keep bytes (line_of is) → (b : Bool) → Contains (lines_of bytes) (line_of b) ↔ (is ≡ b)
  line_told keep stay bytes is leaves b =
      let same = same_line keep (line_of b) (stay b) bytes (line_of is) leaves in (
        λ c. told_by is b (one_line (line_of is) (line_of b) (are is) (same.0 c)),
        λ e. same.1 (subst (λ x. Contains (lines_of (line_of is)) (line_of x)) e (has_itself (line_of is) (are is))),
      )

-- each of the three lines stands in the bytes exactly where its bit has this
record AreTold (bytes : List ℕ) (Kept Pass Serial : Bool → Type 0) : Type 0 where
  isolation : (b : Bool) → Contains (lines_of bytes) (isolation_line b) ↔ Kept b
  ssi : (b : Bool) → Contains (lines_of bytes) (ssi_line b) ↔ Pass b
  serializable : (b : Bool) → Contains (lines_of bytes) (serializable_line b) ↔ Serial b

via : {A B C : Type 0} → A ↔ B → B ↔ C → A ↔ C
via p q = (λ x. q.0 (p.0 x), λ x. p.1 (q.1 x))

-- where a filter that keeps them all leaves the bytes, and where it leaves something else
told_as : (keep : List ℕ → Bool) → ((b : Bool) → keep (isolation_line b) ≡ true) → ((b : Bool) → keep (ssi_line b) ≡ true) → ((b : Bool) → keep (serializable_line b) ≡ true)
    → (bytes left : List ℕ) (Kept Pass Serial : Bool → Type 0) → Leaves keep bytes left → AreTold left Kept Pass Serial → AreTold bytes Kept Pass Serial
told_as keep i s z bytes left Kept Pass Serial leaves told = record {
  isolation = λ b. via (same_line keep (isolation_line b) (i b) bytes left leaves) (told.isolation b);
  ssi = λ b. via (same_line keep (ssi_line b) (s b) bytes left leaves) (told.ssi b);
  serializable = λ b. via (same_line keep (serializable_line b) (z b) bytes left leaves) (told.serializable b);
}

-- of a brief report the lines of the three bits
abbrev bits : List (List ℕ)
bits = codes "isolation " ∷ codes "ssi " ∷ codes "serializable " ∷ []

three_left : (i s z : List ℕ) → ((((((((i ++ []) ++ []) ++ []) ++ []) ++ []) ++ s) ++ z) ++ []) ≡ i ++ (s ++ (z ++ []))
three_left i s z = simp (append_assoc, append-nil)

module _ (kept pass serial : Bool) where
  abbrev three : List (List ℕ)
  three = isolation_line kept ∷ ssi_line pass ∷ serializable_line serial ∷ []

  one_left : (keep : List ℕ → Bool) (l : List ℕ) → concat (filter keep three) ≡ l ++ [] → Leaves keep (concat three) l
  one_left keep l is = record { lines = three; are = (isolation_is kept, (ssi_is pass, (serializable_is serial, tt))); whole = refl; rest = sym (is ∙ append-nil l) }

  three_told : AreTold (concat three) (λ b. kept ≡ b) (λ b. pass ≡ b) (λ b. serial ≡ b)
  three_told = grind (arith, line_told, isolation_is, one_left, ssi_is, serializable_is)

abbrev IsToldOf : Account → List ℕ → Type 0
IsToldOf a bytes = AreTold bytes (λ b. (is_empty a.bad_reads && is_empty a.bad_writes) ≡ b) (λ b. a.pass ≡ b) (λ b. a.serializable ≡ b)

brief_told : (a : Account) → IsToldOf a (report_text Brief a)
brief_told a =
    let left = report_leaves (begins bits) false true false false false false false true true false (record {
      events = λ n c x o. refl;
      isolation = λ b. refl;
      bad_reads = λ x. refl;
      bad_writes = λ x. refl;
      unexplained = λ x. refl;
      edges = λ x. refl;
      pivots = λ x. refl;
      ssi = λ b. refl;
      serializable = λ b. refl;
      verdict = verdict_begins (λ l. begins bits l ≡ false) (λ w. refl) (λ w. refl);
    }) Brief a in
    told_as (begins bits) (λ b. refl) (λ b. refl) (λ b. refl) _ _ _ _ _ (subst (Leaves (begins bits) (report_text Brief a)) (three_left (isolation_line (is_empty a.bad_reads && is_empty a.bad_writes)) (ssi_line a.pass) (serializable_line a.serializable)) left) (three_told _ a.pass a.serializable)

-- a refusal line is none of them
abbrev NoneTold : List ℕ → Type 0
NoneTold bytes = AreTold bytes (λ b. ⊥) (λ b. ⊥) (λ b. ⊥)

none_told : (l : List ℕ) → IsLine l → get_or l 0 0 ≡ 114 → NoneTold l
none_told l is r = record {
  isolation = λ b. (λ c. let e = ap (λ (x : List ℕ). get_or x 0 0) (one_line l (isolation_line b) is c) in omega arith, λ no. absurd no);
  ssi = λ b. (λ c. let e = ap (λ (x : List ℕ). get_or x 0 0) (one_line l (ssi_line b) is c) in omega arith, λ no. absurd no);
  serializable = λ b. (λ c. let e = ap (λ (x : List ℕ). get_or x 0 0) (one_line l (serializable_line b) is c) in omega arith, λ no. absurd no);
}

refusal_told : (fault : TextFault) (limits : Limits) (text : List ℕ) → IsRefusal limits text fault → NoneTold (refusal_line fault)
refusal_told NoMemory limits text refusal = absurd refusal
refusal_told TextTooLong limits text refusal = none_told _ long_is refl
refusal_told (RefusedToken token r) limits text refusal = none_told _ (refusal_is token r) refl

-- what a form leaves of its report tells as much as the report
told_of : (form : Form) (bytes left : List ℕ) (Kept Pass Serial : Bool → Type 0) → Leaves (stays (told_in form)) bytes left → AreTold left Kept Pass Serial → AreTold bytes Kept Pass Serial
told_of Full = told_as (stays (told_in Full)) (λ b. refl) (λ b. refl) (λ b. refl)
told_of Brief = told_as (stays (told_in Brief)) (λ b. refl) (λ b. refl) (λ b. refl)
told_of Explained = told_as (stays (told_in Explained)) (λ b. refl) (λ b. refl) (λ b. refl)

turned : {A B : Type 0} → A ↔ B → B ↔ A
turned p = (p.1, p.0)

none_in : {A : Type 0} (xs : List A) → is_empty xs ≡ true → xs ≡ []
none_in xs e = grind arith

-- isolation was kept exactly where there is no bad read and no bad write
pub kept_told : (h : List Event) (reads : List BadRead) (writes : List BadWrite) → ListsBadReads h (λ _. ⊤) reads → ListsBadWrites h (λ _. ⊤) writes → ((is_empty reads && is_empty writes) ≡ true) ↔ IsolationKept h
kept_told h reads writes some others = (
  λ e.
      let parts = and_parts (is_empty reads) (is_empty writes) e in
      record {
        reads = λ p t k saw due bad. none_listed bad_read_rank (λ b. IsBadRead h b.place b.txn b.key b.saw b.due × ⊤) reads some (none_in reads parts.0) (record { place = p; txn = t; key = k; saw = saw; due = due }) (bad, tt);
        writes = λ k first second bad. none_listed bad_write_rank (λ b. IsBadWrite h b.key b.first b.second × ⊤) writes others (none_in writes parts.1) (record { key = k; first = first; second = second }) (bad, tt);
      },
  λ kept. and_from _ _
      (ap is_empty (empty_list bad_read_rank (λ b. IsBadRead h b.place b.txn b.key b.saw b.due × ⊤) reads some (λ b bad. kept.reads b.place b.txn b.key b.saw b.due bad.0)))
      (ap is_empty (empty_list bad_write_rank (λ b. IsBadWrite h b.key b.first b.second × ⊤) writes others (λ b bad. kept.writes b.key b.first b.second bad.0))),
)

-- a bit that tells P is false where P doesn't hold
is_false : (P : Type 0) (b : Bool) → (b ≡ true) ↔ P → (¬ P) ↔ (b ≡ false)
is_false P b e = (λ no. false_from_ne_true b (λ is. no (e.0 is)), λ is p. let both : true ≡ false = sym (e.1 p) ∙ is in cc)

-- the same of two
one_false : (P Q : Type 0) (b c : Bool) → (b ≡ true) ↔ P → (c ≡ true) ↔ Q → (¬ (P × Q)) ↔ ((b ≡ false) ⊎ (c ≡ false))
one_false P Q b c p q = grind (arith, is_false)

module _ (limits : Limits) (text : List ℕ) (h : List Event) (accepted : IsAccepted limits text) (stands : StandsFor text h) where
  clean_where : (level : Level) → IsOutcome limits level text Clean ↔ Meets level h
  clean_where level = (λ (g, a, s, m). subst (Meets level) (spellings_injective g h (sym s ∙ stands)) m, λ m. (h, accepted, stands, m))

  faulty_where : (level : Level) → IsOutcome limits level text Faulty ↔ (¬ Meets level h)
  faulty_where level = (λ (g, a, s, m). subst (λ f. ¬ Meets level f) (spellings_injective g h (sym s ∙ stands)) m, λ m. (h, accepted, stands, m))

  told_accepted : (a : Account) (bytes : List ℕ) → IsAccount h a → IsToldOf a bytes → begins (codes "refused: " ∷ []) bytes ≡ false → TellsOutcomes limits text bytes
  told_accepted a bytes is told other =
      let kept = kept_told h a.bad_reads a.bad_writes is.bad_reads is.bad_writes in record {
        kept = via (clean_where Si) (via (turned kept) (turned (told.isolation true)));
        broken = via (faulty_where Si) (via (is_false (Meets Si h) _ kept) (turned (told.isolation false)));
        pass = via (clean_where Ssi) (via (turned is.pass) (turned (told.ssi true)));
        fail = via (faulty_where Ssi) (via (is_false (Meets Ssi h) a.pass is.pass) (turned (told.ssi false)));
        serializable = via (clean_where Serializable) (
          λ m. ((told.isolation true).1 (kept.1 m.0), (told.serializable true).1 (is.serializable.1 m.1)),
          λ l. (kept.0 ((told.isolation true).0 l.0), is.serializable.0 ((told.serializable true).0 l.1)),
        );
        not_serializable = via (faulty_where Serializable) (via (one_false (Meets Si h) _ _ a.serializable kept is.serializable) (
          λ e. elim e [ inl x ↦ inl ((told.isolation false).1 x) | inr x ↦ inr ((told.serializable false).1 x) ],
          λ e. elim e [ inl x ↦ inl ((told.isolation false).0 x) | inr x ↦ inr ((told.serializable false).0 x) ],
        ));
        refused = λ level. (λ refusal. absurd (accepted refusal.0 refusal.1), λ e. let both : true ≡ false = sym e ∙ other in absurd (cc));
      }

module _ (limits : Limits) (text : List ℕ) (fault : TextFault) (refusal : IsRefusal limits text fault) where
  told_refused : (bytes : List ℕ) → NoneTold bytes → begins (codes "refused: " ∷ []) bytes ≡ true → TellsOutcomes limits text bytes
  told_refused bytes told same = record {
    kept = (λ x. absurd (x.1 fault refusal), λ l. absurd ((told.isolation true).0 l));
    broken = (λ x. absurd (x.1 fault refusal), λ l. absurd ((told.isolation false).0 l));
    pass = (λ x. absurd (x.1 fault refusal), λ l. absurd ((told.ssi true).0 l));
    fail = (λ x. absurd (x.1 fault refusal), λ l. absurd ((told.ssi false).0 l));
    serializable = (λ x. absurd (x.1 fault refusal), λ l. absurd ((told.isolation true).0 l.0));
    not_serializable = (λ x. absurd (x.1 fault refusal), λ l. elim l [ inl x ↦ absurd ((told.isolation false).0 x) | inr x ↦ absurd ((told.serializable false).0 x) ]);
    refused = λ level. (λ x. same, λ e. (fault, refusal));
  }

-- a refusal line says so, whatever stands below it
refused_line_first : (limits : Limits) (form : Form) (text bytes : List ℕ) (fault : TextFault) → IsRefusal limits text fault → TellsRefusal form text fault bytes → begins (codes "refused: " ∷ []) bytes ≡ true
refused_line_first limits form text bytes fault refusal is = grind arith

events_line_first : (form : Form) (h : List Event) (a : Account) (bytes : List ℕ) → TellsAccount form h a bytes → begins (codes "refused: " ∷ []) bytes ≡ false
events_line_first form h a bytes is = grind arith

pub lines_tell : (limits : Limits) (form : Form) (text : List ℕ) → LinesLaw limits form text
lines_tell limits form text bytes (inl p) = told_refused limits text p.0 p.1 bytes (told_of form bytes _ _ _ _ (refused_leaves form text p.0 bytes p.2) (refusal_told p.0 limits text p.1)) (refused_line_first limits form text bytes p.0 p.1 p.2)
lines_tell limits form text bytes (inr p) = told_accepted limits text p.0 p.2 p.3 p.1 bytes p.4 (told_of form bytes _ _ _ _ (account_leaves form p.0 p.1 bytes p.5) (brief_told p.1)) (events_line_first form p.0 p.1 bytes p.5)
