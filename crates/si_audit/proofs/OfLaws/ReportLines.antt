-- The lines of a report hold no LF but at their ends, those of its reasons neither, and what a filter leaves of them.
use Rattle.std.proofs.Common.{◌≡◌, ◌==◌, ℕ, Bool, true, false, not, cond, ◌&&◌, List, [], ◌∷◌, ◌++◌, flat_map, filter, refl, ap, sym, ◌∙◌, append_assoc, append-nil, map, codes, arith, inl, inr, Option, subst}
use Rattle.std.specs.List.{AllByRecursion, concat, join_with_byte}
use Rattle.std.proofs.lemmas.Bool.{and_from, and_parts, not_from_false, or_parts}
use Rattle.std.proofs.lemmas.List.Elements.{filter-append}
use Rattle.std.proofs.lemmas.List.Folds.{concat-append}
use Rattle.si_audit.specs.Laws.{before_lines, lines_of, onto_line, begins}
use Rattle.std.proofs.lemmas.Bool.Decides.{nat_tests}
use Rattle.sia_events.specs.Text.{numeral}
use Rattle.sia_events.specs.declared.fault.Reason.{Reason}
use Rattle.sia_events.specs.declared.fault.TextFault.TheVariants.{TextTooLong, Refused}
use Rattle.sia_events.proofs.Shared.Numerals.{AreDigits, numeral-digits}
use Rattle.sia_parts.specs.declared.finding.BadRead.{BadRead}
use Rattle.sia_parts.specs.declared.finding.BadWrite.{BadWrite}
use Rattle.sia_parts.specs.declared.finding.Unexplained.{Unexplained}
use Rattle.sia_parts.specs.declared.finding.Edge.{Edge}
use Rattle.sia_parts.specs.declared.finding.Kind.{Kind}
use Rattle.sia_parts.specs.declared.finding.Kind.TheVariants.{Ww, Wr, Rw}
use Rattle.sia_graph.specs.declared.pivot.Pivot.{Pivot}
use Rattle.sia_graph.specs.declared.cycle.Step.{Step}
use Rattle.sia_graph.specs.declared.judgement.Verdict.{Verdict}
use Rattle.sia_graph.specs.declared.judgement.Verdict.TheVariants.{Order, Cycle}
use Rattle.si_audit.specs.Account.{Account}
use Rattle.si_audit.specs.declared.options.Form.{Form}
use Rattle.si_audit.specs.Lines.{line, reason_words, refusal_line, kind_word, is_empty, bad_read_line, bad_write_line, unexplained_line, edge_line, first_words, pivot_line, edge_word, step_words, home_word, verdict_line, events_line, isolation_line, ssi_line, serializable_line, told, report_text}
use Rattle.sia_events.specs.declared.event.Anomaly.{Anomaly}
use Rattle.sia_events.specs.declared.event.Event.{Event}
use Rattle.sia_events.specs.Places.{at_place}
use Rattle.sia_events.specs.Telling.{spell_about, told_about}
use Rattle.sia_events.proofs.Shared.Canonical.{HasNoSeparator, IsToken, spell_token}
use Rattle.sia_parts.specs.Telling.{TellsUnless, TellsVersion, event_words, start_words}
use Rattle.si_audit.specs.Reasons.{TellsBadRead, TellsBadWrite, TellsClass, TellsConflict, TellsEvents, TellsSight, TellsStep, TellsUnexplained, allowed_words, anomaly_words, forbidden_words, reason}
use Rattle.si_audit.specs.SnapshotLines.{TellsExcluded, TellsNone, TellsSnapshot, bare_words, bound_words, spell_bare}

-- no byte is LF
abbrev pub is_unbroken : List ℕ → Bool
is_unbroken [] = true
is_unbroken (c ∷ cs) = not (c == 10) && is_unbroken cs

pub unbroken_both : (xs ys : List ℕ) → is_unbroken xs ≡ true → is_unbroken ys ≡ true → is_unbroken (xs ++ ys) ≡ true
unbroken_both [] ys p q = q
unbroken_both (x ∷ xs) ys p q = let parts = and_parts (not (x == 10)) (is_unbroken xs) p in and_from _ _ parts.0 (unbroken_both xs ys parts.1 q)

-- one line, with its LF
abbrev pub IsLine : List ℕ → Type 0
IsLine l = (w : List ℕ) × (is_unbroken w ≡ true) × (l ≡ w ++ 10 ∷ [])

abbrev pub AreLines : List (List ℕ) → Type 0
AreLines ls = AllByRecursion IsLine ls

pub lines_both : (ls ms : List (List ℕ)) → AreLines ls → AreLines ms → AreLines (ls ++ ms)
lines_both [] ms p q = q
lines_both (l ∷ ls) ms p q = (p.0, lines_both ls ms p.1 q)

before_other : (c : ℕ) (ls : List (List ℕ)) → not (c == 10) ≡ true → before_lines c ls ≡ onto_line c ls
before_other c ls other = grind arith

-- the first line, and those behind it
first_line : (w ys : List ℕ) → is_unbroken w ≡ true → lines_of (w ++ 10 ∷ ys) ≡ (w ++ 10 ∷ []) ∷ lines_of ys
first_line [] ys p = refl
first_line (c ∷ w) ys p = grind (arith, and_parts, before_other, first_line w ys)

pub lines_again : (ls : List (List ℕ)) → AreLines ls → lines_of (concat ls) ≡ ls
lines_again [] are = refl
lines_again (l ∷ ls) are = grind (arith, append_assoc, first_line, lines_again ls)

-- lines of which the filter leaves these bytes
pub record Leaves (keep : List ℕ → Bool) (bytes left : List ℕ) : Type 0 where
  pub lines : List (List ℕ)
  pub are : AreLines lines
  pub whole : bytes ≡ concat lines
  pub rest : left ≡ concat (filter keep lines)

module _ (keep : List ℕ → Bool) where
  pub leaves_nothing : Leaves keep [] []
  leaves_nothing = record { lines = []; are = tt; whole = refl; rest = refl }

  pub leaves_both : {a b c d : List ℕ} → Leaves keep a b → Leaves keep c d → Leaves keep (a ++ c) (b ++ d)
  leaves_both x y = grind (arith, lines_both, concat-append, filter-append)

  -- a line that stays, or goes
  pub leaves_line : (l : List ℕ) (stays : Bool) → IsLine l → keep l ≡ stays → Leaves keep l (cond stays l [])
  leaves_line l stays is e = record { lines = l ∷ []; are = (is, tt); whole = sym (append-nil l); rest = by_case stays ∙ ap (λ b. concat (cond b (l ∷ []) [])) (sym e) }
    where
      by_case : (b : Bool) → cond b l [] ≡ concat (cond b (l ∷ []) [])
      by_case true = sym (append-nil l)
      by_case false = refl

  -- the same of each thing's line
  pub leaves_each : {A : Type 0} (line_of : A → List ℕ) (stay : Bool) → ((x : A) → IsLine (line_of x)) → ((x : A) → keep (line_of x) ≡ stay) → (xs : List A) → Leaves keep (flat_map line_of xs) (cond stay (flat_map line_of xs) [])
  leaves_each line_of true are e (x ∷ xs) = leaves_both (leaves_line (line_of x) true (are x) (e x)) (leaves_each line_of true are e xs)
  leaves_each line_of false are e (x ∷ xs) = leaves_both (leaves_line (line_of x) false (are x) (e x)) (leaves_each line_of false are e xs)
  leaves_each line_of stay are e xs = leaves_nothing

  kept_lines : (ls : List (List ℕ)) → AreLines ls → AreLines (filter keep ls)
  kept_lines [] are = tt
  kept_lines (l ∷ ls) are = by_case (keep l) are.0 (kept_lines ls are.1)
    where
      by_case : (b : Bool) → IsLine l → AreLines (filter keep ls) → AreLines (cond b (l ∷ filter keep ls) (filter keep ls))
      by_case true first rest = (first, rest)
      by_case false first rest = rest

  -- what is left is what the filter leaves of the lines of the bytes, and its lines are these
  pub what_is_left : (bytes left : List ℕ) → Leaves keep bytes left → (left ≡ concat (filter keep (lines_of bytes))) × (lines_of left ≡ filter keep (lines_of bytes))
  what_is_left bytes left l = grind (arith, lines_again, kept_lines)

-- a line that begins with none of these
abbrev pub stays : List (List ℕ) → List ℕ → Bool
stays words l = not (begins words l)

abbrev pub IsUnbroken : List ℕ → Type 0
IsUnbroken w = is_unbroken w ≡ true

abbrev pub AreUnbroken : List (List ℕ) → Type 0
AreUnbroken ws = AllByRecursion IsUnbroken ws

digits_unbroken : (bs : List ℕ) → AreDigits bs → IsUnbroken bs
digits_unbroken [] d = refl
digits_unbroken (c ∷ bs) d = grind (arith, nat_tests, and_from, not_from_false, digits_unbroken bs)

pub numeral_unbroken : (n : ℕ) → IsUnbroken (numeral n)
numeral_unbroken n = digits_unbroken (numeral n) (numeral-digits n)

numerals_unbroken : (ns : List ℕ) → AreUnbroken (map numeral ns)
numerals_unbroken [] = tt
numerals_unbroken (n ∷ ns) = (numeral_unbroken n, numerals_unbroken ns)

pub all_both : (vs ws : List (List ℕ)) → AreUnbroken vs → AreUnbroken ws → AreUnbroken (vs ++ ws)
all_both [] ws p q = q
all_both (v ∷ vs) ws p q = (p.0, all_both vs ws p.1 q)

-- pieces in a row, as they are written
abbrev pub glue : List ℕ → List (List ℕ) → List ℕ
glue x [] = x
glue x (y ∷ ys) = glue (x ++ y) ys

pub glued : (x : List ℕ) (ys : List (List ℕ)) → IsUnbroken x → AreUnbroken ys → IsUnbroken (glue x ys)
glued x [] p q = p
glued x (y ∷ ys) p q = glued (x ++ y) ys (unbroken_both x y p q.0) q.1

joined : (ws : List (List ℕ)) → AreUnbroken ws → IsUnbroken (join_with_byte 32 ws)
joined [] p = refl
joined (w ∷ []) p = p.0
joined (w ∷ v ∷ ws) p = unbroken_both w (32 ∷ join_with_byte 32 (v ∷ ws)) p.0 (joined (v ∷ ws) p.1)

pub words_line : (ws : List (List ℕ)) → AreUnbroken ws → IsLine (line ws)
words_line ws p = (join_with_byte 32 ws, joined ws p, refl)

one_of : (b : Bool) (v w : List ℕ) → IsUnbroken v → IsUnbroken w → IsUnbroken (cond b v w)
one_of b v w p q = grind arith

kind_unbroken : (kind : Kind) → IsUnbroken (kind_word kind)
kind_unbroken kind = grind arith

pub edge_unbroken : (kind : Kind) (key : ℕ) → IsUnbroken (edge_word kind key)
edge_unbroken kind key = glued (codes ">") (kind_word kind ∷ codes ":" ∷ numeral key ∷ codes ">" ∷ []) refl (kind_unbroken kind, (refl, (numeral_unbroken key, (refl, tt))))

steps_unbroken : (steps : List Step) → AreUnbroken (flat_map step_words steps)
steps_unbroken [] = tt
steps_unbroken (s ∷ steps) = (numeral_unbroken s.txn, (edge_unbroken s.kind s.key, steps_unbroken steps))

home_unbroken : (steps : List Step) → AreUnbroken (home_word steps)
home_unbroken steps = grind (arith, numeral_unbroken)

firsts_unbroken : (ts : List ℕ) → AreUnbroken (first_words ts)
firsts_unbroken [] = tt
firsts_unbroken (t ∷ ts) = (refl, numerals_unbroken (t ∷ ts))

reason_unbroken : (r : Reason) → IsUnbroken (reason_words r)
reason_unbroken r = grind arith

pub events_is : (n c a u : ℕ) → IsLine (events_line n c a u)
events_is n c a u = words_line (codes "events" ∷ numeral n ∷ codes "committed" ∷ numeral c ∷ codes "aborted" ∷ numeral a ∷ codes "open" ∷ numeral u ∷ []) (refl, (numeral_unbroken n, (refl, (numeral_unbroken c, (refl, (numeral_unbroken a, (refl, (numeral_unbroken u, tt))))))))

pub isolation_is : (kept : Bool) → IsLine (isolation_line kept)
isolation_is kept = words_line (codes "isolation" ∷ cond kept (codes "kept") (codes "broken") ∷ []) (refl, (one_of kept (codes "kept") (codes "broken") refl refl, tt))

pub bad_read_is : (b : BadRead) → IsLine (bad_read_line b)
bad_read_is b = words_line (codes "bad-read" ∷ numeral b.place ∷ numeral b.txn ∷ numeral b.key ∷ codes "saw" ∷ numeral b.saw ∷ codes "due" ∷ numeral b.due ∷ []) (refl, (numeral_unbroken b.place, (numeral_unbroken b.txn, (numeral_unbroken b.key, (refl, (numeral_unbroken b.saw, (refl, (numeral_unbroken b.due, tt))))))))

pub bad_write_is : (b : BadWrite) → IsLine (bad_write_line b)
bad_write_is b = words_line (codes "bad-write" ∷ numeral b.key ∷ numeral b.first ∷ numeral b.second ∷ []) (refl, (numeral_unbroken b.key, (numeral_unbroken b.first, (numeral_unbroken b.second, tt))))

pub unexplained_is : (b : Unexplained) → IsLine (unexplained_line b)
unexplained_is b = words_line (codes "unexplained" ∷ numeral b.place ∷ numeral b.txn ∷ numeral b.key ∷ numeral b.saw ∷ []) (refl, (numeral_unbroken b.place, (numeral_unbroken b.txn, (numeral_unbroken b.key, (numeral_unbroken b.saw, tt)))))

edge_is : (e : Edge) → IsLine (edge_line e)
edge_is e = words_line (codes "edge" ∷ numeral e.src ∷ kind_word e.kind ∷ numeral e.dst ∷ numeral e.key ∷ []) (refl, (numeral_unbroken e.src, (kind_unbroken e.kind, (numeral_unbroken e.dst, (numeral_unbroken e.key, tt)))))

pivot_is : (p : Pivot) → IsLine (pivot_line p)
pivot_is p =
    let ins = codes "pivot" ∷ numeral p.txn ∷ codes "in" ∷ map numeral p.ins in
    let outs = codes "out" ∷ map numeral p.outs in
    words_line (ins ++ outs ++ first_words p.firsts)
    (all_both (ins ++ outs) (first_words p.firsts) (all_both ins outs (refl, (numeral_unbroken p.txn, (refl, numerals_unbroken p.ins))) (refl, numerals_unbroken p.outs)) (firsts_unbroken p.firsts))

pub ssi_is : (pass : Bool) → IsLine (ssi_line pass)
ssi_is pass = words_line (codes "ssi" ∷ cond pass (codes "pass") (codes "fail") ∷ []) (refl, (one_of pass (codes "pass") (codes "fail") refl refl, tt))

pub serializable_is : (is : Bool) → IsLine (serializable_line is)
serializable_is is = words_line (codes "serializable" ∷ cond is (codes "yes") (codes "no") ∷ []) (refl, (one_of is (codes "yes") (codes "no") refl refl, tt))

pub verdict_is : (v : Verdict) → IsLine (verdict_line v)
verdict_is (Order order) = words_line (codes "order" ∷ map numeral order) (refl, numerals_unbroken order)
verdict_is (Cycle steps) = words_line (codes "cycle" ∷ flat_map step_words steps ++ home_word steps) (refl, all_both (flat_map step_words steps) (home_word steps) (steps_unbroken steps) (home_unbroken steps))

-- which lines of a report stay
pub record Stay (keep : List ℕ → Bool) (e i r w u d p s z v : Bool) : Type 0 where
  pub events : (n c a o : ℕ) → keep (events_line n c a o) ≡ e
  pub isolation : (b : Bool) → keep (isolation_line b) ≡ i
  pub bad_reads : (x : BadRead) → keep (bad_read_line x) ≡ r
  pub bad_writes : (x : BadWrite) → keep (bad_write_line x) ≡ w
  pub unexplained : (x : Unexplained) → keep (unexplained_line x) ≡ u
  pub edges : (x : Edge) → keep (edge_line x) ≡ d
  pub pivots : (x : Pivot) → keep (pivot_line x) ≡ p
  pub ssi : (b : Bool) → keep (ssi_line b) ≡ s
  pub serializable : (b : Bool) → keep (serializable_line b) ≡ z
  pub verdict : (x : Verdict) → keep (verdict_line x) ≡ v

pub report_leaves : (keep : List ℕ → Bool) (e i r w u d p s z v : Bool) → Stay keep e i r w u d p s z v → (form : Form) (a : Account) → Leaves keep (report_text form a)
    (cond e (events_line a.events a.committed a.aborted a.unfinished) [] ++ cond i (isolation_line (is_empty a.bad_reads && is_empty a.bad_writes)) [] ++ cond r (flat_map bad_read_line a.bad_reads) [] ++ cond w (flat_map bad_write_line a.bad_writes) []
    ++ cond u (flat_map unexplained_line a.unexplained) [] ++ cond d (flat_map edge_line (told form a.edges)) [] ++ cond p (flat_map pivot_line (told form a.pivots)) [] ++ cond s (ssi_line a.pass) [] ++ cond z (serializable_line a.serializable) [] ++ cond v (verdict_line a.verdict) [])
report_leaves keep e i r w u d p s z v stay form a =
    let head = leaves_both keep (leaves_line keep _ e (events_is a.events a.committed a.aborted a.unfinished) (stay.events _ _ _ _)) (leaves_line keep _ i (isolation_is (is_empty a.bad_reads && is_empty a.bad_writes)) (stay.isolation _)) in
    let found = leaves_both keep (leaves_both keep (leaves_both keep head (leaves_each keep bad_read_line r bad_read_is stay.bad_reads a.bad_reads)) (leaves_each keep bad_write_line w bad_write_is stay.bad_writes a.bad_writes)) (leaves_each keep unexplained_line u unexplained_is stay.unexplained a.unexplained) in
    let listed = leaves_both keep (leaves_both keep found (leaves_each keep edge_line d edge_is stay.edges (told form a.edges))) (leaves_each keep pivot_line p pivot_is stay.pivots (told form a.pivots)) in
    leaves_both keep (leaves_both keep (leaves_both keep listed (leaves_line keep _ s (ssi_is a.pass) (stay.ssi _))) (leaves_line keep _ z (serializable_is a.serializable) (stay.serializable _))) (leaves_line keep _ v (verdict_is a.verdict) (stay.verdict _))

pub refusal_is : (token : ℕ) (r : Reason) → IsLine (refusal_line (Refused token r))
refusal_is token r = words_line (codes "refused: token" ∷ (numeral token ++ codes ":") ∷ reason_words r ∷ []) (refl, (unbroken_both (numeral token) (codes ":") (numeral_unbroken token) refl, (reason_unbroken r, tt)))

pub long_is : IsLine (refusal_line TextTooLong)
long_is = words_line (codes "refused: text too long" ∷ []) (refl, tt)

no_separator : (w : List ℕ) → HasNoSeparator w → IsUnbroken w
no_separator [] p = refl
no_separator (c ∷ w) p = and_from _ _ (not_from_false _ (or_parts _ _ p.0).1) (no_separator w p.1)

pub token_unbroken : (w : List ℕ) → IsToken w → IsUnbroken w
token_unbroken w p = grind (arith, no_separator)

event_unbroken : (k : ℕ) (e : Option Event) → IsUnbroken (spell_about k e)
event_unbroken k e = grind (arith, token_unbroken, spell_token)

anomaly_unbroken : (name : Anomaly) → IsUnbroken (anomaly_words name)
anomaly_unbroken name = grind arith

start_unbroken : (t s : ℕ) → IsUnbroken (start_words t s)
start_unbroken t s = glued (codes "transaction ") (numeral t ∷ codes " starts after event " ∷ numeral s ∷ []) refl (numeral_unbroken t, (refl, (numeral_unbroken s, tt)))

bare_unbroken : (e : Option Event) → IsUnbroken (spell_bare e)
bare_unbroken e = grind (arith, token_unbroken, spell_token)

-- how lines begin that stand in an explained report and not in a brief one
abbrev pub told_in_explained : List (List ℕ)
told_in_explained = codes "dangerous " ∷ codes "snapshot " ∷ codes "  " ∷ []

abbrev pub keep : List ℕ → Bool
keep = stays told_in_explained

module _ (h : List Event) where
  pub words_unbroken : (k p : ℕ) → IsUnbroken (event_words h k p)
  words_unbroken k p = glued (codes "event ") (numeral p ∷ codes " " ∷ told_about h p k ∷ []) refl (numeral_unbroken p, (refl, (event_unbroken k (at_place h p), tt)))

  version_unbroken : (k v : ℕ) (words : List ℕ) → TellsVersion h k v words → IsUnbroken words
  version_unbroken k v words told = elim told.2 [
    | inl x ↦ subst IsUnbroken (sym x.1) (words_unbroken k told.0)
    | inr x ↦ subst IsUnbroken (sym x.2) (glued (event_words h k told.0) (codes ", " ∷ event_words h k x.0 ∷ []) (words_unbroken k told.0) (refl, (words_unbroken k x.0, tt)))
  ]

  sight_unbroken : (e : Edge) (words : List ℕ) → TellsSight h e words → IsUnbroken words
  sight_unbroken e words p = grind (arith, unbroken_both, words_unbroken, glued, version_unbroken)

  conflict_unbroken : (b : BadWrite) (start words : List ℕ) → IsUnbroken start → TellsConflict h b start words → IsUnbroken words
  conflict_unbroken b start words p q = grind (arith, glued, words_unbroken, unbroken_both)

  two_unbroken : (one other words : List ℕ) → IsUnbroken one → IsUnbroken other → words ≡ one ++ codes "; " ++ other → IsUnbroken words
  two_unbroken one other words p q is = subst IsUnbroken (sym is) (glued one (codes "; " ∷ other ∷ []) p (refl, (q, tt)))

  events_unbroken : (kind : Kind) (e : Edge) (words : List ℕ) → TellsEvents kind h e words → IsUnbroken words
  events_unbroken Ww e words x = two_unbroken x.0 x.1 words (version_unbroken e.key e.src x.0 x.2) (version_unbroken e.key e.dst x.1 x.3) x.4
  events_unbroken Wr e words x = two_unbroken x.0 x.1 words (version_unbroken e.key e.src x.0 x.2) (sight_unbroken e x.1 x.3) x.4
  events_unbroken Rw e words x = two_unbroken x.0 x.1 words (sight_unbroken e x.0 x.2) (version_unbroken e.key e.dst x.1 x.3) x.4

  spaced_goes : (w : List ℕ) → IsUnbroken w → Leaves keep (codes "  " ++ (w ++ 10 ∷ [])) []
  spaced_goes w p = leaves_line keep (codes "  " ++ (w ++ 10 ∷ [])) false (codes "  " ++ w, p, refl) refl

  pub reason_goes : (words : List ℕ) → IsUnbroken words → Leaves keep (reason words) []
  reason_goes words p = spaced_goes words p

  version_goes : (before : List ℕ) (k v : ℕ) (bytes : List ℕ) → IsUnbroken before → TellsUnless 0 h (codes "  " ++ before) k v (codes "\n") bytes → Leaves keep bytes []
  version_goes before k v bytes p (inl x) = subst (λ (b : List ℕ). Leaves keep b []) (sym x.1) (leaves_nothing keep)
  version_goes before k v bytes p (inr x) = subst (λ (b : List ℕ). Leaves keep b []) (sym x.3) (spaced_goes (before ++ x.1) (unbroken_both before x.1 p (version_unbroken k v x.1 x.2)))

  pub bad_read_goes : (b : BadRead) (bytes : List ℕ) → TellsBadRead h b bytes → Leaves keep bytes []
  bad_read_goes b bytes (name, s, saw, due, named, starts, told_saw, told_due, is) =
      subst (λ (x : List ℕ). Leaves keep x []) (sym is) (leaves_both keep (leaves_both keep
      (reason_goes (anomaly_words name ++ codes ": " ++ event_words h b.key b.place ++ codes "; " ++ start_words b.txn s)
      (glued (anomaly_words name) (codes ": " ∷ event_words h b.key b.place ∷ codes "; " ∷ start_words b.txn s ∷ []) (anomaly_unbroken name) (refl, (words_unbroken b.key b.place, (refl, (start_unbroken b.txn s, tt))))))
      (version_goes (codes "saw: ") b.key b.saw saw refl told_saw)) (version_goes (codes "due: ") b.key b.due due refl told_due))

  pub unexplained_goes : (b : Unexplained) (bytes : List ℕ) → TellsUnexplained h b bytes → Leaves keep bytes []
  unexplained_goes b bytes (due, is, told) = bad_read_goes (record { place = b.place; txn = b.txn; key = b.key; saw = b.saw; due = due }) bytes told

  pub bad_write_goes : (b : BadWrite) (bytes : List ℕ) → TellsBadWrite h b bytes → Leaves keep bytes []
  bad_write_goes b bytes (s, name, first, second, starts, named, one, other, is) =
      subst (λ (x : List ℕ). Leaves keep x []) (sym is) (reason_goes (name ++ codes "; " ++ first ++ codes "; " ++ second)
      (glued name (codes "; " ∷ first ∷ codes "; " ∷ second ∷ []) (conflict_unbroken b (start_words b.second s) name (start_unbroken b.second s) named)
      (refl, (version_unbroken b.key b.first first one, (refl, (version_unbroken b.key b.second second other, tt))))))

  pub class_goes : (edges : List Edge) (bytes : List ℕ) → TellsClass h edges bytes → Leaves keep bytes []
  class_goes edges bytes (inl x) = subst (λ (b : List ℕ). Leaves keep b []) (sym x.1) (reason_goes allowed_words refl)
  class_goes edges bytes (inr x) = subst (λ (b : List ℕ). Leaves keep b []) (sym x.1) (reason_goes forbidden_words refl)

  pub step_goes : (e : Edge) (bytes : List ℕ) → TellsStep h e bytes → Leaves keep bytes []
  step_goes e bytes (words, told, is) =
      subst (λ (x : List ℕ). Leaves keep x []) (sym is) (reason_goes (numeral e.src ++ codes " " ++ edge_word e.kind e.key ++ codes " " ++ numeral e.dst ++ codes ": " ++ words)
      (glued (numeral e.src) (codes " " ∷ edge_word e.kind e.key ∷ codes " " ∷ numeral e.dst ∷ codes ": " ∷ words ∷ []) (numeral_unbroken e.src)
      (refl, (edge_unbroken e.kind e.key, (refl, (numeral_unbroken e.dst, (refl, (events_unbroken e.kind e words told, tt))))))))

  bound_goes : (before : List ℕ) → IsUnbroken before → (c p k : ℕ) → Leaves keep (bound_words (codes "  " ++ before) h c p k) []
  bound_goes before b c p k =
      reason_goes (before ++ event_words h k c ++ codes ": " ++ event_words h k p)
      (glued before (event_words h k c ∷ codes ": " ∷ event_words h k p ∷ []) b (words_unbroken k c, (refl, (words_unbroken k p, tt))))

  excluded_goes : (t : ℕ) (bytes : List ℕ) → TellsExcluded h t bytes → Leaves keep bytes []
  excluded_goes t bytes (inl x) = subst (λ (b : List ℕ). Leaves keep b []) (sym x.4) (bound_goes (codes "not with ") refl x.0 x.1 x.2)
  excluded_goes t bytes (inr x) =
      subst (λ (b : List ℕ). Leaves keep b []) (sym x.2) (reason_goes (codes "not after " ++ bare_words h x.0)
      (unbroken_both (codes "not after ") (bare_words h x.0) refl (glued (codes "event ") (numeral x.0 ∷ codes " " ∷ spell_bare (at_place h x.0) ∷ []) refl (numeral_unbroken x.0, (refl, (bare_unbroken (at_place h x.0), tt))))))

  none_goes : (t : ℕ) (bytes : List ℕ) → TellsNone h t bytes → Leaves keep bytes []
  none_goes t bytes (inl x) =
      subst (λ (b : List ℕ). Leaves keep b []) (sym x.3) (reason_goes (codes "in no snapshot: " ++ event_words h x.1 x.0)
      (unbroken_both (codes "in no snapshot: ") (event_words h x.1 x.0) refl (words_unbroken x.1 x.0)))
  none_goes t bytes (inr x) =
      subst (λ (b : List ℕ). Leaves keep b []) (sym x.7) (leaves_both keep (bound_goes (codes "not without ") refl x.1 x.2 x.3) (excluded_goes t x.4 x.6))

  told_goes : (w : List ℕ) (ws : List (List ℕ)) → AreUnbroken (w ∷ ws) → Leaves keep (line (codes "snapshot" ∷ w ∷ ws)) []
  told_goes w ws are =
      leaves_line keep (line (codes "snapshot" ∷ w ∷ ws)) false (words_line (codes "snapshot" ∷ w ∷ ws) (refl, are)) refl

  pub snapshot_goes : (t : ℕ) (bytes : List ℕ) → TellsSnapshot h t bytes → Leaves keep bytes []
  snapshot_goes t bytes (inl x) = subst (λ (b : List ℕ). Leaves keep b []) (sym x.1) (leaves_nothing keep)
  snapshot_goes t bytes (inr (inl x)) =
      subst (λ (b : List ℕ). Leaves keep b []) (sym x.4) (told_goes (numeral t) (codes "from" ∷ numeral x.1 ∷ codes "to" ∷ numeral x.2 ∷ [])
      (numeral_unbroken t, (refl, (numeral_unbroken x.1, (refl, (numeral_unbroken x.2, tt))))))
  snapshot_goes t bytes (inr (inr x)) =
      subst (λ (b : List ℕ). Leaves keep b []) (sym x.4) (leaves_both keep (told_goes (numeral t) (codes "none" ∷ []) (numeral_unbroken t, (refl, tt))) (none_goes t x.2 x.3))
