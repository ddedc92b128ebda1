-- Lines and words that are written one after another.
use Rattle.sia_parts.specs.declared.finding.BadRead.{BadRead}
use Rattle.sia_parts.specs.declared.finding.BadWrite.{BadWrite}
use Rattle.sia_parts.specs.declared.finding.Unexplained.{Unexplained}
use Rattle.sia_parts.specs.declared.finding.Edge.{Edge}
use Rattle.sia_graph.specs.declared.pivot.Pivot.{Pivot}
use Rattle.si_audit.specs.Lines.{is_empty, isolation_line, bad_read_line, bad_write_line, unexplained_line, edge_line, pivot_line, step_words, home_word, cycle_line, events_line, ssi_line, serializable_line, verdict_line, told, report_text}
use Rattle.std.proofs.Common.{◌&&◌, ◌≡◌, ℕ, ◌+◌, ◌<◌, List, [], ◌∷◌, ◌++◌, length, take, flat_map, get_or, ap, sym, ◌∙◌, append_assoc, append-nil, codes, refl, arith}
use Rattle.std.proofs.lemmas.Grind.{flat_map-append}
use Rattle.std.proofs.lemmas.List.{take_more, flat_map_more}
use Rattle.sia_graph.specs.declared.judgement.Judgement.{Judgement}
use Rattle.si_audit.specs.Account.{account_with}
use Rattle.si_audit.specs.declared.options.Form.{Form}
use Rattle.si_audit.specs.Explained.{TellsAll, WithReasons}
use Rattle.si_audit.proofs.Shared.Telling.{lines_alone}
use Rattle.std.specs.List.{join_with_byte}
use Rattle.sia_graph.specs.declared.cycle.Step.{Step}
use Rattle.si_audit.specs.declared.report.Words.{Words}
use Rattle.si_audit.specs.Spaced.{spaced, words_of}

-- one more after what was written
pub then : (o m n y : List ℕ) → n ≡ m ++ y → m ≡ o → n ≡ o ++ y
then o m n y step before = step ∙ ap (λ (xs : List ℕ). xs ++ y) before

pub four_written : (o a b c d : List ℕ) → (((o ++ a) ++ b) ++ c) ++ d ≡ o ++ ((a ++ b ++ c) ++ d)
four_written o a b c d = simp append_assoc

pub report_written : (o a b c d e f g s z v : List ℕ) → o ++ a ++ b ++ c ++ d ++ e ++ f ++ g ++ s ++ z ++ v ≡ o ++ (a ++ b ++ c ++ d ++ e ++ f ++ g ++ s ++ z ++ v)
report_written o a b c d e f g s z v = simp append_assoc

-- what stands before the edges, where no reasons are wanted
pub front_alone : (o a b n r w u : List ℕ) (reads : List BadRead) (writes : List BadWrite) (odd : List Unexplained)
    → TellsAll (WithReasons bad_read_line (λ x below. below ≡ [])) reads r → TellsAll (WithReasons bad_write_line (λ x below. below ≡ [])) writes w
    → TellsAll (WithReasons unexplained_line (λ x below. below ≡ [])) odd u → n ≡ o ++ a ++ b ++ r ++ w ++ u
    → n ≡ o ++ a ++ b ++ flat_map bad_read_line reads ++ flat_map bad_write_line writes ++ flat_map unexplained_line odd
front_alone o a b n r w u reads writes odd some others rest all = grind (arith, lines_alone)

-- no counts
pub without_counts : (x n c r w u : List ℕ) → c ≡ [] → n ≡ x ++ c ++ r ++ w ++ u → n ≡ x ++ r ++ w ++ u
without_counts x n c r w u none all = all ∙ (λ i. x ++ none i ++ r ++ w ++ u) ∙ ap (λ (y : List ℕ). y ++ r ++ w ++ u) (append-nil x)

-- what stands before the edges, these, and what stands behind them
pub report_of_pieces : (o m n r a s z v : List ℕ) (reads : List BadRead) (writes : List BadWrite) (odd : List Unexplained) (edges : List Edge) (pivots : List Pivot)
    → m ≡ o ++ a ++ isolation_line (is_empty reads && is_empty writes) ++ flat_map bad_read_line reads ++ flat_map bad_write_line writes ++ flat_map unexplained_line odd
    → n ≡ m ++ flat_map edge_line edges
    → r ≡ n ++ flat_map pivot_line pivots ++ s ++ z ++ v
    → r ≡ o ++ (a ++ isolation_line (is_empty reads && is_empty writes) ++ flat_map bad_read_line reads ++ flat_map bad_write_line writes ++ flat_map unexplained_line odd
    ++ flat_map edge_line edges ++ flat_map pivot_line pivots ++ s ++ z ++ v)
report_of_pieces o m n r a s z v reads writes odd edges pivots front middle back = grind (arith, report_written)

-- the line of the next thing in a list
pub next_line : {X : Type 0} (f : X → List ℕ) (o m n : List ℕ) (xs : List X) (i : ℕ) (d : X) → i < length xs → n ≡ m ++ f (get_or xs i d) → m ≡ o ++ flat_map f (take i xs) → n ≡ o ++ flat_map f (take (i + 1) xs)
next_line f o m n xs i d inside step before = grind (arith, then, flat_map_more, take_more)

-- what one more thing brings
pub one_more_mapped : {X Y : Type 0} (f : X → List Y) (xs : List X) (x : X) → flat_map f (xs ++ x ∷ []) ≡ flat_map f xs ++ f x
one_more_mapped {X} {Y} f xs x = flat_map-append f xs (x ∷ []) ∙ ap (λ (ys : List Y). flat_map f xs ++ ys) (append-nil (f x))

pub join_spaced : (w : List ℕ) (ws : List (List ℕ)) → join_with_byte 32 (w ∷ ws) ≡ w ++ spaced ws
join_spaced w [] = sym (append-nil w)
join_spaced w (v ∷ ws) = ap (λ (xs : List ℕ). w ++ (32 ∷ xs)) (join_spaced v ws)

pub spaced-append : (xs ys : List (List ℕ)) → spaced (xs ++ ys) ≡ spaced xs ++ spaced ys
spaced-append xs ys = flat_map-append (λ (word : List ℕ). 32 ∷ word) xs ys

-- the words of all steps
spaced_steps : (steps : List Step) → spaced (flat_map step_words steps) ≡ flat_map (λ s. spaced (step_words s)) steps
spaced_steps [] = refl
spaced_steps (s ∷ steps) = spaced-append (step_words s) (flat_map step_words steps) ∙ ap (λ (xs : List ℕ). spaced (step_words s) ++ xs) (spaced_steps steps)

pub cycle_bytes : (steps : List Step) → cycle_line steps ≡ (codes "cycle" ++ flat_map (λ s. spaced (step_words s)) steps ++ spaced (home_word steps)) ++ 10 ∷ []
cycle_bytes steps = grind (arith, join_spaced, spaced-append, spaced_steps)

-- the next words of several
pub next_words : (ws : List Words) (i : ℕ) (d : Words) (o m n : List ℕ) → i < length ws → n ≡ m ++ spaced (words_of (get_or ws i d)) → m ≡ o ++ spaced (flat_map words_of (take i ws))
    → n ≡ o ++ spaced (flat_map words_of (take (i + 1) ws))
next_words ws i d o m n inside step before =
    let w = get_or ws i d in
    let so_far = flat_map words_of (take i ws) in
    let both : so_far ++ words_of w ≡ flat_map words_of (take (i + 1) ws) = sym (one_more_mapped words_of (take i ws) w) ∙ ap (flat_map words_of) (sym (take_more ws i d inside)) in
    grind (arith, append_assoc, spaced-append)

-- the parts of a report, which are its own front and back
parts_of_report : (e i r w u d p s z v : List ℕ) → (e ++ i ++ r ++ w ++ u) ++ (d ++ p) ++ (s ++ z ++ v) ≡ e ++ i ++ r ++ w ++ u ++ d ++ p ++ s ++ z ++ v
parts_of_report e i r w u d p s z v = simp append_assoc

-- the report of a judgement, whose front and back these are
pub report_on_sheets : (j : Judgement) (form : Form) (edges : List Edge) (pivots : List Pivot) (front back middle : List ℕ)
    → front ≡ events_line j.counts.events j.counts.committed j.counts.aborted j.counts.unfinished
    ++ isolation_line (is_empty j.bad_reads.items && is_empty j.bad_writes.items)
    ++ flat_map bad_read_line j.bad_reads.items
    ++ flat_map bad_write_line j.bad_writes.items
    ++ flat_map unexplained_line j.unexplained.items
    → back ≡ ssi_line j.pass ++ serializable_line j.serializable ++ verdict_line j.verdict
    → middle ≡ flat_map edge_line (told form edges) ++ flat_map pivot_line (told form pivots) → front ++ middle ++ back ≡ report_text form (account_with j edges pivots)
report_on_sheets j form edges pivots front back middle f b m = grind (arith, parts_of_report)
