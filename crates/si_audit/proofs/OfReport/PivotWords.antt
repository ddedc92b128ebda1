-- The words of a pivot's rows, one after another, are its line.
use Rattle.std.proofs.Common.{◌≡◌, ◌≢◌, Bool, true, false, cond, not, Option, None, Some, ℕ, ◌+◌, ◌-◌, ◌<◌, ◌≤◌, List, [], ◌∷◌, ◌++◌, codes, drop, flat_map, get_or, length, map, refl, ap, sym, ◌∙◌, arith, append-nil, append_assoc, Contains, slice_index}
use Rattle.std.proofs.lemmas.Bool.{eq-eqb, eqb-true}
use Rattle.std.proofs.lemmas.List.{at_drop_more}
use Rattle.std.proofs.lemmas.List.Folds.{flat_map-map}
use Rattle.std.proofs.lemmas.Option.{slice_get-get_or}
use Rattle.sia_events.specs.Text.{numeral}
use Rattle.sia_events.proofs.Shared.Drafted.{map_get}
use Rattle.sia_parts.proofs.Auditing.Members.{contains_first, contains_later}
use Rattle.sia_graph.specs.declared.neighbours.Neighbour.{Neighbour}
use Rattle.sia_graph.specs.declared.neighbours.Role.{Role}
use Rattle.sia_graph.specs.declared.neighbours.Role.TheVariants.{In, Out, First}
use Rattle.sia_graph.specs.declared.pivot.Pivot.{Pivot}
use Rattle.sia_graph.specs.Neighbours.{role_number}
use Rattle.si_audit.specs.declared.sheet.Word.{Word}
use Rattle.si_audit.specs.Lines.{first_words, pivot_line}
use Rattle.si_audit.specs.PivotLines.{begins, end_number, lead_number, lead_words, line_from, rest_of, role_before, role_words}
use Rattle.si_audit.specs.Sheet.{text_of, word_at}
use Rattle.si_audit.specs.Spaced.{spaced}
use Rattle.si_audit.specs.Spelled.{txn_word}
use Rattle.si_audit.proofs.OfReport.EdgesInTurn.{line_put, spelled_at}
use Rattle.si_audit.proofs.OfReport.Chains.{join_spaced, spaced-append}

-- what stands behind the rows before these
abbrev pub end_words : List Neighbour → List ℕ
end_words [] = codes "\n"
end_words (n ∷ rows) = []

-- the words of a line by their numbers
module _ {n : ℕ} (t : ℕ) (a b d e : Word n) (in_is : text_of a ≡ codes "pivot " ++ numeral t ++ codes " in") (out_is : text_of b ≡ codes " out") (first_is : text_of d ≡ codes " first") (end_is : text_of e ≡ codes "\n") where
  pub lead_is : (before : Option Role) (role : Role) → word_at (a ∷ b ∷ d ∷ e ∷ []) (lead_number before role) ≡ lead_words t before role
  lead_is before role = grind arith

  pub end_at : (rows : List Neighbour) → word_at (a ∷ b ∷ d ∷ e ∷ []) (end_number rows) ≡ end_words rows
  end_at rows = grind arith

-- the role of the row before the next one
pub role_next : (rows : List Neighbour) (r : ℕ) (d : Neighbour) → r < length rows → role_before rows (r + 1) ≡ Some (get_or rows r d).role
role_next rows r d inside = grind (arith, map_get, slice_get-get_or)

pub role_last : (rows : List Neighbour) (r : ℕ) (d : Neighbour) → 0 < r → r ≤ length rows → role_before rows r ≡ Some (get_or rows (r - 1) d).role
role_last rows r d some within = grind (arith, role_next)

-- a role begins where the row before has another one
pub lead_none : (before role : Role) → role_number before ≡ role_number role → 4 ≡ lead_number (Some before) role
lead_none before role same = sym (ap (λ (x : Bool). cond (not x) (role_number role) 4) (eq-eqb (role_number before) (role_number role) same))

pub lead_other : (before role : Role) → role_number before ≢ role_number role → role_number role ≡ lead_number (Some before) role
lead_other before role other = grind (arith, eqb-true)

parted_line : (p a b e r : List ℕ) → p ++ (a ++ b ++ (e ++ r)) ≡ (p ++ (a ++ b ++ e)) ++ r
parted_line p a b e r = simp append_assoc

module _ {k : ℕ} (t : ℕ) (words : List (Word k)) where
  -- the end of the line, if no rows are left
  line_behind : (before : Option Role) (rows : List Neighbour) → line_from t words before rows ≡ end_words rows ++ rest_of t words before rows
  line_behind before rows = grind (arith, append-nil)

  -- one more row is put
  pub pivot_row_put : {n : ℕ} (leads : List (Word n)) → ((before : Option Role) (role : Role) → word_at leads (lead_number before role) ≡ lead_words t before role) → ((rows : List Neighbour) → word_at leads (end_number rows) ≡ end_words rows)
      → (rows : List Neighbour) (r : ℕ) (d : Neighbour) → r < length rows
      → (old piece whole now first second third : List ℕ) → now ≡ old ++ piece → whole ≡ piece ++ rest_of t words (role_before rows r) (drop r rows)
      → first ≡ now ++ word_at leads (lead_number (role_before rows r) (get_or rows r d).role) → second ≡ first ++ word_at words (get_or rows r d).txn → third ≡ second ++ word_at leads (end_number (drop (r + 1) rows))
      → (more : List ℕ) × (third ≡ old ++ more) × (whole ≡ more ++ rest_of t words (role_before rows (r + 1)) (drop (r + 1) rows))
  pivot_row_put leads head tail rows r d inside old piece whole now first second third so_far rest at_lead at_txn at_end =
      let row = get_or rows r d in
      let later = drop (r + 1) rows in
      let before = role_before rows r in
      let lead = lead_words t before row.role in
      let txn = word_at words row.txn in (
        piece ++ (lead ++ txn ++ end_words later),
        at_end ∙ ap (λ (l : List ℕ). l ++ word_at leads (end_number later)) (at_txn ∙ ap (λ (l : List ℕ). l ++ txn) (at_lead ∙ (λ i. so_far i ++ head before row.role i)))
            ∙ ap (λ (l : List ℕ). old ++ piece ++ lead ++ txn ++ l) (tail later) ∙ line_put old piece lead txn (end_words later),
        rest ∙ ap (λ (l : List ℕ). piece ++ l) (at_drop_more (rest_of t words before) rows r d inside)
            ∙ ap (λ (l : List ℕ). piece ++ (lead ++ txn ++ l)) (line_behind (Some row.role) later)
            ∙ parted_line piece lead txn (end_words later) (rest_of t words (Some row.role) later)
            ∙ ap (λ (b : Option Role). (piece ++ (lead ++ txn ++ end_words later)) ++ rest_of t words b later) (sym (role_next rows r d inside)),
      )

-- a role doesn't begin behind itself
same_role : (role : Role) → begins (Some role) role ≡ false
same_role role = grind arith

-- all rows have this role
abbrev pub HaveRole : Role → List Neighbour → Type 0
HaveRole role rows = (n : Neighbour) → Contains rows n → n.role ≡ role

regroup : (a b c d : List ℕ) → (a ++ b) ++ (c ++ d) ≡ (a ++ (b ++ c)) ++ d
regroup a b c d = simp append_assoc

-- the names in rows
abbrev pub names_in : {n : ℕ} → List (Word n) → List Neighbour → List ℕ
names_in words rows = flat_map (λ n. word_at words n.txn) rows

-- the firsts of a pivot, if there are any, and the end of its line: by rows, and by names
abbrev pub last_words : {n : ℕ} → List (Word n) → List Neighbour → List ℕ
last_words words [] = codes "\n"
last_words words (n ∷ rows) = codes " first" ++ names_in words (n ∷ rows) ++ codes "\n"

abbrev pub line_end : List ℕ → List ℕ
line_end [] = codes "\n"
line_end (u ∷ us) = codes " first" ++ flat_map txn_word (u ∷ us) ++ codes "\n"

module _ {k : ℕ} (t : ℕ) (words : List (Word k)) where
  -- rows of one role behind one of it
  run : (role : Role) (xs rest : List Neighbour) → HaveRole role xs → line_from t words (Some role) (xs ++ rest) ≡ names_in words xs ++ line_from t words (Some role) rest
  run role [] rest all = refl
  run role (n ∷ xs) rest all =
      let is = all n (contains_first n xs) in
      let word = word_at words n.txn in
      (λ i. cond (begins (Some role) (is i)) (role_words t (is i)) [] ++ word ++ line_from t words (Some (is i)) (xs ++ rest))
      ∙ ap (λ (b : Bool). cond b (role_words t role) [] ++ word ++ line_from t words (Some role) (xs ++ rest)) (same_role role)
      ∙ ap (λ (l : List ℕ). word ++ l) (run role xs rest (λ m c. all m (contains_later n m xs c)))
      ∙ sym (append_assoc word (names_in words xs) (line_from t words (Some role) rest))

  -- and behind one of another, or first
  first_run : (before : Option Role) (role : Role) (x : Neighbour) (xs rest : List Neighbour) → begins before role ≡ true → HaveRole role (x ∷ xs)
      → line_from t words before (x ∷ (xs ++ rest)) ≡ role_words t role ++ names_in words (x ∷ xs) ++ line_from t words (Some role) rest
  first_run before role x xs rest new all =
      let is = all x (contains_first x xs) in
      let word = word_at words x.txn in
      (λ i. cond (begins before (is i)) (role_words t (is i)) [] ++ word ++ line_from t words (Some (is i)) (xs ++ rest))
      ∙ ap (λ (b : Bool). cond b (role_words t role) [] ++ word ++ line_from t words (Some role) (xs ++ rest)) new
      ∙ ap (λ (l : List ℕ). role_words t role ++ word ++ l) (run role xs rest (λ m c. all m (contains_later x m xs c)))
      ∙ regroup (role_words t role) word (names_in words xs) (line_from t words (Some role) rest)

  last_run : (firsts : List Neighbour) → HaveRole First firsts → line_from t words (Some Out) firsts ≡ last_words words firsts
  last_run [] all = refl
  last_run (n ∷ rows) all = ap (λ (l : List Neighbour). line_from t words (Some Out) (n ∷ l)) (sym (append-nil rows)) ∙ first_run (Some Out) First n rows [] refl all

  -- the rows of all three
  pub three_runs : (ins outs firsts : List Neighbour) → HaveRole In ins → HaveRole Out outs → HaveRole First firsts → ins ≢ [] → outs ≢ []
      → rest_of t words None (ins ++ (outs ++ firsts)) ≡ role_words t In ++ names_in words ins ++ (codes " out" ++ names_in words outs ++ last_words words firsts)
  three_runs [] outs firsts a b c some others = absurd (some refl)
  three_runs (x ∷ xs) [] firsts a b c some others = absurd (others refl)
  three_runs (x ∷ xs) (y ∷ ys) firsts a b c some others =
      first_run None In x xs ((y ∷ ys) ++ firsts) refl a
      ∙ ap (λ (l : List ℕ). role_words t In ++ names_in words (x ∷ xs) ++ l)
      (first_run (Some In) Out y ys firsts refl b ∙ ap (λ (l : List ℕ). codes " out" ++ names_in words (y ∷ ys) ++ l) (last_run firsts c))

module _ {k : ℕ} (words : List (Word k)) (txns : List ℕ) (same : map text_of words ≡ map txn_word txns) where
  abbrev pub AreNumbers : List Neighbour → Type 0
  AreNumbers rows = (n : Neighbour) → Contains rows n → n.txn < length txns

  pub named : (rows : List Neighbour) → AreNumbers rows → names_in words rows ≡ flat_map txn_word (map (λ n. slice_index txns n.txn) rows)
  named [] all = refl
  named (n ∷ rows) all = λ i. spelled_at txn_word words txns n.txn same (all n (contains_first n rows)) i ++ named rows (λ m c. all m (contains_later n m rows c)) i

  pub last_named : (rows : List Neighbour) (firsts : List ℕ) → AreNumbers rows → map (λ n. slice_index txns n.txn) rows ≡ firsts → last_words words rows ≡ line_end firsts
  last_named [] firsts all are = ap line_end are
  last_named (n ∷ rows) firsts all are = ap (λ (l : List ℕ). codes " first" ++ l ++ codes "\n") (named (n ∷ rows) all) ∙ ap line_end are

-- its words, each behind a space
spaced_names : (ts : List ℕ) → spaced (map numeral ts) ≡ flat_map txn_word ts
spaced_names ts = flat_map-map (λ (word : List ℕ). 32 ∷ word) numeral ts

spaced_firsts : (firsts : List ℕ) → spaced (first_words firsts) ++ codes "\n" ≡ line_end firsts
spaced_firsts firsts = grind (arith, spaced_names)

words_joined : (p s n i a o b c e : List ℕ) → (p ++ ((s ++ n) ++ (i ++ ((a ++ (o ++ b)) ++ c)))) ++ e ≡ (((p ++ s) ++ n) ++ i) ++ a ++ (o ++ b ++ (c ++ e))
words_joined p s n i a o b c e = simp append_assoc

pub pivot_line_is : (p : Pivot) → pivot_line p ≡ role_words p.txn In ++ flat_map txn_word p.ins ++ (codes " out" ++ flat_map txn_word p.outs ++ line_end p.firsts)
pivot_line_is p =
    let ins = map numeral p.ins in
    let outs = map numeral p.outs in
    let firsts = first_words p.firsts in
    ap (λ (l : List ℕ). l ++ codes "\n") (join_spaced (codes "pivot") (numeral p.txn ∷ codes "in" ∷ ((ins ++ (codes "out" ∷ outs)) ++ firsts)))
    ∙ ap (λ (l : List ℕ). (codes "pivot" ++ ((codes " " ++ numeral p.txn) ++ (codes " in" ++ l))) ++ codes "\n")
    (spaced-append (ins ++ (codes "out" ∷ outs)) firsts ∙ ap (λ (l : List ℕ). l ++ spaced firsts) (spaced-append ins (codes "out" ∷ outs) ∙ (λ i. spaced_names p.ins i ++ (codes " out" ++ spaced_names p.outs i))))
    ∙ words_joined (codes "pivot") (codes " ") (numeral p.txn) (codes " in") (flat_map txn_word p.ins) (codes " out") (flat_map txn_word p.outs) (spaced firsts) (codes "\n")
    ∙ ap (λ (l : List ℕ). role_words p.txn In ++ flat_map txn_word p.ins ++ (codes " out" ++ flat_map txn_word p.outs ++ l)) (spaced_firsts p.firsts)
