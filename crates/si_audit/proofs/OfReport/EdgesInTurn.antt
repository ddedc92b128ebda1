-- The lines of all edges are those of each source in turn, and those of a source are what its rows tell.
use Rattle.std.proofs.Common.{◌≡◌, ℕ, ◌+◌, ◌<◌, ◌≤◌, ◌^◌, List, [], ◌∷◌, ◌++◌, drop, flat_map, get_or, length, map, codes, ap, sym, subst, ◌∙◌, append_assoc, inl, inr, Bool, true, zero, suc, arith, refl}
use Rattle.std.specs.Prelude.{Contains, slice_index, slice_index_or, ⊤, filter}
use Rattle.std.proofs.lemmas.Fmt.{length-decimal-le}
use Rattle.std.proofs.lemmas.List.{at_drop_more, get_or-map, get_or_default}
use Rattle.std.proofs.lemmas.List.Elements.{All-contains_itself, All-contains, All-filter, filter_passes}
use Rattle.std.proofs.lemmas.List.Folds.{flat_map-map}
use Rattle.sia_events.specs.declared.event.Event.{Event}
use Rattle.sia_events.specs.Lists.{ListsAscending, ListsBy, Precedes}
use Rattle.sia_events.specs.Text.{numeral}
use Rattle.sia_events.specs.Transactions.{IsCommitted}
use Rattle.sia_events.proofs.LogRows.Logs.{map_same}
use Rattle.sia_events.proofs.Writing.Decimals.{numeral_decimal}
use Rattle.sia_events.proofs.Worked.OneList.{one_list_by}
use Rattle.sia_index.specs.Info.{AreWrittenKeys}
use Rattle.sia_index.proofs.Shared.KeyChains.{key_number}
use Rattle.sia_parts.specs.declared.edges.EdgeTo.{EdgeTo}
use Rattle.sia_parts.specs.declared.finding.Kind.{Kind}
use Rattle.sia_parts.specs.EdgeRows.{AreEdgesFrom, edge_of, IsEdgeBetween, ListsEdgesBetween}
use Rattle.sia_parts.specs.Entries.{kind_number, edge_rank}
use Rattle.sia_parts.proofs.Auditing.Committing.{committed_number}
use Rattle.si_audit.specs.declared.sheet.Word.{Word}
use Rattle.si_audit.specs.declared.spelled.Spelled.{Spelled}
use Rattle.si_audit.specs.EdgeLines.{AreLinesFrom, row_line}
use Rattle.si_audit.specs.Lines.{edge_line, kind_word}
use Rattle.si_audit.specs.Sheet.{text_of, word_at}
use Rattle.si_audit.specs.Spelled.{AreSpelled, key_word, txn_word}
use Rattle.std.proofs.Math.Dec.{ltb}
use Rattle.std.proofs.lemmas.Bool.{cases_lt, lt-ltb, ltb-true}
use Rattle.std.proofs.lemmas.Grind.{flat_map-append}
use Rattle.std.proofs.lemmas.List.Kept.{AllPairs-filter}
use Rattle.sia_index.proofs.Shared.Ordered.{ascends}
use Rattle.sia_index.proofs.VersionRows.StableDeal.{filter_has}
use Rattle.sia_parts.specs.declared.finding.Edge.{Edge}
use Rattle.sia_parts.specs.Findings.{ListsEdges}
use Rattle.sia_parts.proofs.EdgeRows.EdgeLists.{edges_joined, edges_none}
use Rattle.si_audit.specs.Giving.{IsTextOf}
use Rattle.si_audit.proofs.OfLaws.FindingsExist.{kind_joins}

parts_of_line : (a s k b c e : List ℕ) → a ++ (s ++ k) ++ (s ++ b) ++ (s ++ c ++ e) ≡ a ++ (s ++ (k ++ (s ++ (b ++ (s ++ c))))) ++ e
parts_of_line a s k b c e = simp append_assoc

-- the word of a number that is spelled
pub spelled_at : {n : ℕ} (word : ℕ → List ℕ) (words : List (Word n)) (names : List ℕ) (i : ℕ) → map text_of words ≡ map word names → i < length names → word_at words i ≡ word (slice_index names i)
spelled_at word words names i same below = ap (λ (texts : List (List ℕ)). slice_index_or texts i []) same ∙ get_or-map word names i 0 [] below

-- a number below a power of ten has so many digits at most
pub numeral_short : (k n : ℕ) → 0 < k → n < 10 ^ k → n < 2 ^ 64 → length (numeral n) ≤ k
numeral_short k n some few fits = subst (λ (ds : List ℕ). length ds ≤ k) (sym (numeral_decimal n fits)) (length-decimal-le k n some few fits)

module _ (h : List Event) (s : Spelled) (txns keys : List ℕ) (are : ListsAscending (IsCommitted h) txns) (keys_are : AreWrittenKeys h keys)
    (txns_same : map text_of s.txns.items ≡ map txn_word txns) (keys_same : map text_of s.keys.items ≡ map key_word keys) (i : ℕ) (inside : i < length txns) where
  row_is_line : (row : EdgeTo) → row.target < length txns → row.key < length keys → row_line s i row ≡ edge_line (edge_of txns keys i row)
  row_is_line row target key =
      (λ j. codes "edge" ++ spelled_at txn_word s.txns.items txns i txns_same inside j ++ (codes " " ++ kind_word row.kind) ++ spelled_at txn_word s.txns.items txns row.target txns_same target j ++ spelled_at key_word s.keys.items keys row.key keys_same key j)
      ∙ ap (λ (l : List ℕ). codes "edge " ++ l) (parts_of_line (numeral (slice_index txns i)) (codes " ") (kind_word row.kind) (numeral (slice_index txns row.target)) (numeral (slice_index keys row.key)) (10 ∷ []))

  rows_are_lines : (rows : List EdgeTo) → AreEdgesFrom h (λ _. ⊤) i rows → flat_map (row_line s i) rows ≡ flat_map edge_line (map (edge_of txns keys i) rows)
  rows_are_lines rows from =
      let words : EdgeTo → List ℕ = row_line s i in
      let line_at : EdgeTo → List ℕ = λ row. edge_line (edge_of txns keys i row) in
      sym (flat_map-map (λ (l : List ℕ). l) words rows)
      ∙ ap (flat_map (λ (l : List ℕ). l)) (map_same words line_at (Contains rows) rows
      (λ row c. row_is_line row
      (let t = from.targets row c in (committed_number h txns are row.target t.0 t.1).0)
      (let k = from.keys row c in (key_number h keys keys_are row.key k.0 k.1).0))
      (All-contains_itself rows))
      ∙ flat_map-map (λ (l : List ℕ). l) line_at rows ∙ sym (flat_map-map edge_line (edge_of txns keys i) rows)

-- the text of a source's rows
pub text_from : (h : List Event) (s : Spelled) → AreSpelled h s → (txns : List ℕ) → ListsAscending (IsCommitted h) txns → (i : ℕ) → i < length txns → (rows : List EdgeTo) → AreEdgesFrom h (λ _. ⊤) i rows
    → (bytes : List ℕ) → AreLinesFrom h i bytes → flat_map (row_line s i) rows ≡ bytes
text_from h s spelled txns are i inside rows from bytes (edges, between, is) =
    let (names, names_are, txns_same) = spelled.txns in
    let (keys, keys_are, keys_same) = spelled.keys in
    let one : names ≡ txns = one_list_by _ _ names txns names_are are in
    rows_are_lines h s txns keys are keys_are (txns_same ∙ ap (map txn_word) one) keys_same i inside rows from
    ∙ ap (flat_map edge_line) (one_list_by _ _ (map (edge_of txns keys i) rows) edges (from.edges txns keys are keys_are) between) ∙ sym is

-- the word of each kind
pub kinds_are : {n : ℕ} (a b d : Word n) → text_of a ≡ codes " ww" → text_of b ≡ codes " wr" → text_of d ≡ codes " rw" → (kind : Kind) → word_at (a ∷ b ∷ d ∷ []) (kind_number kind) ≡ codes " " ++ kind_word kind
kinds_are a b d ww wr rw kind = grind arith

pub line_put : (old piece a b c : List ℕ) → old ++ piece ++ a ++ b ++ c ≡ old ++ (piece ++ (a ++ b ++ c))
line_put old piece a b c = simp append_assoc

words_put : (old piece a b c d e : List ℕ) → old ++ piece ++ a ++ b ++ c ++ d ++ e ≡ old ++ (piece ++ (a ++ b ++ c ++ d ++ e))
words_put old piece a b c d e = simp append_assoc

-- one more line is put
pub row_put : (s : Spelled) (i : ℕ) (rows : List EdgeTo) (r : ℕ) (d : EdgeTo) → r < length rows
    → (old piece whole now first second third fourth fifth : List ℕ) → now ≡ old ++ piece → whole ≡ piece ++ flat_map (row_line s i) (drop r rows)
    → first ≡ now ++ codes "edge" → second ≡ first ++ word_at s.txns.items i → third ≡ second ++ (codes " " ++ kind_word (get_or rows r d).kind)
    → fourth ≡ third ++ word_at s.txns.items (get_or rows r d).target → fifth ≡ fourth ++ word_at s.keys.items (get_or rows r d).key
    → (more : List ℕ) × (fifth ≡ old ++ more) × (whole ≡ more ++ flat_map (row_line s i) (drop (r + 1) rows))
row_put s i rows r d inside old piece whole now first second third fourth fifth so_far rest at_edge at_source at_kind at_txn at_key =
    let row = get_or rows r d in
    let source = word_at s.txns.items i in
    let kind = codes " " ++ kind_word row.kind in
    let txn = word_at s.txns.items row.target in
    let key = word_at s.keys.items row.key in (
      piece ++ row_line s i row,
      at_key ∙ ap (λ (l : List ℕ). l ++ key) (at_txn ∙ ap (λ (l : List ℕ). l ++ txn) (at_kind ∙ ap (λ (l : List ℕ). l ++ kind) (at_source ∙ ap (λ (l : List ℕ). l ++ source) (at_edge ∙ ap (λ (l : List ℕ). l ++ codes "edge") so_far))))
          ∙ words_put old piece (codes "edge") source kind txn key,
      rest ∙ ap (λ (l : List ℕ). piece ++ l) (at_drop_more (flat_map (row_line s i)) rows r d inside) ∙ sym (append_assoc piece (row_line s i row) (flat_map (row_line s i) (drop (r + 1) rows))),
    )

-- those of a list that pass a test
pub passing : {A : Type 0} (rank : A → List ℕ) (P Q : A → Type 0) (test : A → Bool) → ((x : A) → P x → test x ≡ true → Q x) → ((x : A) → Q x → P x × (test x ≡ true))
    → (xs : List A) → ListsBy rank P xs → ListsBy rank Q (filter test xs)
passing {A} rank P Q test has only xs all = record {
  ascending = AllPairs-filter (λ x y. Precedes (rank x) (rank y)) test xs all.ascending;
  each = λ x. (
    (λ c. has x
        ((all.each x).0 (All-contains (Contains xs) (filter test xs) x (All-filter test (Contains xs) xs (All-contains_itself xs)) c))
        (All-contains (λ y. test y ≡ true) (filter test xs) x (filter_passes test xs) c)),
    (λ is. let p = only x is in filter_has test xs x p.1 ((all.each x).1 p.0)),
  );
}

module _ (h : List Event) (txns : List ℕ) (are : ListsAscending (IsCommitted h) txns) where
  abbrev IsFrom : ℕ → ℕ → Edge → Type 0
  IsFrom = IsEdgeBetween h (λ _. ⊤)

  -- the number of a source tells its place
  at_number : (i j : ℕ) (e : Edge) (is : IsFrom i j e) → (is.2 < length txns) × (slice_index txns is.2 ≡ e.src)
  at_number i j e is = committed_number h txns are is.2 e.src is.5

  module _ (i to : ℕ) (less : i < to) where
    abbrev later : Edge → Bool
    later e = ltb (slice_index txns i) e.src

    abbrev own : Edge → Bool
    own e = ltb e.src (slice_index txns i + 1)

    is_own : (e : Edge) → IsFrom i to e → own e ≡ true → IsFrom i (i + 1) e
    is_own e is small =
        let at = at_number i to e is in
        let name = at.1 in
        let low = is.3 in
        elim (cases_lt i is.2) [
          | inl more ↦ (
              let up : slice_index txns i < slice_index txns is.2 = ascends (λ (x : ℕ). x) (IsCommitted h) txns are i is.2 0 more at.0 in
              let few = ltb-true e.src (slice_index txns i + 1) small in
              absurd (omega arith))
          | inr most ↦ (is.0, is.1, is.2, is.3, omega arith, is.5)
        ]

    own_is : (e : Edge) → IsFrom i (i + 1) e → IsFrom i to e × (own e ≡ true)
    own_is e is =
        let at = at_number i (i + 1) e is in
        let name = at.1 in
        let same : is.2 ≡ i = (let low = is.3 in let high = is.4 in omega arith) in
        let src : slice_index txns i ≡ e.src = ap (slice_index txns) (sym same) ∙ name in
        ((is.0, is.1, is.2, is.3, omega arith, is.5), lt-ltb e.src (slice_index txns i + 1) (omega arith))

    is_later : (e : Edge) → IsFrom i to e → later e ≡ true → IsFrom (i + 1) to e
    is_later e is more =
        let at = at_number i to e is in
        let name = at.1 in
        let low = is.3 in
        elim (cases_lt i is.2) [
          | inl above ↦ (is.0, is.1, is.2, omega arith, is.4, is.5)
          | inr most ↦ (
              let same : is.2 ≡ i = omega arith in
              let src : slice_index txns i ≡ e.src = ap (slice_index txns) (sym same) ∙ name in
              let big = ltb-true (slice_index txns i) e.src more in
              absurd (omega arith))
        ]

    later_is : (e : Edge) → IsFrom (i + 1) to e → IsFrom i to e × (later e ≡ true)
    later_is e is =
        let at = at_number (i + 1) to e is in
        let name = at.1 in
        let low = is.3 in
        let up : slice_index txns i < slice_index txns is.2 = ascends (λ (x : ℕ). x) (IsCommitted h) txns are i is.2 0 (omega arith) at.0 in
        ((is.0, is.1, is.2, omega arith, is.4, is.5), lt-ltb (slice_index txns i) e.src (omega arith))

    -- the edges from a source, and those from later ones
    parted : (edges : List Edge) → ListsEdgesBetween h (λ _. ⊤) i to edges
        → (xs ys : List Edge) × ListsEdgesBetween h (λ _. ⊤) i (i + 1) xs × ListsEdgesBetween h (λ _. ⊤) (i + 1) to ys × (edges ≡ xs ++ ys)
    parted edges all =
        let xs = filter own edges in
        let ys = filter later edges in
        let first = passing edge_rank (IsFrom i to) (IsFrom i (i + 1)) own is_own own_is edges all in
        let rest = passing edge_rank (IsFrom i to) (IsFrom (i + 1) to) later is_later later_is edges all in
        (xs, ys, first, rest, one_list_by edge_rank (IsFrom i to) edges (xs ++ ys) all (edges_joined h (λ _. ⊤) i (i + 1) to (omega arith) (omega arith) xs ys first rest))

  lines_from : (n i : ℕ) (edges : List Edge) → ListsEdgesBetween h (λ _. ⊤) i (i + n) edges → IsTextOf (AreLinesFrom h) i (i + n) (flat_map edge_line edges)
  lines_from zero i edges all =
      ([], tt, omega arith, ap (flat_map edge_line) (one_list_by edge_rank (IsFrom i (i + zero)) edges [] all (subst (λ to. ListsEdgesBetween h (λ _. ⊤) i to []) (omega arith) (edges_none h (λ _. ⊤) i))))
  lines_from (suc n) i edges all =
      let (xs, ys, first, rest, is) = parted i (i + suc n) (omega arith) edges all in
      let up : i + suc n ≡ i + 1 + n = omega arith in
      let (texts, tell, long, same) = lines_from n (i + 1) ys (subst (λ to. ListsEdgesBetween h (λ _. ⊤) (i + 1) to ys) up rest) in
      (flat_map edge_line xs ∷ texts, ((xs, first, refl), tell), omega arith, ap (flat_map edge_line) is ∙ flat_map-append edge_line xs ys ∙ ap (λ (b : List ℕ). flat_map edge_line xs ++ b) same)

  -- all edges are those of all sources
  pub lines_in_turn : (edges : List Edge) → ListsEdges h (λ _. ⊤) edges → IsTextOf (AreLinesFrom h) 0 (length txns) (flat_map edge_line edges)
  lines_in_turn edges all = subst (λ n. IsTextOf (AreLinesFrom h) 0 n (flat_map edge_line edges)) (omega arith) (lines_from (length txns) 0 edges (record {
    ascending = all.ascending;
    each = λ e. (
      (λ c. (
          let is = (all.each e).0 c in
          let at = (are.each e.src).1 (kind_joins h e.kind e.src e.dst e.key is.0).0 in
          (is.0, is.1, at.0, omega arith, (let below = at.1 in omega arith), (txns, are, at.1, get_or_default txns at.0 0 e.src at.1 ∙ at.2)))),
      (λ is. (all.each e).1 (is.0, is.1)),
    );
  }))
