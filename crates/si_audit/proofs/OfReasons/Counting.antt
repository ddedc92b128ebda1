-- How many of the things of a list there are, one thing after another, and the line that tells of it, one count after another.
use Rattle.std.proofs.Common.{◌≡◌, ◌≢◌, ◌+◌, ◌-◌, ◌^◌, ◌<◌, ◌≤◌, Fits, w64, inl, inr, Bor, ℕ, suc, true, Option, List, [], ◌∷◌, ◌++◌, codes, flat_map, length, set, take, get_or, refl, ap, sym, subst, ◌∙◌, append-nil, append_assoc, arith, Contains, MatchOption, is_some}
use Rattle.std.proofs.lemmas.Bool.{cases_eq, eqb-true, false≢true}
use Rattle.std.proofs.lemmas.Grind.{flat_map-append, get_or-set_at}
use Rattle.std.proofs.lemmas.List.Elements.{All-contains_itself}
use Rattle.std.proofs.lemmas.List.{get_or-map, get_or-set_other, length-set, length-take-le, take_more}
use Rattle.sia_events.specs.declared.event.Anomaly.{Anomaly}
use Rattle.sia_events.specs.declared.event.Event.{Event}
use Rattle.sia_events.specs.Anomalies.{anomaly_number}
use Rattle.sia_events.specs.Refusals.{IsWellFormed}
use Rattle.sia_events.specs.Text.{numeral}
use Rattle.sia_events.proofs.OfLaws.Anomalies.{anomaly_law}
use Rattle.sia_parts.specs.declared.finding.BadRead.{BadRead}
use Rattle.sia_parts.specs.declared.finding.BadWrite.{BadWrite}
use Rattle.si_audit.specs.Counts.{HasName, IsLost, SoManyHave, all_counts, count_words, counts_line}

module _ {A : Type 0} (P : A → Type 0) where
  -- one more at the end, which has it or not
  has_more : (xs : List A) (x : A) (n : ℕ) → SoManyHave P xs n → P x → SoManyHave P (xs ++ x ∷ []) (suc n)
  has_more [] x n none has = inl (has, 0, refl, ap suc none)
  has_more (y ∷ ys) x n (inl some) has = inl (some.0, suc some.1, has_more ys x some.1 some.2 has, ap suc some.3)
  has_more (y ∷ ys) x n (inr some) has = inr (some.0, has_more ys x n some.1 has)

  has_not_more : (xs : List A) (x : A) (n : ℕ) → SoManyHave P xs n → ¬ P x → SoManyHave P (xs ++ x ∷ []) n
  has_not_more [] x n none not = inr (not, none)
  has_not_more (y ∷ ys) x n (inl some) not = inl (some.0, some.1, has_not_more ys x some.1 some.2 not, some.3)
  has_not_more (y ∷ ys) x n (inr some) not = inr (some.0, has_not_more ys x n some.1 not)

  at_most : (xs : List A) (n : ℕ) → SoManyHave P xs n → n ≤ length xs
  at_most [] n none = let e : n ≡ 0 = none in omega arith
  at_most (x ∷ xs) n (inl some) = let rest = at_most xs some.1 some.2 in let e : n ≡ suc some.1 = some.3 in omega arith
  at_most (x ∷ xs) n (inr some) = let rest = at_most xs n some.1 in omega arith

  pub at_most_taken : (xs : List A) (i n : ℕ) → i < length xs → SoManyHave P (take i xs) n → n ≤ i
  at_most_taken xs i n inside have = let few = at_most (take i xs) n have in let long = length-take-le i xs (omega arith) in omega arith

  -- the next one has it, or not
  pub next_has : (xs : List A) (i n m : ℕ) (d : A) → i < length xs → SoManyHave P (take i xs) n → P (get_or xs i d) → m ≡ n + 1 → SoManyHave P (take (i + 1) xs) m
  next_has xs i n m d inside have has is =
      let one : suc n ≡ m = omega arith in
      subst (λ ys. SoManyHave P ys m) (sym (take_more xs i d inside)) (subst (SoManyHave P (take i xs ++ get_or xs i d ∷ [])) one (has_more (take i xs) (get_or xs i d) n have has))

  pub next_has_not : (xs : List A) (i n m : ℕ) (d : A) → i < length xs → SoManyHave P (take i xs) n → (¬ P (get_or xs i d)) → m ≡ n → SoManyHave P (take (i + 1) xs) m
  next_has_not xs i n m d inside have not is =
      subst (λ ys. SoManyHave P ys m) (sym (take_more xs i d inside)) (subst (SoManyHave P (take i xs ++ get_or xs i d ∷ [])) (sym is) (has_not_more (take i xs) (get_or xs i d) n have not))

pub same_anomaly : (a b : Anomaly) → anomaly_number a ≡ anomaly_number b → a ≡ b
same_anomaly a b same = grind arith

-- each thing of a list is in the list
pub at_index : {A : Type 0} (xs items : List A) (i : ℕ) (d : A) → xs ≡ items → i < length xs → Contains items (get_or xs i d)
at_index xs items i d same below = subst (λ l. Contains l (get_or xs i d)) same (All-contains_itself xs i d below)

-- the answer is there
pub found_there : {A : Type 0} (P : Type 0) (Q : A → Type 0) (o : Option A) → is_some o ≡ true → MatchOption o P Q → (a : A) × Q a
found_there P Q o is some = grind (arith, false≢true)

-- before the end of the line
abbrev pub begun : List (List ℕ) → List ℕ
begun [] = []
begun (one ∷ more) = codes "  " ++ one ++ flat_map (λ words. codes ", " ++ words) more

-- what stands before the next count, and what behind the last one
abbrev pub lead : List (List ℕ) → List ℕ
lead [] = codes "  "
lead (one ∷ more) = codes ", "

abbrev pub tail : List (List ℕ) → List ℕ
tail [] = []
tail (one ∷ more) = codes "\n"

abbrev pub AreBegun : List (ℕ × List ℕ) → List ℕ → List ℕ → List ℕ → List ℕ → Type 0
AreBegun counts o out before end = (out ≡ o ++ begun (flat_map count_words counts)) × (before ≡ lead (flat_map count_words counts)) × (end ≡ tail (flat_map count_words counts))

pub line_ends : (words : List (List ℕ)) → begun words ++ tail words ≡ counts_line words
line_ends words = grind arith

-- one more
commas_more : (words : List (List ℕ)) (w : List ℕ) → flat_map (λ v. codes ", " ++ v) (words ++ w ∷ []) ≡ flat_map (λ v. codes ", " ++ v) words ++ (codes ", " ++ w)
commas_more [] w = append-nil (codes ", " ++ w)
commas_more (v ∷ words) w = ap (λ (x : List ℕ). (codes ", " ++ v) ++ x) (commas_more words w) ∙ sym (append_assoc (codes ", " ++ v) (flat_map (λ x. codes ", " ++ x) words) (codes ", " ++ w))

begun_more : (words : List (List ℕ)) (w : List ℕ) → begun (words ++ w ∷ []) ≡ begun words ++ (lead words ++ w)
begun_more words w = grind (arith, append-nil, commas_more, append_assoc)

lead_more : (words : List (List ℕ)) (w : List ℕ) → codes ", " ≡ lead (words ++ w ∷ [])
lead_more [] w = refl
lead_more (v ∷ words) w = refl

tail_more : (words : List (List ℕ)) (w : List ℕ) → codes "\n" ≡ tail (words ++ w ∷ [])
tail_more [] w = refl
tail_more (v ∷ words) w = refl

words_more : (counts : List (ℕ × List ℕ)) (n : ℕ) (name : List ℕ) → flat_map count_words (counts ++ (n, name) ∷ []) ≡ flat_map count_words counts ++ count_words (n, name)
words_more counts n name = flat_map-append count_words counts ((n, name) ∷ []) ∙ ap (λ (x : List (List ℕ)). flat_map count_words counts ++ x) (append-nil (count_words (n, name)))

-- a name that none has
pub none_more : (counts : List (ℕ × List ℕ)) (n : ℕ) (name o m before end : List ℕ) → n ≡ 0 → AreBegun counts o m before end → AreBegun (counts ++ (n, name) ∷ []) o m before end
none_more counts n name o m before end none so = grind (arith, words_more, append-nil)

-- one that some have
counted : (n : ℕ) (name : List ℕ) → n ≢ 0 → count_words (n, name) ≡ (numeral n ++ codes " " ++ name) ∷ []
counted n name some = grind (arith, eqb-true)

pub some_more : (counts : List (ℕ × List ℕ)) (n : ℕ) (name o m p q before end : List ℕ) → n ≢ 0 → p ≡ m ++ before ++ numeral n ++ codes " " → q ≡ p ++ name
    → AreBegun counts o m before end → AreBegun (counts ++ (n, name) ∷ []) o q (codes ", ") (codes "\n")
some_more counts n name o m p q before end some first second so = grind (arith, words_more, counted, begun_more, lead_more, tail_more, append_assoc)

-- the counts of a list of eight, in the order of the line
abbrev pub rows_of : List ℕ → List (ℕ × List ℕ)
rows_of counts = all_counts (λ name. get_or counts (anomaly_number name - 1) 0) (get_or counts 6 0) (get_or counts 7 0)

pub row_at : (counts : List ℕ) (i : ℕ) → i < 8 → get_or (rows_of counts) i (0, []) ≡ (get_or counts i 0, (get_or (rows_of counts) i (0, [])).1)
row_at counts i below = grind arith

pub rows_more : (counts : List ℕ) (i : ℕ) → i < 8 → take (i + 1) (rows_of counts) ≡ take i (rows_of counts) ++ (get_or counts i 0, (get_or (rows_of counts) i (0, [])).1) ∷ []
rows_more counts i below = take_more (rows_of counts) i (0, []) below ∙ ap (λ (r : ℕ × List ℕ). take i (rows_of counts) ++ r ∷ []) (row_at counts i below)

-- the names where the program has them
abbrev names_at : (a b c d e f g k : ℕ × ℕ) → List (Bor (List ℕ))
names_at a b c d e f g k = record { ref_ptr = a; now = codes "own write missed" } ∷ record { ref_ptr = b; now = codes "aborted read" } ∷ record { ref_ptr = c; now = codes "uncommitted read" }
    ∷ record { ref_ptr = d; now = codes "future read" } ∷ record { ref_ptr = e; now = codes "phantom" } ∷ record { ref_ptr = f; now = codes "stale read" }
    ∷ record { ref_ptr = g; now = codes "lost update" } ∷ record { ref_ptr = k; now = codes "write conflict" } ∷ []

pub name_pushed : (a b c d e f g k : ℕ × ℕ) (counts : List ℕ) (i : ℕ) (p q : List ℕ) → q ≡ p ++ (get_or (names_at a b c d e f g k) i (record { ref_ptr = (0, 0); now = [] })).now → i < 8
    → q ≡ p ++ (get_or (rows_of counts) i (0, [])).1
name_pushed a b c d e f g k counts i p q pushed below = grind (arith, get_or-map)

-- one more is counted at the number of a name
pub placed : (counts more : List ℕ) (k : ℕ) (own : Anomaly) → more ≡ set counts k (get_or counts k 0 + 1) → k ≡ anomaly_number own - 1
    → more ≡ set counts (anomaly_number own - 1) (get_or counts (anomaly_number own - 1) 0 + 1)
placed counts more k own e is = e ∙ (λ i. set counts (is i) (get_or counts (is i) 0 + 1))

number_small : (name : Anomaly) → (0 < anomaly_number name) × (anomaly_number name < 7)
number_small name = grind arith

module _ (h : List Event) where
  -- these are counted so far
  abbrev pub AreCounted : List BadRead → List BadWrite → List ℕ → Type 0
  AreCounted reads writes counts = (length counts ≡ 8) × ((name : Anomaly) → SoManyHave (HasName h name) reads (get_or counts (anomaly_number name - 1) 0))
      × SoManyHave (IsLost h) writes (get_or counts 6 0) × SoManyHave (λ b. ¬ IsLost h b) writes (get_or counts 7 0)

  -- at a name no more than there are
  pub read_fits : (reads : List BadRead) (i k : ℕ) (counts : List ℕ) (own : Anomaly) → i < length reads → i + 1 < 2 ^ 64 → AreCounted (take i reads) [] counts → k ≡ anomaly_number own - 1 → Fits w64 (get_or counts k 0 + 1)
  read_fits reads i k counts own inside short so is = grind (arith, at_most_taken)

  pub read_counted : IsWellFormed h → (reads : List BadRead) (i : ℕ) (d : BadRead) (counts more : List ℕ) (own : Anomaly) → i < length reads → HasName h own (get_or reads i d)
      → AreCounted (take i reads) [] counts → more ≡ set counts (anomaly_number own - 1) (get_or counts (anomaly_number own - 1) 0 + 1) → AreCounted (take (i + 1) reads) [] more
  read_counted wf reads i d counts more own inside has so is = grind (arith, number_small, length-set, cases_eq, next_has, same_anomaly, get_or-set_at, next_has_not, anomaly_law, get_or-set_other)

  module _ (reads : List BadRead) (writes : List BadWrite) (i : ℕ) (d : BadWrite) (counts more : List ℕ) (inside : i < length writes) (so : AreCounted reads (take i writes) counts) where
    still_named : (k v : ℕ) → 5 < k → (name : Anomaly) → SoManyHave (HasName h name) reads (get_or (set counts k v) (anomaly_number name - 1) 0)
    still_named k v past name = grind (arith, get_or-set_other, number_small)

    pub lost_counted : IsLost h (get_or writes i d) → more ≡ set counts 6 (get_or counts 6 0 + 1) → AreCounted reads (take (i + 1) writes) more
    lost_counted has is = grind (arith, length-set, still_named, next_has, get_or-set_at, next_has_not, get_or-set_other)

    pub conflict_counted : (¬ IsLost h (get_or writes i d)) → more ≡ set counts 7 (get_or counts 7 0 + 1) → AreCounted reads (take (i + 1) writes) more
    conflict_counted not is =
        let v : ℕ = get_or counts 7 0 + 1 in
        subst (AreCounted reads (take (i + 1) writes)) (sym is) (
          length-set counts 7 v ∙ so.0,
          still_named 7 v (omega arith),
          next_has_not (IsLost h) writes i _ _ d inside so.2 not (get_or-set_other counts 7 6 v 0 (λ e. omega arith)),
          next_has (λ b. ¬ IsLost h b) writes i _ _ d inside so.3 not (get_or-set_at counts 7 7 v 0 refl (let e = so.0 in omega arith)),
        )
