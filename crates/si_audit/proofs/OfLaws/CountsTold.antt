-- The line of counts: there is one, it is the only one, and nothing of it is left where reasons go.
use Rattle.std.proofs.Common.{◌≡◌, ◌==◌, inl, inr, ℕ, suc, Bool, true, false, cond, List, [], ◌∷◌, ◌++◌, codes, flat_map, map, refl, ap, sym, subst, ◌∙◌, Contains, arith}
use Rattle.std.proofs.lemmas.Bool.{cases_eq}
use Rattle.sia_events.specs.declared.event.Anomaly.{Anomaly}
use Rattle.sia_events.specs.declared.event.Event.{Event}
use Rattle.sia_events.specs.Anomalies.{anomaly_number}
use Rattle.sia_events.specs.Isolation.{IsBadRead}
use Rattle.sia_events.specs.Refusals.{IsWellFormed}
use Rattle.sia_events.specs.Text.{numeral}
use Rattle.sia_events.proofs.OfLaws.Anomalies.{anomaly_law}
use Rattle.sia_events.proofs.Shared.Decisions.{Decided}
use Rattle.sia_parts.specs.declared.finding.BadRead.{BadRead}
use Rattle.sia_parts.specs.declared.finding.BadWrite.{BadWrite}
use Rattle.sia_parts.proofs.Auditing.Members.{contains_first, contains_later}
use Rattle.sia_graph.proofs.Shared.Deciding.{not_decided}
use Rattle.si_audit.specs.Counts.{HasName, IsLost, SoManyHave, TellsCounts, all_counts, count_words, counts_line}
use Rattle.si_audit.proofs.OfLaws.ReportLines.{AreUnbroken, IsUnbroken, Leaves, all_both, glued, keep, leaves_nothing, numeral_unbroken, reason_goes, unbroken_both}
use Rattle.si_audit.proofs.OfReasons.Counting.{same_anomaly}

module _ {A : Type 0} (P : A → Type 0) where
  one_number : (xs : List A) (m n : ℕ) → SoManyHave P xs m → SoManyHave P xs n → m ≡ n
  one_number [] m n x y = x ∙ sym y
  one_number (z ∷ zs) m n (inl x) (inl y) = x.3 ∙ ap suc (one_number zs x.1 y.1 x.2 y.2) ∙ sym y.3
  one_number (z ∷ zs) m n (inl x) (inr y) = absurd (y.0 x.0)
  one_number (z ∷ zs) m n (inr x) (inl y) = absurd (x.0 y.0)
  one_number (z ∷ zs) m n (inr x) (inr y) = one_number zs m n x.1 y.1

  -- where it is decided of each
  so_many : (xs : List A) → ((x : A) → Contains xs x → Decided (P x)) → (n : ℕ) × SoManyHave P xs n
  so_many [] each = (0, refl)
  so_many (x ∷ xs) each =
      let rest = so_many xs (λ y c. each y (contains_later x y xs c)) in
      elim (each x (contains_first x xs)) [
        | inl has ↦ (suc rest.0, inl (has, rest.0, rest.1, refl))
        | inr not ↦ (rest.0, inr (not, rest.1))
      ]

module _ (h : List Event) where
  pub counts_told : IsWellFormed h → (reads : List BadRead) (writes : List BadWrite) → ((b : BadRead) → Contains reads b → IsBadRead h b.place b.txn b.key b.saw b.due)
      → ((b : BadWrite) → Decided (IsLost h b)) → (bytes : List ℕ) × TellsCounts h reads writes bytes
  counts_told wf reads writes bad decided =
      let named : (name : Anomaly) → (n : ℕ) × SoManyHave (HasName h name) reads n = λ name. so_many (HasName h name) reads (λ b c. name_or_not name b (bad b c)) in
      let lost = so_many (IsLost h) writes (λ b c. decided b) in
      let other = so_many (λ b. ¬ IsLost h b) writes (λ b c. not_decided (IsLost h b) (decided b)) in
      (_, ((λ name. (named name).0), lost.0, other.0, (λ name. (named name).1), lost.1, other.1, refl))
    where
      name_or_not : (name : Anomaly) (b : BadRead) → IsBadRead h b.place b.txn b.key b.saw b.due → Decided (HasName h name b)
      name_or_not name b bad =
          let own = (anomaly_law h wf).named b.place b.txn b.key b.saw b.due bad in
          elim (cases_eq (anomaly_number own.0) (anomaly_number name)) [
            | inl same ↦ inl (subst (λ n. HasName h n b) (same_anomaly own.0 name same) own.1)
            | inr other ↦ inr (λ has. other (ap anomaly_number ((anomaly_law h wf).once b.place b.txn b.key b.saw b.due own.0 name own.1 has)))
          ]

  pub one_counts : (reads : List BadRead) (writes : List BadWrite) (a b : List ℕ) → TellsCounts h reads writes a → TellsCounts h reads writes b → a ≡ b
  one_counts reads writes a b x y = grind (arith, one_number)

count_unbroken : (n : ℕ) (name : List ℕ) → IsUnbroken name → AreUnbroken (count_words (n, name))
count_unbroken n name p = by_test (n == 0)
  where
    by_test : (b : Bool) → AreUnbroken (cond b [] ((numeral n ++ codes " " ++ name) ∷ []))
    by_test true = tt
    by_test false = (glued (numeral n) (codes " " ∷ name ∷ []) (numeral_unbroken n) (refl, (p, tt)), tt)

counts_unbroken : (counts : List (ℕ × List ℕ)) → AreUnbroken (map (λ count. count.1) counts) → AreUnbroken (flat_map count_words counts)
counts_unbroken [] p = tt
counts_unbroken ((n, name) ∷ counts) p = all_both (count_words (n, name)) _ (count_unbroken n name p.0) (counts_unbroken counts p.1)

commas_unbroken : (words : List (List ℕ)) → AreUnbroken words → IsUnbroken (flat_map (λ w. codes ", " ++ w) words)
commas_unbroken [] p = refl
commas_unbroken (w ∷ words) p = unbroken_both (codes ", " ++ w) _ (unbroken_both (codes ", ") w refl p.0) (commas_unbroken words p.1)

module _ (h : List Event) where
  line_goes : (words : List (List ℕ)) → AreUnbroken words → Leaves keep (counts_line words) []
  line_goes words p = grind (arith, leaves_nothing, reason_goes, unbroken_both, commas_unbroken)

  pub counts_go : (reads : List BadRead) (writes : List BadWrite) (bytes : List ℕ) → TellsCounts h reads writes bytes → Leaves keep bytes []
  counts_go reads writes bytes told =
      subst (λ (b : List ℕ). Leaves keep b []) (sym told.6)
      (line_goes (flat_map count_words (all_counts told.0 told.1 told.2)) (counts_unbroken (all_counts told.0 told.1 told.2) (refl, (refl, (refl, (refl, (refl, (refl, (refl, (refl, tt))))))))))
