-- How many findings of each name there are. Words and their order are this project's own format (docs/FORMAT.md).
use Rattle.std.specs.Prelude.{◌≡◌, ◌⊎◌, ◌==◌, ℕ, suc, if◌then◌else◌, List, [], ◌∷◌, ◌++◌, codes, flat_map}
use Rattle.sia_events.specs.declared.event.Anomaly.{Anomaly}
use Rattle.sia_events.specs.declared.event.Anomaly.TheVariants.{OwnWriteMissed, AbortedRead, UncommittedRead, FutureRead, Phantom, StaleRead}
use Rattle.sia_events.specs.declared.event.Event.{Event}
use Rattle.sia_events.specs.Anomalies.{IsNamed}
use Rattle.sia_events.specs.Text.{numeral}
use Rattle.sia_parts.specs.declared.finding.BadRead.{BadRead}
use Rattle.sia_parts.specs.declared.finding.BadWrite.{BadWrite}
use Rattle.sia_parts.specs.LostUpdates.{IsLostUpdate}
use Rattle.si_audit.specs.Reasons.{anomaly_words, reason}

-- n of these have P
abbrev pub SoManyHave : {A : Type 0} → (A → Type 0) → List A → ℕ → Type 0
SoManyHave P [] n = n ≡ 0
SoManyHave P (x ∷ xs) n = (P x × (m : ℕ) × SoManyHave P xs m × (n ≡ suc m)) ⊎ ((¬ P x) × SoManyHave P xs n)

abbrev pub HasName : List Event → Anomaly → BadRead → Type 0
HasName h name b = IsNamed h b.place b.txn b.key b.saw b.due name

abbrev pub IsLost : List Event → BadWrite → Type 0
IsLost h b = IsLostUpdate h b.key b.first b.second

-- the names in the order of the line, each behind how many have it
abbrev pub all_counts : (Anomaly → ℕ) → ℕ → ℕ → List (ℕ × List ℕ)
all_counts named lost other = (named OwnWriteMissed, anomaly_words OwnWriteMissed) ∷ (named AbortedRead, anomaly_words AbortedRead)
    ∷ (named UncommittedRead, anomaly_words UncommittedRead) ∷ (named FutureRead, anomaly_words FutureRead)
    ∷ (named Phantom, anomaly_words Phantom) ∷ (named StaleRead, anomaly_words StaleRead)
    ∷ (lost, codes "lost update") ∷ (other, codes "write conflict") ∷ []

-- a name that none has is left out
abbrev pub count_words : ℕ × List ℕ → List (List ℕ)
count_words count = if count.0 == 0 then [] else (numeral count.0 ++ codes " " ++ count.1) ∷ []

-- with commas between; where there are none, there is no line
abbrev pub counts_line : List (List ℕ) → List ℕ
counts_line [] = []
counts_line (one ∷ more) = reason (one ++ flat_map (λ words. codes ", " ++ words) more)

-- below the line of isolation: how many of these bad reads have each name, and how many of these bad writes are lost updates, and
-- how many aren't
abbrev pub TellsCounts : List Event → List BadRead → List BadWrite → List ℕ → Type 0
TellsCounts h reads writes bytes = (named : Anomaly → ℕ) × (lost : ℕ) × (other : ℕ)
    × ((name : Anomaly) → SoManyHave (HasName h name) reads (named name))
    × SoManyHave (IsLost h) writes lost × SoManyHave (λ b. ¬ IsLost h b) writes other
    × (bytes ≡ counts_line (flat_map count_words (all_counts named lost other)))
