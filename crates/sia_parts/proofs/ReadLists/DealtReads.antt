-- Read events that are dealt to parts one after another.
use Rattle.std.proofs.Common.{◌≡◌, inl, inr, ℕ, ◌+◌, ◌<◌, ◌≤◌, List, Vec, Global, length, sym, subst, ◌∙◌, arith}
use Rattle.std.specs.Prelude.{Contains, slice_index_or}
use Rattle.std.proofs.lemmas.Bool.{cases_lt}
use Rattle.sia_events.specs.declared.event.Event.{Event}
use Rattle.sia_events.specs.Reads.{SawAt}
use Rattle.sia_events.proofs.Shared.TransactionDecisions.{place_within}
use Rattle.sia_parts.specs.declared.cutting.Part.{Part}
use Rattle.sia_parts.specs.Dealing.{Deals, HasReadsOf}
use Rattle.sia_parts.specs.Parts.{IsInPart}

-- what was read at the first n places stands with the parts of whose keys it was
pub record HasDealt (h : List Event) (parts : List Part) (n : ℕ) (dealt : List (Vec ℕ Global)) : Type 0 where
  pub long : length dealt ≡ length parts
  pub each : (p i t k v : ℕ) (d : Vec ℕ Global) (part : Part) → p ≤ n → SawAt h p t k v → i < length parts → IsInPart (slice_index_or parts i part) k → Contains (slice_index_or dealt i d).items p

pub none_dealt : (h : List Event) (parts : List Part) (dealt : List (Vec ℕ Global)) → length dealt ≡ length parts → HasDealt h parts 0 dealt
none_dealt h parts dealt long = record {
  long = long;
  each = λ p i t k v d part le saw below inside. (let within = place_within h p saw.0 saw.1 in absurd (let some = within.0 in omega arith));
}

pub one_more : (h : List Event) (parts : List Part) (n : ℕ) (old new : List (Vec ℕ Global)) → HasDealt h parts n old → Deals h parts (n + 1) old new → HasDealt h parts (n + 1) new
one_more h parts n old new has deals = record {
  long = deals.long ∙ has.long;
  each = λ p i t k v d part le saw below inside. elim (cases_lt n p) [
    | inl after ↦
        let same : p ≡ n + 1 = omega arith in
        subst (λ q. Contains (slice_index_or new i d).items q) (sym same) (deals.adds i t k v d part (subst (λ q. SawAt h q t k v) same saw) below inside)
    | inr before ↦ deals.keeps i p d (let e = has.long in omega arith) (has.each p i t k v d part before saw below inside)
  ];
}

-- so each part has the read events of its keys
pub all_dealt : (h : List Event) (parts : List Part) (n : ℕ) (dealt : List (Vec ℕ Global)) → HasDealt h parts n dealt → length h ≤ n
    → (i : ℕ) (places : Vec ℕ Global) (part : Part) → i < length parts → HasReadsOf h (slice_index_or parts i part) (slice_index_or dealt i places).items
all_dealt h parts n dealt has enough i places part below p t k v saw inside =
    let within = place_within h p saw.0 saw.1 in
    has.each p i t k v places part (let most = within.1 in omega arith) saw below inside
