-- The written keys and their versions, as the tables of an index hold them.
use Rattle.std.proofs.Common.{◌≡◌, ◌≢◌, ℕ, ◌<◌, List, [], length, refl, subst, arith}
use Rattle.std.specs.Prelude.{All, slice_index}
use Rattle.std.proofs.lemmas.List.Elements.{All-contains}
use Rattle.sia_events.specs.declared.event.Event.{Event}
use Rattle.sia_events.proofs.Worked.OneList.{one_list_by}
use Rattle.sia_index.specs.Info.{AreVersions, AreWrittenKeys, IsKeyAt}

-- key number i is so in every list of the written keys
pub key_number : (h : List Event) (keys : List ℕ) → AreWrittenKeys h keys → (i k : ℕ) → IsKeyAt h i k → (i < length keys) × (slice_index keys i ≡ k)
key_number h keys are i k at =
    let same = one_list_by _ _ at.0 keys at.1 are in
    (subst (λ ks. i < length ks) same at.2, subst (λ ks. slice_index ks i ≡ k) same at.3)

-- a key that nothing wrote has no versions
pub no_versions : (h : List Event) (keys : List ℕ) → AreWrittenKeys h keys → (k : ℕ) → All (λ x. x ≢ k) keys → AreVersions h k []
no_versions h keys are k none = record {
  ascending = λ i j d less below. absurd (omega arith);
  each = λ made. (
    (λ c. absurd (let below = c.1 in omega arith)),
    (λ is. absurd (All-contains (λ x. x ≢ k) keys k none ((are.each k).1 (made.txn, is.0)) refl)),
  );
}
