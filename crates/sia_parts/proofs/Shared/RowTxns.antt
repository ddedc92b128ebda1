-- The log's transaction whose event a row is.
use Rattle.std.proofs.Common.{◌≡◌, ◌∙◌, ◌-◌, ◌<◌, ℕ, zero, suc, List, map, None, Some, ap, arith, length, refl, subst, sym}
use Rattle.std.specs.Prelude.{All, slice_index_or}
use Rattle.std.proofs.lemmas.List.{get_or-map, length-map}
use Rattle.std.proofs.lemmas.Option.{get_or_from_slice_get, slice_get_within}
use Rattle.sia_events.specs.declared.event.Event.{Event}
use Rattle.sia_events.specs.declared.log.Row.{Row}
use Rattle.sia_events.specs.declared.log.Row.TheVariants as rows
use Rattle.sia_events.specs.Events.{Saw, actor}
use Rattle.sia_events.specs.Numbering.{Names, IsWithin, event_of, txn_at}
use Rattle.sia_events.specs.Reads.{SawAt}
use Rattle.sia_parts.specs.Seeing.{reader_in, txn_in}

pub txn_within : (names : Names) (row : Row) → IsWithin names row → txn_in row < length names.txns
txn_within names (rows.Begin d start) is = is
txn_within names (rows.Read d k w) is = is.0
txn_within names (rows.OwnRead d k w) is = is.0
txn_within names (rows.Range d r w) is = is.0
txn_within names (rows.Write d k w) is = is.0
txn_within names (rows.Commit d) is = is
txn_within names (rows.Abort d) is = is

pub reader_within : (names : Names) (row : Row) (k v : ℕ) → IsWithin names row → Saw (event_of names row) k v → reader_in row < length names.txns
reader_within names (rows.Begin d start) k v is saw = absurd saw
reader_within names (rows.Read d key w) k v is saw = is.0
reader_within names (rows.OwnRead d key w) k v is saw = is.0
reader_within names (rows.Range d r w) k v is saw = is.0
reader_within names (rows.Write d key w) k v is saw = absurd saw
reader_within names (rows.Commit d) k v is saw = absurd saw
reader_within names (rows.Abort d) k v is saw = absurd saw

-- where something was seen a transaction reads
pub reads_within : (names : Names) (rows : List Row) (h : List Event) → map (event_of names) rows ≡ h → All (IsWithin names) rows → (p t k v : ℕ) → SawAt h p t k v → (d : Row)
    → (p - 1 < length rows) × (reader_in (slice_index_or rows (p - 1) d) < length names.txns)
reads_within names rows h same all zero t k v saw d = absurd (let x : None ≡ Some saw.0 = saw.1 in cc)
reads_within names rows h same all (suc i) t k v saw d =
    let below : i < length rows = omega (arith, slice_get_within h i saw.0 saw.1, length-map rows (event_of names), ap (length {A = Event}) same) in
    let is : event_of names (slice_index_or rows i d) ≡ saw.0 = sym (get_or-map (event_of names) rows i d saw.0 below) ∙ ap (λ es. slice_index_or es i saw.0) same ∙ get_or_from_slice_get h i saw.0 saw.0 saw.1 in
    let back : i ≡ suc i - 1 = omega arith in
    (omega (arith, below), subst (λ n. reader_in (slice_index_or rows n d) < length names.txns) back (reader_within names (slice_index_or rows i d) k v (all i d below) (subst (λ e. Saw e k v) (sym is) saw.3)))

pub txn_acts : (names : Names) (row : Row) → actor (event_of names row) ≡ txn_at names (txn_in row)
txn_acts names (rows.Begin d start) = refl
txn_acts names (rows.Read d k w) = refl
txn_acts names (rows.OwnRead d k w) = refl
txn_acts names (rows.Range d r w) = refl
txn_acts names (rows.Write d k w) = refl
txn_acts names (rows.Commit d) = refl
txn_acts names (rows.Abort d) = refl
