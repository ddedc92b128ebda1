-- Each row is of the transaction of its number.
use Rattle.std.specs.Prelude.{All}
use Rattle.std.proofs.Common.{◌≡◌, ℕ, Some, map, slice_get, ◌<◌, ◌-◌, List, [], ◌∷◌, ◌++◌, None, false, codes, inl, inr, refl, ap, sym, ◌∙◌, append_assoc, append-nil, get_or, length, subst, arith}
use Rattle.std.proofs.lemmas.Bool.{false≢true}
use Rattle.std.proofs.lemmas.List.{get_or-map, length-map, take_all}
use Rattle.sia_events.specs.Lists.{ListsAscending}
use Rattle.sia_events.specs.Numbering.{txns_of}
use Rattle.sia_events.specs.Text.{numeral}
use Rattle.sia_events.specs.Transactions.{HasEvent}
use Rattle.sia_index.specs.declared.names.Numbered.{Numbered}
use Rattle.sia_index.proofs.Shared.NumberedNames.{none_numbered}
use Rattle.si_audit.specs.Bounds.{IsKnownOf}
use Rattle.si_audit.specs.Explained.{TellsAll}
use Rattle.si_audit.specs.declared.snapshots.Bounds.{Bounds}
use Rattle.si_audit.specs.Lines.{line}
use Rattle.si_audit.specs.SnapshotLines.{TellsSnapshot}
use Rattle.si_audit.specs.Snapshots.{IsSnapshot}
use Rattle.si_audit.proofs.Shared.KnownRows.{row_known, early, spans}
use Rattle.si_audit.proofs.Shared.SnapshotsExist.{fits_start_or_not}
use Rattle.si_audit.proofs.Shared.Telling.{IsToldBehind, next_told}
use Rattle.si_audit.proofs.snapshot_lines.push_snapshots.Goals as goal
use Rattle.si_audit.proofs.snapshot_lines.push_snapshots.Goals.{In-loop-row, then-b+then-fits+in_ok-push_number+in_ok-push_number-2+in_ok-push_number-3, else-b+then-b-2+in_ok-push_number-4+in_ok-push_none, else-b-via-then-b+else-fits, else-b-via-else-b, else-b+else-b-2}

none_line : (o s e t n l why m u : List ℕ) → m ≡ o ++ (s ++ e) ++ t ++ (e ++ n ++ l) → u ≡ m ++ why → u ≡ o ++ (((s ++ (e ++ (t ++ (e ++ n)))) ++ l) ++ why)
none_line o s e t n l why m u first second = second ∙ ap (λ (x : List ℕ). x ++ why) first ∙ simp append_assoc

from_line : (o s e t f from w to l k m n : List ℕ) → k ≡ o ++ (s ++ e) ++ t ++ (e ++ f ++ e) → m ≡ k ++ [] ++ from ++ (e ++ w ++ e) → n ≡ m ++ [] ++ to ++ l
    → n ≡ o ++ ((s ++ (e ++ (t ++ (e ++ (f ++ (e ++ (from ++ (e ++ (w ++ (e ++ to)))))))))) ++ l)
from_line o s e t f from w to l k m n first second third =
    third ∙ ap (λ (x : List ℕ). x ++ [] ++ to ++ l) (second ∙ ap (λ (x : List ℕ). x ++ [] ++ from ++ (e ++ w ++ e)) first) ∙ simp (append_assoc, append-nil)

-- what is read where no row stands
abbrev unread : Bounds
unread = record { misfit = false; never = None; low = record { commit = 0; place = 0; key = 0 }; high = record { commit = 0; place = 0; key = 0 }; first = 0 }

-- the row that is gone through, and what is known of its transaction
abbrev row : In-loop-row → Numbered ℕ
row c = get_or c.deref-row-items.result.now c.loop-row.row-index none_numbered

known_of : (c : In-loop-row) → ((row c).number < length c.args.all.now) × HasEvent c.args.h.now (row c).name × IsKnownOf c.args.h.now (row c).name (get_or c.args.all.now (row c).number unread)
known_of c =
    let here = subst (All (λ (r : Numbered ℕ). slice_get (txns_of c.args.h.now) r.number ≡ Some r.name)) (sym c.deref-row-items.ensures.value) c.in_ok-txns_in_order.ensures.numbers in
    row_known c.args.h.now c.args.all.now c.requires (row c).number (row c).name (here c.loop-row.row-index none_numbered c.loop-row-test.true) unread

pub bounds-all-row : goal.bounds-all-row
bounds-all-row c = (known_of (goal.at.bounds-all-row c).In-loop-row).0

pub overflow_sub-min : goal.overflow_sub-min
overflow_sub-min c =
    let h = c.args.h.now in
    let r = row (goal.at.overflow_sub-min c).In-loop-row in
    let (within, has, known) = known_of (goal.at.overflow_sub-min c).In-loop-row in
    let some = (c.fits.ensures h r.name c.law.ensures has known).0 c.if-fits.true in
    let below = early h c.law.ensures r.name (get_or c.args.all.now r.number unread) known c.if-b.true some.0 some.1 in
    let (high, first) = below in
    omega arith

pub loop-row-preserved : goal.loop-row-preserved
loop-row-preserved c =
    let h = c.args.h.now in
    let rows = c.deref-row-items.result.now in
    let i = c.loop-row.row-index in
    let r = row (goal.at.loop-row-preserved c).In-loop-row in
    let t : ℕ = r.name in
    let b : Bounds = get_or c.args.all.now r.number unread in
    let (within, has, known) = known_of (goal.at.loop-row-preserved c).In-loop-row in
    let o = c.loop-row.out.items in
    let told : IsToldBehind (TellsSnapshot h t) o c.if-b.out.items =
    elim c.if-b.branch [
      | then-b+then-fits+in_ok-push_number+in_ok-push_number-2+in_ok-push_number-3 w ↦
          let fits = (w.fits.ensures h t c.law.ensures has known).0 w.if-fits.true in
          let end = w.min.result in
          let to = end - 1 in (
            line (codes "snapshot" ∷ numeral t ∷ codes "from" ∷ numeral b.low.commit ∷ codes "to" ∷ numeral to ∷ []),
            inr (inl (
              known.marked.misfit.0 w.if-b.true,
              b.low.commit,
              to,
              spans h c.law.ensures t b known w.if-b.true fits.0 fits.1 end (omega arith) (omega arith) (λ m below early. omega arith),
              refl,
            )),
            ap (λ out. out.items) w.out-is ∙ from_line o (codes "snapshot") (codes " ") (numeral t) (codes "from") (numeral b.low.commit) (codes "to") (numeral to) (codes "\n") _ _ _
                (rw c.from-name.ensures at w.in_ok-push_number.ensures) (rw w.from.ensures at w.in_ok-push_number-2.ensures) (rw w.from-then-fits.ensures at w.in_ok-push_number-3.ensures),
          )
      | else-b+then-b-2+in_ok-push_number-4+in_ok-push_none w ↦
          let never : (n : ℕ) → ¬ IsSnapshot h t n = λ n s. elim w.else-b.branch [
            | else-b-via-then-b+else-fits v ↦ false≢true (sym v.if-fits.false ∙ (v.fits.ensures h t c.law.ensures has known).1 (n, s))
            | else-b-via-else-b v ↦ false≢true (sym v.if-b.false ∙ w.if-b-2.true)
          ] in
          let why = w.in_ok-push_none.ensures t known w.if-b-2.true never in (
            line (codes "snapshot" ∷ numeral t ∷ codes "none" ∷ []) ++ why.0,
            inr (inr (known.marked.misfit.0 w.if-b-2.true, never, why.0, why.1, refl)),
            ap (λ out. out.items) w.out-is ∙ none_line o (codes "snapshot") (codes " ") (numeral t) (codes "none") (codes "\n") why.0 _ _ (rw c.from-name.ensures at w.in_ok-push_number-4.ensures) why.2,
          )
      | else-b+else-b-2 w ↦ (
        [],
        inl (
          elim (fits_start_or_not h c.law.ensures t has) [ inl fits ↦ fits | inr misfit ↦ absurd (false≢true (sym w.if-b-2.false ∙ known.marked.misfit.1 misfit)) ],
          refl,
        ),
        ap (λ out. out.items) w.out-is ∙ sym (append-nil _),
      )
    ] in
    let long = length-map rows (λ (x : Numbered ℕ). x.name) in
    let name : t ≡ get_or (map (λ (x : Numbered ℕ). x.name) rows) i 0 = sym (get_or-map (λ (x : Numbered ℕ). x.name) rows i none_numbered 0 c.loop-row-test.true) in
    next_told (TellsSnapshot h) (map (λ (x : Numbered ℕ). x.name) rows) i 0 _ _ _ (omega (arith, c.loop-row-test.true)) c.loop-row.invariant (subst (λ u. IsToldBehind (TellsSnapshot h u) o c.if-b.out.items) name told)

pub returns : goal.returns
returns c =
    let rows = c.deref-row-items.result.now in
    let long = length-map rows (λ (x : Numbered ℕ). x.name) in
    let (bytes, told, is) = c.loop-row.invariant in
    let whole = take_all c.loop-row.row-index (map (λ (x : Numbered ℕ). x.name) rows) (omega (arith, c.loop-row-test.false)) in
    let names = subst (λ (xs : List (Numbered ℕ)). ListsAscending (HasEvent c.args.h.now) (map (λ (x : Numbered ℕ). x.name) xs)) (sym c.deref-row-items.ensures.value) c.in_ok-txns_in_order.ensures.names in
    (bytes, (map (λ (x : Numbered ℕ). x.name) rows, names, subst (λ xs. TellsAll (TellsSnapshot c.args.h.now) xs bytes) whole told), is)
