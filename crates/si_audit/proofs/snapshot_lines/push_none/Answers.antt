-- A read that no snapshot has, or two bounds.
use Rattle.std.proofs.Common.{rules, ◌≡◌, ◌≢◌, ℕ, List, [], ◌++◌, codes, Option, Some, None, inl, inr, refl, ap, subst, sym, ◌∙◌, append_assoc, append-nil, get_or}
use Rattle.std.specs.Prelude.{IsTrue, MatchOption, option_map}
use Rattle.std.proofs.lemmas.Option.{get_or_from_slice_get}
use Rattle.std.proofs.lemmas.Result.{on_ok_weaker}
use Rattle.sia_events.specs.declared.event.Event.{Event}
use Rattle.sia_events.specs.declared.log.Row.{Row}
use Rattle.sia_events.specs.declared.log.Row.TheVariants as rows
use Rattle.sia_events.specs.Numbering.{Names, event_of, names_of, range_at, txn_at, txns_of}
use Rattle.sia_events.specs.Places.{at_place}
use Rattle.sia_events.specs.Refusals.{IsWellFormed}
use Rattle.sia_events.specs.Telling.{spell_about}
use Rattle.sia_events.specs.Text.{numeral}
use Rattle.sia_parts.specs.Telling.{event_words}
use Rattle.si_audit.specs.Bounds.{IsKnownOf}
use Rattle.si_audit.specs.Reasons.{reason}
use Rattle.si_audit.specs.SnapshotLines.{TellsExcluded, TellsNone, bare_words, bound_words, spell_bare}
use Rattle.si_audit.specs.Snapshots.{IsFirst, IsInNone, IsSnapshot}
use Rattle.si_audit.specs.declared.snapshots.Bounds.{Bounds}
use Rattle.si_audit.proofs.Shared.KnownRows.{excluded, latest, needed}
use Rattle.si_audit.proofs.Shared.Telling.{IsToldBehind}
use Rattle.si_audit.proofs.snapshot_lines.push_none.Goals as goal
use Rattle.si_audit.proofs.snapshot_lines.push_none.Goals.{in_default-row-via-in-Some+in_default, in_default-row-via-in_default}

-- a line of some words and an event
line_pushed : (o a b e q m n : List ℕ) → m ≡ o ++ (a ++ b) ++ e → n ≡ m ++ q → n ≡ o ++ (a ++ (b ++ e) ++ q)
line_pushed o a b e q m n first second = second ∙ ap (λ (x : List ℕ). x ++ q) first ∙ simp append_assoc

-- and one of a range
range_pushed : (o a b c p s r t l lo d hi e q k m n u : List ℕ) → k ≡ o ++ (a ++ b ++ c) ++ p ++ (s ++ r) → m ≡ k ++ [] ++ t ++ l → n ≡ m ++ [] ++ lo ++ d → u ≡ n ++ [] ++ hi ++ (e ++ q)
    → u ≡ o ++ (a ++ (b ++ (c ++ p ++ s ++ (r ++ t ++ l ++ lo ++ d ++ hi ++ [] ++ e))) ++ q)
range_pushed o a b c p s r t l lo d hi e q k m n u first second third fourth =
    fourth ∙ ap (λ (x : List ℕ). x ++ [] ++ hi ++ (e ++ q)) (third ∙ ap (λ (x : List ℕ). x ++ [] ++ lo ++ d) (second ∙ ap (λ (x : List ℕ). x ++ [] ++ t ++ l) first)) ∙ simp (append_assoc, append-nil)

-- which is spelled so
range_bare : (names : Names) (d r w t lo hi : ℕ) → txn_at names d ≡ t → lo ≡ (range_at names r).0 → hi ≡ (range_at names r).1
    → spell_bare (Some (event_of names (rows.Range d r w))) ≡ codes "r" ++ numeral t ++ codes "[" ++ numeral lo ++ codes ".." ++ numeral hi ++ [] ++ codes "]"
range_bare names d r w t lo hi same least most = λ i. codes "r" ++ numeral (same i) ++ codes "[" ++ numeral (sym least i) ++ codes ".." ++ numeral (sym most i) ++ [] ++ codes "]"

-- of all but a range the pairs make no difference
bare_of : (names : Names) (o : Option Row) → ((d r w : ℕ) → o ≢ Some (rows.Range d r w)) → spell_about 0 (option_map (event_of names) o) ≡ spell_bare (option_map (event_of names) o)
bare_of names (Some (rows.Range d r w)) other = absurd (other d r w refl)
bare_of names o other = refl

if_none : {A : Type 0} (P : Type 0) (Q : A → Type 0) (o : Option A) → ((a : A) → o ≢ Some a) → MatchOption o P Q → P
if_none P Q None other m = m
if_none P Q (Some a) other m = absurd (other a refl)

-- two bounds that exclude each other, one behind the other
bounds_told : (h : List Event) → IsWellFormed h → (t : ℕ) (b : Bounds) → IsKnownOf h t b → IsTrue b.misfit → ((n : ℕ) → ¬ IsSnapshot h t n) → ((at : ℕ × ℕ) → b.never ≢ Some at)
    → (bound o m n : List ℕ) → TellsExcluded h t bound → m ≡ o ++ bound_words (codes "  not without ") h b.low.commit b.low.place b.low.key → n ≡ m ++ bound → IsToldBehind (TellsNone h t) o n
bounds_told h wf t b known misfit never other bound o m n excludes first second =
    let none = if_none ((p k : ℕ) → ¬ IsInNone h t p k) (λ at. IsFirst (IsInNone h t) at.0 at.1) b.never other known.marked.never in
    let low = bound_words (codes "  not without ") h b.low.commit b.low.place b.low.key in (
      low ++ bound,
      inr (none, b.low.commit, b.low.place, b.low.key, bound, needed h wf t b known misfit none never, excludes, refl),
      second ∙ ap (λ (x : List ℕ). x ++ bound) first ∙ append_assoc o low bound,
    )

pub returns-in-Some : goal.returns-in-Some
returns-in-Some c t known misfit never =
    let h = c.args.h.now in
    let first = subst (λ (o : Option (ℕ × ℕ)). MatchOption o ((p k : ℕ) → ¬ IsInNone h t p k) (λ at. IsFirst (IsInNone h t) at.0 at.1)) c.in-Some.is known.marked.never in (
      reason (codes "in no snapshot: " ++ event_words h c.in-Some.key c.in-Some.place),
      inl (c.in-Some.place, c.in-Some.key, first, refl),
      line_pushed c.args.out.now.items (codes "  ") (codes "in no snapshot: ") _ (codes "\n") _ _ c.in_ok-push_event.ensures c.in_ok-extend_from_slice.ensures.items,
    )

pub returns-then-b : goal.returns-then-b
returns-then-b c t known misfit never =
    let h = c.args.h.now in
    let b = c.args.b.now in
    on_ok_weaker c.push_bound-then-b.result (λ pushed. bounds_told h c.law.ensures t b known misfit never c.in_default.not-Some (bound_words (codes "  not with ") h b.high.commit b.high.place b.high.key) _ _ _
    (inl (b.high.commit, b.high.place, b.high.key, excluded h c.law.ensures t b known misfit c.if-b.true, refl)) c.in_ok-push_bound.ensures pushed) c.push_bound-then-b.ensures

pub returns-in_default-row : goal.returns-in_default-row
returns-in_default-row c t known misfit never =
    let h = c.args.h.now in
    let b = c.args.b.now in
    let other : (d r w : ℕ) → c.row.result ≢ Some (rows.Range d r w) = λ d r w is. elim c.in_default-row.branch [ in_default-row-via-in-Some+in_default w ↦ search rules | in_default-row-via-in_default w ↦ search rules ] in
    let told : spell_about 0 (at_place h b.first) ≡ spell_bare (at_place h b.first) = subst (λ e. spell_about 0 e ≡ spell_bare e) c.row.ensures.event (bare_of (names_of h) c.row.result other) in
    bounds_told h c.law.ensures t b known misfit never c.in_default.not-Some (reason (codes "not after " ++ bare_words h b.first)) _ _ _ (inr (b.first, latest h c.law.ensures t b known misfit c.if-b.false, refl)) c.in_ok-push_bound.ensures
    (line_pushed _ (codes "  ") (codes "not after ") (bare_words h b.first) (codes "\n") _ _
    (c.in_ok-push_event-2.ensures ∙ ap (λ (x : List ℕ). c.push_bound.new.out.items ++ codes "  not after " ++ (codes "event " ++ numeral b.first ++ codes " " ++ x)) told) c.in_ok-extend_from_slice-2.ensures.items)

pub returns : goal.returns
returns c t known misfit never =
    let h = c.args.h.now in
    let b = c.args.b.now in
    let row = c.in-Some-Range in
    let names = names_of h in
    let name : get_or (txns_of h) row.txn 0 ≡ c.txn.result.name = get_or_from_slice_get (txns_of h) row.txn c.txn.result.name 0 c.txn.ensures.name in
    let told : spell_bare (at_place h b.first) ≡ codes "r" ++ numeral c.txn.result.name ++ codes "[" ++ numeral c.range-lo.result.0 ++ codes ".." ++ numeral c.range-lo.result.1 ++ [] ++ codes "]" =
    subst (λ e. spell_bare e ≡ codes "r" ++ numeral c.txn.result.name ++ codes "[" ++ numeral c.range-lo.result.0 ++ codes ".." ++ numeral c.range-lo.result.1 ++ [] ++ codes "]")
    (subst (λ own. Some (event_of names own) ≡ at_place h b.first) row.field-0-is row.ensures.event) (range_bare names row.txn row.range row.field-0-2 c.txn.result.name c.range-lo.result.0 c.range-lo.result.1 name c.range-lo.ensures.lo c.range-lo.ensures.hi) in
    bounds_told h c.law.ensures t b known misfit never c.in_default.not-Some (reason (codes "not after " ++ bare_words h b.first)) _ _ _ (inr (b.first, latest h c.law.ensures t b known misfit c.if-b.false, refl)) c.in_ok-push_bound.ensures
    (range_pushed c.push_bound.new.out.items (codes "  ") (codes "not after ") (codes "event ") (numeral b.first) (codes " ") (codes "r") (numeral c.txn.result.name) (codes "[") (numeral c.range-lo.result.0) (codes "..") (numeral c.range-lo.result.1) (codes "]") (codes "\n") _ _ _ _
    (rw c.from.ensures at c.in_ok-push_number.ensures) (rw c.from-2.ensures at c.in_ok-push_number-2.ensures) c.in_ok-push_number-3.ensures c.in_ok-push_number-4.ensures
    ∙ ap (λ (x : List ℕ). c.push_bound.new.out.items ++ reason (codes "not after " ++ (codes "event " ++ numeral b.first ++ codes " " ++ x))) (sym told))
