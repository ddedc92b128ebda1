-- The search finds the one pair that is left of the list.
use Rattle.std.proofs.Common.{◌≡◌, ◌<◌, ◌++◌, List, ℕ, length, ap, refl, sym, subst, ◌∙◌, arith}
use Rattle.std.specs.Prelude.{Contains, filter, ◌==◌}
use Rattle.sia_events.specs.declared.log.Row.TheVariants as rows
use Rattle.sia_events.specs.Numbering.{event_of, names_of, range_at, ranges_of, IsWithin}
use Rattle.sia_events.specs.Text.{spell}
use Rattle.sia_events.specs.Telling.{listing, spell_about}
use Rattle.sia_events.proofs.Shared.LogReads.{range_ascends}
use Rattle.sia_events.proofs.Writing.ListedPairs.{kept_none, kept_one}
use Rattle.sia_events.proofs.Writing.RangeLists.{told_of_row}
use Rattle.sia_events.proofs.log.Log.push_about.Goals as goal
use Rattle.sia_events.proofs.log.Log.push_about.Goals.{in-Range+in-Some-listed_version+in_ok-push, in-Range+in_default-listed_version, in_default-row}

pub returns : goal.returns
returns c =
    let h = c.args.self.now in
    let names = names_of h in
    let k = c.args.key in
    let pairs = c.match-row-2.pairs.items in
    let left : (d r w : ℕ) → c.in-Some.row ≡ rows.Range d r w → filter (λ pair. pair.0 == k) (range_at names r).2 ≡ pairs = λ d r w is.
    let room : r < length (ranges_of h) = (subst (IsWithin names) is c.in-Some.ensures.within).1 in
    let up = range_ascends h c.law.ensures r room in
    elim c.match-row-2.branch [
      | in-Range+in-Some-listed_version+in_ok-push b ↦
          let same : b.in-Range.range ≡ r = cc in
          kept_one (range_at names r).2 up k b.in-Some-listed_version.saw (subst (λ n. Contains (range_at names n).2 (k, b.in-Some-listed_version.saw)) same b.in-Some-listed_version.ensures)
          ∙ sym (rw (b.pairs-is, b.in_ok-push.ensures.items, c.new-pairs.ensures.items) refl)
      | in-Range+in_default-listed_version b ↦
          let same : b.in-Range.range ≡ r = cc in
          kept_none (range_at names r).2 up k (subst (λ n. (v : ℕ) → ¬ Contains (range_at names n).2 (k, v)) same b.in_default-listed_version.ensures)
          ∙ sym (rw (b.pairs-is, c.new-pairs.ensures.items) refl)
      | in_default-row b ↦ absurd (b.in_default-row.not-Range d r w is)
    ] in
    let same_row : c.match-row-2.row ≡ c.in-Some.row = grind (arith, in-Range+in-Some-listed_version+in_ok-push, in-Range+in_default-listed_version, in_default-row) in
    c.in_ok-push_event.ensures ∙ ap (λ (bs : List ℕ). c.args.out.now.items ++ bs)
    (ap spell (c.event_from.ensures ∙ ap (λ l. listing l (event_of names c.match-row-2.row)) c.new.ensures ∙ ap (λ r. listing pairs (event_of names r)) same_row ∙ told_of_row names k pairs c.in-Some.row left) ∙ ap (spell_about k) c.in-Some.ensures.event)
