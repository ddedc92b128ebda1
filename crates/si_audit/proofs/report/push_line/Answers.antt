use Rattle.std.proofs.Common.{◌∷◌, ◌++◌, ◌∙◌, List, ℕ, ap, codes, sym, flat_map, append_assoc}
use Rattle.std.specs.List.{join_with_byte}
use Rattle.std.proofs.lemmas.Result.{on_ok_weaker}
use Rattle.si_audit.specs.Spaced.{spaced, words_of}
use Rattle.sia_events.proofs.Writing.Writing.{when_ok}
use Rattle.si_audit.proofs.OfReport.Chains.{join_spaced}
use Rattle.si_audit.proofs.report.push_line.Goals as goal

-- one step after another, from the last back to the first
pub returns : goal.returns
returns c =
    let o = c.args.out.now.items in
    let first = c.args.first.now in
    let words = flat_map words_of c.args.words.now in
    on_ok_weaker c.extend_from_slice-2.result
    (λ told. told ∙ ap (λ (x : List ℕ). x ++ codes "\n") (c.in_ok-push_words.ensures ∙ ap (λ (x : List ℕ). x ++ spaced words) c.in_ok-extend_from_slice.ensures.items
    ∙ append_assoc o first (spaced words) ∙ ap (λ (x : List ℕ). o ++ x) (sym (join_spaced first words)))
    ∙ append_assoc o (join_with_byte 32 (first ∷ words)) (codes "\n"))
    (when_ok _ _ _ _ c.extend_from_slice-2.ensures.items)
