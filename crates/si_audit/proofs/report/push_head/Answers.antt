use Rattle.std.proofs.Common.{◌≡◌, ◌++◌, ◌∷◌, ◌∙◌, ◌&&◌, [], ℕ, List, codes, arith}
use Rattle.std.proofs.lemmas.Result.{on_ok_weaker}
use Rattle.si_audit.specs.Lines as lines
use Rattle.si_audit.proofs.report.push_head.Goals as goal

-- the line of the counts, and that of isolation behind it
pub returns : goal.returns
returns c =
    let o = c.args.out.now.items in
    let n = c.args.counts.now in
    let words : List (List ℕ) → List (List ℕ) → List (List ℕ) → List (List ℕ) → List ℕ =
    λ x y z w. o ++ lines.line (codes "events" ∷ (x ++ codes "committed" ∷ (y ++ codes "aborted" ∷ (z ++ codes "open" ∷ (w ++ []))))) in
    let pushed : c.push_line.new.out.items ≡ o ++ lines.events_line n.events n.committed n.aborted n.unfinished =
    c.in_ok-push_line.ensures ∙ (λ i. words (c.number.ensures i) (c.number-2.ensures i) (c.number-3.ensures i) (c.number-4.ensures i)) in
    let kept : c.if-is_empty.kept ≡ (lines.is_empty c.args.bad_reads.now && lines.is_empty c.args.bad_writes.now) = grind arith in
    on_ok_weaker c.push_whether.result (λ told. told ∙ (λ i. pushed i ++ lines.isolation_line (kept i))) c.push_whether.ensures
