use Rattle.std.proofs.Common.{List, ℕ, [], ◌∷◌, ◌≡◌, ◌++◌, ap, codes, flat_map, subst, sym, take_all, ◌∙◌, append_assoc, append-nil, refl, Some, None, slice_get}
use Rattle.sia_events.specs.Text.{numeral}
use Rattle.std.proofs.lemmas.Result.{on_ok_weaker}
use Rattle.sia_graph.specs.declared.cycle.Step.{Step}
use Rattle.sia_graph.specs.declared.judgement.Verdict.{Verdict}
use Rattle.sia_graph.specs.declared.judgement.Verdict.TheVariants.{Cycle}
use Rattle.si_audit.specs.Lines.{home_word, step_words, verdict_line}
use Rattle.si_audit.specs.Spaced.{spaced}
use Rattle.si_audit.proofs.OfReport.Chains.{cycle_bytes, four_written, next_line}
use Rattle.sia_events.proofs.Writing.Writing.{when_ok}
use Rattle.si_audit.proofs.report.push_verdict.Goals as goal
use Rattle.si_audit.proofs.report.push_verdict.Goals.{in-Some+in_ok-push_number-in-Cycle-3, in_default}

-- the first step again, where there is one
home_some : (steps : List Step) (s : Step) → Some s ≡ slice_get steps 0 → home_word steps ≡ numeral s.txn ∷ []
home_some [] s is = cc
home_some (t ∷ steps) s is = cc

home_none : (steps : List Step) → None ≡ slice_get steps 0 → home_word steps ≡ []
home_none [] none = refl
home_none (t ∷ steps) none = cc

-- one step after another
cycle_written : (v : Verdict) (steps : List Step) (o a b n : List ℕ) → v ≡ Cycle steps → a ≡ o ++ codes "cycle"
    → b ≡ a ++ flat_map (λ s. spaced (step_words s)) steps ++ spaced (home_word steps) → n ≡ b ++ 10 ∷ [] → n ≡ o ++ verdict_line v
cycle_written v steps o a b n is first second third =
    subst (λ (w : Verdict). n ≡ o ++ verdict_line w) (sym is)
    (rw (third, second, first) (four_written o (codes "cycle") (flat_map (λ s. spaced (step_words s)) steps) (spaced (home_word steps)) (10 ∷ []) ∙ ap (λ (xs : List ℕ). o ++ xs) (sym (cycle_bytes steps))))

-- a step: its transaction, and the edge from it
step_chain : (o s t e kind c key : List ℕ) → ((((((o ++ s) ++ t) ++ (s ++ e)) ++ kind) ++ c) ++ key) ++ e ≡ o ++ ((s ++ t) ++ ((s ++ (e ++ kind ++ c ++ key ++ e)) ++ []))
step_chain o s t e kind c key = simp (append_assoc, append-nil)

step_written : (o a b r kind : List ℕ) (t u key : ℕ) → t ≡ u → a ≡ o ++ codes " " ++ numeral t ++ codes " >" → b ≡ a ++ kind → r ≡ b ++ codes ":" ++ numeral key ++ codes ">"
    → r ≡ o ++ spaced (numeral u ∷ (codes ">" ++ kind ++ codes ":" ++ numeral key ++ codes ">") ∷ [])
step_written o a b r kind t u key same first second third =
    rw (third, second, first, same) (step_chain o (codes " ") (numeral u) (codes ">") kind (codes ":") (numeral key))

home_written : (o r : List ℕ) (t u : ℕ) → t ≡ u → r ≡ o ++ codes " " ++ numeral t ++ [] → r ≡ o ++ spaced (numeral u ∷ [])
home_written o r t u same is = rw (is, same) (simp (append_assoc, append-nil))

pub loop-s-preserved : goal.loop-s-preserved
loop-s-preserved c =
    let step = step_written _ _ _ _ _ _ _ _ c.from.ensures c.in_ok-push_number-in-Cycle.ensures (rw c.kind_word.ensures at c.in_ok-extend_from_slice-in-Cycle-2.ensures.items) c.in_ok-push_number-in-Cycle-2.ensures in
    next_line (λ s. spaced (step_words s)) _ _ _ c.as_slice-steps.result.now c.loop-s.s-index _ c.loop-s-test.true step c.loop-s.invariant

pub returns-after-first : goal.returns-after-first
returns-after-first c =
    let o = c.extend_from_slice.new.self.items in
    let steps = c.as_slice-steps.result.now in
    let home : c.match-first.out.items ≡ c.loop-s.out.items ++ spaced (home_word c.as_slice-steps.result.now) = elim c.match-first.branch [
      | in-Some+in_ok-push_number-in-Cycle-3 w ↦
          rw (w.out-is) (home_written _ _ _ _ w.from-in-Some.ensures w.in_ok-push_number-in-Cycle-3.ensures
          ∙ ap (λ ws. c.loop-s.out.items ++ spaced ws) (sym (home_some steps w.in-Some.first.now (rw w.in-Some.is at c.first.ensures.value))))
      | in_default w ↦
          rw (w.out-is) (sym (append-nil c.loop-s.out.items) ∙ ap (λ ws. c.loop-s.out.items ++ spaced ws) (sym (home_none steps (rw w.in_default.is at c.first.ensures.value))))
    ] in
    let told : c.match-first.out.items ≡ o ++ flat_map (λ s. spaced (step_words s)) c.as_slice-steps.result.now ++ spaced (home_word c.as_slice-steps.result.now) =
    home ∙ ap (λ (x : List ℕ). x ++ spaced (home_word steps)) (c.loop-s.invariant ∙ ap (λ ss. o ++ flat_map (λ s. spaced (step_words s)) ss) (take_all c.loop-s.s-index steps c.loop-s-test.false)) in
    on_ok_weaker c.extend_from_slice-in-Cycle.result (cycle_written c.args.verdict.now c.in-Cycle.steps c.args.out.now.items _ _ _ c.in-Cycle.is c.in_ok-extend_from_slice-in-Cycle.ensures.items
    (rw c.as_slice-steps.ensures at told)) (when_ok _ _ _ _ c.extend_from_slice-in-Cycle.ensures.items)
