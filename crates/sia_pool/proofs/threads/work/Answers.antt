use Rattle.std.proofs.Common.{◌++◌, ◌∷◌, [], ap, ◌∙◌, append_assoc, subst, sym}
use Rattle.sia_pool.specs.Answers.{Owed, parts_of}
use Rattle.sia_pool.specs.Taker.{taker_view}
use Rattle.sia_pool.specs.View.{with_share}
use Rattle.sia_pool.specs.declared.rule.View.{View}
use Rattle.sia_pool.proofs.ThreadLemmas.{each-append, parts-append}
use Rattle.sia_pool.proofs.WorkLemmas.{took_below}
use Rattle.sia_pool.proofs.threads.work.Goals as goal

pub run-requires : goal.run-requires
run-requires g c = c.requires.takes c.in-Part.part (took_below _ (taker_view c.args.taker.now).count _ (ap (λ (v : View). v.count) c.taking.invariant.view) c.in-Part.ensures.step.1)

pub taking-preserved-in-Continue-branch-2 : goal.taking-preserved-in-Continue-branch-2
taking-preserved-in-Continue-branch-2 g c = record {
  same = c.in-Part.ensures.same ∙ c.taking.invariant.same;
  more = c.taking.invariant.more ++ c.in-Part.part ∷ [];
  view = c.in-Part.ensures.step.0 ∙ ap (λ (v : View). with_share v (v.share ++ c.in-Part.part ∷ [])) c.taking.invariant.view
      ∙ ap (λ l. with_share (taker_view c.args.taker.now) l) (append_assoc (taker_view c.args.taker.now).share c.taking.invariant.more (c.in-Part.part ∷ []));
  parts = ap (λ l. parts_of l) c.in_ok-push-in-Part.ensures.items ∙ parts-append c.taking.answers.items ((c.in-Part.part, c.in_ok-out-in-Part.out) ∷ []) ∙ ap (λ l. l ++ c.in-Part.part ∷ []) c.taking.invariant.parts
      ∙ append_assoc (parts_of c.args.answers.now.items) c.taking.invariant.more (c.in-Part.part ∷ []);
  owed = subst (Owed (g.J.Job.owes c.args.job.now)) (sym c.in_ok-push-in-Part.ensures.items)
      (each-append (λ a. g.J.Job.owes c.args.job.now a.0 a.1) c.taking.answers.items ((c.in-Part.part, c.in_ok-out-in-Part.out) ∷ []) c.taking.invariant.owed (c.in_ok-out-in-Part.ensures, tt));
}
