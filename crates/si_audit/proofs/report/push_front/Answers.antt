use Rattle.std.proofs.Common.{◌≡◌, ◌&&◌, ◌++◌, ◌∙◌, ℕ, List, Option, Some, None, Bor, ap, get_or, subst, All, Contains, IfSome}
use Rattle.std.proofs.lemmas.List.Elements.{All-contains, All-contains_itself}
use Rattle.sia_events.specs.Isolation.{IsBadWrite}
use Rattle.sia_parts.specs.Acts.{HasActs}
use Rattle.sia_parts.specs.declared.finding.BadWrite.{BadWrite}
use Rattle.sia_parts.specs.declared.reasons.Recorded.{Recorded}
use Rattle.sia_graph.specs.Judgements.{IsJudgement}
use Rattle.si_audit.specs.Counts.{TellsCounts}
use Rattle.si_audit.specs.Explained.{TellsIf}
use Rattle.si_audit.specs.Lines as lines
use Rattle.si_audit.proofs.Shared.Pushed.{findings_pushed}
use Rattle.si_audit.proofs.Shared.Results.{ok_map}
use Rattle.si_audit.proofs.Shared.Telling.{IsToldBehind, told_if_none, told_if_some}
use Rattle.si_audit.proofs.report.push_front.Goals as goal
use Rattle.si_audit.proofs.report.push_front.Goals.{in-Some+in_ok-push_counts, in_default}

-- what holds of all that is listed, where reasons are wanted
all_found : {A : Type 0} (of : Option (Bor Recorded)) (P : Bor Recorded → Type 0) (Q : Bor Recorded → A → Type 0) (items xs : List A)
    → xs ≡ items → ((of : Bor Recorded) → P of → (x : A) → Contains items x → Q of x) → IfSome of P → IfSome of (λ of. All (Q of) xs)
all_found None P Q items xs same each none = none
all_found (Some of) P Q items xs same each some =
    λ k d below. each of some (get_or xs k d) (subst (λ l. Contains l (get_or xs k d)) same (All-contains_itself xs k d below))

both_if : (of : Option (Bor Recorded)) (P Q : Bor Recorded → Type 0) → IfSome of P → IfSome of Q → IfSome of (λ of. P of × Q of)
both_if None P Q p q = p
both_if (Some of) P Q p q = (p, q)

pub push_all-requires-clause-found : goal.push_all-requires-clause-found
push_all-requires-clause-found c = all_found c.args.of _ _ _ _ c.deref-3.ensures.value (λ of is x listed. ((is.bad_reads.each x).0 listed).0) c.requires.judgement

pub push_all-requires-2-clause-found : goal.push_all-requires-2-clause-found
push_all-requires-2-clause-found c =
    let writes = c.args.j.now.bad_writes.items in
    let P : Bor Recorded → Type 0 = λ of. IsJudgement of.now.history.now c.args.j.now × All (λ (b : BadWrite). HasActs of.now.history.now b.second of.now.acts.now) writes in
    let Q : Bor Recorded → BadWrite → Type 0 = λ of b. IsBadWrite of.now.history.now b.key b.first b.second × HasActs of.now.history.now b.second of.now.acts.now in
    let each : (of : Bor Recorded) → P of → (b : BadWrite) → Contains writes b → Q of b = λ of is b listed.
    (((is.0.bad_writes.each b).0 listed).0, All-contains (λ (b : BadWrite). HasActs of.now.history.now b.second of.now.acts.now) writes b is.1 listed) in
    all_found c.args.of P Q writes _ c.deref-4.ensures.value each (both_if c.args.of _ _ c.requires.judgement c.requires.acts)

pub push_all-requires-3-clause-found : goal.push_all-requires-3-clause-found
push_all-requires-3-clause-found c = all_found c.args.of _ _ _ _ c.deref-5.ensures.value (λ of is x listed. ((is.unexplained.each x).0 listed).0) c.requires.judgement

pub returns : goal.returns
returns c =
    let n = c.args.j.now.counts in
    let bad_reads = c.args.j.now.bad_reads.items in
    let bad_writes = c.args.j.now.bad_writes.items in
    let head = rw (c.deref.ensures.value, c.deref-2.ensures.value) at c.in_ok-push_head.ensures in
    let counts : IsToldBehind (TellsIf c.args.of (λ h. TellsCounts h bad_reads) bad_writes) c.push_head.new.out.items c.match-of.out.items = elim c.match-of.branch [
      | in-Some+in_ok-push_counts w ↦ rw (w.out-is) (told_if_some c.args.of _ (λ h. TellsCounts h bad_reads) bad_writes _ _ w.in-Some.is w.in_ok-push_counts.ensures)
      | in_default w ↦ rw (w.out-is) (told_if_none c.args.of (λ h. TellsCounts h bad_reads) bad_writes _ w.in_default.is)
    ] in
    let reads = rw c.deref-3.ensures.value at c.in_ok-push_all.ensures in
    let writes = rw c.deref-4.ensures.value at c.in_ok-push_all-2.ensures in
    ok_map _ _ c.push_all-3.result
    (λ x others. (
      counts.0,
      reads.0,
      writes.0,
      others.0,
      counts.1,
      reads.1,
      writes.1,
      others.1,
      findings_pushed (c.args.out.now.items ++ lines.events_line n.events n.committed n.aborted n.unfinished) (lines.isolation_line (lines.is_empty bad_reads && lines.is_empty bad_writes)) counts.0 _ _ _ _ _ _ _
          (counts.2 ∙ ap (λ (x : List ℕ). x ++ counts.0) head) reads.2 writes.2 others.2,
    ))
    (rw c.deref-5.ensures.value at c.push_all-3.ensures)
