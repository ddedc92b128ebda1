use Rattle.std.proofs.Common.{◌≡◌, ◌++◌, ◌∙◌, List, ℕ, [], ap, codes, inl, inr, refl, subst, sym, arith}
use Rattle.std.proofs.lemmas.Result.{on_ok_weaker}
use Rattle.sia_events.specs.declared.event.Event.TheVariants.{Write}
use Rattle.sia_events.specs.Transactions.{CommitsAt, HasEvent, StartsAt}
use Rattle.sia_events.proofs.Writing.WellFormed.{one_commit}
use Rattle.sia_events.specs.Text.{numeral}
use Rattle.sia_parts.specs.Telling.{event_words, start_words}
use Rattle.si_audit.specs.Reasons.{TellsConflict, reason}
use Rattle.si_audit.proofs.Shared.Pushed.{start_alone, start_pushed, two_things}
use Rattle.si_audit.proofs.explain.BadWriteFinding.push_reasons.Goals as goal
use Rattle.si_audit.proofs.explain.BadWriteFinding.push_reasons.Goals.{in-Some-loss_of+in_ok-push_start-in-Some-loss_of+in_ok-push_event-in-Some-loss_of, in-None+in_ok-push_start-in-None}

pub returns-in_default : goal.returns-in_default
returns-in_default c =
    let b = c.args.self.now in
    let wrote = c.requires.found.0.1 in
    absurd (c.in_default.ensures (subst (λ h. HasEvent h b.second) (sym c.requires.index) (wrote.0, (Write b.second b.key, wrote.1, refl))))

pub returns : goal.returns
returns c =
    let b = c.args.self.now in
    let h = c.args.of.now.history.now in
    let s = c.in-Some.info.start in
    let name : (words : List ℕ) × TellsConflict h b (start_words b.second s) words × (c.match-loss_of.out.items ≡ c.args.out.now.items ++ codes "  " ++ words) = elim c.match-loss_of.branch [
      | in-Some-loss_of+in_ok-push_start-in-Some-loss_of+in_ok-push_event-in-Some-loss_of w ↦
          let place = w.in-Some-loss_of.place in (
            codes "lost update: " ++ start_words b.second s ++ codes "; " ++ event_words h b.key place,
            inl (place, w.in-Some-loss_of.ensures, refl),
            rw w.out-is (w.in_ok-push_event-in-Some-loss_of.ensures ∙ ap (λ (x : List ℕ). x ++ [] ++ event_words h b.key place) w.in_ok-push_start-in-Some-loss_of.ensures
                ∙ start_pushed c.args.out.now.items (codes "  ") (codes "lost update: ") (codes "transaction ") (numeral b.second) (codes " starts after event ") (numeral s) (codes "; ") (event_words h b.key place)),
          )
      | in-None+in_ok-push_start-in-None w ↦ (
        codes "write conflict: " ++ start_words b.second s,
        inr (w.in-None.ensures, refl),
        rw w.out-is (w.in_ok-push_start-in-None.ensures
            ∙ start_alone c.args.out.now.items (codes "  ") (codes "write conflict: ") (codes "transaction ") (numeral b.second) (codes " starts after event ") (numeral s)),
      )
    ] in
    let first = c.in_ok-push_version.ensures in
    let known = c.in-Some.ensures in
    let before = c.requires.found.0.3 in
    on_ok_weaker c.push_unless.result (λ told. elim told.1 [
      | inl same ↦ absurd (
          let one : before.0 ≡ before.1 = one_commit h c.law.ensures b.first before.0 before.1 before.2 (subst (λ t. CommitsAt h t before.1) same.0 before.3) in
          let less = before.4 in
          omega arith)
      | inr second ↦ (
        reason (name.0 ++ codes "; " ++ first.0 ++ codes "; " ++ second.1),
        (s, name.0, first.0, second.1, subst (λ h. StartsAt h b.second s) c.requires.index known.0, name.1, first.1, second.2, refl),
        rw (
          told.2,
          second.3,
          first.2,
          name.2,
        ) (two_things c.args.out.now.items (codes "  ") name.0 (codes "; ") first.0 second.1 (codes "\n")),
      )
    ]) c.push_unless.ensures
