-- The read, and the version behind it.
use Rattle.std.proofs.Common.{◌≡◌, ◌≢◌, ℕ, [], ◌++◌, ◌∙◌, ap, refl, subst, sym, codes}
use Rattle.std.proofs.lemmas.Result.{on_ok_weaker}
use Rattle.sia_parts.specs.declared.finding.Kind.{Kind}
use Rattle.sia_parts.specs.declared.finding.Kind.TheVariants.{Wr}
use Rattle.sia_parts.specs.Telling.{TellsUnless, event_words}
use Rattle.sia_parts.proofs.OfReasons.PushedWords.{behind}
use Rattle.sia_parts.proofs.OfReasons.Sighted.{edge_is_seen, edge_writer}
use Rattle.si_audit.specs.Reasons.{untold_of}
use Rattle.si_audit.proofs.explain.push_sight.Goals as goal
use Rattle.si_audit.proofs.explain.push_sight.Goals.{in-Wr, in_default-kind}

-- of all but a wr edge no version is untold
untold : (kind : Kind) (t : ℕ) → kind ≢ Wr → 0 ≡ untold_of kind t
untold Wr t other = absurd (other refl)
untold kind t other = refl

pub first_sight-requires-clause-writer : goal.first_sight-requires-clause-writer
first_sight-requires-clause-writer c = edge_writer c.args.of.now.history.now c.args.e.now c.requires.edge

pub returns-in_default : goal.returns-in_default
returns-in_default c = absurd (edge_is_seen c.args.of.now.history.now c.args.e.now c.requires.edge c.requires.read c.in_default.ensures)

pub returns : goal.returns
returns c =
    let h = c.args.of.now.history.now in
    let k = c.args.e.now.key in
    let sight = c.in-Some.sight in
    let e = c.args.e.now in
    let known : c.match-e.known ≡ untold_of e.kind e.src = elim c.match-e.branch [
      | in-Wr w ↦ w.known-is ∙ ap (λ kind. untold_of kind e.src) (sym w.in-Wr.is)
      | in_default-kind w ↦ w.known-is ∙ untold e.kind e.src w.in_default-kind.not-Wr
    ] in
    on_ok_weaker c.push_unless.result (λ version. (
      event_words h k sight.place ++ version.0,
      (
        sight.place,
        sight.version,
        version.0,
        c.in-Some.ensures,
        subst (λ known. TellsUnless known h (codes "; ") k sight.version [] version.0) known version.1,
        refl,
      ),
      behind (c.args.out.now.items ++ c.args.before.now) _ _ (event_words h k sight.place) version.0 c.in_ok-push_event.ensures version.2,
    )) c.push_unless.ensures
