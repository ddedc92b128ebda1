-- Words that are pushed one after another.
use Rattle.std.proofs.Common.{Ok, rules, ℕ, List, [], ◌∷◌, ◌++◌, ◌∙◌, get_or, refl, codes}
use Rattle.std.proofs.lemmas.Iterator.{YieldsList-from_map, YieldsList-from_slice, items_from_collect}
use Rattle.std.proofs.lemmas.Iterator.Consumers.{YieldsList-at}
use Rattle.sia_parts.specs.Acts.{HasActs}
use Rattle.sia_parts.specs.Sightings.{reader_of}
use Rattle.si_audit.proofs.OfReasons.Rounds.{all_of_map}
use Rattle.sia_events.specs.Text.{numeral}
use Rattle.sia_parts.specs.declared.finding.Edge.{Edge}
use Rattle.sia_parts.specs.declared.finding.Kind.TheVariants.{Ww}
use Rattle.si_audit.specs.Lines.{edge_word}
use Rattle.si_audit.specs.Reasons.{TellsStep, reason}
use Rattle.si_audit.specs.Spaced.{spaced}
use Rattle.si_audit.proofs.Shared.Pushed.{step_words_behind}
use Rattle.si_audit.proofs.Shared.Telling.{next_told}
use Rattle.si_audit.proofs.explain.push_steps.Goals as goal

pub push_events-requires : goal.push_events-requires
push_events-requires c =
    let h = c.args.of.now.history.now in
    let edges = c.args.edges.now in
    let readers = items_from_collect {E = ℕ} (Ok c.in_ok-readers.readers) c.in_ok-readers.ensures.ran
    (YieldsList-from_map _ (λ (e : Edge). reader_of e.kind e.src e.dst) (YieldsList-at c.map.ensures.source (YieldsList-from_slice edges c.iter.ensures.rest)) c.map.ensures.closure (λ x r q k. search rules)) in
    let e : Edge = get_or edges c.loop-e.e-index (record { src = 0; dst = 0; kind = Ww; key = 0 }) in
    let acts : HasActs h (reader_of e.kind e.src e.dst) c.in_ok-acts.acts.items =
    all_of_map (λ t. HasActs h t c.in_ok-acts.acts.items) (λ (e : Edge). reader_of e.kind e.src e.dst) edges _ readers c.in_ok-acts.ensures.has c.loop-e.e-index (record { src = 0; dst = 0; kind = Ww; key = 0 }) c.loop-e-test.true in
    record {
      index = c.requires.index;
      acts = rw (c.deref.ensures.value) acts;
      edge = c.requires.edges c.loop-e.e-index _ c.loop-e-test.true;
    }

pub loop-e-preserved : goal.loop-e-preserved
loop-e-preserved c =
    let e : Edge = get_or c.args.edges.now c.loop-e.e-index (record { src = 0; dst = 0; kind = Ww; key = 0 }) in
    let told = c.in_ok-push_events.ensures in
    let words : List (List ℕ) → ℕ → List ℕ =
    λ src dst. c.loop-e.out.items ++ spaced ([] ∷ (src ++ edge_word e.kind e.key ∷ (numeral dst ++ codes ":") ∷ [] ∷ [])) in
    next_told (TellsStep c.args.of.now.history.now) c.args.edges.now c.loop-e.e-index _ _ _ _ c.loop-e-test.true c.loop-e.invariant (
      reason (numeral e.src ++ codes " " ++ edge_word e.kind e.key ++ codes " " ++ numeral e.dst ++ codes ": " ++ told.0),
      (told.0, told.1, refl),
      step_words_behind c.loop-e.out.items (codes "  ") (numeral e.src) (codes " ") (edge_word e.kind e.key) (numeral e.dst) (codes ":") told.0 (codes "\n") _ _ _
          (c.in_ok-push_words.ensures ∙ (λ i. words (c.number.ensures i) (c.from.ensures i))) told.2 c.in_ok-extend_from_slice.ensures.items,
    )
