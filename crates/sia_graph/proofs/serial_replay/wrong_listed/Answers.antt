use Rattle.std.proofs.Common.{◌≡◌, ℕ, get_or, ap, sym, ◌∙◌}
use Rattle.std.proofs.lemmas.List.{get_or_default}
use Rattle.sia_graph.specs.Replaying.{version_in}
use Rattle.sia_graph.proofs.ReplayedTxns.RightAt.{before_key}
use Rattle.sia_graph.proofs.serial_replay.wrong_listed.Goals as goal

pub returns-then-version_of-saw : goal.returns-then-version_of-saw
returns-then-version_of-saw c =
    let listed = c.args.listed.now in
    let i = c.loop-key.key-index in
    let p = get_or listed i (0, 0) in (
      (p.1, (i, c.loop-key-test.true, get_or_default listed i (p.0, p.1) (0, 0) c.loop-key-test.true), λ e. c.if-version_of-saw.true (c.version_of.ensures ∙ sym e)),
      λ k v l d.
          let less = before_key listed c.requires i k v (0, 0) c.loop-key-test.true l d in
          let e : get_or listed d.0 (0, 0) ≡ (k, v) = get_or_default listed d.0 (0, 0) (k, v) d.1 ∙ d.2 in
          sym (ap (λ (q : ℕ × ℕ). q.1) e) ∙ c.loop-key.invariant d.0 (0, 0) less ∙ ap (λ (q : ℕ × ℕ). version_in c.args.versions.now q.0) e,
    )
