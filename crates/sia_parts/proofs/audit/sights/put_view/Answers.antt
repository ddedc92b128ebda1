-- The sight is bad where another version is due, and gives a look where the version is another's.
use Rattle.std.proofs.Common.{◌≡◌, ℕ, ap, sym, subst, ◌∙◌}
use Rattle.sia_events.specs.Numbering.{names_of, pair_at, IsPair}
use Rattle.sia_parts.proofs.Auditing.Gaining.{look_gains, no_look}
use Rattle.sia_parts.proofs.Auditing.Viewing.{gains_view, looks_not, on_ok, own_not, seen_sight, stands, wrong_named}
use Rattle.sia_parts.proofs.audit.sights.put_view.Goals as goal

pub pair-key-requires : goal.pair-key-requires
pair-key-requires c = subst (λ l. IsPair (names_of l) c.args.view.now.pair) c.requires.scope.same c.requires.view.pair

pub returns-then-saw-known : goal.returns-then-saw-known
returns-then-saw-known c =
    let h = c.args.scope.now.ix.now in
    let wf = c.requires.scope.well_formed in
    let known = c.args.known.now in
    let is_known = c.requires.known in
    let view = c.args.view.now in
    let is = c.requires.view in
    let sight = seen_sight h wf known is_known view is in
    let names : c.pair-key.result ≡ pair_at (names_of h) view.pair = subst (λ l. c.pair-key.result ≡ pair_at (names_of l) view.pair) (sym c.requires.scope.same) c.pair-key.ensures in
    let wrong = wrong_named h wf known is_known view is c.pair-key.result names c.due_at-due.result (c.due_at-due.ensures _ is.at.key is.mine) c.is_some-committed.result c.is_some-committed.ensures c.args.seen.now.wrong c.put_if_bad.new.wrong c.in_ok-put_if_bad.ensures in
    gains_view h wf known is_known view is c.args.seen.now c.put_if_bad.new.wrong c.args.seen.now.saw wrong (no_look h sight (own_not h wf known is_known view is (sym (ap (λ (q : ℕ × ℕ). q.1) names) ∙ c.if-saw-known.true)) c.args.seen.now.saw)

pub returns-in-Some : goal.returns-in-Some
returns-in-Some c =
    let h = c.args.scope.now.ix.now in
    let wf = c.requires.scope.well_formed in
    let known = c.args.known.now in
    let is_known = c.requires.known in
    let view = c.args.view.now in
    let is = c.requires.view in
    let sight = seen_sight h wf known is_known view is in
    let names : c.pair-key.result ≡ pair_at (names_of h) view.pair = subst (λ l. c.pair-key.result ≡ pair_at (names_of l) view.pair) (sym c.requires.scope.same) c.pair-key.ensures in
    let wrong = wrong_named h wf known is_known view is c.pair-key.result names c.due_at-due.result (c.due_at-due.ensures _ is.at.key is.mine) c.is_some-committed.result c.is_some-committed.ensures c.args.seen.now.wrong c.put_if_bad.new.wrong c.in_ok-put_if_bad.ensures in
    let there = stands h wf known is_known view is c.in-Some.position c.in-Some.is in
    on_ok c.put_position.result _ _
    (λ adds. gains_view h wf known is_known view is c.args.seen.now c.put_if_bad.new.wrong c.put_position.new.saw wrong
    (look_gains h wf sight known.number c.in-Some.position is_known.number (λ same. c.if-saw-known.false (ap (λ (q : ℕ × ℕ). q.1) names ∙ same)) there c.args.seen.now.saw c.put_position.new.saw adds))
    c.put_position.ensures

pub returns-in-None : goal.returns-in-None
returns-in-None c =
    let h = c.args.scope.now.ix.now in
    let wf = c.requires.scope.well_formed in
    let known = c.args.known.now in
    let is_known = c.requires.known in
    let view = c.args.view.now in
    let is = c.requires.view in
    let sight = seen_sight h wf known is_known view is in
    let names : c.pair-key.result ≡ pair_at (names_of h) view.pair = subst (λ l. c.pair-key.result ≡ pair_at (names_of l) view.pair) (sym c.requires.scope.same) c.pair-key.ensures in
    let wrong = wrong_named h wf known is_known view is c.pair-key.result names c.due_at-due.result (c.due_at-due.ensures _ is.at.key is.mine) c.is_some-committed.result c.is_some-committed.ensures c.args.seen.now.wrong c.put_if_bad.new.wrong c.in_ok-put_if_bad.ensures in
    gains_view h wf known is_known view is c.args.seen.now c.put_if_bad.new.wrong c.args.seen.now.saw wrong (no_look h sight (looks_not h wf known is_known view is c.in-None.is) c.args.seen.now.saw)
