use Rattle.std.proofs.Common.{ℕ, List, Ok, rules, subst, sym}
use Rattle.std.proofs.lemmas.Iterator.{YieldsList-from_map, YieldsList-from_slice, items_from_collect}
use Rattle.std.proofs.lemmas.Iterator.Consumers.{YieldsList-at}
use Rattle.sia_parts.specs.declared.finding.BadWrite.{BadWrite}
use Rattle.sia_parts.specs.Acts.{HasActs}
use Rattle.si_audit.proofs.OfReasons.Rounds.{all_of_map}
use Rattle.si_audit.specs.Account.{account_with}
use Rattle.si_audit.specs.Bounds.{EachTxn, IsKnownOf}
use Rattle.si_audit.specs.Explained.{IsExplained}
use Rattle.si_audit.specs.declared.snapshots.Bounds.{Bounds}
use Rattle.si_audit.proofs.Shared.Clean.{account_is}
use Rattle.si_audit.proofs.Shared.Pushed.{explained_pushed}
use Rattle.si_audit.proofs.explain.explained.Goals as goal

pub push_front-requires : goal.push_front-requires
push_front-requires c =
    let h = c.args.history.now in
    let writes = c.deref.result.now in
    let later = items_from_collect {E = ℕ} (Ok c.in_ok-later.later) c.in_ok-later.ensures.ran
    (YieldsList-from_map _ (λ (b : BadWrite). b.second) (YieldsList-at c.map.ensures.source (YieldsList-from_slice writes c.iter.ensures.rest)) c.map.ensures.closure (λ x r q k. search rules)) in
    let acts = all_of_map (λ t. HasActs h t c.in_ok-acts.acts.items) (λ (b : BadWrite). b.second) writes _ later c.in_ok-acts.ensures.has in
    record { index = c.requires.index; judgement = c.requires.judgement; acts = rw (c.deref-2.ensures.value, ← c.deref.ensures.value) acts }

pub bounds_of-requires : goal.bounds_of-requires
bounds_of-requires c = record { index = c.requires.index; judgement = c.requires.judgement }

pub push_snapshots-requires : goal.push_snapshots-requires
push_snapshots-requires c =
    let h = c.args.history.now in
    subst (λ (all : List Bounds). EachTxn (IsKnownOf h) h all) (sym c.deref-3.ensures.value) c.in_ok-bounds_of.ensures

pub returns : goal.returns
returns c =
    let h = c.args.history.now in
    let j = c.args.j.now in
    let told = c.in_ok-push_front.ensures in
    let snapshots = c.in_ok-push_snapshots.ensures in
    let danger = c.in_ok-push_danger.ensures in
    let verdict = c.in_ok-push_verdict_reasons.ensures in
    let law = c.listing_law.ensures h c.law.ensures in
    let edges = law.0 in
    let pivots = law.1 in
    let a = account_with j edges.0 pivots.0 in
    let all : IsExplained h a c.push_verdict_reasons.new.out.items = (
      told.0,
      told.1,
      told.2,
      told.3,
      snapshots.0,
      danger.0,
      verdict.0,
      told.4,
      told.5,
      told.6,
      told.7,
      snapshots.1,
      danger.1,
      verdict.1,
      explained_pushed c.new-out.result.items _ _ _ _ _ _ _ _ _ _ _ _ _ _ _ _ _ c.new-out.ensures.items told.8 snapshots.2 c.in_ok-push_whether.ensures danger.2 c.in_ok-push_whether-2.ensures verdict.2,
    ) in
    (a, account_is h j c.requires.judgement edges.0 edges.1 pivots.0 pivots.1, all)
