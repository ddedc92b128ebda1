-- Each position of the part adds its bad writes, and the list of all is put in order.
use Rattle.std.proofs.Common.{◌≡◌, [], subst, arith}
use Rattle.std.specs.Prelude.{◌↔◌, Contains}
use Rattle.sia_events.specs.Isolation.{IsBadWrite}
use Rattle.sia_parts.specs.declared.finding.BadWrite.{BadWrite}
use Rattle.sia_parts.specs.Entries.{bad_write_rank}
use Rattle.sia_parts.specs.Parts.{IsInPart}
use Rattle.sia_parts.specs.Sights.{Adds}
use Rattle.sia_parts.proofs.Shared.Adding.{added_are}
use Rattle.sia_parts.proofs.Shared.BadWrites.{BadBetween, between_are, between_more, between_none}
use Rattle.sia_parts.proofs.Shared.Listing.{put_listed, bad_write_before}
use Rattle.sia_parts.proofs.Auditing.Passing.{has_number}
use Rattle.sia_parts.proofs.audit.bad_writes_of.Goals as goal
use Rattle.sia_parts.proofs.audit.bad_writes_of.Goals.{then-scope+else-loop-second-test, else-scope}

pub first_position-from-requires : goal.first_position-from-requires
first_position-from-requires c =
    let at = (c.requires.each c.args.scope.now.first).0 (omega arith, c.if-scope.true) in
    (at.1.0, at.1.1, at.1.2)

pub loop-second-init : goal.loop-second-init
loop-second-init c =
    let h = c.args.scope.now.ix.now in
    let first = c.first_position-from.ensures in
    let under = (c.first_or_end-to.ensures.parts c.first_position-from.result first.0 c.args.scope.now.first first.1 first.2).1 c.if-scope.true in
    record { stop = omega arith; adds = rw c.new-bad.ensures.items (between_none h c.requires.well_formed c.first_position-from.result []) }

pub loop-second-preserved : goal.loop-second-preserved
loop-second-preserved c =
    let h = c.args.scope.now.ix.now in
    let q = c.loop-second.second in
    let there = c.first_or_end-to.ensures.within q c.loop-second-test.true in
    record {
      stop = (let less = c.loop-second-test.true in omega arith);
      adds = between_more h c.requires.well_formed c.first_position-from.result q there.0 c.loop-second.auto.second there.1 [] c.loop-second.bad.items c.put_bad_with.new.bad.items c.loop-second.invariant.adds (c.in_ok-put_bad_with.ensures there.0 there.1);
    }

pub returns : goal.returns
returns c =
    let h = c.args.scope.now.ix.now in
    let wf = c.requires.well_formed in
    let part = c.args.scope.now.part in
    let keys = c.keys_law.ensures.0 in
    let are = c.keys_law.ensures.1 in
    let Q = λ (b : BadWrite). IsBadWrite h b.key b.first b.second × IsInPart part b.key in
    let each : (b : BadWrite) → Contains c.if-scope.bad.items b ↔ Q b = elim c.if-scope.branch [
      | then-scope+else-loop-second-test w ↦
          let first = w.first_position-from.ensures in
          let from = w.first_position-from.result in
          let end : w.loop-second.second ≡ w.first_or_end-to.result = let most = w.loop-second.invariant.stop in let least = w.loop-second-test.false in omega arith in
          let all = subst (λ n. Adds (BadBetween h from n) [] w.loop-second.bad.items) end w.loop-second.invariant.adds in
          rw w.bad-is (added_are (BadBetween h from w.first_or_end-to.result) Q w.loop-second.bad.items all
          (between_are h wf keys are part c.args.scope.now.first c.args.scope.now.end c.requires.each from w.first_or_end-to.result first.0 first.1 first.2 first.3 w.first_or_end-to.ensures.parts))
      | else-scope w ↦ rw (w.bad-is, c.new-bad.ensures.items) (λ b. (
        (λ has. absurd (let below = has.1 in omega arith)),
        (λ is.
            let j = has_number h keys are b.key b.second is.0.1 in
            let within = (c.requires.each j.0).1 (b.key, j.1, is.1) in
            absurd (let low = within.0 in let less = within.1 in let none = w.if-scope.false in omega arith)),
      ))
    ] in
    put_listed bad_write_rank Q _ (λ x y is other less. bad_write_before x y less) _ _ each
    c.in_ok-put_in_order.ensures.sorted c.in_ok-put_in_order.ensures.keeps c.in_ok-put_in_order.ensures.adds_none
