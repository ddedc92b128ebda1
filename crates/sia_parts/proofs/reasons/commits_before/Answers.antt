use Rattle.std.proofs.Common.{◌≡◌, ◌<◌, arith}
use Rattle.std.proofs.lemmas.Bool.{lt-ltb, ltb-true}
use Rattle.sia_events.proofs.Writing.WellFormed.{one_commit}
use Rattle.sia_parts.proofs.reasons.commits_before.Goals as goal

pub returns-in-Some-Some : goal.returns-in-Some-Some
returns-in-Some-Some c =
    let one = c.in-Some-Some.one.commit in
    let other = c.in-Some-Some.other.commit in (
      (λ yes. (one, other, c.in-Some-Some.ensures.1, c.in-Some-Some.ensures'.1, ltb-true one other yes)),
      (λ before.
          let first : before.0 ≡ one = one_commit c.args.ix.now c.law.ensures c.args.first before.0 one before.2 c.in-Some-Some.ensures.1 in
          let second : before.1 ≡ other = one_commit c.args.ix.now c.law.ensures c.args.second before.1 other before.3 c.in-Some-Some.ensures'.1 in
          let less : before.0 < before.1 = before.4 in
          lt-ltb one other (omega arith)),
    )
