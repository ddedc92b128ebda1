use Rattle.std.proofs.Common.{length, refl}
use Rattle.sia_pool.proofs.CoreLemmas.{is_dealt}
use Rattle.sia_pool.proofs.DealLemmas.{is_reached}
use Rattle.sia_pool.proofs.RuleLemmas.{begins, pushes, takes, finds, forks, merges}
use Rattle.sia_pool.proofs.rule.laws_hold.Goals as goal

pub returns-clause-core_law : goal.returns-clause-core_law
returns-clause-core_law c = λ count workers left shares. (λ r. (length r.takers, is_dealt count workers left shares r), λ d. is_reached count workers d.0 left shares d.1)

pub returns-clause-rule_law : goal.returns-clause-rule_law
returns-clause-rule_law c = record {
  starts = begins;
  places = λ port part. pushes port _ part refl;
  takes = takes;
  finds = finds;
  gives = forks;
  takes_back = merges;
  reaches = λ items o vs h. (h.waiting, h.reached);
}
