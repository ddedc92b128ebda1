use Rattle.std.proofs.Common.{List, ◌≡◌, inr, length, refl, subst, arith}
use Rattle.std.proofs.lemmas.Bool.Decides.{nat_tests}
use Rattle.sia_parts.specs.declared.accesses.RangeMiss.{RangeMiss}
use Rattle.sia_parts.proofs.Shared.FewNumbers.{few_written}
use Rattle.sia_graph.proofs.Shared.AccessLists.{none_missed}
use Rattle.sia_graph.proofs.evidence.size_for.Goals as goal

pub overflow_cast-result : goal.overflow_cast-result
overflow_cast-result c = let few = few_written c.args.evidence.now.index.now c.requires.well_formed c.written_keys.result.now c.written_keys.ensures in omega arith

pub returns-then-is_empty : goal.returns-then-is_empty
returns-then-is_empty c =
    let none : length c.rows.result.now ≡ 0 = grind (arith, nat_tests, c.is_empty.ensures, c.if-is_empty.true) in
    inr (refl, none_missed c.args.evidence.now.accesses.now (subst (λ (l : List RangeMiss). length l ≡ 0) c.rows.ensures none))
