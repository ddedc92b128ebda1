-- One piece is the whole text, and a reader that wanted memory in vain says so at its end.
use Rattle.std.proofs.Common.{[], sym, subst, arith}
use Rattle.std.specs.Prelude.{Result, OnOk, OnErr}
use Rattle.sia_events.specs.Limits.{standard}
use Rattle.sia_events.specs.Reading.{ReadsAs}
use Rattle.sia_events.proofs.reader.read_history.Goals as goal

either_way : {A B : Type 0} (P S N : Type 0) (r : Result A B) → OnOk r S → OnErr r N → (S → P) → (N → P) → P
either_way P S N r s n f g = grind (arith)

pub returns : goal.returns
returns c = either_way _ _ _ c.feed.result c.feed.ensures.stands c.feed.ensures.err (λ s. c.finish.ensures.reads standard c.args.text.now (s standard [] c.new-reader.ensures.stands)) (λ l. subst (ReadsAs standard c.args.text.now) (sym (c.finish.ensures.lost l)) tt)
