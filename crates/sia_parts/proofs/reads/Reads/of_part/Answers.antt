-- The places of the part are those that stand at its number.
use Rattle.std.proofs.Common.{◌≡◌, ◌<◌, List, Vec, Global, ℕ, ap, get_or, length, sym, subst, ◌∙◌, arith}
use Rattle.std.proofs.lemmas.Option.{get_or_from_slice_get, slice_get_within}
use Rattle.sia_parts.specs.Dealing.{HasReadsOf}
use Rattle.sia_parts.proofs.reads.Reads.of_part.Goals as goal

pub returns-in-Some : goal.returns-in-Some
returns-in-Some c h parts one are at =
    let n = c.args.i in
    let own = c.in-Some.places.now in
    let is : get_or c.args.self.now.dealt.items n own ≡ own = ap (λ (l : List (Vec ℕ Global)). get_or l n own) (sym c.deref.ensures.value) ∙ sym c.in-Some.ensures.lookup.1 in
    let reads = are.each n own one (slice_get_within parts n one at) in
    subst (HasReadsOf h one) (ap (λ (v : Vec ℕ Global). v.items) is ∙ sym c.as_slice.ensures.value)
    (subst (λ part. HasReadsOf h part (get_or c.args.self.now.dealt.items n own).items) (get_or_from_slice_get parts n one one at) reads)

pub returns-in-None : goal.returns-in-None
returns-in-None c h parts one are at =
    let below : c.args.i < length parts = slice_get_within parts c.args.i one at in
    let past = c.in-None.ensures.lookup.3 in
    let long = are.long in
    let same = ap (length {A = Vec ℕ Global}) c.deref.ensures.value in
    absurd (omega arith)
