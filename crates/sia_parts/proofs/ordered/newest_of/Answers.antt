-- The next list is put behind the others.
use Rattle.std.proofs.Common.{◌≡◌, inl, inr, ◌+◌, [], ◌∷◌, ◌++◌, length, ap, sym, subst, ◌∙◌, arith}
use Rattle.std.specs.Prelude.{Contains, slice_index_or}
use Rattle.std.proofs.lemmas.Bool.{cases_lt}
use Rattle.std.proofs.lemmas.List.{get_or-append-add, get_or_append_left, length-append}
use Rattle.sia_parts.specs.EdgeRows.{IsNewest}
use Rattle.sia_parts.proofs.ordered.newest_of.Goals as goal

pub loop-reader-init : goal.loop-reader-init
loop-reader-init c = (ap length c.in_ok-newest.ensures, λ u less. absurd (omega arith))

pub put_newest-requires-clause-positions : goal.put_newest-requires-clause-positions
put_newest-requires-clause-positions c = rw c.at.ensures (c.requires.positions c.loop-reader.reader (omega (arith, c.loop-reader-test.true, c.len-reader-end.ensures)))

pub put_newest-requires-clause-rise : goal.put_newest-requires-clause-rise
put_newest-requires-clause-rise c = rw c.at.ensures (c.requires.rise c.loop-reader.reader)

pub loop-reader-preserved : goal.loop-reader-preserved
loop-reader-preserved c =
    let old = c.loop-reader.newest in
    let put = c.in_ok-put_newest.ensures in
    let long = c.loop-reader.invariant.0 in (
      omega (arith, ap length put.1, length-append old (put.0 ∷ [])),
      λ u below. elim (cases_lt u c.loop-reader.reader) [
        | inl before ↦ subst (IsNewest c.args.ix.now (Contains (slice_index_or c.args.saw.now u []))) (sym (ap (λ lists. slice_index_or lists u []) put.1 ∙ get_or_append_left old (put.0 ∷ []) [] u (omega arith))) (c.loop-reader.invariant.1 u before)
        | inr last ↦
            let same : c.loop-reader.reader ≡ u = omega arith in
            let at : length old + 0 ≡ u = omega arith in
            let here : slice_index_or c.put_newest.new.newest u [] ≡ put.0 = ap (λ lists. slice_index_or lists u []) put.1 ∙ ap (λ n. slice_index_or (old ++ put.0 ∷ []) n []) (sym at) ∙ get_or-append-add old (put.0 ∷ []) 0 [] in
            subst (λ list. IsNewest c.args.ix.now (Contains (slice_index_or c.args.saw.now u [])) list) (sym here)
            (subst (λ xs. IsNewest c.args.ix.now (Contains xs) put.0) (c.at.ensures ∙ ap (λ n. slice_index_or c.args.saw.now n []) same) put.2)
      ],
    )

pub returns : goal.returns
returns c =
    let last = c.loop-reader-test.false in
    let most = c.loop-reader.auto in
    record {
      long = omega (arith, c.loop-reader.invariant.0, c.len-reader-end.ensures);
      each = λ i below. c.loop-reader.invariant.1 i (omega (arith, c.len-reader-end.ensures));
    }
