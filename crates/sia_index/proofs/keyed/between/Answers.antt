-- What stands between the two points.
use Rattle.std.proofs.Common.{inl, inr, refl, arith}
use Rattle.std.proofs.lemmas.Bool.{cases_lt}
use Rattle.sia_index.proofs.keyed.between.Goals as goal

pub returns : goal.returns
returns g c = record {
  from = c.place_from-from.result;
  to = c.place_above.result;
  end = c.max-to.result;
  low = c.place_from-from.ensures.point;
  high = c.place_above.ensures.point;
  forward = omega (arith, c.max-to.ensures);
  most = omega (arith, c.max-to.ensures);
  no_more = elim (cases_lt c.place_from-from.result c.place_above.result) [
    | inl less ↦ inl (omega (arith, c.max-to.ensures))
    | inr more ↦ inr (omega (arith, c.max-to.ensures))
  ];
  bound = omega (arith, c.max-to.ensures, c.place_from-from.ensures.bound, c.place_above.ensures.bound);
  is = refl;
}
