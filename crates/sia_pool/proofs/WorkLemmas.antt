-- What a take says of the part that was taken.
use Rattle.std.proofs.Common.{◌≡◌, ℕ, suc, ◌<◌, List, ◌∷◌, arith}
use Rattle.sia_pool.specs.declared.rule.View.{View}
use Rattle.std.specs.List.{range_with_len}
use Rattle.sia_pool.specs.Steps.{TookFront}
use Rattle.sia_pool.proofs.CoreLemmas.{dealt}

head_is : (x c n : ℕ) (left : List ℕ) → x ∷ left ≡ range_with_len c (suc n) → x ≡ c
head_is x c n left e = cc

-- a part that was taken is one of the parts
pub took_below : (v : View) (count x : ℕ) → v.count ≡ count → TookFront v x → x < count
took_below v count x same t =
    let g = dealt v.count v.workers (x ∷ t.left) t.shares t.before in
    let e = head_is x _ _ t.left g.rest in
    omega (arith, g.total, e, same)
