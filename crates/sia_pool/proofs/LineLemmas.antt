-- Stealers that join a line one by one.
use Rattle.std.proofs.Common.{◌≡◌, ℕ, suc, ◌+◌, List, [], ◌∷◌, ◌++◌, length, ap, ◌∙◌, arith}
use Rattle.atomic_blocks.specs.Lent.{RowsId}
use Rattle.std.specs.Global.{Global}
use Rattle.sia_pool.specs.declared.taker.Taker.{Taker}
use Rattle.sia_pool.specs.View.{stealer_view}
use Rattle.sia_pool.specs.Taker.{taker_view, taker_deque}
use Rattle.sia_pool.specs.Line.{IsLine}

pub line_push : (d : RowsId × Global) (c n j : ℕ) (ts : List Taker) (t : Taker) → IsLine d c n j ts → taker_deque t ≡ d → taker_view t ≡ stealer_view (j + length ts) c n [] → IsLine d c n j (ts ++ t ∷ [])
line_push d c n j [] t h p e = let z : j + 0 ≡ j = omega arith in (p, e ∙ ap (λ i. stealer_view i c n []) z, tt)
line_push d c n j (u ∷ ts) t h p e = let z : j + suc (length ts) ≡ suc j + length ts = omega arith in (h.0, h.1, line_push d c n (suc j) ts t h.2 p (e ∙ ap (λ i. stealer_view i c n []) z))
