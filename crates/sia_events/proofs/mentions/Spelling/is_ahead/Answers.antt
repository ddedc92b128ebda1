-- The text begins with the bytes.
use Rattle.std.proofs.Common.{◌≡◌, ◌≤◌, not, refl, sym, length, take, drop, get_or, ap, ◌∙◌, arith}
use Rattle.std.proofs.lemmas.Bool.Decides.{Decides-eqb}
use Rattle.std.proofs.lemmas.List.{get_or-take, get_or_append_left, length-take-le}
use Rattle.std.proofs.lemmas.Simd.{length-zip2}
use Rattle.std.proofs.lemmas.Bool.{leb-true}
use Rattle.std.specs.List.{prefix_len}
use Rattle.std.specs.Simd.Lanes.{zip2}
use Rattle.std.proofs.lemmas.Slice.Eq.{starts_is}
use Rattle.sia_events.proofs.TokensRead.SameBytes.{compared, differ, few_same, same_lanes}
use Rattle.sia_events.proofs.mentions.Spelling.is_ahead.Goals as goal

pub returns-then-text-lt-BLOCK-clause-same : goal.returns-then-text-lt-BLOCK-clause-same
returns-then-text-lt-BLOCK-clause-same c = λ ahead k below.
    let s = c.args.self.now in
    let front = take s.len s.bytes in
    let is = (starts_is Decides-eqb c.args.text.now front c.starts_with.result c.starts_with.ensures.value).0 ahead in
    let long : length front ≡ s.len = length-take-le s.len s.bytes (omega (arith, c.requires, c.if-text-lt-BLOCK.true)) in
    ap (λ xs. get_or xs k 0) is ∙ get_or_append_left front (drop (length front) c.args.text.now) 0 k (omega arith) ∙ get_or-take s.len s.bytes k 0 below

pub returns-clause-few : goal.returns-clause-few
returns-clause-few c = λ ahead. let least = leb-true c.args.self.now.len c.min.result ahead in omega (arith, c.min.ensures)

pub returns-clause-same : goal.returns-clause-same
returns-clause-same c = λ ahead k below.
    let text = c.args.text.now in
    let s = c.args.self.now in
    let own : length s.bytes ≡ 16 = omega arith in
    let room : 16 ≤ length text = c.if-text-lt-BLOCK.false in
    let first = length-take-le 16 text room in
    let ms = zip2 differ (take 16 text) s.bytes in
    let long : length ms ≡ 16 = length-zip2 differ (take 16 text) s.bytes (first ∙ sym own) ∙ first in
    let least = leb-true s.len c.min.result ahead in
    let few : s.len ≤ prefix_len not ms = few_same ms _ s.len long (compared (take 16 text) s.bytes first own) (omega (arith, c.min.ensures)) (omega (arith, c.min.ensures)) in
    same_lanes text s.bytes (prefix_len not ms) room own refl k (omega arith)
