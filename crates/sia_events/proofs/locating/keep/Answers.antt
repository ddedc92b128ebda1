-- What comes behind the bytes that are there, up to the sixtieth.
use Rattle.std.proofs.Common.{◌≡◌, ◌+◌, ◌-◌, ◌++◌, ℕ, List, length, take, ap, sym, ◌∙◌, arith}
use Rattle.std.proofs.lemmas.List.{length-take}
use Rattle.std.proofs.lemmas.Slice.{take-put_mid}
use Rattle.std.proofs.Math.Seq.{take-append-add}
use Rattle.sia_events.proofs.Shared.Following.{take_least}
use Rattle.sia_events.proofs.locating.keep.Goals as goal

pub returns-clause-kept : goal.returns-clause-kept
returns-clause-kept c =
    let token = c.args.token.now in
    let len = c.args.len in
    let bytes = c.args.bytes.now in
    let m = c.min.result in
    let front = take len token in
    let short = c.requires in
    let long : length front ≡ len = let told = c.told-token in omega (arith, length-take len token) in
    let counts : m ≡ len + m - len = omega arith in
    let copied : c.copy_from_slice.new.self ≡ take (60 - len) bytes = c.copy_from_slice.ensures.after ∙ ap (λ k. take k bytes) (sym counts ∙ c.min.ensures) ∙ take_least (60 - len) bytes in
    let whole : length front + (60 - len) ≡ 60 = omega arith in
    take-put_mid len (len + m - len) token c.copy_from_slice.new.self (len + m) (let as_many = ap length copied in omega (arith, length-take (60 - len) bytes, c.min.ensures)) (let told = c.told-token in omega arith)
    ∙ ap (λ (ys : List ℕ). front ++ ys) copied
    ∙ sym (take-append-add front bytes (60 - len))
    ∙ ap (λ k. take k (front ++ bytes)) whole
