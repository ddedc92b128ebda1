-- A separator, a byte that goes on, or the first of a token.
use Rattle.std.proofs.Common.{◌+◌, take, refl, sym, subst}
use Rattle.sia_events.specs.Locating.{Located, Follows}
use Rattle.sia_events.proofs.Shared.Following.{passed_gap, passed_on, passed_first}
use Rattle.sia_events.proofs.locating.Locator.pass.Goals as goal
use Rattle.sia_events.proofs.locating.Locator.pass.Goals.{then-is_separator, else-is_separator+then-self, else-is_separator+else-self+then-self-last}

pub returns-clause-follows : goal.returns-clause-follows
returns-clause-follows c = λ text few f may.
    let old = c.self.inside in
    let b = c.args.byte in
    let view : Located = record { number = old.number; next = old.next; place = old.place; token = take old.len old.token; is_open = old.is_open } in
    let here : Follows view text = subst (λ (l : Located). Follows l text) (sym c.self.view_is) f in
    let behind = c.behind-next.ensures text few here.next_is in
    elim c.if-is_separator.branch [
      | then-is_separator w ↦ rw w.self-inside-is (passed_gap view text b c.behind-next.result here behind (sym (w.if-is_separator.ensures)))
      | else-is_separator+then-self w ↦ rw w.self-inside-is (passed_on view text b c.behind-next.result here behind (take w.keep-self-inside.result w.keep-self-inside.new.token) w.if-self.true (sym (w.if-is_separator.ensures)) w.keep-self-inside.ensures.kept)
      | else-is_separator+else-self+then-self-last w ↦ rw w.self-inside-is (passed_first view text b c.behind-next.result here behind (old.number + 1) (take w.keep-self-inside-then-self-last.result w.keep-self-inside-then-self-last.new.token) w.if-self.false (sym (w.if-is_separator.ensures)) refl
          w.keep-self-inside-then-self-last.ensures.kept)
    ]
