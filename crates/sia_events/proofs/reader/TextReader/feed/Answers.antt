-- After a piece the reader stands for the text so far, whether its tokens are judged, one is refused, or one was.
use Rattle.std.proofs.Common.{◌≡◌, ◌+◌, ◌≤◌, ◌++◌, ℕ, suc, Option, Some, None, length, refl, sym, subst, arith}
use Rattle.std.specs.Prelude.{min, IsNone}
use Rattle.sia_events.specs.LogTables.{events_of}
use Rattle.sia_events.specs.declared.fault.Reason.{Reason}
use Rattle.sia_events.specs.declared.fault.Refusal.{Refusal}
use Rattle.sia_events.specs.Text.{tokens}
use Rattle.sia_events.specs.Streaming.{Progress, StandsForRead}
use Rattle.sia_events.specs.Judging.{HaltsIn}
use Rattle.sia_events.proofs.Reading.Progresses.{by_own, none_is, stops_clean, stands_taken, stands_refused, stands_decided, text_clean, text_more}
use Rattle.sia_events.proofs.reader.TextReader.feed.Goals as goal

pub returns-then-is_some-clause-stands : goal.returns-then-is_some-clause-stands
returns-then-is_some-clause-stands c = λ limits text stands.
    let old = c.self.inside in
    let given = subst (λ (p : Progress). StandsForRead limits p text) (sym c.self.view_is) stands in
    by_own (λ l. StandsForRead l (record { limits = old.limits; count = old.count; fault = old.fault; events = (events_of old.judge.draft.tables); unfinished = old.unfinished.items; lost = old.lost }) text)
    (λ l. StandsForRead l (record { limits = old.limits; count = c.min-self-inside.result; fault = old.fault; events = (events_of old.judge.draft.tables); unfinished = old.unfinished.items; lost = old.lost }) (text ++ c.args.piece.now)) old.limits limits given.limits_are (λ own.
    let counts : c.min-self-inside.result ≡ min (old.count + length c.args.piece.now) (old.limits.bytes + 1) = omega (arith, c.bytes-most.ensures.bytes, c.bytes-most.ensures.few, c.saturating_add.ensures, c.min-self-inside.ensures) in
    stands_decided old.limits text c.args.piece.now old.count c.min-self-inside.result counts old.fault (events_of old.judge.draft.tables) old.unfinished.items old.lost (sym c.if-is_some.ensures)
    own) given

pub invariant_of-self-in-Ok : goal.invariant_of-self-in-Ok
invariant_of-self-in-Ok c = grind (arith, text_more)

pub returns-in-Ok-clause-stands : goal.returns-in-Ok-clause-stands
returns-in-Ok-clause-stands c = λ limits text stands.
    let old = c.self.inside in
    let given = subst (λ (p : Progress). StandsForRead limits p text) (sym c.self.view_is) stands in
    by_own (λ l. StandsForRead l (record { limits = old.limits; count = old.count; fault = old.fault; events = (events_of old.judge.draft.tables); unfinished = old.unfinished.items; lost = old.lost }) text)
    (λ l. StandsForRead l (record { limits = old.limits; count = c.min-self-inside.result; fault = old.fault; events = (events_of c.take_piece.new.self.draft.tables); unfinished = c.take_piece.new.unfinished.items; lost = old.lost }) (text ++ c.args.piece.now)) old.limits limits given.limits_are (λ own.
    let none : old.fault ≡ None = none_is old.fault (sym c.if-is_some.ensures) in
    let counts : c.min-self-inside.result ≡ min (old.count + length c.args.piece.now) (old.limits.bytes + 1) = omega (arith, c.bytes-most.ensures.bytes, c.bytes-most.ensures.few, c.saturating_add.ensures, c.min-self-inside.ensures) in
    let below : old.count ≤ old.limits.bytes = omega (arith, c.bytes-most.ensures.bytes, c.bytes-most.ensures.few, c.saturating_add.ensures, c.min-self-inside.ensures) in
    let i = c.self.invariant c.if-self.false (subst (λ (o : Option (ℕ × Reason)). IsNone o) (sym none) refl) below in
    let here : StandsForRead old.limits (record { limits = old.limits; count = old.count; fault = None; events = (events_of old.judge.draft.tables); unfinished = old.unfinished.items; lost = old.lost }) text =
    subst (λ (o : Option (ℕ × Reason)). StandsForRead old.limits (record { limits = old.limits; count = old.count; fault = o; events = (events_of old.judge.draft.tables); unfinished = old.unfinished.items; lost = old.lost }) text) none
    own in
    let t = c.in-Ok.ensures.taken in
    subst (λ (o : Option (ℕ × Reason)). StandsForRead old.limits (record { limits = old.limits; count = c.min-self-inside.result; fault = o; events = (events_of c.take_piece.new.self.draft.tables); unfinished = c.take_piece.new.unfinished.items; lost = old.lost }) (text ++ c.args.piece.now)) (sym none)
    (stands_taken old.limits text c.args.piece.now old.count c.min-self-inside.result counts (events_of old.judge.draft.tables) (events_of c.take_piece.new.self.draft.tables) old.unfinished.items t.0 c.take_piece.new.unfinished.items old.lost old.lost here
    (text_clean old.limits old.count (events_of old.judge.draft.tables) old.unfinished.items i.1) t.1 t.2)) given

pub returns-in-Err-Bad-clause-stands : goal.returns-in-Err-Bad-clause-stands
returns-in-Err-Bad-clause-stands c = λ limits text stands.
    let old = c.self.inside in
    let given = subst (λ (p : Progress). StandsForRead limits p text) (sym c.self.view_is) stands in
    by_own (λ l. StandsForRead l (record { limits = old.limits; count = old.count; fault = old.fault; events = (events_of old.judge.draft.tables); unfinished = old.unfinished.items; lost = old.lost }) text)
    (λ l. StandsForRead l (record { limits = old.limits; count = c.min-self-inside.result; fault = Some (c.next_token.result, c.in-Err-Bad.reason); events = (events_of c.take_piece.new.self.draft.tables); unfinished = c.take_piece.new.unfinished.items; lost = old.lost }) (text ++ c.args.piece.now)) old.limits limits given.limits_are (λ own.
    let none : old.fault ≡ None = none_is old.fault (sym c.if-is_some.ensures) in
    let counts : c.min-self-inside.result ≡ min (old.count + length c.args.piece.now) (old.limits.bytes + 1) = omega (arith, c.bytes-most.ensures.bytes, c.bytes-most.ensures.few, c.saturating_add.ensures, c.min-self-inside.ensures) in
    let below : old.count ≤ old.limits.bytes = omega (arith, c.bytes-most.ensures.bytes, c.bytes-most.ensures.few, c.saturating_add.ensures, c.min-self-inside.ensures) in
    let i = c.self.invariant c.if-self.false (subst (λ (o : Option (ℕ × Reason)). IsNone o) (sym none) refl) below in
    let here : StandsForRead old.limits (record { limits = old.limits; count = old.count; fault = None; events = (events_of old.judge.draft.tables); unfinished = old.unfinished.items; lost = old.lost }) text =
    subst (λ (o : Option (ℕ × Reason)). StandsForRead old.limits (record { limits = old.limits; count = old.count; fault = o; events = (events_of old.judge.draft.tables); unfinished = old.unfinished.items; lost = old.lost }) text) none
    own in
    let h = subst (λ (f : Refusal). HaltsIn old.limits f (events_of old.judge.draft.tables) (old.unfinished.items ++ c.args.piece.now) (events_of c.take_piece.new.self.draft.tables)) c.in-Err-Bad.field-0-is c.in-Err-Bad.ensures.refused in
    let clean = text_clean old.limits old.count (events_of old.judge.draft.tables) old.unfinished.items i.1 in
    let few = (stops_clean old.limits (events_of old.judge.draft.tables) (events_of c.take_piece.new.self.draft.tables) (tokens h.0) c.in-Err-Bad.reason clean h.3).few in
    let most : old.limits.events ≤ 500000000 = own.within.events in
    let place : suc (length (events_of c.take_piece.new.self.draft.tables)) ≡ c.next_token.result = omega (arith, c.next_token.ensures (omega arith)) in
    subst (λ n. StandsForRead old.limits (record { limits = old.limits; count = c.min-self-inside.result; fault = Some (n, c.in-Err-Bad.reason); events = (events_of c.take_piece.new.self.draft.tables); unfinished = c.take_piece.new.unfinished.items; lost = old.lost }) (text ++ c.args.piece.now)) place
    (stands_refused old.limits text c.args.piece.now old.count c.min-self-inside.result counts (events_of old.judge.draft.tables) (events_of c.take_piece.new.self.draft.tables) old.unfinished.items h.0 h.1 c.take_piece.new.unfinished.items old.lost old.lost c.in-Err-Bad.reason here clean h.2 h.3)) given
