-- The last token is judged, or the fault is told.
use Rattle.std.proofs.Common.{◌≡◌, ◌≤◌, ℕ, suc, Option, Some, None, List, refl, sym, subst, length, arith}
use Rattle.std.specs.Prelude.{IsNone}
use Rattle.sia_events.specs.declared.fault.Reason.{Reason}
use Rattle.sia_events.specs.declared.fault.Refusal.{Refusal}
use Rattle.sia_events.specs.declared.fault.TextFault.TheVariants.{Refused}
use Rattle.sia_events.specs.Refusals.{IsRefusal, IsAccepted}
use Rattle.sia_events.specs.Text.{StandsFor}
use Rattle.sia_events.specs.Judging.{Halts, JudgedAll, as_token}
use Rattle.sia_events.specs.LogTables.{events_of}
use Rattle.sia_events.proofs.Reading.Progresses.{at_end, stops_clean, ends_kept, ends_accepted, ends_refused, text_clean, text_history}
use Rattle.sia_events.proofs.Shared.Drafted.{tables_of}
use Rattle.sia_events.proofs.reader.TextReader.finish_log.Goals as goal

few_bytes : {count most bytes : ℕ} → count ≤ most → most ≡ bytes → count ≤ bytes
few_bytes few is = omega arith

no_fault : {fault : Option (ℕ × Reason)} → fault ≡ None → IsNone fault
no_fault none = subst (λ (o : Option (ℕ × Reason)). IsNone o) (sym none) refl

pub returns-in-Some-clause-reads : goal.returns-in-Some-clause-reads
returns-in-Some-clause-reads c = λ limits text stands.
    at_end (λ l. IsRefusal l text (Refused c.in-Some.token c.in-Some.reason)) _ c.args.self c.self.view_is (Some (c.in-Some.token, c.in-Some.reason)) c.in-Some.is limits text (λ own.
    ends_kept c.self.inside.limits text c.self.inside.count (events_of c.self.inside.judge.draft.tables) c.self.inside.unfinished.items c.self.inside.lost c.in-Some.token c.in-Some.reason own (few_bytes c.if-self-bytes.false c.bytes.ensures.bytes)) stands

pub invariant_of-result : goal.invariant_of-result
invariant_of-result c = grind (arith, no_fault, few_bytes, tables_of, text_history)

pub returns-in-Ok-clause-reads : goal.returns-in-Ok-clause-reads
returns-in-Ok-clause-reads c = λ limits text stands.
    let there = (c.self.invariant c.if-self.false (no_fault c.in_default.is) (few_bytes c.if-self-bytes.false c.bytes.ensures.bytes)).1 in
    let fine = subst (λ (u : List ℕ). JudgedAll c.self.inside.limits (events_of c.self.inside.judge.draft.tables) (as_token u) (events_of c.take_some.new.self.draft.tables)) c.deref.ensures.value c.in-Ok.ensures.taken in
    at_end (λ l. IsAccepted l text × StandsFor text (events_of c.take_some.new.self.draft.tables)) _ c.args.self c.self.view_is None c.in_default.is limits text (λ own.
    ends_accepted c.self.inside.limits text c.self.inside.count (events_of c.self.inside.judge.draft.tables) (events_of c.take_some.new.self.draft.tables) c.self.inside.unfinished.items c.self.inside.lost own (few_bytes c.if-self-bytes.false c.bytes.ensures.bytes) (text_clean _ _ _ _ there) fine) stands

pub returns-clause-reads : goal.returns-clause-reads
returns-clause-reads c = λ limits text stands.
    let there = (c.self.invariant c.if-self.false (no_fault c.in_default.is) (few_bytes c.if-self-bytes.false c.bytes.ensures.bytes)).1 in
    let old = c.self.inside in
    let all = events_of c.take_some.new.self.draft.tables in
    let clean = text_clean _ _ _ _ there in
    let h = subst (λ (u : List ℕ). Halts old.limits c.in-Err-Bad.field-0 (events_of old.judge.draft.tables) (as_token u) all) c.deref.ensures.value c.in-Err-Bad.ensures.refused in
    let stops = subst (λ (f : Refusal). Halts old.limits f (events_of old.judge.draft.tables) (as_token old.unfinished.items) all) c.in-Err-Bad.field-0-is h in
    at_end (λ l. IsRefusal l text (Refused c.next_token.result c.in-Err-Bad.reason)) _ c.args.self c.self.view_is None c.in_default.is limits text (λ own.
    let few = (stops_clean old.limits (events_of old.judge.draft.tables) all (as_token old.unfinished.items) c.in-Err-Bad.reason clean stops).few in
    let most : old.limits.events ≤ 500000000 = own.within.events in
    let place : suc (length all) ≡ c.next_token.result = omega (arith, c.next_token.ensures (omega arith)) in
    subst (λ n. IsRefusal old.limits text (Refused n c.in-Err-Bad.reason)) place (ends_refused old.limits text old.count (events_of old.judge.draft.tables) all old.unfinished.items old.lost own (few_bytes c.if-self-bytes.false c.bytes.ensures.bytes) clean c.in-Err-Bad.reason stops)) stands
