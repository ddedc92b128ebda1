-- A token that is taken is judged, and one that is refused stops the events. Room for events changes none.
use Rattle.std.specs.Prelude.{IfErr, OnOk, ⊤}
use Rattle.std.proofs.Common.{◌≡◌, ◌≢◌, List, ℕ, Err, length, arith, refl, subst}
use Rattle.std.proofs.lemmas.Bool.Decides.{nat_tests}
use Rattle.std.proofs.lemmas.List.{length-map}
use Rattle.std.proofs.lemmas.Result.{err_from_is_err_and}
use Rattle.sia_events.specs.declared.event.Event.{Event}
use Rattle.sia_events.specs.declared.fault.Reason.TheVariants.{TooManyEvents}
use Rattle.sia_events.specs.declared.fault.Refusal.TheVariants.{Bad}
use Rattle.sia_events.specs.Drafts.{mentioned}
use Rattle.sia_events.specs.Judging.{Halts, JudgedAll, as_token}
use Rattle.sia_events.specs.LogTables.{events_of, names_in}
use Rattle.sia_events.specs.Numbering.{event_of}
use Rattle.sia_events.specs.Parsing.{event_with}
use Rattle.sia_events.proofs.JudgedTexts.OneToken.{judged_full}
use Rattle.sia_events.proofs.JudgedTexts.Pieces.{halts_first, taken_first}
use Rattle.sia_events.proofs.JudgedTexts.Taken.{fails_unread, knows_after, refused, stays, stays_same, taken}
use Rattle.sia_events.proofs.judge.Judge.take_some.Goals.{In_ok-make_room}
use Rattle.sia_events.proofs.judge.Judge.take_some.Goals as goal

room : (c : goal.After-admit) → length (events_of c.make_room.new.self.draft.tables) ≢ c.args.limits.events
room c full = let ok = c.make_room.new.self.draft.tables.events.ok in let l = length-map c.make_room.new.self.draft.tables.events.items (event_of (names_in c.make_room.new.self.draft.tables)) in c.if-count-most.false (omega (arith, c.len-count.ensures, c.events-most.ensures.events))

pub admit-requires : goal.admit-requires
admit-requires c = record {
  knows = c.in_ok-make_room.ensures.knows;
  few = let ok = c.make_room.new.self.draft.tables.events.ok in omega (arith, c.len-count.ensures, c.if-count-most-2.false, c.events-most.ensures.few);
}

some : (c : In_ok-make_room) → length c.args.token.now ≢ 0
some c = grind (arith, nat_tests, c.if-is_empty.ensures, c.if-is_empty.false)

full : (c : goal.Then-count-most) → length (events_of c.make_room.new.self.draft.tables) ≡ c.args.limits.events
full c = let ok = c.make_room.new.self.draft.tables.events.ok in let l = length-map c.make_room.new.self.draft.tables.events.items (event_of (names_in c.make_room.new.self.draft.tables)) in omega (arith, c.len-count.ensures, c.events-most.ensures.events, c.if-count-most.true)

pub returns-then-count-most-clause-refused : goal.returns-then-count-most-clause-refused
returns-then-count-most-clause-refused c = subst (λ h. Halts c.args.limits (Bad TooManyEvents) h (as_token c.args.token.now) (events_of c.make_room.new.self.draft.tables)) c.in_ok-make_room.ensures.same
    (halts_first c.args.limits {X = ⊤} (Err (Bad TooManyEvents)) (events_of c.make_room.new.self.draft.tables) (events_of c.make_room.new.self.draft.tables) c.args.token.now (some (goal.at.returns-then-count-most-clause-refused c).In_ok-make_room)
    (judged_full c.args.limits (events_of c.make_room.new.self.draft.tables) c.args.token.now (full c)) refl)

unread : (c : goal.After-from_residual-in_err-token) → length (events_of c.make_room.new.self.draft.tables) ≢ c.args.limits.events
unread c full = let ok = c.make_room.new.self.draft.tables.events.ok in let l = length-map c.make_room.new.self.draft.tables.events.items (event_of (names_in c.make_room.new.self.draft.tables)) in c.if-count-most.false (omega (arith, c.len-count.ensures, c.events-most.ensures.events))

pub returns-in_err-token-clause-refused : goal.returns-in_err-token-clause-refused
returns-in_err-token-clause-refused c =
    let p = err_from_is_err_and c.from_residual-in_err-token.result c.from_residual-in_err-token.ensures.1 in
    let fault = c.in_err-token.field-0.0 in
    let events = events_of c.make_room.new.self.draft.tables in
    rw (p.1, p.2) (subst (λ h. Halts c.args.limits fault h (as_token c.args.token.now) events) c.in_ok-make_room.ensures.same
    (halts_first c.args.limits {X = ⊤} (Err fault) events events c.args.token.now (some (goal.at.returns-in_err-token-clause-refused c).In_ok-make_room) (fails_unread c.args.limits events c.args.token.now fault (unread c) c.in_err-token.ensures) (stays_same fault events)))

pub returns-clause-taken : goal.returns-clause-taken
returns-clause-taken c = subst (λ h. OnOk c.admit.result (JudgedAll c.args.limits h (as_token c.args.token.now) (events_of c.admit.new.self.draft.tables))) c.in_ok-make_room.ensures.same
    (taken_first c.args.limits c.admit.result (events_of c.make_room.new.self.draft.tables) (events_of c.admit.new.self.draft.tables) c.args.token.now (some (goal.at.returns-clause-taken c).In_ok-make_room)
    (taken c.args.limits c.make_room.new.self.draft c.admit.new.self.draft (event_with (mentioned c.event_of.new.listing.pairs.items) c.in_ok-token.token) c.args.token.now c.admit.result (room c) c.in_ok-token.ensures c.admit.ensures))

pub returns-clause-knows : goal.returns-clause-knows
returns-clause-knows c = knows_after c.make_room.new.self.draft c.admit.new.self.draft (event_with (mentioned c.event_of.new.listing.pairs.items) c.in_ok-token.token) c.admit.result c.admit.ensures

pub returns-clause-refused : goal.returns-clause-refused
returns-clause-refused c =
    let event = event_with (mentioned c.event_of.new.listing.pairs.items) c.in_ok-token.token in
    subst (λ h. IfErr c.admit.result (λ fault. Halts c.args.limits fault h (as_token c.args.token.now) (events_of c.admit.new.self.draft.tables))) c.in_ok-make_room.ensures.same
    (halts_first c.args.limits c.admit.result (events_of c.make_room.new.self.draft.tables) (events_of c.admit.new.self.draft.tables) c.args.token.now (some (goal.at.returns-clause-refused c).In_ok-make_room)
    (refused c.args.limits c.make_room.new.self.draft c.admit.new.self.draft event c.args.token.now c.admit.result (room c) c.in_ok-token.ensures c.admit.ensures)
    (stays c.make_room.new.self.draft c.admit.new.self.draft event c.admit.result c.admit.ensures))
