-- Each token that a separator follows is judged in turn, up to one that is refused.
use Rattle.std.proofs.Common.{◌≡◌, ◌++◌, ◌∷◌, [], ℕ, List, inl, refl, sym, ap, ◌∙◌, subst, append_assoc, arith}
use Rattle.std.proofs.lemmas.List.Elements.{All-from_recursion}
use Rattle.sia_events.specs.LogTables.{events_of}
use Rattle.sia_events.specs.Text.{tokens}
use Rattle.sia_events.specs.Judging.{JudgedAll, as_token}
use Rattle.sia_events.proofs.JudgedTexts.Tokens.{closes, tokens_more, past_gap}
use Rattle.std.proofs.lemmas.Result.{err_from_is_err_and}
use Rattle.sia_events.proofs.JudgedTexts.Pieces.{halts_in}
use Rattle.sia_events.proofs.JudgedTexts.Judged.{JudgedAll-append, JudgedAll-none}
use Rattle.sia_events.proofs.judge.Judge.take_closed.Goals as goal

pub loop-token-init : goal.loop-token-init
loop-token-init c = record {
  cut = ([], refl, inl refl, JudgedAll-none c.args.limits (events_of c.args.self.now.draft.tables));
  knows = c.requires;
}

pub loop-token-preserved : goal.loop-token-preserved
loop-token-preserved c =
    let i = c.loop-token.invariant.cut in
    let closed = i.0 in
    let s = c.in-Some.ensures.some in
    let token = c.in-Some.token.now in
    let after = c.in-Some.after.now in
    let more = closed ++ (token ++ s.separator ∷ []) in
    let whole : c.args.text.now ≡ more ++ after =
    i.1 ∙ ap (λ (bs : List ℕ). closed ++ bs) (s.whole ∙ sym (append_assoc token (s.separator ∷ []) after)) ∙ sym (append_assoc closed (token ++ s.separator ∷ []) after) in
    let all : JudgedAll c.args.limits (events_of c.args.self.now.draft.tables) (tokens more) (events_of c.take_some.new.self.draft.tables) =
    subst (λ (ts : List (List ℕ)). JudgedAll c.args.limits (events_of c.args.self.now.draft.tables) ts (events_of c.take_some.new.self.draft.tables)) (sym (tokens_more closed token s.separator i.2 s.unbroken s.separates))
    (JudgedAll-append c.args.limits (events_of c.args.self.now.draft.tables) (events_of c.loop-token.self.draft.tables) (events_of c.take_some.new.self.draft.tables) (tokens closed) (as_token token) i.3 c.in_ok-take_some.ensures.taken) in
    let gap = c.past_separators-rest.ensures in
    let past = past_gap more after gap.0 gap.1 gap.3 (closes closed token s.separator s.separates) in
    record {
      cut = grind (arith);
      knows = c.in_ok-take_some.ensures.knows;
    }

pub returns-clause-taken : goal.returns-clause-taken
returns-clause-taken c = grind (arith, All-from_recursion)

pub returns-in_err-take_some-clause-refused : goal.returns-in_err-take_some-clause-refused
returns-in_err-take_some-clause-refused c = grind (arith, err_from_is_err_and, halts_in)
