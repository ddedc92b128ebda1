-- The text up to what is left ends at a separator, and its tokens are judged.
use Rattle.std.proofs.Common.{◌≡◌, ℕ, ◌++◌, List, length}
use Rattle.sia_events.specs.LogTables.{events_of}
use Rattle.sia_events.specs.Text.{tokens}
use Rattle.sia_events.specs.Drafts.{Knows}
use Rattle.sia_events.specs.Judging.{JudgedAll}
use Rattle.sia_events.proofs.JudgedTexts.Tokens.{IsClosed}
use Rattle.sia_events.proofs.judge.Judge.take_closed.Given as goal

abbrev pub invariant-loop-token : goal.invariant-loop-token
invariant-loop-token l = record {
  cut : (closed : List ℕ) × (l.text ≡ closed ++ l.rest) × IsClosed closed × JudgedAll l.limits (events_of l.initial.self.draft.tables) (tokens closed) (events_of l.self.draft.tables);
  knows : Knows l.self.draft;
}

abbrev pub decreases-loop-token : goal.decreases-loop-token
decreases-loop-token l = length l.rest
