-- The pairs so far have numbers.
use Rattle.std.proofs.Common.{take}
use Rattle.sia_events.specs.Drafts.{AreFound, Lists, mentioned}
use Rattle.sia_events.proofs.draft.Draft.list.Given as goal

abbrev pub invariant-loop-mention : goal.invariant-loop-mention
invariant-loop-mention l = AreFound l.self × Lists l.fn.self.tables l.self.tables (mentioned (take l.mention-index l.listed))
