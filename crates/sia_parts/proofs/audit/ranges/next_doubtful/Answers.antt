-- No version as of the start, and no own write, is below it.
use Rattle.std.proofs.Common.{ℕ, ◌-◌, ◌≤◌, ◌≡◌, Option, Some, None, unwrap_or, arith}
use Rattle.sia_events.specs.Transactions.{WroteBefore}
use Rattle.sia_index.proofs.Shared.Ordered.{ascends, rises}
use Rattle.sia_parts.proofs.Auditing.Passing.{IsVisibleFrom, key_there, or_due, passes_none, passes_some, visible_due}
use Rattle.sia_parts.proofs.audit.ranges.next_doubtful.Goals.{Else-from-end, then-not-own-via-then-not-own, then-not-own-via-else-not-own+then-from-end}
use Rattle.sia_parts.proofs.audit.ranges.next_doubtful.Goals as goal

-- what is looked through ends within the gap
end_within : (c : Else-from-end) → c.unwrap_or-end.result ≤ c.args.to
end_within c = up_to c.next_visible-visible.result c.unwrap_or-end.ensures c.next_visible-visible.ensures
  where
    up_to : (visible : Option ℕ) → c.unwrap_or-end.result ≡ unwrap_or visible c.args.to
        → IsVisibleFrom c.args.ix.now c.requires.well_formed c.args.known.now c.requires.known c.args.own c.args.from c.args.to c.requires.gap c.args.from c.args.to visible → c.unwrap_or-end.result ≤ c.args.to
    up_to None same none = omega arith
    up_to (Some j) same is = let below = is.1 in omega arith

pub returns-then-not-own : goal.returns-then-not-own
returns-then-not-own c =
    let h = c.args.ix.now in
    let visible = c.next_visible-visible in
    elim c.then-not-own.branch [
      | then-not-own-via-then-not-own w ↦ visible_due h c.requires.well_formed c.args.known.now c.requires.known c.args.own c.args.from c.args.to c.requires.gap c.args.from c.args.to visible.result (λ i k first last at. c.requires.gap.not_own w.if-not-own.true i k first last at) visible.ensures
      | then-not-own-via-else-not-own+then-from-end w ↦ or_due h c.requires.well_formed c.args.known.now c.requires.known c.args.own c.args.from c.args.to c.requires.gap c.args.from c.args.to visible.result None c.unwrap_or-end.result c.unwrap_or-end.ensures visible.ensures (λ i k first less at. let none = w.if-from-end.true in absurd (omega arith))
    ]

pub bounds-keys-from : goal.bounds-keys-from
bounds-keys-from c = (key_there c.args.ix.now c.written_keys-keys.result.now c.written_keys-keys.ensures c.args.from (c.requires.keys c.args.from (let some = c.if-from-end.false in let most = end_within (goal.at.bounds-keys-from c).Else-from-end in omega arith))).0

pub bounds-keys-end : goal.bounds-keys-end
bounds-keys-end c = (key_there c.args.ix.now c.written_keys-keys.result.now c.written_keys-keys.ensures (c.unwrap_or-end.result - 1) (c.requires.keys (c.unwrap_or-end.result - 1) (let some = c.if-from-end.false in let most = end_within (goal.at.bounds-keys-end c).Else-from-end in omega arith))).0

pub place_from-requires : goal.place_from-requires
place_from-requires c = rises (λ (k : ℕ). k) _ (ascends (λ (k : ℕ). k) _ _ c.written_keys-keys.ensures)

pub returns-in-Some : goal.returns-in-Some
returns-in-Some c =
    let h = c.args.ix.now in
    let end = c.unwrap_or-end.result in
    let most = end_within (goal.at.returns-in-Some c).Else-from-end in
    let is = c.in-Some.ensures in
    or_due h c.requires.well_formed c.args.known.now c.requires.known c.args.own c.args.from c.args.to c.requires.gap c.args.from c.args.to c.next_visible-visible.result (Some c.place_from.result) end c.unwrap_or-end.ensures c.next_visible-visible.ensures
    (passes_some h c.written_keys-keys.result.now c.written_keys-keys.ensures (λ k. WroteBefore h c.args.known.now.reader.txn k c.args.known.now.reader.place) c.args.from end c.if-from-end.false (λ i below. c.requires.keys i (omega arith)) c.in-Some.key c.place_from.result c.place_from.ensures.point is.0 is.1 is.2)

pub returns-in-None : goal.returns-in-None
returns-in-None c =
    let h = c.args.ix.now in
    let end = c.unwrap_or-end.result in
    let most = end_within (goal.at.returns-in-None c).Else-from-end in
    or_due h c.requires.well_formed c.args.known.now c.requires.known c.args.own c.args.from c.args.to c.requires.gap c.args.from c.args.to c.next_visible-visible.result None end c.unwrap_or-end.ensures c.next_visible-visible.ensures
    (passes_none h c.written_keys-keys.result.now c.written_keys-keys.ensures (λ k. WroteBefore h c.args.known.now.reader.txn k c.args.known.now.reader.place) c.args.from end c.if-from-end.false (λ i below. c.requires.keys i (omega arith)) c.in-None.ensures)
