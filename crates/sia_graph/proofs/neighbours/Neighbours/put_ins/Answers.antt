-- The rows at the next version that the transaction made.
use Rattle.std.proofs.Common.{◌≡◌, ◌≤◌, ◌+◌, inl, inr, refl, subst, ◌∙◌, arith}
use Rattle.std.specs.Prelude.{slice_index}
use Rattle.std.proofs.lemmas.List.{take_all}
use Rattle.std.proofs.lemmas.List.Elements.{Contains-get_or}
use Rattle.sia_parts.specs.EdgeRows.{IsMadeAt, noted_before, noted_between}
use Rattle.sia_parts.specs.Sights.{FromSome}
use Rattle.sia_parts.proofs.EdgeRows.AccessRows.{first_last}
use Rattle.sia_parts.proofs.EdgeRows.PositionOrder.{made_of_key}
use Rattle.sia_parts.proofs.EdgeRows.Room.{noted_all, noted_rises}
use Rattle.sia_parts.proofs.Shared.Adding.{from_none}
use Rattle.sia_graph.specs.declared.neighbours.Neighbour.{Neighbour}
use Rattle.sia_graph.specs.declared.neighbours.Role.TheVariants.{In}
use Rattle.sia_graph.specs.Found.{PutsMore, most_ins}
use Rattle.sia_graph.specs.Links.{IsVulnerableAt}
use Rattle.sia_graph.proofs.OfNeighbours.Ins.{IsInAt, IsMadeBy, begin_next, ins_are, ins_more, made_here, stands}
use Rattle.sia_graph.proofs.OfPivots.Outs.{puts_like}
use Rattle.sia_graph.proofs.neighbours.Neighbours.put_ins.Goals.{After-key_at-key, After-first_position}
use Rattle.sia_graph.proofs.neighbours.Neighbours.put_ins.Goals as goal

-- the next version that it made
next : (c : After-key_at-key) → IsMadeBy c.args.self.now.evidence.index.now c.requires.number.0 (slice_index c.made_by-position-items.result.now c.loop-position.position-index)
next c = ((c.made_by-position-items.ensures c.requires.number.0 c.requires.number.1).each _).0 (Contains-get_or c.made_by-position-items.result.now c.loop-position.position-index 0 c.loop-position-test.true)

here : (c : After-key_at-key) → IsMadeAt c.args.self.now.evidence.index.now c.args.number c.key_at-key.result (slice_index c.made_by-position-items.result.now c.loop-position.position-index)
here c = made_here c.args.self.now c.requires.can c.args.number c.requires.number.0 c.requires.number.1 c.key_at-key.result _ c.key_at-key.ensures (next c)

pub loop-position-init : goal.loop-position-init
loop-position-init c = (0, inl (refl, refl), omega arith, record { adds = from_none (IsInAt c.args.self.now c.args.number) c.made_by-position-items.result.now _; few = omega arith; room = refl })

pub key_at-key-requires : goal.key_at-key-requires
key_at-key-requires c =
    let is = ((c.made_by-position-items.ensures c.requires.number.0 c.requires.number.1).each _).0 (Contains-get_or c.made_by-position-items.result.now c.loop-position.position-index 0 c.loop-position-test.true) in
    (is.0, is.1)

pub first_position-requires : goal.first_position-requires
first_position-requires c = let key = (here c).key in (key.0, key.1, key.2)

-- between the last version and it stands version 0 of its key
between : (c : After-first_position) → (c.loop-position.invariant.0 ≤ c.first_position.result) × (c.first_position.result ≤ slice_index c.made_by-position-items.result.now c.loop-position.position-index)
between c =
    let self = c.args.self.now in
    let t = c.requires.number in
    let l = c.loop-position in
    let xs = c.made_by-position-items.result.now in
    let are = c.made_by-position-items.ensures t.0 t.1 in
    let own = made_here self c.requires.can c.args.number t.0 t.1 c.key_at-key.result _ c.key_at-key.ensures ((are.each _).0 (Contains-get_or xs l.position-index 0 c.loop-position-test.true)) in
    let first = c.first_position.ensures in
    stands self c.requires.can c.args.number t.0 t.1 xs are l.position-index c.loop-position-test.true c.key_at-key.result own _ l.passed l.invariant.1 c.first_position.result first.0 first.1 first.2 first.3

-- so there are looks enough behind those that were counted
fits : (c : After-first_position) → noted_before c.args.self.now.looks.now c.loop-position.invariant.0 + noted_between c.args.self.now.looks.now c.first_position.result (slice_index c.made_by-position-items.result.now c.loop-position.position-index)
    ≤ noted_before c.args.self.now.looks.now (slice_index c.made_by-position-items.result.now c.loop-position.position-index)
fits c = (let at = between c in let low = noted_rises c.args.self.now.looks.now _ _ at.0 in let up = noted_rises c.args.self.now.looks.now _ _ at.1 in omega arith)

pub put_lookers-requires-clause-from : goal.put_lookers-requires-clause-from
put_lookers-requires-clause-from c = (between (goal.at.put_lookers-requires-clause-from c).After-first_position).1

pub put_lookers-requires-clause-key : goal.put_lookers-requires-clause-key
put_lookers-requires-clause-key c =
    let own = here (goal.at.put_lookers-requires-clause-key c).After-key_at-key in
    let first = c.first_position.ensures in
    (c.key_at-key.result, record { version = first.0; at = first.1; key = first.2 }, made_of_key c.args.self.now.evidence.index.now c.args.number c.key_at-key.result _ own)

pub put_lookers-requires-clause-room : goal.put_lookers-requires-clause-room
put_lookers-requires-clause-room c =
    let seen = fits (goal.at.put_lookers-requires-clause-room c).After-first_position in
    let all = noted_all c.args.self.now.looks.now (slice_index c.made_by-position-items.result.now c.loop-position.position-index) in
    omega arith

pub put_passers-passed-requires-clause-from : goal.put_passers-passed-requires-clause-from
put_passers-passed-requires-clause-from c =
    let l = c.loop-position in
    let w = (goal.at.put_passers-passed-requires-clause-from c).After-key_at-key in
    begin_next c.args.self.now c.requires.can c.args.number c.requires.number.0 c.requires.number.1 c.made_by-position-items.result.now (c.made_by-position-items.ensures c.requires.number.0 c.requires.number.1) l.position-index c.loop-position-test.true c.key_at-key.result (here w) _ l.passed l.invariant.1

pub put_passers-passed-requires-clause-room : goal.put_passers-passed-requires-clause-room
put_passers-passed-requires-clause-room c =
    let seen = fits (goal.at.put_passers-passed-requires-clause-room c).After-first_position in
    let all = noted_all c.args.self.now.looks.now (slice_index c.made_by-position-items.result.now c.loop-position.position-index) in
    let few = c.loop-position.invariant.3.few in
    omega arith

pub loop-position-preserved : goal.loop-position-preserved
loop-position-preserved c =
    let self = c.args.self.now in
    let l = c.loop-position in
    let q = slice_index c.made_by-position-items.result.now l.position-index in
    let w = (goal.at.loop-position-preserved c).After-first_position in
    let first = c.first_position.ensures in
    let own = here (goal.at.loop-position-preserved c).After-key_at-key in
    let before = l.invariant.3 in
    let passers = c.put_passers-passed.ensures.puts in (
      q,
      inr (first_last c.made_by-position-items.result.now l.position-index 0 c.loop-position-test.true, c.key_at-key.result, own, c.put_passers-passed.ensures.end),
      c.put_passers-passed.ensures.end.0,
      record {
        adds = ins_more self c.requires.can c.args.number c.requires.number.0 c.requires.number.1 c.made_by-position-items.result.now (c.made_by-position-items.ensures c.requires.number.0 c.requires.number.1) l.position-index c.loop-position-test.true c.key_at-key.result own _ l.passed l.invariant.1
            c.first_position.result first.0 first.1 first.2 first.3 _ _ _ _ before.adds c.put_lookers.ensures.adds passers.adds;
        few = (
            let seen = fits w in
            let few = before.few in
            omega arith);
        room = passers.room ∙ c.put_lookers.ensures.room ∙ before.room;
      },
    )

pub returns : goal.returns
returns c =
    let self = c.args.self.now in
    let i = c.args.number in
    let xs = c.made_by-position-items.result.now in
    let l = c.loop-position in
    let t = c.requires.number in
    puts_like (FromSome (IsInAt self i) xs) (λ (row : Neighbour). (row.role ≡ In) × IsVulnerableAt self.evidence.index.now row.txn i) (noted_before self.looks.now l.invariant.0 + l.passed) (most_ins self) _ _
    (let most = l.invariant.2 in let all = noted_all self.looks.now l.invariant.0 in omega arith)
    (ins_are self c.requires.can i t.0 t.1 c.keys_law.ensures.0 c.keys_law.ensures.1 xs (c.made_by-position-items.ensures t.0 t.1).each)
    (subst (λ ys. PutsMore (FromSome (IsInAt self i) ys) (noted_before self.looks.now l.invariant.0 + l.passed) c.args.rows.now l.rows) (take_all l.position-index xs c.loop-position-test.false) l.invariant.3)
