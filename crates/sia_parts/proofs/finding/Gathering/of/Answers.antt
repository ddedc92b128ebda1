-- The lists of the parts, one behind another and put in order, are what the definitions name.
use Rattle.std.proofs.Common.{◌≡◌, ℕ, List, [], map-id, rules, subst, sym, ◌∙◌}
use Rattle.std.specs.List.{AllZip}
use Rattle.std.specs.Prelude.{Contains, ⊤}
use Rattle.std.proofs.lemmas.Iterator.Adapters.{YieldsList-from_vec}
use Rattle.std.proofs.lemmas.Iterator.Consumers.{YieldsList-end}
use Rattle.sia_events.specs.declared.event.Event.{Event}
use Rattle.sia_events.specs.Refusals.{IsWellFormed}
use Rattle.sia_parts.specs.declared.cutting.Part.{Part}
use Rattle.sia_parts.specs.declared.finding.PartFound.{PartFound}
use Rattle.sia_parts.specs.Gathering.{IsPartFound}
use Rattle.sia_parts.specs.Accesses.{AreSights}
use Rattle.sia_parts.specs.Parts.{IsCutting, IsInPart}
use Rattle.sia_parts.specs.Sights.{Adds, FromSome}
use Rattle.sia_parts.proofs.Shared.Adding.{added_to_none, adds_list, from_nothing, from_push}
use Rattle.sia_parts.proofs.Shared.AllSights.{all_sights}
use Rattle.sia_parts.proofs.Gathered.FieldLemmas.{bad_reads_all, bad_writes_all, unexplained_all}
use Rattle.sia_parts.proofs.finding.Gathering.of.Goals as goal

pub loop-part-init : goal.loop-part-init
loop-part-init c = record {
  bad_reads = rw c.new.ensures.items (from_nothing (λ (part : PartFound). Contains part.bad_reads.items) []);
  bad_writes = rw c.new-2.ensures.items (from_nothing (λ (part : PartFound). Contains part.bad_writes.items) []);
  unexplained = rw c.new-3.ensures.items (from_nothing (λ (part : PartFound). Contains part.unexplained.items) []);
  saw = rw c.new-4.ensures (from_nothing (λ (part : PartFound). Contains part.saw) []);
  missed = rw c.new-5.ensures (from_nothing (λ (part : PartFound). Contains part.missed) []);
}

pub loop-part-preserved : goal.loop-part-preserved
loop-part-preserved c = record {
  bad_reads = from_push (λ (part : PartFound). Contains part.bad_reads.items) c.loop-part.yielded c.in-Some.part [] _ _ c.loop-part.invariant.bad_reads (rw (c.in_ok-extend_from_slice.ensures.items, c.deref.ensures.value) (adds_list _ _));
  bad_writes = from_push (λ (part : PartFound). Contains part.bad_writes.items) c.loop-part.yielded c.in-Some.part [] _ _ c.loop-part.invariant.bad_writes (rw (c.in_ok-extend_from_slice-2.ensures.items, c.deref-in-loop-part.ensures.value) (adds_list _ _));
  unexplained = from_push (λ (part : PartFound). Contains part.unexplained.items) c.loop-part.yielded c.in-Some.part [] _ _ c.loop-part.invariant.unexplained (rw (c.in_ok-extend_from_slice-3.ensures.items, c.deref-in-loop-part-2.ensures.value) (adds_list _ _));
  saw = from_push (λ (part : PartFound). Contains part.saw) c.loop-part.yielded c.in-Some.part [] _ _ c.loop-part.invariant.saw c.in_ok-append.ensures;
  missed = from_push (λ (part : PartFound). Contains part.missed) c.loop-part.yielded c.in-Some.part [] _ _ c.loop-part.invariant.missed c.in_ok-append-2.ensures;
}

-- what the parts have seen, as soon as all have been taken
sights : (h : List Event) → IsWellFormed h → (points : List ℕ) (cutting : List Part) → IsCutting points cutting → (parts yielded : List PartFound) → parts ≡ yielded → AllZip (λ part found. IsPartFound h (IsInPart part) found) cutting parts
    → (all : PartFound) → Adds (FromSome (λ (part : PartFound). Contains part.saw) yielded) [] all.saw → Adds (FromSome (λ (part : PartFound). Contains part.missed) yielded) [] all.missed → AreSights h (λ _. ⊤) all.saw all.missed
sights h wf points cutting cuts parts yielded same zip all saw missed =
    all_sights h wf points cutting cuts yielded (subst (AllZip (λ part found. IsPartFound h (IsInPart part) found) cutting) same zip) all.saw all.missed
    (added_to_none (FromSome (λ (part : PartFound). Contains part.saw) yielded) all.saw saw)
    (added_to_none (FromSome (λ (part : PartFound). Contains part.missed) yielded) all.missed missed)

pub accesses_at-requires : goal.accesses_at-requires
accesses_at-requires c =
    let end = YieldsList-end (YieldsList-from_vec {s = c.into_iter-part-iterator.result} c.args.parts.items (search rules) (search rules))
    c.loop-part.yielded c.loop-part.part-iterator c.loop-part.yielded_by c.next.result c.next.new.self c.in-None.is c.next.ensures.steps in
    sights c.args.ix.now c.law.ensures c.requires.0 c.requires.1 c.requires.2 c.args.parts.items c.loop-part.yielded (sym end.0 ∙ map-id c.loop-part.yielded) c.requires.3 c.loop-part.all c.loop-part.invariant.saw c.loop-part.invariant.missed

pub returns : goal.returns
returns c =
    let h = c.args.ix.now in
    let points = c.requires.0 in
    let cutting = c.requires.1 in
    let cuts = c.requires.2 in
    let zip = c.requires.3 in
    let wf = c.law.ensures in
    let end = YieldsList-end (YieldsList-from_vec {s = c.into_iter-part-iterator.result} c.args.parts.items (search rules) (search rules))
    c.loop-part.yielded c.loop-part.part-iterator c.loop-part.yielded_by c.next.result c.next.new.self c.in-None.is c.next.ensures.steps in
    let parts = c.loop-part.yielded in
    let R = λ (part : Part) (found : PartFound). IsPartFound h (IsInPart part) found in
    let each : AllZip R cutting parts = subst (AllZip R cutting) (sym end.0 ∙ map-id parts) zip in
    let puts = c.loop-part.invariant in
    record {
      bad_reads = bad_reads_all h points cutting wf cuts R parts each (λ part. part.bad_reads.items) (λ part found a. a.bad_reads) _ _ puts.bad_reads (record { sorted = c.in_ok-put_in_order.ensures.sorted; keeps = c.in_ok-put_in_order.ensures.keeps; adds_none = c.in_ok-put_in_order.ensures.adds_none });
      bad_writes = bad_writes_all h points cutting wf cuts R parts each (λ part. part.bad_writes.items) (λ part found a. a.bad_writes) _ _ puts.bad_writes (record { sorted = c.in_ok-put_in_order-2.ensures.sorted; keeps = c.in_ok-put_in_order-2.ensures.keeps; adds_none = c.in_ok-put_in_order-2.ensures.adds_none });
      unexplained = unexplained_all h points cutting wf cuts R parts each (λ part. part.unexplained.items) (λ part found a. a.unexplained) _ _ puts.unexplained (record { sorted = c.in_ok-put_in_order-3.ensures.sorted; keeps = c.in_ok-put_in_order-3.ensures.keeps; adds_none = c.in_ok-put_in_order-3.ensures.adds_none });
      accesses = c.in_ok-accesses_at.ensures;
    }
