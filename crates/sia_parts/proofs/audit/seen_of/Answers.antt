-- Each place adds what its event saw, and what all of the part saw is put in order.
use Rattle.std.proofs.Common.{◌≡◌, ℕ, List, None, Some, get_or, refl, rules, subst, sym, ◌∙◌}
use Rattle.std.specs.Prelude.{◌↔◌, ⊤, IsSome, MatchOption}
use Rattle.sia_events.specs.declared.event.Event.{Event}
use Rattle.sia_index.specs.declared.info.Reader.{Reader}
use Rattle.sia_index.specs.Info.{IsReader}
use Rattle.sia_index.specs.Numbers.{IsCommittedAt}
use Rattle.sia_events.specs.Transactions.{IsCommitted}
use Rattle.sia_parts.proofs.Auditing.Committing.{number_ends}
use Rattle.sia_parts.specs.declared.audit.sights.Known.{Known}
use Rattle.sia_parts.specs.Known.{IsKnown}
use Rattle.sia_events.specs.Isolation.{IsBadRead, IsUnexplained}
use Rattle.sia_parts.specs.declared.finding.BadRead.{BadRead}
use Rattle.sia_parts.specs.declared.finding.Unexplained.{Unexplained}
use Rattle.sia_parts.specs.Entries.{bad_read_rank, unexplained_rank}
use Rattle.sia_parts.specs.Parts.{IsInPart}
use Rattle.sia_parts.specs.Seeing.{Gains, IsSightWithin}
use Rattle.sia_parts.proofs.Shared.Listing.{put_listed, bad_read_before, unexplained_before}
use Rattle.sia_parts.proofs.Auditing.Gaining.{gains_all, gains_more, gains_nothing}
use Rattle.sia_parts.proofs.Auditing.SeenAll.{bad_reads_are, sights_are, unexplained_are}
use Rattle.sia_parts.proofs.audit.seen_of.Goals.{Joined-last, in-Some-last, in_default-last}
use Rattle.sia_parts.proofs.audit.seen_of.Goals as goal

own_reader : (h : List Event) (t p : ℕ) (r : Reader) → IsReader h t p r → IsReader h r.txn r.place r
own_reader h t p r is = subst (λ u. IsReader h u r.place r) (sym is.txn_is) (subst (λ q. IsReader h t q r) (sym is.place_is) is)

-- what is known of who reads, at the place
record IsKnownAt (h : List Event) (known : Known) (txn place : ℕ) : Type 0 where
  same : known.txn ≡ txn
  at : known.reader.place ≡ place
  is : IsKnown h known

-- where another one read, or nobody, it is looked up
known_now : (c : Joined-last) → IsKnownAt c.args.scope.now.ix.now c.match-last.known c.txn_of-txn.result (get_or c.args.places.now c.loop-place.place-index 0)
known_now c =
    let h = c.args.scope.now.ix.now in
    elim c.match-last.branch [
      | in-Some-last w ↦
          let old = subst (λ o. MatchOption o ⊤ (IsKnown h)) w.in-Some-last.is c.loop-place.invariant.last in
          rw w.known-is (record { same = w.if-known-txn.true; at = refl; is = search rules })
      | in_default-last w ↦
          let is = w.reader_at.ensures in
          rw w.known-is (record {
            same = refl;
            at = is.place_is;
            is = record {
              few = search rules;
              name = is.txn_is;
              reader = own_reader h _ _ w.reader_at.result is;
              number = subst (λ t. (i : ℕ) → (w.committed_number.result ≡ Some i) ↔ IsCommittedAt h i t) (sym is.txn_is) w.committed_number.ensures;
              ends = subst (λ t. IsSome w.committed_number.result ↔ IsCommitted h t) (sym is.txn_is) (number_ends h c.committed.result.now c.committed.ensures _ w.committed_number.result w.committed_number.ensures);
            };
          })
    ]

pub put_row-requires-clause-known : goal.put_row-requires-clause-known
put_row-requires-clause-known c = (known_now (goal.at.put_row-requires-clause-known c).Joined-last).is

pub put_row-requires-clause-txn : goal.put_row-requires-clause-txn
put_row-requires-clause-txn c = (known_now (goal.at.put_row-requires-clause-txn c).Joined-last).same ∙ c.txn_of-txn.ensures

pub loop-place-preserved : goal.loop-place-preserved
loop-place-preserved c =
    let h = c.args.scope.now.ix.now in
    let P = λ (place : ℕ). IsSightWithin h place c.args.scope.now.first c.args.scope.now.end in
    let next = subst (λ p. Gains h (P p) c.loop-place.seen c.put_row.new.seen) (known_now (goal.at.loop-place-preserved c).Joined-last).at c.in_ok-put_row.ensures in
    record { last = (known_now (goal.at.loop-place-preserved c).Joined-last).is; gains = gains_more h P c.args.places.now c.loop-place.place-index 0 c.loop-place-test.true _ c.loop-place.seen c.put_row.new.seen c.loop-place.invariant.gains next }

pub loop-place-preserved-in_default : goal.loop-place-preserved-in_default
loop-place-preserved-in_default c = record {
  last = c.loop-place.invariant.last;
  gains = gains_nothing c.args.scope.now.ix.now c.args.scope.now.log.now c.requires.scope.same c.args.scope.now.first c.args.scope.now.end c.args.places.now c.loop-place.place-index c.loop-place-test.true
      (λ e k v at saw. let never : None ≡ Some e = c.in_default.ensures.event ∙ at in cc) _ c.loop-place.seen c.loop-place.invariant.gains;
}

pub returns-clause-bad_reads : goal.returns-clause-bad_reads
returns-clause-bad_reads c =
    let h = c.args.scope.now.ix.now in
    let wf = c.requires.scope.well_formed in
    let first = c.args.scope.now.first in
    let end = c.args.scope.now.end in
    let Q = λ (b : BadRead). IsBadRead h b.place b.txn b.key b.saw b.due × IsInPart c.args.scope.now.part b.key in
    put_listed bad_read_rank Q _ (λ x y is other less. bad_read_before h wf x y is.0 other.0 less) _ _
    (bad_reads_are h wf c.keys_law.ensures.0 c.keys_law.ensures.1 c.args.scope.now.part first end c.requires.scope.each c.args.places.now c.requires.places _ c.loop-place.seen c.new.ensures.items c.new-2.ensures.items c.new-3.ensures c.new-4.ensures
    (gains_all h (λ place. IsSightWithin h place first end) c.args.places.now c.loop-place.place-index _ c.loop-place.seen c.loop-place-test.false c.loop-place.invariant.gains))
    c.in_ok-put_in_order.ensures.sorted c.in_ok-put_in_order.ensures.keeps c.in_ok-put_in_order.ensures.adds_none

pub returns-clause-unexplained : goal.returns-clause-unexplained
returns-clause-unexplained c =
    let h = c.args.scope.now.ix.now in
    let wf = c.requires.scope.well_formed in
    let first = c.args.scope.now.first in
    let end = c.args.scope.now.end in
    let Q = λ (u : Unexplained). IsUnexplained h u.place u.txn u.key u.saw × IsInPart c.args.scope.now.part u.key in
    put_listed unexplained_rank Q _ (λ x y is other less. unexplained_before h wf x y is.0 other.0 less) _ _
    (unexplained_are h wf c.keys_law.ensures.0 c.keys_law.ensures.1 c.args.scope.now.part first end c.requires.scope.each c.args.places.now c.requires.places _ c.loop-place.seen c.new.ensures.items c.new-2.ensures.items c.new-3.ensures c.new-4.ensures
    (gains_all h (λ place. IsSightWithin h place first end) c.args.places.now c.loop-place.place-index _ c.loop-place.seen c.loop-place-test.false c.loop-place.invariant.gains))
    c.in_ok-put_in_order-2.ensures.sorted c.in_ok-put_in_order-2.ensures.keeps c.in_ok-put_in_order-2.ensures.adds_none

pub returns-clause-sights : goal.returns-clause-sights
returns-clause-sights c =
    let h = c.args.scope.now.ix.now in
    let first = c.args.scope.now.first in
    let end = c.args.scope.now.end in
    sights_are h c.requires.scope.well_formed c.keys_law.ensures.0 c.keys_law.ensures.1 c.args.scope.now.part first end c.requires.scope.each c.args.places.now c.requires.places _ c.loop-place.seen c.new.ensures.items c.new-2.ensures.items c.new-3.ensures c.new-4.ensures
    (gains_all h (λ place. IsSightWithin h place first end) c.args.places.now c.loop-place.place-index _ c.loop-place.seen c.loop-place-test.false c.loop-place.invariant.gains)
    c.committed.result.now c.committed.ensures
