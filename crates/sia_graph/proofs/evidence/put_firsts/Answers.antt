use Rattle.std.proofs.Common.{◌≡◌, ◌∙◌, ℕ, [], Vec, Global, ap, arith, get_or, refl, subst, sym}
use Rattle.std.specs.Prelude.{◌↔◌, IsTrue}
use Rattle.std.proofs.lemmas.Bool.{false≢true}
use Rattle.std.proofs.lemmas.List.Elements.{Contains-get_or}
use Rattle.std.proofs.lemmas.Map.Keys.{non_decreasing_from_sorted}
use Rattle.sia_parts.specs.Sights.{Adds}
use Rattle.sia_parts.proofs.Shared.Adding.{adds_nothing, adds_push, from_all, from_more}
use Rattle.sia_graph.specs.Makers.{IsFirstMaker}
use Rattle.sia_graph.proofs.Shared.MakersTold.{first_told, is_told}
use Rattle.sia_graph.proofs.OnEvidence.FirstKeys.{IsFirstKeyAt, first_put, firsts_are}
use Rattle.sia_graph.proofs.evidence.put_firsts.Goals as goal
use Rattle.sia_graph.proofs.evidence.put_firsts.Goals.{then-eq+in_ok-push, else-eq}

pub key_at-key-requires : goal.key_at-key-requires
key_at-key-requires c =
    let made = c.made_by-position-items.result.now in
    let n = c.loop-position.position-index in
    let w = ((c.made_by-position-items.ensures c.requires.txn.0 c.requires.txn.1).each (get_or made n 0)).0 (Contains-get_or made n 0 c.loop-position-test.true) in
    (w.0, w.1)

pub first_position-requires : goal.first_position-requires
first_position-requires c =
    let made = c.made_by-position-items.result.now in
    let n = c.loop-position.position-index in
    let w = ((c.made_by-position-items.ensures c.requires.txn.0 c.requires.txn.1).each (get_or made n 0)).0 (Contains-get_or made n 0 c.loop-position-test.true) in
    let key = c.key_at-key.ensures w.0 w.1 in
    (key.0, key.1, key.2)

pub loop-position-preserved : goal.loop-position-preserved
loop-position-preserved c =
    let h = c.args.index.now in
    let txn = c.args.txn in
    let made = c.made_by-position-items.result.now in
    let n = c.loop-position.position-index in
    let key = c.key_at-key.result in
    let w = ((c.made_by-position-items.ensures c.requires.txn.0 c.requires.txn.1).each (get_or made n 0)).0 (Contains-get_or made n 0 c.loop-position-test.true) in
    let before = c.loop-position.firsts.items in
    let now = c.if-eq.firsts.items in
    let first = first_told h key c.first_position.result c.first_position.ensures.0 c.first_position.ensures.1 c.first_position.ensures.2 c.first_position.ensures.3 txn in
    let is = is_told c.next_maker.result txn c.eq.result c.eq.ensures in
    let told : IsTrue c.eq.result ↔ IsFirstMaker h key txn = ((λ t. first.0 ((c.next_maker.ensures txn).0 (is.0 t))), (λ m. is.1 ((c.next_maker.ensures txn).1 (first.1 m)))) in
    let put : Adds (λ j. (j ≡ key) × IsFirstMaker h key txn) before now = elim c.if-eq.branch [
      | then-eq+in_ok-push v ↦
          subst (Adds (λ j. (j ≡ key) × IsFirstMaker h key txn) before) (sym (ap (λ (l : Vec ℕ Global). l.items) v.firsts-is ∙ v.in_ok-push.ensures.items))
          (adds_push (λ j. (j ≡ key) × IsFirstMaker h key txn) before key (refl, told.0 v.if-eq.true) (λ j p. sym p.0))
      | else-eq v ↦
          rw v.firsts-is (adds_nothing (λ j. (j ≡ key) × IsFirstMaker h key txn) before (λ j p. false≢true (sym v.if-eq.false ∙ told.1 p.1)))
    ] in
    from_more (IsFirstKeyAt h txn) made n 0 [] before now c.loop-position-test.true c.loop-position.invariant
    (first_put h txn (get_or made n 0) w.0 w.1 key (c.key_at-key.ensures w.0 w.1) before now put)

pub returns-clause-rise : goal.returns-clause-rise
returns-clause-rise c = non_decreasing_from_sorted c.put_in_order.new.list.items c.in_ok-put_in_order.ensures.sorted

pub returns-clause-each : goal.returns-clause-each
returns-clause-each c j =
    let h = c.args.index.now in
    let txn = c.requires.txn in
    let made = c.made_by-position-items.result.now in
    let put = c.loop-position.firsts.items in
    let all = from_all (IsFirstKeyAt h c.args.txn) made c.loop-position.position-index [] put (omega arith) c.loop-position.invariant in
    let are = firsts_are h c.args.txn c.position_count-positions.result txn.0 c.position_count-positions.ensures txn.1 made (c.made_by-position-items.ensures txn.0 txn.1) put all j in
    let order = c.in_ok-put_in_order.ensures in
    ((λ has. are.0 (order.adds_none j has)), (λ m. order.keeps j (are.1 m)))
