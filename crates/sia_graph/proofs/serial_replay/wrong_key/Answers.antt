use Rattle.std.proofs.Common.{arith, ◌≡◌, inl, inr, ltb, leb, ◌<◌, ◌≤◌, ℕ, List, Option, Some, refl, ap, sym, subst, ◌∙◌, ◌↔◌, All, IsTrue, MatchOption}
use Rattle.std.proofs.lemmas.Bool.{cases_lt, le-leb, le-ltb, lt-leb, lt-ltb}
use Rattle.std.specs.Bool.{then_some}
use Rattle.sia_events.specs.declared.event.Event.{Event}
use Rattle.sia_events.specs.declared.event.Event.TheVariants.{Range, Write}
use Rattle.sia_events.specs.Replay.{MayFollow}
use Rattle.sia_graph.specs.Replaying.{IsRight, IsWrongAt, version_in}
use Rattle.sia_events.proofs.Writing.Ranges.{bounds_in_order, list_in_order}
use Rattle.sia_graph.proofs.ReplayedTxns.RightAt.{follows_iff, least_wrong, none_listed_wrong, write_right}
use Rattle.sia_graph.proofs.serial_replay.wrong_key.Goals as goal

pub wrong_unlisted-unlisted-requires-clause-forward : goal.wrong_unlisted-unlisted-requires-clause-forward
wrong_unlisted-unlisted-requires-clause-forward c = grind (arith, bounds_in_order)

pub wrong_unlisted-unlisted-requires-clause-listed : goal.wrong_unlisted-unlisted-requires-clause-listed
wrong_unlisted-unlisted-requires-clause-listed c = grind (arith, list_in_order)

pub wrong_listed-requires : goal.wrong_listed-requires
wrong_listed-requires c = grind (arith, list_in_order)

-- of an event what was found at the least key
told : (h : List Event) (found : ℕ → ℕ) (e : Event) (r : Option ℕ) → MatchOption r ((k : ℕ) → IsRight h found e k) (λ key. ¬ IsRight h found e key × ((k : ℕ) → k < key → IsRight h found e k))
    → MatchOption r ((k : ℕ) → IsRight h found e k) (λ key. IsWrongAt h found e key (found key))
told h found e r p = grind arith

-- the same of a range, whose list is this slice
range_told : (h : List Event) (found : ℕ → ℕ) (t lo hi : ℕ) (listed slice : List (ℕ × ℕ)) → slice ≡ listed → (e : Event) → e ≡ Range t lo hi listed → (r : Option ℕ)
    → MatchOption r ((k : ℕ) → IsRight h found (Range t lo hi slice) k) (λ key. ¬ IsRight h found (Range t lo hi slice) key × ((k : ℕ) → k < key → IsRight h found (Range t lo hi slice) k))
    → MatchOption r ((k : ℕ) → IsRight h found e k) (λ key. IsWrongAt h found e key (found key))
range_told h found t lo hi listed slice same e is r so =
    subst (λ (d : Event). MatchOption r ((k : ℕ) → IsRight h found d k) (λ key. IsWrongAt h found d key (found key))) (sym (is ∙ ap (λ (l : List (ℕ × ℕ)). Range t lo hi l) (sym same))) (told h found (Range t lo hi slice) r so)

pub returns-in-None : goal.returns-in-None
returns-in-None c =
    let found = version_in c.args.versions.now in
    let listed = c.as_slice-listed.result.now in
    range_told c.args.h.now found c.in-Range.txn c.in-Range.lo c.in-Range.hi c.in-Range.listed listed c.as_slice-listed.ensures c.args.event.now c.in-Range.is c.wrong_unlisted-unlisted.result
    (none_listed_wrong found c.in-Range.txn c.in-Range.lo c.in-Range.hi listed c.wrong_unlisted-unlisted.result c.in-None.ensures c.wrong_unlisted-unlisted.ensures)

pub returns-in-Some : goal.returns-in-Some
returns-in-Some c =
    let found = version_in c.args.versions.now in
    let listed = c.as_slice-listed.result.now in
    let w = c.in-Some.ensures in
    let within = subst (λ l. All (λ (p : ℕ × ℕ). (c.in-Range.lo ≤ p.0) × (p.0 ≤ c.in-Range.hi)) l) (sym c.as_slice-listed.ensures)
    (list_in_order c.args.h.now c.len-events.ensures.well_formed c.requires.event.0 c.in-Range.txn c.in-Range.lo c.in-Range.hi c.in-Range.listed (c.requires.event.1 ∙ ap Some c.in-Range.is)).0 in
    range_told c.args.h.now found c.in-Range.txn c.in-Range.lo c.in-Range.hi c.in-Range.listed listed c.as_slice-listed.ensures c.args.event.now c.in-Range.is (Some c.min.result)
    (least_wrong found c.in-Range.txn c.in-Range.lo c.in-Range.hi listed c.wrong_unlisted-unlisted.result c.in-Some.key _ within (w.0.0, w.0.1, w.0.2) w.1
    c.wrong_unlisted-unlisted.ensures (rw c.unwrap_or.ensures at c.min.ensures))

-- of a write event what it may follow, where both commit
write_told : (h : List Event) (found : ℕ → ℕ) (t key c d : ℕ) (r : Option ℕ) → r ≡ then_some (leb d c) key → IsTrue (ltb c d) ↔ MayFollow h key (found key) t
    → MatchOption r ((k : ℕ) → IsRight h found (Write t key) k) (λ k. IsWrongAt h found (Write t key) k (found k))
write_told h found t key c d r is may = elim (cases_lt c d) [
  | inl less ↦ let off = lt-leb d c less in rw (is, off) (write_right h found t key (may.0 (lt-ltb c d less)))
  | inr more ↦ let on = le-leb d c more in let no = le-ltb c d more in rw (is, on) ((λ right. let yes = may.1 (right refl) in cc), (λ k l e. absurd (omega arith)), refl)
]

pub returns-in-Some-Some : goal.returns-in-Some-Some
returns-in-Some-Some c =
    let h = c.args.h.now in
    let found = version_in c.args.versions.now in
    let key = c.in-Write.key in
    let txn = c.in-Write.txn in
    let is = c.version_of-found.ensures in
    let before =
    follows_iff h c.len-events.ensures.well_formed key c.version_of-found.result txn _ _ c.if-found-eq0.false c.if-found-txn.false (c.requires.written key _ (grind arith))
    (c.requires.event.0, c.requires.event.1 ∙ ap Some c.in-Write.is)
    ((c.requires.commits c.version_of-found.result _).0 (sym c.in-Some-Some.ensures.value)) ((c.requires.commits txn _).0 (sym c.in-Some-Some.ensures'.value)) in
    subst (λ (e : Event). MatchOption c.then_some-in-Some-Some.result ((k : ℕ) → IsRight h found e k) (λ k. IsWrongAt h found e k (found k))) (sym c.in-Write.is)
    (write_told h found txn key _ _ c.then_some-in-Some-Some.result c.then_some-in-Some-Some.ensures (subst (λ v. IsTrue (ltb c.in-Some-Some.first.now c.in-Some-Some.second.now) ↔ MayFollow h key v txn) is before))
