use Rattle.std.proofs.Common.{◌≡◌, ◌⊎◌, inl, inr, ℕ, ◌<◌, ◌≤◌, List, ◌∷◌, ◌∙◌, sym, subst, arith, rules, Contains, BTreeMap, nat_cmp, is_ok}
use Rattle.std.proofs.lemmas.List.Sorted.{answers_always}
use Rattle.std.specs.BTreeMap.Range.{IsRangeOf}
use Rattle.std.specs.declared.ops.Bound.TheVariants.{Included}
use Rattle.sia_graph.specs.Replaying.{version_in}
use Rattle.std.proofs.lemmas.Bool.{cases_lt, not_from_false, not_from_true}
use Rattle.sia_events.proofs.Shared.Faults.{true_false}
use Rattle.sia_graph.proofs.ReplayedTxns.RightAt.{is_listed_by, passed_key, range_first, range_none}
use Rattle.sia_graph.proofs.serial_replay.wrong_unlisted.Goals as goal
use Rattle.sia_graph.proofs.serial_replay.wrong_unlisted.Goals.{else-version-ne0-via-then-version-ne0+else-is_err, else-version-ne0-via-else-version-ne0}

-- the first entry of a range
at_range : (m : BTreeMap ℕ ℕ) (a b from hi : ℕ) → a ≡ from → b ≡ hi → (r : List (ℕ × ℕ)) → IsRangeOf nat_cmp (Included a) (Included b) m r → (k v : ℕ) (t : List (ℕ × ℕ)) → r ≡ (k, v) ∷ t
    → (from ≤ k) × (k ≤ hi) × (v ≡ version_in m k) × ((q : ℕ) → from ≤ q → q < k → version_in m q ≡ 0)
at_range m a b from hi start end r range k v t is =
    let w = range_first m a b r range k v t is in
    (subst (λ x. x ≤ k) start w.0, subst (λ x. k ≤ x) end w.1, w.2, subst (λ x. (q : ℕ) → x ≤ q → q < k → version_in m q ≡ 0) start w.3)

pub returns-then-is_err : goal.returns-then-is_err
returns-then-is_err c =
    let e = at_range c.args.versions.now c.new.result.start c.new.result.end c.keys.from c.args.hi c.new.ensures.start c.new.ensures.end c.range.result (c.range.ensures.in_range c.new.ensures.exhausted) c.in-Some.key.now c.in-Some.version.now _ c.in-Some.ensures.steps in
    let told = c.binary_search_by_key.ensures in
    let listed = is_listed_by c.args.listed.now c.requires.listed c.in-Some.key.now c.binary_search_by_key.result told.bound (told.position (λ (p : ℕ × ℕ). p.0) (answers_always _ (λ a r. r ≡ a.0.now.0) _ (λ f a r g k. search rules))) in (
      (let a = c.keys.invariant.0 in let b = e.0 in omega arith),
      e.1,
      λ v has. true_false (is_ok c.binary_search_by_key.result) (listed.1 (v, has)) (c.is_err.ensures.negation ∙ not_from_true c.is_err.result c.if-is_err.true),
      λ zero. c.if-version-ne0.true (e.2 ∙ zero),
      λ k less low unlisted. elim (cases_lt k c.keys.from) [ inl before ↦ c.keys.invariant.2 k before low unlisted | inr from ↦ e.3 k from less ],
    )

pub keys-preserved : goal.keys-preserved
keys-preserved c =
    let e = at_range c.args.versions.now c.new.result.start c.new.result.end c.keys.from c.args.hi c.new.ensures.start c.new.ensures.end c.range.result (c.range.ensures.in_range c.new.ensures.exhausted) c.in-Some.key.now c.in-Some.version.now _ c.in-Some.ensures.steps in
    let right : (c.in-Some.version.now ≡ 0) ⊎ ((v : ℕ) × Contains c.args.listed.now (c.in-Some.key.now, v)) = elim c.else-version-ne0.branch [
      | else-version-ne0-via-then-version-ne0+else-is_err w ↦
          let told = w.binary_search_by_key.ensures in
          inr ((is_listed_by c.args.listed.now c.requires.listed c.in-Some.key.now w.binary_search_by_key.result told.bound (told.position (λ (p : ℕ × ℕ). p.0) (answers_always _ (λ a r. r ≡ a.0.now.0) _ (λ f a r g k. search rules)))).0 (w.is_err.ensures.negation ∙ not_from_false w.is_err.result w.if-is_err.false))
      | else-version-ne0-via-else-version-ne0 w ↦ inl w.if-version-ne0.false
    ] in (
      (let a = c.keys.invariant.0 in let b = e.0 in omega arith),
      elim (cases_lt c.in-Some.key.now c.args.hi) [ inl less ↦ omega arith | inr more ↦ absurd (c.if-key-hi.false (let b = e.1 in omega arith)) ],
      passed_key c.args.versions.now c.args.listed.now c.args.lo c.keys.from c.in-Some.key.now c.in-Some.version.now c.keys.invariant.2 e.3 e.2 right,
    )

pub returns-then-key-hi : goal.returns-then-key-hi
returns-then-key-hi c = λ k low high unlisted.
    let e = at_range c.args.versions.now c.new.result.start c.new.result.end c.keys.from c.args.hi c.new.ensures.start c.new.ensures.end c.range.result (c.range.ensures.in_range c.new.ensures.exhausted) c.in-Some.key.now c.in-Some.version.now _ c.in-Some.ensures.steps in
    let right : (c.in-Some.version.now ≡ 0) ⊎ ((v : ℕ) × Contains c.args.listed.now (c.in-Some.key.now, v)) = elim c.else-version-ne0.branch [
      | else-version-ne0-via-then-version-ne0+else-is_err w ↦
          let told = w.binary_search_by_key.ensures in
          inr ((is_listed_by c.args.listed.now c.requires.listed c.in-Some.key.now w.binary_search_by_key.result told.bound (told.position (λ (p : ℕ × ℕ). p.0) (answers_always _ (λ a r. r ≡ a.0.now.0) _ (λ f a r g k. search rules)))).0 (w.is_err.ensures.negation ∙ not_from_false w.is_err.result w.if-is_err.false))
      | else-version-ne0-via-else-version-ne0 w ↦ inl w.if-version-ne0.false
    ] in
    passed_key c.args.versions.now c.args.listed.now c.args.lo c.keys.from c.in-Some.key.now c.in-Some.version.now c.keys.invariant.2 e.3 e.2 right
    k (let a = c.if-key-hi.true in omega arith) low unlisted

pub returns-in_default : goal.returns-in_default
returns-in_default c k low high unlisted = elim (cases_lt k c.keys.from) [
  | inl less ↦ c.keys.invariant.2 k less low unlisted
  | inr from ↦
      range_none c.args.versions.now c.new.result.start c.new.result.end c.range.result (c.range.ensures.in_range c.new.ensures.exhausted) c.in_default.ensures.steps.0 k
      (subst (λ x. x ≤ k) (sym c.new.ensures.start) from) (subst (λ x. k ≤ x) (sym c.new.ensures.end) high)
]
