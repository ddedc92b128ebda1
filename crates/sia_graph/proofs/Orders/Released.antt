-- Which nodes are ready, behind the end and from there on, once the count of one changed.
-- What is at hand of nodes that are taken, once less holds one of them back.
use Rattle.std.proofs.Common.{◌≡◌, ◌≢◌, ◌⊎◌, ℕ, ◌<◌, List, length, get_or, arith, ◌-◌, ◌≤◌, [], ◌∷◌, Bool, Some, set, slice_get, inr, sym, subst, rules, ◌↔◌, All, Contains}
use Rattle.std.proofs.lemmas.Bool.{cases_eq, cases_lt}
use Rattle.sia_graph.specs.UnderWay.{IsReadyAt, AreChains, IsBehind, IsDone, IsOneFewer, IsTaking, IsUnderWay, WaitsAt}
use Rattle.std.proofs.lemmas.List.{get_or-set_same, get_or-set_other, get_or_default, length-set}
use Rattle.std.proofs.lemmas.Option.{slice_get-get_or}
use Rattle.sia_graph.specs.Graphs.{IsGraph}
use Rattle.sia_graph.specs.declared.order.Graph.{Graph}
use Rattle.sia_graph.specs.declared.order.Taking.{Taking}
use Rattle.sia_graph.proofs.Orders.Chains.{chain_longer}
use Rattle.sia_graph.proofs.Orders.UnderWay.{none_listed, now_free, now_waiting, pending_many, still_held}

module _ (Done Behind : ℕ → Type 0) (end : ℕ) (counts cs : List ℕ) (long : length cs ≡ length counts) (node : ℕ) (other : (t : ℕ) → t ≢ node → get_or cs t 0 ≡ get_or counts t 0)
    (held : 0 < get_or counts node 0) (is : (t : ℕ) → t < length counts → IsReadyAt Behind end counts t ↔ ((get_or counts t 0 ≡ 0) × ¬ Done t)) where
  others : (After : ℕ → Type 0) → ((t : ℕ) → t ≢ node → After t ↔ Behind t) → (t : ℕ) → t ≢ node → t < length cs → IsReadyAt After end cs t ↔ ((get_or cs t 0 ≡ 0) × ¬ Done t)
  others After p t q r = grind arith

  -- something still holds the node back
  pub none_freed : node < length counts → 0 < get_or cs node 0 → (t : ℕ) → t < length cs → IsReadyAt Behind end cs t ↔ ((get_or cs t 0 ≡ 0) × ¬ Done t)
  none_freed below some t l = grind (arith, cases_eq, others)

  -- nothing does
  pub one_freed : (After : ℕ → Type 0) → ((t : ℕ) → After t ↔ (Behind t ⊎ ((node ≡ t) × (node < end)))) → ¬ Done node → node < length counts → get_or cs node 0 ≡ 0
      → (t : ℕ) → t < length cs → IsReadyAt After end cs t ↔ ((get_or cs t 0 ≡ 0) × ¬ Done t)
  one_freed After p q r s t u = grind (arith, cases_eq, others, cases_lt)

-- the sources of a node are nodes
pub sources_within : (g : Graph) (n node : ℕ) → IsGraph n g → (row : List ℕ) → row ≡ get_or g.sources node [] → All (λ s. s < n) row
sources_within g n node graph row is k d l =
    (graph.within (get_or row k d) node (inr (subst (λ xs. Contains xs (get_or row k d)) is (k, l, get_or_default row k (get_or row k d) d l)))).0

module _ (g : Graph) (done : List Bool) (k : Taking) (node : ℕ) (below : node < length k.counts.items) (v old : ℕ) (is_old : old ≡ get_or k.counts.items node 0) (is_v : v ≡ old - 1)
    (pending less : ℕ → ℕ) (waking : ℕ) (is : IsTaking g done k pending waking) (fewer : IsOneFewer node pending less) where
  abbrev counts : List ℕ
  counts = k.counts.items

  abbrev lower : List ℕ
  lower = set k.counts.items node v

  pub many : 1 < get_or k.counts.items node 0
  many = pending_many g done counts k.passed.items k.first_waiting.items k.next_waiting.items pending waking is.under_way node below (let e = fewer.0 in omega arith)

  at_node : get_or lower node 0 ≡ v
  at_node = get_or-set_same counts node v 0 below

  elsewhere : (t : ℕ) → t ≢ node → get_or lower t 0 ≡ get_or counts t 0
  elsewhere t n = get_or-set_other counts node t v 0 n

  module _ (some : 1 < v) where
    pub under_way_held : IsUnderWay g done lower k.passed.items k.first_waiting.items k.next_waiting.items less waking
    under_way_held = grind (arith, at_node, many, still_held, length-set, elsewhere)

  module _ (one : v ≤ 1) where
    two : get_or counts node 0 ≡ 2
    two = let m = many in omega arith

    -- a list that has v at the node, or 0 after that
    module _ (place : ℕ) (inside : place < length (get_or g.sources node [])) (from : get_or k.passed.items node 0 ≤ place) (at : ℕ) (is_at : at ≡ get_or (get_or g.sources node []) place 0)
        (at_left : ¬ IsDone done at) (all : (i : ℕ) → get_or k.passed.items node 0 ≤ i → i < place → IsDone done (get_or (get_or g.sources node []) i 0)) (at_below : at < length counts) where
      stopped : slice_get (get_or g.sources node []) (get_or (set k.passed.items node place) node 0) ≡ Some at
      stopped = grind (arith, get_or-set_same, slice_get-get_or)

      pub under_way_waiting : (few : node < 4294967295) (link : ℕ) → link ≡ get_or k.first_waiting.items at 0
          → IsUnderWay g done lower (set k.passed.items node place) (set k.first_waiting.items at node) (set k.next_waiting.items node link) less waking
      under_way_waiting few link is_link =
          let w = is.under_way in
          let m = many in
          let a = at_node in
          let t = two in
          let n = w.next_long in
          let p = get_or-set_same k.passed.items node place 0 (omega arith) in
          let ps_long = length-set k.passed.items node place in
          let one_now : get_or lower node 0 ≡ 1 = omega arith in
          let none = none_listed g done counts k.passed.items k.first_waiting.items k.next_waiting.items pending waking w node below
          lower (set k.passed.items node place) (length-set counts node v) (omega arith) elsewhere (λ t n. get_or-set_other k.passed.items node t place 0 n) less fewer m
          t one_now at at_below stopped at_left (λ i from' before. all i from' (omega arith)) in
          now_waiting g done counts k.passed.items k.first_waiting.items k.next_waiting.items pending waking w node below
          lower (set k.passed.items node place) (length-set counts node v) (omega arith) elsewhere (λ t n. get_or-set_other k.passed.items node t place 0 n) less fewer m
          t one_now at at_below stopped at_left (λ i from' before. all i from' (omega arith))
          (set k.first_waiting.items at node) (set k.next_waiting.items node link) (length-set k.first_waiting.items at node) (length-set k.next_waiting.items node link)
          (subst (λ x. AreChains (set k.first_waiting.items at node) (set k.next_waiting.items node x) (set w.lists at (node ∷ get_or w.lists at []))) (sym is_link)
          (chain_longer k.first_waiting.items k.next_waiting.items w.lists w.chains at (omega arith) node (omega arith) few none))

    pub under_way_free : ((i : ℕ) → get_or k.passed.items node 0 ≤ i → i < length (get_or g.sources node []) → IsDone done (get_or (get_or g.sources node []) i 0))
        → IsUnderWay g done (set lower node 0) k.passed.items k.first_waiting.items k.next_waiting.items less waking
    under_way_free all = grind (arith, length-set, now_free, get_or-set_other, elsewhere, many, two, get_or-set_same)

    pub ready_free : (After : ℕ → Type 0) → ((t : ℕ) → After t ↔ (IsBehind k t ⊎ ((node ≡ t) × (node < k.end))))
        → (t : ℕ) → t < length (set lower node 0) → IsReadyAt After k.end (set lower node 0) t ↔ ((get_or (set lower node 0) t 0 ≡ 0) × ¬ IsDone done t)
    ready_free After p = grind (arith, length-set, one_freed, get_or-set_other, elsewhere, many, get_or-set_same)

  pub ready_held : (t : ℕ) → t < length lower → IsReadyAt (IsBehind k) k.end lower t ↔ ((get_or lower t 0 ≡ 0) × ¬ IsDone done t)
  ready_held = search (rules, arith, at_node, many, none_freed, length-set, elsewhere)

-- where others wait, they waited
module _ (g : Graph) (counts passed cs ps : List ℕ) (node : ℕ) (long : length cs ≡ length counts) (cs_other : (t : ℕ) → t ≢ node → get_or cs t 0 ≡ get_or counts t 0)
    (ps_other : (t : ℕ) → t ≢ node → get_or ps t 0 ≡ get_or passed t 0) where
  pub others_waited : (t s : ℕ) → t ≢ node → WaitsAt g.sources cs ps t s → WaitsAt g.sources counts passed t s
  others_waited t s other w = grind arith
