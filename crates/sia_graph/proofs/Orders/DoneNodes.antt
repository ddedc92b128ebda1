-- A node that was ready is done.
use Rattle.std.proofs.Common.{◌≡◌, ◌≢◌, inl, inr, ℕ, ◌+◌, ◌<◌, Bool, true, false, List, [], length, get_or, set, sym, ◌∙◌, arith, ◌↔◌, get_or-set_same, get_or-set_other, length-set}
use Rattle.std.proofs.lemmas.Bool.{cases_Bool, cases_eq}
use Rattle.sia_graph.specs.Graphs.{IsGraph}
use Rattle.sia_graph.specs.UnderWay.{IsDone, IsReadyAt, IsReadyIn, IsTaking, IsUnderWay, none_pending, times, told}
use Rattle.sia_graph.specs.declared.order.Graph.{Graph}
use Rattle.sia_graph.specs.declared.order.Taking.{Taking}
use Rattle.sia_graph.proofs.Orders.Told.{told_done}
use Rattle.sia_graph.proofs.Orders.UnderWay.{waits_led}

module _ (n : ℕ) (g : Graph) (graph : IsGraph n g) (done : List Bool) (k : Taking) (long : length k.counts.items ≡ n) (is : IsTaking g done k none_pending n)
    (t : ℕ) (below : t < n) (free : get_or k.counts.items t 0 ≡ 0) (left : ¬ IsDone done t) where
  abbrev more : List Bool
  more = set done t true

  abbrev row : List ℕ
  row = get_or g.targets t []

  t_in_done : t < length done
  t_in_done = let e = is.under_way.done_long in omega arith

  was_done : (s : ℕ) → IsDone done s → IsDone more s
  was_done s d = grind (arith, cases_eq, get_or-set_same, t_in_done, get_or-set_other)

  done_before : (s : ℕ) → s ≢ t → IsDone more s → IsDone done s
  done_before s other d = sym (get_or-set_other done t s true false other) ∙ d

  fewer : (u : ℕ) → told g.targets done u ≡ told g.targets more u + times u row
  fewer u = told_done g.targets done u t (let e = graph.targets_long in omega arith) t_in_done (elim (cases_Bool (get_or done t false)) [ inl d ↦ absurd (left d) | inr f ↦ f ])

  pub done_under_way : IsUnderWay g (set done t true) k.counts.items k.passed.items k.first_waiting.items k.next_waiting.items (λ u. times u (get_or g.targets t [])) t
  done_under_way = record {
    passed_long = is.under_way.passed_long;
    first_long = is.under_way.first_long;
    next_long = is.under_way.next_long;
    done_long = length-set done t true ∙ is.under_way.done_long;
    lists = is.under_way.lists;
    chains = is.under_way.chains;
    waits = is.under_way.waits;
    held = λ u l some. let h = is.under_way.held u l some in let e = fewer u in omega arith;
    free = λ u l none. let f = is.under_way.free u l none in let z = f.0 in let e = fewer u in (omega arith, λ s c. was_done s (f.1 s c));
    passed_done = λ u i s l b at. was_done s (is.under_way.passed_done u i s l b at);
    stops = is.under_way.stops;
    left = λ u s w d. elim (cases_eq s t) [
      | inl e ↦ e
      | inr other ↦
          let e = is.under_way.left u s w (done_before s other d) in
          let l = (graph.within s u (waits_led g k.counts.items k.passed.items u s w)).0 in
          absurd (omega arith)
    ];
    taken = grind (arith, length-set, fewer, was_done, cases_eq, done_before, waits_led);
  }

  pub done_ready : (After : ℕ → Type 0) (end : ℕ) → ((u : ℕ) → IsReadyAt After end k.counts.items u ↔ (IsReadyIn k u × (t ≢ u)))
      → (u : ℕ) → u < length k.counts.items → IsReadyAt After end k.counts.items u ↔ ((get_or k.counts.items u 0 ≡ 0) × ¬ IsDone more u)
  done_ready After end p u q = grind (arith, done_before, was_done, get_or-set_same, t_in_done)
