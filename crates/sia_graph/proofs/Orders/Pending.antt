-- The names of the nodes of a front that are no blocks, made one after the other.
-- What is still to be taken from the counts of nodes, in other words.
use Rattle.std.proofs.Common.{◌≡◌, ℕ, ◌<◌, ◌≤◌, Bool, true, false, not, cond, List, [], ◌∷◌, ◌++◌, map, nat_lt, append-nil, ap, sym, ◌∙◌, suc, ◌+◌, length, get_or, drop, eqb, refl, arith}
use Rattle.std.proofs.lemmas.Bool.{le-ltb, lt-ltb, not_from_false, not_from_true, cases_lt, eq-eqb, ne_eqb}
use Rattle.std.proofs.lemmas.List.{map-append, drop_more}
use Rattle.std.proofs.lemmas.List.Elements.{filter-append}
use Rattle.sia_graph.specs.Blocks.{without_blocks}
use Rattle.sia_graph.specs.UnderWay.{IsOneFewer, IsTaking, times}
use Rattle.sia_graph.specs.declared.order.Graph.{Graph}
use Rattle.sia_graph.specs.declared.order.Taking.{Taking}
use Rattle.sia_graph.proofs.Shared.Counted.{count_first, count_later}
use Rattle.sia_graph.proofs.Orders.UnderWay.{as_pending}

-- one node more
module _ (floor : ℕ) (f : ℕ → ℕ) (front : List ℕ) (t : ℕ) (names : List ℕ) (are : names ≡ map f (without_blocks floor front)) where
  grown : (keep : Bool) → not (nat_lt t floor) ≡ keep → without_blocks floor (front ++ t ∷ []) ≡ without_blocks floor front ++ cond keep (t ∷ []) []
  grown keep is = filter-append (λ u. not (nat_lt u floor)) front (t ∷ []) ∙ ap (λ b. without_blocks floor front ++ cond b (t ∷ []) []) is

  pub member_more : floor ≤ t → (more : List ℕ) → more ≡ names ++ f t ∷ [] → more ≡ map f (without_blocks floor (front ++ t ∷ []))
  member_more no_block more pushed =
      pushed ∙ ap (λ l. l ++ f t ∷ []) are
      ∙ sym (ap (map f) (grown true (not_from_false (nat_lt t floor) (le-ltb t floor no_block))) ∙ map-append f (without_blocks floor front) (t ∷ []))

  pub block_more : t < floor → names ≡ map f (without_blocks floor (front ++ t ∷ []))
  block_more block = are ∙ ap (map f) (sym (grown false (not_from_true (nat_lt t floor) (lt-ltb t floor block)) ∙ append-nil (without_blocks floor front)))

pub as_taking : (g : Graph) (done : List Bool) (k : Taking) (pending same : ℕ → ℕ) (waking : ℕ) → ((t : ℕ) → t < length k.counts.items → pending t ≡ same t)
    → IsTaking g done k pending waking → IsTaking g done k same waking
as_taking g done k pending same waking equal is = grind (arith, as_pending)

-- one more at a node
abbrev pub one_more : ℕ → (ℕ → ℕ) → ℕ → ℕ
one_more node pending t = cond (eqb t node) 1 0 + pending t

pub one_more_is : (node : ℕ) (pending : ℕ → ℕ) → IsOneFewer node (one_more node pending) pending
one_more_is node pending = grind (arith, eq-eqb, ne_eqb)

-- the first of what is left of a row
pub row_fewer : (row : List ℕ) (i d : ℕ) → i < length row → IsOneFewer (get_or row i d) (λ t. times t (drop i row)) (λ t. times t (drop (i + 1) row))
row_fewer row i d l = (
  ap (times node) (drop_more row i d l) ∙ count_first (λ x. eqb x node) node (drop (i + 1) row) (eq-eqb node node refl) ∙ (let a : 1 + times node (drop (i + 1) row) ≡ suc (times node (drop (i + 1) row)) = omega arith in a),
  λ t n. ap (times t) (drop_more row i d l) ∙ count_later (λ x. eqb x t) node (drop (i + 1) row) (ne_eqb node t (λ e. n (sym e))),
)
  where
    node : ℕ
    node = get_or row i d

-- each node from a place on is still to be looked at
abbrev pub not_yet : ℕ → ℕ → ℕ
not_yet i t = cond (nat_lt t i) 0 1

pub first_fewer : (i : ℕ) → IsOneFewer i (not_yet i) (not_yet (i + 1))
first_fewer i = grind (arith, le-ltb, lt-ltb, cases_lt, nat_lt)
