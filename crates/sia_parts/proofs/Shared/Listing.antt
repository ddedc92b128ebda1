-- Lists put in order, by the ranks of their entries.
use Rattle.std.proofs.Common.{◌≡◌, refl, ◌↔◌, inl, inr, ℕ, ◌<◌, List, [], ◌∷◌, length, ap, sym, subst, ◌∙◌, arith}
use Rattle.std.specs.Prelude.{Contains, slice_index_or}
use Rattle.std.specs.Ordering.{nat_cmp, ordering_then}
use Rattle.std.specs.declared.cmp.Ordering.{Ordering}
use Rattle.std.specs.declared.cmp.Ordering.TheVariants.{Less}
use Rattle.std.specs.List.Sorted.{IsStrictlySortedBy}
use Rattle.std.proofs.lemmas.List.Elements.{Contains-get_or}
use Rattle.std.proofs.lemmas.Map.Keys.{Less-from_sorted}
use Rattle.sia_events.specs.declared.event.Event.{Event}
use Rattle.sia_events.specs.Lists.{Precedes, ListsBy}
use Rattle.sia_events.specs.Refusals.{IsWellFormed}
use Rattle.sia_events.specs.Reads.{SawAt, IsDue}
use Rattle.sia_events.specs.Isolation.{IsBadRead, IsUnexplained}
use Rattle.sia_events.specs.Events.{actor, Saw}
use Rattle.sia_events.proofs.OfLaws.Due.{one_due}
use Rattle.sia_events.proofs.Writing.Ranges.{one_version}
use Rattle.sia_events.proofs.Shared.Starts.{one_event}
use Rattle.sia_index.proofs.Shared.Ordered.{precedes_last, precedes_then}
use Rattle.sia_parts.specs.declared.finding.BadRead.{BadRead}
use Rattle.sia_parts.specs.declared.finding.BadWrite.{BadWrite}
use Rattle.sia_parts.specs.declared.finding.Unexplained.{Unexplained}
use Rattle.sia_parts.specs.declared.finding.Edge.{Edge}
use Rattle.sia_parts.specs.declared.finding.Kind.{Kind}
use Rattle.sia_parts.specs.declared.finding.Kind.TheVariants.{Ww, Wr, Rw}
use Rattle.sia_parts.specs.contracts.finding.KindOrd.TheImpl.{cmp-value}
use Rattle.sia_parts.specs.Entries.{bad_write_rank, edge_rank, kind_number}

-- what was put in order lists what has P by a rank that goes with the order of these
pub put_listed : {A : Type 0} (rank : A → List ℕ) (P : A → Type 0) (c : A → A → Ordering) → ((x y : A) → P x → P y → c x y ≡ Less → Precedes (rank x) (rank y)) → (xs ys : List A) → ((x : A) → Contains xs x ↔ P x) → IsStrictlySortedBy c ys → ((x : A) → Contains xs x → Contains ys x) → ((x : A) → Contains ys x → Contains xs x) → ListsBy rank P ys
put_listed {A} rank P c before xs ys each s keeps adds_none = record {
  ascending = λ i j d less below. before (slice_index_or ys i d) (slice_index_or ys j d) (has i d (let l = less in omega arith)) (has j d below) (Less-from_sorted c ys i j d s less below);
  each = λ x. ((λ c. (each x).0 (adds_none x c)), (λ is. keeps x ((each x).1 is)));
}
  where
    has : (i : ℕ) (d : A) → i < length ys → P (slice_index_or ys i d)
    has i d below = (each (slice_index_or ys i d)).0 (adds_none (slice_index_or ys i d) (Contains-get_or ys i d below))

-- at a place one transaction acts
same_reader : (h : List Event) (p q t u k l v w : ℕ) → p ≡ q → SawAt h p t k v → SawAt h q u l w → t ≡ u
same_reader h p q t u k l v w at a b = sym a.2 ∙ ap actor (one_event h p q a.0 b.0 at a.1 b.1) ∙ b.2

-- and sees each key at one version
same_saw : (h : List Event) → IsWellFormed h → (p q t u k l v w : ℕ) → p ≡ q → k ≡ l → SawAt h p t k v → SawAt h q u l w → v ≡ w
same_saw h wf p q t u k l v w at key a b =
    let event = one_event h p q a.0 b.0 at a.1 b.1 in
    one_version h wf p k v w a.0 a.1 a.3 (subst (λ (x : ℕ). Saw a.0 x w) (sym key) (subst (λ e. Saw e l w) (sym event) b.3))

module _ (h : List Event) (wf : IsWellFormed h) where
  pub bad_read_before : (x y : BadRead) → IsBadRead h x.place x.txn x.key x.saw x.due → IsBadRead h y.place y.txn y.key y.saw y.due → ordering_then (nat_cmp x.place y.place) (ordering_then (nat_cmp x.txn y.txn) (ordering_then (nat_cmp x.key y.key) (ordering_then (nat_cmp x.saw y.saw) (nat_cmp x.due y.due)))) ≡ Less → Precedes (x.place ∷ x.key ∷ []) (y.place ∷ y.key ∷ [])
  bad_read_before x y a b less = of_fields (precedes_then x.place y.place (ordering_then (nat_cmp x.txn y.txn) (ordering_then (nat_cmp x.key y.key) (ordering_then (nat_cmp x.saw y.saw) (nat_cmp x.due y.due)))) (x.txn ∷ x.key ∷ x.saw ∷ x.due ∷ []) (y.txn ∷ y.key ∷ y.saw ∷ y.due ∷ []) less
      (λ l. precedes_then x.txn y.txn (ordering_then (nat_cmp x.key y.key) (ordering_then (nat_cmp x.saw y.saw) (nat_cmp x.due y.due))) (x.key ∷ x.saw ∷ x.due ∷ []) (y.key ∷ y.saw ∷ y.due ∷ []) l
      (λ m. precedes_then x.key y.key (ordering_then (nat_cmp x.saw y.saw) (nat_cmp x.due y.due)) (x.saw ∷ x.due ∷ []) (y.saw ∷ y.due ∷ []) m
      (λ n. precedes_then x.saw y.saw (nat_cmp x.due y.due) (x.due ∷ []) (y.due ∷ []) n (precedes_last x.due y.due)))))
    where
      one_due_of : x.place ≡ y.place → x.txn ≡ y.txn → x.key ≡ y.key → x.due ≡ y.due
      one_due_of place txn key = one_due h y.txn y.place y.key x.due y.due (subst (λ t. IsDue h t y.place y.key x.due) txn (subst (λ p. IsDue h x.txn p y.key x.due) place (subst (λ k. IsDue h x.txn x.place k x.due) key a.1))) b.1

      of_fields : Precedes (x.place ∷ x.txn ∷ x.key ∷ x.saw ∷ x.due ∷ []) (y.place ∷ y.txn ∷ y.key ∷ y.saw ∷ y.due ∷ []) → Precedes (x.place ∷ x.key ∷ []) (y.place ∷ y.key ∷ [])
      of_fields (inl below) = inl below
      of_fields (inr (place, inl below)) = absurd (let same = same_reader h x.place y.place x.txn y.txn x.key y.key x.saw y.saw place a.0 b.0 in omega arith)
      of_fields (inr (place, inr (txn, inl below))) = inr (place, inl below)
      of_fields (inr (place, inr (txn, inr (key, inl below)))) = absurd (let same = same_saw h wf x.place y.place x.txn y.txn x.key y.key x.saw y.saw place key a.0 b.0 in omega arith)
      of_fields (inr (place, inr (txn, inr (key, inr (saw, inl below))))) = absurd (let same = one_due_of place txn key in omega arith)
      of_fields (inr (place, inr (txn, inr (key, inr (saw, inr last))))) = absurd last.1

  pub unexplained_before : (x y : Unexplained) → IsUnexplained h x.place x.txn x.key x.saw → IsUnexplained h y.place y.txn y.key y.saw → ordering_then (nat_cmp x.place y.place) (ordering_then (nat_cmp x.txn y.txn) (ordering_then (nat_cmp x.key y.key) (nat_cmp x.saw y.saw))) ≡ Less → Precedes (x.place ∷ x.key ∷ []) (y.place ∷ y.key ∷ [])
  unexplained_before x y a b less = of_fields (precedes_then x.place y.place (ordering_then (nat_cmp x.txn y.txn) (ordering_then (nat_cmp x.key y.key) (nat_cmp x.saw y.saw))) (x.txn ∷ x.key ∷ x.saw ∷ []) (y.txn ∷ y.key ∷ y.saw ∷ []) less
      (λ l. precedes_then x.txn y.txn (ordering_then (nat_cmp x.key y.key) (nat_cmp x.saw y.saw)) (x.key ∷ x.saw ∷ []) (y.key ∷ y.saw ∷ []) l
      (λ m. precedes_then x.key y.key (nat_cmp x.saw y.saw) (x.saw ∷ []) (y.saw ∷ []) m (precedes_last x.saw y.saw))))
    where
      of_fields : Precedes (x.place ∷ x.txn ∷ x.key ∷ x.saw ∷ []) (y.place ∷ y.txn ∷ y.key ∷ y.saw ∷ []) → Precedes (x.place ∷ x.key ∷ []) (y.place ∷ y.key ∷ [])
      of_fields (inl below) = inl below
      of_fields (inr (place, inl below)) = absurd (let same = same_reader h x.place y.place x.txn y.txn x.key y.key x.saw y.saw place a.1 b.1 in omega arith)
      of_fields (inr (place, inr (txn, inl below))) = inr (place, inl below)
      of_fields (inr (place, inr (txn, inr (key, inl below)))) = absurd (let same = same_saw h wf x.place y.place x.txn y.txn x.key y.key x.saw y.saw place key a.1 b.1 in omega arith)
      of_fields (inr (place, inr (txn, inr (key, inr last)))) = absurd last.1

pub bad_write_before : (x y : BadWrite) → ordering_then (nat_cmp x.key y.key) (ordering_then (nat_cmp x.first y.first) (nat_cmp x.second y.second)) ≡ Less → Precedes (bad_write_rank x) (bad_write_rank y)
bad_write_before x y less = precedes_then x.key y.key (ordering_then (nat_cmp x.first y.first) (nat_cmp x.second y.second)) (x.first ∷ x.second ∷ []) (y.first ∷ y.second ∷ []) less
    (λ l. precedes_then x.first y.first (nat_cmp x.second y.second) (x.second ∷ []) (y.second ∷ []) l (precedes_last x.second y.second))

-- kinds go by their numbers
kind_order : (k l : Kind) → cmp-value.it k l ≡ nat_cmp (kind_number k) (kind_number l)
kind_order Ww Ww = refl
kind_order Ww Wr = refl
kind_order Ww Rw = refl
kind_order Wr Ww = refl
kind_order Wr Wr = refl
kind_order Wr Rw = refl
kind_order Rw Ww = refl
kind_order Rw Wr = refl
kind_order Rw Rw = refl

pub edge_before : (x y : Edge) → ordering_then (nat_cmp x.src y.src) (ordering_then (nat_cmp x.dst y.dst) (ordering_then (cmp-value.it x.kind y.kind) (nat_cmp x.key y.key))) ≡ Less → Precedes (edge_rank x) (edge_rank y)
edge_before x y less = precedes_then x.src y.src (ordering_then (nat_cmp x.dst y.dst) (ordering_then (cmp-value.it x.kind y.kind) (nat_cmp x.key y.key))) (x.dst ∷ kind_number x.kind ∷ x.key ∷ []) (y.dst ∷ kind_number y.kind ∷ y.key ∷ []) less
    (λ l. precedes_then x.dst y.dst (ordering_then (cmp-value.it x.kind y.kind) (nat_cmp x.key y.key)) (kind_number x.kind ∷ x.key ∷ []) (kind_number y.kind ∷ y.key ∷ []) l
    (λ m. precedes_then (kind_number x.kind) (kind_number y.kind) (nat_cmp x.key y.key) (x.key ∷ []) (y.key ∷ []) (rw (kind_order x.kind y.kind) at m) (precedes_last x.key y.key)))
