-- Edges of sources that follow one another.
use Rattle.std.proofs.Common.{◌≡◌, ◌⊎◌, inl, inr, ℕ, ◌+◌, ◌-◌, ◌<◌, ◌≤◌, List, [], ◌++◌, length, get_or, refl, ap, ◌∙◌, arith, length-append}
use Rattle.std.specs.Prelude.{◌↔◌, slice_index}
use Rattle.std.proofs.lemmas.Bool.{cases_lt}
use Rattle.std.proofs.lemmas.List.{get_or-append-add, get_or_append_left, get_or_default}
use Rattle.std.proofs.lemmas.List.Elements.{Contains-append_cases, Contains-append_left, Contains-append_right, Contains-get_or}
use Rattle.sia_events.specs.declared.event.Event.{Event}
use Rattle.sia_events.specs.Lists.{ListsAscending, ListsBy, Precedes}
use Rattle.sia_events.specs.Transactions.{IsCommitted}
use Rattle.sia_index.specs.Numbers.{IsCommittedAt}
use Rattle.sia_index.proofs.Shared.Ordered.{ascends}
use Rattle.sia_parts.specs.declared.finding.Edge.{Edge}
use Rattle.sia_parts.specs.declared.finding.Kind.{Kind}
use Rattle.sia_parts.specs.declared.finding.Kind.TheVariants.{Ww, Wr, Rw}
use Rattle.sia_parts.specs.EdgeRows.{IsEdgeBetween, ListsEdgesBetween}
use Rattle.sia_parts.specs.Entries.{EdgeOfKind, edge_rank}
use Rattle.sia_parts.specs.Findings.{ListsEdges}
use Rattle.sia_parts.proofs.Auditing.Committing.{committed_number}

-- a list behind one whose entries are all before its own
pub lists_both : {A : Type 0} (rank : A → List ℕ) (P Q R : A → Type 0) → ((x : A) → R x ↔ (P x ⊎ Q x)) → ((x y : A) → P x → Q y → Precedes (rank x) (rank y))
    → (xs ys : List A) → ListsBy rank P xs → ListsBy rank Q ys → ListsBy rank R (xs ++ ys)
lists_both {A} rank P Q R either before xs ys first second = record {
  ascending = λ i j d less below. elim (cases_lt j (length xs)) [
    | inl both ↦ rw (get_or_append_left xs ys d i (omega arith), get_or_append_left xs ys d j both) (first.ascending i j d less both)
    | inr late ↦ (
        let long = length-append xs ys in
        let at = right j d late in
        elim (cases_lt i (length xs)) [
          | inl early ↦ rw (get_or_append_left xs ys d i early, at.1) (before (get_or xs i d) (get_or ys at.0 d)
              ((first.each (get_or xs i d)).0 (Contains-get_or xs i d early)) ((second.each (get_or ys at.0 d)).0 (Contains-get_or ys at.0 d (let e = at.2 in omega arith))))
          | inr there ↦ (let from = right i d there in rw (from.1, at.1) (second.ascending from.0 at.0 d (let e = from.2 in let f = at.2 in omega arith) (let e = at.2 in omega arith)))
        ])
  ];
  each = λ x. (
    (λ c. (either x).1 (elim (Contains-append_cases xs ys x c) [ inl left ↦ inl ((first.each x).0 left) | inr there ↦ inr ((second.each x).0 there) ])),
    (λ r. elim ((either x).0 r) [ inl p ↦ Contains-append_left xs ys x ((first.each x).1 p) | inr q ↦ Contains-append_right xs ys x ((second.each x).1 q) ]),
  );
}
  where
    right : (j : ℕ) (d : A) → length xs ≤ j → (k : ℕ) × (get_or (xs ++ ys) j d ≡ get_or ys k d) × (length xs + k ≡ j)
    right j d late = (
      j - length xs,
      ap (λ n. get_or (xs ++ ys) n d) (omega arith) ∙ get_or-append-add xs ys (j - length xs) d,
      omega arith,
    )

-- who has the lesser number has the lesser name
sources_go : (h : List Event) (i j t u : ℕ) → IsCommittedAt h i t → IsCommittedAt h j u → i < j → t < u
sources_go h i j t u a b less =
    let there = committed_number h a.0 a.1 j u b in
    let up : slice_index a.0 i < slice_index a.0 j = ascends (λ (x : ℕ). x) (IsCommitted h) a.0 a.1 i j 0 less there.0 in
    let from = a.3 in
    let to = there.1 in
    omega arith

-- a place among the committed transactions is a number
pub has_number : (h : List Event) (txns : List ℕ) → ListsAscending (IsCommitted h) txns → (i : ℕ) → i < length txns → (t : ℕ) × IsCommittedAt h i t
has_number h txns are i below = (slice_index txns i, (txns, are, below, refl))

edge_source : (h : List Event) (kind : Kind) (t u k : ℕ) → EdgeOfKind h kind t u k → IsCommitted h t
edge_source h Ww t u k edge = (edge.2.0, edge.2.2)
edge_source h Wr t u k edge = edge.1.1
edge_source h Rw t u k edge = edge.1

module _ (h : List Event) (Within : ℕ → Type 0) where
  -- no source has no edges
  pub edges_none : (a : ℕ) → ListsEdgesBetween h Within a a []
  edges_none a = record {
    ascending = λ i j d less below. absurd (omega arith);
    each = λ e. ((λ c. absurd (let b = c.1 in omega arith)), (λ is. absurd (let low = is.3 in let high = is.4 in omega arith)));
  }

  pub edges_joined : (a b c : ℕ) → a ≤ b → b ≤ c → (xs ys : List Edge) → ListsEdgesBetween h Within a b xs → ListsEdgesBetween h Within b c ys → ListsEdgesBetween h Within a c (xs ++ ys)
  edges_joined a b c low high xs ys first second = lists_both edge_rank (IsEdgeBetween h Within a b) (IsEdgeBetween h Within b c) (IsEdgeBetween h Within a c)
      (λ e. (
        (λ is. elim (cases_lt is.2 b) [
          | inl under ↦ inl (is.0, is.1, is.2, is.3, under, is.5)
          | inr over ↦ inr (is.0, is.1, is.2, over, is.4, is.5)
        ]),
        (λ is. elim is [
          | inl left ↦ (left.0, left.1, left.2, left.3, (let less = left.4 in omega arith), left.5)
          | inr there ↦ (there.0, there.1, there.2, (let most = there.3 in omega arith), there.4, there.5)
        ]),
      ))
      (λ x y p q. inl (sources_go h p.2 q.2 x.src y.src p.5 q.5 (let less = p.4 in let most = q.3 in omega arith)))
      xs ys first second

  -- those of all sources are all
  pub edges_all : (txns : List ℕ) → ListsAscending (IsCommitted h) txns → (n : ℕ) → n ≡ length txns → (xs : List Edge) → ListsEdgesBetween h Within 0 n xs → ListsEdges h Within xs
  edges_all txns are n long xs all = record {
    ascending = all.ascending;
    each = λ e. (
      (λ c. (let is = (all.each e).0 c in (is.0, is.1))),
      (λ is. (
          let c = (are.each e.src).1 (edge_source h e.kind e.src e.dst e.key is.0) in
          (all.each e).1 (is.0, is.1, c.0, omega arith, (let b = c.1 in omega arith), (txns, are, c.1, get_or_default txns c.0 0 e.src c.1 ∙ c.2)))),
    );
  }
