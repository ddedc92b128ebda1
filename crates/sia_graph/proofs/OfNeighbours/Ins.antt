-- From whom edges lead to number i: who saw a version before one that it made, or passed over the key.
use Rattle.std.proofs.Common.{◌≡◌, ◌⊎◌, inl, inr, ℕ, ◌+◌, ◌<◌, ◌≤◌, List, length, take, refl, ap, sym, subst, ◌∙◌, arith}
use Rattle.std.specs.Prelude.{◌↔◌, ⊤, Contains, slice_index}
use Rattle.std.proofs.lemmas.Bool.{cases_lt}
use Rattle.std.proofs.lemmas.List.{get_or-take, get_or_default, length-take}
use Rattle.sia_events.specs.declared.event.Event.{Event}
use Rattle.sia_events.specs.Lists.{ListsAscending}
use Rattle.sia_index.specs.declared.info.KeyVersion.{KeyVersion}
use Rattle.sia_index.specs.Info.{AreWrittenKeys, IsKeyAt}
use Rattle.sia_index.specs.Numbers.{IsCommittedAt}
use Rattle.sia_index.specs.Positions.{IsAtPosition}
use Rattle.sia_index.proofs.Shared.Ordered.{ascends}
use Rattle.sia_parts.specs.declared.accesses.Accesses.{Accesses}
use Rattle.sia_parts.specs.declared.finding.Kind.TheVariants.{Rw}
use Rattle.sia_parts.specs.Accesses.{Missed, SawPosition}
use Rattle.sia_parts.specs.EdgeRows.{IsMadeAt, IsOfKey}
use Rattle.sia_parts.specs.Sights.{Adds, FromSome}
use Rattle.sia_parts.proofs.EdgeRows.KeyEnds.{rises_at}
use Rattle.sia_parts.proofs.EdgeRows.PositionEdges.{edge_is_told, makers_apart, told_is_edge}
use Rattle.sia_parts.proofs.EdgeRows.PositionOrder.{between_of_key, by_commit, made_of_key, one_key_of, same_number}
use Rattle.sia_parts.proofs.Shared.Adding.{FromFirst, from_more}
use Rattle.sia_parts.proofs.Shared.OneNumber.{one_committed as one_txn_at}
use Rattle.sia_graph.specs.declared.neighbours.Neighbour.{Neighbour}
use Rattle.sia_graph.specs.declared.neighbours.Neighbours.{Neighbours}
use Rattle.sia_graph.specs.declared.neighbours.Passing.{Passing}
use Rattle.sia_graph.specs.declared.neighbours.Role.TheVariants.{In}
use Rattle.sia_graph.specs.Found.{BeginUpTo, CanFind, IsInRow, IsLookerRow, IsPasserRow}
use Rattle.sia_graph.specs.Links.{IsVulnerableAt}

-- the row of one who saw a version before that at position q, which number i made, or passed over its key
abbrev pub IsInAt : Neighbours → ℕ → ℕ → Neighbour → Type 0
IsInAt n i q row = IsInRow n.evidence.index.now i row.txn row × (j : ℕ) × IsMadeAt n.evidence.index.now i j q
    × (((p : ℕ) × SawPosition n.evidence.accesses.now row.txn p × IsOfKey n.evidence.index.now j p × (p < q)) ⊎ Missed n.evidence.accesses.now row.txn j)

-- of the first versions that number i made the last one stands at low, and no range miss before the place begins behind its key
abbrev pub GoneTo : Neighbours → ℕ → List ℕ → ℕ → ℕ → ℕ → Type 0
GoneTo n i made count low place = ((low ≡ 0) × (place ≡ 0)) ⊎ (Contains (take count made) low × (j : ℕ) × IsMadeAt n.evidence.index.now i j low × BeginUpTo n j place)

-- the versions that number t made
abbrev pub IsMadeBy : List Event → ℕ → ℕ → Type 0
IsMadeBy h t q = (v : KeyVersion) × IsAtPosition h q v × (0 < v.commit) × (v.txn ≡ t)

module _ (n : Neighbours) (can : CanFind n) (i t : ℕ) (at : IsCommittedAt n.evidence.index.now i t) where
  abbrev h : List Event
  h = n.evidence.index.now

  abbrev a : Accesses
  a = n.evidence.accesses.now

  pub made_here : (j q : ℕ) → ((v : KeyVersion) → IsAtPosition h q v → IsKeyAt h j v.key) → IsMadeBy h t q → IsMadeAt h i j q
  made_here j q key is = record { version = is.0; at = is.1; key = key is.0 is.1; made = is.2; maker = subst (IsCommittedAt h i) (sym is.3) at }

  -- these are the ends of vulnerable edges
  pub ins_are : (keys : List ℕ) → AreWrittenKeys h keys → (made : List ℕ) → ((q : ℕ) → Contains made q ↔ IsMadeBy h t q) → (row : Neighbour)
      → FromSome (IsInAt n i) made row ↔ ((row.role ≡ In) × IsVulnerableAt h row.txn i)
  ins_are keys written made each row = (
    (λ f.
        let q = f.0 in
        let is = f.2.0 in
        let m = f.2.2 in
        let o = is.2 in
        let edge = told_is_edge h can.evidence.well_formed (λ _. ⊤) a can.evidence.accesses row.txn f.2.1 i o.1 m.version.key o.0 o.3 o.2 m.key Rw ((λ same. is.1 (sym same)), q, m, f.2.3) in
        (ap (λ (r : Neighbour). r.role) is.0, (o.1, o.0, o.3, o.2, ((o.4.1, o.4.0), m.version.key, edge)))),
    (λ w.
        let v = w.1 in
        let edge = v.4.2 in
        let k = v.4.1 in
        let c = (written.each k).1 (v.1, edge.2.0) in
        let key : IsKeyAt h c.0 k = (keys, written, c.1, get_or_default keys c.0 0 k c.1 ∙ c.2) in
        let told = edge_is_told h can.evidence.well_formed (λ _. ⊤) a can.evidence.accesses row.txn c.0 i v.0 k v.1 v.2 v.3 key can.looks.long.0 can.looks.long.1 tt Rw edge in
        let m = told.2 in
        let own = one_txn_at h i m.version.txn t m.maker at in
        (told.1, (each told.1).1 (m.version, m.at, m.made, own), (((λ x. record { role = w.0 x; txn = row.txn }), (λ same. told.0 (sym same)), (v.1, v.0, v.3, v.2, (v.4.0.1, v.4.0.0))), c.0, m, told.3))),
  )

  -- the next version that number i made
  module _ (made : List ℕ) (are : ListsAscending (IsMadeBy h t) made) (count : ℕ) (below : count < length made) (j : ℕ) (m : IsMadeAt h i j (slice_index made count))
      (low place : ℕ) (gone : GoneTo n i made count low place) where
    abbrev here : ℕ
    here = slice_index made count

    low_before : Contains (take count made) low → low < here
    low_before c =
        let long = length-take count made in
        let before : c.0 < count = (let b = c.1 in omega arith) in
        let same = get_or_default made c.0 0 low (omega arith) ∙ sym (get_or-take count made c.0 low before) ∙ c.2 in
        let up : slice_index made c.0 < here = ascends (λ (x : ℕ). x) (IsMadeBy h t) made are c.0 count 0 before below in
        omega arith

    key_rises : (k : ℕ) → Contains (take count made) low → IsMadeAt h i k low → k ≤ j
    key_rises k c w = let before = low_before c in rises_at h m.key.0 m.key.1 low here k j w.version m.version w.at m.at w.key m.key (omega arith)

    -- no range miss before the place begins behind its key either
    pub begin_next : BeginUpTo n j place
    begin_next = elim gone [
      | inl none ↦ ((let zero = none.1 in omega arith), (λ k p less. absurd (let zero = none.1 in omega arith)))
      | inr last ↦ (
          let up = key_rises last.1 last.0 last.2 in
          (last.3.0, (λ k p less. let le = last.3.1 k p less in omega arith)))
    ]

    -- between the last one and it stands version 0 of its key
    module _ (first : ℕ) (v : KeyVersion) (at_first : IsAtPosition h first v) (key : IsKeyAt h j v.key) (zero : v.commit ≡ 0) where
      abbrev of_first : IsOfKey h j first
      of_first = record { version = v; at = at_first; key = key }

      first_before : (p : ℕ) → IsOfKey h j p → first ≤ p
      first_before p of = elim (cases_lt p first) [
        | inl less ↦ absurd (let more = by_commit h p first of.version v of.at at_first (one_key_of h j p first of of_first) less in omega arith)
        | inr most ↦ most
      ]

      low_first : low ≤ first
      low_first = elim gone [
        | inl none ↦ (let is = none.0 in omega arith)
        | inr last ↦ elim (cases_lt low first) [
          | inl less ↦ omega arith
          | inr from ↦ (
              let less = low_before last.0 in
              let w = last.2 in
              let of = between_of_key h j first low here of_first (made_of_key h i j here m) from (omega arith) (w.version, w.at) in
              let same = same_number h last.1 j low (made_of_key h i last.1 low w) of in
              absurd (makers_apart h can.evidence.well_formed i i j low here (subst (λ k. IsMadeAt h i k low) same w) m less refl))
        ]
      ]

      pub stands : (low ≤ first) × (first ≤ here)
      stands = (low_first, first_before here (made_of_key h i j here m))

      in_row : (u : ℕ) (row : Neighbour) → IsInRow h i u row → u ≡ row.txn
      in_row u row is = sym (ap (λ (r : Neighbour). r.txn) is.0)

      of_looker : (row : Neighbour) → IsLookerRow n i first here row → IsInAt n i here row
      of_looker row (p, from, less, (look, c, is)) =
          let same = in_row look row is in
          let saw = (can.looks.each p look).0 c in
          let x = (can.evidence.accesses.saw look p saw).3.version in
          let of = between_of_key h j first p here of_first (made_of_key h i j here m) from (omega arith) (x.0, x.1) in
          (subst (λ u. IsInRow h i u row) same is, j, m, inl (p, subst (λ u. SawPosition a u p) same saw, of, less))

      of_passer : (row : Neighbour) → IsPasserRow n i j place (length n.passings.items) row → IsInAt n i here row
      of_passer row (at_place, p, from, within, is_there, begins, ends, is) =
          let same = in_row p.reader row is in
          let has = (can.passings.each p).0 (at_place, within, is_there) in
          (subst (λ u. IsInRow h i u row) same is, j, m, inr (subst (λ u. Missed a u j) same (record { from = p.from; to = p.to }, has, begins, ends)))

      -- its rows are those of who saw a version from the first one on, and of who passed over the key in a range miss from the place on
      pub ins_more : (old mid seen new : List Neighbour) → Adds (FromFirst (IsInAt n i) made count) old mid → Adds (IsLookerRow n i first here) mid seen → Adds (IsPasserRow n i j place (length n.passings.items)) seen new
          → Adds (FromFirst (IsInAt n i) made (count + 1)) old new
      ins_more old mid seen new before lookers passers = from_more (IsInAt n i) made count 0 old mid new below before (λ row. (
        (λ c. elim ((passers row).0 c) [
          | inl first ↦ elim ((lookers row).0 first) [ inl held ↦ inl held | inr is ↦ inr (of_looker row is) ]
          | inr is ↦ inr (of_passer row is)
        ]),
        (λ e. elim e [
          | inl held ↦ (passers row).1 (inl ((lookers row).1 (inl held)))
          | inr is ↦ put row is
        ]),
      ))
        where
          put : (row : Neighbour) → IsInAt n i here row → Contains new row
          put row (is, k, w, inl (p, saw, of, less)) =
              let mine = subst (λ x. IsOfKey h x p) (same_number h k j here (made_of_key h i k here w) (made_of_key h i j here m)) of in
              let c = (can.looks.each p row.txn).1 saw in
              (passers row).1 (inl ((lookers row).1 (inr (p, first_before p mine, less, (row.txn, c, is)))))
          put row (is, k, w, inr missed) =
              let same = same_number h k j here (made_of_key h i k here w) (made_of_key h i j here m) in
              let miss = missed.0 in
              let from = missed.2 in
              let to = missed.3 in
              let p : Passing = record { from = miss.from; to = miss.to; reader = row.txn } in
              let c = (can.passings.each p).1 missed.1 in
              elim (cases_lt c.0 place) [
                | inr behind ↦ (passers row).1 (inr (c.0, p, behind, c.1, c.2, omega arith, omega arith, is))
                | inl under ↦ elim gone [
                  | inl none ↦ absurd (let zero = none.1 in omega arith)
                  | inr last ↦
                      let own = ap (λ (x : Passing). x.from) c.2 in
                      let up = key_rises last.1 last.0 last.2 in
                      (passers row).1 (inl ((lookers row).1 (inl ((before row).1 (inr (low, last.0, (is, last.1, last.2, inr (miss, missed.1, omega arith, omega arith))))))))
                ]
              ]
