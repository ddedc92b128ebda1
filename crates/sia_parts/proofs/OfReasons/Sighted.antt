-- Sights among the events of a transaction, by place.
use Rattle.std.proofs.Common.{◌≡◌, ◌≢◌, ◌⊎◌, inl, inr, ℕ, ◌<◌, ◌≤◌, List, Bool, true, false, nat_lt, cond, Option, Some, None, refl, sym, subst, ap, ◌∙◌, arith}
use Rattle.std.specs.Prelude.{◌↔◌, ⊤, Contains, IsTrue, MatchOption}
use Rattle.std.proofs.lemmas.Bool.{cases_eq, eq-eqb, ne_eqb}
use Rattle.std.proofs.lemmas.Bool.Decides.{nat_tests}
use Rattle.sia_events.specs.declared.event.Event.{Event}
use Rattle.sia_events.specs.Events.{actor, Saw}
use Rattle.sia_events.specs.Places.{at_place}
use Rattle.sia_events.specs.Dependencies.{IsCommittedWriter}
use Rattle.sia_events.specs.Reads.{SawAt}
use Rattle.sia_events.specs.Refusals.{IsWellFormed}
use Rattle.sia_events.specs.Transactions.{CommitsBefore, Wrote}
use Rattle.sia_events.specs.declared.event.Event.TheVariants.{Begin, Read, Range, Write, Commit, Abort}
use Rattle.sia_events.proofs.OfLaws.Seen.{actor_is_txn}
use Rattle.sia_events.proofs.Writing.Ranges.{one_version}
use Rattle.sia_parts.specs.declared.finding.Edge.{Edge}
use Rattle.sia_parts.specs.declared.finding.Kind.{Kind}
use Rattle.sia_parts.specs.declared.finding.Kind.TheVariants.{Ww, Wr, Rw}
use Rattle.sia_parts.specs.Entries.{EdgeOfKind, IsEdge}
use Rattle.sia_index.specs.Between.{IsBetween}
use Rattle.sia_events.proofs.Shared.Faults.{true_false}
use Rattle.sia_parts.specs.declared.reasons.FirstSight.{FirstSight}
use Rattle.sia_parts.proofs.OfReasons.Groups.{group_between}
use Rattle.sia_parts.proofs.OfReasons.InTwoNumbers.{group_holds}
use Rattle.sia_parts.specs.declared.reasons.Act.{Act}
use Rattle.sia_parts.specs.Acts.{HasActs, IsUnder}
use Rattle.sia_parts.specs.Sightings.{Gives, IsFirstSight, reader_of, writer_of}

pub same_event : (e f : Event) → Some e ≡ Some f → e ≡ f
same_event e f same = cc

-- an event that sees a version without P is no sight of one with P
pub sees_other : (h : List Event) → IsWellFormed h → (P : ℕ → Type 0) (p k v : ℕ) (e : Event) → at_place h p ≡ Some e → Saw e k v → ¬ P v → (t w : ℕ) → SawAt h p t k w → ¬ P w
sees_other h wf P p k v e at saw not t w other fits =
    let same : other.0 ≡ e = same_event other.0 e (sym other.1 ∙ at) in
    not (subst P (one_version h wf p k w v e at (subst (λ f. Saw f k w) same other.3) saw) fits)

-- of t's sights of k at these places the first one that has P, if there is any
abbrev pub IsFirstAt : (ℕ → Type 0) → List Event → ℕ → ℕ → (ℕ → Type 0) → Option FirstSight → Type 0
IsFirstAt P h t k At found = MatchOption found ((p v : ℕ) → At p → SawAt h p t k v → ¬ P v)
    (λ s. SawAt h s.place t k s.version × P s.version × ((p v : ℕ) → At p → SawAt h p t k v → P v → s.place ≤ p))

module _ (P : ℕ → Type 0) (h : List Event) (t k : ℕ) (A B : ℕ → Type 0) where
  -- of no more places
  pub first_of_fewer : ((p : ℕ) → B p → A p) → (found : Option FirstSight) → IsFirstAt P h t k A found → IsFirstAt P h t k B found
  first_of_fewer all None so = λ p v b saw. so p v (all p b) saw
  first_of_fewer all (Some s) so = (so.0, so.1, λ p v b saw fits. so.2 p v (all p b) saw fits)

  module _ (q : ℕ) (split : (p : ℕ) → B p → A p ⊎ (p ≡ q)) where
    -- of one place more, where none has P
    pub first_left : (found : Option FirstSight) → IsFirstAt P h t k A found → ((v : ℕ) → SawAt h q t k v → ¬ P v) → IsFirstAt P h t k B found
    first_left None so none = λ p v b saw. elim (split p b) [ inl old ↦ so p v old saw | inr at ↦ none v (subst (λ r. SawAt h r t k v) at saw) ]
    first_left (Some s) so none = (
      so.0,
      so.1,
      λ p v b saw fits. elim (split p b) [ inl old ↦ so.2 p v old saw fits | inr at ↦ absurd (none v (subst (λ r. SawAt h r t k v) at saw) fits) ],
    )

    -- that doesn't stand before the first
    pub first_kept : (found : Option FirstSight) → IsFirstAt P h t k A found → MatchOption found ⊥ (λ s. s.place ≤ q) → IsFirstAt P h t k B found
    first_kept None so late = absurd late
    first_kept (Some s) so late = (so.0, so.1, λ p v b saw fits. elim (split p b) [ inl old ↦ so.2 p v old saw fits | inr at ↦ omega arith ])

    -- that has one, and stands before it
    pub first_taken : (found : Option FirstSight) → IsFirstAt P h t k A found → MatchOption found ⊤ (λ s. q < s.place) → (v : ℕ) → SawAt h q t k v → P v
        → IsFirstAt P h t k B (Some (record { place = q; version = v }))
    first_taken None so early v saw fits = (saw, fits, λ p w b other gives. elim (split p b) [ inl old ↦ absurd (so p w old other gives) | inr at ↦ omega arith ])
    first_taken (Some s) so early v saw fits = (saw, fits, λ p w b other gives. elim (split p b) [ inl old ↦ let least = so.2 p w old other gives in omega arith | inr at ↦ omega arith ])

-- at all places that there are
pub first_of_all : (P : ℕ → Type 0) (h : List Event) (t k : ℕ) (A : ℕ → Type 0) → ((p v : ℕ) → SawAt h p t k v → A p) → (found : Option FirstSight) → IsFirstAt P h t k A found
    → MatchOption found ((p v : ℕ) → SawAt h p t k v → ¬ P v) (λ s. IsFirstSight P h t k s.place s.version)
first_of_all P h t k A all None so = λ p v saw. so p v (all p v saw) saw
first_of_all P h t k A all (Some s) so = (so.0, so.1, λ p v saw fits. so.2 p v (all p v saw) saw fits)

-- a test whether there is none before
module _ (Q : FirstSight → Type 0) (q : ℕ) (r : Bool) (told : (s : FirstSight) → Q s → r ≡ nat_lt q s.place) where
  pub is_early : (found : Option FirstSight) → MatchOption found (IsTrue r) Q → r ≡ true → MatchOption found ⊤ (λ s. q < s.place)
  is_early None so early = tt
  is_early (Some s) so early = let is = told s so in grind (arith, nat_tests)

  pub is_late : (found : Option FirstSight) → MatchOption found (IsTrue r) Q → r ≡ false → MatchOption found ⊥ (λ s. s.place ≤ q)
  is_late None so late = true_false r so late
  is_late (Some s) so late = let is = told s so in grind (arith, nat_tests)

-- where an event stands that saw the key
under_some : (e : Event) (k v : ℕ) → Saw e k v → (key : ℕ) × ((key ≡ k) ⊎ (key ≡ 18446744073709551615)) × IsUnder e key
under_some (Begin t start) k v saw = absurd saw
under_some (Read t key v) k w saw = (k, inl refl, saw.0)
under_some (Range t lo hi listed) k v saw = elim (cases_eq lo hi) [
  | inl same ↦ (lo, inl (let up = saw.0 in let down = saw.1 in omega arith), sym (ap (λ b. cond b lo 18446744073709551615) (eq-eqb lo hi same)))
  | inr other ↦ (18446744073709551615, inr refl, sym (ap (λ b. cond b lo 18446744073709551615) (ne_eqb lo hi other)))
]
under_some (Write t key) k v saw = absurd saw
under_some (Commit t) k v saw = absurd saw
under_some (Abort t) k v saw = absurd saw

module _ (h : List Event) (t : ℕ) (acts : List Act) (all : HasActs h t acts) where
  -- those of t under a key, one after another
  abbrev pub AreUnder : ℕ → List Act → Type 0
  AreUnder key group = (act : Act) → Contains group act ↔ (Contains acts act × (act.txn ≡ t) × (act.key ≡ key))

  pub those_under : (s key : ℕ) (own group : List Act) → s ≡ t → IsBetween (λ (act : Act). act.txn) acts s s own → IsBetween (λ (act : Act). act.key) own key key group → AreUnder key group
  those_under s key own group is mine under act =
      let one = group_holds (λ (a : Act). a.txn) acts s own (group_between (λ (a : Act). a.txn) acts own s mine) act in
      let two = group_holds (λ (a : Act). a.key) own key group (group_between (λ (a : Act). a.key) own group key under) act in (
        (λ has. let both = two.0 has in let of = one.0 both.0 in (of.0, of.1 ∙ is, both.1)),
        (λ has. two.1 (one.1 (has.0, has.1 ∙ sym is), has.2)),
      )

  -- what one of them saw, t saw
  pub sight_at : (act : Act) → Contains acts act → act.txn ≡ t → (k v : ℕ) (e : Event) → at_place h act.place ≡ Some e → Saw e k v → SawAt h act.place t k v
  sight_at act has is k v e at saw =
      let a = (all.each act is).0 has in
      let same : a.0 ≡ e = same_event a.0 e (sym a.1 ∙ at) in
      (e, at, subst (λ f. actor f ≡ t) same (a.2 ∙ is), saw)

  -- what t saw of k stands under k or under the greatest key
  pub found_under : (p k v : ℕ) → SawAt h p t k v → (key : ℕ) × ((key ≡ k) ⊎ (key ≡ 18446744073709551615)) × Contains acts (record { txn = t; key = key; place = p })
  found_under p k v saw =
      let under = under_some saw.0 k v saw.3 in
      (under.0, under.1, (all.each (record { txn = t; key = under.0; place = p }) refl).1 (saw.0, saw.1, saw.2, under.2))

seen_by_kind : (kind : Kind) (h : List Event) (t u k : ℕ) → EdgeOfKind h kind t u k → kind ≢ Ww → (p : ℕ) × (v : ℕ) × SawAt h p (reader_of kind t u) k v × Gives kind h t u k v
seen_by_kind Ww h t u k edge other = absurd (other refl)
seen_by_kind Wr h t u k edge other = (edge.3, edge.4, edge.5, (edge.6, edge.7, edge.8))
seen_by_kind Rw h t u k edge other = (edge.3, edge.4, edge.5, (edge.6, edge.7, edge.8))

-- an edge that comes of a read has a sight that gives it
pub edge_is_seen : (h : List Event) (e : Edge) → IsEdge h e → e.kind ≢ Ww → ¬ ((p v : ℕ) → SawAt h p (reader_of e.kind e.src e.dst) e.key v → ¬ Gives e.kind h e.src e.dst e.key v)
edge_is_seen h e edge other none = let s = seen_by_kind e.kind h e.src e.dst e.key edge other in none s.0 s.1 s.2 s.3

writer_by_kind : (kind : Kind) (h : List Event) (t u k : ℕ) → EdgeOfKind h kind t u k → IsCommittedWriter h k (writer_of kind t u)
writer_by_kind Ww h t u k edge = (edge.0, (edge.2.0, edge.2.2))
writer_by_kind Wr h t u k edge = edge.1
writer_by_kind Rw h t u k edge = edge.2

pub edge_writer : (h : List Event) (e : Edge) → IsEdge h e → IsCommittedWriter h e.key (writer_of e.kind e.src e.dst)
edge_writer h e edge = writer_by_kind e.kind h e.src e.dst e.key edge

module _ (h : List Event) (wf : IsWellFormed h) (t u k v : ℕ) (written : v ≢ 0 → Wrote h v k) where
  -- a version of a writer that isn't the edge's own source gives the wr edge where it is a later one
  pub wr_given : IsCommittedWriter h k t → v ≢ u → v ≢ t → CommitsBefore h t v ↔ Gives Wr h t u k v
  wr_given writer other later = (
    (λ before.
        let some : 0 < v = (actor_is_txn h wf v before.1 (Commit v, before.3, refl)).0 in
        ((before.1, before.3), other, inr (inr (writer.0, written (λ e. omega arith), before)))),
    (λ given. elim given.2 [
      | inl same ↦ absurd (later (sym same))
      | inr after ↦ elim after [
        | inl none ↦
            let wrote = writer.0 in
            let some : 0 < t = (actor_is_txn h wf t wrote.0 (Write t k, wrote.1, refl)).0 in
            let e = none.0 in
            absurd (omega arith)
        | inr then ↦ then.2
      ]
    ]),
  )

  -- and one that was written gives the rw edge where it is an earlier one
  pub rw_given : IsCommittedWriter h k u → v ≢ t → v ≢ 0 → CommitsBefore h v u ↔ Gives Rw h t u k v
  rw_given writer other some = (
    (λ before. (inr (before.0, before.2), other, inr (written some, writer.0, before))),
    (λ given. elim given.2 [ inl none ↦ absurd (some none.0) | inr then ↦ then.2 ]),
  )
