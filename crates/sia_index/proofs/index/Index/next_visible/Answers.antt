-- The first commits of the keys tell.
use Rattle.std.proofs.Common.{◌-◌, ◌≤◌, ℕ, inl, inr, length, ap, sym, subst, refl, arith}
use Rattle.std.specs.Prelude.{slice_index}
use Rattle.std.proofs.lemmas.Bool.{cases_lt}
use Rattle.std.specs.List.{AllWithin}
use Rattle.sia_index.specs.Tables.{AreTables}
use Rattle.sia_index.specs.Minima.{AreMinima, IsNextBelow}
use Rattle.sia_index.proofs.Shared.KeyChains.{key_number}
use Rattle.sia_index.proofs.Answering.PositionLaws.{visible_is}
use Rattle.sia_index.proofs.index.Index.next_visible.Goals as goal

pub next_below-requires-clause-within : goal.next_below-requires-clause-within
next_below-requires-clause-within c =
    let are = subst (λ h. AreTables h c.self.inside.txns c.self.inside.keys c.self.inside.versions c.self.inside.writes) c.self.view_is c.self.invariant in
    let long = are.versions_are.first_commits_are.0 in
    let count = are.versions_are.firsts_are.count in
    let same = ap length c.deref.ensures.value in
    elim (cases_lt 0 c.args.to) [
      | inl some ↦
          let key = c.requires (c.args.to - 1) (omega arith) in
          let last = (key_number c.args.self.now _ are.keys_are.listed_are (c.args.to - 1) _ (key.0, key.1, key.2, refl)).0 in
          omega arith
      | inr none ↦ omega arith
    ]

pub next_below-requires-clause-minima_are : goal.next_below-requires-clause-minima_are
next_below-requires-clause-minima_are c =
    let are = subst (λ h. AreTables h c.self.inside.txns c.self.inside.keys c.self.inside.versions c.self.inside.writes) c.self.view_is c.self.invariant in
    subst (λ ps. AreMinima (λ (place : ℕ). place) ps c.deref-2.result.now) (sym c.deref.ensures.value) (subst (AreMinima (λ (place : ℕ). place) c.self.inside.versions.first_commits.items) (sym c.deref-2.ensures.value) are.versions_are.minima_are)

pub returns : goal.returns
returns c =
    let are = subst (λ h. AreTables h c.self.inside.txns c.self.inside.keys c.self.inside.versions c.self.inside.writes) c.self.view_is c.self.invariant in
    let commits = c.self.inside.versions.first_commits.items in
    let found = subst (λ ps. IsNextBelow (λ (place : ℕ). place) ps c.args.from c.args.to c.from.result c.in_ok-found.found) c.deref.ensures.value c.in_ok-found.ensures in
    let limit = c.from.ensures in (
      found.0,
      found.1,
      λ i k from_i less is has.
          let under = (visible_is c.args.self.now _ _ _ _ are i k is c.args.place c.ranges.place.fits (slice_index commits i) refl).1 has in
          let over = found.3 i 0 from_i less in
          omega arith,
      λ k is. (visible_is c.args.self.now _ _ _ _ are c.in_ok-found.found k is c.args.place c.ranges.place.fits (slice_index commits c.in_ok-found.found) refl).0 (let under = found.2 0 in omega arith),
    )

pub returns-in_err-found : goal.returns-in_err-found
returns-in_err-found c =
    let are = subst (λ h. AreTables h c.self.inside.txns c.self.inside.keys c.self.inside.versions c.self.inside.writes) c.self.view_is c.self.invariant in
    let commits = c.self.inside.versions.first_commits.items in
    let none = subst (λ ps. AllWithin (λ (place : ℕ). c.from.result ≤ place) ps c.args.from c.args.to) c.deref.ensures.value c.in_err-found.ensures in
    rw c.from_residual.ensures (λ i k from_i less is has.
    let under = (visible_is c.args.self.now _ _ _ _ are i k is c.args.place c.ranges.place.fits (slice_index commits i) refl).1 has in
    let over = none i 0 from_i less in
    let limit = c.from.ensures in
    omega arith)
