-- Looks and edges: a look of one up to another's commit, or after it.
use Rattle.std.proofs.Common.{◌≡◌, ◌≢◌, ◌⊎◌, inl, inr, ℕ, ◌<◌, ◌≤◌, List, refl, subst, arith}
use Rattle.std.proofs.lemmas.Bool.{cases_eq}
use Rattle.sia_events.specs.declared.event.Event.{Event}
use Rattle.sia_events.specs.NarrowDependencies.{IsAsOf, Looked}
use Rattle.sia_events.specs.Refusals.{IsWellFormed}
use Rattle.sia_events.specs.Transactions.{IsCommitted, CommitsAt, Wrote}
use Rattle.sia_events.specs.Dependencies.{IsVersionBefore, WrEdge, RwEdge}
use Rattle.sia_events.proofs.Writing.WellFormed.{one_commit}
use Rattle.sia_events.proofs.OfLaws.Endings.{one_committer}
use Rattle.sia_events.proofs.OfLaws.Seen.{saw_written}
use Rattle.sia_events.proofs.OfLaws.Versions.{writer_not_zero}
use Rattle.sia_parts.proofs.Auditing.AsOf.{commit_positive, zero_commits_not}

module _ (h : List Event) (wf : IsWellFormed h) where
  -- a committed transaction's sight of a key as of place c is a wr edge from each other writer up to there
  pub wr_from_look : (k : ℕ) (t u c d : ℕ) → t ≢ u → Wrote h t k → CommitsAt h t d → Looked h u k c → d ≤ c → WrEdge h t u k
  wr_from_look k t u c d other wrote at look le = of_version look.5
    where
      of_version : IsAsOf h look.2 c → WrEdge h t u k
      of_version (inl none) = absurd (let positive = commit_positive h wf t d at in let zero = none.1 in omega arith)
      of_version (inr commits) = (
        other,
        (wrote, (d, at)),
        look.0,
        look.1,
        look.2,
        look.3,
        (c, commits),
        look.4,
        elim (cases_eq d c) [
          | inl same ↦ inl (one_committer h t look.2 c (subst (CommitsAt h t) same at) commits)
          | inr differ ↦
              let seen = saw_written h wf look.1 u k look.2 look.3 (λ zero. zero_commits_not h wf c (subst (λ v. CommitsAt h v c) zero commits)) in
              inr (inr (wrote, (seen.0, seen.2), (d, c, at, commits, (let less : d < c = omega arith in less))))
        ],
      )

  -- and each wr edge is so
  pub look_of_wr : (k t u : ℕ) → WrEdge h t u k → (c : ℕ) × (d : ℕ) × CommitsAt h t d × Looked h u k c × (d ≤ c)
  look_of_wr k t u edge = (edge.6.0, edge.1.1.0, edge.1.1.1, (edge.2, edge.3, edge.4, edge.5, edge.7, inr edge.6.1), of_before edge.8)
    where
      of_before : (t ≡ edge.4) ⊎ IsVersionBefore h k t edge.4 → edge.1.1.0 ≤ edge.6.0
      of_before (inl same) = let one : edge.1.1.0 ≡ edge.6.0 = one_commit h wf edge.4 edge.1.1.0 edge.6.0 (subst (λ v. CommitsAt h v edge.1.1.0) same edge.1.1.1) edge.6.1 in omega arith
      of_before (inr (inl none)) = absurd (writer_not_zero h wf t k edge.1.0 none.0)
      of_before (inr (inr both)) =
          let own : both.2.0 ≡ edge.1.1.0 = one_commit h wf t both.2.0 edge.1.1.0 both.2.2 edge.1.1.1 in
          let seen : both.2.1 ≡ edge.6.0 = one_commit h wf edge.4 both.2.1 edge.6.0 both.2.3 edge.6.1 in
          let less : both.2.0 < both.2.1 = both.2.4 in
          omega arith

  -- a committed transaction's sight of a key as of place c is a rw edge to each other writer after it
  pub rw_from_look : (k t u c d : ℕ) → t ≢ u → Wrote h u k → CommitsAt h u d → Looked h t k c → c < d → RwEdge h t u k
  rw_from_look k t u c d other wrote at look less = of_version look.5
    where
      of_version : IsAsOf h look.2 c → RwEdge h t u k
      of_version (inl none) = (other, look.0, (wrote, (d, at)), look.1, look.2, look.3, inl none.0, look.4, inl (none.0, (wrote, (d, at))))
      of_version (inr commits) =
          let seen = saw_written h wf look.1 t k look.2 look.3 (λ zero. zero_commits_not h wf c (subst (λ v. CommitsAt h v c) zero commits)) in
          (other, look.0, (wrote, (d, at)), look.1, look.2, look.3, inr (c, commits), look.4, inr ((seen.0, seen.2), wrote, (c, d, commits, at, less)))

  -- and each rw edge is so
  pub look_of_rw : (k t u : ℕ) → RwEdge h t u k → (c : ℕ) × (d : ℕ) × CommitsAt h u d × Looked h t k c × (c < d)
  look_of_rw k t u edge = of_version edge.6
    where
      of_version : (edge.4 ≡ 0) ⊎ IsCommitted h edge.4 → (c : ℕ) × (d : ℕ) × CommitsAt h u d × Looked h t k c × (c < d)
      of_version (inl zero) = (0, edge.2.1.0, edge.2.1.1, (edge.1, edge.3, edge.4, edge.5, edge.7, inl (zero, refl)), commit_positive h wf u edge.2.1.0 edge.2.1.1)
      of_version (inr commits) = (commits.0, edge.2.1.0, edge.2.1.1, (edge.1, edge.3, edge.4, edge.5, edge.7, inr commits.1), of_before edge.8)
        where
          of_before : IsVersionBefore h k edge.4 u → commits.0 < edge.2.1.0
          of_before (inl none) = absurd (zero_commits_not h wf commits.0 (subst (λ v. CommitsAt h v commits.0) none.0 commits.1))
          of_before (inr both) =
              let own : both.2.1 ≡ edge.2.1.0 = one_commit h wf u both.2.1 edge.2.1.0 both.2.3 edge.2.1.1 in
              let seen : both.2.0 ≡ commits.0 = one_commit h wf edge.4 both.2.0 commits.0 both.2.2 commits.1 in
              let less : both.2.0 < both.2.1 = both.2.4 in
              omega arith
