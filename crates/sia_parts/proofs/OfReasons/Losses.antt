-- The first sight of a version that comes before the first committer's decides whether a bad write is a lost update.
use Rattle.std.proofs.Common.{◌≡◌, ◌≢◌, inl, inr, ℕ, ◌<◌, ◌≤◌, List, refl, sym, subst, ◌∙◌, arith}
use Rattle.std.proofs.lemmas.Bool.{cases_lt}
use Rattle.sia_events.specs.declared.event.Event.{Event}
use Rattle.sia_events.specs.declared.event.Event.TheVariants.{Write}
use Rattle.sia_events.specs.Dependencies.{IsVersionBefore}
use Rattle.sia_events.specs.Events.{Saw}
use Rattle.sia_events.specs.Isolation.{IsBadWrite}
use Rattle.sia_events.specs.Reads.{SawAt}
use Rattle.sia_events.specs.Refusals.{IsWellFormed}
use Rattle.sia_events.specs.Transactions.{CommitsBefore, WritesAt}
use Rattle.sia_events.proofs.OfLaws.Seen.{actor_is_txn}
use Rattle.sia_events.proofs.OfLaws.Versions.{commits_before_both, commits_not_before_itself}
use Rattle.sia_index.specs.Info.{IsFirstWrite}
use Rattle.sia_parts.specs.declared.finding.Kind.TheVariants.{Rw}
use Rattle.sia_parts.specs.LostUpdates.{IsLostUpdate, LosesFirstAt}
use Rattle.sia_parts.specs.Sightings.{Gives, IsFirstSight}
use Rattle.sia_parts.proofs.OfReasons.Sighted.{same_event}

module _ (h : List Event) (wf : IsWellFormed h) (k first second : ℕ) (bad : IsBadWrite h k first second) where
  not_second : (v : ℕ) → IsVersionBefore h k v first → v ≢ second
  not_second v before same = elim before [
    | inl z ↦
        let some : 0 < second = (actor_is_txn h wf second bad.1.0 (Write second k, bad.1.1, refl)).0 in
        let none : v ≡ 0 = z.0 in
        omega arith
    | inr w ↦ commits_not_before_itself h wf first (commits_before_both h wf first second first bad.3 (subst (λ t. CommitsBefore h t first) same w.2))
  ]

  gives_it : (v : ℕ) → IsVersionBefore h k v first → Gives Rw h second first k v
  gives_it v before = (elim before [ inl z ↦ inl z.0 | inr w ↦ inr (w.2.0, w.2.2) ], not_second v before, before)

  pub none_loses : ((p v : ℕ) → SawAt h p second k v → ¬ Gives Rw h second first k v) → ¬ IsLostUpdate h k first second
  none_loses none (p, loss) = none p loss.0 loss.1 (gives_it loss.0 loss.3)

  module _ (p v write : ℕ) (sight : IsFirstSight (Gives Rw h second first k) h second k p v) (is : IsFirstWrite h second k write) where
    pub loses_first : p < write → LosesFirstAt h k first second p
    loses_first early = (
      (v, sight.0, (λ wrote. let least = is.1 wrote.0 wrote.2 in let below = wrote.1 in omega arith), sight.1.2),
      (λ q loss. sight.2 q loss.0 loss.1 (gives_it loss.0 loss.3)),
    )

    pub loses_not : write ≤ p → ¬ IsLostUpdate h k first second
    loses_not late (q, (w, saw, unwritten, before)) =
        let up : p ≤ q = sight.2 q w saw (gives_it w before) in
        elim (cases_lt write q) [
          | inl less ↦ unwritten (write, less, is.0)
          | inr more ↦
              let same : q ≡ write = omega arith in
              let event : saw.0 ≡ Write second k = same_event saw.0 (Write second k) (sym saw.1 ∙ subst (λ r. WritesAt h second k r) (sym same) is.0) in
              subst (λ e. Saw e k w) event saw.3
        ]
