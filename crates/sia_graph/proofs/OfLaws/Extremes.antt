-- Where isolation is kept, rw edges and commits alone tell which transactions overlap.
use Rattle.std.proofs.Common.{◌≡◌, ◌≢◌, ◌⊎◌, inl, inr, ℕ, ◌<◌, ◌≤◌, List, subst, arith}
use Rattle.std.proofs.lemmas.Bool.{cases_lt}
use Rattle.sia_events.specs.declared.event.Event.{Event}
use Rattle.sia_events.specs.Refusals.{IsWellFormed}
use Rattle.sia_events.specs.Transactions.{IsCommitted, CommitsAt, CommitsBefore, Overlap}
use Rattle.sia_events.specs.Isolation.{IsolationKept}
use Rattle.sia_events.specs.DangerousStructures.{IsFirst, IsVulnerable}
use Rattle.sia_events.proofs.Writing.WellFormed.{one_commit}
use Rattle.sia_graph.specs.Extremes.{HasRwEdge, IsFirstByCommits, IsAfterSeen, FirstsLaw}
use Rattle.sia_graph.proofs.Shared.Facts.{Lifetime, lifetime_of, commits_lt}
use Rattle.sia_graph.proofs.Shared.NoStuckSet.{rw_unseen}

module _ (h : List Event) (wf : IsWellFormed h) where
  -- what comes after a version that t saw, and isn't t's, has an rw edge from t
  seen_edge : (t u : ℕ) → IsCommitted h t → u ≢ t → IsAfterSeen h t u → HasRwEdge h t u
  seen_edge t u committed other seen = grind arith

  module _ (kept : IsolationKept h) where
    -- a reader of an earlier version starts before the writer commits
    starts_before : (t u : ℕ) (a : Lifetime h t) (b : Lifetime h u) → HasRwEdge h t u → a.start < b.commit
    starts_before t u a b e = elim (cases_lt a.start b.commit) [
      | inl less ↦ less
      | inr more ↦ absurd (rw_unseen h wf kept t u e.0 e.1 (a.start, b.commit, a.starts, b.commits, more))
    ]

    overlap : (t u : ℕ) (a : Lifetime h t) (b : Lifetime h u) → a.start < b.commit → b.start < a.commit → Overlap h t u
    overlap t u a b l m = ((a.start, b.commit, a.starts, b.commits, l), (b.start, a.commit, b.starts, a.commits, m))

    -- what has an rw edge to a transaction with a first, and is that first or commits after it, overlaps it
    pub entered_from : (t out_to : ℕ) → HasRwEdge h t out_to → CommitsBefore h out_to t → (in_from : ℕ) → HasRwEdge h in_from t → (out_to ≡ in_from) ⊎ CommitsBefore h out_to in_from → IsVulnerable h in_from t
    entered_from t out_to edge before in_from into or =
        let mid = lifetime_of h wf t edge.1.1 in
        let out = lifetime_of h wf out_to edge.1.2.1 in
        let first = lifetime_of h wf in_from into.1.1 in
        let starts : mid.start < out.commit = starts_before t out_to mid out edge in
        let last : out.commit ≤ first.commit = elim or [
          | inl same ↦ let e : out.commit ≡ first.commit = one_commit h wf in_from out.commit first.commit (subst (λ x. CommitsAt h x out.commit) same out.commits) first.commits in omega arith
          | inr later ↦ let l = commits_lt h wf out_to in_from out.commit first.commit out.commits first.commits later in omega arith
        ] in
        (overlap in_from t first mid (starts_before in_from t first mid into) (omega arith), into.0, into.1)

    first_by_commits : (t out_to : ℕ) → IsFirstByCommits h t out_to → IsFirst h t out_to
    first_by_commits t out_to f =
        let mid = lifetime_of h wf t f.0.1.1 in
        let out = lifetime_of h wf out_to f.0.1.2.1 in
        let before = commits_lt h wf out_to t out.commit mid.commit out.commits mid.commits f.1 in
        ((overlap t out_to mid out (starts_before t out_to mid out f.0) (omega arith), f.0.0, f.0.1), f.1, f.2.0, entered_from t out_to f.0 f.1 f.2.0 f.2.1 f.2.2, f.2.2)

pub firsts_hold : (h : List Event) → IsWellFormed h → FirstsLaw h
firsts_hold h wf = record {
  by_commits = λ kept t out_to. (to t out_to, first_by_commits h wf kept t out_to);
  passes = (
    λ p. (
      p.0,
      λ t u f.
          let edge = seen_edge h wf t u (f.1.1, f.1.3) (grind (arith, commits_lt, one_commit)) f.0 in
          p.1 t u (first_by_commits h wf p.0 t u (edge, f.1, f.2)),
    ),
    λ p. (p.0, λ t u f. let g = to t u f in p.1 t u ((g.0.0, g.0.1.3, g.0.1.4, g.0.1.5, g.0.1.6, g.0.1.7, g.0.1.8), g.1, g.2)),
  );
}
  where
    to : (t out_to : ℕ) → IsFirst h t out_to → IsFirstByCommits h t out_to
    to t out_to f = ((f.0.1, f.0.2), f.1, (f.2, (f.3.1, f.3.2), f.4))
