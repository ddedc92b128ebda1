-- Edges and pivots of worked histories.
use Rattle.std.proofs.Common.{◌≡◌, ◌≢◌, Some, inl, inr, ℕ, ◌<◌, ◌≤◌, List, [], ◌∷◌, codes, refl, subst, ◌∙◌, arith}
use Rattle.sia_events.specs.declared.event.Event.{Event}
use Rattle.sia_events.specs.declared.event.Event.TheVariants.{Read, Write, Commit}
use Rattle.sia_events.specs.Text.{numeral, canonical}
use Rattle.sia_events.specs.Places.{at_place}
use Rattle.sia_events.specs.Transactions.{CommitsAt, StartsAt, WritesAt, Overlap, StartsBeforeCommit}
use Rattle.sia_events.specs.Reads.{SawAt}
use Rattle.sia_events.specs.Dependencies.{RwEdge}
use Rattle.sia_events.specs.DangerousStructures.{IsVulnerable, IsPivot, IsFirst}
use Rattle.sia_events.proofs.Shared.Starts.{one_start}
use Rattle.sia_events.proofs.Shared.EventTests.{starts_before, not_wrote, one_writer, one_reader, one_key_read, one_key_written, commits_up_to, commits_after}

-- who read version 0 of a key that another transaction wrote and committed
reads_zero : (h : List Event) (t u k c w d p : ℕ) → t ≢ u → CommitsAt h t c → WritesAt h u k w → CommitsAt h u d → at_place h p ≡ Some (Read t k 0) → 0 ≢ t → RwEdge h t u k
reads_zero h t u k c w d p others ends writes commits reads real = (others, (c, ends), ((w, writes), (d, commits)), p, 0, (Read t k 0, reads, refl, (refl, refl)), inl refl, real, inl (refl, ((w, writes), (d, commits))))

-- transaction 2 reads two keys while 1 changes both
abbrev pub read_during_change : List Event
read_during_change = Read 1 1 0 ∷ Write 1 1 ∷ Read 2 1 0 ∷ Read 2 2 0 ∷ Commit 2 ∷ Read 1 2 0 ∷ Write 1 2 ∷ Commit 1 ∷ []

read_during_change_text : canonical read_during_change ≡ codes "r1[1:0] w1[1] r2[1:0] r2[2:0] c2 r1[2:0] w1[2] c1"
unfolding numeral
read_during_change_text = refl

reader_before_changer : RwEdge read_during_change 2 1 1
reader_before_changer = reads_zero read_during_change 2 1 1 5 2 8 3 (λ e. omega arith) refl refl refl refl (λ e. omega arith)

-- 2 wrote nothing, so no edge leads to it
none_to_reader : ¬ RwEdge read_during_change 1 2 1
none_to_reader e = not_wrote read_during_change 2 1 refl e.2.0

they_overlap : Overlap read_during_change 2 1
they_overlap = (
  (2, 8, starts_before read_during_change 2 2 (Read 2 1 0) refl refl refl refl, refl, omega arith),
  (0, 5, starts_before read_during_change 1 0 (Read 1 1 0) refl refl refl refl, refl, omega arith),
)

-- edges lead from 1 to 2 and from 2 to 3, but 3 had committed when 2 started
abbrev pub early_writer : List Event
early_writer = Write 3 1 ∷ Commit 3 ∷ Read 2 1 0 ∷ Read 1 2 0 ∷ Write 2 2 ∷ Commit 2 ∷ Commit 1 ∷ []

early_writer_text : canonical early_writer ≡ codes "w3[1] c3 r2[1:0] r1[2:0] w2[2] c2 c1"
unfolding numeral
early_writer_text = refl

edge_to_middle : RwEdge early_writer 1 2 2
edge_to_middle = reads_zero early_writer 1 2 2 7 5 6 4 (λ e. omega arith) refl refl refl refl (λ e. omega arith)

edge_to_early : RwEdge early_writer 2 3 1
edge_to_early = reads_zero early_writer 2 3 1 6 1 2 3 (λ e. omega arith) refl refl refl refl (λ e. omega arith)

middle_after_early : ¬ StartsBeforeCommit early_writer 2 3
middle_after_early b =
    let start : b.0 ≡ 2 = one_start early_writer 2 b.0 2 b.2 (starts_before early_writer 2 2 (Read 2 1 0) refl refl refl refl) in
    let up_to : b.1 ≤ 2 = commits_up_to early_writer 3 2 b.1 refl b.3 in
    let less : b.0 < b.1 = b.4 in
    omega arith

no_overlap : ¬ Overlap early_writer 2 3
no_overlap o = middle_after_early o.0

-- so 2 is no pivot: the one key that it read was written by 3 alone
no_pivot : ¬ IsPivot early_writer 2
no_pivot p =
    let out = p.1 in
    let edge = out.1.2 in
    let key : out.1.1 ≡ 1 = one_key_read early_writer 2 1 refl edge.3 out.1.1 edge.4 edge.5 in
    let writer : out.0 ≡ 3 = one_writer early_writer 3 1 refl out.0 (edge.2.0.0, subst (λ k. WritesAt early_writer out.0 k edge.2.0.0) key edge.2.0.1) in
    middle_after_early (subst (λ u. StartsBeforeCommit early_writer 2 u) writer out.1.0.0)

-- a dangerous structure 1, 2, 3 whose first transaction commits first
abbrev pub first_commits_first : List Event
first_commits_first = Read 1 1 0 ∷ Read 2 2 0 ∷ Write 2 1 ∷ Write 3 2 ∷ Commit 1 ∷ Commit 3 ∷ Commit 2 ∷ []

first_commits_first_text : canonical first_commits_first ≡ codes "r1[1:0] r2[2:0] w2[1] w3[2] c1 c3 c2"
unfolding numeral
first_commits_first_text = refl

start_of_middle : StartsAt first_commits_first 2 1
start_of_middle = starts_before first_commits_first 2 1 (Read 2 2 0) refl refl refl refl

vulnerable_in : IsVulnerable first_commits_first 1 2
vulnerable_in = (
  (
    (0, 7, starts_before first_commits_first 1 0 (Read 1 1 0) refl refl refl refl, refl, omega arith),
    (1, 5, start_of_middle, refl, omega arith),
  ),
  1,
  reads_zero first_commits_first 1 2 1 5 3 7 1 (λ e. omega arith) refl refl refl refl (λ e. omega arith),
)

vulnerable_out : IsVulnerable first_commits_first 2 3
vulnerable_out = (
  (
    (1, 6, start_of_middle, refl, omega arith),
    (3, 7, starts_before first_commits_first 3 3 (Write 3 2) refl refl refl refl, refl, omega arith),
  ),
  2,
  reads_zero first_commits_first 2 3 2 7 4 6 2 (λ e. omega arith) refl refl refl refl (λ e. omega arith),
)

middle_is_pivot : IsPivot first_commits_first 2
middle_is_pivot = ((1, vulnerable_in), (3, vulnerable_out))

-- only 1 has an edge to 2, and 1 committed before 3
not_first : ¬ IsFirst first_commits_first 2 3
not_first f = elim f.4 [
  | inl one ↦ let no : ◌≡◌ {A = ℕ} 3 1 = one ∙ from_one in omega arith
  | inr before ↦
      let after : 5 < before.0 = commits_after first_commits_first 3 5 before.0 refl before.2 in
      let up_to : before.1 ≤ 5 = commits_up_to first_commits_first 1 5 before.1 refl (subst (λ u. CommitsAt first_commits_first u before.1) from_one before.3) in
      let less : before.0 < before.1 = before.4 in
      omega arith
]
  where
    from_one : f.2 ≡ 1
    from_one =
        let edge = f.3.2 in
        let key : f.3.1 ≡ 1 = one_key_written first_commits_first 2 1 refl f.3.1 edge.2.0 in
        one_reader first_commits_first 1 1 refl edge.3 f.2 edge.4 (subst (λ k. SawAt first_commits_first edge.3 f.2 k edge.4) key edge.5)
