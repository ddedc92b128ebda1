-- The latest commit that a transaction's writes ask for, as it is found version by version.
use Rattle.std.proofs.Common.{◌≡◌, ◌⊎◌, inl, inr, ℕ, ◌+◌, ◌<◌, ◌≤◌, Bool, true, false, ltb, List, [], Option, Some, length, get_or, take, refl, sym, subst, ◌∙◌, arith, All, AllPairs, Contains, MatchOption, is_some, not, slice_index, unwrap_or}
use Rattle.std.specs.List.Sorted.{IsPartitionPoint}
use Rattle.std.proofs.lemmas.Bool.{cases_lt, false≢true, ltb-false, ltb-true, not_from_false}
use Rattle.std.proofs.lemmas.List.{get_or_default}
use Rattle.std.proofs.lemmas.List.Elements.{All-contains, All-more, All-nil, All-weaker}
use Rattle.sia_events.specs.declared.event.Event.{Event}
use Rattle.sia_events.specs.declared.event.Event.TheVariants.{Write}
use Rattle.sia_events.specs.Lists.{ListsAscending}
use Rattle.sia_events.specs.NarrowDependencies.{CommitsVersion, IsNextVersion}
use Rattle.sia_events.specs.Places.{at_place}
use Rattle.sia_events.specs.Refusals.{IsWellFormed}
use Rattle.sia_events.specs.Transactions.{CommitsAt, IsCommitted, WritesAt, Wrote}
use Rattle.sia_events.proofs.Writing.WellFormed.{one_commit}
use Rattle.sia_index.specs.declared.info.KeyVersion.{KeyVersion}
use Rattle.sia_index.specs.Info.{IsFirstWrite}
use Rattle.sia_index.specs.declared.info.Lifetime.{Lifetime}
use Rattle.sia_index.specs.Lifetimes.{IsLifetime}
use Rattle.sia_index.specs.Positions.{AreAllVersions, IsAtPosition}
use Rattle.sia_parts.proofs.Auditing.AsOf.{commit_positive}
use Rattle.sia_parts.proofs.Auditing.Positions.{one_at}
use Rattle.sia_parts.proofs.EdgeRows.PositionOrder.{position_of}
use Rattle.sia_parts.proofs.Shared.BadWrites.{made_version}
use Rattle.si_audit.specs.Bounds.{IsBound, IsLow}
use Rattle.si_audit.specs.Snapshots.{IsFirst, ReadAsks, WriteAsks}
use Rattle.si_audit.specs.declared.snapshots.Bound.{Bound}

-- the version of its key before v, which is at position n, is at q
abbrev pub IsBefore : List Event → KeyVersion → ℕ → ℕ → Type 0
IsBefore h v n q = (w : KeyVersion) × IsAtPosition h q w × (w.key ≡ v.key) × (w.commit < v.commit) × IsNextVersion h v.key w.commit v.txn × (q < n)

-- where a search by a number ends in a list that ascends is the number, if the list has it
pub found_at : (ids : List ℕ) → AllPairs (λ x y. x < y) ids → (from t at : ℕ) → from ≡ t → IsPartitionPoint (λ x. ltb x from ≡ true) (λ x. ltb x from ≡ false) ids at → Contains ids t → (at < length ids) × (slice_index ids at ≡ t)
found_at ids up from t at same point (k, below, here) =
    let it : get_or ids k 0 ≡ t = get_or_default ids k 0 t below ∙ here in
    grind (arith, cases_lt, ltb-true, ltb-false)

-- a look-up finds what committed
pub committed_there : (h : List Event) (t : ℕ) (o : Option Lifetime) (none : Bool) → is_some o ≡ not none → none ≡ false → MatchOption o (¬ IsCommitted h t) (IsLifetime h t) → IsCommitted h t
committed_there h t o none is some p = grind (arith, false≢true, not_from_false)

-- and a version before one that was made, and its transaction's first write of the key
pub before_there : (h : List Event) (v : KeyVersion) (n : ℕ) (o : Option ℕ) (q : ℕ) → q ≡ unwrap_or o 0 → 0 < v.commit → MatchOption o (v.commit ≡ 0) (IsBefore h v n) → IsBefore h v n q
before_there h v n o q is some none = grind arith

pub first_there : (h : List Event) (t k : ℕ) (o : Option ℕ) (p : ℕ) → p ≡ unwrap_or o 0 → Wrote h t k → MatchOption o (¬ Wrote h t k) (IsFirstWrite h t k) → IsFirstWrite h t k p
first_there h t k o p is wrote none = grind arith

-- what t's version at position q asks for is the bound's commit with a place no less than its own, or an earlier commit
abbrev pub IsUpTo : List Event → ℕ → Bound → ℕ → Type 0
IsUpTo h t low q = (v : KeyVersion) × (c : ℕ) × (p : ℕ) × IsAtPosition h q v × IsNextVersion h v.key c v.txn × IsFirstWrite h t v.key p × ((c < low.commit) ⊎ ((c ≡ low.commit) × (low.place ≤ p)))

-- of what t's versions at these positions ask for, the bound is the latest and first
pub record IsMost (h : List Event) (t : ℕ) (qs : List ℕ) (low : Bound) : Type 0 where
  pub each : All (IsUpTo h t low) qs
  pub some : 0 < low.commit → WriteAsks h t low.commit low.place low.key

-- the same of all that t wrote
pub record AreWritten (h : List Event) (t : ℕ) (low : Bound) : Type 0 where
  pub each : (c p k : ℕ) → WriteAsks h t c p k → c ≤ low.commit
  pub some : 0 < low.commit → IsFirst (WriteAsks h t low.commit) low.place low.key

pub most_none : (h : List Event) (t : ℕ) (low : Bound) → low.commit ≡ 0 → IsMost h t [] low
most_none h t low zero = record { each = All-nil (IsUpTo h t low); some = λ some. absurd (omega arith) }

-- one version more
module _ (h : List Event) (t : ℕ) (qs : List ℕ) (i : ℕ) (inside : i < length qs) (low : Bound) (most : IsMost h t (take i qs) low) (v w : KeyVersion) (q p : ℕ) (at : IsAtPosition h (get_or qs i 0) v) (own : v.txn ≡ t) (before : IsAtPosition h q w) (same : w.key ≡ v.key) (less : w.commit < v.commit) (next : IsNextVersion h v.key w.commit v.txn) (first : IsFirstWrite h t v.key p) where
  abbrev pub its : Bound
  its = record { commit = w.commit; place = p; key = v.key }

  asks : 0 < w.commit → WriteAsks h t w.commit p v.key
  asks some =
      let version : CommitsVersion h v.key v.txn v.commit = made_version h (get_or qs i 0) v at (omega arith) in
      (first.0, w.txn, v.commit, subst (λ k. CommitsVersion h k w.txn w.commit) same (made_version h q w before some), subst (λ u. CommitsAt h u v.commit) own version.1, less)

  pub most_taken : (low.commit < w.commit) ⊎ ((low.commit ≡ w.commit) × (p < low.place)) → IsMost h t (take (i + 1) qs) its
  most_taken more = record {
    each = All-more (IsUpTo h t its) qs i 0 inside (All-weaker (IsUpTo h t low) (IsUpTo h t its) (λ n is. (is.0, is.1, is.2, is.3, is.4, is.5, further is.1 is.2 is.6 more)) (take i qs) most.each) (v, w.commit, p, at, next, first, inr (refl, omega arith));
    some = asks;
  }
    where
      further : (c n : ℕ) → (c < low.commit) ⊎ ((c ≡ low.commit) × (low.place ≤ n)) → (low.commit < w.commit) ⊎ ((low.commit ≡ w.commit) × (p < low.place)) → (c < w.commit) ⊎ ((c ≡ w.commit) × (p ≤ n))
      further c n (inl a) (inl b) = inl (omega arith)
      further c n (inl a) (inr b) = let e = b.0 in inl (omega arith)
      further c n (inr a) (inl b) = let e = a.0 in inl (omega arith)
      further c n (inr a) (inr b) = let e = a.1 in let f = b.1 in inr (a.0 ∙ b.0, omega arith)

  pub most_left : (w.commit < low.commit) ⊎ ((w.commit ≡ low.commit) × (low.place ≤ p)) → IsMost h t (take (i + 1) qs) low
  most_left no_more = record { each = All-more (IsUpTo h t low) qs i 0 inside most.each (v, w.commit, p, at, next, first, no_more); some = most.some }

-- after the last
module _ (h : List Event) (wf : IsWellFormed h) (t : ℕ) (qs : List ℕ) (are : ListsAscending (λ q. (v : KeyVersion) × IsAtPosition h q v × (0 < v.commit) × (v.txn ≡ t)) qs) (versions : List KeyVersion) (all : AreAllVersions h versions) (low : Bound) (most : IsMost h t qs low) where
  up_to : (c p k : ℕ) → WriteAsks h t c p k → (c < low.commit) ⊎ ((c ≡ low.commit) × (low.place ≤ p))
  up_to c p k (wrote, u, d, other, commits, less) =
      let v : KeyVersion = record { key = k; commit = d; txn = t } in
      let q = position_of h versions all v (inr ((p, wrote), commits)) in
      let member : Contains qs q.0 = (are.each q.0).1 (v, q.1, commit_positive h wf t d commits, refl) in
      let is = All-contains (IsUpTo h t low) qs q.0 most.each member in
      let same : is.0 ≡ v = one_at h q.0 is.0 v is.3 q.1 in
      let next : IsNextVersion h k is.1 t = subst (λ (x : KeyVersion). IsNextVersion h x.key is.1 x.txn) same is.4 in
      let first : IsFirstWrite h t k is.2 = subst (λ (x : KeyVersion). IsFirstWrite h t x.key is.2) same is.5 in
      let one : next.0 ≡ d = one_commit h wf t next.0 d next.1.1 commits in
      let earliest : is.2 ≤ p = first.1 p wrote in
      let latest : c ≤ is.1 = elim (cases_lt is.1 c) [ inl later ↦ (let behind : next.0 ≤ c = next.3 u c other later in absurd (omega arith)) | inr le ↦ le ] in
      grind (arith, cases_lt)

  one_key : (p k q j : ℕ) → p ≡ q → WritesAt h t k p → WritesAt h t j q → k ≡ j
  one_key p k q j same at other = let there : at_place h p ≡ Some (Write t j) = subst (λ n. at_place h n ≡ Some (Write t j)) (sym same) other in let e : Some (Write t k) ≡ Some (Write t j) = sym at ∙ there in cc

  pub all_written : AreWritten h t low
  all_written = record {
    each = λ c p k ask. elim (up_to c p k ask) [ inl under ↦ omega arith | inr same ↦ (let e : c ≡ low.commit = same.0 in omega arith) ];
    some = λ some. (
      most.some some,
      λ q j ask. elim (up_to low.commit q j ask) [
        | inl under ↦ absurd (omega arith)
        | inr equal ↦ grind (arith, cases_lt, one_key)
      ],
    );
  }

-- what didn't commit asks for nothing by its writes
pub none_written : (h : List Event) (t : ℕ) (low : Bound) → ((c : ℕ) → ¬ CommitsAt h t c) → low.commit ≡ 0 → AreWritten h t low
none_written h t low never zero = record { each = λ c p k ask. absurd (never ask.2 ask.4); some = λ some. absurd (omega arith) }

-- the latest of what its reads and its writes ask for
module _ (h : List Event) (wf : IsWellFormed h) (t : ℕ) (reads writes : Bound) (read : IsBound (λ c d. d ≤ c) 0 (ReadAsks h t) reads) (written : AreWritten h t writes) where
  pub low_of_reads : writes.commit ≤ reads.commit → IsLow h t reads
  low_of_reads more = elim (cases_lt 0 reads.place) [
    | inl some ↦
        let first = read.some some in
        inr ((reads.place, reads.key, inl first.0), (λ d asked. up_to d asked.0 asked.1 asked.2), inl first)
    | inr none ↦
        let nothing = read.none (omega arith) in
        let zero : reads.commit ≡ 0 = nothing.0 in
        inl (zero, λ c asked. none_asked c asked.0 asked.1 zero nothing.1 asked.2)
  ]
    where
      up_to : (d p k : ℕ) → ReadAsks h t d p k ⊎ WriteAsks h t d p k → d ≤ reads.commit
      up_to d p k (inl ask) = read.each d p k ask
      up_to d p k (inr ask) = let least : d ≤ writes.commit = written.each d p k ask in omega arith

      none_asked : (c p k : ℕ) → reads.commit ≡ 0 → ((c p k : ℕ) → ¬ ReadAsks h t c p k) → ¬ (ReadAsks h t c p k ⊎ WriteAsks h t c p k)
      none_asked c p k zero none (inl ask) = none c p k ask
      none_asked c p k zero none (inr ask) =
          let least : c ≤ writes.commit = written.each c p k ask in
          grind (arith, commit_positive)

  pub low_of_writes : reads.commit < writes.commit → IsLow h t writes
  low_of_writes more =
      let first = written.some (omega arith) in
      inr (
        (writes.place, writes.key, inr first.0),
        (λ d asked. up_to d asked.0 asked.1 asked.2),
        inr ((λ q j ask. let least : writes.commit ≤ reads.commit = read.each writes.commit q j ask in omega arith), first),
      )
    where
      up_to : (d p k : ℕ) → ReadAsks h t d p k ⊎ WriteAsks h t d p k → d ≤ writes.commit
      up_to d p k (inl ask) = let least : d ≤ reads.commit = read.each d p k ask in omega arith
      up_to d p k (inr ask) = written.each d p k ask
