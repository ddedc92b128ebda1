-- Two texts with one full and one brief report, of which one meets the level gsi and the other doesn't.
use Rattle.std.proofs.Common.{◌≡◌, ◌≢◌, ◌⊎◌, inl, inr, ℕ, ◌<◌, ◌≤◌, true, false, List, [], ◌∷◌, length, codes, Some, refl, ap, sym, subst, arith}
use Rattle.std.specs.Prelude.{⊤}
use Rattle.std.proofs.lemmas.Option.{same_Some}
use Rattle.sia_events.specs.Limits.{Limits, greatest}
use Rattle.sia_events.specs.declared.event.Event.{Event}
use Rattle.sia_events.specs.declared.event.Event.TheVariants.{Abort, Commit, Read, Write}
use Rattle.sia_events.specs.Events.{actor}
use Rattle.sia_events.specs.Isolation.{IsBadRead, IsBadWrite, IsUnexplained}
use Rattle.sia_events.specs.DangerousStructures.{IsPivot}
use Rattle.sia_events.specs.Judging.{JudgedAll, judged}
use Rattle.sia_events.specs.Known.{fault_of, is_explained, own_fault, read_fault}
use Rattle.sia_events.specs.Lists.{HoldsExactly, ListsAscending, ListsBy, Precedes}
use Rattle.sia_events.specs.NarrowDependencies.{CommitsVersion}
use Rattle.sia_events.specs.Parsing.{after_byte, commit_at, ended, event_at, item_at, key_of, number_at, read_at, txn_of, version_of, write_at}
use Rattle.sia_events.specs.Places.{at_place}
use Rattle.sia_events.specs.Reads.{IsDue, IsNewestVisible, SawAt}
use Rattle.sia_events.specs.Refusals.{IsAccepted, IsWellFormed}
use Rattle.sia_events.specs.Replay.{IsSerializable}
use Rattle.sia_events.specs.Text.{StandsFor, tokens}
use Rattle.sia_events.specs.Transactions.{CommitsAt, CommitsBefore, HasEvent, IsAborted, IsCommitted, IsOpen, WritesAt, Wrote, WroteBefore}
use Rattle.sia_events.proofs.OfLaws.Due.{one_due}
use Rattle.sia_events.proofs.Shared.Clean.{clean_none, clean_well_formed, judged_clean}
use Rattle.sia_events.proofs.Shared.EventTests.{not_wrote, starts_before}
use Rattle.sia_events.proofs.Shared.Refusing.{accepted_from}
use Rattle.sia_events.proofs.Shared.TransactionDecisions.{place_within}
use Rattle.sia_parts.proofs.Auditing.Members.{contains_first, contains_none}
use Rattle.sia_parts.specs.declared.finding.BadRead.{BadRead}
use Rattle.sia_parts.specs.declared.finding.Kind.{Kind}
use Rattle.sia_parts.specs.declared.finding.Kind.TheVariants.{Ww, Wr, Rw}
use Rattle.sia_parts.specs.Entries.{EdgeOfKind, IsEdge, bad_read_rank, bad_write_rank, edge_rank, unexplained_rank}
use Rattle.sia_graph.specs.declared.judgement.Verdict.TheVariants.{Order}
use Rattle.sia_graph.specs.Orders.{IsKeepingOrder}
use Rattle.sia_graph.proofs.OfLaws.ReplayLaw.{replay_holds}
use Rattle.sia_graph.proofs.Shared.Positions.{only_one_in}
use Rattle.si_audit.proofs.Shared.SnapshotBounds.{access_within}
use Rattle.si_audit.specs.Account.{Account, IsAccount}
use Rattle.si_audit.specs.Laws.{HidesGsi}
use Rattle.si_audit.specs.Lines.{report_text}
use Rattle.si_audit.specs.Snapshots.{IsDueFrom, IsGeneralized}
use Rattle.si_audit.specs.declared.options.Form.TheVariants.{Full, Brief}

module _ {A : Type 0} (rank : A → List ℕ) (P : A → Type 0) where
  none_listed : ((x : A) → ¬ P x) → ListsBy rank P []
  none_listed none = grind (arith, contains_none)

  one_listed : (x : A) → P x → ((y : A) → P y → x ≡ y) → ListsBy rank P (x ∷ [])
  one_listed x p only = grind (arith, only_one_in, contains_first)

-- transaction 2 reads key 1 as it was before 1 committed, and then some version of some key
abbrev history : ℕ → ℕ → List Event
history k v = Write 1 1 ∷ Write 1 2 ∷ Commit 1 ∷ Read 2 1 0 ∷ Read 2 k v ∷ []

abbrev old_read : BadRead
old_read = record { place = 4; txn = 2; key = 1; saw = 0; due = 1 }

abbrev account : Account
account = record {
  events = 5;
  committed = 1;
  aborted = 0;
  unfinished = 1;
  bad_reads = old_read ∷ [];
  bad_writes = [];
  unexplained = [];
  edges = [];
  pivots = [];
  pass = false;
  serializable = true;
  verdict = Order (1 ∷ []);
}

module _ (k v : ℕ) where
  -- what is so of each event is so of what stands at a place
  each_event : (P : ℕ → Event → Type 0) → P 1 (Write 1 1) → P 2 (Write 1 2) → P 3 (Commit 1) → P 4 (Read 2 1 0) → P 5 (Read 2 k v) → (p : ℕ) (e : Event) → at_place (history k v) p ≡ Some e → P p e
  each_event P a b c d f p e at = grind (arith, same_Some)

  commits_at : (t c : ℕ) → CommitsAt (history k v) t c → (t ≡ 1) × (c ≡ 3)
  commits_at t c at = each_event (λ p e. e ≡ Commit t → (t ≡ 1) × (p ≡ 3)) (λ e. cc) (λ e. cc) (λ e. (sym (ap actor e), refl)) (λ e. cc) (λ e. cc) c (Commit t) at refl

  none_aborts : (t p : ℕ) → ¬ (at_place (history k v) p ≡ Some (Abort t))
  none_aborts t p at = each_event (λ q e. e ≢ Abort t) (λ e. cc) (λ e. cc) (λ e. cc) (λ e. cc) (λ e. cc) p (Abort t) at refl

  writer : (t j p : ℕ) → WritesAt (history k v) t j p → t ≡ 1
  writer t j p at = each_event (λ q e. e ≡ Write t j → t ≡ 1) (λ e. sym (ap actor e)) (λ e. sym (ap actor e)) (λ e. cc) (λ e. cc) (λ e. cc) p (Write t j) at refl

  acts : (t : ℕ) → HasEvent (history k v) t → (t ≡ 1) ⊎ (t ≡ 2)
  acts t has = each_event (λ p e. actor e ≡ t → (t ≡ 1) ⊎ (t ≡ 2)) (λ e. inl (sym e)) (λ e. inl (sym e)) (λ e. inl (sym e)) (λ e. inr (sym e)) (λ e. inr (sym e)) has.0 has.1.0 has.1.1 has.1.2

  -- and so of both reads
  each_read : (P : ℕ → ℕ → ℕ → ℕ → Type 0) → P 4 2 1 0 → P 5 2 k v → (p t j w : ℕ) → SawAt (history k v) p t j w → P p t j w
  each_read P a b p t j w saw = grind (arith, each_event)

  no_own : (j p : ℕ) → ¬ WroteBefore (history k v) 2 j p
  no_own j p w = let one : ◌≡◌ {A = ℕ} 2 1 = writer 2 j w.0 w.2 in omega arith

  none_before : (t u : ℕ) → ¬ CommitsBefore (history k v) t u
  none_before t u b = grind (arith, commits_at)

  none_read : (p t j w : ℕ) → IsCommitted (history k v) t → ¬ SawAt (history k v) p t j w
  none_read p t j w c saw = grind (arith, commits_at, each_read)

  no_edge : (kind : Kind) (t u j : ℕ) → ¬ EdgeOfKind (history k v) kind t u j
  no_edge kind t u j e = grind (arith, none_before, none_read)

  newest : (j : ℕ) → Wrote (history k v) 1 j → IsNewestVisible (history k v) 2 j 1
  newest j wrote = (
    (wrote, (3, 3, starts_before (history k v) 2 3 (Read 2 1 0) refl refl refl refl, refl, omega arith)),
    (λ w c d visible at last.
        let x : c ≡ 3 = (commits_at w c at).1 in
        grind (arith, commits_at)),
  )

  one_due_at_four : IsDue (history k v) 2 4 1 1
  one_due_at_four = inr (no_own 1 4, inl (newest 1 (1, refl)))

  it_is_bad : IsBadRead (history k v) 4 2 1 0 1
  it_is_bad = ((Read 2 1 0, refl, refl, (refl, refl)), one_due_at_four, λ e. omega arith)

  committed_listed : ListsAscending (IsCommitted (history k v)) (1 ∷ [])
  committed_listed = one_listed (λ t. t ∷ []) (IsCommitted (history k v)) 1 (3, refl) (λ t c. sym (commits_at t c.0 c.1).0)

  order_holds : HoldsExactly (IsCommitted (history k v)) (1 ∷ [])
  order_holds = record { once = λ i j d less below. absurd (omega arith); each = committed_listed.each }

  none_less : (other : List ℕ) → IsKeepingOrder (IsCommitted (history k v)) (IsEdge (history k v)) other → ¬ Precedes other (1 ∷ [])
  none_less [] keeps before = contains_none 1 ((keeps.0.each 1).1 (3, refl))
  none_less (x ∷ xs) keeps (inl less) =
      let c = (keeps.0.each x).0 (contains_first x xs) in
      grind (arith, commits_at)
  none_less (x ∷ []) keeps (inr same) = same.1
  none_less (x ∷ y ∷ xs) keeps (inr same) = same.1

  -- where the last read saw what was due, the first one alone is bad
  module _ (wf : IsWellFormed (history k v)) (due : IsDue (history k v) 2 5 k v) where
    only_bad : (p t j w d : ℕ) → IsBadRead (history k v) p t j w d → old_read ≡ record { place = p; txn = t; key = j; saw = w; due = d }
    only_bad p t j w d bad = each_read (λ q u i x. IsDue (history k v) u q i d → x ≢ d → old_read ≡ record { place = q; txn = u; key = i; saw = x; due = d })
        (λ is other. let same = one_due (history k v) 2 4 1 1 d one_due_at_four is in λ i. record { place = 4; txn = 2; key = 1; saw = 0; due = same i })
        (λ is other. absurd (other (one_due (history k v) 2 5 k v d due is)))
        p t j w bad.0 bad.1 bad.2

    serial : IsSerializable (history k v)
    serial = (
      1 ∷ [],
      order_holds,
      (replay_holds (history k v) wf (1 ∷ []) order_holds).1 (
        (λ t u e. elim e.1 [ inl a ↦ absurd (no_edge Ww t u e.0 a) | inr (inl a) ↦ absurd (no_edge Wr t u e.0 a) | inr (inr a) ↦ absurd (no_edge Rw t u e.0 a) ]),
        (λ p t j w x. none_read p t j w x.0 x.1),
      ),
    )

    its_account : IsAccount (history k v) account
    its_account = record {
      events = refl;
      committed = (1 ∷ [], committed_listed, refl);
      aborted = ([], none_listed (λ t. t ∷ []) (IsAborted (history k v)) (λ t a. none_aborts t a.0 a.1), refl);
      unfinished = (2 ∷ [], one_listed (λ t. t ∷ []) (IsOpen (history k v)) 2 two_is_open (λ t o. elim (acts t o.0) [ inl one ↦ absurd (o.1 (3, ap (λ (u : ℕ). Some (Commit u)) (sym one))) | inr two ↦ sym two ]), refl);
      bad_reads = one_listed bad_read_rank (λ b. IsBadRead (history k v) b.place b.txn b.key b.saw b.due × ⊤) old_read (it_is_bad, tt) (λ b bad. only_bad b.place b.txn b.key b.saw b.due bad.0);
      bad_writes = none_listed bad_write_rank (λ b. IsBadWrite (history k v) b.key b.first b.second × ⊤) (λ b bad. none_before b.first b.second bad.0.3);
      unexplained = none_listed unexplained_rank (λ b. IsUnexplained (history k v) b.place b.txn b.key b.saw × ⊤) (λ b x. none_read b.place b.txn b.key b.saw x.0.0 x.0.1);
      edges = none_listed edge_rank (λ e. IsEdge (history k v) e × ⊤) (λ e is. no_edge e.kind e.src e.dst e.key is.0);
      pivots = record {
        txns = none_listed (λ t. t ∷ []) (IsPivot (history k v)) (λ t p. no_edge Rw p.0.0 t p.0.1.1 p.0.1.2);
        neighbours = λ i d below. absurd (omega arith);
      };
      pass = ((λ e. absurd cc), (λ p. absurd (p.0.reads 4 2 1 0 1 it_is_bad)));
      serializable = ((λ e. serial), (λ s. refl));
      verdict = ((order_holds, λ t u l. absurd (no_edge l.0.kind l.0.src l.0.dst l.0.key l.1)), none_less);
    }
      where
        two_is_open : IsOpen (history k v) 2
        two_is_open = ((4, (Read 2 1 0, refl, refl)), (λ c. let one : ◌≡◌ {A = ℕ} 2 1 = (commits_at 2 c.0 c.1).0 in omega arith), (λ a. none_aborts 2 a.0 a.1))

-- an old version of both keys was seen: the snapshot of no events fits everyone
old_fits : IsGeneralized (history 3 0)
old_fits t has = (0, ((λ p a. (access_within (history 3 0) t p a).0), record { reads = reads; writes = writes }))
  where
    none_yet : (p j : ℕ) → IsDueFrom (history 3 0) 0 2 p j 0
    none_yet p j = inr (no_own 3 0 j p, inr ((λ u c version. (place_within (history 3 0) c (Commit u) version.1).0), refl))

    reads : (p j w : ℕ) → SawAt (history 3 0) p t j w → IsDueFrom (history 3 0) 0 t p j w
    reads p j w saw = each_read 3 0 (λ q u i x. IsDueFrom (history 3 0) 0 u q i x) (none_yet 4 1) (none_yet 5 3) p t j w saw

    writes : (j u c d : ℕ) → CommitsVersion (history 3 0) j t d → CommitsVersion (history 3 0) j u c → c < d → c ≤ 0
    writes j u c d own version less = absurd (none_before 3 0 u t (c, d, version.1, own.1, less))

-- an old version of the first key and a new one of the second were seen: no snapshot has both
torn_fits_none : ¬ IsGeneralized (history 2 1)
torn_fits_none fits =
    let (n, (early, fit)) = fits 2 (4, (Read 2 1 0, refl, refl)) in
    let before : n < 3 = elim (fit.reads 4 1 0 (Read 2 1 0, refl, refl, (refl, refl))) [
      | inl own ↦ absurd (no_own 2 1 1 4 own.0)
      | inr (other, inl new) ↦ absurd (let one : ◌≡◌ {A = ℕ} 0 1 = (commits_at 2 1 0 new.0 new.1.1).0 in omega arith)
      | inr (other, inr none) ↦ none.0 1 3 ((1, refl), refl)
    ] in
    let behind : 3 ≤ n = elim (fit.reads 5 2 1 (Read 2 2 1, refl, refl, (refl, refl))) [
      | inl own ↦ absurd (no_own 2 1 2 5 own.0)
      | inr (other, inl new) ↦ let three : new.0 ≡ 3 = (commits_at 2 1 1 new.0 new.1.1).1 in let within : new.0 ≤ n = new.2 in omega arith
      | inr (other, inr none) ↦ absurd (let no : ◌≡◌ {A = ℕ} 1 0 = none.1 in omega arith)
    ] in
    omega arith

old_due : IsDue (history 3 0) 2 5 3 0
old_due = inr (no_own 3 0 3 5, inr ((λ u seen. not_wrote (history 3 0) 1 3 refl (subst (λ w. Wrote (history 3 0) w 3) (writer 3 0 u 3 seen.0.0 seen.0.1) seen.0)), refl))

torn_due : IsDue (history 2 1) 2 5 2 1
torn_due = inr (no_own 2 1 2 5, inl (newest 2 1 2 (2, refl)))

abbrev old_text : List ℕ
old_text = codes "w1[1] w1[2] c1 r2[1:0] r2[3:0]"

abbrev torn_text : List ℕ
torn_text = codes "w1[1] w1[2] c1 r2[1:0] r2[2:1]"

old_judged : JudgedAll greatest [] (tokens old_text) (history 3 0)
unfolding JudgedAll judged event_at number_at after_byte ended key_of version_of txn_of write_at item_at read_at commit_at fault_of own_fault read_fault is_explained
old_judged = (Write 1 1, refl, (Write 1 2, refl, (Commit 1, refl, (Read 2 1 0, refl, (Read 2 3 0, refl, refl)))))

torn_judged : JudgedAll greatest [] (tokens torn_text) (history 2 1)
unfolding JudgedAll judged event_at number_at after_byte ended key_of version_of txn_of write_at item_at read_at commit_at fault_of own_fault read_fault is_explained
torn_judged = (Write 1 1, refl, (Write 1 2, refl, (Commit 1, refl, (Read 2 1 0, refl, (Read 2 2 1, refl, refl)))))

-- what limits that take it make of a text of such a history
pub record IsTold (limits : Limits) (text : List ℕ) (h : List Event) : Type 0 where
  pub accepted : IsAccepted limits text
  pub stands : StandsFor text h
  pub account : IsAccount h account

told : (limits : Limits) → 5 ≤ limits.events → 30 ≤ limits.bytes → (text : List ℕ) → length text ≡ 30 → (k v : ℕ) → JudgedAll greatest [] (tokens text) (history k v) → IsDue (history k v) 2 5 k v → IsTold limits text (history k v)
told limits few short text long k v fine due =
    let read = judged_clean greatest [] (tokens text) (history k v) (clean_none greatest) fine in
    let wf = clean_well_formed greatest text (history k v) (record { events = omega arith; bytes = omega arith }) (omega arith) read.spelled read.clean in
    record {
      accepted = accepted_from limits text (history k v) read.spelled few (omega arith) read.clean.each;
      stands = read.spelled;
      account = its_account k v wf due;
    }

pub gsi_hidden : (limits : Limits) → 5 ≤ limits.events → 30 ≤ limits.bytes → HidesGsi limits
gsi_hidden limits few short =
    let old = told limits few short old_text refl 3 0 old_judged old_due in
    let torn = told limits few short torn_text refl 2 1 torn_judged torn_due in (
      old_text,
      torn_text,
      (report_text Full account, inr (history 3 0, account, old.accepted, old.stands, old.account, refl), inr (history 2 1, account, torn.accepted, torn.stands, torn.account, refl)),
      (report_text Brief account, inr (history 3 0, account, old.accepted, old.stands, old.account, refl), inr (history 2 1, account, torn.accepted, torn.stands, torn.account, refl)),
      (history 3 0, old.accepted, old.stands, old_fits),
      (history 2 1, torn.accepted, torn.stands, torn_fits_none),
    )
