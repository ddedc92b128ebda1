-- What was seen was written.
use Rattle.std.proofs.Common.{◌≢◌, ◌↔◌, ℕ, sym, subst}
use Rattle.std.specs.Prelude.{IsTrue}
use Rattle.sia_events.proofs.OfLaws.Seen.{saw_written}
use Rattle.sia_events.specs.Dependencies.{IsCommittedWriter}
use Rattle.sia_events.specs.Transactions.{Wrote}
use Rattle.sia_parts.specs.declared.finding.Kind.{Kind}
use Rattle.sia_parts.specs.Sightings.{Gives, reader_of, writer_of}
use Rattle.sia_parts.proofs.OfReasons.Sighted.{rw_given, wr_given}
use Rattle.sia_parts.proofs.reasons.gives.Goals as goal

pub returns-else-version-e : goal.returns-else-version-e
returns-else-version-e c =
    let h = c.args.ix.now in
    let e = c.args.e.now in
    let v = c.args.version in
    let written : v ≢ 0 → Wrote h v e.key = λ some. (let w = saw_written h c.law.ensures c.requires.seen.0 (reader_of e.kind e.src e.dst) e.key v c.requires.seen.1 some in (w.0, w.2)) in
    let writer : IsCommittedWriter h e.key e.src = subst (λ (k : Kind). IsCommittedWriter h e.key (writer_of k e.src e.dst)) c.in-Wr.is c.requires.writer in
    let other : v ≢ e.dst = subst (λ (k : Kind). v ≢ reader_of k e.src e.dst) c.in-Wr.is (subst (λ (r : ℕ). v ≢ r) c.reader_of_edge.ensures c.if-version-reader_of_edge.false) in
    let same = wr_given h c.law.ensures e.src e.dst e.key v written writer other c.if-version-e.false in
    subst (λ (kind : Kind). IsTrue c.commits_before.result ↔ Gives kind h e.src e.dst e.key v) (sym c.in-Wr.is)
    ((λ yes. same.0 (c.commits_before.ensures.0 yes)), (λ given. c.commits_before.ensures.1 (same.1 given)))

pub returns-else-version-eq0 : goal.returns-else-version-eq0
returns-else-version-eq0 c =
    let h = c.args.ix.now in
    let e = c.args.e.now in
    let v = c.args.version in
    let written : v ≢ 0 → Wrote h v e.key = λ some. (let w = saw_written h c.law.ensures c.requires.seen.0 (reader_of e.kind e.src e.dst) e.key v c.requires.seen.1 some in (w.0, w.2)) in
    let writer : IsCommittedWriter h e.key e.dst = subst (λ (k : Kind). IsCommittedWriter h e.key (writer_of k e.src e.dst)) c.in-Rw.is c.requires.writer in
    let other : v ≢ e.src = subst (λ (k : Kind). v ≢ reader_of k e.src e.dst) c.in-Rw.is (subst (λ (r : ℕ). v ≢ r) c.reader_of_edge.ensures c.if-version-reader_of_edge.false) in
    let same = rw_given h c.law.ensures e.src e.dst e.key v written writer other c.if-version-eq0.false in
    subst (λ (kind : Kind). IsTrue c.commits_before-else-version-eq0.result ↔ Gives kind h e.src e.dst e.key v) (sym c.in-Rw.is)
    ((λ yes. same.0 (c.commits_before-else-version-eq0.ensures.0 yes)), (λ given. c.commits_before-else-version-eq0.ensures.1 (same.1 given)))
