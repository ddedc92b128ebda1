use Rattle.std.proofs.Common.{◌≡◌, ◌+◌, ◌<◌, ◌≤◌, ℕ, zero, suc, Ok, List, ◌++◌, take, length, subst, ap, ◌∙◌, arith, rules, append-nil}
use Rattle.std.specs.Io.KnownBytes.{Consumes}
use Rattle.std.proofs.KnownBytes.{Consumes-trans}
use Rattle.std.proofs.lemmas.Grind.{common_steps}
use Rattle.sia_events.specs.Limits.{Limits}
use Rattle.si_audit.specs.declared.devices.Failed.{Failed}
use Rattle.si_audit.specs.Devices.{reads_after}
use Rattle.si_audit.proofs.OfRun.OfSource.{at_the_end, past_the_limit}
use Rattle.si_audit.proofs.run.read_text.Goals as goal
use Rattle.si_audit.proofs.run.read_text.Goals.{else-reading-test, then-reading-test+in-Ok+then-n-eq0}

-- as many more were read as were asked for
longer : (front into : List ℕ) (count n : ℕ) → length front ≡ count → n ≤ length into → length (front ++ take n into) ≡ count + n
longer front into count n counted within = grind (arith, common_steps)

-- none were read
none_more : (front into : List ℕ) (n : ℕ) → n ≡ 0 → front ++ take n into ≡ front
none_more front into n none = ap (λ m. front ++ take m into) none ∙ append-nil front

-- a read counts for no more than the bytes that it gave, and for one at most
more_reads : (before n : ℕ) → reads_after {E = Failed} before (Ok n) ≤ before + n
more_reads before zero = omega arith
more_reads before (suc n) = omega arith

one_more_read : (before n : ℕ) → reads_after {E = Failed} before (Ok n) ≤ before + 1
one_more_read before zero = omega arith
one_more_read before (suc n) = omega arith

pub reading-preserved : goal.reading-preserved
reading-preserved g c = record {
  front = c.reading.invariant.front ++ take c.in-Ok.n c.read.new.into;
  consumed = Consumes-trans _ _ _ _ _ c.reading.invariant.consumed c.in-Ok.ensures.bytes.0;
  counted = longer _ _ _ c.in-Ok.n c.reading.invariant.counted c.in-Ok.ensures.bound;
  given = let e = c.in-Ok.ensures.counted in let more = more_reads (g.R.Source.reads c.reading.source) c.in-Ok.n in let before = c.reading.invariant.given in omega arith;
  given_few = let e = c.in-Ok.ensures.counted in let one = one_more_read (g.R.Source.reads c.reading.source) c.in-Ok.n in let before = c.reading.invariant.given in let bytes : c.bytes-most.result ≡ c.args.o.now.limits.bytes = c.bytes-most.ensures.bytes ∙ ap (λ (limits : Limits). limits.bytes) c.limits.ensures in omega (arith, c.reading-test.true);
  fed = c.in_ok-feed.ensures c.args.o.now.limits c.args.o.now c.reading.invariant.front c.reading.invariant.fed;
  sound = search rules;
}

pub returns-clause-text : goal.returns-clause-text
returns-clause-text g c = elim c.reading-test.branch [
  | else-reading-test w ↦ past_the_limit c.args.o.now.limits _ _ _ c.reading.invariant.front c.reading.auditor c.reading.invariant.consumed (let bytes : c.bytes-most.result ≡ c.args.o.now.limits.bytes = c.bytes-most.ensures.bytes ∙ ap (λ (limits : Limits). limits.bytes) c.limits.ensures in omega (arith, c.reading.invariant.counted, w.reading-test.false)) c.reading.invariant.fed
  | then-reading-test+in-Ok+then-n-eq0 w ↦
      let room : 0 < length w.read.new.into = search rules in
      at_the_end c.args.o.now.limits _ _ _ c.reading.invariant.front c.reading.auditor
      (subst (Consumes (g.R.Source.remaining c.args.source.now) (g.R.Source.remaining w.read.new.self)) (none_more c.reading.invariant.front w.read.new.into w.in-Ok.n w.if-n-eq0.true)
      (Consumes-trans _ _ _ _ _ c.reading.invariant.consumed w.in-Ok.ensures.bytes.0))
      (w.in-Ok.ensures.bytes.1 w.if-n-eq0.true room)
      c.reading.invariant.fed
]
