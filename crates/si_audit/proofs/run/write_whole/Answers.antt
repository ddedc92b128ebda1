-- A piece more was written, or a front of it.
use Rattle.std.proofs.Common.{◌≡◌, List, ℕ, [], ◌++◌, Option, Result, Ok, Err, OnErr, append-nil, refl, ap, sym, subst, ◌∙◌, append_assoc, rules}
use Rattle.std.specs.Io.KnownBytes.{Appends, Keeps}
use Rattle.std.proofs.KnownBytes.{Appends-kept, Appends-trans}
use Rattle.si_audit.proofs.run.write_whole.Goals as goal

-- a fact that a failure wants
on_err : {A E : Type 0} (P : Type 0) (r : Result A E) → P → OnErr r P
on_err P (Ok x) p = tt
on_err P (Err e) p = p

-- what was written is all, where nothing is left
all_written : (a b c : Option (List ℕ)) (bytes front rest : List ℕ) → bytes ≡ front ++ rest → rest ≡ [] → Appends a b front → Keeps b c → Appends a c bytes
all_written a b c bytes front rest split none wrote kept = subst (Appends a c) (sym (split ∙ ap (λ (xs : List ℕ). front ++ xs) none ∙ append-nil front)) (Appends-kept a b c front wrote kept)

pub returns-clause-front : goal.returns-clause-front
returns-clause-front g c = on_err _ c.flush.result (λ bytes yet.
    let before = c.giving.invariant.written bytes yet in
    (before.0, before.1, before.2, Appends-kept _ _ _ before.0 before.4 c.flush.ensures.bytes))

pub returns-clause-whole : goal.returns-clause-whole
returns-clause-whole g c _ bytes yet =
    let before = c.giving.invariant.written bytes yet in
    all_written _ _ _ bytes before.0 before.1 before.2 (c.giving-test.ensures.end refl before.1 before.3) before.4 c.flush.ensures.bytes

pub returns-in_err-write_bytes-clause-front : goal.returns-in_err-write_bytes-clause-front
returns-in_err-write_bytes-clause-front g c = on_err _ c.from_residual.result (λ bytes yet.
    let before = c.giving.invariant.written bytes yet in
    let (rest, split, yet_more) = c.advance.ensures.gives before.1 before.3 in
    let part = c.in_err-write_bytes.ensures.err in (
      before.0 ++ part.0,
      part.1 ++ rest,
      before.2 ∙ ap (λ (xs : List ℕ). before.0 ++ xs) (split ∙ ap (λ (xs : List ℕ). xs ++ rest) (sym c.piece.ensures ∙ part.2) ∙ append_assoc part.0 part.1 rest) ∙ sym (append_assoc before.0 part.0 (part.1 ++ rest)),
      Appends-trans _ _ _ _ _ before.4 part.3,
    ))

pub giving-preserved : goal.giving-preserved
giving-preserved g c = record {
  written = λ bytes yet.
      let before = c.giving.invariant.written bytes yet in
      let (rest, split, yet_more) = c.advance.ensures.gives before.1 before.3 in (
        before.0 ++ c.advance.new.self.piece,
        rest,
        before.2 ∙ ap (λ (xs : List ℕ). before.0 ++ xs) split ∙ sym (append_assoc before.0 c.advance.new.self.piece rest),
        yet_more,
        Appends-trans _ _ _ _ _ before.4 (subst (Appends (g.W.Sink.taken c.giving.writer) (g.W.Sink.taken c.write_bytes.new.writer)) c.piece.ensures c.in_ok-write_bytes.ensures.ok),
      );
  sound = search rules;
  open_still = search rules;
}
