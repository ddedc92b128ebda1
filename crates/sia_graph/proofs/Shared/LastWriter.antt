-- Who wrote a key last, told from the front of a list of events.
use Rattle.std.proofs.Common.{◌≡◌, ◌≢◌, ◌⊎◌, inl, inr, ℕ, suc, ◌+◌, Bool, true, false, cond, List, [], ◌∷◌, ◌++◌, take, filter, find, slice_get, Some, option_map, unwrap_or, refl, ap, sym, subst, ◌∙◌, ◌==◌, arith}
use mathlib.Core.List.{reverse_aux}
use Rattle.std.specs.List.{enumerate_from}
use Rattle.std.proofs.lemmas.Bool.{eqb-true, eqb-false, false≢true}
use Rattle.std.proofs.lemmas.Option.{same_Some}
use Rattle.sia_events.specs.declared.event.Event.{Event}
use Rattle.sia_events.specs.declared.event.Event.TheVariants.{Write}
use Rattle.sia_events.specs.Events.{actor}
use Rattle.sia_events.specs.Replay.{is_write_of, found_at}

-- the last writer of k, or d where none is
abbrev pub last_from : ℕ → ℕ → List (ℕ × Event) → ℕ
last_from k d [] = d
last_from k d (e ∷ es) = last_from k (cond (is_write_of k e.1) (actor e.1) d) es

-- the first writer of k, or d where none is
abbrev first_or : ℕ → ℕ → List (ℕ × Event) → ℕ
first_or k d es = unwrap_or (option_map (λ e. actor e.1) (find (λ e. is_write_of k e.1) es)) d

first_of_reverse : (k d : ℕ) (es others : List (ℕ × Event)) → first_or k d (reverse_aux es others) ≡ last_from k (first_or k d others) es
first_of_reverse k d [] others = refl
first_of_reverse k d (e ∷ es) others = first_of_reverse k d es (e ∷ others) ∙ ap (λ x. last_from k x es) (grind (arith, unwrap_or, option_map, find))

pub found_is_last : (events : List (ℕ × Event)) (i k : ℕ) → found_at events i k ≡ last_from k 0 (take i events)
found_is_last events i k = first_of_reverse k 0 (take i events) []

pub last_from-append : (k d : ℕ) (es fs : List (ℕ × Event)) → last_from k d (es ++ fs) ≡ last_from k (last_from k d es) fs
last_from-append k d [] fs = refl
last_from-append k d (e ∷ es) fs = last_from-append k (cond (is_write_of k e.1) (actor e.1) d) es fs

-- the events of t among those of h, which are counted from n
abbrev pub events_from : ℕ → List Event → ℕ → List (ℕ × Event)
events_from n h t = filter (λ e. actor e.1 == t) (enumerate_from n h)

-- t's write of k stands in h
abbrev pub Writes : List Event → ℕ → ℕ → Type 0
Writes h t k = (i : ℕ) × (slice_get h i ≡ Some (Write t k))

not_the_write : (t k : ℕ) (e : Event) → is_write_of k e ≡ false → e ≢ Write t k
not_the_write t k e p q = grind (arith, eqb-false)

-- f is t, if it writes k in h, and else d
abbrev pub IsLastOwn : List Event → ℕ → ℕ → ℕ → ℕ → Type 0
IsLastOwn h t k d f = (Writes h t k × (f ≡ t)) ⊎ (¬ Writes h t k × (f ≡ d))

later_only : (t k : ℕ) (e : Event) (h : List Event) → e ≢ Write t k → ¬ Writes h t k → ¬ Writes (e ∷ h) t k
later_only t k e h other none w = grind (arith, same_Some)

after_other : (t k d f : ℕ) (e : Event) (h : List Event) → e ≢ Write t k → IsLastOwn h t k d f → IsLastOwn (e ∷ h) t k d f
after_other t k d f e h other (inl w) = inl ((suc w.0.0, w.0.1), w.1)
after_other t k d f e h other (inr n) = inr (later_only t k e h other n.0, n.1)

after_write : (t k d x f : ℕ) (e : Event) (h : List Event) → e ≡ Write t k → x ≡ t → IsLastOwn h t k x f → IsLastOwn (e ∷ h) t k d f
after_write t k d x f e h p q r = grind arith

by_tests : (k d t n : ℕ) (e : Event) (h : List Event) (es : List (ℕ × Event)) (b w : Bool) → actor e == t ≡ b → is_write_of k e ≡ w
    → ((x : ℕ) → IsLastOwn h t k x (last_from k x es)) → IsLastOwn (e ∷ h) t k d (last_from k d (cond b ((n, e) ∷ es) es))
by_tests k d t n e h es true true p q rest = grind (arith, eqb-true, after_write, after_other, not_the_write, eqb-false, false≢true)
by_tests k d t n e h es true false p q rest =
    subst (λ y. IsLastOwn (e ∷ h) t k d (last_from k (cond y (actor e) d) es)) (sym q)
    (after_other t k d (last_from k d es) e h (not_the_write t k e q) (rest d))
by_tests k d t n e h es false w p q rest =
    after_other t k d (last_from k d es) e h (λ is. eqb-false (actor e) t p (ap actor is)) (rest d)

-- among t's own events the last writer of k is t, if it writes k there
pub last_own : (k d t n : ℕ) (h : List Event) → IsLastOwn h t k d (last_from k d (events_from n h t))
last_own k d t n [] = inr (λ w. let e = w.1 in cc, refl)
last_own k d t n (e ∷ h) = by_tests k d t n e h (events_from (n + 1) h t) (actor e == t) (is_write_of k e) refl refl (λ x. last_own k x t (n + 1) h)
