-- Members and edges have one verdict.
use Rattle.std.proofs.Common.{◌≡◌, ◌⊎◌, inl, inr, ℕ, zero, suc, ◌<◌, ◌≤◌, List, [], ◌∷◌, ◌++◌, refl, ap, sym, subst, ◌∙◌, arith, append_assoc, Contains, append-nil}
use Rattle.std.proofs.lemmas.Bool.{cases_lt}
use Rattle.sia_events.specs.Lists.{Precedes}
use Rattle.sia_events.proofs.Worked.OneList.{Precedes-total}
use Rattle.sia_parts.specs.declared.finding.Edge.{Edge}
use Rattle.sia_parts.specs.declared.finding.Kind.{Kind}
use Rattle.sia_parts.specs.declared.finding.Kind.TheVariants.{Ww, Wr, Rw}
use Rattle.sia_parts.specs.Entries.{kind_number}
use Rattle.sia_graph.specs.declared.cycle.Step.{Step}
use Rattle.sia_graph.specs.declared.judgement.Verdict.{Verdict}
use Rattle.sia_graph.specs.declared.judgement.Verdict.TheVariants.{Order, Cycle}
use Rattle.sia_graph.specs.Cycles.{IsPrevious, GoesBack, GoesRound, TakesLeastEdge, StartsAtLeast, IsPrintedCycle}
use Rattle.sia_graph.specs.Verdicts.{IsVerdict}

-- neither of two lists is before the other only if they are one
neither_before : (xs ys : List ℕ) → ¬ Precedes xs ys → ¬ Precedes ys xs → xs ≡ ys
neither_before xs ys p q = elim (Precedes-total xs ys) [ inl e ↦ e | inr (inl a) ↦ absurd (p a) | inr (inr b) ↦ absurd (q b) ]

abbrev kind_of : ℕ → Kind
kind_of zero = Ww
kind_of (suc zero) = Wr
kind_of (suc (suc n)) = Rw

kind_told : (k : Kind) → kind_of (kind_number k) ≡ k
kind_told k = grind arith

pub same_kind : (k l : Kind) → kind_number k ≡ kind_number l → k ≡ l
same_kind k l e = sym (kind_told k) ∙ ap kind_of e ∙ kind_told l

-- t is where a step starts
abbrev In : ℕ → List Step → Type 0
In t [] = ⊥
In t (s ∷ steps) = (s.txn ≡ t) ⊎ In t steps

module _ (E : Edge → Type 0) (S : List ℕ) where
  one_previous : (p q t : ℕ) → IsPrevious E S p t → IsPrevious E S q t → p ≡ q
  one_previous p q t a b =
      let x : p ≤ q = a.2 q b.0 b.1 in
      let y : q ≤ p = b.2 p a.0 a.1 in
      omega arith

  back_one_more : (n t u p : ℕ) → GoesBack E S n t u → IsPrevious E S p u → GoesBack E S (suc n) t p
  back_one_more zero t u p g pr = (p, subst (λ x. IsPrevious E S p x) (sym g) pr, refl)
  back_one_more (suc n) t u p g pr = (g.0, g.1, back_one_more n g.0 u p g.2 pr)

  -- the longer way back goes on from the shorter one
  goes_on_back : (n m t s u : ℕ) → GoesBack E S n t s → GoesBack E S m t u → n ≤ m → (k : ℕ) × GoesBack E S k s u
  goes_on_back zero m t s u g h le = (m, subst (λ x. GoesBack E S m x u) g h)
  goes_on_back (suc n) zero t s u g h le = absurd (omega arith)
  goes_on_back (suc n) (suc m) t s u g h le = goes_on_back n m g.0 s u g.2 (subst (λ x. GoesBack E S m x u) (one_previous h.0 g.0 t h.1 g.1) h.2) (omega arith)

  -- going back from home or from a later step stays on the cycle
  previous_in : (s : Step) (steps : List Step) (home t p : ℕ) → GoesRound E S (s ∷ steps) home → (t ≡ home) ⊎ In t steps → IsPrevious E S p t → In p (s ∷ steps)
  previous_in s [] home t p g (inl e) pr = inl (one_previous s.txn p home g.0 (subst (λ x. IsPrevious E S p x) e pr))
  previous_in s [] home t p g (inr i) pr = absurd i
  previous_in s (next ∷ rest) home t p g (inl e) pr = inr (previous_in next rest home t p g.2 (inl e) pr)
  previous_in s (next ∷ rest) home t p g (inr (inl e)) pr = inl (one_previous s.txn p next.txn g.0 (subst (λ x. IsPrevious E S p x) (sym e) pr))
  previous_in s (next ∷ rest) home t p g (inr (inr i)) pr = inr (previous_in next rest home t p g.2 (inr i) pr)

  stays_in : (s : Step) (steps : List Step) → GoesRound E S (s ∷ steps) s.txn → (k t u : ℕ) → In t (s ∷ steps) → GoesBack E S k t u → In u (s ∷ steps)
  stays_in s steps g zero t u i b = subst (λ x. In x (s ∷ steps)) b i
  stays_in s steps g (suc k) t u (inl e) b = stays_in s steps g k b.0 u (previous_in s steps s.txn t b.0 g (inl (sym e)) b.1) b.2
  stays_in s steps g (suc k) t u (inr i) b = stays_in s steps g k b.0 u (previous_in s steps s.txn t b.0 g (inr i) b.1) b.2

  reaches_first : (s : Step) (steps : List Step) (home t : ℕ) → GoesRound E S (s ∷ steps) home → In t (s ∷ steps) → (k : ℕ) × GoesBack E S k t s.txn
  reaches_first s steps home t g (inl e) = (0, sym e)
  reaches_first s [] home t g (inr i) = absurd i
  reaches_first s (next ∷ rest) home t g (inr i) = let h = reaches_first next rest home t g.2 i in (suc h.0, back_one_more h.0 t next.txn s.txn h.1 g.0)

  in_above : (c : ℕ) (steps : List Step) → StartsAtLeast steps c → (t : ℕ) → In t steps → c < t
  in_above c [] a t i = absurd i
  in_above c (s ∷ steps) a t (inl e) = let l : c < s.txn = a 0 s (omega arith) in omega arith
  in_above c (s ∷ steps) a t (inr i) = in_above c steps (λ k d b. a (suc k) d (omega arith)) t i

  in_at_least : (s : Step) (steps : List Step) → StartsAtLeast steps s.txn → (t : ℕ) → In t (s ∷ steps) → s.txn ≤ t
  in_at_least s steps a t (inl e) = omega arith
  in_at_least s steps a t (inr i) = let l : s.txn < t = in_above s.txn steps a t i in omega arith

  -- one step can lead back from a transaction to another
  one_step : (s r : Step) (next : ℕ) → s.txn ≡ r.txn → TakesLeastEdge E s next → TakesLeastEdge E r next → s ≡ r
  one_step s r next e a b = grind (arith, neither_before, same_kind)

  same_home : (s r : Step) (ss rs : List Step) → GoesRound E S (s ∷ ss) s.txn → GoesRound E S (r ∷ rs) r.txn → StartsAtLeast ss s.txn → StartsAtLeast rs r.txn
      → (n m least : ℕ) → GoesBack E S n least s.txn → GoesBack E S m least r.txn → n ≤ m → s.txn ≡ r.txn
  same_home s r ss rs g h a b n m least x y le =
      let way = goes_on_back n m least s.txn r.txn x y le in
      let there : In r.txn (s ∷ ss) = stays_in s ss g way.0 s.txn r.txn (inl refl) way.1 in
      let again = reaches_first s ss s.txn r.txn g there in
      let p : s.txn ≤ r.txn = in_at_least s ss a r.txn there in
      let q : r.txn ≤ s.txn = in_at_least r rs b s.txn (stays_in r rs h again.0 r.txn s.txn (inl refl) again.1) in
      omega arith

  -- the last step of a round, and the round before it
  round_last : (xs : List Step) (x : Step) (home : ℕ) → GoesRound E S (xs ++ x ∷ []) home → IsPrevious E S x.txn home × TakesLeastEdge E x home × GoesRound E S xs x.txn
  round_last [] x home g = (g.0, g.1, tt)
  round_last (a ∷ []) x home g = (g.2.0, g.2.1, (g.0, g.1))
  round_last (a ∷ b ∷ r) x home g = let h = round_last (b ∷ r) x home g.2 in (h.0, h.1, (g.0, g.1, h.2))

-- the steps from the last to the first
abbrev forwards : List Step → List Step
forwards [] = []
forwards (x ∷ r) = forwards r ++ x ∷ []

-- the first step, which stands last, starts at c, and the others above it
abbrev StandsLast : ℕ → List Step → Type 0
StandsLast c [] = ⊥
StandsLast c (x ∷ []) = x.txn ≡ c
StandsLast c (x ∷ y ∷ r) = (c < x.txn) × StandsLast c (y ∷ r)

later_above : (c : ℕ) (x : Step) (r : List Step) → c < x.txn → StandsLast c r → StandsLast c (x ∷ r)
later_above c x r p q = grind arith

turned : (c : ℕ) (r rest : List Step) → StandsLast c r → StartsAtLeast rest c → (b : List Step) × (forwards b ≡ forwards r ++ rest) × StandsLast c b
turned c r [] f a = (r, sym (append-nil (forwards r)), f)
turned c r (x ∷ rest) f a =
    let h = turned c (x ∷ r) rest (later_above c x r (a 0 x (omega arith)) f) (λ k d b. a (suc k) d (omega arith)) in
    (h.0, h.1 ∙ append_assoc (forwards r) (x ∷ []) rest, h.2)

module _ (E : Edge → Type 0) (S : List ℕ) where
  same_back : (c home : ℕ) (xs ys : List Step) → GoesRound E S (forwards xs) home → GoesRound E S (forwards ys) home → StandsLast c xs → StandsLast c ys → xs ≡ ys
  same_back c home [] ys g h a b = absurd a
  same_back c home (x ∷ xs) [] g h a b = absurd b
  same_back c home (x ∷ []) (y ∷ []) g h a b = grind (arith, round_last, one_previous, one_step)
  same_back c home (x ∷ []) (y ∷ z ∷ ys) g h a b =
      let e = one_previous E S x.txn y.txn home (round_last E S [] x home g).0 (round_last E S (forwards (z ∷ ys)) y home h).0 in
      let l : c < y.txn = b.0 in
      let m : x.txn ≡ c = a in
      absurd (omega arith)
  same_back c home (x ∷ w ∷ xs) (y ∷ []) g h a b =
      let e = one_previous E S x.txn y.txn home (round_last E S (forwards (w ∷ xs)) x home g).0 (round_last E S [] y home h).0 in
      absurd (omega arith)
  same_back c home (x ∷ w ∷ xs) (y ∷ z ∷ ys) g h a b =
      let p = round_last E S (forwards (w ∷ xs)) x home g in
      let q = round_last E S (forwards (z ∷ ys)) y home h in
      let e = one_previous E S x.txn y.txn home p.0 q.0 in
      let rest = same_back c x.txn (w ∷ xs) (z ∷ ys) p.2 (subst (λ t. GoesRound E S (forwards (z ∷ ys)) t) (sym e) q.2) a.1 b.1 in
      λ i. (one_step E S x y home e p.1 q.1) i ∷ rest i

  -- two rounds from one home that is the least on each are one
  same_round : (s r : Step) (ss rs : List Step) → s.txn ≡ r.txn → GoesRound E S (s ∷ ss) s.txn → GoesRound E S (r ∷ rs) r.txn → StartsAtLeast ss s.txn → StartsAtLeast rs r.txn → ◌≡◌ {A = List Step} (s ∷ ss) (r ∷ rs)
  same_round s r ss rs e g h a b =
      let x = turned s.txn (s ∷ []) ss refl a in
      let y = turned s.txn (r ∷ []) rs (sym e) (subst (λ t. StartsAtLeast rs t) (sym e) b) in
      sym x.1 ∙ ap forwards (same_back s.txn s.txn x.0 y.0
      (subst (λ l. GoesRound E S l s.txn) (sym x.1) g)
      (subst (λ l. GoesRound E S l s.txn) (sym y.1) (subst (λ t. GoesRound E S (r ∷ rs) t) (sym e) h)) x.2 y.2) ∙ y.1

-- what is said of one list of the stuck set is said of another
module _ (E : Edge → Type 0) (S T : List ℕ) (to : (t : ℕ) → Contains S t → Contains T t) (from : (t : ℕ) → Contains T t → Contains S t) where
  move_previous : (p t : ℕ) → IsPrevious E S p t → IsPrevious E T p t
  move_previous p t a = (to p a.0, a.1, λ q m l. a.2 q (from q m) l)

  move_back : (n t s : ℕ) → GoesBack E S n t s → GoesBack E T n t s
  move_back zero t s g = g
  move_back (suc n) t s g = (g.0, move_previous g.0 t g.1, move_back n g.0 s g.2)

  move_round : (steps : List Step) (home : ℕ) → GoesRound E S steps home → GoesRound E T steps home
  move_round [] home g = tt
  move_round (s ∷ []) home g = (move_previous s.txn home g.0, g.1)
  move_round (s ∷ next ∷ rest) home g = (move_previous s.txn next.txn g.0, g.1, move_round (next ∷ rest) home g.2)

pub one_cycle : (M : ℕ → Type 0) (E : Edge → Type 0) (xs ys : List Step) → IsPrintedCycle M E xs → IsPrintedCycle M E ys → xs ≡ ys
one_cycle M E [] ys a b = absurd a
one_cycle M E (s ∷ ss) [] a b = absurd b
one_cycle M E (s ∷ ss) (r ∷ rs) a b =
    let S = a.0 in
    let T = b.0 in
    let to = (λ (t : ℕ) (m : Contains S t). b.1.greatest S a.1.self_fed t m) in
    let from = (λ (t : ℕ) (m : Contains T t). a.1.greatest T b.1.self_fed t m) in
    let p : a.2 ≤ b.2 = a.4 b.2 (from b.2 b.3) in
    let q : b.2 ≤ a.2 = b.4 a.2 (to a.2 a.3) in
    let least : b.2 ≡ a.2 = omega arith in
    let back : GoesBack E S b.5 a.2 r.txn = subst (λ t. GoesBack E S b.5 t r.txn) least (move_back E T S from to b.5 b.2 r.txn b.6) in
    let round : GoesRound E S (r ∷ rs) r.txn = move_round E T S from to (r ∷ rs) r.txn b.8 in
    let home : s.txn ≡ r.txn = grind (arith, move_back, move_round, cases_lt, same_home, same_round) in
    same_round E S s r ss rs home a.8 round a.7 b.7

-- there is one verdict
pub one_verdict : (M : ℕ → Type 0) (E : Edge → Type 0) (v w : Verdict) → IsVerdict M E v → IsVerdict M E w → v ≡ w
one_verdict M E (Order xs) (Order ys) a b = ap Order (neither_before xs ys (b.1 xs a.0) (a.1 ys b.0))
one_verdict M E (Order xs) (Cycle ys) a b = absurd (b.0 xs a.0)
one_verdict M E (Cycle xs) (Order ys) a b = absurd (a.0 ys b.0)
one_verdict M E (Cycle xs) (Cycle ys) a b = ap Cycle (one_cycle M E xs ys a.1 b.1)
