-- Reads are taken one after another, each with its transaction and the key that it stands under.
use Rattle.std.proofs.Common.{◌≡◌, inl, inr, ℕ, ◌+◌, ◌≤◌, List, [], ◌∷◌, ◌++◌, length, Some, sym, subst, ap, ◌∙◌, arith}
use Rattle.std.specs.Prelude.{◌↔◌, Contains}
use Rattle.std.proofs.lemmas.Bool.{cases_lt}
use Rattle.std.proofs.lemmas.List.Elements.{Contains-append_left, Contains-push, Contains-push_cases}
use Rattle.sia_events.specs.declared.event.Event.{Event}
use Rattle.sia_events.specs.declared.event.Event.TheVariants.{Begin, Read, Range, Write, Commit, Abort}
use Rattle.sia_events.specs.Events.{actor}
use Rattle.sia_events.specs.Places.{at_place}
use Rattle.sia_events.proofs.Shared.TransactionDecisions.{place_within}
use Rattle.sia_parts.specs.declared.reasons.Act.{Act}
use Rattle.sia_parts.specs.Acts.{IsAct, IsUnder}

-- of these transactions the reads up to place n
abbrev pub TakenTo : List ℕ → List Event → ℕ → List Act → Type 0
TakenTo txns h n acts = (act : Act) → Contains acts act ↔ (Contains txns act.txn × IsAct h act × (act.place ≤ n))

one_key : (e : Event) (k l : ℕ) → IsUnder e k → IsUnder e l → k ≡ l
one_key (Begin t start) k l one two = absurd one
one_key (Read t key v) k l one two = one ∙ sym two
one_key (Range t lo hi listed) k l one two = one ∙ sym two
one_key (Write t key) k l one two = absurd one
one_key (Commit t) k l one two = absurd one
one_key (Abort t) k l one two = absurd one

same_act : (t u k l p q : ℕ) → t ≡ u → k ≡ l → p ≡ q → ◌≡◌ {A = Act} (record { txn = t; key = k; place = p }) (record { txn = u; key = l; place = q })
same_act t u k l p q who key here = cc

-- a place has one read
one_act : (h : List Event) (a b : Act) → IsAct h a → IsAct h b → a.place ≡ b.place → a ≡ b
one_act h a b one two here =
    let both : Some one.0 ≡ Some two.0 = sym one.1 ∙ subst (λ p. at_place h p ≡ Some two.0) (sym here) two.1 in
    let same : one.0 ≡ two.0 = cc in
    let who : a.txn ≡ b.txn = sym one.2 ∙ ap actor same ∙ two.2 in
    let key : a.key ≡ b.key = one_key two.0 a.key b.key (subst (λ e. IsUnder e a.key) same one.3) two.3 in
    same_act a.txn b.txn a.key b.key a.place b.place who key here

module _ (txns : List ℕ) (h : List Event) (n : ℕ) (acts : List Act) (taken : TakenTo txns h n acts) where
  -- the read at the next place is taken
  pub next_taken : (more : List Act) (next : Act) → (next.place ≡ n + 1) × IsAct h next → Contains txns next.txn → more ≡ acts ++ next ∷ [] → TakenTo txns h (n + 1) more
  next_taken more next at among is act = (
    (λ has. elim (Contains-push_cases acts next act (subst (λ (xs : List Act). Contains xs act) is has)) [
      | inl old ↦ let before = (taken act).0 old in (before.0, before.1, omega arith)
      | inr new ↦ subst (λ (a : Act). Contains txns a.txn × IsAct h a × (a.place ≤ n + 1)) new (among, at.1, (let p = at.0 in omega arith))
    ]),
    (λ is_one. subst (λ (xs : List Act). Contains xs act) (sym is) (elim (cases_lt n act.place) [
      | inl last ↦ subst (Contains (acts ++ next ∷ [])) (one_act h next act at.1 is_one.1 (let p = at.0 in let q = is_one.2 in omega arith)) (Contains-push acts next)
      | inr early ↦ Contains-append_left acts (next ∷ []) act ((taken act).1 (is_one.0, is_one.1, omega arith))
    ])),
  )

  -- there is none of these transactions at the next place
  pub none_taken : ((act : Act) → Contains txns act.txn → act.place ≡ n + 1 → ¬ IsAct h act) → TakenTo txns h (n + 1) acts
  none_taken none act = (
    (λ has. let before = (taken act).0 has in (before.0, before.1, omega arith)),
    (λ is_one. elim (cases_lt n act.place) [
      | inl last ↦ absurd (none act is_one.0 (let q = is_one.2 in omega arith) is_one.1)
      | inr early ↦ (taken act).1 (is_one.0, is_one.1, omega arith)
    ]),
  )

  -- it is of another transaction
  pub next_left : (next : Act) → (next.place ≡ n + 1) × IsAct h next → (¬ Contains txns next.txn) → TakenTo txns h (n + 1) acts
  next_left next at other = none_taken (λ act among here is_one. other (subst (λ (a : Act). Contains txns a.txn) (one_act h act next is_one at.1 (here ∙ sym at.0)) among))

  -- all are taken
  pub all_taken : length h ≤ n → (act : Act) → Contains acts act ↔ (Contains txns act.txn × IsAct h act)
  all_taken all act = (
    (λ has. let before = (taken act).0 has in (before.0, before.1)),
    (λ is_one. (taken act).1 (is_one.0, is_one.1, (let within = (place_within h act.place is_one.1.0 is_one.1.1).1 in omega arith))),
  )
