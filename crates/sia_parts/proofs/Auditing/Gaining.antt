-- What is seen, sight by sight.
use Rattle.std.proofs.Common.{◌≡◌, ◌≢◌, ◌⊎◌, inl, inr, ℕ, ◌+◌, ◌<◌, ◌≤◌, List, Option, Some, length, get_or, refl, ap, sym, subst, ◌∙◌, arith}
use Rattle.std.specs.Prelude.{◌↔◌, All}
use Rattle.std.proofs.lemmas.Bool.{cases_lt}
use Rattle.std.proofs.lemmas.List.{take_all}
use Rattle.std.proofs.lemmas.List.Elements.{All-contains, Contains-get_or}
use Rattle.sia_events.specs.declared.event.Event.{Event}
use Rattle.sia_events.specs.Events.{actor, Saw}
use Rattle.sia_events.specs.NarrowDependencies.{IsAsOf}
use Rattle.sia_events.specs.Places.{at_place}
use Rattle.sia_events.specs.Reads.{SawAt}
use Rattle.sia_events.specs.Refusals.{IsWellFormed}
use Rattle.sia_events.proofs.Writing.Ranges.{one_version}
use Rattle.sia_events.proofs.Shared.Starts.{one_event}
use Rattle.sia_index.specs.declared.info.KeyVersion.{KeyVersion}
use Rattle.sia_index.specs.Info.{IsKeyAt}
use Rattle.sia_index.specs.Numbers.{IsCommittedAt}
use Rattle.sia_index.specs.Positions.{IsAtPosition}
use Rattle.sia_parts.specs.declared.audit.sights.Seen.{Seen}
use Rattle.sia_parts.specs.Sights.{Sight, Adds, FromSome, LooksAt}
use Rattle.sia_parts.specs.declared.audit.sights.WrongReads.{WrongReads}
use Rattle.sia_parts.specs.Seeing.{AddsWrong, Gains, IsPlaced, IsPositionOf, IsSeenAt, IsSightWithin}
use Rattle.sia_parts.proofs.Shared.Adding.{FromFirst, first_more}
use Rattle.sia_parts.proofs.Auditing.Saw.{wrong_both, wrong_none, wrong_one, wrong_same}
use Rattle.sia_parts.proofs.Auditing.AsOf.{one_as_of}
use Rattle.sia_parts.proofs.Shared.OneNumber.{one_key}
use Rattle.sia_parts.proofs.Auditing.Positions.{at_as_of, one_at}

-- the rows of the reader's look at a sight are new, and no others
pub record GainsLook (h : List Event) (s : Sight) (old new : List (ℕ × ℕ)) : Type 0 where
  pub looks : (at : ℕ × ℕ × ℕ) → FromSome (IsSeenAt h) new at ↔ (FromSome (IsSeenAt h) old at ⊎ LooksAt h s at)
  pub placed : All (IsPlaced h) old → All (IsPlaced h) new

-- all of a list, once something was added
pub all_adds : {A : Type 0} (Q P : A → Type 0) (old new : List A) → Adds P old new → ((x : A) → P x → Q x) → All Q old → All Q new
all_adds {A} Q P old new adds each all i d below =
    let x = get_or new i d in
    elim ((adds x).0 (Contains-get_or new i d below)) [ inl c ↦ All-contains Q old x all c | inr p ↦ each x p ]

module _ (h : List Event) where
  pub gains_none : (P : Sight → Type 0) → ((s : Sight) → ¬ P s) → (seen : Seen) → Gains h P seen seen
  gains_none P none seen = record {
    wrong = wrong_none h P none seen.wrong;
    looks = λ at. ((λ e. inl e), (λ e. elim e [ inl old ↦ old | inr f ↦ absurd (none f.0 f.1) ]));
    placed = λ all. all;
    some = λ all. all;
  }

  pub gains_same : (P Q : Sight → Type 0) → ((s : Sight) → P s → Q s) → ((s : Sight) → Q s → P s) → (old new : Seen) → Gains h P old new → Gains h Q old new
  gains_same P Q to from old new gains = record {
    wrong = wrong_same h P Q to from old.wrong new.wrong gains.wrong;
    looks = λ at. (
      (λ e. elim ((gains.looks at).0 e) [ inl before ↦ inl before | inr f ↦ inr (f.0, to f.0 f.1, f.2) ]),
      (λ e. (gains.looks at).1 (elim e [ inl before ↦ inl before | inr f ↦ inr (f.0, from f.0 f.1, f.2) ])),
    );
    placed = gains.placed;
    some = gains.some;
  }

  -- where the next search starts makes no difference
  pub gains_near : (P : Sight → Type 0) (old new : Seen) (near : ℕ × ℕ) → Gains h P (record { wrong = old.wrong; saw = old.saw; missed = old.missed; near = near }) new → Gains h P old new
  gains_near P old new near gains = record { wrong = gains.wrong; looks = gains.looks; placed = gains.placed; some = gains.some }

  -- one after another
  pub gains_both : (P Q R : Sight → Type 0) → ((s : Sight) → R s → P s ⊎ Q s) → ((s : Sight) → P s → R s) → ((s : Sight) → Q s → R s) → (old mid new : Seen) → Gains h P old mid → Gains h Q mid new → Gains h R old new
  gains_both P Q R to one other old mid new first second = record {
    wrong = wrong_both h P Q R to one other old.wrong mid.wrong new.wrong first.wrong second.wrong;
    looks = λ at. (
      (λ e. elim ((second.looks at).0 e) [
        | inl middle ↦ elim ((first.looks at).0 middle) [ inl before ↦ inl before | inr f ↦ inr (f.0, one f.0 f.1, f.2) ]
        | inr f ↦ inr (f.0, other f.0 f.1, f.2)
      ]),
      (λ e. elim e [
        | inl before ↦ (second.looks at).1 (inl ((first.looks at).1 (inl before)))
        | inr f ↦ elim (to f.0 f.1) [
          | inl p ↦ (second.looks at).1 (inl ((first.looks at).1 (inr (f.0, p, f.2))))
          | inr q ↦ (second.looks at).1 (inr (f.0, q, f.2))
        ]
      ]),
    );
    placed = λ all. second.placed (first.placed all);
    some = λ all. second.some (first.some all);
  }

  -- one stretch of numbers after another
  module _ (p a b c : ℕ) (le : a ≤ b) (more : b ≤ c) where
    in_parts : (s : Sight) → IsSightWithin h p a c s → IsSightWithin h p a b s ⊎ IsSightWithin h p b c s
    in_parts s is = elim (cases_lt is.2 b) [ inl less ↦ inl (is.0, is.1, is.2, is.3, is.4, less) | inr after ↦ inr (is.0, is.1, is.2, is.3, after, is.5) ]

    in_first : (s : Sight) → IsSightWithin h p a b s → IsSightWithin h p a c s
    in_first s is = (is.0, is.1, is.2, is.3, is.4, (let less = is.5 in omega arith))

    in_last : (s : Sight) → IsSightWithin h p b c s → IsSightWithin h p a c s
    in_last s is = (is.0, is.1, is.2, is.3, (let low = is.4 in omega arith), is.5)

    pub gains_then : (old mid new : Seen) → Gains h (IsSightWithin h p a b) old mid → Gains h (IsSightWithin h p b c) mid new → Gains h (IsSightWithin h p a c) old new
    gains_then = gains_both (IsSightWithin h p a b) (IsSightWithin h p b c) (IsSightWithin h p a c) in_parts in_first in_last

    pub wrong_then : (old mid new : WrongReads) → AddsWrong h (IsSightWithin h p a b) old mid → AddsWrong h (IsSightWithin h p b c) mid new → AddsWrong h (IsSightWithin h p a c) old new
    wrong_then = wrong_both h (IsSightWithin h p a b) (IsSightWithin h p b c) (IsSightWithin h p a c) in_parts in_first in_last

  -- the only sight
  pub gains_one : (P : Sight → Type 0) (s : Sight) → P s → ((x : Sight) → P x → x ≡ s) → (old : Seen) (wrong : WrongReads) (saw : List (ℕ × ℕ))
      → AddsWrong h (λ x. x ≡ s) old.wrong wrong → GainsLook h s old.saw saw → Gains h P old (record { wrong = wrong; saw = saw; missed = old.missed; near = old.near })
  gains_one P s has only old wrong saw adds gains = record {
    wrong = wrong_one h P s has only old.wrong wrong adds;
    looks = λ at. (
      (λ e. elim e [
        | inl f ↦ elim ((gains.looks at).0 f) [ inl before ↦ inl (inl before) | inr is ↦ inr (s, has, is) ]
        | inr f ↦ inl (inr f)
      ]),
      (λ e. elim e [
        | inl before ↦ elim before [ inl f ↦ inl ((gains.looks at).1 (inl f)) | inr f ↦ inr f ]
        | inr f ↦ inl ((gains.looks at).1 (inr (subst (λ (x : Sight). LooksAt h x at) (only f.0 f.1) f.2)))
      ]),
    );
    placed = gains.placed;
    some = λ all. all;
  }

  pub no_look : (s : Sight) → ((at : ℕ × ℕ × ℕ) → ¬ LooksAt h s at) → (saw : List (ℕ × ℕ)) → GainsLook h s saw saw
  no_look s none saw = record {
    looks = λ at. ((λ f. inl f), (λ e. elim e [ inl f ↦ f | inr is ↦ absurd (none at is) ]));
    placed = λ all. all;
  }

  module _ (wf : IsWellFormed h) where
    -- at a place one version is seen of a key
    module _ (p t k v i : ℕ) (saw : SawAt h p t k v) (key : IsKeyAt h i k) where
      abbrev pub the_sight : Sight
      the_sight = record { place = p; txn = t; key = k; saw = v }

      pub is_sight : IsSightWithin h p i (i + 1) the_sight
      is_sight = (refl, saw, i, key, omega arith, omega arith)

      pub one_sight : (s : Sight) → IsSightWithin h p i (i + 1) s → s ≡ the_sight
      one_sight s is =
          let number : is.2 ≡ i = let low = is.4 in let less = is.5 in omega arith in
          let own : s.key ≡ k = one_key h i s.key k (subst (λ n. IsKeyAt h n s.key) number is.3) key in
          let event : is.1.0 ≡ saw.0 = one_event h s.place p is.1.0 saw.0 is.0 is.1.1 saw.1 in
          let txn : s.txn ≡ t = sym is.1.2 ∙ ap actor event ∙ saw.2 in
          let seen : Saw saw.0 k s.saw = subst (λ e. Saw e k s.saw) event (subst (λ j. Saw is.1.0 j s.saw) own is.1.3) in
          let version : s.saw ≡ v = one_version h wf p k s.saw v saw.0 saw.1 seen saw.3 in
          λ j. record { place = is.0 j; txn = txn j; key = own j; saw = version j }

    -- a look at a version, of the reader whose number is told
    pub look_gains : (s : Sight) (number : Option ℕ) (q : ℕ) → ((i : ℕ) → (number ≡ Some i) ↔ IsCommittedAt h i s.txn) → s.saw ≢ s.txn → IsPositionOf h s.key s.saw q → (old new : List (ℕ × ℕ))
        → Adds (λ p. (number ≡ Some p.0) × (p.1 ≡ q)) old new → GainsLook h s old new
    look_gains s number q reader other position old new adds = record {
      looks = λ at. (
        (λ f. elim ((adds f.0).0 f.1) [
          | inl before ↦ inl (f.0, before, f.2)
          | inr own ↦
              let v = f.2.1 in
              let w = position.0 in
              let one : v ≡ w = one_at h q v w (subst (λ n. IsAtPosition h n v) own.1 f.2.2) position.1 in
              let key : v.key ≡ s.key = ap (λ (x : KeyVersion). x.key) one ∙ position.2 in
              let as_of : IsAsOf h s.saw w.commit = subst (λ u. IsAsOf h u w.commit) position.3 (at_as_of h q w position.1) in
              inr (
                (reader at.0).0 (own.0 ∙ ap Some f.2.0),
                subst (IsKeyAt h at.1) key f.2.3,
                other,
                subst (IsAsOf h s.saw) (sym (ap (λ (x : KeyVersion). x.commit) one) ∙ f.2.4) as_of,
              )
        ]),
        (λ e. elim e [
          | inl f ↦ (f.0, (adds f.0).1 (inl f.1), f.2)
          | inr is ↦
              let w = position.0 in
              let as_of : IsAsOf h s.saw w.commit = subst (λ u. IsAsOf h u w.commit) position.3 (at_as_of h q w position.1) in
              ((at.0, q), (adds (at.0, q)).1 (inr ((reader at.0).1 is.0, refl)), (refl, w, position.1, subst (IsKeyAt h at.1) (sym position.2) is.1, one_as_of h wf s.saw w.commit at.2 as_of is.3))
        ]),
      );
      placed = all_adds (IsPlaced h) (λ p. (number ≡ Some p.0) × (p.1 ≡ q)) old new adds (λ p own. (position.0, subst (λ n. IsAtPosition h n position.0) (sym own.1) position.1));
    }

module _ (h : List Event) (P : ℕ → Sight → Type 0) (xs : List ℕ) where
  -- one place after another
  pub gains_more : (n d : ℕ) → n < length xs → (old mid new : Seen) → Gains h (λ s. FromFirst P xs n s) old mid → Gains h (P (get_or xs n d)) mid new → Gains h (λ s. FromFirst P xs (n + 1) s) old new
  gains_more n d below old mid new first next = gains_both h (λ s. FromFirst P xs n s) (P (get_or xs n d)) (λ s. FromFirst P xs (n + 1) s)
      (λ s f. (first_more P xs n d below s).1 f) (λ s f. (first_more P xs n d below s).0 (inl f)) (λ s p. (first_more P xs n d below s).0 (inr p)) old mid new first next

  pub gains_all : (n : ℕ) (old new : Seen) → length xs ≤ n → Gains h (λ s. FromFirst P xs n s) old new → Gains h (λ s. FromSome P xs s) old new
  gains_all n old new all gains = subst (λ ys. Gains h (λ s. FromSome P ys s) old new) (take_all n xs all) gains

-- a place without an event, or with one that read nothing, adds nothing
pub gains_nothing : (h l : List Event) → h ≡ l → (from to : ℕ) (xs : List ℕ) (n : ℕ) → n < length xs → ((e : Event) (k v : ℕ) → at_place l (get_or xs n 0) ≡ Some e → ¬ Saw e k v)
    → (old new : Seen) → Gains h (λ s. FromFirst (λ p. IsSightWithin h p from to) xs n s) old new → Gains h (λ s. FromFirst (λ p. IsSightWithin h p from to) xs (n + 1) s) old new
gains_nothing h l same from to xs n below none old new gains =
    let p = get_or xs n 0 in
    gains_more h (λ q. IsSightWithin h q from to) xs n 0 below old new new gains (gains_none h (IsSightWithin h p from to) (λ s is.
    let there : at_place h p ≡ Some is.1.0 = subst (λ q. at_place h q ≡ Some is.1.0) is.0 is.1.1 in
    none is.1.0 s.key s.saw (subst (λ g. at_place g p ≡ Some is.1.0) same there) is.1.3) new)
