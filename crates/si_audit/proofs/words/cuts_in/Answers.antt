-- The texts of the cuts, where the matches have some, are numbers of 64 bits.
use Rattle.std.proofs.Common.{◌≡◌, ◌∙◌, ◌+◌, ◌<◌, ◌++◌, length, take, get_or, ap₂, refl, sym, subst, ap, map, ℕ, List, [], ◌∷◌, Option, Some, None, codes, Bor, All, IfSome, option_map, unwrap_or}
use Rattle.std.proofs.lemmas.List.{map-append, take_all, take_more}
use Rattle.clap.specs.Words.{IsUnsignedIn, Text, all_of, found_of, matched_of, raw_values, rows_of}
use Rattle.clap.specs.declared.parser.matches.Found.{Found}
use Rattle.clap.proofs.WalkLemmas.{raw_values-rows}
use Rattle.si_audit.specs.Words.{cuts_among, number_in}
use Rattle.si_audit.proofs.OfReasons.Rounds.{all_of_map}
use Rattle.si_audit.proofs.words.cuts_in.Goals as goal

texts_are : (f : Found) (o : Option (List Text)) → o ≡ option_map raw_values (matched_of f (codes "cut")) → o ≡ all_of (codes "cut") (rows_of f)
texts_are f o is = is ∙ raw_values-rows f (codes "cut")

numbers_behind : (vs : List (Bor Text)) → map (λ t. number_in t.now) vs ≡ map number_in (map (λ v. v.now) vs)
numbers_behind [] = refl
numbers_behind (v ∷ vs) = ap (λ (ns : List ℕ). number_in v.now ∷ ns) (numbers_behind vs)

abbrev number_at : Bor (List ℕ) → ℕ
number_at t = number_in t.now

one_more : (texts : List (Bor (List ℕ))) (i : ℕ) (d : Bor (List ℕ)) (ns : List ℕ) (n : ℕ) → i < length texts
    → ns ≡ map number_at (take i texts) → n ≡ number_at (get_or texts i d) → ns ++ n ∷ [] ≡ map number_at (take (i + 1) texts)
one_more texts i d ns n lt so_far last =
    ap₂ (λ (ms : List ℕ) (m : ℕ). ms ++ m ∷ []) so_far last
    ∙ (sym (map-append number_at (take i texts) (get_or texts i d ∷ [])) ∙ ap (map number_at) (sym (take_more texts i d lt)))

pub number-requires : goal.number-requires
number-requires c =
    let is = texts_are (found_of c.args.matches.now) (Some (map (λ v. v.now) c.in-Some.texts.now)) c.in-Some.ensures in
    all_of_map (IsUnsignedIn 0 18446744073709551615) (λ (v : Bor Text). v.now) c.in-Some.texts.now _ refl
    (subst (λ (o : Option (List Text)). IfSome o (All (IsUnsignedIn 0 18446744073709551615))) (sym is) c.requires.cuts) c.loop-text.text-index _ c.loop-text-test.true

pub loop-text-preserved : goal.loop-text-preserved
loop-text-preserved c =
    let texts = c.in-Some.texts.now in
    let more : c.loop-text.cuts.items ++ c.number.result ∷ [] ≡ map number_at (take (c.loop-text.text-index + 1) texts) =
    one_more texts c.loop-text.text-index (record { ref_ptr = (0, 0); now = [] }) c.loop-text.cuts.items c.number.result c.loop-text-test.true c.loop-text.invariant c.number.ensures in
    rw c.in_ok-push.ensures.items more

pub returns : goal.returns
returns c =
    let texts = c.in-Some.texts.now in
    let is = texts_are (found_of c.args.matches.now) (Some (map (λ v. v.now) texts)) c.in-Some.ensures in
    let cuts : map number_in (map (λ v. v.now) texts) ≡ cuts_among (rows_of (found_of c.args.matches.now)) =
    ap (λ (o : Option (List Text)). map number_in (unwrap_or o [])) is in
    c.loop-text.invariant ∙ (ap (map number_at) (take_all _ _ c.loop-text-test.false) ∙ (numbers_behind texts ∙ cuts))

pub returns-in_default : goal.returns-in_default
returns-in_default c =
    let is = texts_are (found_of c.args.matches.now) None c.in_default.ensures in
    c.new.ensures.items ∙ ap (λ (o : Option (List Text)). map number_in (unwrap_or o [])) is
