-- The matches of the program's words hold numbers: each text that they have passed its argument's parser.
use Rattle.std.proofs.Common.{◌≡◌, ◌⊎◌, ◌∙◌, ◌<◌, ℕ, Bool, true, false, zero, suc, refl, sym, subst, ap, arith, inl, inr, List, [], ◌∷◌, map, length, Option, Some, None, codes, IfSome, IsSomeAnd, option_map, slice_get}
use Rattle.std.specs.List.{All, find, list_all, position_or_len, slice_index_or}
use Rattle.std.specs.Str.{bytes_eq}
use Rattle.std.specs.Borrow.{Bor}
use Rattle.std.proofs.lemmas.List.{length-map}
use Rattle.std.proofs.lemmas.List.Elements.{All-map}
use Rattle.std.proofs.lemmas.Slice.Eq.{bytes_eq-Decides}
use Rattle.clap.specs.Texts.{items_of}
use Rattle.clap.specs.Facts.{Entry, EntryPasses, HasIn, IsParsed, PassesArg, args_of, groups_of, parser_of_value}
use Rattle.clap.specs.Built.{IsAuto, IsParsedFrom, SameRules}
use Rattle.clap.specs.Words.{first_of}
use Rattle.clap.specs.Matches.{first_value, found_of, has_subcommand, matched_of, raw_values}
use Rattle.clap.specs.Values.{Accepts, IsUnsignedIn}
use Rattle.clap.specs.Walk.{Rule, Text, rows_of, rule_of}
use Rattle.clap.specs.Simple.{App, IsSimple, app_of, is_ready, is_ready_leaf}
use Rattle.clap.specs.declared.builder.action.ArgAction.TheVariants.{Set}
use Rattle.clap.specs.declared.builder.arg.Arg.{Arg}
use Rattle.clap.specs.declared.builder.command.Command.{Command}
use Rattle.clap.specs.declared.builder.value_parser.ValueParser.{ValueParser}
use Rattle.clap.specs.declared.builder.value_parser.ValueParser.TheVariants as vp
use Rattle.clap.specs.declared.parser.matches.ArgMatches.{ArgMatches}
use Rattle.clap.specs.declared.parser.matches.MatchedArg.{MatchedArg}
use Rattle.clap.proofs.CallerLemmas.{default_present, entry_by_id, same_rules_by_id}
use Rattle.clap.proofs.SimpleLemmas.{ready_simple, simple_groups}
use Rattle.clap.proofs.WalkLemmas.{first_value-rows, raw_values-rows}
use Rattle.sia_events.specs.Limits.{greatest}
use Rattle.si_audit.specs.Words.{HasNumbers, brief_rule, bytes_rule, check_rule, cuts_rule, events_rule, explain_rule, number_rule, program, workers_rule}

abbrev rules : List Rule
rules = workers_rule ∷ cuts_rule ∷ brief_rule ∷ explain_rule ∷ check_rule ∷ events_rule ∷ bytes_rule ∷ []

-- which rule has the id
place_of : Text → ℕ
place_of id = position_or_len (λ r. bytes_eq r.id id) rules

own_place : (j : ℕ) (r : Rule) → j < 7 → place_of (slice_index_or rules j r).id ≡ j
unfolding place_of
own_place j r lt = grind arith

at_mapped : (xs : List Arg) (j : ℕ) (e : Arg) → slice_index_or (map rule_of xs) j (rule_of e) ≡ rule_of (slice_index_or xs j e)
at_mapped (x ∷ xs) (suc j) e = at_mapped xs j e
at_mapped xs j e = refl

some_arg : (xs : List Arg) → length xs ≡ 7 → Arg
some_arg [] seven = absurd (omega arith)
some_arg (x ∷ xs) seven = x

-- the entry of an id
found_at : (xs : List Entry) (id : Text) (i : ℕ) → i < length xs → ((d : Entry) → bytes_eq (slice_index_or xs i d).0.now id ≡ true)
    → (x : MatchedArg) × (option_map (λ e. e.1) (find (λ e. bytes_eq e.0.now id) xs) ≡ Some x)
found_at [] id i lt hit = absurd (omega arith)
found_at (e ∷ xs) id zero lt hit = (e.1, rw (hit e) refl)
found_at (e ∷ xs) id (suc i) lt hit = go (bytes_eq e.0.now id) refl (found_at xs id i (omega arith) hit)
  where
    go : (b : Bool) → bytes_eq e.0.now id ≡ b
        → ((x : MatchedArg) × (option_map (λ e. e.1) (find (λ e. bytes_eq e.0.now id) xs) ≡ Some x))
        → (x : MatchedArg) × (option_map (λ e. e.1) (find (λ e. bytes_eq e.0.now id) (e ∷ xs)) ≡ Some x)
    go true t rest = (e.1, rw t refl)
    go false t rest = (rest.0, rw t rest.1)

first_in_bounds : (lo hi : ℕ) (vs : List (Bor Text)) → 0 < length vs → All (λ v. IsUnsignedIn lo hi v.now) vs
    → IsSomeAnd (option_map (λ s. s.now) (slice_get vs 0)) (IsUnsignedIn lo hi)
first_in_bounds lo hi [] lt h = absurd (omega arith)
first_in_bounds lo hi (v ∷ vs) lt h = h 0 v (omega arith)

module _ (c : Command) (m : ArgMatches) (p : IsParsedFrom c m) (app : app_of c ≡ program) where
  same_rules : map rule_of (args_of c) ≡ rules
  same_rules = ap (λ (a : App). a.top.rules) app

  seven : length (args_of c) ≡ 7
  seven = sym (length-map (args_of c) rule_of) ∙ ap length same_rules

  simple : IsSimple c
  simple = ready_simple c (ap (λ (a : App). is_ready a.top) app) (ap (λ (a : App). list_all is_ready_leaf a.subs) app)

  no_groups : groups_of p.built ≡ []
  no_groups = (p.from.same_groups (simple_groups c (ap (λ (a : App). list_all (λ r. r.is_simple) a.top.rules) app))).1 ∙ simple.groups

  parsed : IsParsed p.built (found_of m) (has_subcommand m)
  parsed = p.parsed (p.from.globals ∙ simple.globals)

  rule_at : (j : ℕ) (e : Arg) → rule_of (slice_index_or (args_of c) j e) ≡ slice_index_or rules j (rule_of e)
  rule_at j e = sym (at_mapped (args_of c) j e) ∙ ap (λ (rs : List Rule). slice_index_or rs j (rule_of e)) same_rules

  id_at : (j : ℕ) (e : Arg) → (slice_index_or (args_of c) j e).id.now ≡ (slice_index_or rules j (rule_of e)).id
  id_at j e = ap (λ (r : Rule). r.id) (rule_at j e)

  -- no two arguments have one id
  one_id : (k : ℕ) (d : Arg) → k < 7 → (j : ℕ) (e : Arg) → j < length (args_of c)
      → bytes_eq (slice_index_or (args_of c) j e).id.now (slice_index_or (args_of c) k d).id.now ≡ true → j ≡ k
  one_id k d lt j e low same = grind (arith, bytes_eq-Decides, own_place, seven, id_at)

  module _ (k : ℕ) (d : Arg) (lt : k < 7) (name : Text) (named : (slice_index_or (args_of c) k d).id.now ≡ name) (some : 0 < length name)
      (own : IsAuto (slice_index_or (args_of c) k d) → ⊥) where
    -- the argument of the built command that has the name
    rules_of_named : (j : ℕ) (x : Arg) → j < length (args_of p.built) → slice_index_or (args_of p.built) j x ≡ x
        → bytes_eq x.id.now name ≡ true → SameRules (slice_index_or (args_of c) k d) x
    rules_of_named j x high at same =
        same_rules_by_id c m p k d (omega (arith, seven)) (one_id k d lt) own j x high at (rw named same)

    module _ (e : Entry) (pass : EntryPasses p.built e) (key : bytes_eq e.0.now name ≡ true) where
      key_is : e.0.now ≡ name
      key_is = (bytes_eq-Decides e.0.now name).0 key

      no_group : e.1.is_group ≡ true → ⊥
      no_group g = grind (arith, key_is, no_groups)

      in_bounds : (lo hi : ℕ) → (slice_index_or (args_of c) k d).value_parser ≡ Some (vp.Unsigned lo hi) → All (λ v. IsUnsignedIn lo hi v.now) e.1.vals.items
      in_bounds lo hi parser = elim pass.0 [
        | inl g ↦ absurd (no_group g)
        | inr vals ↦ λ i v less. one (vals i v less)
      ]
        where
          one : {t : Text} → PassesArg p.built e.0.now t → IsUnsignedIn lo hi t
          one {t} h =
              let s = rules_of_named h.0 h.1 h.2 h.3 (subst (λ (w : Text). bytes_eq h.1.id.now w ≡ true) key_is h.4.0) in
              subst (λ (q : ValueParser). Accepts h.1.ignore_case q t) (ap parser_of_value (s.parser (vp.Unsigned lo hi) parser)) h.4.1

      -- an entry of an option that takes one value has one
      has_value : (slice_index_or (args_of c) k d).action ≡ Some Set → (slice_index_or (args_of c) k d).num_vals ≡ None
          → (slice_index_or (args_of c) k d).val_delim ≡ None → 0 < length e.1.vals.items
      has_value set range delim = grind (arith, no_group, rules_of_named, key_is)

  other_name : (t name : Text) → t ≡ name → bytes_eq name (codes "help") ≡ false → bytes_eq name (codes "version") ≡ false
      → (t ≡ codes "help") ⊎ (t ≡ codes "version") → ⊥
  other_name t name is help version p = grind arith

  abbrev cuts_arg : Arg → Arg
  cuts_arg d = slice_index_or (args_of c) 1 d

  -- the value of an option that has a number
  module _ (k : ℕ) (d : Arg) (lt : k < 7) (name : Text) (most : ℕ) (usual : Text) (its : slice_index_or rules k (rule_of d) ≡ number_rule name most usual)
      (some : 0 < length name) (no_help : bytes_eq name (codes "help") ≡ false) (no_version : bytes_eq name (codes "version") ≡ false) where
    abbrev arg : Arg
    arg = slice_index_or (args_of c) k d

    rule : rule_of arg ≡ number_rule name most usual
    rule = rule_at k d ∙ its

    named : arg.id.now ≡ name
    named = ap (λ (r : Rule). r.id) rule

    own : IsAuto arg → ⊥
    own = other_name arg.id.now name named no_help no_version

    one_default : length (items_of arg.default_vals) ≡ 1
    one_default = sym (length-map (items_of arg.default_vals) (λ s. s.now)) ∙ ap length (ap (λ (r : Rule). r.defaults) rule)

    here : HasIn (found_of m).entries.items name
    here = subst (HasIn (found_of m).entries.items) named
        (default_present c m p simple.globals k d (omega (arith, seven)) ((simple.args k d (omega (arith, seven))).default_ifs, omega (arith, one_default)))

    step : (x : MatchedArg) → ((e : Entry) × (e.1 ≡ x) × (bytes_eq e.0.now name ≡ true) × EntryPasses p.built e)
        → IsSomeAnd (option_map (λ s. s.now) (slice_get x.vals.items 0)) (IsUnsignedIn 1 most)
    step x e =
        subst (λ (y : MatchedArg). IsSomeAnd (option_map (λ s. s.now) (slice_get y.vals.items 0)) (IsUnsignedIn 1 most)) e.1
        (first_in_bounds 1 most e.0.1.vals.items
        (has_value k d lt name named some own e.0 e.3 e.2 (ap (λ (r : Rule). r.action) rule) (ap (λ (r : Rule). r.range) rule)
        (simple.args k d (omega (arith, seven))).delimiter)
        (in_bounds k d lt name named some own e.0 e.3 e.2 1 most (ap (λ (r : Rule). r.parser) rule)))

    value_given : (o : Option MatchedArg) → matched_of (found_of m) name ≡ o → ((x : MatchedArg) × (matched_of (found_of m) name ≡ Some x))
        → IsSomeAnd (first_value (found_of m) name) (IsUnsignedIn 1 most)
    value_given None is found =
        let bad : None ≡ Some found.0 = sym is ∙ found.1 in
        cc
    value_given (Some x) is found = rw is (step x (entry_by_id (EntryPasses p.built) (found_of m).entries.items name x parsed.values is))

    number_given : IsSomeAnd (first_of name (rows_of (found_of m))) (IsUnsignedIn 1 most)
    number_given = subst (λ (o : Option Text). IsSomeAnd o (IsUnsignedIn 1 most)) (first_value-rows (found_of m) name)
        (value_given (matched_of (found_of m) name) refl (found_at (found_of m).entries.items name here.0 here.1 here.2))

  cuts_given : (d : Arg) → IfSome (option_map raw_values (matched_of (found_of m) (codes "cut"))) (All (IsUnsignedIn 0 18446744073709551615))
  cuts_given d = go (matched_of (found_of m) (codes "cut")) refl
    where
      rule : rule_of (cuts_arg d) ≡ cuts_rule
      rule = rule_at 1 d

      named : (cuts_arg d).id.now ≡ codes "cut"
      named = ap (λ (r : Rule). r.id) rule

      own : IsAuto (cuts_arg d) → ⊥
      own = other_name (cuts_arg d).id.now (codes "cut") named refl refl

      step : (x : MatchedArg) → ((e : Entry) × (e.1 ≡ x) × (bytes_eq e.0.now (codes "cut") ≡ true) × EntryPasses p.built e)
          → All (IsUnsignedIn 0 18446744073709551615) (raw_values x)
      step x e =
          subst (λ (y : MatchedArg). All (IsUnsignedIn 0 18446744073709551615) (raw_values y)) e.1
          (All-map (IsUnsignedIn 0 18446744073709551615) (λ s. s.now) e.0.1.vals.items
          (in_bounds 1 d (omega arith) (codes "cut") named (omega arith) own e.0 e.3 e.2 0 18446744073709551615 (ap (λ (r : Rule). r.parser) rule)))

      go : (o : Option MatchedArg) → matched_of (found_of m) (codes "cut") ≡ o
          → IfSome (option_map raw_values (matched_of (found_of m) (codes "cut"))) (All (IsUnsignedIn 0 18446744073709551615))
      go None is = rw is tt
      go (Some x) is = rw is (step x (entry_by_id (EntryPasses p.built) (found_of m).entries.items (codes "cut") x parsed.values is))

  pub numbers_given : HasNumbers (rows_of (found_of m))
  numbers_given =
      let d = some_arg (args_of c) seven in
      record {
        workers = number_given 0 d (omega arith) (codes "workers") 64 (codes "4") refl (omega arith) refl refl;
        cuts = subst (λ (o : Option (List Text)). IfSome o (All (IsUnsignedIn 0 18446744073709551615))) (raw_values-rows (found_of m) (codes "cut")) (cuts_given d);
        events = number_given 5 d (omega arith) (codes "max-events") greatest.events (codes "100000") refl (omega arith) refl refl;
        bytes = number_given 6 d (omega arith) (codes "max-bytes") greatest.bytes (codes "16777216") refl (omega arith) refl refl;
      }
