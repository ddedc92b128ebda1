-- Words at which a command without subcommands finds no fault are taken.
use Rattle.std.proofs.Common.{◌≡◌, ◌&&◌, ℕ, Bool, true, false, not, zero, suc, refl, arith, List, [], ◌∷◌, Option, Some, None, is_some, nat_le, if◌then◌else◌, slice_get}
use Rattle.std.specs.List.{list_all}
use Rattle.std.specs.Str.{chars}
use Rattle.std.proofs.lemmas.Bool.{and_from, eqb-true, le-leb, ltb-false}
use Rattle.clap.specs.ValueTests.{accepts}
use Rattle.clap.specs.Walk.{Held, Names, Row, Rule, Step, Text, Waiting, Walk, attached_value, reacted, takes_values, walked}
use Rattle.clap.specs.Simple.{App, Shape, built, is_simple}
use Rattle.clap.specs.Kinds.{Kinds, or_else, range_kinds, value_kinds, values_kinds}
use Rattle.clap.specs.Faults.{action_fault, bundle_step_fault, fault_of, flag_word_fault, flags_fault, level_fault, long_fault, option_fault, other_fault, positional_fault, react_fault, settle_fault, short_fault, step_fault, stray_fault, turn_fault, use_fault, walk_fault, word_fault}
use Rattle.clap.specs.Takes.{action_passes, bundle_step_passes, default_passes, flag_word_passes, flags_pass, is_valid, level_passes, long_passes, option_passes, other_passes, positional_passes, react_passes, settle_passes, short_passes, step_passes, takes, turn_passes, use_passes, walk_passes, word_passes}
use Rattle.clap.specs.declared.builder.action.ArgAction.{ArgAction}
use Rattle.clap.specs.declared.builder.action.ArgAction.TheVariants as action
use Rattle.clap.specs.declared.builder.value_parser.ValueParser.{ValueParser}
use Rattle.clap.specs.declared.error.kind.ErrorKind.{ErrorKind}
use Rattle.clap.specs.declared.error.kind.ErrorKind.TheVariants as kind
use Rattle.clap.proofs.TakesLemmas.{leaf_takes}
use Rattle.clap.proofs.FaultLemmas.{leaf_fault}
use Rattle.si_audit.specs.Words.{program}

-- ---- kinds and tests

-- ---- steps, if what has no kind passes

both_taken : (a b : Kinds) (p q : Bool) → (a ≡ [] → p ≡ true) → (b ≡ [] → q ≡ true) → or_else a b ≡ [] → (p && q) ≡ true
both_taken a b p q first second e = grind arith

if_taken : (b : Bool) (x y : Kinds) (p q : Bool) → (x ≡ [] → p ≡ true) → (y ≡ [] → q ≡ true) → (if b then x else y) ≡ [] → (if b then p else q) ≡ true
if_taken b x y p q one other e = grind arith

unless_taken : (b : Bool) (k : ErrorKind) (y : Kinds) (q : Bool) → (y ≡ [] → q ≡ true) → (if b then k ∷ [] else y) ≡ [] → (not b && q) ≡ true
unless_taken b k y q other e = grind arith

-- ---- values

value_taken : (i : Bool) (p : ValueParser) (t : Text) → value_kinds i p t ≡ [] → accepts i p t ≡ true
value_taken i p t e = grind arith

values_taken : (i : Bool) (p : ValueParser) (ts : List Text) → values_kinds i p ts ≡ [] → list_all (accepts i p) ts ≡ true
values_taken i p [] e = refl
values_taken i p (t ∷ ts) e = both_taken (value_kinds i p t) (values_kinds i p ts) _ _ (value_taken i p t) (values_taken i p ts) e

range_taken : (least most n : ℕ) → range_kinds least most n ≡ [] → (nat_le least n ≡ true) × (nat_le n most ≡ true)
range_taken least most n e = grind (arith, eqb-true, le-leb, ltb-false)

-- ---- one use of an argument

action_taken : (x : ArgAction) (again : Bool) (a : Rule) (values : List Text) (rows : List Row) → action_fault x again a values rows ≡ [] → action_passes x again a values rows ≡ true
action_taken x again a values rows e = grind (arith, values_taken, value_taken)

use_taken : (again : Bool) (a : Rule) (values : List Text) (rows : List Row) → use_fault again a values rows ≡ [] → use_passes again a values rows ≡ true
use_taken again a values rows e = grind (arith, range_taken, and_from, action_taken)

module _ (c : List Rule) (again : Bool) where
  settle_taken : (h : Held) → settle_fault c again h ≡ [] → settle_passes c again h ≡ true
  settle_taken h e = grind (arith, use_taken)

  react_taken : (a : Rule) (values : List Text) (h : Held) → react_fault c again a values h ≡ [] → react_passes c again a values h ≡ true
  react_taken a values h e = grind (arith, settle_taken, use_taken)

  option_taken : (a : Rule) (v : Option Text) (h : Held) → option_fault c again a v h ≡ [] → option_passes c again a v h ≡ true
  option_taken a None h e = settle_taken h e
  option_taken a (Some v) h e = react_taken a (v ∷ []) h e

  long_taken : (found : Option Rule) (v : Option Text) (h : Held) → long_fault c again found v h ≡ [] → long_passes c again found v h ≡ true
  long_taken None v h e = cc
  long_taken (Some a) v h e =
      if_taken (takes_values a) (option_fault c again a v h) _ (option_passes c again a v h) _ (option_taken a v h)
      (unless_taken (is_some v) kind.TooManyValues (react_fault c again a [] h) (react_passes c again a [] h) (react_taken a [] h)) e

  short_taken : (found : Option Rule) (rest : Text) (h : Held) (kinds : Held → Kinds) (passes : Held → Bool)
      → ((g : Held) → kinds g ≡ [] → passes g ≡ true) → short_fault c again found rest h kinds ≡ [] → short_passes c again found rest h passes ≡ true
  short_taken None rest h kinds passes after e = cc
  short_taken (Some a) rest h kinds passes after e =
      if_taken (takes_values a) (option_fault c again a (attached_value rest) h) _ (option_passes c again a (attached_value rest) h) _ (option_taken a (attached_value rest) h)
      (both_taken (react_fault c again a [] h) (kinds (reacted c a [] h)) (react_passes c again a [] h) (passes (reacted c a [] h)) (react_taken a [] h) (after (reacted c a [] h))) e

  bundle_step_taken : (x : Option ℕ) (flags : Text) (skip : ℕ) (h : Held) (kinds : Text → ℕ → Held → Kinds) (passes : Text → ℕ → Held → Bool)
      → ((f : Text) (s : ℕ) (g : Held) → kinds f s g ≡ [] → passes f s g ≡ true)
      → bundle_step_fault c again x flags skip h kinds ≡ [] → bundle_step_passes c again x flags skip h passes ≡ true
  bundle_step_taken x flags skip h kinds passes after e = grind (arith, short_taken)

  flags_taken : (k : ℕ) (flags : Text) (skip : ℕ) (h : Held) → flags_fault c again k flags skip h ≡ [] → flags_pass c again k flags skip h ≡ true
  unfolding flags_fault flags_pass
  flags_taken zero flags skip h e = refl
  flags_taken (suc k) flags skip h e =
      bundle_step_taken (slice_get (chars flags) 0) flags skip h (flags_fault c again k) (flags_pass c again k) (flags_taken k) e

  flag_word_taken : (o : Option (Text × Option Text)) (word : Text) (h : Held) → flag_word_fault c again o word h ≡ [] → flag_word_passes c again o word h ≡ true
  flag_word_taken o word h e = grind (arith, long_taken, flags_taken)

  positional_taken : (a : Rule) (h : Held) → positional_fault c again a h ≡ [] → positional_passes c again a h ≡ true
  positional_taken a h e = grind (arith, settle_taken)

-- ---- the walk

stray_refused : (s : Shape) → stray_fault s ≡ [] → ⊥
stray_refused s e = grind arith

module _ (s : Shape) where
  other_taken : (o : Option Text) (word : Text) (h : Held) → other_fault s o word h ≡ [] → other_passes s o word h ≡ true
  other_taken o word h e = grind (arith, flag_word_taken)

  step_taken : (position : ℕ) (h : Held) (x : Step) → step_fault s position h x ≡ [] → step_passes s position h x ≡ true
  step_taken position h x e = grind (arith, positional_taken, stray_refused)

  word_taken : (names : Names) (is_trailing : Bool) (waiting : Waiting) (word : Text) (h : Held)
      → word_fault s names is_trailing waiting word h ≡ [] → word_passes s names is_trailing waiting word h ≡ true
  word_taken names is_trailing waiting word h e = grind (arith, other_taken)

  turn_taken : (names : Names) (w : Walk) (word : Text) → turn_fault s names w word ≡ [] → turn_passes s names w word ≡ true
  turn_taken names w word e = grind (arith, word_taken, step_taken)

  walk_taken : (names : Names) (w : Walk) (words : List Text) → walk_fault s names w words ≡ [] → walk_passes s names w words ≡ true
  unfolding walk_fault walk_passes
  walk_taken names w [] e = refl
  walk_taken names w (word ∷ rest) e = grind (arith, both_taken, turn_taken, walk_taken names (walked s.rules names w word) rest)

  -- where each default passes and nothing more is asked of the matches
  level_taken : (h : Held) (words : List Text) → list_all default_passes s.rules ≡ true → ((rows : List Row) → is_valid s rows false ≡ true)
      → level_fault s [] h words false [] ≡ [] → level_passes s [] h words false ≡ true
  level_taken h words defaults valid e = grind (arith, and_from, walk_taken, settle_taken)

-- a simple command without subcommands takes the words at which it finds no fault
pub no_fault_taken : (a : App) (words : List Text) → is_simple a ≡ true → (built a).subs ≡ [] → list_all default_passes (built a).top.rules ≡ true
    → ((rows : List Row) → is_valid (built a).top rows false ≡ true) → fault_of a words ≡ [] → takes a words ≡ true
no_fault_taken a words simple none defaults valid e = grind (arith, leaf_fault, and_from, leaf_takes, level_taken)

-- the program's command is such a one
pub program_takes : (words : List Text) → fault_of program words ≡ [] → takes program words ≡ true
program_takes words e = no_fault_taken program words refl refl refl (λ rows. refl) e
