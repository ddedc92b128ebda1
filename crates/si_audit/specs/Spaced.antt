-- Words of a line after its first word.
use Rattle.std.specs.Prelude.{ℕ, List, [], ◌∷◌, ◌++◌, codes, flat_map, map}
use Rattle.sia_events.specs.Text.{numeral}
use Rattle.si_audit.specs.declared.report.Words.{Words}
use Rattle.si_audit.specs.declared.report.Words.TheVariants.{Text, Number, Token, Edge, Numbers, Firsts}
use Rattle.si_audit.specs.Lines.{edge_word, first_words}

-- a space before each of these words
abbrev pub spaced : List (List ℕ) → List ℕ
spaced words = flat_map (λ word. 32 ∷ word) words

-- the words, one by one
abbrev pub words_of : Words → List (List ℕ)
words_of (Text text) = text.now ∷ []
words_of (Number n) = numeral n ∷ []
words_of (Token n) = (numeral n ++ codes ":") ∷ []
words_of (Edge kind key) = edge_word kind key ∷ []
words_of (Numbers numbers) = map numeral numbers.now
words_of (Firsts firsts) = first_words firsts.now
