-- Words that are pushed one after another.
use Rattle.std.proofs.Common.{◌≡◌, ℕ, List, [], ◌++◌, append_assoc, append-nil, arith}
use Rattle.sia_events.specs.Text.{numeral}

chained : (o a r b q c k l : List ℕ) → (((((o ++ a ++ r ++ b) ++ [] ++ q ++ c)) ++ k) ++ l) ≡ o ++ (a ++ r ++ b ++ q ++ c ++ k ++ l)
chained o a r b q c k l = simp (append_assoc, append-nil)

-- the place of a token, and what is shown of it
pub place_pushed : (o first second third all a b c kept token l : List ℕ) (x row y column : ℕ) → x ≡ row → y ≡ column → kept ≡ token
    → first ≡ o ++ a ++ numeral x ++ b → second ≡ first ++ [] ++ numeral y ++ c → third ≡ second ++ kept → all ≡ third ++ l
    → all ≡ o ++ (a ++ numeral row ++ b ++ numeral column ++ c ++ token ++ l)
place_pushed o first second third all a b c kept token l x row y column same_row same_column same_token one two three four = grind (arith, chained)

-- a name and a start, and what stands behind them
pub start_pushed : (o p a t x m y s e : List ℕ) → ((((((o ++ (p ++ a ++ t)) ++ x) ++ m) ++ y) ++ s) ++ [] ++ e) ≡ (o ++ p) ++ (a ++ (t ++ x ++ m ++ y) ++ s ++ e)
start_pushed o p a t x m y s e = simp (append_assoc, append-nil)

pub start_alone : (o p a t x m y : List ℕ) → (((((o ++ (p ++ a ++ t)) ++ x) ++ m) ++ y) ++ []) ≡ (o ++ p) ++ (a ++ (t ++ x ++ m ++ y))
start_alone o p a t x m y = simp (append_assoc, append-nil)

-- a name, and two things with the same word before each
pub two_things : (o p n s c d q : List ℕ) → (((((o ++ p) ++ n) ++ s) ++ c) ++ (s ++ d ++ q)) ≡ o ++ (p ++ (n ++ s ++ c ++ s ++ d) ++ q)
two_things o p n s c d q = simp append_assoc

-- a name, an event, and a start behind it
pub named_event : (o p a b e s t x m y q : List ℕ) → ((((((((o ++ p) ++ a) ++ b) ++ e) ++ (s ++ t)) ++ x) ++ m) ++ y) ++ q ≡ o ++ (p ++ (a ++ b ++ e ++ s ++ (t ++ x ++ m ++ y)) ++ q)
named_event o p a b e s t x m y q = simp append_assoc

-- the words of a step, with a space between two of them
pub step_words_behind : (o a s e w t d words z m r y : List ℕ)
    → m ≡ o ++ (a ++ (s ++ (e ++ (w ++ (e ++ ((t ++ d) ++ e)))))) → r ≡ m ++ words → y ≡ r ++ z
    → y ≡ o ++ (a ++ (s ++ e ++ w ++ e ++ t ++ (d ++ e) ++ words) ++ z)
step_words_behind o a s e w t d words z m r y first second third = grind (arith, append_assoc)

-- what is told of three lists, behind what was pushed before
pub findings_pushed : (o a b k l m n r w u : List ℕ) → k ≡ o ++ a ++ b → l ≡ k ++ r → m ≡ l ++ w → n ≡ m ++ u → n ≡ o ++ a ++ b ++ r ++ w ++ u
findings_pushed o a b k l m n r w u first second third fourth = grind (arith, append_assoc)

-- all lines of an explained report
pub explained_pushed : (o a b c r w u t s d z v j k l m n p : List ℕ) → o ≡ [] → j ≡ o ++ a ++ b ++ c ++ r ++ w ++ u → k ≡ j ++ t → l ≡ k ++ s → m ≡ l ++ d → n ≡ m ++ z → p ≡ n ++ v
    → p ≡ a ++ b ++ c ++ r ++ w ++ u ++ t ++ s ++ d ++ z ++ v
explained_pushed o a b c r w u t s d z v j k l m n p none front first second third fourth fifth = grind arith
