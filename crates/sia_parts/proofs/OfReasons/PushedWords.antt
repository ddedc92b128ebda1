-- Words that are pushed one after another.
use Rattle.std.proofs.Common.{◌≡◌, ℕ, List, [], ◌++◌, ap, ◌∙◌, append_assoc, append-nil}

-- a number between words, and another number before words
pub two_numbers : (o a t b s c m n : List ℕ) → m ≡ o ++ a ++ t ++ b → n ≡ m ++ [] ++ s ++ c → n ≡ o ++ a ++ t ++ b ++ s ++ c
two_numbers o a t b s c m n first second = second ∙ ap (λ (x : List ℕ). x ++ [] ++ s ++ c) first ∙ simp (append_assoc, append-nil)

-- what comes next stands behind what came before
pub behind : (o m n a b : List ℕ) → m ≡ o ++ a → n ≡ m ++ b → n ≡ o ++ (a ++ b)
behind o m n a b first second = second ∙ ap (λ (x : List ℕ). x ++ b) first ∙ append_assoc o a b

-- words behind a number between words
pub number_and_words : (o a t b s m n : List ℕ) → m ≡ o ++ a ++ t ++ b → n ≡ m ++ s → n ≡ o ++ (a ++ t ++ b ++ s)
number_and_words o a t b s m n first second = second ∙ ap (λ (x : List ℕ). x ++ s) first ∙ simp append_assoc

-- words between words, and more words behind what came before
pub and_more : (o a t b s m n : List ℕ) → m ≡ o ++ a ++ t → n ≡ m ++ b ++ s → n ≡ o ++ a ++ (t ++ b ++ s)
and_more o a t b s m n first second = second ∙ ap (λ (x : List ℕ). x ++ b ++ s) first ∙ simp append_assoc

pub three_words : (o l m n a b c : List ℕ) → l ≡ o ++ a → m ≡ l ++ b → n ≡ m ++ c → n ≡ o ++ (a ++ b ++ c)
three_words o l m n a b c first second third = behind o m n (a ++ b) c (behind o l m a b first second) third
