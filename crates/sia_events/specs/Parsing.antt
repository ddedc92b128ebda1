-- Reading a token from left to right: what each step gives, and what follows it. A step fails with the reason of the whole
-- token: first where the bytes have no form, and where they have one, where a number is out of its range.
use Rattle.std.specs.Prelude.{◌≡◌, ℕ, zero, suc, ◌+◌, ◌-◌, ◌*◌, ◌^◌, Bool, true, false, ◌||◌, ◌&&◌, if◌then◌else◌, List, [], ◌∷◌, length, take, drop, fold, ⊤, ◌++◌, Option, Some, None, Result, Ok, Err, nat_lt, nat_le, ◌==◌, slice_index}
use Rattle.std.specs.List.{prefix_len}
use Rattle.sia_events.specs.declared.event.Event.{Event}
use Rattle.sia_events.specs.declared.event.Event.TheVariants.{Begin, Read, Range, Write, Commit, Abort}
use Rattle.sia_events.specs.declared.token.Token.{Token}
use Rattle.sia_events.specs.declared.token.Token.TheVariants as spelled
use Rattle.sia_events.specs.declared.fault.Reason.{Reason}
use Rattle.sia_events.specs.declared.fault.Reason.TheVariants.{BadEvent, BadNumber}
use Rattle.sia_events.specs.declared.fault.Refusal.{Refusal}
use Rattle.sia_events.specs.declared.fault.Refusal.TheVariants as refusals

infixl 10 ◌>>=◌
abbrev pub ◌>>=◌ : {A B : Type 0} → Result A Reason → (A → Result B Reason) → Result B Reason
(Ok x) >>= f = f x
(Err r) >>= f = Err r

-- what a function returned, seen by view, is what reading gives, unless memory ran out
abbrev pub Fails : {Y : Type 0} → Refusal → Result Y Reason → Type 0
Fails refusals.NoMemory read = Unit {0}
Fails (refusals.Bad reason) read = read ≡ Err reason

abbrev pub Gives : {X Y : Type 0} → (X → Y) → Result X Refusal → Result Y Reason → Type 0
Gives view (Ok x) read = read ≡ Ok (view x)
Gives view (Err e) read = Fails e read

-- the event of a token beside which its listed pairs stand
abbrev pub event_with : List (ℕ × ℕ) → Token → Event
event_with listed (spelled.Begin t start) = Begin t start
event_with listed (spelled.Read t k v) = Read t k v
event_with listed (spelled.Range t lo hi) = Range t lo hi listed
event_with listed (spelled.Write t k) = Write t k
event_with listed (spelled.Commit t) = Commit t
event_with listed (spelled.Abort t) = Abort t

abbrev pub is_digit : ℕ → Bool
is_digit c = nat_le 48 c && nat_le c 57

-- the number that digits stand for
abbrev pub digits_value : List ℕ → ℕ
digits_value ds = fold (λ v c. 10 * v + (c - 48)) 0 ds

-- what is kept of a number: nothing where it takes more than 64 bits
abbrev pub narrow : ℕ → Option ℕ
narrow n = if nat_lt n (2 ^ 64) then Some n else None

-- the digits that the bytes begin with
abbrev pub digits_len : List ℕ → ℕ
digits_len bytes = prefix_len is_digit bytes

-- there are none, or they begin with a 0 too many
abbrev pub lacks_numeral : List ℕ → Bool
lacks_numeral bytes = (digits_len bytes == 0) || (nat_lt 1 (digits_len bytes) && (slice_index bytes 0 == 48))

-- the number that the bytes begin with
unfoldable pub number_at : List ℕ → Result (Option ℕ × List ℕ) Reason
number_at bytes = if lacks_numeral bytes then Err BadEvent else Ok (narrow (digits_value (take (digits_len bytes) bytes)), drop (digits_len bytes) bytes)

unfoldable pub after_byte : ℕ → List ℕ → Result (List ℕ) Reason
after_byte byte [] = Err BadEvent
after_byte byte (c ∷ rest) = if c == byte then Ok rest else Err BadEvent

-- nothing follows
unfoldable pub ended : List ℕ → Result ⊤ Reason
ended [] = Ok tt
ended (c ∷ rest) = Err BadEvent

unfoldable pub key_of : Option ℕ → Result ℕ Reason
key_of None = Err BadNumber
key_of (Some k) = Ok k

unfoldable pub version_of : Option ℕ → Result ℕ Reason
version_of None = Err BadNumber
version_of (Some v) = if nat_lt v (2 ^ 32) then Ok v else Err BadNumber

unfoldable pub txn_of : Option ℕ → Result ℕ Reason
txn_of number = do
  t ← version_of number
  if t == 0 then Err BadNumber else Ok t

unfoldable pub begin_at : Option ℕ → List ℕ → Result Event Reason
begin_at txn [] = do
  t ← txn_of txn
  Ok (Begin t None)
begin_at txn (c ∷ bytes) = do
  rest ← after_byte 64 (c ∷ bytes)
  start ← number_at rest
  end ← ended start.1
  t ← txn_of txn
  n ← version_of start.0
  Ok (Begin t (Some n))

unfoldable pub write_at : Option ℕ → List ℕ → Result Event Reason
write_at txn bytes = do
  rest ← after_byte 91 bytes
  key ← number_at rest
  rest ← after_byte 93 key.1
  end ← ended rest
  t ← txn_of txn
  k ← key_of key.0
  Ok (Write t k)

unfoldable pub item_at : Option ℕ → Option ℕ → List ℕ → Result Event Reason
item_at txn key bytes = do
  saw ← number_at bytes
  rest ← after_byte 93 saw.1
  end ← ended rest
  t ← txn_of txn
  k ← key_of key
  v ← version_of saw.0
  Ok (Read t k v)

abbrev pub pair_from : Option ℕ → Option ℕ → Option (ℕ × ℕ)
pair_from None saw = None
pair_from (Some k) None = None
pair_from (Some k) (Some v) = if nat_lt v (2 ^ 32) then Some (k, v) else None

unfoldable pub pair_at : List ℕ → Result (Option (ℕ × ℕ) × List ℕ) Reason
pair_at bytes = do
  key ← number_at bytes
  rest ← after_byte 58 key.1
  saw ← number_at rest
  Ok (pair_from key.0 saw.0, saw.1)

-- before other bytes than digits, these bytes are read as a pair
abbrev pub SpellsPair : List ℕ → ℕ → ℕ → Type 0
SpellsPair bytes key saw = (more : List ℕ) → digits_len more ≡ 0 → pair_at (bytes ++ more) ≡ Ok (Some (key, saw), more)

-- lists end to end, where there are both
abbrev pub joined : Option (List (ℕ × ℕ)) → Option (List (ℕ × ℕ)) → Option (List (ℕ × ℕ))
joined None others = None
joined (Some ps) None = None
joined (Some ps) (Some qs) = Some (ps ++ qs)

-- the pairs so far, unless one had a number out of range
abbrev pub kept : Bool → List (ℕ × ℕ) → Option (List (ℕ × ℕ))
kept true pairs = Some pairs
kept false pairs = None

abbrev pub one_pair : Option (ℕ × ℕ) → Option (List (ℕ × ℕ))
one_pair None = None
one_pair (Some p) = Some (p ∷ [])

abbrev pub begins_with : ℕ → List ℕ → Bool
begins_with byte [] = false
begins_with byte (c ∷ rest) = c == byte

-- at most so many pairs with commas between, or nothing where one has a number out of range
unfoldable pub pairs_within : ℕ → List ℕ → Result (Option (List (ℕ × ℕ)) × List ℕ) Reason
pairs_within zero bytes = Err BadEvent
pairs_within (suc more) bytes = do
  pair ← pair_at bytes
  if begins_with 44 pair.1 then (pairs_within more (drop 1 pair.1) >>= λ others. Ok (joined (one_pair pair.0) others.0, others.1)) else Ok (one_pair pair.0, pair.1)

unfoldable pub pairs_at : List ℕ → Result (Option (List (ℕ × ℕ)) × List ℕ) Reason
pairs_at bytes = pairs_within (length bytes + 1) bytes

unfoldable pub list_at : List ℕ → Result (Option (List (ℕ × ℕ)) × List ℕ) Reason
list_at bytes = if begins_with 59 bytes then pairs_at (drop 1 bytes) else Ok (Some [], bytes)

unfoldable pub list_of : Option (List (ℕ × ℕ)) → Result (List (ℕ × ℕ)) Reason
list_of None = Err BadNumber
list_of (Some ps) = Ok ps

unfoldable pub range_at : Option ℕ → Option ℕ → List ℕ → Result Event Reason
range_at txn low bytes = do
  high ← number_at bytes
  listed ← list_at high.1
  rest ← after_byte 93 listed.1
  end ← ended rest
  t ← txn_of txn
  lo ← key_of low
  hi ← key_of high.0
  ps ← list_of listed.0
  Ok (Range t lo hi ps)

unfoldable pub read_at : Option ℕ → List ℕ → Result Event Reason
read_at txn bytes = do
  rest ← after_byte 91 bytes
  first ← number_at rest
  if begins_with 58 first.1 then item_at txn first.0 (drop 1 first.1) else (do
    rest ← after_byte 46 first.1
    rest ← after_byte 46 rest
    range_at txn first.0 rest)

unfoldable pub commit_at : Option ℕ → List ℕ → Result Event Reason
commit_at txn bytes = do
  end ← ended bytes
  t ← txn_of txn
  Ok (Commit t)

unfoldable pub abort_at : Option ℕ → List ℕ → Result Event Reason
abort_at txn bytes = do
  end ← ended bytes
  t ← txn_of txn
  Ok (Abort t)

-- the event that all of a token spells
unfoldable pub event_at : List ℕ → Result Event Reason
event_at [] = Err BadEvent
event_at (letter ∷ bytes) = do
  txn ← number_at bytes
  if letter == 98 then begin_at txn.0 txn.1
      else if letter == 114 then read_at txn.0 txn.1
      else if letter == 119 then write_at txn.0 txn.1
      else if letter == 99 then commit_at txn.0 txn.1
      else if letter == 97 then abort_at txn.0 txn.1
      else Err BadEvent
