-- What an explained report says below the line of a refused text (docs/FORMAT.md).
use Rattle.std.specs.Prelude.{◌≡◌, ℕ, List, [], ◌++◌, codes}
use Rattle.sia_events.specs.declared.fault.TextFault.{TextFault}
use Rattle.sia_events.specs.declared.fault.TextFault.TheVariants.{NoMemory, TextTooLong, Refused}
use Rattle.sia_events.specs.Locations.{IsTokenAt, shown}
use Rattle.sia_events.specs.Text.{numeral}

-- where the refused token stands, and what it is
abbrev pub place_line : ℕ → ℕ → List ℕ → List ℕ
place_line row column token = codes "  line " ++ numeral row ++ codes ", column " ++ numeral column ++ codes ": " ++ shown token ++ codes "\n"

-- what stands below the refusal line: where the token is, if there is one to blame
abbrev pub TellsToken : List ℕ → TextFault → List ℕ → Type 0
TellsToken text NoMemory bytes = bytes ≡ []
TellsToken text TextTooLong bytes = bytes ≡ []
TellsToken text (Refused n why) bytes = (row : ℕ) × (column : ℕ) × (token : List ℕ) × IsTokenAt text n row column token
    × (bytes ≡ place_line row column token)
