-- A worked history that is well-formed: what is said of well-formed histories is said of some.
use Rattle.std.proofs.Common.{◌≡◌, ℕ, List, [], ◌∷◌, codes, Some, refl, arith}
use Rattle.sia_events.specs.declared.event.Event.{Event}
use Rattle.sia_events.specs.declared.event.Event.TheVariants.{Begin, Range, Write, Commit}
use Rattle.sia_events.specs.Limits.{greatest}
use Rattle.sia_events.specs.Text.{numeral, tokens, canonical}
use Rattle.sia_events.specs.Refusals.{IsWellFormed}
use Rattle.sia_events.specs.Parsing.{number_at, after_byte, ended, key_of, version_of, txn_of, begin_at, write_at, pair_at, pairs_within, pairs_at, list_at, list_of, range_at, read_at, commit_at, event_at}
use Rattle.sia_events.specs.Known.{is_explained, range_fault, own_fault, fault_of}
use Rattle.sia_events.specs.Judging.{judged, JudgedAll}
use Rattle.sia_events.proofs.Shared.Clean.{read_as}

-- a write, a named start, and a range read that lists two keys
abbrev pub range_of_old_versions : List Event
range_of_old_versions = Write 1 3 ∷ Commit 1 ∷ Begin 2 (Some 0) ∷ Range 2 1 5 ((3, 0) ∷ (4, 0) ∷ []) ∷ Commit 2 ∷ []

abbrev its_bytes : List ℕ
its_bytes = codes "w1[3] c1 b2@0 r2[1..5;3:0,4:0] c2"

its_text : canonical range_of_old_versions ≡ its_bytes
unfolding numeral
its_text = refl

-- each of its tokens is judged to its event
judged_so : JudgedAll greatest [] (tokens its_bytes) range_of_old_versions
unfolding number_at after_byte ended key_of version_of txn_of begin_at write_at pair_at pairs_within pairs_at list_at list_of range_at read_at commit_at event_at is_explained range_fault own_fault fault_of judged JudgedAll
judged_so = (_, refl, (_, refl, (_, refl, (_, refl, (_, refl, refl)))))

pub it_is_well_formed : IsWellFormed range_of_old_versions
it_is_well_formed = (read_as greatest its_bytes range_of_old_versions (record { events = omega arith; bytes = omega arith }) (omega arith) judged_so).well_formed
