-- The refusals of worked texts: of a version that no one wrote, of a start that is not there yet, and of a second begin.
use Rattle.std.proofs.Common.{ℕ, suc, ◌≤◌, List, [], ◌∷◌, length, codes, None, refl, arith}
use Rattle.sia_events.specs.declared.event.Event.{Event}
use Rattle.sia_events.specs.declared.event.Event.TheVariants.{Begin}
use Rattle.sia_events.specs.declared.fault.Reason.{Reason}
use Rattle.sia_events.specs.declared.fault.Reason.TheVariants.{AlreadyBegun, NotWritten, BadStart}
use Rattle.sia_events.specs.declared.fault.TextFault.TheVariants.{Refused}
use Rattle.sia_events.specs.Limits.{standard}
use Rattle.sia_events.specs.Text.{tokens}
use Rattle.sia_events.specs.Refusals.{IsRefusal}
use Rattle.sia_events.specs.Parsing.{number_at, after_byte, ended, key_of, version_of, txn_of, begin_at, item_at, read_at, event_at}
use Rattle.sia_events.specs.Known.{is_explained, read_fault, own_fault, fault_of}
use Rattle.sia_events.specs.Judging.{judged, JudgedAll, StopsAt}
use Rattle.sia_events.proofs.Shared.Clean.{clean_none}
use Rattle.sia_events.proofs.Shared.FirstFaults.{stops_first}

-- a text whose tokens are judged up to one that has the reason
refused_so : (text : List ℕ) (events : List Event) (r : Reason) → length text ≤ standard.bytes → StopsAt standard [] (tokens text) events r → IsRefusal standard text (Refused (suc (length events)) r)
refused_so text events r short stops = (short, stops_first standard [] (tokens text) events r (clean_none standard) stops)

-- a version of 2 is read that 2 writes later
version_not_written : IsRefusal standard (codes "r1[5:2] w2[5]") (Refused 1 NotWritten)
unfolding number_at after_byte ended key_of version_of txn_of item_at read_at event_at is_explained read_fault own_fault fault_of judged JudgedAll
version_not_written = refused_so (codes "r1[5:2] w2[5]") [] NotWritten (omega arith) (record { before = []; token = codes "r1[5:2]"; after = codes "w2[5]" ∷ []; whole = refl; fine = refl; refused = refl })

-- a start is named that comes after the begin
start_not_there : IsRefusal standard (codes "b1@1") (Refused 1 BadStart)
unfolding number_at after_byte ended version_of txn_of begin_at event_at own_fault fault_of judged JudgedAll
start_not_there = refused_so (codes "b1@1") [] BadStart (omega arith) (record { before = []; token = codes "b1@1"; after = []; whole = refl; fine = refl; refused = refl })

-- a transaction begins twice: that the second start is not there is told after that
begun_twice : IsRefusal standard (codes "b1 b1@9") (Refused 2 AlreadyBegun)
unfolding number_at after_byte ended version_of txn_of begin_at event_at own_fault fault_of judged JudgedAll
begun_twice = refused_so (codes "b1 b1@9") (Begin 1 None ∷ []) AlreadyBegun (omega arith) (record { before = codes "b1" ∷ []; token = codes "b1@9"; after = []; whole = refl; fine = (_, refl, refl); refused = refl })
