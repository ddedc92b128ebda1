use Rattle.std.proofs.Common.{◌≤◌, arith, codes}
use Rattle.clap.specs.Words.{first_of, found_of, rows_of}
use Rattle.sia_events.specs.Limits.{greatest}
use Rattle.si_audit.proofs.OptionWords.NumberedOptions.{bounds, within_any}
use Rattle.si_audit.proofs.words.options_of.Goals as goal

pub number_of-workers-requires : goal.number_of-workers-requires
number_of-workers-requires c = within_any 64 (first_of (codes "workers") (rows_of (found_of c.args.matches.now))) (omega arith) c.requires.workers

few : (c : goal.After-number_of-workers) → (1 ≤ c.number_of-workers.result) × (c.number_of-workers.result ≤ 64)
few c = rw c.number_of-workers.ensures (bounds 64 (first_of (codes "workers") (rows_of (found_of c.args.matches.now))) c.requires.workers)

pub overflow_cast-workers : goal.overflow_cast-workers
overflow_cast-workers c = let b = few c in omega (arith, b.1)

pub number_of-events-requires : goal.number_of-events-requires
number_of-events-requires c = within_any greatest.events (first_of (codes "max-events") (rows_of (found_of c.args.matches.now))) (omega arith) c.requires.events

pub number_of-bytes-requires : goal.number_of-bytes-requires
number_of-bytes-requires c = within_any greatest.bytes (first_of (codes "max-bytes") (rows_of (found_of c.args.matches.now))) (omega arith) c.requires.bytes
