use Rattle.sia_events.proofs.OfLaws.OneRefusal.{one_refusal}
use Rattle.sia_events.proofs.OfLaws.Histories.{greater_accept, has_history, one_history}
use Rattle.sia_events.proofs.OfLaws.Shortest.{canonical_law}
use Rattle.sia_events.proofs.OfLaws.RoundTrips.{round_trip}
use Rattle.sia_events.proofs.OfLaws.Unwritten.{unwritten_has_none}
use Rattle.sia_events.proofs.OfLaws.NamedStarts.{named_starts_only_add}
use Rattle.sia_events.proofs.OfLaws.NarrowEdges.{narrow_edges_suffice}
use Rattle.sia_events.proofs.OfLaws.Anomalies.{anomaly_law}
use Rattle.sia_events.proofs.laws.laws_hold.Goals as goal

pub returns-clause-one_refusal : goal.returns-clause-one_refusal
returns-clause-one_refusal c = one_refusal

pub returns-clause-one_history : goal.returns-clause-one_history
returns-clause-one_history c = one_history

pub returns-clause-accepted_text_has_a_history : goal.returns-clause-accepted_text_has_a_history
returns-clause-accepted_text_has_a_history c = has_history

pub returns-clause-greater_limits_accept : goal.returns-clause-greater_limits_accept
returns-clause-greater_limits_accept c = greater_accept

pub returns-clause-canonical_law : goal.returns-clause-canonical_law
returns-clause-canonical_law c = canonical_law

pub returns-clause-round_trip : goal.returns-clause-round_trip
returns-clause-round_trip c = round_trip

pub returns-clause-unwritten_law : goal.returns-clause-unwritten_law
returns-clause-unwritten_law c = unwritten_has_none

pub returns-clause-named_starts_only_add : goal.returns-clause-named_starts_only_add
returns-clause-named_starts_only_add c = named_starts_only_add

pub returns-clause-narrow_law : goal.returns-clause-narrow_law
returns-clause-narrow_law c = narrow_edges_suffice

pub returns-clause-anomaly_law : goal.returns-clause-anomaly_law
returns-clause-anomaly_law c = anomaly_law
