use Rattle.cert_log.proofs.RoundTrip as lemmas
use Rattle.cert_log.proofs.laws.round_trip.Goals as goal

pub returns : goal.returns
returns c = lemmas.round_trip
