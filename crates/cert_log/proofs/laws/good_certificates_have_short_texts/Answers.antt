use Rattle.cert_log.proofs.ShortTexts as lemmas
use Rattle.cert_log.proofs.laws.good_certificates_have_short_texts.Goals as goal

pub returns : goal.returns
returns c = lemmas.short_texts
