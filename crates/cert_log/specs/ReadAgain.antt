-- A text has one reading, and what is written is read again.
use Rattle.std.specs.Prelude.{◌≡◌, ◌≢◌, ℕ, ◌<◌, ◌^◌, List, length, Result, Ok, Err}
use Rattle.cert_log.specs.declared.certificate.Certificate.{Certificate}
use Rattle.cert_log.specs.declared.bad_cert.BadCert.{BadCert}
use Rattle.cert_log.specs.declared.bad_cert.BadCert.TheVariants as bad
use Rattle.cert_log.specs.Readings.{IsTextOf, SaySame}
use Rattle.cert_log.specs.Outcomes.{IsReading, IsWhole}

-- a text that stands for a certificate is refused for want of memory alone
abbrev pub OneReading : Type 0
OneReading = (text : List ℕ) (c : Certificate) (b : BadCert) → length text < 2 ^ 63 → IsWhole text c → IsReading text (Err b) → b ≡ bad.Memory

-- a text has one first refusal at the most, beside want of memory
abbrev pub OneRefusal : Type 0
OneRefusal = (text : List ℕ) (a b : BadCert) → length text < 2 ^ 63 → a ≢ bad.Memory → b ≢ bad.Memory → IsReading text (Err a) → IsReading text (Err b) → a ≡ b

-- the text of a certificate whose nodes are one whole tree stands for it
abbrev pub WrittenIsRead : Type 0
WrittenIsRead = (text : List ℕ) (c : Certificate) → IsTextOf text c → IsWhole text c

-- a text stands for one certificate
abbrev pub OneCertificate : Type 0
OneCertificate = (text : List ℕ) (c d : Certificate) → length text < 2 ^ 63 → IsWhole text c → IsWhole text d → SaySame c d

-- the same certificate was read, or memory ran out
abbrev pub IsReadAgain : Certificate → Result Certificate BadCert → Type 0
IsReadAgain c (Ok d) = SaySame c d
IsReadAgain c (Err b) = b ≡ bad.Memory

-- what is written of a certificate is read again as the same certificate
abbrev pub RoundTrip : Type 0
RoundTrip = (text : List ℕ) (c : Certificate) (r : Result Certificate BadCert) → IsTextOf text c → IsReading text r → IsReadAgain c r

-- a text that stands for a certificate is that certificate's, whose nodes are one whole tree
abbrev pub ReadIsText : Type 0
ReadIsText = (text : List ℕ) (c : Certificate) → length text < 2 ^ 63 → IsWhole text c → IsTextOf text c
