-- Internal: what a body reports: a ViewChange its low mark and certificates, another body nothing.
use Rattle.std.specs.Prelude.{ℕ, List, []}
use Rattle.pbft_codec.specs.Bodies.{Contents, Nothing, InViewChange, InNewView, contents_of}
use Rattle.quorum_log.specs.Words.{Body, Certificate}

abbrev pub low_in : Contents → ℕ
low_in Nothing = 0
low_in (InViewChange v) = v.low.0
low_in (InNewView n) = 0

abbrev pub reported_low : Body → ℕ
reported_low b = low_in (contents_of b)

abbrev pub certificates_in : Contents → List Certificate
certificates_in Nothing = []
certificates_in (InViewChange v) = v.certificates
certificates_in (InNewView n) = []

abbrev pub reported_certificates : Body → List Certificate
reported_certificates b = certificates_in (contents_of b)
