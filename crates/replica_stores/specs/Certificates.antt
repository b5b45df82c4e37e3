-- Internal: what a map of checked certificates stands for.
use Rattle.std.specs.Prelude.{◌≡◌, ℕ, List, [], map}
use Rattle.std.specs.List.{AllByRecursion}
use Rattle.std.specs.BTreeMap as tree
use Rattle.host_types.specs.Configuration.{Configuration}
use Rattle.pbft_codec.specs.declared.body.Body.{Body}
use Rattle.pbft_codec.specs.declared.body.Body.TheVariants as bodies
use Rattle.pbft_model.specs.Acts.{with_body}
use Rattle.pbft_model.specs.Tables.{Table, number_key}
use Rattle.pbft_model.specs.Words.{Certificate, PrePrepare, Prepare, Signed}
use Rattle.view_change.specs.CheckedCertificate.{CheckedCertificate}
use Rattle.view_change.specs.Log.{as_checked}
use Rattle.replica_stores.specs.Entries.{table_of}

-- A PrePrepare's body. A certificate has no message of another kind there.
abbrev pub pre_prepare_in : Body → PrePrepare
pre_prepare_in (bodies.PrePrepare b) = b
pre_prepare_in _ = record { view = record { 0 = 0 }; number = record { 0 = 0 }; digest = record { 0 = [] } }

abbrev pub prepare_in : Body → Prepare
prepare_in (bodies.Prepare b) = b
prepare_in _ = record { view = record { 0 = 0 }; number = record { 0 = 0 }; digest = record { 0 = [] } }

abbrev pub as_prepare : Signed Body → Signed Prepare
as_prepare m = with_body m (prepare_in m.body)

-- the certificate that is checked
abbrev pub certificate_in : CheckedCertificate → Certificate
certificate_in x = record {
  pre_prepare = with_body x.pre_prepare.message (pre_prepare_in x.pre_prepare.message.body);
  prepares = map as_prepare x.prepares.messages;
}

abbrev pub certificates_in : tree.BTreeMap ℕ CheckedCertificate → Table Certificate
certificates_in m = table_of number_key certificate_in m.entries

-- Each is a certificate under the configuration.
abbrev pub AreCheckedCertificates : Configuration → List (ℕ × CheckedCertificate) → Type 0
AreCheckedCertificates c es = AllByRecursion (λ e. e.1 ≡ as_checked c (certificate_in e.1)) es
