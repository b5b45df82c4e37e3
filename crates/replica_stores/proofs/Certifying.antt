-- A checked certificate and what it shows.
use Rattle.std.proofs.Common.{◌≡◌, ℕ, List, [], ◌∷◌, map, refl, sym, ap, ◌∙◌}
use Rattle.std.specs.Ordering.{nat_cmp, ordering_then}
use Rattle.std.specs.declared.cmp.Ordering.{Ordering}
use Rattle.std.specs.declared.cmp.Ordering.TheVariants.{Less, Equal, Greater}
use Rattle.host_types.specs.Configuration.{Configuration}
use Rattle.pbft_codec.specs.declared.body.Body.TheVariants as bodies
use Rattle.pbft_model.specs.Tables.{number_key}
use Rattle.pbft_model.specs.Words.{Certificate, Prepare, Signed, as_message}
use Rattle.view_change.specs.CheckedCertificate.{CheckedCertificate}
use Rattle.view_change.specs.Log.{as_checked}
use Rattle.replica_stores.specs.Certificates.{AreCheckedCertificates, as_prepare, certificate_in}
use Rattle.replica_stores.proofs.Entries.{IsKey}

pub then_equal : (o : Ordering) → ordering_then o Equal ≡ o
then_equal Less = refl
then_equal Equal = refl
then_equal Greater = refl

pub number_keyed : IsKey nat_cmp number_key
number_keyed j k = then_equal (nat_cmp j k)

prepares_again : (ms : List (Signed Prepare)) → map as_prepare (map (as_message bodies.Prepare) ms) ≡ ms
prepares_again [] = refl
prepares_again (m ∷ ms) = ap (λ (xs : List (Signed Prepare)). m ∷ xs) (prepares_again ms)

pub certificate_again : (c : Configuration) (x : Certificate) → certificate_in (as_checked c x) ≡ x
certificate_again c x = λ i. record { pre_prepare = x.pre_prepare; prepares = prepares_again x.prepares i }

pub is_checked : (c : Configuration) (x : Certificate) (certificate : CheckedCertificate) → certificate ≡ as_checked c x → certificate ≡ as_checked c (certificate_in certificate)
is_checked c x certificate e = e ∙ ap (as_checked c) (sym (certificate_again c x)) ∙ ap (λ (y : CheckedCertificate). as_checked c (certificate_in y)) (sym e)

-- the values are what their certificates show
pub values_checked : (c : Configuration) (es : List (ℕ × CheckedCertificate)) → AreCheckedCertificates c es → map (λ (e : ℕ × CheckedCertificate). e.1) es ≡ map (as_checked c) (map (λ (e : ℕ × CheckedCertificate). certificate_in e.1) es)
values_checked c [] all = refl
values_checked c (e ∷ es) all = λ i. all.0 i ∷ values_checked c es all.1 i
