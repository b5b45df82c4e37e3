-- A log's certificate is one for its PrePrepare.
use Rattle.std.proofs.Common.{◌≡◌, ℕ, zero, suc, ◌+◌, ◌*◌, ◌≤◌, ◌==◌, Bool, true, false, ◌&&◌, not, cond, List, [], ◌∷◌, length, map, Option, Some, None, refl, sym, ap, subst, ◌∙◌, arith, inl, inr}
use Rattle.std.specs.Prelude.{is_some, nat_le}
use Rattle.std.specs.List.{AllByRecursion, cons_option, filter_map}
use Rattle.std.specs.Option.{option_map}
use Rattle.std.proofs.lemmas.Bool.{and_parts, eqb-true, false≢true, leb-true}
use Rattle.std.proofs.lemmas.List.{length-map}
use Rattle.std.proofs.lemmas.Option.{same_Some}
use Rattle.host_types.specs.Configuration.{Configuration}
use Rattle.pbft_codec.specs.declared.body.Body.TheVariants as bodies
use Rattle.pbft_codec.specs.Limits.{AscendFrom}
use Rattle.quorum_log.proofs.Found.{from_gathered, passed}
use Rattle.quorum_log.proofs.Gathering.{count_least, length_gathered}
use Rattle.quorum_log.proofs.Stages.{by_is, fields_are, voted_is}
use Rattle.quorum_log.specs.Certificates.{is_by, of_pre_prepare, of_prepare, same_fields, voted}
use Rattle.quorum_log.specs.Core.{has_position}
use Rattle.quorum_log.specs.Histories.{IsIn}
use Rattle.quorum_log.specs.Setup.{count, is_least, numbers_from, primary, replicas}
use Rattle.quorum_log.specs.Tables.{at, vote_key}
use Rattle.quorum_log.specs.Words.{PrePrepare, Prepare, Signed}
use Rattle.quorum_log.specs.Log.{Log, as_checked, backing, certificate_in, certified_at, checked_certificate, is_certified_in, proposal_in}
use Rattle.quorum_log.specs.declared.certificate.CheckedCertificate.{CheckedCertificate}
use Rattle.seal.specs.Parts.{as_message}
use Rattle.view_change.specs.Made.{IsCertificateAt, IsCertificateFor, IsPrepareFor}

-- ---- what is gathered of signers ascends

lower : {B : Type 0} (a b : ℕ) (ms : List (Signed B)) → a ≤ b → AscendFrom b ms → AscendFrom a ms
lower a b [] le h = tt
lower a b (m ∷ ms) le h = let first = h.0 in (omega arith, h.1)

pub filtered_ascends : {B : Type 0} (g : ℕ → Option (Signed B)) (many first : ℕ) → ((i : ℕ) (m : Signed B) → g i ≡ Some m → m.id ≡ i) → AscendFrom first (filter_map g (numbers_from first many))
filtered_ascends g zero first h = tt
filtered_ascends {B} g (suc many) first h = cases (g first) refl (filtered_ascends g many (first + 1) h) where
  cases : (o : Option (Signed B)) → g first ≡ o → AscendFrom (first + 1) (filter_map g (numbers_from (first + 1) many)) → AscendFrom first (cons_option o (filter_map g (numbers_from (first + 1) many)))
  cases None e rest = lower first (first + 1) (filter_map g (numbers_from (first + 1) many)) (omega arith) rest
  cases (Some m) e rest = let id = h first m e in (omega arith, subst (λ (n : ℕ). AscendFrom (n + 1) (filter_map g (numbers_from (first + 1) many))) (sym id) rest)

pub taken_if : {X : Type 0} (b : Bool) (o : Option X) (x : X) → cond b o None ≡ Some x → (b ≡ true) × (o ≡ Some x)
taken_if true o x e = (refl, e)
taken_if false o x e = absurd cc

pub as_ascend : {B : Type 0} (kind : B → _) (low : ℕ) (ms : List (Signed B)) → AscendFrom low ms → AscendFrom low (map (as_message kind) ms)
as_ascend kind low [] h = tt
as_ascend kind low (m ∷ ms) h = (h.0, as_ascend kind (m.id + 1) ms h.1)

-- ---- the Prepares

module _ (c : Configuration) (l : Log) (p : PrePrepare) where
  abbrev IsMine : ℕ → Signed Prepare → Type 0
  IsMine i q = (q.id ≡ i) × (of_prepare q.body ≡ of_pre_prepare p)

  abbrev test : ℕ → Bool
  test = is_least (2 * c.f) (λ i. not (i == primary c (of_pre_prepare p).view) && voted of_prepare l.prepares (of_pre_prepare p) i)

  abbrev value : ℕ → Option (Signed Prepare)
  value i = at l.prepares (vote_key (of_pre_prepare p).number (of_pre_prepare p).view i)

  voted_at : (i : ℕ) → test i ≡ true → (q : Signed Prepare) × (value i ≡ Some q) × IsMine i q
  voted_at i t =
      let counted = and_parts (not (i == primary c (of_pre_prepare p).view) && voted of_prepare l.prepares (of_pre_prepare p) i) _ t in
      let both = and_parts (not (i == primary c (of_pre_prepare p).view)) (voted of_prepare l.prepares (of_pre_prepare p) i) counted.0 in
      let w = voted_is of_prepare l.prepares (of_pre_prepare p) i both.1 in
      let by = by_is i (λ b. same_fields (of_prepare b) (of_pre_prepare p)) w.0 w.2 in
      (w.0, w.1, (by.1, fields_are (of_prepare w.0.body) (of_pre_prepare p) by.2))

  mine : (i : ℕ) (q : Signed Prepare) → test i ≡ true → value i ≡ Some q → IsMine i q
  mine i q t is = let w = voted_at i t in subst (IsMine i) (same_Some _ _ (sym w.1 ∙ is)) w.2

  backing_ascends : AscendFrom 0 (backing c l (of_pre_prepare p))
  backing_ascends = filtered_ascends (λ i. cond (test i) (value i) None) (replicas c) 0 (λ i q e. let w = taken_if (test i) (value i) q e in (mine i q w.0 w.1).0)

  backing_matches : (q : Signed Prepare) → IsIn q (backing c l (of_pre_prepare p)) → of_prepare q.body ≡ of_pre_prepare p
  backing_matches q within = let w = from_gathered test value (replicas c) q within in (mine w.0 q w.1 w.2).1

  each : (qs : List (Signed Prepare)) → ((q : Signed Prepare) → IsIn q qs → of_prepare q.body ≡ of_pre_prepare p) → AllByRecursion (IsPrepareFor p) (map (as_message bodies.Prepare) qs)
  each [] all = tt
  each (q ∷ qs) all = (record { prepare = q.body; is = refl; matches = all q (inl refl) }, each qs (λ r within. all r (inr within)))

  backing_many : is_certified_in c l (of_pre_prepare p) ≡ true → length (backing c l (of_pre_prepare p)) ≡ 2 * c.f
  backing_many t =
      let all : ℕ → Bool = λ i. not (i == primary c (of_pre_prepare p).view) && voted of_prepare l.prepares (of_pre_prepare p) i in
      let enough = leb-true (2 * c.f) (count all (replicas c))
      (and_parts _ (nat_le (2 * c.f) (count all (replicas c))) t).1 in
      let least = count_least (2 * c.f) all (replicas c) in
      let long = length_gathered test value (replicas c) (λ i t. let w = voted_at i t in (w.0, w.1)) in omega (arith, enough, least, long)

  certificate_for : (m : Signed PrePrepare) → m.body ≡ p → is_certified_in c l (of_pre_prepare p) ≡ true → IsCertificateFor c p (as_checked c (record { pre_prepare = m; prepares = backing c l (of_pre_prepare p) }))
  certificate_for m is t = record {
    proposal = ap bodies.PrePrepare is;
    each = each (backing c l (of_pre_prepare p)) backing_matches;
    many = length-map (backing c l (of_pre_prepare p)) (as_message bodies.Prepare) ∙ backing_many t;
    ascend = as_ascend bodies.Prepare 0 (backing c l (of_pre_prepare p)) backing_ascends;
  }

mapped : {X Y : Type 0} (f : X → Y) (o : Option X) (y : Y) → option_map f o ≡ Some y → (x : X) × (o ≡ Some x) × (f x ≡ y)
mapped f None y is = absurd (false≢true (ap is_some is))
mapped f (Some x) y is = (x, refl, same_Some _ _ is)

pub log_certificate : (c : Configuration) (l : Log) (view number : ℕ) (x : CheckedCertificate) → checked_certificate c l view number ≡ Some x → IsCertificateAt c view number x
log_certificate c l view number x is =
    let w = mapped (λ m. as_checked c (certificate_in c l m)) (certified_at c l view number) x is in
    let certified_here = passed (λ m. is_certified_in c l (of_pre_prepare m.body)) (proposal_in c l view number) w.0 w.1 in
    let proposal = passed (is_by (primary c view) (has_position view number)) (at l.pre_prepares (vote_key number view (primary c view))) w.0 certified_here.0 in
    let position = and_parts (w.0.body.view.0 == view) (w.0.body.number.0 == number) (by_is (primary c view) (has_position view number) w.0 proposal.1).2 in
    record {
      pre_prepare = w.0.body;
      view_is = eqb-true w.0.body.view.0 view position.0;
      number_is = eqb-true w.0.body.number.0 number position.1;
      fits = subst (IsCertificateFor c w.0.body) w.2 (certificate_for c l w.0.body w.0 refl certified_here.1);
    }
