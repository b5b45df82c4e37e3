-- What is due at a number for which a PrePrepare of the view is recorded.
use Rattle.std.proofs.Common.{◌≡◌, ℕ, Bool, true, false, ◌&&◌, Option, Some, None, refl, sym, ap, ◌∙◌}
use Rattle.std.specs.Prelude.{◌==◌, bytes_eq, is_some, not, if◌then◌else◌}
use Rattle.std.specs.List.{list_any}
use Rattle.std.specs.Option.{option_map}
use Rattle.std.proofs.lemmas.Bool.{eqb-true, false≢true}
use Rattle.host_types.specs.Configuration.{Configuration}
use Rattle.host_types.specs.declared.Digest.{Digest}
use Rattle.host_types.specs.declared.SeqNo.{SeqNo}
use Rattle.pbft_codec.specs.declared.body.Body.TheVariants as bodies
use Rattle.pbft_codec.specs.declared.body.fetch.Fetch.TheVariants as fetches
use Rattle.pbft_model.specs.Words.{PrePrepare, Signed}
use Rattle.pbft_model.specs.Setup.{Setup, is_replica, primary, setup_of}
use Rattle.pbft_model.specs.Core.{Core, if_passes, is_known, has_position, pre_prepare_at}
use Rattle.pbft_model.specs.Certificates.{is_by}
use Rattle.pbft_model.specs.Acts.{All}
use Rattle.pbft_model.specs.Duties as model
use Rattle.pbft_model.specs.Duties.{agree, among, ask_for, is_lacking, prepare_for, say}
use Rattle.pbft_model.specs.Tables.{at, vote_key}
use Rattle.replica_stores.specs.Log.{proposal_in}
use Rattle.replica_core.specs.Meanings.{Means}
use Rattle.replica_core.specs.Replicas.{AreOne, KeptReplica, Parts, kept_in}
use Rattle.replica_core.specs.declared.duties.Duty.TheVariants as duties

abbrev Due : Type 0
Due = Option model.Duty

abbrev Pre : Type 0
Pre = Signed PrePrepare

abbrev pub digest_in : Option Pre → Option Digest
digest_in o = option_map (λ m. m.body.digest) o

-- ---- a PrePrepare is of the view, and for the number

both_true : (a b : Bool) → (a && b) ≡ true → (a ≡ true) × (b ≡ true)
both_true true b e = (refl, e)
both_true false b e = absurd (false≢true e)

passed : {X : Type 0} (test : X → Bool) (o : Option X) (m : X) → if_passes test o ≡ Some m → test m ≡ true
passed test None m e = absurd (none_some e) where
  none_some : None ≡ Some m → ⊥
  none_some e = absurd cc
passed {X} test (Some x) m e = split (test x) refl e where
  none_some : None ≡ Some m → ⊥
  none_some e = absurd cc

  one : Some x ≡ Some m → x ≡ m
  one e = cc

  split : (b : Bool) → test x ≡ b → (if b then Some x else None) ≡ Some m → test m ≡ true
  split true is e = ap test (sym (one e)) ∙ is
  split false is e = absurd (none_some e)

pub record IsPositioned (view number : ℕ) (o : Option Pre) : Type 0 where
  pub view_is : (m : Pre) → o ≡ Some m → m.body.view.0 ≡ view
  pub number_is : (m : Pre) → o ≡ Some m → m.body.number.0 ≡ number

positioned : (c : Setup) (s : Core) (view number : ℕ) → IsPositioned view number (pre_prepare_at c s view number)
positioned c s view number = record {
  view_is = λ m e. eqb-true m.body.view.0 view (parts m e).0;
  number_is = λ m e. eqb-true m.body.number.0 number (parts m e).1;
} where
  parts : (m : Pre) → pre_prepare_at c s view number ≡ Some m → ((m.body.view.0 == view) ≡ true) × ((m.body.number.0 == number) ≡ true)
  parts m e =
      let all = both_true (is_replica m.role) ((m.id == primary c.config view) && has_position view number m.body) (passed (is_by (primary c.config view) (has_position view number)) (at s.pre_prepares (vote_key number view (primary c.config view))) m e) in
      both_true (m.body.view.0 == view) (m.body.number.0 == number) (both_true (m.id == primary c.config view) (has_position view number m.body) all.1).1

module _ (c : Setup) (me : ℕ) (s : Core) where
  -- ---- a Prepare

  none_agreed : (o : Option Pre) → digest_in o ≡ None → agree me s (if_passes (λ m. is_known c s m.body.digest.0) o) ≡ None
  none_agreed None e = refl
  none_agreed (Some m) e = absurd (none_some e) where
    none_some : Some m.body.digest ≡ None → ⊥
    none_some e = absurd cc

  unknown_agreed : (o : Option Pre) (d : Digest) → digest_in o ≡ Some d → is_known c s d.0 ≡ false → agree me s (if_passes (λ m. is_known c s m.body.digest.0) o) ≡ None
  unknown_agreed None d e un = refl
  unknown_agreed (Some m) d e un = ap (λ (b : Bool). agree me s (if b then Some m else None)) (ap (λ (x : Digest). is_known c s x.0) (one e) ∙ un) where
    one : Some m.body.digest ≡ Some d → m.body.digest ≡ d
    one e = cc

  agreed : (o : Option Pre) (number : SeqNo) (d : Digest) → IsPositioned s.view number.0 o → digest_in o ≡ Some d → is_known c s d.0 ≡ true
      → agree me s (if_passes (λ m. is_known c s m.body.digest.0) o) ≡ Some (say me s All (bodies.Prepare (record { view = record { 0 = s.view }; number = number; digest = d })))
  agreed None number d there e known = absurd (none_some e) where
    none_some : None ≡ Some d → ⊥
    none_some e = absurd cc
  agreed (Some m) number d there e known =
      ap (λ (b : Bool). agree me s (if b then Some m else None)) (ap (λ (x : Digest). is_known c s x.0) (one e) ∙ known)
      ∙ (λ i. Some (say me s All (bodies.Prepare (record { view = record { 0 = there.view_is m refl i }; number = record { 0 = there.number_is m refl i }; digest = one e i })))) where
        one : Some m.body.digest ≡ Some d → m.body.digest ≡ d
        one e = cc

  -- it was not prepared yet
  fresh : (number : ℕ) → among s.prepared_numbers number ≡ false → prepare_for c me s number ≡ agree me s (if_passes (λ m. is_known c s m.body.digest.0) (pre_prepare_at c s s.view number))
  fresh number e = ap (λ (b : Bool). if b then None else agree me s (if_passes (λ m. is_known c s m.body.digest.0) (pre_prepare_at c s s.view number))) e

  pub no_prepare : (number : ℕ) → among s.prepared_numbers number ≡ false → digest_in (pre_prepare_at c s s.view number) ≡ None → prepare_for c me s number ≡ None
  no_prepare number e none = fresh number e ∙ none_agreed (pre_prepare_at c s s.view number) none

  pub prepare_unknown : (number : ℕ) (d : Digest) → among s.prepared_numbers number ≡ false → digest_in (pre_prepare_at c s s.view number) ≡ Some d → is_known c s d.0 ≡ false → prepare_for c me s number ≡ None
  prepare_unknown number d e some un = fresh number e ∙ unknown_agreed (pre_prepare_at c s s.view number) d some un

  pub prepare_known : (number : SeqNo) (d : Digest) → among s.prepared_numbers number.0 ≡ false → digest_in (pre_prepare_at c s s.view number.0) ≡ Some d → is_known c s d.0 ≡ true
      → Means c me s (prepare_for c me s number.0) (Some (duties.Prepare number d))
  prepare_known number d e some known =
      let is = fresh number.0 e ∙ agreed (pre_prepare_at c s s.view number.0) number d (positioned c s s.view number.0) some known in (is, ap is_some is)

  -- ---- a request that lacks

  abbrev asks : Option Pre → Due
  asks o = ask_for me s (if_passes (is_lacking c s) o)

  abbrev is_asked : Digest → Bool
  is_asked d = list_any (λ x. bytes_eq x d.0) s.asked_requests

  pub nothing_lacks : (o : Option Pre) → digest_in o ≡ None → asks o ≡ None
  nothing_lacks None e = refl
  nothing_lacks (Some m) e = absurd (none_some e) where
    none_some : Some m.body.digest ≡ None → ⊥
    none_some e = absurd cc

  asked_if : (o : Option Pre) (d : Digest) (b : Bool) → digest_in o ≡ Some d → (not (is_known c s d.0) && not (is_asked d)) ≡ b → asks o ≡ (if b then Some (say me s All (bodies.Fetch (fetches.Request d))) else None)
  asked_if None d b e is = absurd (none_some e) where
    none_some : None ≡ Some d → ⊥
    none_some e = absurd cc
  asked_if (Some m) d b e is = cases (is_lacking c s m) b (ap (λ (x : Digest). not (is_known c s x.0) && not (is_asked x)) (one e) ∙ is) where
    one : Some m.body.digest ≡ Some d → m.body.digest ≡ d
    one e = cc

    cases : (t u : Bool) → t ≡ u → ask_for me s (if t then Some m else None) ≡ (if u then Some (say me s All (bodies.Fetch (fetches.Request d))) else None)
    cases true true is = ap (λ (x : Digest). Some (say me s All (bodies.Fetch (fetches.Request x)))) (one e)
    cases false false is = refl
    cases true false is = absurd (false≢true (sym is))
    cases false true is = absurd (false≢true is)

  pub known_one : (o : Option Pre) (d : Digest) → digest_in o ≡ Some d → is_known c s d.0 ≡ true → asks o ≡ None
  known_one o d e known = asked_if o d false e (ap (λ (b : Bool). not b && not (is_asked d)) known)

  pub asked_one : (o : Option Pre) (d : Digest) → digest_in o ≡ Some d → is_asked d ≡ true → asks o ≡ None
  asked_one o d e asked = asked_if o d false e (last (not (is_known c s d.0)) (is_asked d) asked) where
    last : (x y : Bool) → y ≡ true → (x && not y) ≡ false
    last true y e = ap not e
    last false y e = refl

  pub lacking_one : (o : Option Pre) (d : Digest) → digest_in o ≡ Some d → is_known c s d.0 ≡ false → is_asked d ≡ false → Means c me s (asks o) (Some (duties.FetchRequest d))
  lacking_one o d e un nor = let is = asked_if o d true e (ap (λ (b : Bool). not b && not (is_asked d)) un ∙ ap not nor) in (is, ap is_some is)

-- ---- a replica's own view

-- what its log says of a number
pub proposal : (c : Configuration) (me : ℕ) (p : Parts) → AreOne c me p → (k : KeptReplica) (view number : ℕ) (o : Option Digest) → kept_in c me p ≡ k → view ≡ k.core.view
    → o ≡ digest_in (proposal_in p.log.config p.log.log view number) → digest_in (pre_prepare_at (setup_of k.config) k.core k.core.view number) ≡ o
proposal c me p one k view number o e own is =
    let own_view : view ≡ p.log.log.view = own ∙ ap (λ (x : KeptReplica). x.core.view) (sym e) in
    sym (is ∙ ap (λ (x : ℕ). digest_in (proposal_in p.log.config p.log.log x number)) own_view
    ∙ ap (λ (x : Configuration). digest_in (proposal_in x p.log.log p.log.log.view number)) one.log
    ∙ ap (λ (x : KeptReplica). digest_in (pre_prepare_at (setup_of x.config) x.core x.core.view number)) e)
