-- What a Snapshot reads as.
use Rattle.std.proofs.Common.{◌≡◌, ℕ, Bool, true, false, List, Option, Some, None, refl, sym, ap, subst, ◌∙◌}
use Rattle.std.specs.Prelude.{◌==◌, if◌then◌else◌}
use Rattle.std.proofs.lemmas.Bool.{eqb-true, eqb-false}
use Rattle.host_types.specs.Configuration.{Configuration}
use Rattle.service_model.proofs.Injective.{same_state}
use Rattle.service_model.specs.Decoding.{Encodes}
use Rattle.pbft_model.specs.Words.{Snapshot}
use Rattle.pbft_model.specs.Sequential.{Service}
use Rattle.pbft_model.specs.Setup.{Setup, setup_of}
use Rattle.pbft_model.specs.Rules.{IsReadingOf}
use Rattle.replica_core.specs.Replicas.{KeptReplica}

reads : (c : Setup) (b : Snapshot) (s : Service) (o : Option Service) → Encodes c.config b.state s → o ≡ (if s.number == b.number.0 then Some s else None) → IsReadingOf c b o
reads c b s o is e = subst (IsReadingOf c b) (sym e) (split (s.number == b.number.0) refl) where
  split : (t : Bool) → (s.number == b.number.0) ≡ t → IsReadingOf c b (if t then Some s else None)
  split true same = record { config_is = is.config_is; number_is = eqb-true s.number b.number.0 same; encodes = is.encodes; sound = record { bounded = is.bounded; sound = is.sound } }
  split false other = λ state at.
      eqb-false s.number b.number.0 other (ap (λ (x : Service). x.number) (same_state s state is.bounded at.sound.bounded is.sound at.sound.sound (is.config_is ∙ sym at.config_is) (is.encodes ∙ sym at.encodes)) ∙ at.number_is)

pub reading_is : (k : KeptReplica) (config : Configuration) (b : Snapshot) (bytes : List ℕ) (s : Service) (o : Option Service) → config ≡ k.config → bytes ≡ b.state → Encodes config bytes s
    → o ≡ (if s.number == b.number.0 then Some s else None) → IsReadingOf (setup_of k.config) b o
reading_is k config b bytes s o same all is e = reads (setup_of k.config) b s o (subst (λ (x : List ℕ). Encodes k.config x s) all (subst (λ (x : Configuration). Encodes x bytes s) same is)) e
