-- No procedure that is installed at a correct replica can go wrong.
use Rattle.std.proofs.Common.{◌≡◌, ◌⊎◌, ℕ, inl, inr, List, ◌∷◌, sym, subst}
use Rattle.host_types.specs.Configuration.{IsConfiguration}
use Rattle.service_model.specs.Sound.{IsSound, NoneGoesWrong}
use Rattle.service_model.specs.TenantStates.{Service}
use Rattle.service_model.proofs.Soundness.{accepted_safe}
use Rattle.pbft_model.specs.Acts.{after}
use Rattle.pbft_model.specs.Core.{Core, start_of}
use Rattle.pbft_model.specs.Histories.{core_after}
use Rattle.pbft_model.specs.Families.{IsCorrect}
use Rattle.pbft_agreement.specs.Journals.{ComesTo, Journals}
use Rattle.pbft_model.specs.Rows.{Follows, IsLawfulFrom, Row}
use Rattle.pbft_model.specs.Setup.{Setup}
use Rattle.pbft_model.specs.Words.{SigningState}
use Rattle.pbft_model.proofs.Fitting.{in_step_at}
use Rattle.pbft_model.proofs.Rowed.{Leads, begun, journal_is_history}
use Rattle.pbft_agreement.proofs.Reporting.{core_follows, history_follows, pushed}
use Rattle.byz_world.specs.Procedures.{IsOnTheWay, StaysSafe}

sound_safe : (state : Service) → IsSound state → NoneGoesWrong state
sound_safe state sound = λ k part within. let mine = sound k part within in λ j code there. accepted_safe _ (mine.accepted j code there)

module _ (c : Setup) (me : ℕ) (signer : SigningState) (legal : IsConfiguration c.config) where
  led_safe : (t : Core) → Leads c me signer t → NoneGoesWrong t.service
  led_safe t (acts, is, same) = subst (λ (x : Core). NoneGoesWrong x.service) same (sound_safe (core_after c signer acts).service (in_step_at c me signer legal acts is).sound.sound)

  way_leads : (s t : Core) → Leads c me signer s → IsOnTheWay c me s t → Leads c me signer t
  way_leads s t (acts, is, same) way =
      let there : Follows c me (core_after c signer (way.first ∷ acts)) way.acts t = subst (λ (x : Core). Follows c me (after c x way.first) way.acts t) (sym same) way.follows in (
        pushed way.acts (way.first ∷ acts),
        history_follows c me signer way.acts (way.first ∷ acts) t (is, begun c me signer (core_after c signer acts) way.input way.first way.begins) there,
        core_follows c me signer way.acts (way.first ∷ acts) t there,
      )

  point_safe : (rows : List Row) (s t : Core) → IsLawfulFrom c me (start_of c signer) rows s → (t ≡ s) ⊎ IsOnTheWay c me s t → NoneGoesWrong t.service
  point_safe rows s t lawful (inl same) = subst (λ (x : Core). NoneGoesWrong x.service) (sym same) (led_safe s (journal_is_history c me signer rows s lawful))
  point_safe rows s t lawful (inr way) = led_safe t (way_leads s t (journal_is_history c me signer rows s lawful) way)

pub lawful_safe : (c : Setup) (j : Journals) → IsConfiguration c.config → ((i : ℕ) → IsCorrect c j.faulty i → (last : Core) × ComesTo c j i (j.rows i) last) → StaysSafe c j
lawful_safe c j legal lawful = record {
  lawful = lawful;
  safe = λ i correct s has. point_safe c i (j.signer i) legal has.rows has.core s has.comes has.there;
}
