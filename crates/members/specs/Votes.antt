-- Statement: votes that come early for a member, as bytes: what is kept, and which is handed in next.
use Rattle.std.specs.Prelude.{◌≡◌, ◌⊎◌, ℕ, Bool, true, false, List, Option, Some, None, Result, Ok, Err}
use Rattle.host_types.specs.Configuration.{Configuration}
use Rattle.early_votes.specs.Holding.{HandsIn, HeldFacts, is_early, kept, none_held}
use Rattle.seal.specs.Opening.{CheckedMessage, opening}
use Rattle.seal.specs.declared.fault.SealFault.{SealFault}
use Rattle.seal.specs.declared.fault.SealFault.TheVariants as seals

-- What a contract sees of them.
pub record VotesFacts : Type 0 where
  pub kept : HeldFacts
  -- the vote that was taken out to be handed in
  pub next : Option CheckedMessage

abbrev pub no_votes : Configuration → VotesFacts
no_votes c = record { kept = none_held c; next = None }

-- What bytes make of them: where the message that they are comes early, it is kept if it is one that is kept; else, and where
-- they are none, nothing changes.
abbrev pub Holds : VotesFacts → List ℕ → Result Bool SealFault → VotesFacts → Type 0
Holds v bytes (Ok true) t =
    (m : CheckedMessage) × (opening v.kept.config bytes ≡ Ok m) × (is_early v.kept m ≡ true) × (t ≡ record v { kept = kept v.kept m })
Holds v bytes (Ok false) t = (m : CheckedMessage) × (opening v.kept.config bytes ≡ Ok m) × (is_early v.kept m ≡ false) × (t ≡ v)
Holds v bytes (Err fault) t = ((fault ≡ seals.Memory) ⊎ (opening v.kept.config bytes ≡ Err fault)) × (t ≡ v)

-- The first vote that is on time is taken out, unless one was before.
abbrev pub Readies : Option CheckedMessage → VotesFacts → VotesFacts → Type 0
Readies None v t = HandsIn v.kept t.next t.kept
Readies (Some m) v t = t ≡ v
