-- The entries of a head's clients, with their keys and without.
use Rattle.std.proofs.Common.{◌≡◌, List, [], ◌∷◌, map, refl, ap}
use Rattle.host_types.specs.Configuration.{Configuration}
use Rattle.world_queue.specs.Sessions.{SessionState, session_behind}
use Rattle.world_queue.specs.Effects.{fresh_sessions}
use Rattle.host_types.specs.declared.config.ClientEntry.{ClientEntry}
use Rattle.host_types.specs.declared.key.PublicKey.{PublicKey}
use Rattle.script_text.specs.Heads.{HeadFacts, keyless}
use Rattle.script_text.specs.Client.{Client}
use Rattle.world_script.specs.Keys.{client_signer, entry_of, unkeyed}
use Rattle.world_queue.specs.Parties.{key_of}

pub without_keys : (h : HeadFacts) (cs : List Client) → map unkeyed (map (entry_of h) cs) ≡ map keyless cs
without_keys h [] = refl
without_keys h (c ∷ cs) = ap (λ (es : List ClientEntry). keyless c ∷ es) (without_keys h cs)

pub their_keys : (h : HeadFacts) (cs : List Client) → map (λ (e : ClientEntry). e.key) (map (entry_of h) cs) ≡ map key_of (map (client_signer h) cs)
their_keys h [] = refl
their_keys h (c ∷ cs) = ap (λ (ks : List PublicKey). key_of (client_signer h c) ∷ ks) (their_keys h cs)

-- ---- sessions

abbrev session_under : Configuration → HeadFacts → Client → SessionState
session_under g h c = session_behind g c.id (client_signer h c) 0

pub sessions_of : (g : Configuration) (h : HeadFacts) (cs : List Client) → fresh_sessions g (map (entry_of h) cs) (map (client_signer h) cs) ≡ map (session_under g h) cs
sessions_of g h [] = refl
sessions_of g h (c ∷ cs) = ap (λ (ss : List SessionState). session_under g h c ∷ ss) (sessions_of g h cs)
