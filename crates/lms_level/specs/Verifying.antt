-- Statement: a verification under way, and the body that was fed to it.
use Rattle.std.specs.Prelude.{◌≡◌, List, ℕ, ◌++◌}
use Rattle.sha2.specs.Hashers.{Holds256}
use Rattle.sha2.specs.declared.Sha256.{Sha256}
use Rattle.lms_ots.specs.Ots.{message_hash, message_prefix, randomizer_in}
use Rattle.lms_level.specs.Signature.{key_id, ots_in, word_at}

-- Q: the hash of a message that a signature is of, under a key's identifier (RFC 8554, 4.5, step 3)
abbrev pub IsHashOf : List ℕ → List ℕ → List ℕ → List ℕ → Type 0
IsHashOf q id sig message = q ≡ message_hash id (word_at sig 0) (randomizer_in (ots_in sig)) message

-- The hasher holds what Q is the hash of, so far as the message was fed to it.
abbrev pub Holds : Sha256 → List ℕ → List ℕ → List ℕ → Type 0
Holds hasher key sig body =
    Holds256 hasher (message_prefix (key_id key) (word_at sig 0) (randomizer_in (ots_in sig)) ++ body)
