-- Statement: the one encoding of each message, and what its signature covers.
use Rattle.std.specs.Prelude.{ℕ, List, [], ◌∷◌, ◌++◌}
use Rattle.std.specs.Int.{w32, to_be_bytes}
use Rattle.pbft_codec.specs.declared.body.Body.{Body}
use Rattle.pbft_codec.specs.declared.signed.Signed.{Signed}
use Rattle.pbft_codec.specs.Bodies.{kind_in, fields}
use Rattle.pbft_codec.specs.Kinds.{kind_byte}
use Rattle.pbft_codec.specs.Layouts.{role_byte, signed}

-- The most bytes that a message has.
abbrev pub max_bytes : ℕ
max_bytes = 8_388_608

unfoldable pub body : Body → List ℕ
body b = kind_byte (kind_in b) ∷ fields b

-- The encoding of a message.
abbrev pub encoding : Signed Body → List ℕ
encoding m = signed body m

-- What is signed: the signer and the body, without the lengths between.
abbrev pub signed_text : Signed Body → List ℕ
signed_text m = (role_byte m.role ∷ []) ++ to_be_bytes w32 m.id ++ body m.body
