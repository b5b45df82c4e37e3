use Rattle.std.proofs.Common.{◌≡◌, ℕ, List, length, ap, arith}
use Rattle.pbft_codec.specs.Encoding.{signed_text}
use Rattle.world_script.proofs.laws.spent_leaves_sign_no_message.Goals as goal

pub returns : goal.returns
returns c = λ m same. let long : length (signed_text m) ≡ 1 = ap (λ (xs : List ℕ). length xs) same in omega (arith, long)
