use Rattle.std.proofs.Common.{ℕ, List, ◌+◌, ◌-◌, ◌++◌, take, drop, length, ap, sym, ◌∙◌}
use Rattle.pbft_codec.proofs.EncodingLaws.{front, head, said}
use Rattle.pbft_codec.proofs.message.parts_signed.Goals as goal

pub returns : goal.returns
returns c =
    λ m e k.
    let start = c.split_at.ensures.front ∙ ap (take 5) e ∙ front m in
    let rest = c.split_at-2.ensures.back ∙ ap (drop 4) c.split_at.ensures.back in
    let middle = c.split_at-3.ensures.front ∙ said m c.args.bytes.now c.split_at-2.result.1.now _ e rest (ap (λ (n : ℕ). length c.split_at-2.result.1.now - (4 + n)) (sym k)) in
    ap (λ (s : List ℕ). s ++ c.split_at-3.result.0.now) start ∙ ap (λ (s : List ℕ). head m ++ s) middle
