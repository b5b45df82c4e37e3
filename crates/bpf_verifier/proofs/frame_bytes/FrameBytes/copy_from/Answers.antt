use Rattle.std.proofs.Common.{◌≡◌, ◌≤◌, ◌∙◌, ℕ, List, get_or, length, max, rules, refl, ap, sym, subst, arith}
use Rattle.std.proofs.Math.Nat.{le-max_left, max-le}
use Rattle.bpf_verifier.proofs.Bits.{copied_none, copied_more, copied_all}
use Rattle.bpf_verifier.proofs.frame_bytes.FrameBytes.copy_from.Goals as goal

pub invariant_of-self : goal.invariant_of-self
invariant_of-self c =
    let low = le-max_left c.args.self.now.used c.args.other.now.used in
    record {
      few = subst (λ (k : ℕ). k ≤ 64) (sym c.max-self.ensures) (max-le c.args.self.now.few c.args.other.now.few);
      rest = λ n past. c.args.self.now.rest n (omega (arith, past, low, c.max-self.ensures));
    }

pub loop-word-init : goal.loop-word-init
loop-word-init c = record { copied = copied_none _ _; used = c.max-self.ensures }

pub loop-word-preserved : goal.loop-word-preserved
loop-word-preserved c =
    let i = c.loop-word.invariant in
    let a : length c.args.self.now.words ≡ 64 = search rules in
    let b : length c.args.other.now.words ≡ 64 = search rules in
    let end : c.max-self.result ≡ c.loop-word.self.used = c.max-self.ensures ∙ sym i.used in
    let few : c.loop-word.self.used ≤ 64 = c.loop-word.self.few in
    record {
      copied = copied_more c.loop-word.word c.loop-word.self.words c.args.self.now.words c.args.other.now.words _ _ i.copied (omega (arith, a, end, few, c.loop-word-test.true)) (omega (arith, b, end, few, c.loop-word-test.true)) refl;
      used = i.used;
    }

pub invariant_of-self-2 : goal.invariant_of-self-2
invariant_of-self-2 c =
    let long : length c.args.self.now.words ≡ length c.args.other.now.words = search rules in
    let end : c.loop-word.word ≡ max c.args.self.now.used c.args.other.now.used = omega (arith, c.loop-word-test.false, c.loop-word.auto.word-end, c.max-self.ensures) in
    let same = copied_all c.loop-word.self.words c.args.self.now.words c.args.other.now.words c.loop-word.word _ _ end long c.loop-word.invariant.copied c.args.self.now.rest c.args.other.now.rest in
    record { few = c.args.other.now.few; rest = λ n past. ap (λ (ws : List ℕ). get_or ws n 0) same ∙ c.args.other.now.rest n past }

pub returns : goal.returns
returns c =
    let long : length c.args.self.now.words ≡ length c.args.other.now.words = search rules in
    let end : c.loop-word.word ≡ max c.args.self.now.used c.args.other.now.used = omega (arith, c.loop-word-test.false, c.loop-word.auto.word-end, c.max-self.ensures) in
    copied_all c.loop-word.self.words c.args.self.now.words c.args.other.now.words c.loop-word.word _ _ end long c.loop-word.invariant.copied c.args.self.now.rest c.args.other.now.rest
