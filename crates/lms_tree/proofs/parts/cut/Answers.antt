use Rattle.std.proofs.Common.{◌≡◌, ℕ, ◌+◌, ◌-◌, List, length, take, drop, None, sym, ◌∙◌, ap, arith}
use Rattle.std.proofs.lemmas.List.{length-drop, take_all}
use Rattle.lms_level.specs.Signature.{key_height, word_at}
use Rattle.lms_tree.specs.Signature.{lms_length, top_key_in}
use Rattle.lms_tree.proofs.FaultLemmas.{below, other_count, too_short}
use Rattle.lms_tree.proofs.PartLemmas.{tail-key}
use Rattle.lms_tree.proofs.parts.cut.Goals as goal

pub returns-in_default-key_height : goal.returns-in_default-key_height
returns-in_default-key_height c body =
    let key : List ℕ = c.args.key.now in
    let two : word_at key 0 ≡ 2 = sym c.word_at.ensures ∙ c.if-word_at-ne-LEVELS.false in
    let top : c.in-Some.top_key.now ≡ top_key_in key = tail-key key c.in-Some.top_key.now (omega arith) c.in-Some.ensures.cases.same in
    below None key body c.args.sig.now two (ap key_height (sym top) ∙ sym c.in_default-key_height.ensures)

pub returns-then-sig-end : goal.returns-then-sig-end
returns-then-sig-end c body =
    let key : List ℕ = c.args.key.now in
    let two : word_at key 0 ≡ 2 = sym c.word_at.ensures ∙ c.if-word_at-ne-LEVELS.false in
    let top : c.in-Some.top_key.now ≡ top_key_in key = tail-key key c.in-Some.top_key.now (omega arith) c.in-Some.ensures.cases.same in
    too_short c.in-Some-key_height.top key body c.args.sig.now two (ap key_height (sym top) ∙ sym c.in-Some-key_height.ensures)
    (omega (arith, c.if-sig-end.true, c.signature_len-end.ensures))

pub returns-then-word_at-ne-SIGNED_KEYS : goal.returns-then-word_at-ne-SIGNED_KEYS
returns-then-word_at-ne-SIGNED_KEYS c body =
    let key : List ℕ = c.args.key.now in
    let two : word_at key 0 ≡ 2 = sym c.word_at.ensures ∙ c.if-word_at-ne-LEVELS.false in
    let top : c.in-Some.top_key.now ≡ top_key_in key = tail-key key c.in-Some.top_key.now (omega arith) c.in-Some.ensures.cases.same in
    other_count c.in-Some-key_height.top key body c.args.sig.now two (ap key_height (sym top) ∙ sym c.in-Some-key_height.ensures)
    (omega (arith, c.if-sig-end.false, c.signature_len-end.ensures)) (λ one. c.if-word_at-ne-SIGNED_KEYS.true (c.word_at-2.ensures ∙ one))

pub returns : goal.returns
returns c =
    let key : List ℕ = c.args.key.now in
    let sig : List ℕ = c.args.sig.now in
    let len : ℕ = c.signature_len-end.result in
    let long : len ≡ lms_length c.in-Some-key_height.top = c.signature_len-end.ensures in
    let top : c.in-Some.top_key.now ≡ top_key_in key = tail-key key c.in-Some.top_key.now (omega arith) c.in-Some.ensures.cases.same in
    let own : 4 + len - 4 ≡ lms_length c.in-Some-key_height.top = omega (arith, long) in
    let one_key : 4 + len + 56 - (4 + len) ≡ 56 = omega arith in
    let end : 4 + len + 56 ≡ 60 + lms_length c.in-Some-key_height.top = omega (arith, long) in
    record {
      levels = sym c.word_at.ensures ∙ c.if-word_at-ne-LEVELS.false;
      top_key = top;
      top = ap key_height (sym top) ∙ sym c.in-Some-key_height.ensures;
      long = omega (arith, c.if-sig-end.false, long);
      count = sym c.word_at-2.ensures ∙ c.if-word_at-ne-SIGNED_KEYS.false;
      key_signature = ap (λ n. take n (drop 4 sig)) own;
      signed_key = c.in-Some-as_array.ensures.cases.same
          ∙ (ap (λ n. take n (drop (4 + len) sig)) one_key ∙ ap (λ n. take 56 (drop (4 + n) sig)) long);
      last_signature = take_all (length sig - (4 + len + 56)) (drop (4 + len + 56) sig) (omega (arith, length-drop (4 + len + 56) sig))
          ∙ ap (λ n. drop n sig) end;
    }
