use Rattle.std.proofs.Common.{◌≡◌, ℕ, ◌+◌, ◌*◌, Bool, true, false, cond, ◌||◌, not, map, sym, ap, ◌∙◌, arith}
use Rattle.std.specs.Prelude.{nat_lt, ◌==◌}
use Rattle.std.proofs.lemmas.Bool.{eq-eqb, ne_eqb}
use Rattle.host_types.specs.Configuration.{Configuration, replicas_for}
use Rattle.pbft_codec.specs.declared.body.Body.TheVariants as bodies
use Rattle.pbft_model.specs.Words.{as_message}
use Rattle.seal.specs.Lists.{CheckedMessages, with_message}
use Rattle.replica_stores.specs.Changes.{chosen_below}
use Rattle.replica_stores.specs.Stores.{KeptChanges}
use Rattle.replica_stores.proofs.Choosing.{chosen_with, chosen_without, found_message, none_found, pushed}
use Rattle.replica_stores.proofs.changes.Changes.chosen.Goals as goal
use Rattle.replica_stores.proofs.changes.Changes.chosen.Goals.{in-Some+in_ok-push_if+then-is_other, in-Some+in_ok-push_if+else-is_other, in_default}

flag_at : (flag own : Bool) (others n m : ℕ) → flag ≡ (not (not own) || nat_lt others (2 * n)) → n ≡ m → flag ≡ (not (not own) || nat_lt others (2 * m))
flag_at flag own others n m e is = e ∙ ap (λ (k : ℕ). not (not own) || nat_lt others (2 * k)) is

pub loop-id-preserved : goal.loop-id-preserved
loop-id-preserved c =
    let now = c.args.self.now in
    let config : c.self.inside.config.value ≡ now.config = ap (λ (k : KeptChanges). k.config) c.self.view_is in
    let f : c.f-most.result ≡ now.config.f = c.f-most.ensures.value ∙ ap (λ (d : Configuration). d.f) (c.deref.ensures ∙ config) in
    let inv = c.loop-id.invariant in
    elim c.match-of.branch [
      | in-Some+in_ok-push_if+then-is_other w ↦
          let found = found_message now.config w.in-Some.message.now _ w.in-Some.ensures.found in
          let next = chosen_with (2 * now.config.f) now.changes c.args.view.0 c.args.me.0 c.loop-id.id c.loop-id.others found.0 found.1 (sym w.in-Some.ensures.wanted) inv.counted in
          let flag = flag_at w.is_chosen.result (c.loop-id.id == c.args.me.0) c.loop-id.others c.f-most.result now.config.f w.is_chosen.ensures f in
          let push = w.in_ok-push_if.ensures ∙ ap (λ (b : Bool). cond b (with_message c.loop-id.list w.in-Some.message.now.message) c.loop-id.list) flag in
          let after = pushed c.loop-id.list w.push_if.new.list _ w.in-Some.message.now.message _ found.0 push inv.messages (ap (λ m. m.message) found.2) in
          let own : (c.loop-id.id == c.args.me.0) ≡ false = ne_eqb c.loop-id.id c.args.me.0 w.if-is_other.true in
          record {
            config = ap (λ (l : CheckedMessages). l.config) w.list-is ∙ after.0 ∙ inv.config;
            counted = w.others-is ∙ ap (λ (b : Bool). c.loop-id.others + cond (not b) 1 0) (sym own) ∙ next.counted;
            bound = omega (arith, w.others-is, inv.bound);
            messages = ap (λ (l : CheckedMessages). l.messages) w.list-is ∙ after.1 ∙ ap (map (as_message bodies.ViewChange)) next.gathered;
          }
      | in-Some+in_ok-push_if+else-is_other w ↦
          let found = found_message now.config w.in-Some.message.now _ w.in-Some.ensures.found in
          let next = chosen_with (2 * now.config.f) now.changes c.args.view.0 c.args.me.0 c.loop-id.id c.loop-id.others found.0 found.1 (sym w.in-Some.ensures.wanted) inv.counted in
          let flag = flag_at w.is_chosen.result (c.loop-id.id == c.args.me.0) c.loop-id.others c.f-most.result now.config.f w.is_chosen.ensures f in
          let push = w.in_ok-push_if.ensures ∙ ap (λ (b : Bool). cond b (with_message c.loop-id.list w.in-Some.message.now.message) c.loop-id.list) flag in
          let after = pushed c.loop-id.list w.push_if.new.list _ w.in-Some.message.now.message _ found.0 push inv.messages (ap (λ m. m.message) found.2) in
          let own : (c.loop-id.id == c.args.me.0) ≡ true = eq-eqb c.loop-id.id c.args.me.0 w.if-is_other.false in
          let same : c.match-of.others ≡ c.loop-id.others + 0 = omega (arith, w.others-is) in
          record {
            config = ap (λ (l : CheckedMessages). l.config) w.list-is ∙ after.0 ∙ inv.config;
            counted = same ∙ ap (λ (b : Bool). c.loop-id.others + cond (not b) 1 0) (sym own) ∙ next.counted;
            bound = omega (arith, w.others-is, inv.bound);
            messages = ap (λ (l : CheckedMessages). l.messages) w.list-is ∙ after.1 ∙ ap (map (as_message bodies.ViewChange)) next.gathered;
          }
      | in_default w ↦
          let none = none_found now.config _ w.in_default.ensures.found in
          let next = chosen_without (2 * now.config.f) now.changes c.args.view.0 c.args.me.0 c.loop-id.id c.loop-id.others none inv.counted in
          record {
            config = ap (λ (l : CheckedMessages). l.config) w.list-is ∙ inv.config;
            counted = w.others-is ∙ next.counted;
            bound = omega (arith, w.others-is, inv.bound);
            messages = ap (λ (l : CheckedMessages). l.messages) w.list-is ∙ inv.messages ∙ ap (map (as_message bodies.ViewChange)) next.gathered;
          }
    ]

pub push_if-requires : goal.push_if-requires
push_if-requires c =
    let found = found_message c.args.self.now.config c.in-Some.message.now _ c.in-Some.ensures.found in
    ap (λ m. m.config) found.2 ∙ sym c.loop-id.invariant.config

pub returns : goal.returns
returns c = λ s table view.
    let config : c.self.inside.config.value ≡ c.args.self.now.config = ap (λ (k : KeptChanges). k.config) c.self.view_is in
    let many : c.replica_count-id-end.result ≡ replicas_for c.args.self.now.config.f = c.replica_count-id-end.ensures.value ∙ ap (λ (d : Configuration). replicas_for d.f) (c.deref-2.ensures ∙ config) in
    let id : c.loop-id.id ≡ c.replica_count-id-end.result = omega (arith, c.loop-id-test.false, c.loop-id.auto.id-end) in
    λ i. record {
      config = c.loop-id.invariant.config i;
      messages = (c.loop-id.invariant.messages ∙ (λ j. map (as_message bodies.ViewChange) (chosen_below ((id ∙ many) j) (2 * c.args.self.now.config.f) (sym table j) (sym view j) c.args.me.0))) i;
    }
