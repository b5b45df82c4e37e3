use Rattle.std.proofs.Common.{◌≡◌, ℕ, List, [], ◌∷◌, ◌++◌, Option, Some, None, sym, ◌∙◌, ap, subst}
use Rattle.std.specs.Option.{option_map}
use Rattle.host_types.specs.Configuration.{Configuration}
use Rattle.host_types.specs.declared.request.Reply.{Reply}
use Rattle.seal.specs.Opening.{CheckedMessage}
use Rattle.client_session.specs.declared.answer.Answer.{Answer}
use Rattle.client_session.specs.declared.session.Session.TheInside.{Inside}
use Rattle.client_session.specs.Sessions.{SessionState, accepted_by, has_said, is_vouched}
use Rattle.client_session.proofs.Vouched.{accepts, repeats, waits}
use Rattle.client_session.proofs.session.Session.count.Goals as goal

-- what a contract sees of a session's fields
abbrev state_of : Inside → SessionState
state_of s = record {
  config = s.config.value;
  client = s.client;
  signer = s.signer;
  time = s.time;
  answers = s.answers.items;
  request = option_map (λ (m : CheckedMessage). m.message) s.request;
}

same_vouched : (f g number : ℕ) (answers others : List Answer) (result other : List ℕ) → g ≡ f → others ≡ answers → result ≡ other → is_vouched f answers number result ≡ is_vouched g others number other
same_vouched f g number answers others result other few all same =
    ap (λ (n : ℕ). is_vouched n answers number result) (sym few) ∙ ap (λ (xs : List Answer). is_vouched g xs number result) (sym all) ∙ ap (λ (r : List ℕ). is_vouched g others number r) same

pub invariant_of-self-then-is_vouched-3 : goal.invariant_of-self-then-is_vouched-3
invariant_of-self-then-is_vouched-3 c =
    let s : SessionState = state_of c.self.inside in
    let a : Answer = record { replica = c.args.replica; number = c.args.reply.now.number; result = c.in_ok-result.result } in
    let sign = c.self.invariant.0 in
    let none : accepted_by s ≡ None = subst (λ (t : SessionState). accepted_by t ≡ None) (sym c.self.view_is) c.requires in
    let is : c.push.new.self.items ≡ s.answers ++ a ∷ [] = c.in_ok-push.ensures.items in
    let few : c.f.result ≡ s.config.f = c.f.ensures.value ∙ ap (λ (k : Configuration). k.f) c.deref-2.ensures in
    let all : c.deref-3.result.now ≡ c.push.new.self.items = c.deref-3.ensures.value in
    let result : c.in_ok-result.result ≡ c.args.reply.now.result = c.in_ok-result.ensures in
    let vouched = same_vouched s.config.f c.f.result a.number.0 c.push.new.self.items c.deref-3.result.now a.result c.args.reply.now.result few all result ∙ sym c.is_vouched.ensures ∙ c.if-is_vouched.true in
    let same : c.in_ok-accepted.accepted ≡ c.in_ok-result.result = c.in_ok-accepted.ensures ∙ sym result in
    let reply : List ℕ → Option Reply = λ result. Some (record { client = s.client; time = s.time; number = a.number; result = result }) in
    (record { key = sign.key; listed = sign.listed; is_key = sign.is_key }, c.self.invariant.1, ap reply same ∙ sym (accepts s a c.push.new.self.items is none vouched), c.self.invariant.3)

pub invariant_of-self-else-is_vouched : goal.invariant_of-self-else-is_vouched
invariant_of-self-else-is_vouched c =
    let s : SessionState = state_of c.self.inside in
    let a : Answer = record { replica = c.args.replica; number = c.args.reply.now.number; result = c.in_ok-result.result } in
    let sign = c.self.invariant.0 in
    let none : accepted_by s ≡ None = subst (λ (t : SessionState). accepted_by t ≡ None) (sym c.self.view_is) c.requires in
    let is : c.push.new.self.items ≡ s.answers ++ a ∷ [] = c.in_ok-push.ensures.items in
    let few : c.f.result ≡ s.config.f = c.f.ensures.value ∙ ap (λ (k : Configuration). k.f) c.deref-2.ensures in
    let all : c.deref-3.result.now ≡ c.push.new.self.items = c.deref-3.ensures.value in
    let result : c.in_ok-result.result ≡ c.args.reply.now.result = c.in_ok-result.ensures in
    let vouched = same_vouched s.config.f c.f.result a.number.0 c.push.new.self.items c.deref-3.result.now a.result c.args.reply.now.result few all result ∙ sym c.is_vouched.ensures ∙ c.if-is_vouched.false in
    (record { key = sign.key; listed = sign.listed; is_key = sign.is_key }, c.self.invariant.1, c.self.invariant.2 ∙ none ∙ sym (waits s a c.push.new.self.items is none vouched), c.self.invariant.3)

pub invariant_of-self-else-is_vouched-2 : goal.invariant_of-self-else-is_vouched-2
invariant_of-self-else-is_vouched-2 c =
    let s : SessionState = state_of c.self.inside in
    let a : Answer = record { replica = c.args.replica; number = c.args.reply.now.number; result = c.in_ok-result.result } in
    let sign = c.self.invariant.0 in
    let none : accepted_by s ≡ None = subst (λ (t : SessionState). accepted_by t ≡ None) (sym c.self.view_is) c.requires in
    let is : c.push.new.self.items ≡ s.answers ++ a ∷ [] = c.in_ok-push.ensures.items in
    let few : c.f.result ≡ s.config.f = c.f.ensures.value ∙ ap (λ (k : Configuration). k.f) c.deref-2.ensures in
    let all : c.deref-3.result.now ≡ c.push.new.self.items = c.deref-3.ensures.value in
    let result : c.in_ok-result.result ≡ c.args.reply.now.result = c.in_ok-result.ensures in
    let vouched = same_vouched s.config.f c.f.result a.number.0 c.push.new.self.items c.deref-3.result.now a.result c.args.reply.now.result few all result ∙ sym c.is_vouched.ensures ∙ c.if-is_vouched.false in
    (record { key = sign.key; listed = sign.listed; is_key = sign.is_key }, c.self.invariant.1, c.self.invariant.2 ∙ none ∙ sym (waits s a c.push.new.self.items is none vouched), c.self.invariant.3)

pub invariant_of-self-then-is_repeated : goal.invariant_of-self-then-is_repeated
invariant_of-self-then-is_repeated c =
    let s : SessionState = state_of c.self.inside in
    let a : Answer = record { replica = c.args.replica; number = c.args.reply.now.number; result = c.in_ok-result.result } in
    let sign = c.self.invariant.0 in
    let none : accepted_by s ≡ None = subst (λ (t : SessionState). accepted_by t ≡ None) (sym c.self.view_is) c.requires in
    let is : c.push.new.self.items ≡ s.answers ++ a ∷ [] = c.in_ok-push.ensures.items in
    let all : c.deref.result.now ≡ s.answers = c.deref.ensures.value in
    let result : c.in_ok-result.result ≡ c.args.reply.now.result = c.in_ok-result.ensures in
    let said = ap (λ (xs : List Answer). has_said xs a.number.0 a.result a.replica) (sym all) ∙ ap (λ (r : List ℕ). has_said c.deref.result.now a.number.0 r a.replica) result ∙ sym c.has_said-is_repeated.ensures ∙ c.if-is_repeated.true in
    (record { key = sign.key; listed = sign.listed; is_key = sign.is_key }, c.self.invariant.1, c.self.invariant.2 ∙ none ∙ sym (repeats s a c.push.new.self.items is none said), c.self.invariant.3)
