-- What a session has heard in a call.
use Rattle.std.proofs.Common.{◌≡◌, ◌∙◌, ℕ, find, inl, inr, Option, Some, None, Result, Ok, Err, ap, subst, sym}
use Rattle.std.specs.Prelude.{IfOk}
use Rattle.std.specs.Option.{option_map}
use Rattle.std.proofs.lemmas.Option.{none-some, same_Some}
use Rattle.host_types.specs.Configuration.{Configuration}
use Rattle.host_types.specs.declared.request.Reply.{Reply}
use Rattle.seal.specs.Signers.{IsAuthentic}
use Rattle.client_session.specs.Accepted.{HasHeard}
use Rattle.client_session.specs.Sessions.{SessionState, accepted_by, is_vouched_answer, reply_to}
use Rattle.client_session.specs.declared.answer.Answer.{Answer}
use Rattle.client_session.proofs.Hearing.{heard_more, heard_same}
use Rattle.host_client.specs.Calls.{Hears}

pub heard_on : (s t u : SessionState) → HasHeard s t → Hears t u → HasHeard s u
heard_on s t u h (inl same) = subst (HasHeard s) (sym same) h
heard_on s t u h (inr (m, authentic, is)) =
    subst (HasHeard s) (sym is) (heard_more s t m h (subst (λ (c : Configuration). IsAuthentic c m) (heard_same h).0 authentic))

-- the time of an accepted reply
accepted_time : (t : SessionState) (reply : Reply) → accepted_by t ≡ Some reply → reply.time ≡ t.time
accepted_time t reply is = by (find (is_vouched_answer t.config.f t.answers) t.answers) is where
  by : (o : Option Answer) → option_map (reply_to t) o ≡ Some reply → reply.time ≡ t.time
  by None none = absurd (none-some reply none)
  by (Some a) some = ap (λ (r : Reply). r.time) (sym (same_Some (reply_to t a) reply some))

pub called_time : {E : Type 0} (r : Result Reply E) (t : SessionState) (time : ℕ) → IfOk r (λ reply. accepted_by t ≡ Some reply) → t.time ≡ time → IfOk r (λ reply. reply.time ≡ time)
called_time (Ok reply) t time accepted is = accepted_time t reply accepted ∙ is
called_time (Err fault) t time accepted is = tt
