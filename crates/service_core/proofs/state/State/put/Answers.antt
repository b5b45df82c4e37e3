use Rattle.std.proofs.Common.{◌++◌, ◌∷◌, [], ◌∙◌, ap, List, ℕ, length}
use Rattle.std.specs.Prelude.{flat_map}
use Rattle.std.proofs.lemmas.Result.{on_ok_weaker}
use Rattle.host_types.specs.Configuration.{Configuration, client_ids_of}
use Rattle.service_model.specs.declared.version.Version.TheVariants.{Second}
use Rattle.service_model.specs.Words.{u32_bytes, u64_bytes}
use Rattle.service_model.specs.TenantStates.{Service}
use Rattle.service_model.specs.Encoding.{encoded, encoded_tenant}
use Rattle.service_core.proofs.Fed.{fed_same, fed_then}
use Rattle.service_core.proofs.Whole.{pieces, replies_to}
use Rattle.service_core.proofs.state.State.put.Goals as goal

pub returns : goal.returns
returns g c =
    let h = g.S.Sink.holds in
    let start = c.args.sink.now in
    let version : List ℕ = 2 ∷ [] in
    let number = u64_bytes c.self.inside.number in
    let count = u32_bytes c.reply_count.result in
    let replies = replies_to c.args.self.now c.as_slice-ids.result.now in
    let tenants = u32_bytes (length c.deref-2.result.now) ++ flat_map (encoded_tenant Second) c.deref-2.result.now in
    let one = fed_then h start c.emit.new.self c.put_u64.new.sink version number (fed_same h start c.emit.new.self (c.number.result ∷ []) version (ap (λ (k : ℕ). k ∷ []) c.number.ensures) c.in_ok-emit.ensures) c.in_ok-put_u64.ensures in
    let two = fed_then h start c.put_u64.new.sink c.put_u32.new.sink (version ++ number) count one c.in_ok-put_u32.ensures in
    let three = fed_then h start c.put_u32.new.sink c.put_replies.new.sink (version ++ number ++ count) replies two c.in_ok-put_replies.ensures in
    on_ok_weaker c.put_tenants.result (λ last.
    fed_same h start c.put_tenants.new.sink ((version ++ number ++ count ++ replies) ++ tenants) (encoded c.args.self.now)
    (pieces c.args.self.now c.self.inside.number c.reply_count.result c.as_slice-ids.result.now c.deref-2.result.now
    (ap (λ (s : Service). s.number) c.self.view_is)
    (c.as_slice-ids.ensures.value ∙ c.client_ids-all.ensures.value ∙ ap (λ (k : Configuration). client_ids_of k.clients) c.deref.ensures ∙ ap (λ (s : Service). client_ids_of s.config.clients) c.self.view_is)
    c.reply_count.ensures
    (c.deref-2.ensures.value ∙ ap (λ (s : Service). s.tenants) c.self.view_is))
    (fed_then h start c.put_replies.new.sink c.put_tenants.new.sink (version ++ number ++ count ++ replies) tenants three last)) c.put_tenants.ensures
