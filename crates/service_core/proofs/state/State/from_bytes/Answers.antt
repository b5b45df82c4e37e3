use Rattle.std.proofs.Common.{◌<◌, ◌^◌, ℕ, List, ◌++◌, ◌∙◌, length, ap, sym, subst, true≢false}
use Rattle.std.specs.Prelude.{flat_map, ◌==◌}
use Rattle.std.specs.Arc.{arc_value}
use Rattle.std.proofs.lemmas.Bool.{eqb-true}
use Rattle.std.proofs.lemmas.List.{nil_from_length}
use Rattle.std.proofs.lemmas.Result.{err_from_is_err_and}
use Rattle.host_types.specs.declared.request.Reply.{Reply}
use Rattle.host_types.specs.Configuration.{Configuration, IsConfiguration, tenants_of}
use Rattle.service_model.specs.declared.version.Version.{Version}
use Rattle.service_model.specs.Words.{u32_bytes}
use Rattle.service_model.specs.TenantStates.{TenantState}
use Rattle.service_model.specs.Encoding.{encoded_replies, encoded_tenant}
use Rattle.service_core.specs.Readings.{encoded_head, Fails, AreLastReplies, ArePartsOf, HaveReplies}
use Rattle.service_core.proofs.Encoded.{none_encoded}
use Rattle.service_core.proofs.StateRead.{in_version, begins_head, begins_replies, begins_parts, ends, is_encoded}
use Rattle.service_core.proofs.state.State.from_bytes.Goals as goal

abbrev text_of : Version → List TenantState → List ℕ
text_of version parts = u32_bytes (length parts) ++ flat_map (encoded_tenant version) parts

pub returns-in_err-version-clause-none : goal.returns-in_err-version-clause-none
returns-in_err-version-clause-none c =
    let p = err_from_is_err_and c.from_residual.result c.from_residual.ensures.1 in
    let config = arc_value c.args.config in
    none_encoded encoded_head (λ head. head.1 < 2 ^ 48) c.args.bytes.now config c.args.bytes.now _ p.0 c.in_err-version.field-0.0 p.1 p.2 c.in_err-version.ensures (begins_head config c.args.bytes.now)

pub returns-in_err-replies-clause-none : goal.returns-in_err-replies-clause-none
returns-in_err-replies-clause-none c =
    let p = err_from_is_err_and c.from_residual-in_err-replies.result c.from_residual-in_err-replies.ensures.1 in
    let config = arc_value c.args.config in
    let v = c.in_ok-version.version in
    let n = c.in_ok-version.number in
    let here = c.in_ok-version.ensures in
    let bad = c.in_err-replies.ensures in
    none_encoded encoded_replies (AreLastReplies config.clients n) c.in_ok-version.rest.now config c.args.bytes.now _ p.0 c.in_err-replies.field-0.0 p.1 p.2
    (subst (λ (k : Configuration). Fails encoded_replies (AreLastReplies k.clients n) c.in_ok-version.rest.now c.in_err-replies.field-0.0) c.deref.ensures bad.read)
    (λ s is. begins_replies v config c.args.bytes.now s (in_version v config c.args.bytes.now s _ here.1 is) n c.in_ok-version.rest.now here.0 here.1)

pub returns-in_err-tenants-clause-none : goal.returns-in_err-tenants-clause-none
returns-in_err-tenants-clause-none c =
    let p = err_from_is_err_and c.from_residual-in_err-tenants.result c.from_residual-in_err-tenants.ensures.1 in
    let config = arc_value c.args.config in
    let v = c.in_ok-version.version in
    let n = c.in_ok-version.number in
    let here = c.in_ok-version.ensures in
    let kept = c.in_ok-replies.ensures in
    let bad = c.in_err-tenants.ensures in
    let fits = subst (λ (k : Configuration). AreLastReplies k.clients n c.in_ok-replies.replies.items) c.deref.ensures kept.read.0 in
    none_encoded (text_of v) (ArePartsOf v (tenants_of config.clients)) c.in_ok-replies.rest.now config c.args.bytes.now _ p.0 c.in_err-tenants.field-0.0 p.1 p.2
    (subst (λ (k : Configuration). Fails (text_of v) (ArePartsOf v (tenants_of k.clients)) c.in_ok-replies.rest.now c.in_err-tenants.field-0.0) c.deref-2.ensures bad.read)
    (λ s is. begins_parts v config c.args.bytes.now s (in_version v config c.args.bytes.now s _ here.1 is) n c.in_ok-replies.replies.items c.in_ok-version.rest.now c.in_ok-replies.rest.now here.0 here.1 fits kept.read.1)

pub returns-then-not-is_empty-clause-none : goal.returns-then-not-is_empty-clause-none
returns-then-not-is_empty-clause-none c = λ _ s is.
    let config = arc_value c.args.config in
    let v = c.in_ok-version.version in
    let n = c.in_ok-version.number in
    let here = c.in_ok-version.ensures in
    let kept = c.in_ok-replies.ensures in
    let parts = c.in_ok-tenants.ensures in
    let left = c.if-not-is_empty.ensures in
    let fits = subst (λ (k : Configuration). AreLastReplies k.clients n c.in_ok-replies.replies.items) c.deref.ensures kept.read.0 in
    let are = subst (λ (k : Configuration). ArePartsOf v (tenants_of k.clients) c.in_ok-tenants.tenants.items) c.deref-2.ensures parts.read.0 in
    let none = ends v config c.args.bytes.now s (in_version v config c.args.bytes.now s _ here.1 is) n c.in_ok-replies.replies.items c.in_ok-tenants.tenants.items c.in_ok-version.rest.now c.in_ok-replies.rest.now c.in_ok-tenants.rest.now here.0 here.1 fits kept.read.1 are parts.read.1 in
    true≢false (sym (left ∙ ap (λ (r : List ℕ). length r == 0) none))

pub returns-clause-state : goal.returns-clause-state
returns-clause-state c =
    let config = arc_value c.args.config in
    let v = c.in_ok-version.version in
    let n = c.in_ok-version.number in
    let here = c.in_ok-version.ensures in
    let kept = c.in_ok-replies.ensures in
    let parts = c.in_ok-tenants.ensures in
    let end = c.if-not-is_empty.ensures in
    let legal = subst (λ (k : Configuration). IsConfiguration k) c.deref.ensures kept.legal in
    let fits = subst (λ (k : Configuration). AreLastReplies k.clients n c.in_ok-replies.replies.items) c.deref.ensures kept.read.0 in
    let are = subst (λ (k : Configuration). ArePartsOf v (tenants_of k.clients) c.in_ok-tenants.tenants.items) c.deref-2.ensures parts.read.0 in
    let same = subst (λ (k : Configuration). HaveReplies k.clients c.deref-3.result.now c.in_ok-tenants.tenants.items) c.deref-2.ensures parts.replies in
    let keeps = subst (λ (rs : List Reply). HaveReplies config.clients rs c.in_ok-tenants.tenants.items) c.deref-3.ensures.value same in
    (v, is_encoded v config n c.in_ok-replies.replies.items c.in_ok-tenants.tenants.items legal here.0 fits are keeps c.args.bytes.now c.in_ok-version.rest.now c.in_ok-replies.rest.now c.in_ok-tenants.rest.now here.1 kept.read.1 parts.read.1 (nil_from_length c.in_ok-tenants.rest.now (eqb-true (length c.in_ok-tenants.rest.now) 0 (sym end))))
