use Rattle.std.proofs.Common.{◌+◌, set, eqb, sym, ap, ◌∙◌, subst, Option, Some}
use Rattle.std.specs.Prelude.{IfSome, IsSome, Result, Ok, Err, OnErr}
use Rattle.std.specs.Option.{option_copied}
use Rattle.std.specs.Arc.{arc_value}
use Rattle.host_types.specs.declared.SeqNo.{SeqNo}
use Rattle.host_types.specs.Configuration.{entry_of}
use Rattle.service_model.specs.TenantStates.{Service, client_index}
use Rattle.service_model.specs.Steps.{IsStep}
use Rattle.service_model.proofs.TenantIndexes.{listed_has_index, tenants-set}
use Rattle.service_core.proofs.Taking.{taken}
use Rattle.service_core.proofs.state.State.apply.Goals as goal

pub unreachable-requires : goal.unreachable-requires
unreachable-requires c =
    listed_has_index c.self.inside.tenants.items (arc_value c.self.inside.config).clients (λ client. eqb client.id.0 c.in-Some.request.now.client.0) c.self.invariant
    (subst (λ (s : Service). IsSome (entry_of s.config.clients c.in-Some.request.now.client.0)) (sym c.self.view_is)
    (subst (λ (r : Option _). IfSome (option_copied r) (λ taken. IsSome (entry_of c.args.self.now.config.clients taken.client.0))) c.in-Some.is c.requires.listed))
    (ap (λ (s : Service). client_index s c.in-Some.request.now.client.0) c.self.view_is ∙ sym c.in_default-client_index.ensures)

pub invariant_of-self-in_err-outcome : goal.invariant_of-self-in_err-outcome
invariant_of-self-in_err-outcome c =
    tenants-set c.self.inside.tenants.items c.in-Some-client_index.index c.index_mut-tenant.result.now c.apply_at.new.self c.index_mut-tenant.ensures.value c.in_err-outcome.ensures.tenant ∙ c.self.invariant

pub invariant_of-self-2 : goal.invariant_of-self-2
invariant_of-self-2 c =
    tenants-set c.self.inside.tenants.items c.in-Some-client_index.index c.index_mut-tenant.result.now c.apply_at.new.self c.index_mut-tenant.ensures.value c.in_ok-outcome.ensures.tenant ∙ c.self.invariant

pub returns-clause-step : goal.returns-clause-step
returns-clause-step c =
    let after : Service = record {
      config = arc_value c.self.inside.config;
      number = c.self.inside.number + 1;
      tenants = set c.self.inside.tenants.items c.in-Some-client_index.index c.apply_at.new.self;
    } in
    subst (λ (r : Option _). IsStep c.args.self.now (option_copied r) after c.in_ok-outcome.outcome) (sym c.in-Some.is)
    (subst (λ (s : Service). IsStep s (Some c.in-Some.request.now) after c.in_ok-outcome.outcome) c.self.view_is
    (taken (arc_value c.self.inside.config) c.self.inside.number c.self.inside.tenants.items c.in-Some.request.now c.in-Some-client_index.index c.index_mut-tenant.result.now c.apply_at.new.self c.in_ok-outcome.outcome
    (ap (λ (s : Service). client_index s c.in-Some.request.now.client.0) c.self.view_is ∙ sym c.in-Some-client_index.ensures) c.index_mut-tenant.ensures.value
    c.in_ok-outcome.ensures.step.0 c.in_ok-outcome.ensures.tenant (ap (λ (n : SeqNo). n.0) c.in_ok-outcome.ensures.step.1)))

after_error : {T E A : Type 0} (r : Result T E) → A → OnErr r A
after_error (Ok x) a = tt
after_error (Err e) a = a

pub returns-in_err-outcome-clause-rest : goal.returns-in_err-outcome-clause-rest
returns-in_err-outcome-clause-rest c =
    after_error c.from_residual.result (ap (λ (s : Service). record s { tenants = set c.self.inside.tenants.items c.in-Some-client_index.index c.apply_at.new.self }) c.self.view_is)
