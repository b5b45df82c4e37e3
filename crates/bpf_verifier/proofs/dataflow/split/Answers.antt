use Rattle.std.proofs.Common.{◌∙◌, ap, subst, sym, false, true, Option, Some, None, Box}
use Rattle.std.specs.Box.{with_value}
use Rattle.std.specs.declared.alloc.Global.{Global}
use Rattle.bpf_model.specs.AbstractState as model
use Rattle.bpf_model.specs.AbstractState.{after_test}
use Rattle.bpf_verifier.specs.declared.dataflow.Visit.{Visit}
use Rattle.bpf_verifier.specs.Represents.{state_of}
use Rattle.bpf_verifier.specs.StackWords.{word_range}
use Rattle.bpf_verifier.specs.Sweep.{Brings}
use Rattle.bpf_verifier.proofs.Tested.{edge_is, tested_same}
use Rattle.bpf_verifier.proofs.dataflow.split.Goals as goal
use Rattle.bpf_verifier.proofs.dataflow.split.Goals.{in-Some-taken+in_ok-other-in-Some-taken, in-None-taken}

pub returns-after-taken-clause-onward : goal.returns-after-taken-clause-onward
returns-after-taken-clause-onward g c = λ stack holds.
    let a = c.args in
    let v : Visit g.row.WORDS = a.visit.value in
    let old = c.deref_mut-in-Some.result.now in
    let same = c.deref_mut-in-Some.ensures.value in
    let after : Visit g.row.WORDS = record { state = c.set_tested-in-Some.new.self; steps = old.steps } in
    let edge = edge_is _ v c.deref.ensures a.narrow a.test a.dst.number a.src false _ _ c.in-Some.is stack (c.ranges_on_edges-onward.ensures.onward stack) in
    subst (λ (o : Option model.AbstractState). Brings (Some (with_value a.visit after)) o v.steps) edge (
      tested_same old v.state.ranges v.state.initialized.words v.state.words.ranges a.dst.number a.src c.in-Some.onward c.set_tested-in-Some.new.self (ap (λ (u : Visit g.row.WORDS). u.state.ranges) same) (ap (λ (u : Visit g.row.WORDS). u.state.initialized.words) same) (λ w h. ap (λ (u : Visit g.row.WORDS). word_range u.state.words.ranges w) same) c.set_tested-in-Some.ensures stack holds,
      ap (λ (u : Visit g.row.WORDS). u.steps) same,
    )

pub returns-after-taken-clause-taken : goal.returns-after-taken-clause-taken
returns-after-taken-clause-taken g c = λ stack holds.
    let a = c.args in
    let v : Visit g.row.WORDS = a.visit.value in
    elim c.match-taken.branch [
      | in-Some-taken+in_ok-other-in-Some-taken w ↦ (
          let copy = w.in_ok-other-in-Some-taken.other in
          let old = w.deref_mut.result.now in
          let same = w.deref_mut.ensures.value in
          let copied = w.in_ok-other-in-Some-taken.ensures in
          let from = w.deref-in-Some-taken.ensures in
          let after : Visit g.row.WORDS = record { state = w.set_tested.new.self; steps = old.steps } in
          let edge = edge_is _ v c.deref.ensures a.narrow a.test a.dst.number a.src true _ _ w.in-Some-taken.is stack (c.ranges_on_edges-onward.ensures.taken stack) in
          subst (λ (b : Option (Box (Visit g.row.WORDS) Global)). Brings b (after_test (state_of v.state.ranges stack) a.narrow a.test a.dst.number a.src true) v.steps) (sym w.other-is)
          (subst (λ (o : Option model.AbstractState). Brings (Some (with_value copy after)) o v.steps) edge (
            tested_same old v.state.ranges v.state.initialized.words v.state.words.ranges a.dst.number a.src w.in-Some-taken.taken w.set_tested.new.self (ap (λ (u : Visit g.row.WORDS). u.state.ranges) same ∙ copied.ranges ∙ ap (λ (u : Visit g.row.WORDS). u.state.ranges) from) (ap (λ (u : Visit g.row.WORDS). u.state.initialized.words) same ∙ copied.initialized ∙ ap (λ (u : Visit g.row.WORDS). u.state.initialized.words) from) (λ k h. ap (λ (u : Visit g.row.WORDS). word_range u.state.words.ranges k) same ∙ copied.words k h ∙ ap (λ (u : Visit g.row.WORDS). word_range u.state.words.ranges k) from) w.set_tested.ensures stack holds,
            ap (λ (u : Visit g.row.WORDS). u.steps) same ∙ copied.steps ∙ ap (λ (u : Visit g.row.WORDS). u.steps) from,
          ))
          )
      | in-None-taken w ↦ (
          let edge = edge_is _ v c.deref.ensures a.narrow a.test a.dst.number a.src true _ _ w.in-None-taken.is stack (c.ranges_on_edges-onward.ensures.taken stack) in
          subst (λ (b : Option (Box (Visit g.row.WORDS) Global)). Brings b (after_test (state_of v.state.ranges stack) a.narrow a.test a.dst.number a.src true) v.steps) (sym w.other-is)
          (subst (λ (o : Option model.AbstractState). Brings {n = g.row.WORDS} None o v.steps) edge tt)
          )
    ]

pub returns-in-Some-taken-2-clause-taken : goal.returns-in-Some-taken-2-clause-taken
returns-in-Some-taken-2-clause-taken g c = λ stack holds.
    let a = c.args in
    let v : Visit g.row.WORDS = a.visit.value in
    let old = c.deref_mut-in-Some-taken-2.result.now in
    let same = c.deref_mut-in-Some-taken-2.ensures.value in
    let after : Visit g.row.WORDS = record { state = c.set_tested-in-Some-taken-2.new.self; steps = old.steps } in
    let edge = edge_is _ v c.deref.ensures a.narrow a.test a.dst.number a.src true _ _ c.in-Some-taken-2.is stack (c.ranges_on_edges-onward.ensures.taken stack) in
    subst (λ (o : Option model.AbstractState). Brings (Some (with_value a.visit after)) o v.steps) edge (
      tested_same old v.state.ranges v.state.initialized.words v.state.words.ranges a.dst.number a.src c.in-Some-taken-2.taken c.set_tested-in-Some-taken-2.new.self (ap (λ (u : Visit g.row.WORDS). u.state.ranges) same) (ap (λ (u : Visit g.row.WORDS). u.state.initialized.words) same) (λ w h. ap (λ (u : Visit g.row.WORDS). word_range u.state.words.ranges w) same) c.set_tested-in-Some-taken-2.ensures stack holds,
      ap (λ (u : Visit g.row.WORDS). u.steps) same,
    )
