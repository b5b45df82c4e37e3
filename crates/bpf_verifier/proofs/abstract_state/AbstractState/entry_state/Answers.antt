use Rattle.std.proofs.Common.{◌∙◌, rules}
use Rattle.bpf_verifier.proofs.States.{entered_ranges}
use Rattle.bpf_verifier.proofs.abstract_state.AbstractState.entry_state.Goals as goal

pub returns : goal.returns
returns g c = λ of is. record {
  ranges_are = λ r.
      c.from_array.ensures r
      ∙ entered_ranges c.args.self.now of is c.args.depth c.single.result (search rules) _ _ _ _ _ c.range_of.ensures c.range_of-2.ensures c.range_of-3.ensures c.range_of-4.ensures c.range_of-5.ensures r;
  initialized_are = is.initialized_are;
  words_are = is.words_are;
}
