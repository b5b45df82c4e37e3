use Rattle.std.proofs.Common.{ap, ◌∙◌}
use Rattle.std.specs.Prelude.{decimal}
use Rattle.world_script.proofs.FaultLine.{cut_five, cut_four, cut_one, cut_seven, cut_six, cut_three, cut_two, has_all, has_five, has_four, has_six, has_three, has_two, map_err, map_ok, on_err}
use Rattle.world_script.proofs.writing.write_fault.Goals as goal

pub returns-in_err-write_text-clause-front : goal.returns-in_err-write_text-clause-front
returns-in_err-write_text-clause-front g c = on_err c.from_residual.result _ (cut_one _ c.args.fault _ c.in_err-write_text.ensures.front)

pub returns-in_err-write_text-2-clause-front : goal.returns-in_err-write_text-2-clause-front
returns-in_err-write_text-2-clause-front g c = on_err c.from_residual-in_err-write_text-2.result _ (cut_two _ c.args.fault _ _ _ c.in_ok-write_text.ensures.whole c.in_err-write_text-2.ensures.front (c.format.ensures.text ∙ ap decimal c.number.ensures))

pub returns-in_err-write_text-3-clause-front : goal.returns-in_err-write_text-3-clause-front
returns-in_err-write_text-3-clause-front g c = on_err c.from_residual-in_err-write_text-3.result _ (cut_three _ c.args.fault _ _ (has_two _ c.args.fault _ _ _ c.in_ok-write_text.ensures.whole c.in_ok-write_text-2.ensures.whole (c.format.ensures.text ∙ ap decimal c.number.ensures)) c.in_err-write_text-3.ensures.front)

pub returns-in_err-write_text-4-clause-front : goal.returns-in_err-write_text-4-clause-front
returns-in_err-write_text-4-clause-front g c = on_err c.from_residual-in_err-write_text-4.result _ (cut_four _ c.args.fault _ _ _ (has_three _ c.args.fault _ _ (has_two _ c.args.fault _ _ _ c.in_ok-write_text.ensures.whole c.in_ok-write_text-2.ensures.whole (c.format.ensures.text ∙ ap decimal c.number.ensures)) c.in_ok-write_text-3.ensures.whole) c.in_err-write_text-4.ensures.front c.name.ensures)

pub returns-in_err-write_text-5-clause-front : goal.returns-in_err-write_text-5-clause-front
returns-in_err-write_text-5-clause-front g c = on_err c.from_residual-in_err-write_text-5.result _ (cut_five _ c.args.fault _ _ (has_four _ c.args.fault _ _ _ (has_three _ c.args.fault _ _ (has_two _ c.args.fault _ _ _ c.in_ok-write_text.ensures.whole c.in_ok-write_text-2.ensures.whole (c.format.ensures.text ∙ ap decimal c.number.ensures)) c.in_ok-write_text-3.ensures.whole) c.in_ok-write_text-4.ensures.whole c.name.ensures) c.in_err-write_text-5.ensures.front)

pub returns-in_err-write_text-6-clause-front : goal.returns-in_err-write_text-6-clause-front
returns-in_err-write_text-6-clause-front g c = on_err c.from_residual-in_err-write_text-6.result _ (cut_six _ c.args.fault _ _ _ (has_five _ c.args.fault _ _ (has_four _ c.args.fault _ _ _ (has_three _ c.args.fault _ _ (has_two _ c.args.fault _ _ _ c.in_ok-write_text.ensures.whole c.in_ok-write_text-2.ensures.whole (c.format.ensures.text ∙ ap decimal c.number.ensures)) c.in_ok-write_text-3.ensures.whole) c.in_ok-write_text-4.ensures.whole c.name.ensures) c.in_ok-write_text-5.ensures.whole) c.in_err-write_text-6.ensures.front c.format-2.ensures.text)

pub returns-clause-whole : goal.returns-clause-whole
returns-clause-whole g c = map_ok c.write_text-7.result _ _ (λ w. has_all _ c.args.fault _ _ (has_six _ c.args.fault _ _ _ (has_five _ c.args.fault _ _ (has_four _ c.args.fault _ _ _ (has_three _ c.args.fault _ _ (has_two _ c.args.fault _ _ _ c.in_ok-write_text.ensures.whole c.in_ok-write_text-2.ensures.whole (c.format.ensures.text ∙ ap decimal c.number.ensures)) c.in_ok-write_text-3.ensures.whole) c.in_ok-write_text-4.ensures.whole c.name.ensures) c.in_ok-write_text-5.ensures.whole) c.in_ok-write_text-6.ensures.whole c.format-2.ensures.text) w) c.write_text-7.ensures.whole

pub returns-clause-front : goal.returns-clause-front
returns-clause-front g c = map_err c.write_text-7.result _ _ (λ v. cut_seven _ c.args.fault _ _ (has_six _ c.args.fault _ _ _ (has_five _ c.args.fault _ _ (has_four _ c.args.fault _ _ _ (has_three _ c.args.fault _ _ (has_two _ c.args.fault _ _ _ c.in_ok-write_text.ensures.whole c.in_ok-write_text-2.ensures.whole (c.format.ensures.text ∙ ap decimal c.number.ensures)) c.in_ok-write_text-3.ensures.whole) c.in_ok-write_text-4.ensures.whole c.name.ensures) c.in_ok-write_text-5.ensures.whole) c.in_ok-write_text-6.ensures.whole c.format-2.ensures.text) v) c.write_text-7.ensures.front
