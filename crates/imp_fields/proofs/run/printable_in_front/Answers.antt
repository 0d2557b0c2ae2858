use Rattle.imp_fields.proofs.Common.{arith, is_printable, sym, ◌∙◌}
use Rattle.imp_fields.proofs.Runs.{behind_length, passes_on, run_goes_on}
use Rattle.imp_fields.proofs.run.printable_in_front.Goals as goal

pub loop-eight-preserved : goal.loop-eight-preserved
loop-eight-preserved c = (
  omega (arith, c.in-Some.ensures.cases.enough, behind_length c.loop-eight.len c.args.text.now, c.loop-eight.invariant.0),
  passes_on is_printable c.loop-eight.len 8 c.args.text.now c.in-Some.eight.now c.in-Some.ensures.cases.same c.loop-eight.invariant.1
      (sym c.are_printable.ensures ∙ c.if-not-are_printable.false),
)

pub returns-clause-run : goal.returns-clause-run
returns-clause-run c =
    run_goes_on is_printable c.loop-eight.len c.few_printable_in_front.result c.args.text.now c.loop-eight.invariant.0 c.loop-eight.invariant.1 c.few_printable_in_front.ensures.run
