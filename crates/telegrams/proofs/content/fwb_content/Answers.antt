use Rattle.telegrams.proofs.Common.{arith, fwb_fault, line_texts}
use Rattle.telegrams.proofs.Bounds.{fwb_within}
use Rattle.telegrams.proofs.PlainLines.{second_plain, few_texts}
use Rattle.telegrams.proofs.content.fwb_content.Goals as goal

pub cargo_line-requires : goal.cargo_line-requires
cargo_line-requires c = second_plain c.args.lines.now.lines.items c.in-Ok.message.consignment c.args.lines.now.printable c.in-Ok.ensures.spans

pub refusal-requires : goal.refusal-requires
refusal-requires c =
    let within = fwb_within (line_texts c.args.lines.now) c.in-Err.told c.in-Err.ensures.fault in
    let few = few_texts c.args.lines.now.lines.items c.args.lines.now.few in
    omega (arith, within, few)

pub returns-in-Err-clause-refused : goal.returns-in-Err-clause-refused
returns-in-Err-clause-refused c = c.refusal.ensures.text (fwb_fault (line_texts c.args.lines.now)) c.in-Err.ensures.fault
