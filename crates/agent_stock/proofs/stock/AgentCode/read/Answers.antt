use Rattle.agent_stock.proofs.Common.{ap, is_agent_code, sym, true, ◌∙◌, ◌≡◌}
use Rattle.awb_number.proofs.FilledUp.{IsFilledUp-written, take-written}
use Rattle.agent_stock.proofs.Codes.{length-code}
use Rattle.agent_stock.proofs.stock.AgentCode.read.Goals as goal

pub invariant_of-result : goal.invariant_of-result
invariant_of-result c =
    let text = c.args.text.now in
    let is_code : is_agent_code text ≡ true = sym c.is_code.ensures ∙ c.if-not-is_code.false in
    rw c.copy_from_slice.ensures.after (IsFilledUp-written 11 text (length-code text is_code), ap is_agent_code (take-written 11 text) ∙ is_code)
