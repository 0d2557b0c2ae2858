use Rattle.std.proofs.Common.{string_bytes}
use Rattle.desk_client.proofs.OrderTexts.{of_order}
use Rattle.desk_client.proofs.order.order_body.Goals as goal

pub returns-in-TakeIn : goal.returns-in-TakeIn
returns-in-TakeIn c = of_order c.run_body.result string_bytes _ _ c.in-TakeIn.is c.run_body.ensures.run c.run_body.ensures.text

pub returns-in-Issue : goal.returns-in-Issue
returns-in-Issue c = of_order c.agents_body.result string_bytes _ _ c.in-Issue.is (c.agents_body.ensures.run, c.agents_body.ensures.agent) c.agents_body.ensures.text

pub returns-in-GiveBack : goal.returns-in-GiveBack
returns-in-GiveBack c =
    of_order c.agents_body-in-GiveBack.result string_bytes _ _ c.in-GiveBack.is (c.agents_body-in-GiveBack.ensures.run, c.agents_body-in-GiveBack.ensures.agent)
    c.agents_body-in-GiveBack.ensures.text

pub returns-in-Void : goal.returns-in-Void
returns-in-Void c = of_order c.run_body-in-Void.result string_bytes _ _ c.in-Void.is c.run_body-in-Void.ensures.run c.run_body-in-Void.ensures.text
