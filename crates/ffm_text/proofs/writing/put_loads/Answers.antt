use Rattle.ffm_text.proofs.Common.{ap, line_text, load_line, map, sent_text, take, ◌++◌, ◌∙◌}
use Rattle.ffm_text.proofs.Appended.{begins_behind, sent_one_more}
use Rattle.ffm_text.proofs.writing.put_loads.Goals as goal

pub returns-in_err-put_load-clause-begins : goal.returns-in_err-put_load-clause-begins
returns-in_err-put_load-clause-begins c =
    begins_behind c.args.out.now.items c.loop-load.out.items c.put_load.new.out.items (sent_text (map load_line (take c.loop-load.load-index c.args.loads.now)))
    c.loop-load.invariant c.in_err-put_load.ensures.begins

pub loop-load-preserved : goal.loop-load-preserved
loop-load-preserved c =
    let out = c.loop-load.out.items in
    sent_one_more load_line c.args.loads.now c.loop-load.load-index c.load-item.result c.args.out.now.items out c.put_load.new.out.items c.loop-load-test.true
    c.loop-load.invariant (c.in_ok-put_load.ensures.text ∙ ap (λ l. out ++ line_text (load_line l)) c.load-item.is)
