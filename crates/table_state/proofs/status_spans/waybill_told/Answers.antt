use Rattle.std.proofs.Common.{Ok, ap, rules, take, ◌∙◌, ◌≡◌}
use Rattle.std.proofs.lemmas.List.{take_rest}
use Rattle.std.specs.Prelude.{slice_range}
use Rattle.table_state.proofs.StatusParts.{told_number}
use Rattle.table_state.proofs.status_spans.waybill_told.Goals as goal

pub returns : goal.returns
returns c = λ n w is about.
    let chunk : c.in_ok-first_chunk.field-0.now ≡ slice_range c.args.text.now 8 20 = c.in_ok-first_chunk.ensures.cases.same ∙ ap (take 12) (take_rest c.args.text.now 8) in
    let read : c.read.result ≡ Ok w = c.read.ensures.only w (is, chunk ∙ told_number c.args.text.now n w about) in
    search rules
