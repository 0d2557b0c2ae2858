use Rattle.http_desk.proofs.Common.{ap, in_form, option_map, ◌∙◌}
use Rattle.reports.specs.declared.layout.Form.TheVariants as form
use Rattle.http_desk.proofs.Endings.{not_json}
use Rattle.http_desk.proofs.printout.printout_at.Goals as goal

pub returns-in-None : goal.returns-in-None
returns-in-None c =
    rw (not_json c.args.path.now c.in-None.ensures.cases) (c.in_form-in-None.ensures ∙ ap (option_map (in_form form.Text)) c.rows_at-in-None.ensures)
