use Rattle.reports.proofs.Common.{ap, cell_text, codes, string_bytes, sym, told, ◌++◌, ◌∙◌}
use Rattle.serde_json.proofs.OnLiterals.{serde_json_on_literals}
use Rattle.reports.proofs.cells.members.Goals as goal

pub returns-in_ok-awb_text-in-Awb : goal.returns-in_ok-awb_text-in-Awb
unfolding serde_json_on_literals
returns-in_ok-awb_text-in-Awb c =
    told string_bytes c.member-in-Awb.result _ _
    ((λ i. codes "\"awb\":" ++ (c.as_str-in-Awb.ensures.value ∙ c.in_ok-awb_text-in-Awb.ensures) i) ∙ ap cell_text (sym c.in-Awb.is))
    c.member-in-Awb.ensures

pub returns-in-Serials : goal.returns-in-Serials
returns-in-Serials c = told string_bytes c.serial_members.result _ _ (ap cell_text (sym c.in-Serials.is)) c.serial_members.ensures
