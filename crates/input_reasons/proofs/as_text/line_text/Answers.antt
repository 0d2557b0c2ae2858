use Rattle.input_reasons.proofs.Common.{ap, codes, decimal, part_text, sym, ◌++◌, ◌∙◌}
use Rattle.input_reasons.proofs.Texts.{told}
use Rattle.input_reasons.proofs.as_text.line_text.Goals as goal

pub returns-in_ok-cargo-in-Declared : goal.returns-in_ok-cargo-in-Declared
returns-in_ok-cargo-in-Declared c =
    let line = c.args.line.now in
    told c.format.result _ _
    ((λ i. codes "line " ++ (decimal line.number ++ (codes ": " ++ (c.in_ok-cargo-in-Declared.ensures i ++ codes "\n"))))
    ∙ ap (part_text line.number line.text line.doubtful) (sym c.in-Declared.is))
    c.format.ensures.ok

pub returns-in_ok-cargo-in-Loaded : goal.returns-in_ok-cargo-in-Loaded
returns-in_ok-cargo-in-Loaded c =
    let line = c.args.line.now in
    told c.format-in-Loaded.result _ _
    ((λ i. codes "line " ++ (decimal line.number ++ (codes ": " ++ (c.in_ok-cargo-in-Loaded.ensures i ++ (codes " to " ++ (c.in-Loaded.loaded.unload ++ codes "\n"))))))
    ∙ ap (part_text line.number line.text line.doubtful) (sym c.in-Loaded.is))
    c.format-in-Loaded.ensures.ok
