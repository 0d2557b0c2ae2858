use Rattle.desk_commands.proofs.Common.{List, Option, [], ap, places_say, verb_called, ℕ, ◌∙◌, ◌∷◌}
use Rattle.desk_commands.proofs.TextLaws.{lines_read}
use Rattle.desk_commands.proofs.lines.read_lines.Goals as goal

pub returns : goal.returns
returns c =
    let lines : List (Option (List ℕ)) = c.args.line_0 ∷ c.args.line_1 ∷ c.args.line_2 ∷ c.args.line_3 ∷ c.args.line_4 ∷ c.args.line_5 ∷ [] in
    c.command_of.ensures
    ∙ lines_read c.args.word lines c.in_ok-verb.verb c.in_ok-values.values (c.in_ok-verb.ensures ∙ ap verb_called c.as_bytes.ensures)
    (c.in_ok-values.ensures ∙ ap (λ p. places_say p lines) c.places.ensures)
