use Rattle.desk_commands.proofs.Common.{IfSome, List, None, Option, Some, Verb, ap, sym, verb_called, word, ℕ, ◌∙◌, ◌≡◌}
use Rattle.desk_commands.proofs.Words.{called_again, called_is}
use Rattle.desk_commands.proofs.verb.Verb.read.Goals as goal

read_is : (r : Option Verb) (text : List ℕ) → r ≡ verb_called text → IfSome r (λ v. word v ≡ text)
read_is None text e = tt
read_is (Some v) text e = called_is text v (sym e)

pub returns-clause-some : goal.returns-clause-some
returns-clause-some c = read_is c.of_word.result c.args.text.now c.of_word.ensures

pub returns-clause-only : goal.returns-clause-only
returns-clause-only c verb h = c.of_word.ensures ∙ ap verb_called (sym h) ∙ called_again verb
