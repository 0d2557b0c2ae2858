use Rattle.cli_words.specs.Sorted.{option_texts}
use Rattle.cli_words.proofs.Sorting.{apart_first, joined_first, some_more}
use Rattle.cli_words.proofs.words.+begins_with.Goals as goal

pub returns-in-Some : goal.returns-in-Some
returns-in-Some g t c =
    some_more c.begins_with.result _ _
    (λ found begins. joined_first g.S.AsStr.text (option_texts c.args.options) (option_texts c.in_ok-with.field-0) (option_texts found.0) c.args.words.now c.in_ok-word.rest.now
    c.in_ok-word.word.now c.in-Some.name.now c.in-Some.value.now found.1.now c.as_str-word.result.now c.in_ok-word.ensures.cases c.as_str-word.ensures c.in-Some.ensures c.in_ok-with.ensures begins)
    c.begins_with.ensures

pub returns : goal.returns
returns g t c =
    some_more c.begins_with-2.result _ _
    (λ found begins. apart_first g.S.AsStr.text (option_texts c.args.options) (option_texts c.in_ok-with-2.field-0) (option_texts found.0) c.args.words.now c.in_ok-word.rest.now
    c.in_ok-value.rest.now c.in_ok-word.word.now c.in_ok-value.value.now found.1.now c.as_str-word.result.now c.as_str.result.now c.in_ok-word.ensures.cases c.in_ok-value.ensures.cases
    c.as_str-word.ensures c.as_str.ensures c.in_ok-with-2.ensures begins)
    c.begins_with-2.ensures
