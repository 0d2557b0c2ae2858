use Rattle.input_reasons.proofs.Common.{ap, codes, dropped_object, filter_map, list_text, map, message_members, passed_object, read_object, ◌++◌, ◌∙◌}
use Rattle.serde_json.specs.Data.{boolean}
use Rattle.serde_json.specs.Written.{compact_text}
use Rattle.input_reasons.proofs.Texts.{flag_is, told}
use Rattle.input_reasons.proofs.as_object.look_object.Goals as goal

pub returns : goal.returns
returns c =
    let message = c.in_ok-message.ensures ∙ ap message_members c.content.ensures.value in
    let dropped = c.in_ok-dropped.ensures ∙ ap (λ lines. list_text (map dropped_object lines)) c.as_slice.ensures.value in
    let read = c.in_ok-read.ensures ∙ ap (λ lines. list_text (filter_map read_object lines)) c.as_slice-2.ensures.value in
    let passed = c.in_ok-passed.ensures ∙ ap (λ lines. list_text (filter_map passed_object lines)) c.as_slice-3.ensures.value in
    let doubtful = flag_is c.is_doubtful-doubtful.result ∙ ap (λ b. compact_text (boolean b)) c.is_doubtful-doubtful.ensures in
    record {
      text =
          told c.format.result _ _
          (λ i. codes "{" ++ (message i ++ (codes ",\"dropped\":" ++ (dropped i ++ (codes ",\"read\":" ++ (read i ++ (codes ",\"passed\":"
          ++ (passed i ++ (codes ",\"doubtful\":" ++ (doubtful i ++ codes "}"))))))))))
          c.format.ensures.ok;
    }
