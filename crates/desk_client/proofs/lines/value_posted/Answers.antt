use Rattle.desk_client.proofs.Common.{posted_request, string_bytes, view}
use Rattle.desk_client.proofs.Posts.{framed}
use Rattle.desk_client.proofs.lines.value_posted.Goals as goal

pub returns-in-Some : goal.returns-in-Some
returns-in-Some c =
    framed (view c.args.value.now) c.in-Some.framed.0 c.in-Some.framed.1 (view c.in-Some.framed.2.now) (string_bytes c.in_ok-text.text) (posted_request c.command_posted.result)
    c.in-Some.ensures.some c.in_ok-text.ensures.reads_back c.command_posted.ensures
