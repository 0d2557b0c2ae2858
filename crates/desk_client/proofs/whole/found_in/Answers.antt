use Rattle.std.proofs.Common.{rules, ◌≤◌, length}
use Rattle.desk_client.proofs.Found.{parsed_short, parsed_never}
use Rattle.desk_client.proofs.whole.found_in.Goals as goal

pub returns-in-Short : goal.returns-in-Short
returns-in-Short c =
    let of_head = rw c.in-Ok-Complete.field-0-is at c.in-Ok-Complete.ensures.complete in
    let room : length c.parse_response.new.headers ≤ 16 = search rules in
    parsed_short c.args.bytes.now c.parse_response.new.headers c.in-Ok-Complete.spans of_head room c.in-Short.ensures

pub returns-in-Never : goal.returns-in-Never
returns-in-Never c =
    let of_head = rw c.in-Ok-Complete.field-0-is at c.in-Ok-Complete.ensures.complete in
    parsed_never c.args.bytes.now c.parse_response.new.headers c.in-Ok-Complete.spans of_head c.in-Never.ensures
