use Rattle.std.proofs.Common.{inl}
use Rattle.desk_client.proofs.looks.ask_number.Goals as goal

pub returns-in-Ok : goal.returns-in-Ok
returns-in-Ok g c = inl (c.in-Ok.answer, c.in-Ok.ensures, c.show_object.ensures)
