use Rattle.shipment_machine.proofs.Common.{All, IsOnBoard, take}
use Rattle.shipment_machine.proofs.planning.are_on_board.Given as goal

abbrev pub invariant-loop-aboard : goal.invariant-loop-aboard
invariant-loop-aboard l = All IsOnBoard (take l.aboard-index l.loads)
