use Rattle.std.proofs.Output.{has_written_of_eq}
use Rattle.shipment_machine.proofs.AmountTexts.{amount_written}
use Rattle.shipment_machine.proofs.moves.AmountDisplay.fmt.Goals as goal

pub returns-clause-writes : goal.returns-clause-writes
returns-clause-writes g c =
    let a = c.args.self.now in
    λ plain ok. has_written_of_eq _ _ _ _ _ (amount_written a.pieces a.tenths c.pieces_word-word.result.now c.pieces_word-word.ensures) (c.write.ensures.writes plain ok)
