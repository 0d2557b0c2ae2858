use Rattle.imp_fields.proofs.Ascii.{IsAscii-flight}
use Rattle.imp_fields.proofs.flight.FlightDisplay.fmt.Goals as goal

pub ascii_text-requires : goal.ascii_text-requires
ascii_text-requires g c = rw (c.write-len.ensures.text) (IsAscii-flight c.args.self.now c.write-len.ensures.designator)
