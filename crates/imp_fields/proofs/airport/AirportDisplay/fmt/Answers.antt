use Rattle.imp_fields.proofs.Ascii.{IsAscii-airport}
use Rattle.imp_fields.proofs.airport.AirportDisplay.fmt.Goals as goal

pub ascii_text-requires : goal.ascii_text-requires
ascii_text-requires g c = IsAscii-airport c.letters.result c.letters.ensures.letters
