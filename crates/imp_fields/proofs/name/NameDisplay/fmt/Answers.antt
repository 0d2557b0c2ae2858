use Rattle.imp_fields.proofs.Ascii.{IsAscii-name}
use Rattle.imp_fields.proofs.name.NameDisplay.fmt.Goals as goal

pub ascii_text-requires : goal.ascii_text-requires
ascii_text-requires g c = IsAscii-name c.as_bytes.result.now c.as_bytes.ensures.valid
