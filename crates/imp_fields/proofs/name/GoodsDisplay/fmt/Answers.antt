use Rattle.imp_fields.proofs.Ascii.{IsAscii-goods}
use Rattle.imp_fields.proofs.name.GoodsDisplay.fmt.Goals as goal

pub ascii_text-requires : goal.ascii_text-requires
ascii_text-requires g c = IsAscii-goods c.as_bytes.result.now c.as_bytes.ensures.valid
