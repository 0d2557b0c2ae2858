use Rattle.station_core.proofs.Common.{IsAscii, subst, sym}
use Rattle.station_core.proofs.Keys.{IsAscii-key}
use Rattle.station_core.proofs.key.Key.as_str.Goals as goal

pub ascii_text-requires : goal.ascii_text-requires
ascii_text-requires c = subst IsAscii (sym c.as_bytes.ensures.value) (IsAscii-key c.args.self.now c.as_bytes.ensures.valid)
