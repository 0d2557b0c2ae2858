use Rattle.telegrams.proofs.Common.{IsManifestAgain, IsNormalManifest, List, ManifestLine, subst}
use Rattle.telegrams.proofs.NoticeLaws.{manifest_normal, manifest_again}
use Rattle.telegrams.proofs.content.manifest_known.Goals as goal

pub returns-clause-normal : goal.returns-clause-normal
returns-clause-normal c =
    subst (λ (ls : List ManifestLine). IsNormalManifest c.args.here.now c.args.flight.now c.args.unload.now ls) c.as_slice.ensures.value
    (manifest_normal c.args.here.now c.args.flight.now c.args.unload.now c.as_slice.result.now c.parts_known.ensures)

pub returns-clause-read_again : goal.returns-clause-read_again
returns-clause-read_again c =
    subst (λ (ls : List ManifestLine). IsManifestAgain c.args.here.now c.args.flight.now c.args.unload.now ls) c.as_slice.ensures.value
    (manifest_again c.args.here.now c.args.flight.now c.args.unload.now c.as_slice.result.now c.parts_known.ensures)
