use Rattle.std.proofs.Common.{◌++◌, codes, string_bytes}
use Rattle.std.specs.Fmt.{decimal}
use Rattle.desk_commands.proofs.Written.{told}
use Rattle.cli_call.proofs.ended.version_line.Goals as goal

pub returns : goal.returns
returns c =
    told string_bytes c.format.result _ _
    (λ i. codes "cargo_desk " ++ (c.program_version-program.ensures i ++ (codes ", files of version " ++ (decimal (c.file_version-files.ensures i) ++ (codes ", proved with " ++ (c.kit-kit.ensures i ++ codes "\n"))))))
    c.format.ensures.ok
