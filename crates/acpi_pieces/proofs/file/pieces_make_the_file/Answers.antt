use Rattle.acpi_pieces.proofs.FilePieces.{made, one}
use Rattle.acpi_pieces.proofs.file.pieces_make_the_file.Goals as goal

pub returns-clause-whole : goal.returns-clause-whole
returns-clause-whole c = made

pub returns-clause-one : goal.returns-clause-one
returns-clause-one c = one
