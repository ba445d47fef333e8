-- the properties, the partitions and the ending, one after another
use Rattle.std.proofs.Common.{◌++◌, refl}
use Rattle.plinq_keyed.specs.Keys.{element_lists}
use Rattle.plinq_lines.specs.PartsText.{properties_line, part_lines}
use Rattle.plinq_lines.specs.AnswerText.{line, ending_words}
use Rattle.plinq_lines.proofs.PartWritten.{none-written, piece-failed, piece-written, rest-writes}
use Rattle.plinq_lines.proofs.parts_lines.write_parts.Goals as goal

pub returns-in_err-write_properties : goal.returns-in_err-write_properties
returns-in_err-write_properties g c =
    piece-failed _ _ (properties_line c.args.properties) (part_lines 0 (element_lists c.args.partitions.now) ++ line (ending_words c.args.ending))
    (none-written _ _)
    refl c.from_residual.ensures.0 c.in_err-write_properties.ensures

pub returns-in_err-write_partitions : goal.returns-in_err-write_partitions
returns-in_err-write_partitions g c =
    let parts = part_lines 0 (element_lists c.args.partitions.now) in
    let end = line (ending_words c.args.ending) in
    piece-failed _ _ parts end (piece-written _ (properties_line c.args.properties) (parts ++ end) (none-written _ _) refl c.in_ok-write_properties.ensures)
    refl c.from_residual-in_err-write_partitions.ensures.0 c.in_err-write_partitions.ensures

pub returns : goal.returns
returns g c =
    let parts = part_lines 0 (element_lists c.args.partitions.now) in
    let end = line (ending_words c.args.ending) in
    rest-writes _ _ end
    (piece-written _ parts end (piece-written _ (properties_line c.args.properties) (parts ++ end) (none-written _ _) refl c.in_ok-write_properties.ensures)
    refl c.in_ok-write_partitions.ensures)
    refl c.write_ending.ensures
