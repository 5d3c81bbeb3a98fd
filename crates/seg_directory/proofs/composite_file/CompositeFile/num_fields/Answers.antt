use Rattle.std.proofs.Common.{sym, ap, ◌∙◌, length}
use Rattle.seg_directory.proofs.CompositeTables.{length-parts_of}
use Rattle.seg_directory.proofs.composite_file.CompositeFile.num_fields.Goals as goal

pub returns : goal.returns
returns c = c.self.invariant.1 ∙ sym (length-parts_of c.self.inside.bytes) ∙ ap length c.self.view_is
