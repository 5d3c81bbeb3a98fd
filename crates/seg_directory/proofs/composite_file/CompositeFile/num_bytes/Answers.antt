use Rattle.std.proofs.Common.{ap, sym, ◌∙◌, length}
use Rattle.seg_directory.specs.CompositeBytes.{spelling}
use Rattle.seg_directory.proofs.CompositeBytes.{length-spelling}
use Rattle.seg_directory.proofs.composite_file.CompositeFile.num_bytes.Goals as goal

pub returns : goal.returns
returns c = c.len.ensures ∙ sym (length-spelling c.self.inside.bytes c.self.invariant.0) ∙ ap (λ ps. length (spelling ps)) c.self.view_is
