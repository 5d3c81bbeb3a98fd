use Rattle.std.proofs.Common.{◌∙◌, ap}
use Rattle.std.specs.Prelude.{not}
use Rattle.std.specs.List.{list_all}
use Rattle.seg_open.specs.OpenSegment.{OpenSegment}
use Rattle.seg_open.proofs.DocumentMarks.{marked_some}
use Rattle.seg_open.proofs.segment_reader.SegmentReader.has_deletes.Goals as goal

pub returns : goal.returns
returns c =
    c.is_some.ensures ∙ marked_some c.self.inside.max_doc c.self.inside.alive c.self.invariant.1
    ∙ ap (λ (s : OpenSegment). not (list_all (λ b. b) s.alive)) c.self.view_is
