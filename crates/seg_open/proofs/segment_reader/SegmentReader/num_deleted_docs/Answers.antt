use Rattle.std.proofs.Common.{◌∙◌, ap}
use Rattle.std.specs.Prelude.{not}
use Rattle.std.specs.List.{count_by}
use Rattle.seg_open.specs.OpenSegment.{OpenSegment}
use Rattle.seg_open.proofs.DocumentMarks.{none_deleted}
use Rattle.seg_open.proofs.segment_reader.SegmentReader.num_deleted_docs.Goals as goal

pub returns-in-None : goal.returns-in-None
returns-in-None c =
    none_deleted c.self.inside.max_doc c.self.inside.alive c.in-None.is ∙ ap (λ (s : OpenSegment). count_by not s.alive) c.self.view_is
