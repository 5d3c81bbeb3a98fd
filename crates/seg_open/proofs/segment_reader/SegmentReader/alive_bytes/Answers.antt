use Rattle.std.proofs.Common.{◌∙◌, ◌+◌, ◌*◌, Bool, ap, sym}
use Rattle.std.specs.Prelude.{if◌then◌else◌}
use Rattle.std.specs.List.{list_all}
use Rattle.seg_bits.specs.BitSets.{words_for}
use Rattle.seg_open.specs.OpenSegment.{OpenSegment}
use Rattle.seg_open.proofs.DocumentMarks.{none_missing}
use Rattle.seg_open.proofs.segment_reader.SegmentReader.alive_bytes.Goals as goal

pub returns-in-None : goal.returns-in-None
returns-in-None c =
    ap (λ (b : Bool). if b then 0 else 4 + 8 * words_for c.self.inside.max_doc) (sym (none_missing c.self.inside.max_doc c.self.inside.alive c.in-None.is))
    ∙ ap (λ (s : OpenSegment). if list_all (λ b. b) s.alive then 0 else 4 + 8 * words_for s.documents) c.self.view_is
