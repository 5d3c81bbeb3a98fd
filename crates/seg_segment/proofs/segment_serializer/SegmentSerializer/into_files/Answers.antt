use Rattle.std.proofs.Common.{refl, subst}
use Rattle.seg_segment.specs.SegmentSerializers.{Serializing, IsLaidOut}
use Rattle.seg_segment.proofs.LaidOutFiles.{laid_out}
use Rattle.seg_segment.proofs.segment_serializer.SegmentSerializer.into_files.Goals as goal

pub returns : goal.returns
returns c = subst (λ (s : Serializing). IsLaidOut s c.in-Ok-from_parts.files) c.self.view_is
    (laid_out _ c.in-Ok-close.terms _ _ _ c.in-Ok-from_parts.files c.in-Ok-from_parts.ensures c.in-Ok-close.ensures.ok c.in-Ok-close.ensures.kept c.in-Ok-close-2.ensures.ok.0 c.in-Ok-close-2.ensures.ok.1 refl c.in-Ok.ensures)
