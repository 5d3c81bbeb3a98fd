use Rattle.std.proofs.Common.{◌∙◌, ◌-◌, ℕ, ap, arith, sym}
use Rattle.std.specs.Prelude.{not}
use Rattle.std.specs.List.{count_by}
use Rattle.seg_bits.specs.BitSets.{member_count}
use Rattle.seg_open.specs.OpenSegment.{OpenSegment}
use Rattle.seg_open.proofs.DocumentMarks.{few_deleted, left_alive}
use Rattle.seg_open.proofs.segment_reader.SegmentReader.num_docs.Goals as goal

pub overflow_sub-result : goal.overflow_sub-result
overflow_sub-result c =
    omega (arith, few_deleted c.self.inside.max_doc c.self.inside.alive c.self.invariant.1, c.num_deleted_docs.ensures, ap (λ (s : OpenSegment). count_by not s.alive) c.self.view_is)

pub returns : goal.returns
returns c =
    ap (λ (n : ℕ). c.self.inside.max_doc - n) (c.num_deleted_docs.ensures ∙ sym (ap (λ (s : OpenSegment). count_by not s.alive) c.self.view_is))
    ∙ left_alive c.self.inside.max_doc c.self.inside.alive c.self.invariant.1 ∙ ap (λ (s : OpenSegment). member_count s.alive) c.self.view_is
