use Rattle.std.proofs.Common.{◌≡◌, ◌∙◌, Some, ap, map}
use Rattle.std.specs.Prelude.{ℕ, Vec}
use Rattle.std.specs.declared.alloc.Global.{Global}
use Rattle.std.proofs.lemmas.Result.{IfOk-weaker}
use Rattle.seg_model.specs.Fields.{fields}
use Rattle.seg_model.specs.Join.{joined_norms}
use Rattle.seg_directory.specs.CompositeFiles.{composite}
use Rattle.seg_norms.specs.FieldNorms.{fields_with_lengths, norms_parts}
use Rattle.seg_segment.specs.WrittenLengths.{parts_with}
use Rattle.seg_merger.specs.JoinedNorms.{joined_ids}
use Rattle.seg_open.specs.OpenSegment.{part_of}
use Rattle.seg_merger.proofs.JoinedNorms.{parts_are}
use Rattle.seg_merger.proofs.joined_norms.join_norms.Goals as goal

pub returns : goal.returns
returns c =
    let schema = c.args.schema.now in
    let parts = c.args.parts.now in
    IfOk-weaker c.write_lengths.result
    (λ (file : Vec ℕ Global). composite file.items ≡ Some (parts_with (joined_ids parts) (fields_with_lengths schema)))
    (λ (file : Vec ℕ Global). composite file.items ≡ Some (norms_parts schema (map (joined_norms (map part_of parts)) (fields schema))))
    (λ file is. is ∙ ap Some (parts_are schema parts c.requires.schema))
    c.write_lengths.ensures
