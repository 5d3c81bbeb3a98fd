use Rattle.std.proofs.Common.{◌≡◌, ◌∙◌, Some, ap}
use Rattle.std.specs.Prelude.{ℕ, Vec}
use Rattle.std.specs.declared.alloc.Global.{Global}
use Rattle.std.proofs.lemmas.Result.{IfOk-weaker}
use Rattle.seg_directory.specs.CompositeFiles.{composite}
use Rattle.seg_norms.specs.FieldNorms.{fields_with_lengths}
use Rattle.seg_segment.specs.WrittenLengths.{parts_with}
use Rattle.seg_build.specs.SerializerContents.{HoldsNorms}
use Rattle.seg_build.specs.NormsFile.{kept_ids}
use Rattle.seg_build.proofs.NormParts.{kept_parts_are}
use Rattle.seg_build.proofs.norms_file.norms_file.Goals as goal

pub returns : goal.returns
returns c =
    let schema = c.args.schema.now in
    let batch = c.args.batch.now in
    IfOk-weaker c.write_lengths.result
    (λ (file : Vec ℕ Global). composite file.items ≡ Some (parts_with (kept_ids batch.norms) (fields_with_lengths schema)))
    (λ (file : Vec ℕ Global). HoldsNorms schema batch file.items)
    (λ file is analyzer documents kept. is ∙ ap Some (kept_parts_are schema analyzer documents batch.norms kept))
    c.write_lengths.ensures
