use Rattle.std.proofs.Common.{◌≡◌, ◌<◌, ◌^◌, length, refl, sym, ap, ◌∙◌, arith, subst}
use Rattle.std.specs.List.{AllByRecursion}
use Rattle.seg_model.specs.Fields.{Schema}
use Rattle.seg_build.specs.FieldTerms.{recorded_fields}
use Rattle.seg_build.specs.SegmentWriters.{kept_of}
use Rattle.seg_build.specs.WritableTerms.{CanBeWritten}
use Rattle.seg_build.specs.declared.fields.IndexedBatch.{IndexedBatch}
use Rattle.seg_build.proofs.FilledFiles.{made_blocks, made_stand, made_totals}
use Rattle.seg_build.proofs.KeptBatch.{listed, are_writable, as_many_fields, as_many_recorded, are_fields, few_stamps}
use Rattle.seg_build.proofs.KeptColumns.{AreColumnsOf, not_made, starved}
use Rattle.seg_build.proofs.finished_segment.memory_segment.Goals as goal

pub sorted-requires-clause-writable : goal.sorted-requires-clause-writable
sorted-requires-clause-writable c =
    let u = c.requires.under_way in
    let same : c.fields.result.now ≡ c.args.segment.schema = c.fields.ensures ∙ c.schema.ensures in
    subst (λ (s : Schema). AllByRecursion CanBeWritten (recorded_fields s (listed c.args.parts.fields.items))) (sym same)
    (are_writable c.args.segment.schema u.0 u.1.block_size u.1.documents u.1.stamps (kept_of c.args.parts) u.1.are)

pub sorted-requires-clause-as_many : goal.sorted-requires-clause-as_many
sorted-requires-clause-as_many c =
    let u = c.requires.under_way in
    let same : c.fields.result.now ≡ c.args.segment.schema = c.fields.ensures ∙ c.schema.ensures in
    as_many_fields c.args.segment.schema u.0 u.1.block_size u.1.documents u.1.stamps (kept_of c.args.parts) u.1.are ∙ ap length (sym same)

pub filled-requires : goal.filled-requires
filled-requires c =
    let u = c.requires.under_way in
    let same : c.fields.result.now ≡ c.args.segment.schema = c.fields.ensures ∙ c.schema.ensures in
    as_many_recorded c.args.segment.schema u.0 u.1.block_size u.1.documents u.1.stamps (kept_of c.args.parts) u.1.are c.in-Ok-sorted.fields (c.in-Ok-sorted.ensures ∙ ap (λ (s : Schema). recorded_fields s (listed c.args.parts.fields.items)) same)

pub returns-in-Err-clause-fails : goal.returns-in-Err-clause-fails
returns-in-Err-clause-fails c =
    let u = c.requires.under_way in
    not_made c.args.segment.schema (kept_of c.args.parts) c.in-Err.e c.in-Err.ensures.err u.0 u.1

pub returns-in_default-clause-fails : goal.returns-in_default-clause-fails
returns-in_default-clause-fails c =
    let made : AreColumnsOf (kept_of c.args.parts) c.in-Ok.columns.items = record { file = c.in-Ok.ensures.file.0; rows = c.in-Ok.ensures.file.1; are = c.in-Ok.ensures.columns } in
    starved c.args.segment.schema (kept_of c.args.parts) c.in-Ok.columns.items made

pub returns-clause-made : goal.returns-clause-made
returns-clause-made c =
    let same : c.fields.result.now ≡ c.args.segment.schema = c.fields.ensures ∙ c.schema.ensures in
    let recorded = c.in-Ok-sorted.ensures ∙ ap (λ (s : Schema). recorded_fields s (listed c.args.parts.fields.items)) same in
    let columns = c.in-Ok.columns.items in
    let columns_made : AreColumnsOf (kept_of c.args.parts) columns = record { file = c.in-Ok.ensures.file.0; rows = c.in-Ok.ensures.file.1; are = c.in-Ok.ensures.columns } in
    let batch : IndexedBatch = record { fields = c.in-Ok-sorted.fields; norms = c.in-Ok-with_all_lengths.norms } in
    record {
      stand = λ analyzer size documents stamps are.
          let few : length c.args.parts.stamps.items < 2 ^ 31 = few_stamps c.args.segment.schema analyzer size documents stamps (kept_of c.args.parts) are in
          made_stand c.args.segment analyzer size documents stamps (kept_of c.args.parts) are batch c.len.result recorded c.in-Ok-with_all_lengths.ensures (omega (arith, c.len.ensures, few)) columns columns_made c.in-Ok-filled.serializer c.in-Ok-filled.ensures c.in-Ok-into_files.files c.in-Ok-into_files.ensures;
      fields = λ analyzer size documents stamps are. are_fields c.args.segment.schema analyzer size documents stamps (kept_of c.args.parts) are c.in-Ok-sorted.fields recorded;
      blocks = λ analyzer size documents stamps are.
          let few : length c.args.parts.stamps.items < 2 ^ 31 = few_stamps c.args.segment.schema analyzer size documents stamps (kept_of c.args.parts) are in
          made_blocks c.args.segment analyzer size documents stamps (kept_of c.args.parts) are batch c.len.result recorded c.in-Ok-with_all_lengths.ensures (omega (arith, c.len.ensures, few)) columns columns_made c.in-Ok-filled.serializer c.in-Ok-filled.ensures c.in-Ok-into_files.files c.in-Ok-into_files.ensures;
      totals = made_totals c.args.segment (kept_of c.args.parts).store columns batch c.in-Ok-filled.serializer c.in-Ok-filled.ensures c.in-Ok-into_files.files c.in-Ok-into_files.ensures;
      stamps = refl;
    }
