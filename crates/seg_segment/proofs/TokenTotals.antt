-- The totals that a file of postings tells once the terms of its fields are written.
use Rattle.std.proofs.Common.{◌≡◌, ℕ, List, Some, ap, ◌∙◌}
use Rattle.std.specs.Prelude.{option_map, option_and_then}
use Rattle.seg_common.specs.LittleEndian.{u64_at}
use Rattle.seg_values.specs.declared.schema.FieldEntry.{FieldEntry}
use Rattle.seg_model.specs.Fields.{Schema}
use Rattle.seg_directory.specs.CompositeFiles.{Part, composite, field_of}
use Rattle.seg_postings.specs.FieldSerializers.{TermWritten}
use Rattle.seg_postings.specs.FieldFiles.{FieldFiles}
use Rattle.seg_segment.specs.WrittenFields.{HaveFields}
use Rattle.seg_segment.specs.TokenTotals.{TellTotals}

-- a file with these parts tells the total of each indexed field
pub told_totals : (total : ℕ → ℕ) (Has : ℕ → List TermWritten → Type 0) (schema : Schema) (files : FieldFiles) (postings : List ℕ)
    → HaveFields total Has schema files → composite postings ≡ Some files.postings
    → TellTotals schema (λ f. total f.0) postings
told_totals total Has schema files postings have file field entry at on =
    let part = have.each field entry at on in
    ap (λ o. option_map (λ (bytes : List ℕ). u64_at bytes 0) (option_and_then (λ (parts : List Part). field_of parts field) o)) file
    ∙ ap (option_map (λ (bytes : List ℕ). u64_at bytes 0)) part.in_postings
    ∙ ap Some (have.totals field part.postings part.in_postings)
