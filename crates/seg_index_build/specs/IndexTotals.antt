-- The token totals that the files of both indexes tell.
use Rattle.std.specs.Prelude.{ℕ, List, [], ◌∷◌, cond, Option}
use Rattle.std.specs.List.{list_any}
use Rattle.seg_values.specs.declared.schema.FieldEntry.{FieldEntry}
use Rattle.seg_directory.specs.Files.{NamedFiles}
use Rattle.seg_model.specs.TokenEstimate.{joined_estimate}
use Rattle.seg_model.specs.Fields.{Schema, Analyzer}
use Rattle.seg_model.specs.Input.{Filter, Input, input_batches}
use Rattle.seg_model.specs.Join.{Part}
use Rattle.seg_model.specs.Laws.{AreReadingsOf}
use Rattle.seg_model.specs.Operations.{Batch, filtered_by}
use Rattle.seg_batches.specs.BatchTotals.{AllHaveTotals, HasTotals, documents_total}
use Rattle.seg_index_build.specs.IndexFiles.{output_id, work_ids}

-- the work index tells of each batch how often the terms of its documents occur, deleted documents too
abbrev pub HasWorkTotals : Analyzer → Input → NamedFiles → Type 0
HasWorkTotals analyzer input files =
    AllHaveTotals input.schema analyzer files (work_ids input.ids) (input_batches analyzer input)

-- the batches with a document that later deletes leave, each cut by its filter
abbrev pub merged_batches : List (Option Filter) → List Batch → List Batch
merged_batches filters [] = []
merged_batches [] (batch ∷ batches) = []
merged_batches (filter ∷ filters) (batch ∷ batches) =
    cond (list_any (λ b. b) batch.alive)
    (record { documents = batch.documents; alive = filtered_by filter batch.alive } ∷ merged_batches filters batches)
    (merged_batches filters batches)

-- parts, each with the total that the documents of its batch have in a field
abbrev pub with_totals : Schema → Analyzer → ℕ × FieldEntry → List Batch → List Part → List (Part × ℕ)
with_totals schema analyzer f [] parts = []
with_totals schema analyzer f (batch ∷ batches) [] = []
with_totals schema analyzer f (batch ∷ batches) (part ∷ parts) =
    (part, documents_total schema analyzer batch.documents f) ∷ with_totals schema analyzer f batches parts

-- the output index tells the estimate over what is read of the batches with a live document, each cut by its filter
pub record HasOutputTotals (analyzer : Analyzer) (input : Input) (files : NamedFiles) : Type 0 where
  pub parts : List Part
  pub read : AreReadingsOf input.schema analyzer (merged_batches input.filters (input_batches analyzer input)) parts
  pub tells : HasTotals files (output_id input.ids) input.schema (λ f. joined_estimate f
      (with_totals input.schema analyzer f (merged_batches input.filters (input_batches analyzer input)) parts))
