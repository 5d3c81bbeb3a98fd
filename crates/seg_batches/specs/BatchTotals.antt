-- How many tokens the documents of a batch have, as its file of postings tells.
use Rattle.std.specs.Prelude.{ℕ, ◌-◌, ◌^◌, List, [], ◌∷◌, min, IsSomeAnd}
use Rattle.std.specs.FinMap.{entries, get}
use Rattle.seg_common.specs.declared.name.FileName.TheVariants.{Part}
use Rattle.seg_common.specs.declared.name.SegmentComponent.TheVariants.{Postings}
use Rattle.seg_values.specs.Tree.{Document}
use Rattle.seg_values.specs.declared.schema.FieldEntry.{FieldEntry}
use Rattle.seg_directory.specs.Files.{NamedFiles}
use Rattle.seg_model.specs.Fields.{Schema, Analyzer}
use Rattle.seg_model.specs.Operations.{Batch}
use Rattle.seg_model.specs.DocumentTerms.{field_terms}
use Rattle.seg_segment.specs.TokenTotals.{TellTotals}
use Rattle.seg_build.specs.TokenTotal.{token_total}

-- how often the terms of a field of documents occur in all, as far as the field records it, at most the greatest u64
abbrev pub documents_total : Schema → Analyzer → List Document → ℕ × FieldEntry → ℕ
documents_total schema analyzer documents f =
    min (2 ^ 64 - 1) (token_total (entries (field_terms schema analyzer documents f)))

-- the file of postings of a segment is there, and tells these totals of the indexed fields
abbrev pub HasTotals : NamedFiles → ℕ → Schema → (ℕ × FieldEntry → ℕ) → Type 0
HasTotals files id schema total = IsSomeAnd (get files (Part id Postings)) (TellTotals schema total)

-- that of each id tells the totals of the documents of its batch
abbrev pub AllHaveTotals : Schema → Analyzer → NamedFiles → List ℕ → List Batch → Type 0
AllHaveTotals schema analyzer files [] batches = Unit {0}
AllHaveTotals schema analyzer files (id ∷ ids) [] = Unit {0}
AllHaveTotals schema analyzer files (id ∷ ids) (batch ∷ batches) =
    HasTotals files id schema (documents_total schema analyzer batch.documents)
    × AllHaveTotals schema analyzer files ids batches
