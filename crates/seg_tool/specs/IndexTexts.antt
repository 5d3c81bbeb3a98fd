-- The text of both indexes of an input.
use Rattle.std.specs.Prelude.{ℕ, List, [], ◌∷◌, ◌++◌, length, replicate, Bool, true, unwrap_or, codes}
use Rattle.std.specs.FinMap.{empty}
use Rattle.seg_values.specs.Tree.{Document}
use Rattle.seg_model.specs.Columns.{Columns, columns}
use Rattle.seg_model.specs.Contents.{reading}
use Rattle.seg_model.specs.Fields.{Schema, Analyzer}
use Rattle.seg_model.specs.Input.{Input, input_batches, input_survivors}
use Rattle.seg_model.specs.Norms.{all_norms}
use Rattle.seg_model.specs.Operations.{Batch}
use Rattle.seg_index_build.specs.IndexFiles.{output_id, work_ids}
use Rattle.seg_text.specs.SegmentText.{PrintedSegment}
use Rattle.seg_tool.specs.Printing.{opening, printed_text}
use Rattle.seg_tool.specs.declared.words.Detail.{Detail}

-- a segment of documents, of which some are alive
abbrev pub segment : Schema → Analyzer → List ℕ → ℕ → List Document → List Bool → PrintedSegment
segment schema analyzer label id documents alive =
    record { label = label; id = id; alive = alive; reading = reading schema analyzer documents }

-- the columns of documents; none where the numbers of a path have no type, which no segment has
abbrev pub columns_or_none : Schema → Analyzer → List Document → Columns
columns_or_none schema analyzer documents = unwrap_or (columns schema analyzer documents) empty

-- its text
abbrev pub documents_text : Detail → Schema → Analyzer → List ℕ → ℕ → List Document → List Bool → List ℕ
documents_text detail schema analyzer label id documents alive =
    printed_text detail schema (segment schema analyzer label id documents alive)
    (columns_or_none schema analyzer documents) (all_norms schema analyzer documents)

-- a work segment a batch
abbrev pub work_text : Detail → Schema → Analyzer → List ℕ → List Batch → List ℕ
work_text detail schema analyzer [] batches = []
work_text detail schema analyzer (id ∷ ids) [] = []
work_text detail schema analyzer (id ∷ ids) (batch ∷ batches) =
    documents_text detail schema analyzer (codes "work") id batch.documents batch.alive
    ++ work_text detail schema analyzer ids batches

-- the output segment, of the survivors
abbrev pub output_text : Detail → Schema → Analyzer → ℕ → List Document → List ℕ
output_text detail schema analyzer id survivors =
    documents_text detail schema analyzer (codes "output") id survivors (replicate (length survivors) true)

-- what comes before, the work segments in order, and then the output segment
abbrev pub build_text : Detail → Analyzer → Input → List ℕ
build_text detail analyzer input =
    opening detail ++ work_text detail input.schema analyzer (work_ids input.ids) (input_batches analyzer input)
    ++ output_text detail input.schema analyzer (output_id input.ids) (input_survivors analyzer input)
