-- What was taken of the batches of an input, as the answers of the work directory tell it.
use Rattle.std.specs.Prelude.{ℕ, ◌≡◌, List, [], ◌∷◌, drop, length, replicate, Bool, true, false, not, ◌&&◌, ◌||◌, ◌==◌, nat_lt, is_some, if◌then◌else◌, Option, Some, None}
use Rattle.std.specs.List.{AllByRecursion, filter, list_any}
use Rattle.std.specs.Option.{option_and_then, option_or}
use Rattle.seg_common.specs.FileNameKeys.{component_number}
use Rattle.seg_common.specs.declared.name.FileName.{FileName}
use Rattle.seg_common.specs.declared.name.FileName.TheVariants.{Alive, Meta, Part}
use Rattle.seg_bits.specs.BitSets.{set_of}
use Rattle.seg_directory.specs.Files.{NamedFiles}
use Rattle.seg_directory.specs.declared.answer.Answer.{Answer}
use Rattle.seg_directory.specs.declared.answer.Answer.TheVariants as answer
use Rattle.seg_model.specs.Contents.{Contents}
use Rattle.seg_model.specs.Fields.{Schema, Analyzer}
use Rattle.seg_model.specs.Input.{Filter, Input, input_batches}
use Rattle.seg_model.specs.Join as join
use Rattle.seg_model.specs.Operations.{Batch, filtered_by}
use Rattle.seg_segment.specs.FileContents.{Holds}
use Rattle.seg_segment.specs.SegmentFiles.{bytes_of, read_order}
use Rattle.seg_segment.specs.SpelledContents.{Spell}
use Rattle.seg_segment.specs.declared.segment_files.SegmentFiles.{SegmentFiles}
use Rattle.seg_index_build.specs.IndexFiles.{output_id, work_ids}

-- ---- answers

-- what a list of answers has more than it had
abbrev pub gained : List Answer → List Answer → List Answer
gained before after = drop (length before) after

-- whether two names of files are one
abbrev pub same_name : FileName → FileName → Bool
same_name Meta Meta = true
same_name (Part id c) (Part other d) = (component_number c == component_number d) && (id == other)
same_name (Alive id stamp) (Alive other up_to) = (stamp == up_to) && (id == other)
same_name _ _ = false

-- the bytes of a file, where an answer gives them
abbrev pub bytes_read : FileName → Answer → Option (List ℕ)
bytes_read name (answer.Read other bytes) = if same_name name other then Some bytes else None
bytes_read name _ = None

-- the bytes of a file as it was last read
abbrev pub last_read : FileName → List Answer → Option (List ℕ)
last_read name [] = None
last_read name (a ∷ answers) = option_or (last_read name answers) (bytes_read name a)

-- whether an answer tells that a file was written
abbrev pub tells_written : FileName → Answer → Bool
tells_written name (answer.Wrote other) = same_name name other
tells_written name _ = false

-- whether a file was written
abbrev pub was_written : FileName → List Answer → Bool
was_written name answers = list_any (tells_written name) answers

-- the bytes of a file as it was last read after it was last written
abbrev pub read_after_write : FileName → List Answer → Option (List ℕ)
read_after_write name [] = None
read_after_write name (a ∷ answers) =
    if was_written name answers then read_after_write name answers
    else (if tells_written name a then last_read name answers else None)

-- ---- batches

-- a batch: the id of its segment, how many documents it adds, and its filter
pub record NamedBatch : Type 0 where
  pub id : ℕ
  pub documents : ℕ
  pub keeps : Option Filter

-- batches, each with an id and a filter
abbrev pub named_batches : List ℕ → List Batch → List (Option Filter) → List NamedBatch
named_batches [] batches filters = []
named_batches (id ∷ ids) [] filters = []
named_batches (id ∷ ids) (batch ∷ batches) [] = []
named_batches (id ∷ ids) (batch ∷ batches) (f ∷ filters) =
    record { id = id; documents = length batch.documents; keeps = f } ∷ named_batches ids batches filters

-- a batch is taken that adds a document, unless its alive file was written and not read afterwards
abbrev pub was_taken : ℕ → List Answer → NamedBatch → Bool
was_taken stamp answers batch =
    nat_lt 0 batch.documents
    && (not (was_written (Alive batch.id stamp) answers) || is_some (read_after_write (Alive batch.id stamp) answers))

-- which of this many documents are alive: all where no alive file was written, and else those of the
-- set that it was read as afterwards
abbrev pub marks_read : FileName → ℕ → List Answer → Option (List Bool)
marks_read name documents answers =
    if was_written name answers then option_and_then set_of (read_after_write name answers)
    else Some (replicate documents true)

-- the six files of an id were last read with these bytes
abbrev pub WereRead : ℕ → SegmentFiles → List Answer → Type 0
WereRead id files answers = AllByRecursion (λ c. last_read (Part id c) answers ≡ Some (bytes_of files c)) read_order

-- a part was taken of a batch: what its six files spell as they were last read, and of the documents that
-- are alive those that its filter keeps
pub record IsPartOf (schema : Schema) (stamp : ℕ) (answers : List Answer) (batch : NamedBatch)
    (part : join.Part) : Type 0 where
  pub files : SegmentFiles
  pub read : WereRead batch.id files answers
  pub spell : Spell schema files part.contents
  pub marks : List Bool
  pub marked : marks_read (Alive batch.id stamp) part.contents.documents answers ≡ Some marks
  pub cut : part.alive ≡ filtered_by batch.keeps marks

-- and so one of each
abbrev pub ArePartsOf : Schema → ℕ → List Answer → List NamedBatch → List join.Part → Type 0
ArePartsOf schema stamp answers [] [] = Unit {0}
ArePartsOf schema stamp answers [] (part ∷ parts) = ⊥
ArePartsOf schema stamp answers (batch ∷ batches) [] = ⊥
ArePartsOf schema stamp answers (batch ∷ batches) (part ∷ parts) =
    IsPartOf schema stamp answers batch part × ArePartsOf schema stamp answers batches parts

-- ---- the output

-- the batches of an input that were taken, by the answers of the work directory
abbrev pub taken_batches : Analyzer → Input → List Answer → List NamedBatch
taken_batches analyzer input answers =
    filter (was_taken (length input.operations) answers)
    (named_batches (work_ids input.ids) (input_batches analyzer input) input.filters)

-- the parts that were taken of these batches join, and the files hold under the last id what they join to
pub record HoldsTaken (analyzer : Analyzer) (input : Input) (answers : List Answer) (output : NamedFiles) : Type 0 where
  pub parts : List join.Part
  pub taken : ArePartsOf input.schema (length input.operations) answers (taken_batches analyzer input answers) parts
  pub contents : Contents
  pub joined : join.join input.schema parts ≡ Some contents
  pub holds : Holds output (output_id input.ids) input.schema contents

-- answers determine the parts that were taken of batches
abbrev pub AnswersDetermineParts : Type 0
AnswersDetermineParts =
    (schema : Schema) (stamp : ℕ) (answers : List Answer) (batches : List NamedBatch) (parts others : List join.Part)
    → ArePartsOf schema stamp answers batches parts → ArePartsOf schema stamp answers batches others → parts ≡ others
