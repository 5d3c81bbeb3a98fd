-- The numbers of statuses, and the line that is said of each.
use Rattle.std.specs.Prelude.{ℕ, List, [], ◌∷◌, ◌++◌, codes, decimal}
use Rattle.seg_common.specs.FileNames.{name_text}
use Rattle.seg_values.specs.declared.error.TantivyError.{TantivyError}
use Rattle.seg_values.specs.declared.error.TantivyError.TheVariants.{SchemaError, InvalidArgument, IndexAlreadyExists, OpenReadError, OpenWriteError, IoError, DataCorruption}
use Rattle.seg_values.specs.declared.error.SchemaCause.{SchemaCause}
use Rattle.seg_values.specs.declared.error.SchemaCause.TheVariants.{UnknownField, WrongValue, DeleteField, Tokenizer, DuplicateName, NotFacet, NoNorms, NoColumn}
use Rattle.seg_values.specs.declared.error.ArgumentCause.{ArgumentCause}
use Rattle.seg_values.specs.declared.error.ArgumentCause.TheVariants as arguments
use Rattle.seg_tool.specs.declared.status.Status.{Status}
use Rattle.seg_tool.specs.declared.status.Status.TheVariants.{Done, Words, Script, Refused, Exists, Directory, Damaged, Stream, Memory}

-- the number with which the program ends
abbrev pub number_of : Status → ℕ
number_of Done = 0
number_of Words = 2
number_of Script = 3
number_of (Refused e) = 4
number_of (Exists e) = 5
number_of (Directory e) = 6
number_of (Damaged e) = 7
number_of Stream = 8
number_of Memory = 9

-- a fact of the error, where a directory was not empty, failed or has a file that is damaged
abbrev pub IfWritten : Status → (TantivyError → Type 0) → Type 0
IfWritten (Exists e) P = P e
IfWritten (Directory e) P = P e
IfWritten (Damaged e) P = P e
IfWritten _ P = Unit {0}

-- the status of an error of an index
abbrev pub status_of : TantivyError → Status
status_of (SchemaError cause) = Refused (SchemaError cause)
status_of (InvalidArgument cause) = Refused (InvalidArgument cause)
status_of IndexAlreadyExists = Exists IndexAlreadyExists
status_of OpenReadError = Directory OpenReadError
status_of OpenWriteError = Directory OpenWriteError
status_of IoError = Directory IoError
status_of (DataCorruption name) = Damaged (DataCorruption name)
status_of _ = Memory

-- the name of a cause, and its numbers
pub record CauseWords : Type 0 where
  pub name : List ℕ
  pub numbers : List ℕ

-- a cause of the schema, and its numbers
abbrev pub schema_cause_words : SchemaCause → CauseWords
schema_cause_words (UnknownField at) = record { name = codes "UnknownField"; numbers = at ∷ [] }
schema_cause_words (WrongValue at field) = record { name = codes "WrongValue"; numbers = at ∷ field ∷ [] }
schema_cause_words (DeleteField at) = record { name = codes "DeleteField"; numbers = at ∷ [] }
schema_cause_words (Tokenizer field) = record { name = codes "Tokenizer"; numbers = field ∷ [] }
schema_cause_words DuplicateName = record { name = codes "DuplicateName"; numbers = [] }
schema_cause_words NotFacet = record { name = codes "NotFacet"; numbers = [] }
schema_cause_words NoNorms = record { name = codes "NoNorms"; numbers = [] }
schema_cause_words NoColumn = record { name = codes "NoColumn"; numbers = [] }

-- a cause of an argument, and its number if it has one
abbrev pub argument_cause_words : ArgumentCause → CauseWords
argument_cause_words arguments.Cuts = record { name = codes "Cuts"; numbers = [] }
argument_cause_words arguments.Batches = record { name = codes "Batches"; numbers = [] }
argument_cause_words arguments.Filters = record { name = codes "Filters"; numbers = [] }
argument_cause_words arguments.SegmentIds = record { name = codes "SegmentIds"; numbers = [] }
argument_cause_words arguments.FieldName = record { name = codes "FieldName"; numbers = [] }
argument_cause_words arguments.Settings = record { name = codes "Settings"; numbers = [] }
argument_cause_words arguments.FastTokenizer = record { name = codes "FastTokenizer"; numbers = [] }
argument_cause_words (arguments.JsonLeaf at) = record { name = codes "JsonLeaf"; numbers = at ∷ [] }
argument_cause_words (arguments.JsonKey at) = record { name = codes "JsonKey"; numbers = at ∷ [] }
argument_cause_words (arguments.Positions at) = record { name = codes "Positions"; numbers = at ∷ [] }
argument_cause_words (arguments.Limit at) = record { name = codes "Limit"; numbers = at ∷ [] }
argument_cause_words arguments.Documents = record { name = codes "Documents"; numbers = [] }
argument_cause_words arguments.Numbers = record { name = codes "Numbers"; numbers = [] }
argument_cause_words arguments.Budget = record { name = codes "Budget"; numbers = [] }
argument_cause_words arguments.NoSegments = record { name = codes "NoSegments"; numbers = [] }
argument_cause_words arguments.NoIndices = record { name = codes "NoIndices"; numbers = [] }
argument_cause_words arguments.DifferentSchemas = record { name = codes "DifferentSchemas"; numbers = [] }
argument_cause_words arguments.DifferentSettings = record { name = codes "DifferentSettings"; numbers = [] }
argument_cause_words arguments.NotFast = record { name = codes "NotFast"; numbers = [] }
argument_cause_words arguments.SizeOverflow = record { name = codes "SizeOverflow"; numbers = [] }

-- an error that is no refusal has no words
abbrev pub cause_words : TantivyError → CauseWords
cause_words (SchemaError cause) = schema_cause_words cause
cause_words (InvalidArgument cause) = argument_cause_words cause
cause_words _ = record { name = []; numbers = [] }

-- numbers, each after a space
abbrev pub numbers_text : List ℕ → List ℕ
numbers_text [] = []
numbers_text (n ∷ ns) = 32 ∷ (decimal n ++ numbers_text ns)

-- the name of the cause and its numbers
abbrev pub cause_text : CauseWords → List ℕ
cause_text words = words.name ++ numbers_text words.numbers

-- which call of a directory failed
abbrev pub fault_text : TantivyError → List ℕ
fault_text OpenReadError = codes "directory: list or read failed"
fault_text OpenWriteError = codes "directory: write failed"
fault_text _ = codes "directory: meta or sync failed"

-- which file is damaged
abbrev pub damage_text : TantivyError → List ℕ
damage_text (DataCorruption name) = codes "damaged: " ++ (name_text name ++ 10 ∷ [])
damage_text _ = codes "damaged: a file" ++ 10 ∷ []

-- the line that is said of a status; of Done nothing
abbrev pub status_line : Status → List ℕ
status_line Done = []
status_line Words = codes "words: not a known command" ++ 10 ∷ []
status_line Script = codes "script: not a valid script" ++ 10 ∷ []
status_line (Refused e) = codes "refused: " ++ (cause_text (cause_words e) ++ 10 ∷ [])
status_line (Exists e) = codes "exists: a directory is not empty" ++ 10 ∷ []
status_line (Directory e) = fault_text e ++ 10 ∷ []
status_line (Damaged e) = damage_text e
status_line Stream = codes "stream: read or write failed" ++ 10 ∷ []
status_line Memory = codes "memory: not enough" ++ 10 ∷ []
