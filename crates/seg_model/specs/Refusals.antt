-- Why nothing is built of an input: the first cause, in the order in which they are looked for.
use Rattle.std.specs.Prelude.{ℕ, ◌-◌, ◌^◌, List, [], ◌∷◌, map, length, take, drop, is_some, Option, None, nat_lt}
use Rattle.std.specs.List.{enumerate_from}
use Rattle.std.specs.Option.{option_or}
use Rattle.seg_values.specs.Tree.{Document}
use Rattle.seg_values.specs.declared.error.ArgumentCause.TheVariants as argument
use Rattle.seg_values.specs.declared.error.TantivyError.{TantivyError}
use Rattle.seg_values.specs.declared.error.TantivyError.TheVariants.{SchemaError, InvalidArgument}
use Rattle.seg_model.specs.Fields.{Schema, Analyzer}
use Rattle.seg_model.specs.Operations.{Operation, add, delete, delete_all, additions}
use Rattle.seg_model.specs.DocumentCheck.{at_place, document_refusal, first_of, unless}
use Rattle.seg_model.specs.Columns.{columns}
use Rattle.seg_model.specs.Input.{Input, input_survivors}
use Rattle.seg_model.specs.ValidInputs.{Known, input_refusal}

-- a list cut at places, where the first part begins at the place `from`
abbrev pub cut_from : {X : Type 0} → ℕ → List ℕ → List X → List (List X)
cut_from from [] xs = xs ∷ []
cut_from from (cut ∷ cuts) xs = take (cut - from) xs ∷ cut_from cut cuts (drop (cut - from) xs)

-- why an operation at a place is refused: the document that it adds does not pass the check
abbrev pub operation_refusal : Schema → Analyzer → ℕ → Operation → Option TantivyError
operation_refusal schema analyzer at (add document) = at_place at (document_refusal schema analyzer document)
operation_refusal schema analyzer at (delete term) = None
operation_refusal schema analyzer at (delete_all terms) = None

-- a segment has fewer than 2^31 documents
abbrev pub count_refusal : List Document → Option TantivyError
count_refusal documents = unless (nat_lt (length documents) (2 ^ 31)) (InvalidArgument argument.Documents)

-- and its documents have columns
abbrev pub numbers_refusal : Schema → Analyzer → List Document → Option TantivyError
numbers_refusal schema analyzer documents = unless (is_some (columns schema analyzer documents))
    (InvalidArgument argument.Numbers)

-- what a part of the operations adds
abbrev pub added_by : List (ℕ × Operation) → List Document
added_by part = additions (map (λ p. p.1) part)

-- why a batch is refused: by the number of its documents, by the first that does not pass, or by their numbers
abbrev pub batch_refusal : Schema → Analyzer → List (ℕ × Operation) → Option TantivyError
batch_refusal schema analyzer batch =
    option_or (count_refusal (added_by batch))
    (option_or (first_of (λ p. operation_refusal schema analyzer p.0 p.1) batch)
    (numbers_refusal schema analyzer (added_by batch)))

-- why a batch is refused whose first operation has the place `first`
abbrev pub batch_error : Schema → Analyzer → ℕ → List Operation → Option TantivyError
batch_error schema analyzer first operations = batch_refusal schema analyzer (enumerate_from first operations)

-- why the operations from a place on are refused, cut in batches: by the first batch that is
abbrev pub batches_error : Schema → Analyzer → ℕ → List ℕ → List Operation → Option TantivyError
batches_error schema analyzer from cuts operations = first_of (batch_refusal schema analyzer)
    (cut_from from cuts (enumerate_from from operations))

-- why nothing is built of an input, if so: by the input alone, by the first batch that is refused, or by the survivors
abbrev pub build_refusal : Known → Analyzer → Input → Option TantivyError
build_refusal known analyzer input =
    option_or (input_refusal known analyzer input)
    (option_or
    (first_of (batch_refusal input.schema analyzer) (cut_from 0 input.cuts (enumerate_from 0 input.operations)))
    (option_or (count_refusal (input_survivors analyzer input))
    (numbers_refusal input.schema analyzer (input_survivors analyzer input))))

-- an error that tells a refusal
abbrev pub IsRefusal : TantivyError → Type 0
IsRefusal (SchemaError cause) = Unit {0}
IsRefusal (InvalidArgument cause) = Unit {0}
IsRefusal _ = ⊥

-- a fact of an error that tells a refusal
abbrev pub IfRefusal : (TantivyError → Type 0) → TantivyError → Type 0
IfRefusal P (SchemaError cause) = P (SchemaError cause)
IfRefusal P (InvalidArgument cause) = P (InvalidArgument cause)
IfRefusal P _ = Unit {0}
