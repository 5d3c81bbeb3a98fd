-- What a document has in its indexed fields so far.
use Rattle.std.specs.Prelude.{◌≡◌, ℕ, List, [], ◌∷◌, ◌++◌, map, nat_eq, Bool, true, Option, Some, None}
use Rattle.std.specs.HashMap.{HashMap, get}
use Rattle.std.specs.List.{slice_get, AllByRecursion}
use Rattle.seg_values.specs.Tree.{Tree, Document}
use Rattle.seg_values.specs.declared.schema.FieldEntry.{FieldEntry}
use Rattle.seg_tokens.specs.declared.token.Token.{Token}
use Rattle.seg_model.specs.DocumentCheck.{field_fits}
use Rattle.seg_model.specs.Fields.{Schema, Analyzer, is_indexed, indexing_tokenizer, values_of}
use Rattle.seg_check.specs.IndexedValues.{IsPlainIn, value_in, document_values}
use Rattle.seg_check.specs.FieldContents.{Stands}
use Rattle.seg_check.specs.declared.field_totals.FieldTotals.{FieldTotals}
use Rattle.seg_check.specs.declared.positions.CutDocument.{CutDocument}

-- the totals of a field tell of these values; there are none where no value came
abbrev pub StandsAt : FieldEntry → (List ℕ → List Token) → Option FieldTotals → List Tree → Type 0
StandsAt entry analyze None values = values ≡ []
StandsAt entry analyze (Some t) values = Stands entry analyze t values

-- the totals of each indexed field tell of the values that the document has in it
abbrev pub AllStand : {S : Type 0} → Schema → Analyzer → HashMap ℕ FieldTotals S → Document → Type 0
AllStand schema analyzer totals document =
    (place : ℕ) (entry : FieldEntry) → slice_get schema place ≡ Some entry → is_indexed entry ≡ true
    → StandsAt entry (analyzer (indexing_tokenizer entry)) (get nat_eq totals place) (values_of place document)

-- the totals tell of one more pair
abbrev pub TellMore : {S : Type 0} → Schema → Analyzer → ℕ × Tree → HashMap ℕ FieldTotals S
    → HashMap ℕ FieldTotals S → Type 0
TellMore schema analyzer p old new = (came : Document) → AllStand schema analyzer old came
    → AllStand schema analyzer new (came ++ p ∷ [])

-- these pairs of a document came: their values are kept, each text cut, and the totals tell of them
pub record HasCut (schema : Schema) (analyzer : Analyzer) (document came : Document) (cut : CutDocument) : Type 0 where
  pub values : map (value_in document) cut.values.items ≡ document_values schema analyzer came
  pub keys : AllByRecursion (IsPlainIn document) cut.values.items
  pub totals : AllStand schema analyzer cut.totals came

-- one more pair came, which is at a place of its document
abbrev pub CutsMore : Schema → Analyzer → ℕ → ℕ × Tree → CutDocument → CutDocument → Type 0
CutsMore schema analyzer at p old new = (document came : Document) → slice_get document at ≡ Some p
    → HasCut schema analyzer document came old → HasCut schema analyzer document (came ++ p ∷ []) new

-- the values that a document has in a field are within the limits, if the field is in the schema
abbrev pub fits_at : Analyzer → Document → ℕ → Option FieldEntry → Bool
fits_at analyzer document field None = true
fits_at analyzer document field (Some entry) = field_fits analyzer document (field, entry)
