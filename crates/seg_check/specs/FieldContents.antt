-- What a document has in a field so far.
use Rattle.std.specs.Prelude.{◌≡◌, ℕ, List, map, length, Bool}
use Rattle.std.specs.List.{flat_map}
use Rattle.seg_values.specs.Tree.{Leaf, Tree}
use Rattle.seg_values.specs.declared.schema.FieldEntry.{FieldEntry}
use Rattle.seg_values.specs.declared.schema.FieldKind.TheVariants.{Json}
use Rattle.seg_tokens.specs.declared.token.Token.{Token}
use Rattle.seg_model.specs.DocumentCheck.{value_texts}
use Rattle.seg_model.specs.Fields.{Analyzer, indexing_tokenizer}
use Rattle.seg_model.specs.Leaves.{leaves_of}
use Rattle.seg_check.specs.Paths.{at_path, PathsStand}
use Rattle.seg_check.specs.TextSizes.{all_rise}
use Rattle.seg_check.specs.TotalsOfFields.{totals_of}
use Rattle.seg_check.specs.declared.field_totals.FieldTotals.{FieldTotals}

-- the leaves of some values of a JSON field, each with its joined path
abbrev pub found_in : Bool → List Tree → List (List ℕ × Leaf)
found_in expand_dots values = map (at_path expand_dots) (leaves_of values)

-- whether positions never decrease in each text of a value of a field
abbrev pub rises : Analyzer → FieldEntry → Tree → Bool
rises analyzer entry value = all_rise (value_texts entry.kind (analyzer (indexing_tokenizer entry)) value)

-- the totals of a field tell of these values
pub record Stands (entry : FieldEntry) (analyze : List ℕ → List Token) (t : FieldTotals)
    (values : List Tree) : Type 0 where
  pub whole : t.whole ≡ totals_of (length values) (flat_map (value_texts entry.kind analyze) values)
  pub paths : entry.kind ≡ Json → PathsStand analyze t.paths (found_in entry.expand_dots values)
