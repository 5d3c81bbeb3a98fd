-- A value that may come into its field.
use Rattle.std.specs.Prelude.{◌≡◌, List, true, Option, None}
use Rattle.seg_values.specs.Tree.{Tree}
use Rattle.seg_values.specs.declared.schema.FieldEntry.{FieldEntry}
use Rattle.seg_values.specs.declared.schema.FieldKind.TheVariants.{Json}
use Rattle.seg_tokens.specs.declared.token.Token.{Token}
use Rattle.seg_model.specs.DocumentCheck.{tree_refusal}
use Rattle.seg_model.specs.Fields.{Analyzer, is_indexed}
use Rattle.seg_model.specs.ValidInputs.{Known}
use Rattle.seg_check.specs.KnownTokenizers.{KnowsTexts}
use Rattle.seg_check.specs.TextTokens.{IsCut}

-- a value of an indexed field whose tokenizer is known: one of a text field has its tokens, and one of a JSON field
-- passed the check of leaves and keys
pub record IsReady (knows : Known) (analyzer : Analyzer) (entry : FieldEntry) (given : Option (List Token))
    (value : Tree) : Type 0 where
  pub known : KnowsTexts knows entry
  pub indexed : is_indexed entry ≡ true
  pub cut : IsCut analyzer entry given value
  pub keys : entry.kind ≡ Json → tree_refusal value ≡ None
