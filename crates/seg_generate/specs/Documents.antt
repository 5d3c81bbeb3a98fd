-- The schema and the documents of the generated input.
use Rattle.std.specs.Prelude.{ℕ, ◌%◌, List, [], ◌∷◌, ◌++◌, true, false, None, pos, codes, decimal}
use Rattle.seg_common.specs.declared.precision.DateTimePrecision.TheVariants.{Seconds}
use Rattle.seg_values.specs.Tree.{Document, leaf, object, no_members, member, text, signed, unsigned}
use Rattle.seg_values.specs.declared.schema.FieldEntry.{FieldEntry}
use Rattle.seg_values.specs.declared.schema.FieldKind.TheVariants.{Text, U64, Json}
use Rattle.seg_values.specs.declared.schema.IndexOption.TheVariants.{Basic, Positions}
use Rattle.seg_model.specs.Fields.{Schema}

-- whole numbers, with everything but a length
abbrev pub id_entry : FieldEntry
id_entry = record {
  name = codes "id";
  kind = U64;
  stored = true;
  index = Basic;
  tokenizer = None;
  norms = false;
  fast = true;
  fast_tokenizer = None;
  precision = Seconds;
  expand_dots = false;
}

-- texts
abbrev pub body_entry : FieldEntry
body_entry = record {
  name = codes "body";
  kind = Text;
  stored = true;
  index = Positions;
  tokenizer = None;
  norms = true;
  fast = false;
  fast_tokenizer = None;
  precision = Seconds;
  expand_dots = false;
}

-- JSON values, which aren't stored
abbrev pub attrs_entry : FieldEntry
attrs_entry = record {
  name = codes "attrs";
  kind = Json;
  stored = false;
  index = Basic;
  tokenizer = None;
  norms = false;
  fast = true;
  fast_tokenizer = None;
  precision = Seconds;
  expand_dots = false;
}

abbrev pub schema : Schema
schema = id_entry ∷ body_entry ∷ attrs_entry ∷ []

-- `aX bY`: its tokens recur every 50 and every 40 documents
abbrev pub body_text : ℕ → List ℕ
body_text number = codes "a" ++ (decimal (number % 50) ++ (codes " b" ++ decimal (number % 40)))

-- the document of a number: `id` is the number, and `attrs` is `{"n": Z}`, which recurs every 100 documents
abbrev pub document : ℕ → Document
document number =
    (0, leaf (unsigned number))
    ∷ (1, leaf (text (body_text number)))
    ∷ (2, object (member (codes "n") (leaf (signed (pos (number % 100)))) no_members)) ∷ []
