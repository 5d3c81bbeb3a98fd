-- Lengths of fields, and the ids that stand for them.
use Rattle.std.specs.Prelude.{ℕ, zero, suc, ◌+◌, ◌-◌, ◌*◌, ◌/◌, ◌%◌, ◌^◌, List, [], ◌∷◌, map, length, nat_lt, nat_le, if◌then◌else◌}
use Rattle.seg_tokens.specs.declared.token.Token.{Token}
use Rattle.seg_values.specs.declared.schema.FieldEntry.{FieldEntry}
use Rattle.seg_values.specs.declared.schema.FieldKind.{FieldKind}
use Rattle.seg_values.specs.declared.schema.FieldKind.TheVariants.{Text, Json}
use Rattle.seg_values.specs.Tree.{Tree, Document}
use Rattle.seg_model.specs.Fields.{Schema, Analyzer, has_lengths, indexing_tokenizer, values_of, fields}
use Rattle.seg_model.specs.Occurrences.{counted, value_tokens}

-- the tokens that are counted in the values of a text field
abbrev pub token_count : (List ℕ → List Token) → List Tree → ℕ
token_count analyze [] = 0
token_count analyze (t ∷ ts) = length (counted (value_tokens analyze t)) + token_count analyze ts

-- the length of a field in a document: its tokens, or its values; of JSON always 0
abbrev pub kind_length : FieldKind → (List ℕ → List Token) → List Tree → ℕ
kind_length Text analyze values = token_count analyze values
kind_length Json analyze values = 0
kind_length _ analyze values = length values

-- the length of a field in a document that has these values of it
abbrev pub field_length : Analyzer → FieldEntry → List Tree → ℕ
field_length analyzer entry values = kind_length entry.kind (analyzer (indexing_tokenizer entry)) values

-- the length that an id from 24 on stands for, 24 past the first
abbrev pub long_length : ℕ → ℕ
long_length i = if nat_lt i 8 then 24 + i else 24 + (i % 8 + 8) * 2 ^ (i / 8 - 1)

-- the length that an id stands for
abbrev pub length_of_id : ℕ → ℕ
length_of_id id = if nat_lt id 24 then id else long_length (id - 24)

-- the greatest id up to `last` whose length is at most a number
abbrev pub greatest_id : ℕ → ℕ → ℕ
greatest_id n zero = 0
greatest_id n (suc last) = if nat_le (length_of_id (suc last)) n then suc last else greatest_id n last

-- the id that is stored of a length
unfoldable pub length_id : ℕ → ℕ
length_id n = greatest_id n 255

-- the ids of a field, one for each document
abbrev pub field_norms : Analyzer → List Document → ℕ × FieldEntry → List ℕ
field_norms analyzer documents f =
    if has_lengths f.1 then map (λ d. length_id (field_length analyzer f.1 (values_of f.0 d))) documents else []

-- the ids of each field of the schema; a field without lengths has none
abbrev pub all_norms : Schema → Analyzer → List Document → List (List ℕ)
all_norms schema analyzer documents = map (field_norms analyzer documents) (fields schema)
