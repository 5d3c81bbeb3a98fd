-- Cases of columns.
use Rattle.std.specs.Prelude.{◌≡◌, pos, negsuc, List, [], ◌∷◌, map, replicate, codes, true, Some, None}
use Rattle.seg_common.specs.declared.precision.DateTimePrecision.TheVariants.{Seconds, Milliseconds, Microseconds, Nanoseconds}
use Rattle.seg_common.specs.declared.column_type.ColumnType.TheVariants as types
use Rattle.seg_values.specs.declared.schema.FieldEntry.{FieldEntry}
use Rattle.seg_values.specs.declared.schema.FieldKind.TheVariants.{Text, Date, Facet, Json}
use Rattle.seg_values.specs.declared.schema.IndexOption.TheVariants.{No, Basic}
use Rattle.seg_values.specs.Tree.{null, unsigned, signed, boolean, date, facet, byte_string, ip, Tree, leaf, Document}
use Rattle.seg_model.specs.Columns.{ColumnKey, ColumnValue, number, bytes_value, text_value, boolean_value, ip_value, date_value, leaf_values, fast_values, declared_columns, column_at}
use Rattle.seg_model.specs.Laws.{recorded_values}
use Rattle.seg_model_cases.specs.CaseData.{analyzer, entry, only, one, said, token, cut, keyed}

-- what a document with one value of this field records, without the path
abbrev pub values : FieldEntry → Tree → List ColumnValue
values e value = map (λ v. v.value) (fast_values (e ∷ []) analyzer (one value))

-- a text field with a fast tokenizer
abbrev pub tokenized : FieldEntry
tokenized = record (entry Text No) { fast_tokenizer = Some (codes "default") }

-- {"n": -1} and {"n": 7}
abbrev pub small_numbers : List Document
small_numbers = one (keyed (codes "n") (leaf (signed (negsuc 0)))) ∷ one (keyed (codes "n") (leaf (unsigned 7))) ∷ []

abbrev pub signed_n : ColumnKey
signed_n = record { path = 102 ∷ 1 ∷ 110 ∷ []; type = types.I64 }

pub record ColumnCases : Type 0 where
  -- a text is one value, or one for each of its tokens
  pub texts :
      map (λ e. map (values e) (said (codes "Red mug") ∷ cut (token 0 (codes "x") ∷ token 1 (codes "y") ∷ []) ∷ []))
      (entry Text No ∷ tokenized ∷ [])
      ≡ ((text_value (codes "Red mug") ∷ []) ∷ (text_value (codes "x") ∷ text_value (codes "y") ∷ []) ∷ [])
      ∷ ((text_value (codes "red") ∷ text_value (codes "mug") ∷ [])
      ∷ (text_value (codes "x") ∷ text_value (codes "y") ∷ []) ∷ []) ∷ []
  pub leaves : map (leaf_values analyzer None (λ nanos. nanos)) (null ∷ unsigned 5 ∷ signed (negsuc 0) ∷ boolean true
      ∷ date (negsuc 1) ∷ facet (codes "a") ∷ byte_string (codes "b") ∷ ip (replicate 16 9) ∷ [])
      ≡ [] ∷ (number (pos 5) ∷ [])
      ∷ (number (negsuc 0) ∷ [])
      ∷ (boolean_value true ∷ [])
      ∷ (date_value (negsuc 1) ∷ [])
      ∷ (text_value (codes "a") ∷ [])
      ∷ (bytes_value (codes "b") ∷ [])
      ∷ (ip_value (replicate 16 9) ∷ []) ∷ []
  -- a moment is cut at the precision, toward 1970
  pub precisions :
      map (λ precision. values (record (entry Date No) { precision = precision }) (leaf (date (negsuc 1234567890))))
      (Seconds ∷ Milliseconds ∷ Microseconds ∷ Nanoseconds ∷ [])
      ≡ (date_value (negsuc 999999999) ∷ []) ∷ (date_value (negsuc 1233999999) ∷ [])
      ∷ (date_value (negsuc 1234566999) ∷ []) ∷ (date_value (negsuc 1234567890) ∷ []) ∷ []
  -- the root of facets is a value without bytes
  pub root : values (entry Facet Basic) (leaf (facet [])) ≡ text_value [] ∷ []
  -- -1 and 7 are in one column
  pub numbers : column_at (declared_columns (only Json No)) signed_n
      (recorded_values (only Json No) analyzer small_numbers signed_n)
      ≡ Some ((number (negsuc 0) ∷ []) ∷ (number (pos 7) ∷ []) ∷ [])
