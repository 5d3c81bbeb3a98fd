-- Cases of JSON fields.
use Rattle.std.specs.Prelude.{◌≡◌, pos, negsuc, ℕ, List, [], ◌∷◌, ◌++◌, map, codes, true}
use Rattle.seg_values.specs.declared.schema.FieldEntry.{FieldEntry}
use Rattle.seg_values.specs.declared.schema.FieldKind.TheVariants.{Json}
use Rattle.seg_values.specs.declared.schema.IndexOption.TheVariants.{Basic, Freqs, Positions}
use Rattle.seg_values.specs.Tree.{unsigned, signed, boolean, date, Tree, leaf, object, member, no_members, Document}
use Rattle.seg_model.specs.Fields.{Analyzer}
use Rattle.seg_model.specs.Occurrences.{Occurrence, occurrences}
use Rattle.seg_model.specs.DocumentTerms.{presence, frequency, positions}
use Rattle.seg_model.specs.Norms.{field_length}
use Rattle.seg_model.specs.Columns.{ColumnValue, number, date_value, FastValue, fast_values}
use Rattle.seg_model_cases.specs.CaseData.{analyzer, only, one, said, keyed, in_arrays, at, posting, recorded_of}

abbrev pub occurring : Document → List Occurrence
occurring document = occurrences (only Json Positions) analyzer document 0

abbrev pub fast : Tree → List FastValue
fast value = fast_values (only Json Positions) analyzer (one value)

-- a value under the field's name, and under a path below it
abbrev pub named : ColumnValue → FastValue
named value = record { path = codes "f"; value = value }

abbrev pub below : List ℕ → ColumnValue → FastValue
below path value = record { path = codes "f" ++ 1 ∷ path; value = value }

-- a small i64 with its type code
abbrev pub small : ℕ → List ℕ
small n = 0 ∷ 105 ∷ 128 ∷ 0 ∷ 0 ∷ 0 ∷ 0 ∷ 0 ∷ 0 ∷ n ∷ []

abbrev pub five : Tree
five = leaf (unsigned 5)

-- {"n": 7, "t": "a a"}
abbrev pub seven_and_text : Tree
seven_and_text = object (member (codes "n") (leaf (unsigned 7)) (member (codes "t") (said (codes "a a")) no_members))

-- a second and a half after 1970, and as long before it
abbrev pub after : Tree
after = leaf (date (pos 1500000000))

abbrev pub before : Tree
before = leaf (date (negsuc 1499999999))

-- the number of the second 1 after 1970, with its type code
abbrev pub second_one : List ℕ
second_one = 0 ∷ 100 ∷ 128 ∷ 0 ∷ 0 ∷ 0 ∷ 59 ∷ 154 ∷ 202 ∷ 0 ∷ []

pub record JsonCases : Type 0 where
  -- whatever the values: no lengths
  pub lengths : (analyze : Analyzer) (e : FieldEntry) (values : List Tree)
      → field_length analyze (record e { kind = Json }) values ≡ 0
  -- a number has neither a count nor positions
  pub by_option : map
      (λ index. map (recorded_of Json index seven_and_text)
      ((codes "n" ++ small 7) ∷ (codes "t" ++ 0 ∷ codes "sa") ∷ []))
      (Basic ∷ Freqs ∷ Positions ∷ [])
      ≡ ((posting 0 presence ∷ []) ∷ (posting 0 presence ∷ []) ∷ [])
      ∷ ((posting 0 presence ∷ []) ∷ (posting 0 (frequency 2) ∷ []) ∷ [])
      ∷ ((posting 0 presence ∷ []) ∷ (posting 0 (positions (0 ∷ 1 ∷ [])) ∷ []) ∷ []) ∷ []
  -- 55 is one term whatever its sign, and 2^63 has another code
  pub number_codes :
      occurring ((0, leaf (unsigned 55)) ∷ (0, leaf (signed (pos 55))) ∷ (0, leaf (unsigned 9223372036854775808)) ∷ [])
      ≡ at (small 55) 0 ∷ at (small 55) 0 ∷ at (0 ∷ 117 ∷ 128 ∷ 0 ∷ 0 ∷ 0 ∷ 0 ∷ 0 ∷ 0 ∷ 0 ∷ []) 0 ∷ []
  -- a bool between two texts does not move the second
  pub bool_between_texts : occurring ((0, said (codes "a b")) ∷ (0, leaf (boolean true)) ∷ (0, said (codes "a")) ∷ [])
      ≡ at (0 ∷ codes "sa") 0 ∷ at (0 ∷ codes "sb") 1
      ∷ at (0 ∷ 111 ∷ 0 ∷ 0 ∷ 0 ∷ 0 ∷ 0 ∷ 0 ∷ 0 ∷ 1 ∷ []) 0 ∷ at (0 ∷ codes "sa") 3 ∷ []
  -- 5 alone, under the empty key, and under it twice: the first two have one term, and a column each
  pub empty_key_terms : map (λ value. occurring (one value)) (five ∷ keyed [] five ∷ keyed [] (keyed [] five) ∷ [])
      ≡ (at (small 5) 0 ∷ []) ∷ (at (small 5) 0 ∷ []) ∷ (at (1 ∷ small 5) 0 ∷ []) ∷ []
  pub empty_key_columns : map fast (five ∷ keyed [] five ∷ keyed [] (keyed [] five) ∷ [])
      ≡ (named (number (pos 5)) ∷ []) ∷ (below [] (number (pos 5)) ∷ []) ∷ (below (1 ∷ []) (number (pos 5)) ∷ []) ∷ []
  -- arrays above the first object have no level, those below it have one each, and level 20 is the last one recorded
  pub arrays_above : map fast (in_arrays 30 five ∷ in_arrays 30 (keyed (codes "o") (in_arrays 19 five))
      ∷ in_arrays 30 (keyed (codes "o") (in_arrays 20 five)) ∷ [])
      ≡ (named (number (pos 5)) ∷ []) ∷ (below (codes "o") (number (pos 5)) ∷ []) ∷ [] ∷ []
  -- a term is recorded at every level
  pub deep_term : occurring (one (keyed (codes "o") (in_arrays 20 five))) ≡ at (codes "o" ++ small 5) 0 ∷ []
  -- a column has a moment cut to seconds outside any object, in arrays too, and whole below one
  pub moments : map fast
      (after ∷ before ∷ in_arrays 2 after ∷ keyed (codes "n") after ∷ in_arrays 1 (keyed (codes "n") before) ∷ [])
      ≡ (named (date_value (pos 1000000000)) ∷ []) ∷ (named (date_value (negsuc 999999999)) ∷ [])
      ∷ (named (date_value (pos 1000000000)) ∷ [])
      ∷ (below (codes "n") (date_value (pos 1500000000)) ∷ [])
      ∷ (below (codes "n") (date_value (negsuc 1499999999)) ∷ []) ∷ []
  -- a term has its moment cut wherever it is
  pub moment_terms : occurring ((0, after) ∷ (0, keyed (codes "n") after) ∷ [])
      ≡ at second_one 0 ∷ at (codes "n" ++ second_one) 0 ∷ []
