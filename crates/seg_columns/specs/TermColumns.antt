-- Columns of texts or bytes: a column of ordinals, and the dictionary whose places they are.
use Rattle.std.specs.Prelude.{◌≡◌, ℕ, ◌+◌, ◌*◌, ◌<◌, List, take, drop, true, nat_eq, All, IsUtf8}
use Rattle.std.specs.List.{list_any}
use Rattle.seg_columns.specs.Ends.{start_at}
use Rattle.seg_columns.specs.ValueImages.{unsigned}
use Rattle.seg_columns.specs.Columns.{IsColumn, rows_of}
use Rattle.seg_columns.specs.Dictionaries.{IsDictionary, count_of, terms_of}

-- the distinct terms in byte order, and the ordinals of each document's values, which are places among them
pub record TermColumn : Type 0 where
  pub terms : List (List ℕ)
  pub ords : List (List ℕ)

-- all ordinals are below a count, and each below it is that of some value
pub record UsesEach (count : ℕ) (ords : List (List ℕ)) : Type 0 where
  pub below : All (All (λ ord. ord < count)) ords
  pub used : (ord : ℕ) → ord < count → list_any (list_any (nat_eq ord)) ords ≡ true

-- how many bytes the ordinals have, with the ends of each document's
abbrev pub ordinals_length : ℕ → List ℕ → ℕ
ordinals_length docs bytes = 8 * docs + 8 * start_at bytes docs

-- these bytes
abbrev pub ordinals_in : ℕ → List ℕ → List ℕ
ordinals_in docs bytes = take (ordinals_length docs bytes) bytes

-- those of the dictionary
abbrev pub dictionary_in : ℕ → List ℕ → List ℕ
dictionary_in docs bytes = drop (ordinals_length docs bytes) bytes

-- bytes are a column of bytes for this many documents
pub record IsBytesColumn (docs : ℕ) (bytes : List ℕ) : Type 0 where
  pub ordinals : IsColumn 8 unsigned docs (ordinals_in docs bytes)
  pub dictionary : IsDictionary (dictionary_in docs bytes)
  pub uses : UsesEach (count_of (dictionary_in docs bytes)) (rows_of 8 unsigned docs (ordinals_in docs bytes))

-- bytes are a column of texts for this many documents
pub record IsStrColumn (docs : ℕ) (bytes : List ℕ) : Type 0 where
  pub terms : IsBytesColumn docs bytes
  pub utf8 : All IsUtf8 (terms_of (dictionary_in docs bytes))

-- what such bytes read as
abbrev pub term_column_of : ℕ → List ℕ → TermColumn
term_column_of docs bytes = record {
  terms = terms_of (dictionary_in docs bytes);
  ords = rows_of 8 unsigned docs (ordinals_in docs bytes);
}
