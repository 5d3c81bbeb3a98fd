-- A column as bytes: where the values of each document end, and then the values.
use Rattle.std.specs.Prelude.{◌≡◌, ℕ, ◌+◌, ◌*◌, ◌-◌, ◌<◌, ◌≤◌, List, length, map, drop, get_or, slice_range, Option, IsSome}
use Rattle.std.specs.List.{filter_map, range_with_len}
use Rattle.seg_columns.specs.Ends.{start_at, EndsRise}

-- the first value of a document, or a default
abbrev pub first_or : {T : Type 0} → T → List T → T
first_or default values = get_or values 0 default

-- of values that take this many bytes, each decoded by itself
module _ {T : Type 0} (width : ℕ) (decoded : List ℕ → Option T) where
  -- the value at a place
  unfoldable pub value_at : List ℕ → ℕ → Option T
  value_at values k = decoded (slice_range values (width * k) (width * k + width))

  -- there are this many values
  abbrev pub AreKnown : List ℕ → ℕ → Type 0
  AreKnown values count = (k : ℕ) → k < count → IsSome (value_at values k)

  -- the values from one place to another
  abbrev pub values_between : List ℕ → ℕ → ℕ → List T
  values_between values start end = filter_map (value_at values) (range_with_len start (end - start))

  -- bytes are a column of this many documents: the ends of their values, counted in values, and then just these values
  pub record IsColumn (docs : ℕ) (bytes : List ℕ) : Type 0 where
    pub ends : 8 * docs ≤ length bytes
    pub rise : EndsRise bytes docs
    pub fill : 8 * docs + width * start_at bytes docs ≡ length bytes
    pub known : AreKnown (drop (8 * docs) bytes) (start_at bytes docs)

  -- the values of a document
  unfoldable pub row_of : ℕ → List ℕ → ℕ → List T
  row_of docs bytes doc = values_between (drop (8 * docs) bytes) (start_at bytes doc) (start_at bytes (doc + 1))

  -- the values of each document
  abbrev pub rows_of : ℕ → List ℕ → List (List T)
  rows_of docs bytes = map (row_of docs bytes) (range_with_len 0 docs)
