-- A column of texts, bytes or addresses is what was recorded.
use Rattle.std.proofs.Common.{◌≡◌, ℕ, ◌<◌, ◌^◌, Bool, true, false, List, [], ◌∷◌, ◌++◌, length, map, get_or, Option, refl, sym, ap, subst, ◌∙◌, arith, append_assoc}
use Rattle.std.specs.Prelude.{◌||◌, All, IsUtf8, nat_eq, nat_lt}
use Rattle.std.specs.List.{AllByRecursion, flat_map, list_any}
use Rattle.std.specs.Ordering.{is_gt}
use Rattle.std.proofs.lemmas.Bool.{false≢true, or_right}
use Rattle.std.proofs.lemmas.Bool.Decides.{Decides-eqb}
use Rattle.std.proofs.lemmas.List.{get_or-map, length-map}
use Rattle.std.proofs.lemmas.List.Elements.{All-from_recursion}
use Rattle.std.proofs.lemmas.List.Sorted.{list_any-IsPermutation}
use Rattle.std.proofs.lemmas.List.Folds.{list_any-append}
use Rattle.seg_common.specs.declared.column_type.ColumnType.{ColumnType}
use Rattle.seg_common.specs.declared.column_type.ColumnType.TheVariants as types
use Rattle.seg_common.proofs.Lists.{all_at}
use Rattle.seg_model.specs.Columns.{ColumnValue, bytes_value, ip_value, text_value}
use Rattle.seg_columns.specs.TermColumns.{UsesEach}
use Rattle.seg_column_format.specs.ColumnBytes.{column_bytes, dictionary_bytes, term_column_bytes, total}
use Rattle.seg_column_writer.specs.EncodedColumns.{AddsAddresses, AddsColumn, AddsTexts, AddsValues, IsArranged, IsColumnBytes, ranked}
use Rattle.seg_column_format.specs.RowNumbers.{eight_bytes, term_bytes}
use Rattle.seg_column_writer.specs.RecordedColumns.{value_cmp}
use Rattle.seg_column_format.specs.ValuesByRow.{Rise, rows_from}
use Rattle.seg_column_writer.specs.RowValues.{value_of}
use Rattle.seg_column_writer.specs.SoundColumns.{AreSound, Fits, IsTermOf}
use Rattle.seg_column_format.specs.NumberedTerms.{IsOrder, terms_at}
use Rattle.seg_column_format.specs.declared.row_number.RowNumber.{RowNumber}
use Rattle.seg_column_writer.specs.declared.row_value.RowValue.{RowValue}
use Rattle.seg_column_writer.specs.declared.value_kind.ValueKind.{ValueKind}
use Rattle.seg_column_writer.specs.declared.value_kind.ValueKind.TheVariants.{Bytes, IpAddr, Str}
use Rattle.seg_column_writer.proofs.AddedRows.{bytes_added, few, numbers_below, numbers_rise}
use Rattle.seg_column_writer.proofs.ArrangedValues.{all_of_rows, number, row, still_all, whole}
use Rattle.seg_column_writer.proofs.ColumnParts.{column_bytes_are}
use Rattle.seg_column_writer.proofs.EncodedColumns.{AreOctets, Encodes, addresses_encoded, bytes_encoded, bytes_map, seen_value, texts_encoded}
use Rattle.seg_column_writer.proofs.ImageColumns.{recorded, of_kind}
use Rattle.seg_column_writer.proofs.Ordinals.{many, ordinal_below, ordinal_of_place, ordinal_term, terms_rising}
use Rattle.seg_column_format.proofs.SortedTerms.{below_many}

-- ---- a value among rows

any_flat : {X : Type 0} (test : X → Bool) (rows : List (List X))
    → list_any test (flat_map (λ r. r) rows) ≡ list_any (list_any test) rows
any_flat test [] = refl
any_flat test (r ∷ rows) =
    list_any-append test r (flat_map (λ r. r) rows)
    ∙ ap (λ (b : Bool). list_any test r || b) (any_flat test rows)

any_row : (k : ℕ) (vs : List RowNumber)
    → list_any (nat_eq k) (map number vs) ≡ list_any (λ (v : RowNumber). nat_eq k v.number) vs
any_row k [] = refl
any_row k (v ∷ vs) = ap (λ (b : Bool). nat_eq k v.number || b) (any_row k vs)

any_rows : (k : ℕ) (rows : List (List RowNumber))
    → list_any (list_any (nat_eq k)) (map (map number) rows)
    ≡ list_any (list_any (λ (v : RowNumber). nat_eq k v.number)) rows
any_rows k [] = refl
any_rows k (r ∷ rows) = λ j. any_row k r j || any_rows k rows j

any_arranged : (test : RowNumber → Bool) (sorts : Bool) (xs ys : List RowNumber) → IsArranged sorts xs ys
    → list_any test xs ≡ true → list_any test ys ≡ true
any_arranged test false xs ys is e = ap (list_any test) is ∙ e
any_arranged test true xs ys is e = sym (list_any-IsPermutation test xs ys is.0) ∙ e

any_ranked : (ordinals : List ℕ) (i k : ℕ) → get_or ordinals i 0 ≡ k → (values : List RowValue)
    → list_any (λ (v : RowValue). nat_eq i v.number) values ≡ true
    → list_any (λ (v : RowNumber). nat_eq k v.number) (map (ranked ordinals) values) ≡ true
any_ranked ordinals i k at [] e = absurd (false≢true e)
any_ranked ordinals i k at (v ∷ values) e =
    by (nat_eq i v.number) refl e (λ rest. any_ranked ordinals i k at values rest)
  where
    by : (b : Bool) → nat_eq i v.number ≡ b → (b || list_any (λ (v : RowValue). nat_eq i v.number) values) ≡ true
        → (list_any (λ (v : RowValue). nat_eq i v.number) values ≡ true
        → list_any (λ (v : RowNumber). nat_eq k v.number) (map (ranked ordinals) values) ≡ true)
        → list_any (λ (v : RowNumber). nat_eq k v.number) (map (ranked ordinals) (v ∷ values)) ≡ true
    by true is e rest =
        let same : k ≡ get_or ordinals v.number 0 =
        sym at ∙ ap (λ (n : ℕ). get_or ordinals n 0) ((Decides-eqb i v.number).0 is) in
        ap (λ (b : Bool). b || list_any (λ (v : RowNumber). nat_eq k v.number) (map (ranked ordinals) values))
        ((Decides-eqb k (get_or ordinals v.number 0)).1 same)
    by false is e rest = or_right (nat_eq k (get_or ordinals v.number 0))
        (list_any (λ (v : RowNumber). nat_eq k v.number) (map (ranked ordinals) values)) (rest e)

below_row : (count : ℕ) (vs : List RowNumber) → AllByRecursion (λ (v : RowNumber). v.number < count) vs
    → AllByRecursion (λ (ord : ℕ). ord < count) (map number vs)
below_row count [] each = tt
below_row count (v ∷ vs) each = (each.0, below_row count vs each.1)

below_rows : (count : ℕ) (rows : List (List RowNumber))
    → AllByRecursion (AllByRecursion (λ (v : RowNumber). v.number < count)) rows
    → AllByRecursion (All (λ (ord : ℕ). ord < count)) (map (map number) rows)
below_rows count [] each = tt
below_rows count (r ∷ rows) each = (
  All-from_recursion (λ (ord : ℕ). ord < count) (map number r) (below_row count r each.0),
  below_rows count rows each.1,
)

-- ---- the terms in order

module _ (terms : List (List ℕ)) (numbers ordinals : List ℕ) (is : IsOrder terms numbers ordinals) where
  abbrev sorted : List (List ℕ)
  sorted = terms_at terms numbers

  -- what holds of all terms
  pub all_sorted : (P : List ℕ → Type 0) → AllByRecursion P terms → All P sorted
  all_sorted P each k d lt =
      let within : k < length numbers = omega (arith, lt, length-map numbers (λ n. get_or terms n [])) in
      let below : get_or numbers k 0 < length terms =
      omega (arith, below_many terms numbers is.ascend k 0 within, many terms numbers ordinals is) in
      subst P (sym (get_or-map (λ n. get_or terms n []) numbers k 0 d within))
      (all_at P terms (get_or numbers k 0) [] each below)

  module _ (values : List RowValue) (fits : AllByRecursion (λ (v : RowValue). v.number < length terms) values) where
    ranked_below : AllByRecursion (λ (v : RowNumber). v.number < length sorted) (map (ranked ordinals) values)
    ranked_below = by values fits
      where
        by : (vs : List RowValue) → AllByRecursion (λ (v : RowValue). v.number < length terms) vs
            → AllByRecursion (λ (v : RowNumber). v.number < length sorted) (map (ranked ordinals) vs)
        by [] each = tt
        by (v ∷ vs) each = (ordinal_below terms numbers ordinals is v.number each.0, by vs each.1)

    module _ (rise : Rise (λ (v : RowValue). v.row) 0 values) (count : ℕ)
        (below : AllByRecursion (λ (v : RowValue). v.row < count) values) (sorts : Bool) (encoded : RowNumber → List ℕ)
        (old new : List ℕ) (a : AddsValues encoded sorts (map (ranked ordinals) values) count old new) where
      abbrev rank : RowValue → ℕ
      rank v = get_or ordinals v.number 0

      abbrev rows : List (List RowNumber)
      rows = rows_from row 0 count a.numbers

      rows_below : AllByRecursion (AllByRecursion (λ (v : RowNumber). v.number < length sorted)) rows
      rows_below = all_of_rows (λ (v : RowNumber). v.number < length sorted) 0 count a.numbers
          (still_all (λ (v : RowNumber). v.number < length sorted) sorts (map (ranked ordinals) values) a.numbers
          a.arranged ranked_below)

      uses_each : ((i : ℕ) → i < length terms → list_any (λ (v : RowValue). nat_eq i v.number) values ≡ true)
          → UsesEach (length sorted) (map (map number) rows)
      uses_each used = record {
        below = All-from_recursion (All (λ (ord : ℕ). ord < length sorted)) (map (map number) rows)
            (below_rows (length sorted) rows rows_below);
        used = λ k lt.
            let there = ordinal_of_place terms numbers ordinals is k lt in
            any_rows k rows ∙ sym (any_flat (λ (v : RowNumber). nat_eq k v.number) rows)
            ∙ ap (list_any (λ (v : RowNumber). nat_eq k v.number))
            (whole count a.numbers (numbers_rise rank encoded sorts values rise count below old new a)
            (numbers_below rank encoded sorts values rise count below old new a))
            ∙ any_arranged (λ (v : RowNumber). nat_eq k v.number) sorts (map (ranked ordinals) values) a.numbers
            a.arranged (any_ranked ordinals (get_or numbers k 0) k there.1 values (used (get_or numbers k 0) there.0));
      }

      -- what the ordinals stand for is what was recorded
      seen_terms : (kind : ValueKind) (declared : Option ColumnType) (type : ColumnType) (bytes : List ℕ)
          (shown : List ℕ → ColumnValue)
          → ((n : ℕ) → seen_value type sorted n ≡ shown (get_or sorted n []))
          → ((v : RowValue) → value_of kind terms v ≡ shown (get_or terms v.number []))
          → ((m n : ℕ) → m < length sorted → n < length sorted
          → is_gt (value_cmp (shown (get_or sorted m [])) (shown (get_or sorted n []))) ≡ nat_lt n m)
          → Encodes number type sorted rows bytes
          → IsColumnBytes (recorded kind declared sorts terms values) type count bytes
      seen_terms kind declared type bytes shown seen valued rising encodes =
          column_bytes_are kind terms (λ n. shown (get_or sorted n [])) rank declared sorts values a.numbers a.arranged
          (by values fits) (λ n. n < length sorted) rising ranked_below type sorted count bytes
          (λ n. sym (seen n)) encodes
        where
          by : (vs : List RowValue) → AllByRecursion (λ (v : RowValue). v.number < length terms) vs
              → AllByRecursion (λ (v : RowValue). shown (get_or sorted (rank v) []) ≡ value_of kind terms v) vs
          by [] each = tt
          by (v ∷ vs) each =
              (ap shown (ordinal_term terms numbers ordinals is v.number each.0) ∙ sym (valued v), by vs each.1)

-- ---- columns of texts or bytes

module _ (kind : ValueKind) (declared : Option ColumnType) (signed unsigned : Bool) (values : List RowValue)
    (terms : List (List ℕ)) (sound : AreSound kind declared signed unsigned values terms) (sorts : Bool) (count : ℕ)
    (below : AllByRecursion (λ (v : RowValue). v.row < count) values) (old new : List ℕ) where
  fits_of : (other : ValueKind) → kind ≡ other → AllByRecursion (Fits other (length terms)) values
  fits_of other is = subst (λ (k : ValueKind). AllByRecursion (Fits k (length terms)) values) is sound.fit

  terms_of : (other : ValueKind) → kind ≡ other → AllByRecursion (IsTermOf other) terms
  terms_of other is = subst (λ (k : ValueKind). AllByRecursion (IsTermOf k) terms) is sound.terms_are

  module _ (a : AddsTexts terms sorts values count old new) where
    abbrev in_order : List (List ℕ)
    in_order = terms_at terms a.numbers

    abbrev text_rank : RowValue → ℕ
    text_rank v = get_or a.ordinals v.number 0

    abbrev text_rows : List (List RowNumber)
    text_rows = rows_from row 0 count a.ranks.numbers

    abbrev ords : List (List ℕ)
    ords = map (map number) text_rows

    some : length in_order < 2 ^ 64
    some = omega (arith, a.some, length-map a.numbers (λ n. get_or terms n []))

    enough : total text_rows < 2 ^ 64
    enough = few text_rank eight_bytes sorts values sound.rise count below old a.between a.ranks

    uses : AllByRecursion (λ (v : RowValue). v.number < length terms) values → UsesEach (length in_order) ords
    uses fits = uses_each terms a.numbers a.ordinals a.order values fits sound.rise count below sorts eight_bytes old
        a.between a.ranks sound.used

    texts_added : new ≡ old ++ term_column_bytes ords in_order
    unfolding term_column_bytes
    texts_added =
        a.dictionary
        ∙ ap (λ (l : List ℕ). l ++ dictionary_bytes in_order)
        (bytes_added text_rank eight_bytes sorts values sound.rise count below old a.between a.ranks)
        ∙ append_assoc old (column_bytes eight_bytes text_rows) (dictionary_bytes in_order)
        ∙ ap (λ (l : List ℕ). old ++ (l ++ dictionary_bytes in_order)) (sym (bytes_map number text_rows))

    pub bytes_column : kind ≡ Bytes → AddsColumn (recorded kind declared sorts terms values) types.Bytes count old new
    bytes_column is =
        let fits = fits_of Bytes is in
        of_kind kind declared sorts terms values count old new types.Bytes is (record {
          bytes = term_column_bytes ords in_order;
          are = seen_terms terms a.numbers a.ordinals a.order values fits sound.rise count below sorts eight_bytes old
              a.between a.ranks Bytes declared types.Bytes (term_column_bytes ords in_order) bytes_value (λ n. refl)
              (λ v. refl) (terms_rising terms a.numbers a.ordinals a.order)
              (bytes_encoded number in_order text_rows some a.few enough (uses fits) a.order.ascend.ascend);
          added = texts_added;
        })

    pub texts_column : kind ≡ Str → AddsColumn (recorded kind declared sorts terms values) types.Str count old new
    texts_column is =
        let fits = fits_of Str is in
        of_kind kind declared sorts terms values count old new types.Str is (record {
          bytes = term_column_bytes ords in_order;
          are = seen_terms terms a.numbers a.ordinals a.order values fits sound.rise count below sorts eight_bytes old
              a.between a.ranks Str declared types.Str (term_column_bytes ords in_order) text_value (λ n. refl)
              (λ v. refl) (terms_rising terms a.numbers a.ordinals a.order)
              (texts_encoded number in_order text_rows some a.few enough (uses fits) a.order.ascend.ascend
              (all_sorted terms a.numbers a.ordinals a.order IsUtf8 (terms_of Str is)));
          added = texts_added;
        })

  -- ---- columns of addresses

  module _ (a : AddsAddresses terms sorts values count old new) where
    abbrev listed : List (List ℕ)
    listed = terms_at terms a.numbers

    abbrev address_rank : RowValue → ℕ
    address_rank v = get_or a.ordinals v.number 0

    abbrev address_rows : List (List RowNumber)
    address_rows = rows_from row 0 count a.addresses.numbers

    octets_in : (vs : List RowNumber) → All AreOctets listed
        → AllByRecursion (λ (v : RowNumber). v.number < length listed) vs
        → AllByRecursion (λ (v : RowNumber). AreOctets (get_or listed (number v) [])) vs
    octets_in [] octets each = tt
    octets_in (v ∷ vs) octets each = (octets v.number [] each.0, octets_in vs octets each.1)

    octets_of_rows : (rows : List (List RowNumber)) → All AreOctets listed
        → AllByRecursion (AllByRecursion (λ (v : RowNumber). v.number < length listed)) rows
        → AllByRecursion (AllByRecursion (λ (v : RowNumber). AreOctets (get_or listed (number v) []))) rows
    octets_of_rows [] octets each = tt
    octets_of_rows (r ∷ rows) octets each = (octets_in r octets each.0, octets_of_rows rows octets each.1)

    pub addresses_column : kind ≡ IpAddr
        → AddsColumn (recorded kind declared sorts terms values) types.IpAddr count old new
    addresses_column is =
        let fits = fits_of IpAddr is in
        let octets = octets_of_rows address_rows
        (all_sorted terms a.numbers a.ordinals a.order AreOctets (terms_of IpAddr is))
        (rows_below terms a.numbers a.ordinals a.order values fits sound.rise count below sorts (term_bytes listed) old
        new a.addresses) in
        of_kind kind declared sorts terms values count old new types.IpAddr is (record {
          bytes = column_bytes (term_bytes listed) address_rows;
          are = seen_terms terms a.numbers a.ordinals a.order values fits sound.rise count below sorts
              (term_bytes listed) old new a.addresses IpAddr declared types.IpAddr
              (column_bytes (term_bytes listed) address_rows) ip_value (λ n. refl) (λ v. refl)
              (terms_rising terms a.numbers a.ordinals a.order)
              (addresses_encoded number listed address_rows
              (few address_rank (term_bytes listed) sorts values sound.rise count below old new a.addresses) octets);
          added = bytes_added address_rank (term_bytes listed) sorts values sound.rise count below old new a.addresses;
        })
