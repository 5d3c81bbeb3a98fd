-- A column of texts or bytes is read back from its bytes.
use Rattle.std.proofs.Common.{◌≡◌, ℕ, zero, suc, ◌+◌, ◌*◌, ◌^◌, ◌<◌, ◌≤◌, Bool, true, List, [], ◌∷◌, ◌++◌, length, take, drop, map, get_or, slice_range, Option, Some, None, refl, sym, ap, subst, ◌∙◌, arith, append_assoc}
use Rattle.std.specs.Prelude.{All, IsUtf8, if◌then◌else◌}
use Rattle.std.specs.List.{flat_map, range_with_len, AllByRecursion}
use Rattle.std.specs.List.Sorted.{IsStrictlySortedBy}
use Rattle.std.specs.Ordering.{nat_cmp}
use Rattle.std.specs.Int.{w64, to_le_bytes}
use Rattle.std.specs.Cmp.Lexicographic.{slice_cmp}
use Rattle.std.specs.declared.cmp.Ordering.TheVariants.{Less}
use Rattle.std.proofs.lemmas.List.{length-append, drop_at, take_at}
use Rattle.std.proofs.lemmas.List.FromFn.{fill_by_all}
use Rattle.seg_common.specs.LittleEndian.{u64_at}
use Rattle.seg_common.proofs.Bytes.{u64_at-end, u64_at-written}
use Rattle.seg_columns.specs.Ends.{start_at}
use Rattle.seg_columns.specs.ValueImages.{unsigned, value_of_image}
use Rattle.seg_columns.specs.Columns.{rows_of}
use Rattle.seg_columns.specs.Dictionaries.{IsDictionary, count_of, ends_of, texts_of, term_at, terms_of}
use Rattle.seg_columns.specs.TermColumns.{IsBytesColumn, IsStrColumn, UsesEach, dictionary_in, ordinals_in, ordinals_length, term_column_of}
use Rattle.seg_column_format.specs.ColumnBytes.{IsReadBack, column_bytes, dictionary_bytes, ends_from, number_bytes, term_column_bytes, total}
use Rattle.seg_column_format.proofs.PartEnds.{apart, flat_split, last_end, length-number_bytes, range_of, start_at-parts, starts_rise}
use Rattle.seg_column_format.proofs.ColumnRoundTrips.{is_column, length-rows, rows_read}

-- ---- numbers that stand for values

pub image_read : {T : Type 0} (is_image : ℕ → Bool) (value_of : ℕ → T) (n : ℕ) → n < 2 ^ 64 → is_image n ≡ true
    → value_of_image is_image value_of (to_le_bytes w64 n) ≡ Some (value_of n)
image_read {T = T} is_image value_of n lt is =
    let none : Option T = None in
    let same : u64_at (to_le_bytes w64 n) 0 ≡ n = u64_at-end [] n 0 lt refl in
    ap (λ (m : ℕ). if is_image m then Some (value_of m) else none) same
    ∙ ap (λ (b : Bool). if b then Some (value_of n) else none) is

pub ordinal_read : (ord : ℕ) → ord < 2 ^ 64 → IsReadBack 8 unsigned (to_le_bytes w64) ord
ordinal_read ord lt = record { wide = refl; read = image_read (λ _. true) (λ n. n) ord lt refl }

pub by_recursion : {X : Type 0} (P Q : X → Type 0) → ((x : X) → P x → Q x) → (xs : List X) → All P xs
    → AllByRecursion Q xs
by_recursion P Q follows [] all = tt
by_recursion P Q follows (x ∷ xs) all =
    (follows x (all zero x (omega arith)), by_recursion P Q follows xs (λ i d lt. all (suc i) d (omega (arith, lt))))

ordinals_read : (count : ℕ) → count < 2 ^ 64 → (ords : List (List ℕ)) → All (All (λ ord. ord < count)) ords
    → AllByRecursion (AllByRecursion (IsReadBack 8 unsigned (to_le_bytes w64))) ords
ordinals_read count few ords below =
    by_recursion (All (λ ord. ord < count)) (AllByRecursion (IsReadBack 8 unsigned (to_le_bytes w64)))
    (λ row. by_recursion (λ ord. ord < count) (IsReadBack 8 unsigned (to_le_bytes w64))
    (λ ord lt. ordinal_read ord (omega (arith, lt, few))) row) ords below

-- ---- dictionaries

adjacent : (terms : List (List ℕ)) → IsStrictlySortedBy (slice_cmp nat_cmp) terms → (i : ℕ) → i + 1 < length terms
    → slice_cmp nat_cmp (get_or terms i []) (get_or terms (suc i) []) ≡ Less
unfolding IsStrictlySortedBy
adjacent [] sorted i lt = absurd (omega (arith, lt))
adjacent (a ∷ []) sorted i lt = absurd (omega (arith, lt))
adjacent (a ∷ b ∷ terms) sorted zero lt = sorted.0.0
adjacent (a ∷ b ∷ terms) sorted (suc i) lt = adjacent (b ∷ terms) sorted.1 i (omega (arith, lt))

module _ (terms : List (List ℕ)) (some : length terms < 2 ^ 64) (few : total terms < 2 ^ 64) where
  abbrev ends : List ℕ
  ends = number_bytes (ends_from 0 terms)

  abbrev texts : List ℕ
  texts = flat_map (λ term. term) terms

  abbrev bytes : List ℕ
  bytes = to_le_bytes w64 (length terms) ++ (ends ++ texts)

  counted : count_of bytes ≡ length terms
  counted = u64_at-written [] (ends ++ texts) (length terms) 0 some refl

  after_count : ends_of bytes ≡ ends ++ texts
  after_count = drop_at (to_le_bytes w64 (length terms)) (ends ++ texts) 8 refl

  after_ends : texts_of bytes ≡ texts
  after_ends =
      let size = length-number_bytes terms few [] in
      let eight : length (to_le_bytes w64 (length terms)) ≡ 8 = refl in
      ap (λ (n : ℕ). drop (8 + 8 * n) bytes) counted
      ∙ ap (drop (8 + 8 * length terms)) (sym (append_assoc (to_le_bytes w64 (length terms)) ends texts))
      ∙ drop_at (to_le_bytes w64 (length terms) ++ ends) texts (8 + 8 * length terms)
      (omega (arith, length-append (to_le_bytes w64 (length terms)) ends, eight, size))

  length-texts : (ts : List (List ℕ)) → length (flat_map (λ term. term) ts) ≡ total ts
  length-texts [] = refl
  length-texts (t ∷ ts) =
      length-append t (flat_map (λ term. term) ts) ∙ ap (λ (n : ℕ). length t + n) (length-texts ts)

  term : (i : ℕ) → i < length terms → get_or terms i [] ≡ term_at bytes i
  unfolding term_at
  term i lt =
      let front : List ℕ = flat_map (λ term. term) (take i terms) in
      let back : List ℕ = flat_map (λ term. term) (drop (i + 1) terms) in
      let split = after_ends ∙ flat_split (λ term. term) terms i [] lt in
      let start = ap (λ (l : List ℕ). start_at l i) after_count
      ∙ start_at-parts terms few texts i (omega (arith, lt)) in
      let count = apart terms few texts i lt in
      let end : start_at (ends_of bytes) (i + 1) ≡ total (take i terms) + length (get_or terms i []) =
      ap (λ (l : List ℕ). start_at l (i + 1)) after_count
      ∙ omega (arith, count, starts_rise terms few texts i lt, start_at-parts terms few texts i (omega (arith, lt))) in
      sym ((λ j. slice_range (split j) (start j) (end j))
      ∙ range_of front (get_or terms i []) back (total (take i terms))
      (total (take i terms) + length (get_or terms i []))
      (length-texts (take i terms)) refl)

  same_terms : terms_of bytes ≡ terms
  unfolding terms_of
  same_terms =
      ap (λ (n : ℕ). map (term_at bytes) (range_with_len 0 n)) counted
      ∙ sym (fill_by_all (term_at bytes) terms (length terms) [] refl term)

  pub terms_read : terms_of (dictionary_bytes terms) ≡ terms
  unfolding dictionary_bytes
  terms_read = same_terms

  pub count_read : count_of (dictionary_bytes terms) ≡ length terms
  unfolding dictionary_bytes
  count_read = counted

  pub is_dictionary : IsStrictlySortedBy (slice_cmp nat_cmp) terms → IsDictionary (dictionary_bytes terms)
  unfolding dictionary_bytes
  is_dictionary sorted = record {
    holds = record {
      room =
          let eight : length (to_le_bytes w64 (length terms)) ≡ 8 = refl in
          omega (
            arith,
            length-append (to_le_bytes w64 (length terms)) (ends ++ texts),
            eight,
            length-append ends texts,
            length-number_bytes terms few [],
            counted,
          );
      rise = λ i lt.
          subst (λ (l : List ℕ). start_at l i ≤ start_at l (i + 1)) (sym after_count)
          (starts_rise terms few texts i (omega (arith, lt, counted)));
      fill =
          (λ j. start_at (after_count j) (counted j)) ∙ last_end terms few texts
          ∙ sym (ap length after_ends ∙ length-texts terms);
    };
    ascend = λ i lt.
        let within : i + 1 < length terms = omega (arith, lt, counted) in
        let s : i + 1 ≡ suc i = omega arith in
        sym (λ j. slice_cmp nat_cmp (term i (omega (arith, within)) j) (term (i + 1) within j))
        ∙ ap (λ (n : ℕ). slice_cmp nat_cmp (get_or terms i []) (get_or terms n [])) s ∙ adjacent terms sorted i within;
  }

-- ---- a whole column

module _ (ords terms : List (List ℕ)) (some : length terms < 2 ^ 64) (few : total terms < 2 ^ 64)
    (values : total ords < 2 ^ 64) where
  abbrev column : List ℕ
  column = column_bytes (to_le_bytes w64) ords

  abbrev dictionary : List ℕ
  dictionary = dictionary_bytes terms

  counted_values : start_at (column ++ dictionary) (length ords) ≡ total ords
  unfolding column_bytes
  counted_values =
      ap (λ (l : List ℕ). start_at l (length ords))
      (append_assoc (number_bytes (ends_from 0 ords)) (flat_map (flat_map (to_le_bytes w64)) ords) dictionary)
      ∙ last_end ords values (flat_map (flat_map (to_le_bytes w64)) ords ++ dictionary)

  module _ (uses : UsesEach (length terms) ords) where
    read : AllByRecursion (AllByRecursion (IsReadBack 8 unsigned (to_le_bytes w64))) ords
    read = ordinals_read (length terms) some ords uses.below

    size : length column ≡ ordinals_length (length ords) (column ++ dictionary)
    unfolding column_bytes
    size =
        length-append (number_bytes (ends_from 0 ords)) (flat_map (flat_map (to_le_bytes w64)) ords)
        ∙ (λ j. length-number_bytes ords values [] j + length-rows 8 unsigned (to_le_bytes w64) (λ v. v) ords read j)
        ∙ ap (λ (n : ℕ). 8 * length ords + 8 * n) (sym counted_values)

    front : ordinals_in (length ords) (column ++ dictionary) ≡ column
    front = take_at column dictionary (ordinals_length (length ords) (column ++ dictionary)) size

    back : dictionary_in (length ords) (column ++ dictionary) ≡ dictionary
    back = drop_at column dictionary (ordinals_length (length ords) (column ++ dictionary)) size

    same_ords : rows_of 8 unsigned (length ords) (ordinals_in (length ords) (column ++ dictionary)) ≡ ords
    same_ords =
        ap (rows_of 8 unsigned (length ords)) front
        ∙ rows_read 8 unsigned (to_le_bytes w64) ords values read

    dictionary_terms : terms_of (dictionary_in (length ords) (column ++ dictionary)) ≡ terms
    dictionary_terms = ap terms_of back ∙ terms_read terms some few

    pub term_column_read : term_column_of (length ords) (term_column_bytes ords terms)
        ≡ record { terms = terms; ords = ords }
    unfolding term_column_bytes
    term_column_read = λ j. record { terms = dictionary_terms j; ords = same_ords j }

    pub is_bytes_column : IsStrictlySortedBy (slice_cmp nat_cmp) terms
        → IsBytesColumn (length ords) (term_column_bytes ords terms)
    unfolding term_column_bytes
    is_bytes_column sorted = record {
      ordinals =
          subst (Rattle.seg_columns.specs.Columns.IsColumn 8 unsigned (length ords)) (sym front)
          (is_column 8 unsigned (to_le_bytes w64) (λ v. v) ords values read);
      dictionary = subst IsDictionary (sym back) (is_dictionary terms some few sorted);
      uses =
          subst (λ (X : Type 0). X)
          (sym (λ j. UsesEach ((ap count_of back ∙ count_read terms some few) j) (same_ords j))) uses;
    }

    column_terms : terms_of (dictionary_in (length ords) (term_column_bytes ords terms)) ≡ terms
    unfolding term_column_bytes
    column_terms = dictionary_terms

    pub is_str_column : IsStrictlySortedBy (slice_cmp nat_cmp) terms → All IsUtf8 terms
        → IsStrColumn (length ords) (term_column_bytes ords terms)
    is_str_column sorted utf8 = record {
      terms = is_bytes_column sorted;
      utf8 = subst (All IsUtf8) (sym column_terms) utf8;
    }
