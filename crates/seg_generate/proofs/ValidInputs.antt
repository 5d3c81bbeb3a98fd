-- Each generated input is valid, where the analyzers take its texts.
use Rattle.std.proofs.Common.{◌≡◌, ◌∙◌, ◌<◌, ◌≤◌, ◌+◌, ◌-◌, ◌*◌, ◌%◌, ◌^◌, ◌/◌, ◌&&◌, ◌||◌, ℕ, Bool, true, false, not, cond, List, [], ◌∷◌, ◌++◌, map, length, take, drop, Option, None, Some, refl, sym, ap, subst, arith, nat_le}
use Rattle.std.specs.Prelude.{codes, decimal, filter, if◌then◌else◌, is_some, replicate}
use Rattle.std.specs.Int.{w64, to_le_bytes}
use Rattle.std.specs.List.{AllByRecursion, flat_map, list_all, list_any, position_or_len, range_with_len}
use Rattle.std.specs.Option.{option_or}
use Rattle.std.proofs.lemmas.Bool.Decides.{Decides-ltb}
use Rattle.std.proofs.lemmas.Fmt.{length-decimal-le}
use Rattle.std.proofs.lemmas.List.{length-append, take-append-drop}
use Rattle.std.proofs.lemmas.List.FromFn.{length-range_with_len}
use mathlib.Core.Bool.{true≢false}
use Rattle.std.proofs.lemmas.Bool.{and_right}
use Rattle.seg_common.proofs.Lists.{all_both, all_left, all_taken, list_any-place}
use Rattle.seg_common.specs.Marks.{kept}
use Rattle.seg_common.specs.Varint.{varint, varint_within}
use Rattle.seg_common.specs.declared.column_type.ColumnType.{ColumnType}
use Rattle.seg_common.specs.declared.column_type.ColumnType.TheVariants.{I64, U64}
use Rattle.seg_values.specs.Tree.{Document, unsigned}
use Rattle.seg_values.specs.ValueBytes.{value_bytes}
use Rattle.seg_values.specs.StoredBytes.{stored_form}
use Rattle.seg_values.specs.declared.error.ArgumentCause.TheVariants.{Cuts}
use Rattle.seg_values.specs.declared.error.SchemaCause.TheVariants.{DeleteField}
use Rattle.seg_values.specs.declared.error.TantivyError.{TantivyError}
use Rattle.seg_values.specs.declared.error.TantivyError.TheVariants.{InvalidArgument, SchemaError}
use Rattle.seg_model.specs.Fields.{Analyzer, fields}
use Rattle.seg_model.specs.Operations.{Batch, Operation, add, additions, batches_from, delete, delete_all, filtered, live}
use Rattle.seg_model.specs.DocumentCheck.{document_refusal, field_fits, fields_refusal, is_u32, is_within_limits, leaves_refusal, limit_refusal, order_refusal, past_limit, positions_fall, unless}
use Rattle.seg_model.specs.Columns.{ColumnKey, ColumnValue, FastValue, column_at, column_cmp, columns, declared_columns, fast_values, is_mixed, is_not_negative, is_type, value_keys, values_at}
use Rattle.seg_model.specs.Input.{Filter}
use Rattle.seg_model.specs.ValidInputs.{FitsSegment, IsValid, Known, delete_refusal, input_refusal, is_unindexed_delete, never_falls, names_indexed, schema_refusal, shape_refusal, unindexed_delete_of}
use Rattle.seg_common.specs.TabulatedMaps.{is_among, tabulated}
use Rattle.seg_model.proofs.Exports.{map_none, or_none}
use Rattle.seg_generate.specs.Documents.{body_text, document, schema}
use Rattle.seg_generate.specs.GeneratedInput.{cuts, deleted_number, generated, group_operations, operations, settings}
use Rattle.seg_generate.specs.GeneratedTexts.{AreFit, GeneratedInputsAreValid, TakesTexts}

-- ---- a document is taken

one_byte : (n : ℕ) → n < 128 → length (varint n) ≡ 1
unfolding varint_within
one_byte n small =
    ap (λ b. length (if b then n ∷ [] else (128 + n % 128) ∷ varint_within 9 (n / 128))) ((Decides-ltb n 128).1 small)

pub body_length : (n : ℕ) → length (body_text n) ≤ 10
body_length n =
    let x = n % 50 in
    let y = n % 40 in
    let first = length-decimal-le 2 x (omega arith) (omega arith) (omega arith) in
    let second = length-decimal-le 2 y (omega arith) (omega arith) (omega arith) in
    omega (
      arith,
      first,
      second,
      length-append (codes "a") (decimal x ++ (codes " b" ++ decimal y)),
      length-append (decimal x) (codes " b" ++ decimal y),
      length-append (codes " b") (decimal y),
    )

-- what comes before the text in the stored form
abbrev front : ℕ → List ℕ
front n = 2 ∷ 0 ∷ 3 ∷ (to_le_bytes w64 n ++ 1 ∷ 1 ∷ [])

stored_shape : (n : ℕ)
    → stored_form schema (document n) ≡ front n ++ ((varint (length (body_text n)) ++ body_text n) ++ [])
unfolding varint_within
stored_shape n = refl

stored_few : (n : ℕ) → is_u32 (length (stored_form schema (document n))) ≡ true
stored_few n =
    let body = body_text n in
    let small = body_length n in
    let mark = one_byte (length body) (omega (arith, small)) in
    let ahead : length (front n) ≡ 13 = refl in
    let all = ap (λ (bytes : List ℕ). length bytes) (stored_shape n) in
    (Decides-ltb (length (stored_form schema (document n))) (2 ^ 32)).1
    (omega (
      arith,
      small,
      mark,
      ahead,
      all,
      length-append (front n) ((varint (length body) ++ body) ++ []),
      length-append (varint (length body) ++ body) [],
      length-append (varint (length body)) body,
    ))

module _ (analyzer : Analyzer) (n : ℕ) (fit : AreFit (analyzer (codes "default") (body_text n))) where
  in_order : order_refusal schema analyzer (document n) ≡ None
  in_order = ap (λ (b : Bool). option_or (unless (b && true) positions_fall) None) fit.rise

  fields_fit : list_all (field_fits analyzer (document n)) (fields schema) ≡ true
  fields_fit = ap (λ (b : Bool). b && true) fit.few

  within : is_within_limits schema analyzer (document n) ≡ true
  within = λ i. fields_fit i && stored_few n i && true

  taken : document_refusal schema analyzer (document n) ≡ None
  taken =
      or_none (fields_refusal schema (document n)) _ refl
      (or_none (leaves_refusal schema (document n)) _ refl
      (or_none (order_refusal schema analyzer (document n)) (limit_refusal schema analyzer (document n)) in_order
      (ap (λ (b : Bool). unless b past_limit) within)))

-- ---- generated documents have columns

-- a document of some number
abbrev IsGenerated : Document → Type 0
IsGenerated d = (n : ℕ) × (d ≡ document n)

-- no value is a negative number
abbrev AreNatural : List FastValue → Type 0
AreNatural values = AllByRecursion (λ (v : FastValue). is_not_negative v.value ≡ true) values

natural_one : (b : Bool) (v : FastValue) (others : List FastValue) → is_not_negative v.value ≡ true
    → list_all is_not_negative (map (λ (w : FastValue). w.value) others) ≡ true
    → list_all is_not_negative (map (λ (w : FastValue). w.value) (cond b (v ∷ others) others)) ≡ true
natural_one true v others h k = λ i. h i && k i
natural_one false v others h k = k

natural_kept : (test : FastValue → Bool) (values : List FastValue) → AreNatural values
    → list_all is_not_negative (map (λ (w : FastValue). w.value) (filter test values)) ≡ true
natural_kept test [] h = refl
natural_kept test (v ∷ values) h = natural_one (test v) v (filter test values) h.0 (natural_kept test values h.1)

-- the type of numbers, by whether it is declared, whether all fit, and whether none is negative
abbrev type_by : Bool → Bool → Bool → Bool → Option ColumnType
type_by a b f n =
    if a then Some I64 else (if b then Some U64 else (if f then Some I64 else (if n then Some U64 else None)))

typed : (a b f n : Bool) → n ≡ true → not (is_type I64 (type_by a b f n) || is_type U64 (type_by a b f n)) ≡ false
typed true b f n h = refl
typed false true f n h = refl
typed false false true n h = refl
typed false false false true h = refl
typed false false false false h = absurd (true≢false (sym h))

never : {X : Type 0} (test : X → Bool) (xs : List X) → ((x : X) → test x ≡ false) → list_any test xs ≡ false
never test [] h = refl
never test (x ∷ xs) h = λ i. h x i || never test xs h i

some_unless : {X : Type 0} (b : Bool) (x : X) → b ≡ false → is_some (if b then None else Some x) ≡ true
some_unless true x h = absurd (true≢false h)
some_unless false x h = refl

module _ (analyzer : Analyzer) where
  natural_row : (key : ColumnKey) (d : Document) → IsGenerated d
      → list_all is_not_negative (values_at key (fast_values schema analyzer d)) ≡ true
  natural_row key d (n, is) =
      subst (λ (x : Document). list_all is_not_negative (values_at key (fast_values schema analyzer x)) ≡ true) (sym is)
      (natural_kept (λ (v : FastValue). is_among column_cmp (value_keys v) key)
      (fast_values schema analyzer (document n))
      (refl, (refl, tt)))

  abbrev rows : List Document → ColumnKey → List (List ColumnValue)
  rows ds key = map (values_at key) (map (fast_values schema analyzer) ds)

  natural_rows : (key : ColumnKey) (ds : List Document) → AllByRecursion IsGenerated ds
      → list_all (list_all is_not_negative) (rows ds key) ≡ true
  natural_rows key [] h = refl
  natural_rows key (d ∷ ds) h = λ i. natural_row key d h.0 i && natural_rows key ds h.1 i

  unmixed : (ds : List Document) → AllByRecursion IsGenerated ds → (key : ColumnKey)
      → is_mixed (declared_columns schema) key (rows ds key) ≡ false
  unmixed ds h key = and_right _ _ (typed _ _ _ _ (natural_rows key ds h))

  have_columns : (ds : List Document) → AllByRecursion IsGenerated ds → is_some (columns schema analyzer ds) ≡ true
  have_columns ds h =
      let keys = declared_columns schema ++ flat_map (flat_map value_keys) (map (fast_values schema analyzer) ds) in
      some_unless (list_any (λ (k : ColumnKey). is_mixed (declared_columns schema) k (rows ds k)) keys)
      (tabulated (λ (k : ColumnKey). column_at (declared_columns schema) k (rows ds k)) keys)
      (never (λ (k : ColumnKey). is_mixed (declared_columns schema) k (rows ds k)) keys (unmixed ds h))

-- ---- generated operations

-- an addition of a generated document, or a delete by `id`
abbrev IsFine : Operation → Type 0
IsFine (add d) = IsGenerated d
IsFine (delete term) = term.field ≡ 0
IsFine (delete_all terms) = ⊥

additions_fine : (os : List Operation) → AllByRecursion IsFine os → AllByRecursion IsGenerated (additions os)
additions_fine [] h = tt
additions_fine (add d ∷ os) h = (h.0, additions_fine os h.1)
additions_fine (delete term ∷ os) h = additions_fine os h.1
additions_fine (delete_all terms ∷ os) h = absurd h.0

additions_few : (os : List Operation) → length (additions os) ≤ length os
additions_few [] = omega arith
additions_few (add d ∷ os) = omega (arith, additions_few os)
additions_few (delete term ∷ os) = omega (arith, additions_few os)
additions_few (delete_all terms ∷ os) = omega (arith, additions_few os)

added_fine : (seed group : ℕ) (places : List ℕ)
    → AllByRecursion IsFine (map (λ place. add (document (8 * group + place))) places)
added_fine seed group [] = tt
added_fine seed group (place ∷ places) = ((8 * group + place, refl), added_fine seed group places)

groups_fine : (seed : ℕ) (groups : List ℕ) → AllByRecursion IsFine (flat_map (group_operations seed) groups)
groups_fine seed [] = tt
groups_fine seed (group ∷ groups) =
    all_both IsFine (group_operations seed group) (flat_map (group_operations seed) groups)
    (all_both IsFine (map (λ place. add (document (8 * group + place))) (range_with_len 0 8))
    (delete (record { field = 0; bytes = value_bytes (unsigned (deleted_number seed group)) }) ∷ [])
    (added_fine seed group (range_with_len 0 8)) (refl, tt))
    (groups_fine seed groups)

groups_long : (seed : ℕ) (groups : List ℕ) → length (flat_map (group_operations seed) groups) ≡ 9 * length groups
groups_long seed [] = refl
groups_long seed (group ∷ groups) =
    let nine : length (group_operations seed group) ≡ 9 = refl in
    omega (
      arith,
      nine,
      groups_long seed groups,
      length-append (group_operations seed group) (flat_map (group_operations seed) groups),
    )

operations_fine : (seed : ℕ) → AllByRecursion IsFine (operations seed)
unfolding operations
operations_fine seed = groups_fine seed (range_with_len 0 250)

operations_long : (seed : ℕ) → length (operations seed) ≡ 2250
unfolding operations
operations_long seed = omega (arith, groups_long seed (range_with_len 0 250), length-range_with_len 0 250)

-- ---- batches and survivors

-- the documents of some batches
abbrev total : List Batch → ℕ
total [] = 0
total (b ∷ bs) = length b.documents + total bs

-- a batch of generated documents
abbrev IsFineBatch : Batch → Type 0
IsFineBatch b = AllByRecursion IsGenerated b.documents

kept_fine : (marks : List Bool) (ds : List Document) → AllByRecursion IsGenerated ds
    → AllByRecursion IsGenerated (kept marks ds)
kept_fine [] ds h = tt
kept_fine (b ∷ marks) [] h = tt
kept_fine (true ∷ marks) (d ∷ ds) h = (h.0, kept_fine marks ds h.1)
kept_fine (false ∷ marks) (d ∷ ds) h = kept_fine marks ds h.1

kept_few : (marks : List Bool) (ds : List Document) → length (kept marks ds) ≤ length ds
kept_few [] ds = omega arith
kept_few (b ∷ marks) [] = omega arith
kept_few (true ∷ marks) (d ∷ ds) = omega (arith, kept_few marks ds)
kept_few (false ∷ marks) (d ∷ ds) = omega (arith, kept_few marks ds)

live_fine : (filters : List (Option Filter)) (bs : List Batch) → AllByRecursion IsFineBatch bs
    → AllByRecursion IsGenerated (flat_map live (filtered filters bs))
live_fine filters [] h = tt
live_fine [] (b ∷ bs) h =
    all_both IsGenerated (live b) (flat_map live (filtered [] bs))
    (kept_fine b.alive b.documents h.0) (live_fine [] bs h.1)
live_fine (f ∷ filters) (b ∷ bs) h =
    all_both IsGenerated _ (flat_map live (filtered filters bs))
    (kept_fine _ b.documents h.0) (live_fine filters bs h.1)

joined_few : (ds front after : List Document) (rest : ℕ) → length front ≤ length ds → length after ≤ rest
    → length (front ++ after) ≤ length ds + rest
joined_few ds front after rest h k = omega (arith, h, k, length-append front after)

live_few : (filters : List (Option Filter)) (bs : List Batch) → length (flat_map live (filtered filters bs)) ≤ total bs
live_few filters [] = omega arith
live_few [] (b ∷ bs) =
    omega (arith, kept_few b.alive b.documents, live_few [] bs, length-append (live b) (flat_map live (filtered [] bs)))
live_few (f ∷ filters) (b ∷ bs) =
    joined_few b.documents _ (flat_map live (filtered filters bs)) (total bs)
    (kept_few _ b.documents) (live_few filters bs)

each_few : (bs : List Batch) (n : ℕ) → total bs ≤ n → AllByRecursion (λ (b : Batch). length b.documents ≤ n) bs
each_few [] n h = tt
each_few (b ∷ bs) n h = (omega (arith, h), each_few bs n (omega (arith, h)))

module _ (analyzer : Analyzer) where
  batches_fine : (from : ℕ) (ends : List ℕ) (os : List Operation) → AllByRecursion IsFine os
      → AllByRecursion IsFineBatch (batches_from schema analyzer from ends os)
  batches_fine from [] os h = (additions_fine os h, tt)
  batches_fine from (end ∷ ends) os h = (
    additions_fine (take (end - from) os) (all_taken IsFine (end - from) os h),
    batches_fine end ends (drop (end - from) os) (all_left IsFine (end - from) os h),
  )

  batches_few : (from : ℕ) (ends : List ℕ) (os : List Operation)
      → total (batches_from schema analyzer from ends os) ≤ length os
  batches_few from [] os = omega (arith, additions_few os)
  batches_few from (end ∷ ends) os =
      omega (
        arith,
        additions_few (take (end - from) os),
        batches_few end ends (drop (end - from) os),
        ap (λ (all : List Operation). length all) (take-append-drop (end - from) os),
        length-append (take (end - from) os) (drop (end - from) os),
      )

  fits_segment : (ds : List Document) → AllByRecursion IsGenerated ds → length ds ≤ 2250
      → FitsSegment schema analyzer ds
  fits_segment ds h few = record { few = omega (arith, few); columns = have_columns analyzer ds h }

  all_fit : (bs : List Batch) → AllByRecursion IsFineBatch bs
      → AllByRecursion (λ (b : Batch). length b.documents ≤ 2250) bs
      → AllByRecursion (λ (b : Batch). FitsSegment schema analyzer b.documents) bs
  all_fit [] h few = tt
  all_fit (b ∷ bs) h few = (fits_segment b.documents h.0 few.0, all_fit bs h.1 few.1)

-- ---- no test of the input refuses it

indexed_delete : (o : Operation) → IsFine o → is_unindexed_delete schema o ≡ false
indexed_delete (add d) h = refl
indexed_delete (delete term) h =
    ap (λ (field : ℕ). not (names_indexed schema (record { field = field; bytes = term.bytes }))) h
indexed_delete (delete_all terms) h = absurd h

none_any : (os : List Operation) → AllByRecursion IsFine os → list_any (is_unindexed_delete schema) os ≡ false
none_any [] h = refl
none_any (o ∷ os) h = λ i. indexed_delete o h.0 i || none_any os h.1 i

deletes_stand : (os : List Operation) → AllByRecursion IsFine os → delete_refusal schema os ≡ None
deletes_stand os h =
    map_none (λ at. SchemaError (DeleteField at)) (unindexed_delete_of schema os)
    (ap (λ (b : Bool). cond b (Some (position_or_len (is_unindexed_delete schema) os)) None)
    (sym (list_any-place (is_unindexed_delete schema) os) ∙ none_any os h))

module _ (known : Known) (analyzer : Analyzer) (seed : ℕ) (takes : TakesTexts known analyzer) where
  abbrev bs : List Batch
  bs = batches_from schema analyzer 0 cuts (operations seed)

  abbrev by_shape : Option TantivyError
  by_shape = shape_refusal (operations seed) cuts (replicate 5 None) bs (range_with_len 1 6)

  cuts_stand : by_shape ≡ None
  cuts_stand =
      ap
      (λ (n : ℕ). option_or (unless (never_falls cuts && list_all (λ cut. nat_le cut n) cuts) (InvalidArgument Cuts)) None)
      (operations_long seed)

  schema_stands : schema_refusal known schema settings ≡ None
  schema_stands = ap (λ (b : Bool). schema_refusal (λ name. b) schema settings) takes.is_known

  accepted : input_refusal known analyzer (generated seed) ≡ None
  unfolding generated
  accepted =
      or_none by_shape _ cuts_stand
      (or_none (schema_refusal known schema settings) _ schema_stands
      (deletes_stand (operations seed) (operations_fine seed)))

  all_taken_so : (ds : List Document) → AllByRecursion IsGenerated ds
      → AllByRecursion (λ (d : Document). document_refusal schema analyzer d ≡ None) ds
  all_taken_so [] h = tt
  all_taken_so (d ∷ ds) h =
      let here = taken analyzer h.0.0 (takes.takes h.0.0) in
      (subst (λ (x : Document). document_refusal schema analyzer x ≡ None) (sym h.0.1) here, all_taken_so ds h.1)

  bs_few : total bs ≤ 2250
  bs_few = omega (arith, batches_few analyzer 0 cuts (operations seed), operations_long seed)

  bs_fine : AllByRecursion IsFineBatch bs
  bs_fine = batches_fine analyzer 0 cuts (operations seed) (operations_fine seed)

  valid : IsValid known analyzer (generated seed)
  unfolding generated
  valid = record {
    accepted = accepted;
    taken = all_taken_so (additions (operations seed)) (additions_fine (operations seed) (operations_fine seed));
    batches = all_fit analyzer bs bs_fine (each_few bs 2250 bs_few);
    survivors = fits_segment analyzer (flat_map live (filtered (replicate 5 None) bs))
        (live_fine (replicate 5 None) bs bs_fine)
        (omega (arith, live_few (replicate 5 None) bs, bs_few));
  }

pub generated_valid : GeneratedInputsAreValid
generated_valid known analyzer seed takes = valid known analyzer seed takes
