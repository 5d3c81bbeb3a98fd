-- Numbers of a path without a type leave the columns undefined.
use Rattle.std.proofs.Common.{◌≡◌, ℕ, Bool, true, false, cond, List, [], ◌∷◌, ◌++◌, map, Option, Some, None, sym, refl, ap, subst, ◌∙◌}
use Rattle.std.specs.Prelude.{◌||◌, ◌&&◌, not, is_some, nat_eq, if◌then◌else◌}
use Rattle.std.specs.Cmp.Lexicographic.{bytes_decides}
use Rattle.std.specs.List.{AllByRecursion, list_any}
use Rattle.std.specs.Str.{bytes_eq}
use Rattle.std.proofs.lemmas.Bool.{false≢true, and_parts, or_right}
use Rattle.std.proofs.lemmas.Bool.Decides.{Decides-eqb}
use Rattle.std.proofs.lemmas.List.Folds.{list_any-append}
use Rattle.std.specs.Option.{option_or}
use Rattle.seg_common.specs.TabulatedMaps.{is_among, tabulated}
use Rattle.seg_common.specs.declared.column_type.ColumnType.{ColumnType}
use Rattle.seg_common.specs.declared.column_type.ColumnType.TheVariants as types
use Rattle.seg_model.specs.Columns.{ColumnKey, ColumnValue, column_at, column_cmp, column_named, free_number_type, is_declared, is_mixed, is_type}
use Rattle.seg_column_format.proofs.Exports.{same_column, Rows}
use Rattle.seg_column_writer.specs.ValueKinds.{kind_of, kind_place}
use Rattle.seg_column_writer.specs.RecordedColumns.{all_types, declared_in, keys_in, keys_with, lacks_type, recorded_columns, rows_at, rows_in, type_of_values}
use Rattle.seg_column_writer.specs.ColumnRecords.{ColumnRecord, Recording, is_named}
use Rattle.seg_column_writer.specs.declared.value_kind.ValueKind.{ValueKind}
use Rattle.seg_column_writer.specs.declared.value_kind.ValueKind.TheVariants.{Number, Bytes, Str, Bool as Boolean, IpAddr, DateTime}
use Rattle.seg_column_writer.proofs.RecordedKeys.{AreApart, AreOfKind, NoneNamed, declared_nowhere, declared_skip, key_eq, keyed, same_kind, type_of_rows, type_in}
use Rattle.seg_column_writer.proofs.WholeFiles.{key_is}

abbrev values_of : Recording → List ColumnValue
values_of r = map (λ v. v.value) r.values

-- ---- a column without a type

none_of : (o : Option ColumnType) → not (is_some o) ≡ true → o ≡ None
none_of None e = refl
none_of (Some t) e = absurd (false≢true e)

lacking : (kind : ValueKind) (declared : Option ColumnType) (values : List ColumnValue)
    → not (is_some (option_or declared (type_of_values kind values))) ≡ true
    → (declared ≡ None) × (kind ≡ Number) × (type_of_values kind values ≡ None)
lacking kind (Some t) values e = absurd (false≢true e)
lacking Number None values e = (refl, refl, none_of (free_number_type (values ∷ [])) e)
lacking Bytes None values e = absurd (false≢true e)
lacking Str None values e = absurd (false≢true e)
lacking Boolean None values e = absurd (false≢true e)
lacking IpAddr None values e = absurd (false≢true e)
lacking DateTime None values e = absurd (false≢true e)

-- its rows tell what its values do
abbrev pub AreFree : ℕ → List ColumnRecord → Type 0
AreFree count columns = AllByRecursion (λ c. type_of_values c.recording.kind (map (λ v. v.value) c.recording.values)
    ≡ type_of_rows c.recording.kind (rows_in count c.recording)) columns

-- ---- a path whose numbers have no type

record MixedAt (count : ℕ) (cs : List ColumnRecord) : Type 0 where
  pub path : List ℕ
  pub there : list_any (is_named path Number) cs ≡ true
  pub mixed : is_mixed (declared_in cs) (keyed path types.I64) (rows_at count cs (keyed path types.I64)) ≡ true
  pub among : is_among column_cmp (keys_in cs) (keyed path types.I64) ≡ true

abbrev has_no_type : Option ColumnType → Bool
has_no_type o = not (is_type types.I64 o || is_type types.U64 o)

module _ (count : ℕ) (c : ColumnRecord) (cs : List ColumnRecord) (of : AreOfKind (c ∷ cs)) (apart : AreApart (c ∷ cs)) where
  abbrev rest_of : ColumnType → Rows
  rest_of type = rows_at count cs (keyed c.path type)

  -- the first column has no type
  first : type_of_values c.recording.kind (values_of c.recording) ≡ type_of_rows c.recording.kind (rows_in count c.recording)
      → lacks_type c.recording ≡ true → MixedAt count (c ∷ cs)
  first free lacks = record {
    path = c.path;
    there = ap (λ (b : Bool). b || list_any (is_named c.path Number) cs) here;
    mixed =
        (λ j. has_no_type (type_in (undeclared types.I64 refl j) (undeclared types.U64 refl j)
        (cond (here j) (rows_in count c.recording) (rest_of types.I64))))
        ∙ ap has_no_type none;
    among = ap (λ (b : Bool). b || list_any (key_is (keyed c.path types.I64))
        (keys_with c.path (types.U64 ∷ types.Bytes ∷ types.Str ∷ types.Bool ∷ types.IpAddr ∷ types.DateTime ∷ []) ++ keys_in cs))
        (key_eq (keyed c.path types.I64) (keyed c.path types.I64) ∙ (λ j. same_path j && true));
  }
    where
      told : (c.recording.declared ≡ None) × (c.recording.kind ≡ Number)
          × (type_of_values c.recording.kind (values_of c.recording) ≡ None)
      told = lacking c.recording.kind c.recording.declared (values_of c.recording) lacks

      same_path : bytes_eq c.path c.path ≡ true
      same_path = (bytes_decides c.path c.path).1 refl

      here : is_named c.path Number c ≡ true
      here = (λ j. (Decides-eqb (kind_place Number) (kind_place c.recording.kind)).1 (ap kind_place (sym told.1)) j
          && same_path j)

      none : free_number_type (rows_in count c.recording) ≡ None
      none = subst (λ (k : ValueKind). type_of_rows k (rows_in count c.recording) ≡ None) told.1 (sym free ∙ told.2)

      undeclared : (type : ColumnType) → kind_of type ≡ Number
          → is_declared (declared_in (c ∷ cs)) (keyed c.path type) ≡ false
      undeclared type number =
          ap (λ (d : Option ColumnType). is_declared (column_named c.path d ++ declared_in cs) (keyed c.path type)) told.0
          ∙ declared_nowhere c.path type cs of.1
          (subst (λ (k : ValueKind). NoneNamed c.path k cs) (told.1 ∙ sym number) apart.0)

  none_any : (test : ColumnRecord → Bool) (ds : List ColumnRecord) → AllByRecursion (λ d. test d ≡ false) ds
      → list_any test ds ≡ false
  none_any test [] none = refl
  none_any test (d ∷ ds) none = λ j. none.0 j || none_any test ds none.1 j

  -- a later one has none
  later : MixedAt count cs → MixedAt count (c ∷ cs)
  later m = by (is_named m.path Number c) refl
    where
      by : (b : Bool) → is_named m.path Number c ≡ b → MixedAt count (c ∷ cs)
      by true e =
          let both = and_parts (nat_eq (kind_place Number) (kind_place c.recording.kind)) (bytes_eq m.path c.path) e in
          let kind : Number ≡ c.recording.kind = same_kind Number c.recording.kind
          ((Decides-eqb (kind_place Number) (kind_place c.recording.kind)).0 both.0) in
          let path : m.path ≡ c.path = (bytes_decides m.path c.path).0 both.1 in
          absurd (false≢true (sym (none_any (is_named c.path c.recording.kind) cs apart.0)
          ∙ sym (λ j. list_any (is_named (path j) (kind j)) cs) ∙ m.there))
      by false e = record {
        path = m.path;
        there = ap (λ (b : Bool). b || list_any (is_named m.path Number) cs) e ∙ m.there;
        mixed =
            (λ j. has_no_type (type_in (declared_skip m.path types.I64 c of.0 e (declared_in cs) j)
            (declared_skip m.path types.U64 c of.0 e (declared_in cs) j)
            (cond (e j) (rows_in count c.recording) (rows_at count cs (keyed m.path types.I64))))) ∙ m.mixed;
        among =
            list_any-append (key_is (keyed m.path types.I64)) (keys_with c.path all_types) (keys_in cs)
            ∙ or_right (list_any (key_is (keyed m.path types.I64)) (keys_with c.path all_types))
            (is_among column_cmp (keys_in cs) (keyed m.path types.I64)) m.among;
      }

mixed_at : (count : ℕ) (cs : List ColumnRecord) → AreOfKind cs → AreApart cs → AreFree count cs
    → list_any (λ c. lacks_type c.recording) cs ≡ true → MixedAt count cs
mixed_at count [] of apart free any = absurd (false≢true any)
mixed_at count (c ∷ cs) of apart free any =
    by (lacks_type c.recording) refl any (mixed_at count cs of.1 apart.1 free.1)
  where
    by : (b : Bool) → lacks_type c.recording ≡ b → (b || list_any (λ d. lacks_type d.recording) cs) ≡ true
        → (list_any (λ d. lacks_type d.recording) cs ≡ true → MixedAt count cs) → MixedAt count (c ∷ cs)
    by true e any rest = first count c cs of apart free.0 e
    by false e any rest = later count c cs of apart (rest any)

pub among_passes : (test : ColumnKey → Bool) (q : ColumnKey) (ks : List ColumnKey) → test q ≡ true
    → is_among column_cmp ks q ≡ true → list_any test ks ≡ true
among_passes test q [] passes among = absurd (false≢true among)
among_passes test q (k ∷ ks) passes among = by (key_is q k) refl among (among_passes test q ks passes)
  where
    by : (b : Bool) → key_is q k ≡ b → (b || is_among column_cmp ks q) ≡ true
        → (is_among column_cmp ks q ≡ true → list_any test ks ≡ true) → (test k || list_any test ks) ≡ true
    by true e among rest = ap (λ (b : Bool). b || list_any test ks) (ap test (sym (same_column q k e)) ∙ passes)
    by false e among rest = or_right (test k) (list_any test ks) (rest among)

-- numbers without a type leave the columns undefined
pub undefined : (count : ℕ) (cs : List ColumnRecord) → AreOfKind cs → AreApart cs → AreFree count cs
    → list_any (λ c. lacks_type c.recording) cs ≡ true → recorded_columns count cs ≡ None
undefined count cs of apart free any =
    let m = mixed_at count cs of apart free any in
    let test : ColumnKey → Bool = λ k. is_mixed (declared_in cs) k (rows_at count cs k) in
    ap (λ (b : Bool). if b then None else Some (tabulated
    (λ k. column_at (declared_in cs) k (rows_at count cs k)) (declared_in cs ++ keys_in cs)))
    (list_any-append test (declared_in cs) (keys_in cs)
    ∙ or_right (list_any test (declared_in cs)) (list_any test (keys_in cs))
    (among_passes test (keyed m.path types.I64) (keys_in cs) m.mixed m.among))
