-- A column while values come, with one more value.
use Rattle.std.proofs.Common.{◌≡◌, ℕ, zero, suc, ◌+◌, ◌^◌, ◌<◌, ◌≤◌, Bool, true, false, cond, List, [], ◌∷◌, ◌++◌, length, map, get_or, Option, Some, None, sym, refl, ap, subst, ◌∙◌, arith, inl, inr}
use Rattle.std.specs.Prelude.{◌||◌, ◌&&◌, All, nat_eq, nat_lt, not, Result, Ok, Err, OnOk, OnErr}
use Rattle.std.specs.List.{AllByRecursion, list_all, list_any}
use Rattle.std.specs.Str.{bytes_eq}
use Rattle.std.proofs.lemmas.Bool.{false≢true, cases_lt, and_from}
use Rattle.std.proofs.lemmas.Bool.Decides.{Decides-eqb}
use Rattle.std.proofs.lemmas.List.{get_or_append_left, get_or_push, length_push, map-append}
use Rattle.std.proofs.Math.Bool.{and-true}
use Rattle.seg_common.proofs.Lists.{all_push}
use Rattle.seg_common.specs.declared.column_type.ColumnType.{ColumnType}
use Rattle.seg_common.specs.declared.column_type.ColumnType.TheVariants as types
use Rattle.seg_common.proofs.Bools.{and_grouped}
use Rattle.seg_model.specs.Columns.{ColumnValue, fits_i64, is_not_negative}
use Rattle.seg_column_writer.specs.ValueKinds.{kind_of}
use Rattle.seg_column_writer.specs.RecordedColumns.{IsOfKind, IsRecorded, type_of_values}
use Rattle.seg_column_writer.specs.ColumnRecords.{Accepts, Recording, RowedValue, with_value}
use Rattle.seg_column_format.specs.ValuesByRow.{Rise}
use Rattle.seg_column_writer.specs.RowValues.{fits_signed, fits_unsigned, integer_of, term_value, value_of}
use Rattle.seg_column_writer.specs.SoundColumns.{AreSound, Fits, IsAdded, IsDeclared, IsKept, IsTermOf, MarksTell, rowed}
use Rattle.seg_column_writer.specs.declared.known_values.KnownValues.{KnownValues}
use Rattle.seg_column_format.specs.NumberedTerms.{term_number, with_term}
use Rattle.seg_column_writer.specs.declared.row_value.RowValue.{RowValue}
use Rattle.seg_column_writer.specs.declared.value_kind.ValueKind.{ValueKind}
use Rattle.seg_column_writer.specs.declared.value_kind.ValueKind.TheVariants.{Number, Bytes, Str, Bool as Boolean, IpAddr, DateTime}
use Rattle.seg_column_format.proofs.TermNumbers.{term_at, term_number-new, term_within, with_term-new}

abbrev row_of : RowValue → ℕ
row_of v = v.row

-- no row falls with one that is reached at the end
rise_push : (low : ℕ) (values : List RowValue) (v : RowValue) → Rise row_of low values
    → AllByRecursion (λ w. w.row ≤ v.row) values → low ≤ v.row → Rise row_of low (values ++ v ∷ [])
rise_push low [] v rise all le = (le, tt)
rise_push low (w ∷ values) v rise all le = (rise.0, rise_push w.row values v rise.1 all.1 all.0)

pub reached : (kind : ValueKind) (terms : List (List ℕ)) (row : ℕ) (values : List RowValue)
    → All (λ (v : RowedValue). v.row ≤ row) (map (rowed kind terms) values)
    → AllByRecursion (λ (w : RowValue). w.row ≤ row) values
reached kind terms row [] all = tt
reached kind terms row (v ∷ values) all = (
  all zero (rowed kind terms v) (omega arith),
  reached kind terms row values (λ i d lt. all (suc i) d (omega (arith, lt))),
)

all_and : {X : Type 0} (test : X → Bool) (xs : List X) (x : X) → list_all test (xs ++ x ∷ []) ≡ (list_all test xs && test x)
all_and test [] x = by (test x)
  where
    by : (b : Bool) → (b && true) ≡ b
    by true = refl
    by false = refl
all_and test (y ∷ xs) x =
    ap (λ (b : Bool). test y && b) (all_and test xs x) ∙ and_grouped (test y) (list_all test xs) (test x)

any_push : {X : Type 0} (test : X → Bool) (xs : List X) (x : X) → list_any test xs ≡ true
    → list_any test (xs ++ x ∷ []) ≡ true
any_push test [] x e = absurd (false≢true e)
any_push test (y ∷ xs) x e = by (test y) e (any_push test xs x)
  where
    by : (b : Bool) → (b || list_any test xs) ≡ true → (list_any test xs ≡ true → list_any test (xs ++ x ∷ []) ≡ true)
        → (b || list_any test (xs ++ x ∷ [])) ≡ true
    by true e more = refl
    by false e more = more e

any_last : {X : Type 0} (test : X → Bool) (xs : List X) (x : X) → test x ≡ true → list_any test (xs ++ x ∷ []) ≡ true
any_last test [] x e = ap (λ (b : Bool). b || false) e
any_last test (y ∷ xs) x e = by (test y) (any_last test xs x e)
  where
    by : (b : Bool) → list_any test (xs ++ x ∷ []) ≡ true → (b || list_any test (xs ++ x ∷ [])) ≡ true
    by true e = refl
    by false e = e

-- ---- a value without a term

fits_any : (kind : ValueKind) (count : ℕ) (v : RowValue) → Fits kind 0 v → Fits kind count v
fits_any Number count v fits = tt
fits_any Bytes count v fits = absurd (omega (arith, fits))
fits_any Str count v fits = absurd (omega (arith, fits))
fits_any Boolean count v fits = fits
fits_any IpAddr count v fits = absurd (omega (arith, fits))
fits_any DateTime count v fits = tt

marks_push : (kind : ValueKind) (signed unsigned : Bool) (values : List RowValue) (v : RowValue)
    → MarksTell kind signed unsigned values
    → MarksTell kind (signed && fits_signed v) (unsigned && fits_unsigned v) (values ++ v ∷ [])
marks_push Number signed unsigned values v marks = (
  ap (λ (b : Bool). b && fits_signed v) marks.0 ∙ sym (all_and fits_signed values v),
  ap (λ (b : Bool). b && fits_unsigned v) marks.1 ∙ sym (all_and fits_unsigned values v),
)
marks_push Bytes signed unsigned values v marks = tt
marks_push Str signed unsigned values v marks = tt
marks_push Boolean signed unsigned values v marks = tt
marks_push IpAddr signed unsigned values v marks = tt
marks_push DateTime signed unsigned values v marks = tt

-- the model's tests are those of the marks
pub signed_test : (b : Bool) (n : ℕ) → fits_i64 (Rattle.seg_model.specs.Columns.number (integer_of b n)) ≡ nat_lt n (2 ^ 63)
signed_test true n = refl
signed_test false n = refl

pub unsigned_test : (b : Bool) (n : ℕ) → is_not_negative (Rattle.seg_model.specs.Columns.number (integer_of b n)) ≡ not b
unsigned_test true n = refl
unsigned_test false n = refl

declared_push : (kind : ValueKind) (declared : Option ColumnType) (signed unsigned : Bool) (v : RowValue)
    → IsDeclared kind declared signed unsigned → Accepts declared (value_of kind [] v)
    → IsDeclared kind declared (signed && fits_signed v) (unsigned && fits_unsigned v)
declared_push kind None signed unsigned v is accepts = tt
declared_push kind (Some types.I64) signed unsigned v is accepts =
    let here : fits_i64 (value_of Number [] v) ≡ true =
    subst (λ (k : ValueKind). fits_i64 (value_of k [] v) ≡ true) is.0 accepts in
    (is.0, and_from signed (fits_signed v) is.1 (sym (signed_test v.negative v.number) ∙ here))
declared_push kind (Some types.U64) signed unsigned v is accepts =
    let here : is_not_negative (value_of Number [] v) ≡ true =
    subst (λ (k : ValueKind). is_not_negative (value_of k [] v) ≡ true) is.0 accepts in
    (is.0, and_from unsigned (fits_unsigned v) is.1 (sym (unsigned_test v.negative v.number) ∙ here))
declared_push kind (Some types.Bytes) signed unsigned v is accepts = is
declared_push kind (Some types.Str) signed unsigned v is accepts = is
declared_push kind (Some types.Bool) signed unsigned v is accepts = is
declared_push kind (Some types.IpAddr) signed unsigned v is accepts = is
declared_push kind (Some types.DateTime) signed unsigned v is accepts = is

module _ (kind : ValueKind) (declared : Option ColumnType) (signed unsigned : Bool) (values : List RowValue)
    (terms : List (List ℕ)) (sound : AreSound kind declared signed unsigned values terms) where
  pub pushed : (v : RowValue) → AllByRecursion (λ (w : RowValue). w.row ≤ v.row) values → Fits kind 0 v
      → Accepts declared (value_of kind [] v)
      → AreSound kind declared (signed && fits_signed v) (unsigned && fits_unsigned v) (values ++ v ∷ []) terms
  pushed v all fits accepts = record {
    rise = rise_push 0 values v sound.rise all (omega arith);
    fit = all_push (Fits kind (length terms)) values v sound.fit (fits_any kind (length terms) v fits);
    used = λ i lt. any_push (λ (w : RowValue). nat_eq i w.number) values v (sound.used i lt);
    terms_are = sound.terms_are;
    marks = marks_push kind signed unsigned values v sound.marks;
    declared_is = declared_push kind declared signed unsigned v sound.declared_is accepts;
  }

-- ---- a value by its term

no_marks : (kind : ValueKind) (term : List ℕ) (signed unsigned : Bool) (values : List RowValue) → IsTermOf kind term
    → MarksTell kind signed unsigned values
no_marks Number term signed unsigned values is = absurd is
no_marks Bytes term signed unsigned values is = tt
no_marks Str term signed unsigned values is = tt
no_marks Boolean term signed unsigned values is = tt
no_marks IpAddr term signed unsigned values is = tt
no_marks DateTime term signed unsigned values is = tt

number_fits : (kind : ValueKind) (term : List ℕ) (count : ℕ) (v : RowValue) → IsTermOf kind term → v.number < count
    → Fits kind count v
number_fits Number term count v is lt = tt
number_fits Bytes term count v is lt = lt
number_fits Str term count v is lt = lt
number_fits Boolean term count v is lt = absurd is
number_fits IpAddr term count v is lt = lt
number_fits DateTime term count v is lt = tt

fits_more : (kind : ValueKind) (count more : ℕ) (v : RowValue) → count ≤ more → Fits kind count v → Fits kind more v
fits_more Number count more v le fits = tt
fits_more Bytes count more v le fits = omega (arith, le, fits)
fits_more Str count more v le fits = omega (arith, le, fits)
fits_more Boolean count more v le fits = fits
fits_more IpAddr count more v le fits = omega (arith, le, fits)
fits_more DateTime count more v le fits = tt

all_more : (kind : ValueKind) (count more : ℕ) (values : List RowValue) → count ≤ more
    → AllByRecursion (Fits kind count) values → AllByRecursion (Fits kind more) values
all_more kind count more [] le all = tt
all_more kind count more (v ∷ values) le all =
    (fits_more kind count more v le all.0, all_more kind count more values le all.1)

value_is : (kind : ValueKind) (terms : List (List ℕ)) (term : List ℕ) (v : RowValue) → IsTermOf kind term
    → get_or terms v.number [] ≡ term → value_of kind terms v ≡ term_value kind term
value_is Number terms term v is at = absurd is
value_is Bytes terms term v is at = ap Rattle.seg_model.specs.Columns.bytes_value at
value_is Str terms term v is at = ap Rattle.seg_model.specs.Columns.text_value at
value_is Boolean terms term v is at = absurd is
value_is IpAddr terms term v is at = ap Rattle.seg_model.specs.Columns.ip_value at
value_is DateTime terms term v is at = absurd is

value_still : (kind : ValueKind) (terms : List (List ℕ)) (term : List ℕ) (v : RowValue) → Fits kind (length terms) v
    → value_of kind (terms ++ term ∷ []) v ≡ value_of kind terms v
value_still Number terms term v fits = refl
value_still Bytes terms term v fits =
    ap Rattle.seg_model.specs.Columns.bytes_value (get_or_append_left terms (term ∷ []) [] v.number fits)
value_still Str terms term v fits =
    ap Rattle.seg_model.specs.Columns.text_value (get_or_append_left terms (term ∷ []) [] v.number fits)
value_still Boolean terms term v fits = refl
value_still IpAddr terms term v fits =
    ap Rattle.seg_model.specs.Columns.ip_value (get_or_append_left terms (term ∷ []) [] v.number fits)
value_still DateTime terms term v fits = refl

seen_still : (kind : ValueKind) (terms : List (List ℕ)) (term : List ℕ) (values : List RowValue)
    → AllByRecursion (Fits kind (length terms)) values
    → map (rowed kind (terms ++ term ∷ [])) values ≡ map (rowed kind terms) values
seen_still kind terms term [] all = refl
seen_still kind terms term (v ∷ values) all = λ j.
    record { row = v.row; value = value_still kind terms term v all.0 j } ∷ seen_still kind terms term values all.1 j

-- what a column is after one more value, which has a term
pub record TermPushed (kind : ValueKind) (declared : Option ColumnType) (signed unsigned : Bool)
    (values : List RowValue) (terms : List (List ℕ)) (row : ℕ) (term : List ℕ) (more : List (List ℕ))
    (number : ℕ) : Type 0 where
  pub sound : AreSound kind declared signed unsigned
      (values ++ record { row = row; negative = false; number = number } ∷ []) more
  pub seen : map (rowed kind more) (values ++ record { row = row; negative = false; number = number } ∷ [])
      ≡ map (rowed kind terms) values ++ record { row = row; value = term_value kind term } ∷ []

module _ (kind : ValueKind) (declared : Option ColumnType) (signed unsigned : Bool) (values : List RowValue)
    (terms : List (List ℕ)) (sound : AreSound kind declared signed unsigned values terms) (row : ℕ) (term : List ℕ)
    (all : AllByRecursion (λ (w : RowValue). w.row ≤ row) values) (is : IsTermOf kind term) where
  abbrev valued : ℕ → RowValue
  valued n = record { row = row; negative = false; number = n }

  there : (n : ℕ) → n < length terms → get_or terms n [] ≡ term
      → TermPushed kind declared signed unsigned values terms row term terms n
  there n lt at = record {
    sound = record {
      rise = rise_push 0 values (valued n) sound.rise all (omega arith);
      fit = all_push (Fits kind (length terms)) values (valued n) sound.fit
          (number_fits kind term (length terms) (valued n) is lt);
      used = λ i below. any_push (λ (w : RowValue). nat_eq i w.number) values (valued n) (sound.used i below);
      terms_are = sound.terms_are;
      marks = no_marks kind term signed unsigned (values ++ valued n ∷ []) is;
      declared_is = sound.declared_is;
    };
    seen =
        map-append (rowed kind terms) values (valued n ∷ [])
        ∙ ap (λ (x : ColumnValue). map (rowed kind terms) values ++ record { row = row; value = x } ∷ [])
        (value_is kind terms term (valued n) is at);
  }

  first : TermPushed kind declared signed unsigned values terms row term (terms ++ term ∷ []) (length terms)
  first =
      let n : ℕ = length terms in
      let more : List (List ℕ) = terms ++ term ∷ [] in
      let many : length more ≡ n + 1 = length_push terms term in
      record {
        sound = record {
          rise = rise_push 0 values (valued n) sound.rise all (omega arith);
          fit = all_push (Fits kind (length more)) values (valued n)
              (all_more kind n (length more) values (omega (arith, many)) sound.fit)
              (number_fits kind term (length more) (valued n) is (omega (arith, many)));
          used = λ i below. elim (cases_lt i n) [
            | inl before ↦ any_push (λ (w : RowValue). nat_eq i w.number) values (valued n) (sound.used i before)
            | inr le ↦
                let same : i ≡ n = omega (arith, le, below, many) in
                any_last (λ (w : RowValue). nat_eq i w.number) values (valued n) ((Decides-eqb i n).1 same)
          ];
          terms_are = all_push (IsTermOf kind) terms term sound.terms_are is;
          marks = no_marks kind term signed unsigned (values ++ valued n ∷ []) is;
          declared_is = sound.declared_is;
        };
        seen =
            map-append (rowed kind more) values (valued n ∷ [])
            ∙ (λ j. seen_still kind terms term values sound.fit j
            ++ record {
              row = row;
              value = value_is kind more term (valued n) is (get_or_push terms term [] n refl) j;
            } ∷ []);
      }

  pub term_pushed : TermPushed kind declared signed unsigned values terms row term (with_term terms term)
      (term_number terms term)
  term_pushed = by (list_any (bytes_eq term) terms) refl
    where
      by : (b : Bool) → list_any (bytes_eq term) terms ≡ b
          → TermPushed kind declared signed unsigned values terms row term (with_term terms term) (term_number terms term)
      by true e =
          let lt = term_within terms term e in
          subst (λ (more : List (List ℕ)). TermPushed kind declared signed unsigned values terms row term more
          (term_number terms term)) (sym (ap (λ (b : Bool). cond b terms (terms ++ term ∷ [])) e))
          (there (term_number terms term) lt (term_at terms term e))
      by false e =
          subst (λ (X : Type 0). X) (sym (λ j. TermPushed kind declared signed unsigned values terms row term
          (with_term-new terms term e j) (term_number-new terms term e j))) first

-- ---- a declared column

all_signed : (terms : List (List ℕ)) (values : List RowValue)
    → All (λ (v : RowedValue). fits_i64 v.value ≡ true) (map (rowed Number terms) values) → list_all fits_signed values ≡ true
all_signed terms [] all = refl
all_signed terms (v ∷ values) all =
    and_from (fits_signed v) (list_all fits_signed values)
    (sym (signed_test v.negative v.number) ∙ all zero (rowed Number terms v) (omega arith))
    (all_signed terms values (λ i d lt. all (suc i) d (omega (arith, lt))))

all_unsigned : (terms : List (List ℕ)) (values : List RowValue)
    → All (λ (v : RowedValue). is_not_negative v.value ≡ true) (map (rowed Number terms) values)
    → list_all fits_unsigned values ≡ true
all_unsigned terms [] all = refl
all_unsigned terms (v ∷ values) all =
    and_from (fits_unsigned v) (list_all fits_unsigned values)
    (sym (unsigned_test v.negative v.number) ∙ all zero (rowed Number terms v) (omega arith))
    (all_unsigned terms values (λ i d lt. all (suc i) d (omega (arith, lt))))

is_declared : (type : ColumnType) (kind : ValueKind) (signed unsigned : Bool) (values : List RowValue)
    (terms : List (List ℕ)) → MarksTell kind signed unsigned values → kind ≡ kind_of type
    → All (λ (v : RowedValue). Accepts (Some type) v.value) (map (rowed kind terms) values)
    → IsDeclared kind (Some type) signed unsigned
is_declared types.I64 kind signed unsigned values terms marks is all = (
  is,
  (subst (λ (k : ValueKind). MarksTell k signed unsigned values) is marks).0
      ∙ all_signed terms values
      (subst (λ (k : ValueKind). All (λ (v : RowedValue). fits_i64 v.value ≡ true) (map (rowed k terms) values)) is all),
)
is_declared types.U64 kind signed unsigned values terms marks is all = (
  is,
  (subst (λ (k : ValueKind). MarksTell k signed unsigned values) is marks).1
      ∙ all_unsigned terms values
      (subst (λ (k : ValueKind). All (λ (v : RowedValue). is_not_negative v.value ≡ true) (map (rowed k terms) values)) is all),
)
is_declared types.Bytes kind signed unsigned values terms marks is all = is
is_declared types.Str kind signed unsigned values terms marks is all = is
is_declared types.Bool kind signed unsigned values terms marks is all = is
is_declared types.IpAddr kind signed unsigned values terms marks is all = is
is_declared types.DateTime kind signed unsigned values terms marks is all = is

pub declared_sound : (type : ColumnType) (kind : ValueKind) (declared : Option ColumnType) (signed unsigned : Bool)
    (values : List RowValue) (terms : List (List ℕ)) → AreSound kind declared signed unsigned values terms
    → kind ≡ kind_of type → All (λ (v : RowedValue). Accepts (Some type) v.value) (map (rowed kind terms) values)
    → AreSound kind (Some type) signed unsigned values terms
declared_sound type kind declared signed unsigned values terms sound is all = record {
  rise = sound.rise;
  fit = sound.fit;
  used = sound.used;
  terms_are = sound.terms_are;
  marks = sound.marks;
  declared_is = is_declared type kind signed unsigned values terms sound.marks is all;
}

-- ---- what is known of a column

tests_are : (test : ColumnValue → Bool) (own : RowValue → Bool) (terms : List (List ℕ))
    → ((v : RowValue) → test (value_of Number terms v) ≡ own v) → (values : List RowValue)
    → list_all test (map (λ v. v.value) (map (rowed Number terms) values)) ≡ list_all own values
tests_are test own terms same [] = refl
tests_are test own terms same (v ∷ values) = λ j. same v j && tests_are test own terms same values j

-- the type by the marks is that of the numbers
free_is : (kind : ValueKind) (signed unsigned : Bool) (values : List RowValue) (terms : List (List ℕ)) → kind ≡ Number
    → MarksTell kind signed unsigned values
    → cond signed (Some types.I64) (cond unsigned (Some types.U64) None)
    ≡ type_of_values kind (map (λ v. v.value) (map (rowed kind terms) values))
free_is kind signed unsigned values terms is marks =
    let told = subst (λ (k : ValueKind). MarksTell k signed unsigned values) is marks in
    (λ j. cond ((told.0 ∙ sym (tests_are fits_i64 fits_signed terms
    (λ v. signed_test v.negative v.number) values)
    ∙ sym (and-true (list_all fits_i64 (map (λ v. v.value) (map (rowed Number terms) values))))) j) (Some types.I64)
    (cond ((told.1 ∙ sym (tests_are is_not_negative fits_unsigned terms
    (λ v. unsigned_test v.negative v.number) values)
    ∙ sym (and-true (list_all is_not_negative (map (λ v. v.value) (map (rowed Number terms) values))))) j)
    (Some types.U64) None))
    ∙ ap (λ (k : ValueKind). type_of_values k (map (λ v. v.value) (map (rowed k terms) values))) (sym is)

pub free_seen : (kind : ValueKind) (declared : Option ColumnType) (sorts signed unsigned : Bool) (values : List RowValue)
    (terms : List (List ℕ)) (now : Recording) (type : Option ColumnType)
    → AreSound kind declared signed unsigned values terms → kind ≡ Number
    → ◌≡◌ {A = Recording} (record {
      kind = kind;
      declared = declared;
      sorts = sorts;
      values = map (rowed kind terms) values;
    }) now
    → type ≡ cond signed (Some types.I64) (cond unsigned (Some types.U64) None)
    → type ≡ type_of_values now.kind (map (λ v. v.value) now.values)
free_seen kind declared sorts signed unsigned values terms now type sound is view result =
    result ∙ free_is kind signed unsigned values terms is sound.marks
    ∙ ap (λ (r : Recording). type_of_values r.kind (map (λ v. v.value) r.values)) view

of_kind : (kind : ValueKind) (declared : Option ColumnType) (signed unsigned : Bool)
    → IsDeclared kind declared signed unsigned → IsOfKind kind declared
of_kind kind None signed unsigned is = tt
of_kind kind (Some types.I64) signed unsigned is = sym is.0
of_kind kind (Some types.U64) signed unsigned is = sym is.0
of_kind kind (Some types.Bytes) signed unsigned is = sym is
of_kind kind (Some types.Str) signed unsigned is = sym is
of_kind kind (Some types.Bool) signed unsigned is = sym is
of_kind kind (Some types.IpAddr) signed unsigned is = sym is
of_kind kind (Some types.DateTime) signed unsigned is = sym is

rise_seen : (kind : ValueKind) (terms : List (List ℕ)) (low : ℕ) (values : List RowValue) → Rise row_of low values
    → Rise (λ (v : RowedValue). v.row) low (map (rowed kind terms) values)
rise_seen kind terms low [] rise = tt
rise_seen kind terms low (v ∷ values) rise = (rise.0, rise_seen kind terms v.row values rise.1)

pub is_recorded : (kind : ValueKind) (declared : Option ColumnType) (sorts signed unsigned : Bool) (values : List RowValue)
    (terms : List (List ℕ)) (now : Recording) → AreSound kind declared signed unsigned values terms
    → ◌≡◌ {A = Recording} (record {
      kind = kind;
      declared = declared;
      sorts = sorts;
      values = map (rowed kind terms) values;
    }) now
    → IsRecorded now
is_recorded kind declared sorts signed unsigned values terms now sound view =
    subst IsRecorded view (record {
      kind = of_kind kind declared signed unsigned sound.declared_is;
      rise = rise_seen kind terms 0 values sound.rise;
    })

-- ---- after a call that adds a value by its term

module _ (kind : ValueKind) (declared : Option ColumnType) (sorts signed unsigned : Bool) (old new : KnownValues)
    (sound : AreSound kind declared signed unsigned old.values.items old.terms) (row : ℕ) (term : List ℕ)
    (all : AllByRecursion (λ (w : RowValue). w.row ≤ row) old.values.items) (is : IsTermOf kind term) where
  abbrev after : TermPushed kind declared signed unsigned old.values.items old.terms row term (with_term old.terms term)
      (term_number old.terms term)
  after = term_pushed kind declared signed unsigned old.values.items old.terms sound row term all is

  pub still_sound : {X E : Type 0} (r : Result X E) → OnOk r (IsAdded row term old new) → OnErr r (IsKept old new)
      → AreSound kind declared signed unsigned new.values.items new.terms
  still_sound (Ok x) added kept =
      subst (λ (X : Type 0). X)
      (sym (λ j. AreSound kind declared signed unsigned (added.values j) (added.terms j))) after.sound
  still_sound (Err e) added kept =
      subst (λ (X : Type 0). X)
      (sym (λ j. AreSound kind declared signed unsigned (kept.values j) (kept.terms j))) sound

  pub seen_added : {X E : Type 0} (r : Result X E) (now : Recording)
      → ◌≡◌ {A = Recording} (record {
        kind = kind;
        declared = declared;
        sorts = sorts;
        values = map (rowed kind old.terms) old.values.items;
      }) now
      → OnOk r (IsAdded row term old new)
      → OnOk r (◌≡◌ {A = Recording} (record {
        kind = kind;
        declared = declared;
        sorts = sorts;
        values = map (rowed kind new.terms) new.values.items;
      }) (with_value row (term_value now.kind term) now))
  seen_added (Ok x) now view added =
      (λ j. record {
        kind = kind;
        declared = declared;
        sorts = sorts;
        values = map (rowed kind (added.terms j)) (added.values j);
      })
      ∙ ap (λ (vs : List RowedValue). record { kind = kind; declared = declared; sorts = sorts; values = vs }) after.seen
      ∙ ap (λ (r : Recording). with_value row (term_value r.kind term) r) view
  seen_added (Err e) now view added = tt
