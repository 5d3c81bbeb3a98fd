-- Paths below fast JSON fields, by what they begin with.
use Rattle.std.proofs.Common.{◌≡◌, ℕ, ◌+◌, ◌≤◌, Bool, true, false, cond, ◌||◌, List, [], ◌∷◌, ◌++◌, length, take, drop, get_or, Some, refl, sym, ap, ◌∙◌, arith}
use Rattle.std.specs.Prelude.{◌&&◌, ◌==◌, nat_eq, nat_lt}
use Rattle.std.specs.List.{list_any, slice_get}
use Rattle.std.specs.Str.{bytes_eq}
use Rattle.std.proofs.lemmas.Bool.Decides.{nat_tests}
use Rattle.std.proofs.lemmas.List.Folds.{list_any-append}
use Rattle.std.proofs.lemmas.List.{append-nil, append_assoc, drop_all}
use Rattle.seg_common.proofs.Lists.{drop-slice_get}
use Rattle.seg_column_file.specs.ColumnFiles.{is_below}
use Rattle.seg_values.specs.declared.schema.FieldEntry.{FieldEntry}
use Rattle.seg_model.specs.Fields.{Schema}
use Rattle.seg_column_format.specs.PathStarts.{TellBelow, begins, is_below_json, start_of}
use Rattle.seg_column_format.specs.SchemaColumns.{is_fast_json, is_json_path}

-- ---- one name

start_below : (name path : List ℕ) → begins path (name ++ 1 ∷ []) ≡ is_below name path
start_below [] [] = refl
start_below [] (z ∷ p) = (λ j. one j && true) ∙ (λ j. sym some j && ((z == 1) && true))
  where
    one : nat_eq 1 z ≡ (z == 1)
    one = grind (arith, nat_tests)

    some : nat_lt 0 (length (z ∷ p)) ≡ true
    some = grind (arith, nat_tests)
start_below (n ∷ ns) [] =
    sym (ap (λ b. b && ((get_or {A = ℕ} [] (length (n ∷ ns)) 0 == 1) && bytes_eq (take (length (n ∷ ns)) []) (n ∷ ns))) none)
  where
    none : nat_lt (length (n ∷ ns)) 0 ≡ false
    none = grind (arith, nat_tests)
start_below (n ∷ ns) (z ∷ p) =
    (λ j. same j && start_below ns p j)
    ∙ (moved (nat_eq z n) (nat_lt (length ns) (length p)) (get_or p (length ns) 0 == 1) (bytes_eq (take (length ns) p) ns)
    ∙ (λ j. sym shorter j
    && ((get_or p (length ns) 0 == 1) && (nat_eq z n && bytes_eq (take (length ns) p) ns))))
  where
    same : nat_eq n z ≡ nat_eq z n
    same = grind (arith, nat_tests)

    shorter : nat_lt (length (n ∷ ns)) (length (z ∷ p)) ≡ nat_lt (length ns) (length p)
    shorter = grind (arith, nat_tests)

    moved : (e l o r : Bool) → (e && (l && (o && r))) ≡ (l && (o && (e && r)))
    moved true l o r = refl
    moved false false o r = refl
    moved false true false r = refl
    moved false true true r = refl

-- ---- all

abbrev pub starts_of : Schema → List (List ℕ)
starts_of [] = []
starts_of (e ∷ es) = cond (is_fast_json e) (start_of e ∷ []) [] ++ starts_of es

pub tell_below : (schema : Schema) → TellBelow schema (starts_of schema)
tell_below [] path = refl
tell_below (e ∷ es) path =
    list_any-append (begins path) (cond (is_fast_json e) (start_of e ∷ []) []) (starts_of es)
    ∙ (λ j. one (is_fast_json e) j || tell_below es path j)
  where
    or_false : (b : Bool) → (b || false) ≡ b
    or_false true = refl
    or_false false = refl

    one : (fast : Bool) → list_any (begins path) (cond fast (start_of e ∷ []) []) ≡ (fast && is_below e.name path)
    one true = or_false (begins path (start_of e)) ∙ start_below e.name path
    one false = refl

-- ---- the field itself, or what is below it

either_way : (f a b c d : Bool) → (((a && f) || c) || ((f && b) || d)) ≡ ((f && (a || b)) || (c || d))
either_way true true b c d = refl
either_way true false true true d = refl
either_way true false true false d = refl
either_way true false false true d = refl
either_way true false false false d = refl
either_way false true b true d = refl
either_way false true b false d = refl
either_way false false b true d = refl
either_way false false b false d = refl

named_or_below : (schema : Schema) (path : List ℕ)
    → (list_any (λ e. bytes_eq e.name path && is_fast_json e) schema || list_any (is_below_json path) schema)
    ≡ is_json_path schema path
named_or_below [] path = refl
named_or_below (e ∷ es) path =
    either_way (is_fast_json e) (bytes_eq e.name path) (is_below e.name path) _ _
    ∙ ap (λ b. (is_fast_json e && (bytes_eq e.name path || is_below e.name path)) || b) (named_or_below es path)

pub named_path : (schema : Schema) (path : List ℕ)
    → list_any (λ e. bytes_eq e.name path && is_fast_json e) schema ≡ true → is_json_path schema path ≡ true
named_path schema path h =
    sym (named_or_below schema path) ∙ ap (λ b. b || list_any (is_below_json path) schema) h

pub unnamed_path : (schema : Schema) (path : List ℕ)
    → list_any (λ e. bytes_eq e.name path && is_fast_json e) schema ≡ false
    → list_any (is_below_json path) schema ≡ is_json_path schema path
unnamed_path schema path h =
    sym (ap (λ b. b || list_any (is_below_json path) schema) h) ∙ named_or_below schema path

-- ---- field after field

pub one_more : (made : List (List ℕ)) (schema : Schema) (i : ℕ) (e : FieldEntry) → slice_get schema i ≡ Some e
    → made ++ cond (is_fast_json e) (start_of e ∷ []) [] ++ starts_of (drop (i + 1) schema)
    ≡ made ++ starts_of (drop i schema)
one_more made schema i e at =
    append_assoc made (cond (is_fast_json e) (start_of e ∷ []) []) (starts_of (drop (i + 1) schema))
    ∙ ap (λ (l : Schema). made ++ starts_of l) (sym (drop-slice_get schema i e at))

pub all_told : (schema : Schema) (made : List (List ℕ)) (i : ℕ) → length schema ≤ i
    → made ++ starts_of (drop i schema) ≡ starts_of schema → TellBelow schema made
all_told schema made i past are = λ path.
    ap (list_any (begins path)) (sym (append-nil made)
    ∙ (ap (λ (l : Schema). made ++ starts_of l) (sym (drop_all i schema past)) ∙ are))
    ∙ tell_below schema path
