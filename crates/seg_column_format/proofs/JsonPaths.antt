-- Paths of JSON fields.
use Rattle.std.proofs.Common.{◌≡◌, ℕ, suc, ◌+◌, ◌<◌, Bool, true, false, ◌||◌, List, [], ◌∷◌, ◌++◌, length, get_or, take, drop, Some, refl, sym, ap, inl, inr, ◌∙◌, arith}
use Rattle.std.specs.Prelude.{◌&&◌, ◌==◌, nat_lt, IsUtf8}
use Rattle.std.specs.List.{list_any, slice_get}
use Rattle.std.specs.Str.{bytes_eq}
use Rattle.std.proofs.Math.Seq.{get_or-append_seam, take-append_seam}
use Rattle.std.proofs.lemmas.Bool.{false≢true, and_parts}
use Rattle.std.proofs.lemmas.List.{length-append}
use Rattle.std.proofs.lemmas.Bool.Decides.{nat_tests}
use Rattle.std.proofs.lemmas.Map.Keys.{any_passes_from_place}
use Rattle.std.proofs.lemmas.Str.{IsCharBoundary-after_ascii, IsUtf8-drop}
use Rattle.seg_common.proofs.Bytes.{same_bytes, bytes_are}
use Rattle.seg_column_file.specs.ColumnFiles.{is_below}
use Rattle.seg_column_format.proofs.PartEnds.{split}
use Rattle.seg_values.specs.declared.schema.FieldEntry.{FieldEntry}
use Rattle.seg_model.specs.Fields.{Schema, is_json}
use Rattle.seg_model.specs.Shape.{IsJsonPath, IsPathOf}
use Rattle.seg_column_format.specs.SchemaColumns.{is_fast_json, is_json_path, is_path_of}

-- ---- bytes that are the same

-- ---- one field

pub below_is : (name rest : List ℕ) → is_below name (name ++ 1 ∷ rest) ≡ true
below_is name rest =
    (λ j. shorter j && (ap (λ (n : ℕ). n == 1) (get_or-append_seam name 1 rest 0) j
    && bytes_are (take (length name) (name ++ 1 ∷ rest)) name (take-append_seam name (1 ∷ rest)) j))
  where
    shorter : nat_lt (length name) (length (name ++ 1 ∷ rest)) ≡ true
    shorter = grind (arith, nat_tests, length-append)

pub is_path : (path : List ℕ) (e : FieldEntry) → IsPathOf e path → is_path_of path e ≡ true
is_path path e (inl is) = ap (λ b. b || is_below e.name path) (bytes_are e.name path (sym is))
is_path path e (inr (rest, utf8, is)) =
    or_second (bytes_eq e.name path) _ (ap (is_below e.name) is ∙ below_is e.name rest)
  where
    or_second : (a b : Bool) → b ≡ true → (a || b) ≡ true
    or_second true b h = refl
    or_second false b h = h

pub path_is : (path : List ℕ) → IsUtf8 path → (e : FieldEntry) → is_path_of path e ≡ true → IsPathOf e path
path_is path utf8 e h = by (bytes_eq e.name path) refl h
  where
    by : (b : Bool) → bytes_eq e.name path ≡ b → (b || is_below e.name path) ≡ true → IsPathOf e path
    by true same h = inl (sym (same_bytes e.name path same))
    by false _ h =
        let outer = and_parts (nat_lt (length e.name) (length path)) _ h in
        let inner = and_parts (get_or path (length e.name) 0 == 1) _ outer.1 in
        let shorter : length e.name < length path = grind (arith, nat_tests, outer.0) in
        let one : get_or path (length e.name) 0 ≡ 1 = grind (arith, nat_tests, inner.0) in
        let front : take (length e.name) path ≡ e.name = same_bytes _ _ inner.1 in
        inr (
          drop (length e.name + 1) path,
          IsUtf8-drop path (length e.name + 1) utf8
              (IsCharBoundary-after_ascii path (length e.name) utf8 shorter (omega (arith, one))),
          split path (length e.name) 0 shorter
              ∙ (λ j. front j ++ (one j ∷ drop (length e.name + 1) path)),
        )

-- ---- some field

pub record Passing {X : Type 0} (test : X → Bool) (xs : List X) : Type 0 where
  pub place : ℕ
  pub item : X
  pub at : slice_get xs place ≡ Some item
  pub passes : test item ≡ true

pub passing : {X : Type 0} (test : X → Bool) (xs : List X) → list_any test xs ≡ true → Passing test xs
passing test [] h = absurd (false≢true h)
passing test (x ∷ xs) h = by (test x) refl (passing test xs) h
  where
    by : (b : Bool) → test x ≡ b → (list_any test xs ≡ true → Passing test xs) → (b || list_any test xs) ≡ true
        → Passing test (x ∷ xs)
    by true e more h = record { place = 0; item = x; at = refl; passes = e }
    by false e more h = let rest = more h in
        record { place = suc rest.place; item = rest.item; at = rest.at; passes = rest.passes }

pub json_path_is : (schema : Schema) (path : List ℕ) → IsUtf8 path → is_json_path schema path ≡ true → IsJsonPath schema path
json_path_is schema path utf8 h =
    let some = passing (λ e. is_fast_json e && is_path_of path e) schema h in
    let two = and_parts (is_fast_json some.item) (is_path_of path some.item) some.passes in
    let kind = and_parts some.item.fast (is_json some.item.kind) two.0 in
    record {
      field = some.place;
      entry = some.item;
      in_schema = some.at;
      json = kind.1;
      fast = kind.0;
      named = path_is path utf8 some.item two.1;
    }

pub is_json_path-from : (schema : Schema) (path : List ℕ) → IsJsonPath schema path → is_json_path schema path ≡ true
is_json_path-from schema path p =
    any_passes_from_place (λ e. is_fast_json e && is_path_of path e) schema p.field p.entry p.in_schema
    (λ j. (p.fast j && p.json j) && is_path path p.entry p.named j)
