-- A path belongs to one field at most.
use Rattle.std.proofs.Common.{◌≡◌, ℕ, zero, suc, Bool, true, false, List, [], ◌∷◌, ◌++◌, Some, refl, sym, ap, ◌∙◌, arith}
use Rattle.std.specs.Prelude.{◌&&◌, nat_eq, nat_lt, not}
use Rattle.std.specs.List.{list_all, list_any, slice_get}
use Rattle.std.specs.Cmp.Lexicographic.{bytes_decides}
use Rattle.std.proofs.lemmas.Bool.{and_parts, false≢true, or_parts, not-true}
use Rattle.std.proofs.lemmas.Bool.Decides.{Decides-eqb, nat_tests}
use Rattle.std.proofs.lemmas.Option.{same_Some}
use Rattle.seg_values.specs.declared.schema.FieldEntry.{FieldEntry}
use Rattle.seg_values.specs.DistinctLists.{all_distinct}
use Rattle.seg_values.specs.SchemaRules.{same_name}
use Rattle.seg_model.specs.Columns.{json_column_path}
use Rattle.seg_model.specs.Fields.{Schema, is_json}
use Rattle.seg_model.specs.Leaves.{joined_path}
use Rattle.seg_model.specs.ValidInputs.{names_fit}

-- a path is a name, or in a JSON field one that begins with it and a byte 1
abbrev pub owns : List ℕ → Bool → List ℕ → Bool
owns [] json [] = true
owns [] json (b ∷ bs) = json && nat_eq b 1
owns (n ∷ ns) json [] = false
owns (n ∷ ns) json (b ∷ bs) = nat_eq n b && owns ns json bs

abbrev pub owns_path : FieldEntry → List ℕ → Bool
owns_path entry path = owns entry.name (is_json entry.kind) path

-- all bytes are above 1
abbrev pub fits : List ℕ → Bool
fits name = list_all (λ b. nat_lt 1 b) name

owns_name : (name : List ℕ) (json : Bool) → owns name json name ≡ true
owns_name [] json = refl
owns_name (n ∷ ns) json = λ j. (Decides-eqb n n).1 refl j && owns_name ns json j

owns_below : (name rest : List ℕ) → owns name true (name ++ 1 ∷ rest) ≡ true
owns_below [] rest = refl
owns_below (n ∷ ns) rest = λ j. (Decides-eqb n n).1 refl j && owns_below ns rest j

pub owns_itself : (entry : FieldEntry) → owns_path entry entry.name ≡ true
owns_itself entry = owns_name entry.name (is_json entry.kind)

pub owns_keys : (entry : FieldEntry) (keys : List (List ℕ)) → is_json entry.kind ≡ true
    → owns_path entry (json_column_path entry keys) ≡ true
owns_keys entry [] json = owns_itself entry
owns_keys entry (key ∷ keys) json =
    ap (λ (b : Bool). owns entry.name b (entry.name ++ 1 ∷ joined_path entry.expand_dots (key ∷ keys))) json
    ∙ owns_below entry.name (joined_path entry.expand_dots (key ∷ keys))

above : (n b : ℕ) → nat_lt 1 n ≡ true → nat_eq n b ≡ true → nat_eq b 1 ≡ false
above n b up e = let same : n ≡ b = (Decides-eqb n b).0 e in grind (arith, nat_tests, up, same)

pub one_owner : (x y : List ℕ) (i j : Bool) (path : List ℕ) → fits x ≡ true → fits y ≡ true
    → owns x i path ≡ true → owns y j path ≡ true → x ≡ y
one_owner [] [] i j path fx fy ox oy = refl
one_owner [] (m ∷ ms) i j [] fx fy ox oy = absurd (false≢true oy)
one_owner [] (m ∷ ms) i j (b ∷ bs) fx fy ox oy =
    absurd (false≢true (sym (above m b (and_parts (nat_lt 1 m) (fits ms) fy).0
    (and_parts (nat_eq m b) (owns ms j bs) oy).0) ∙ (and_parts i (nat_eq b 1) ox).1))
one_owner (n ∷ ns) [] i j [] fx fy ox oy = absurd (false≢true ox)
one_owner (n ∷ ns) [] i j (b ∷ bs) fx fy ox oy =
    absurd (false≢true (sym (above n b (and_parts (nat_lt 1 n) (fits ns) fx).0
    (and_parts (nat_eq n b) (owns ns i bs) ox).0) ∙ (and_parts j (nat_eq b 1) oy).1))
one_owner (n ∷ ns) (m ∷ ms) i j [] fx fy ox oy = absurd (false≢true ox)
one_owner (n ∷ ns) (m ∷ ms) i j (b ∷ bs) fx fy ox oy =
    let p = and_parts (nat_eq n b) (owns ns i bs) ox in
    let q = and_parts (nat_eq m b) (owns ms j bs) oy in
    let e : n ≡ m = (Decides-eqb n b).0 p.0 ∙ sym ((Decides-eqb m b).0 q.0) in
    λ k. e k ∷ one_owner ns ms i j bs (and_parts (nat_lt 1 n) (fits ns) fx).1 (and_parts (nat_lt 1 m) (fits ms) fy).1
    p.1 q.1 k

-- ---- the fields of a schema

-- names without a byte 0 or 1, none of which comes twice
pub record AreApart (schema : Schema) : Type 0 where
  pub fit : names_fit schema ≡ true
  pub distinct : all_distinct same_name schema ≡ true

abbrev pub unlike : FieldEntry → Schema → Bool
unlike x xs = list_any (λ y. same_name y x) xs

pub apart_rest : (x : FieldEntry) (xs : Schema) → AreApart (x ∷ xs) → AreApart xs
apart_rest x xs apart = record {
  fit = (and_parts (fits x.name) (names_fit xs) apart.fit).1;
  distinct = (and_parts (not (unlike x xs)) (all_distinct same_name xs) apart.distinct).1;
}

fits_at : (xs : Schema) → names_fit xs ≡ true → (j : ℕ) (e : FieldEntry) → slice_get xs j ≡ Some e → fits e.name ≡ true
fits_at [] fit j e is = absurd cc
fits_at (x ∷ xs) fit zero e is =
    sym (ap (λ (y : FieldEntry). fits y.name) (same_Some x e is)) ∙ (and_parts (fits x.name) (names_fit xs) fit).0
fits_at (x ∷ xs) fit (suc j) e is = fits_at xs (and_parts (fits x.name) (names_fit xs) fit).1 j e is

pub unlike_at : (x : FieldEntry) (xs : Schema) → unlike x xs ≡ false → (j : ℕ) (e : FieldEntry)
    → slice_get xs j ≡ Some e
    → same_name e x ≡ false
unlike_at x [] none j e is = absurd cc
unlike_at x (y ∷ ys) none zero e is =
    sym (ap (λ (z : FieldEntry). same_name z x) (same_Some y e is)) ∙ (or_parts (same_name y x) (unlike x ys) none).0
unlike_at x (y ∷ ys) none (suc j) e is = unlike_at x ys (or_parts (same_name y x) (unlike x ys) none).1 j e is

-- the first field and a later one own no path both
pub apart_owners : (x : FieldEntry) (xs : Schema) → AreApart (x ∷ xs) → (j : ℕ) (e : FieldEntry)
    → slice_get xs j ≡ Some e
    → (path : List ℕ) → owns_path x path ≡ true → owns_path e path ≡ true → ⊥
apart_owners x xs apart j e is path own_x own_e =
    let names : x.name ≡ e.name = one_owner x.name e.name (is_json x.kind) (is_json e.kind) path
    (and_parts (fits x.name) (names_fit xs) apart.fit).0
    (fits_at xs (and_parts (fits x.name) (names_fit xs) apart.fit).1 j e is) own_x own_e in
    let other = unlike_at x xs (not-true (unlike x xs)
    (and_parts (not (unlike x xs)) (all_distinct same_name xs) apart.distinct).0) j e is in
    false≢true (sym other ∙ (bytes_decides e.name x.name).1 (sym names))

-- the place of the one field that may own a path
pub record IsOwner (schema : Schema) (path : List ℕ) (place : ℕ) : Type 0 where
  pub others : (j : ℕ) (e : FieldEntry) → slice_get schema j ≡ Some e → (j ≡ place → ⊥) → owns_path e path ≡ false

pub record Owner (schema : Schema) (path : List ℕ) : Type 0 where
  pub place : ℕ
  pub is_owner : IsOwner schema path place

pub owner_of : (schema : Schema) (path : List ℕ) → AreApart schema → Owner schema path
owner_of [] path apart = record { place = 0; is_owner = record { others = λ j e is other. absurd (nothing j e is) } }
  where
    nothing : (j : ℕ) (e : FieldEntry) → slice_get {X = FieldEntry} [] j ≡ Some e → ⊥
    nothing j e is = absurd cc
owner_of (x ∷ xs) path apart = by (owns_path x path) refl (owner_of xs path (apart_rest x xs apart))
  where
    by : (b : Bool) → owns_path x path ≡ b → Owner xs path → Owner (x ∷ xs) path
    by true own rest = record { place = 0; is_owner = record { others = others } }
      where
        others : (j : ℕ) (e : FieldEntry) → slice_get (x ∷ xs) j ≡ Some e → (j ≡ 0 → ⊥) → owns_path e path ≡ false
        others zero e is other = absurd (other refl)
        others (suc j) e is other = decide (owns_path e path) refl
          where
            decide : (c : Bool) → owns_path e path ≡ c → c ≡ false
            decide false f = refl
            decide true f = absurd (apart_owners x xs apart j e is path own f)
    by false own rest = record { place = suc rest.place; is_owner = record { others = others } }
      where
        others : (j : ℕ) (e : FieldEntry) → slice_get (x ∷ xs) j ≡ Some e → (j ≡ suc rest.place → ⊥)
            → owns_path e path ≡ false
        others zero e is other = sym (ap (λ (y : FieldEntry). owns_path y path) (same_Some x e is)) ∙ own
        others (suc j) e is other = rest.is_owner.others j e is (λ same. other (ap suc same))
