-- Escaped names in a map: one more of them, and the name of a column by them.
use Rattle.std.proofs.Common.{◌≡◌, ℕ, Bool, true, false, cond, List, [], ◌∷◌, ◌++◌, Option, Some, None, refl, sym, ap, ◌∙◌}
use Rattle.std.specs.Prelude.{String, string_bytes, if◌then◌else◌}
use Rattle.std.specs.HashMap.{HashMap, UpdatesBy, get_by_text}
use Rattle.std.specs.Option.{option_map, unwrap_or}
use Rattle.std.specs.Str.{bytes_eq}
use Rattle.std.specs.String.{string_eq}
use Rattle.std.specs.declared.alloc.Global.{Global}
use Rattle.std.proofs.lemmas.Map.Text.{hash_map_updates_text}
use Rattle.seg_values.specs.declared.schema.FieldEntry.{FieldEntry}
use Rattle.seg_field_metadata.specs.ListedNames.{EscapedName, HasNames, column_name, dotted_name, dotted_path, is_escaped, last_escaped, listed_name, or_else}
use Rattle.seg_field_metadata.specs.ListedNames as listed

or_none : (o : Option (List ℕ)) → o ≡ or_else o None
or_none None = refl
or_none (Some name) = refl

or_else_assoc : (a b c : Option (List ℕ)) → or_else (or_else a b) c ≡ or_else a (or_else b c)
or_else_assoc None b c = refl
or_else_assoc (Some name) b c = refl

abbrev escaped_of : EscapedName → List ℕ → Option (List ℕ)
escaped_of n dotted = if bytes_eq n.dotted dotted then Some n.escaped else None

last_escaped-push : (ns : List EscapedName) (n : EscapedName) (dotted : List ℕ)
    → last_escaped (ns ++ n ∷ []) dotted ≡ or_else (escaped_of n dotted) (last_escaped ns dotted)
last_escaped-push [] n dotted = or_none (escaped_of n dotted)
last_escaped-push (m ∷ ns) n dotted =
    ap (λ (o : Option (List ℕ)). or_else o (escaped_of m dotted)) (last_escaped-push ns n dotted)
    ∙ or_else_assoc (escaped_of n dotted) (last_escaped ns dotted) (escaped_of m dotted)

found_or : (b : Bool) (o : Option (String Global)) (v : String Global) (text : List ℕ) (last : Option (List ℕ))
    → option_map string_bytes o ≡ last → string_bytes v ≡ text
    → option_map string_bytes (cond b (Some v) o) ≡ or_else (cond b (Some text) None) last
found_or true o v text last had is = ap (λ (t : List ℕ). Some t) is
found_or false o v text last had is = had

names-push : {S : Type 0} (m n : HashMap (String Global) (String Global) S) (k v : String Global) (names : List EscapedName) (e : EscapedName)
    → HasNames m names → string_bytes k ≡ e.dotted → string_bytes v ≡ e.escaped
    → UpdatesBy string_eq (λ s. bytes_eq (string_bytes k) (string_bytes s)) m n (Some v) → HasNames n (names ++ e ∷ [])
names-push m n k v names e had dotted_is escaped_is updates dotted =
    ap (λ (o : Option (String Global)). option_map string_bytes o) (hash_map_updates_text (string_bytes k) m n (Some v) updates dotted)
    ∙ ap (λ (bs : List ℕ). option_map string_bytes (cond (bytes_eq bs dotted) (Some v) (get_by_text m dotted))) dotted_is
    ∙ found_or (bytes_eq e.dotted dotted) (get_by_text m dotted) v e.escaped (last_escaped names dotted) (had dotted) escaped_is
    ∙ sym (last_escaped-push names e dotted)

abbrev escaped_name : FieldEntry → List ℕ → EscapedName
escaped_name entry path = record { dotted = dotted_name entry path; escaped = listed_name entry path }

-- a path whose name is escaped
pub escaped_added : {S : Type 0} (m n : HashMap (String Global) (String Global) S) (k v : String Global) (entry : FieldEntry) (path : List ℕ)
    → is_escaped entry path ≡ true → string_bytes k ≡ dotted_name entry path → string_bytes v ≡ listed_name entry path
    → UpdatesBy string_eq (λ s. bytes_eq (string_bytes k) (string_bytes s)) m n (Some v)
    → (names : List EscapedName) → HasNames m names → HasNames n (names ++ listed.escaped_names entry path)
escaped_added m n k v entry path escaped dotted_is escaped_is updates names had dotted =
    names-push m n k v names (escaped_name entry path) had dotted_is escaped_is updates dotted
    ∙ ap (λ (b : Bool). last_escaped (names ++ cond b (escaped_name entry path ∷ []) []) dotted) (sym escaped)

module _ {S : Type 0} (m : HashMap (String Global) (String Global) S) (names : List EscapedName) (path dotted : List ℕ)
    (had : HasNames m names) (is : dotted ≡ dotted_path path) where
  last_is : option_map string_bytes (get_by_text m dotted) ≡ last_escaped names (dotted_path path)
  last_is = had dotted ∙ ap (last_escaped names) is

  pub name_there : (escaped : String Global) → Some escaped ≡ get_by_text m dotted → string_bytes escaped ≡ column_name names path
  name_there escaped found =
      ap (λ (o : Option (List ℕ)). unwrap_or o (dotted_path path))
      (ap (λ (o : Option (String Global)). option_map string_bytes o) found ∙ last_is)

  pub name_absent : None ≡ get_by_text m dotted → dotted ≡ column_name names path
  name_absent none =
      is
      ∙ ap (λ (o : Option (List ℕ)). unwrap_or o (dotted_path path))
      (ap (λ (o : Option (String Global)). option_map string_bytes o) none ∙ last_is)
