-- The names under which the paths of JSON fields and of columns are listed.
use Rattle.std.specs.Prelude.{◌≡◌, ℕ, ◌==◌, ◌&&◌, ◌++◌, Bool, not, List, [], ◌∷◌, map, Option, Some, None, if◌then◌else◌, String, string_bytes}
use Rattle.std.specs.HashMap.{HashMap, get_by_text}
use Rattle.std.specs.declared.alloc.Global.{Global}
use Rattle.std.specs.List.{flat_map, list_any}
use Rattle.std.specs.Option.{option_map, unwrap_or}
use Rattle.std.specs.Str.{bytes_eq}
use Rattle.seg_common.specs.Replacements.{replacement}
use Rattle.seg_values.specs.declared.schema.FieldEntry.{FieldEntry}

-- a path with each byte 1 as a dot
abbrev pub dotted_path : List ℕ → List ℕ
dotted_path path = map (replacement 1 46) path

-- the same, with each dot of the path itself after a backslash
abbrev pub escaped_path : List ℕ → List ℕ
escaped_path path = flat_map (λ b. if b == 46 then 92 ∷ 46 ∷ [] else replacement 1 46 b ∷ []) path

-- the listed name of a joined path of a JSON field
abbrev pub listed_name : FieldEntry → List ℕ → List ℕ
listed_name entry path = entry.name ++ 46 ∷ (if entry.expand_dots then dotted_path path else escaped_path path)

-- the same with plain dots
abbrev pub dotted_name : FieldEntry → List ℕ → List ℕ
dotted_name entry path = entry.name ++ 46 ∷ dotted_path path

-- whether it is an escaped one
abbrev pub is_escaped : FieldEntry → List ℕ → Bool
is_escaped entry path = not entry.expand_dots && list_any (λ b. b == 46) path

-- a dotted name, with the escaped one
pub record EscapedName : Type 0 where
  pub dotted : List ℕ
  pub escaped : List ℕ

-- that of a path, where it is escaped
abbrev pub escaped_names : FieldEntry → List ℕ → List EscapedName
escaped_names entry path =
    if is_escaped entry path then record { dotted = dotted_name entry path; escaped = listed_name entry path } ∷ []
    else []

-- the first name that is there
abbrev pub or_else : Option (List ℕ) → Option (List ℕ) → Option (List ℕ)
or_else None second = second
or_else (Some name) second = Some name

-- the escaped name of the last with a dotted name
abbrev pub last_escaped : List EscapedName → List ℕ → Option (List ℕ)
last_escaped [] dotted = None
last_escaped (n ∷ ns) dotted =
    or_else (last_escaped ns dotted) (if bytes_eq n.dotted dotted then Some n.escaped else None)

-- the name under which the columns of a path are listed
abbrev pub column_name : List EscapedName → List ℕ → List ℕ
column_name names path = unwrap_or (last_escaped names (dotted_path path)) (dotted_path path)

-- a map has the escaped names of these, by their dotted names
abbrev pub HasNames : {S : Type 0} → HashMap (String Global) (String Global) S → List EscapedName → Type 0
HasNames m names = (dotted : List ℕ) → option_map string_bytes (get_by_text m dotted) ≡ last_escaped names dotted
