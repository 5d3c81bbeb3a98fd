-- What a search for a name found.
use Rattle.std.proofs.Common.{◌≡◌, ℕ, ◌+◌, List, Option, Some, None, take, drop, sym, ap, ◌∙◌, subst}
use Rattle.seg_values.specs.declared.schema.FieldEntry.{FieldEntry}
use Rattle.seg_values.specs.FieldNames.{field_named}
use Rattle.seg_values.specs.NameSearch.{IsSeparator, NoPartFrom, Finds, longest_part, no_part}

module _ (schema : List FieldEntry) (name : List ℕ) (default : Option ℕ) (not_whole : field_named schema name ≡ None) where
  pub finds_part : (at f : ℕ) (part path : List ℕ) → IsSeparator name at → field_named schema part ≡ Some f → part ≡ take at name → path ≡ drop (at + 1) name → NoPartFrom schema name (at + 1) → Finds schema name default (Some (f, path))
  finds_part at f part path separator named is_part is_path past =
      subst (λ p. Finds schema name default (Some (f, p))) (sym is_path) (longest_part at f not_whole separator (ap (field_named schema) (sym is_part) ∙ named) past)

  pub finds_default : (f : ℕ) → default ≡ Some f → NoPartFrom schema name 0 → Finds schema name default (Some (f, name))
  finds_default f is none = subst (λ d. Finds schema name d (Some (f, name))) (sym is) (no_part not_whole none)

  pub finds_none : default ≡ None → NoPartFrom schema name 0 → Finds schema name default None
  finds_none is none = subst (λ d. Finds schema name d None) (sym is) (no_part not_whole none)
