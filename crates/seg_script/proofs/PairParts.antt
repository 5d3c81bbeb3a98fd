-- What pairs and terms come to, part by part.
use Rattle.std.proofs.Common.{◌≡◌, ◌≤◌, ◌∙◌, ℕ, List, [], length, Option, Some, option_map, ap}
use Rattle.std.specs.List.{slice_get}
use Rattle.std.proofs.lemmas.Option.{slice_get_past}
use Rattle.serde_json.specs.Data.{Data, array, Items}
use Rattle.serde_json.specs.Find.{as_str}
use Rattle.seg_values.specs.declared.schema.FieldEntry.{FieldEntry}
use Rattle.seg_values.specs.Tree.{Tree}
use Rattle.seg_values.specs.ValueBytes.{TermKey}
use Rattle.seg_meta.specs.JsonReaders.{given}
use Rattle.seg_script.specs.declared.reading.Reading.{Reading}
use Rattle.seg_script.specs.Deletes.{term_bytes, term_from}
use Rattle.seg_script.specs.Fields.{field_or_past}
use Rattle.seg_script.specs.Pairs.{two_or_three, kind_of, reading_of, tree_by, pair_from}

-- a field with a tree
abbrev pub placed : ℕ → Tree → ℕ × Tree
placed field t = (field, t)

-- the empty term of a field
abbrev pub empty : ℕ → Option TermKey
empty field = Some (record { field = field; bytes = [] })

module _ (schema : List FieldEntry) (ds : Items) (a b : Data) (third : Option Data) (name : List ℕ)
    (parts : two_or_three ds ≡ Some (a, b, third)) (named : as_str a ≡ Some name) where
  abbrev by_reading : Reading → Option (ℕ × Tree)
  by_reading reading = option_map (placed (field_or_past schema name)) (tree_by reading b)

  abbrev pair_with : Data → Option Data → List ℕ → Option (ℕ × Tree)
  pair_with value word n =
      given (reading_of (kind_of schema (field_or_past schema n)) word) (λ reading. option_map (placed (field_or_past schema n)) (tree_by reading value))

  -- a pair of which the name and the reading are known
  pub pair_read : (reading : Reading) → reading_of (kind_of schema (field_or_past schema name)) third ≡ Some reading → pair_from schema (array ds) ≡ by_reading reading
  pair_read reading r =
      ap (λ (o : Option (Data × Data × Option Data)). given o (λ p. given (as_str p.0) (pair_with p.1 p.2))) parts
      ∙ ap (λ (o : Option (List ℕ)). given o (pair_with b third)) named
      ∙ ap (λ (o : Option Reading). given o by_reading) r

  abbrev term_of : ℕ → Option (List ℕ) → Option TermKey
  term_of field o = option_map (λ (bytes : List ℕ). record { field = field; bytes = bytes }) o

  abbrev term_with : Data → Option Data → List ℕ → Option TermKey
  term_with value path n = term_of (field_or_past schema n) (term_bytes (slice_get schema (field_or_past schema n)) value path)

  -- a term of a field that the schema lacks
  pub term_unknown : length schema ≤ field_or_past schema name → term_from schema (array ds) ≡ empty (field_or_past schema name)
  term_unknown past =
      ap (λ (o : Option (Data × Data × Option Data)). given o (λ p. given (as_str p.0) (term_with p.1 p.2))) parts
      ∙ ap (λ (o : Option (List ℕ)). given o (term_with b third)) named
      ∙ ap (λ (e : Option FieldEntry). term_of (field_or_past schema name) (term_bytes e b third)) (slice_get_past schema (field_or_past schema name) past)
