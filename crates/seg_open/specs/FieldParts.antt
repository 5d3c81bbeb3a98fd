-- The parts of fields in composite files.
use Rattle.std.specs.Prelude.{ℕ, List, Option}
use Rattle.std.specs.Option.{option_and_then, option_map}
use Rattle.seg_directory.specs.CompositeFiles.{composite, field_of}
use Rattle.seg_termdict.specs.Dictionary.{Term, terms_of}

-- the part of a field
abbrev pub part_in : List ℕ → ℕ → Option (List ℕ)
part_in file field = option_and_then (λ parts. field_of parts field) (composite file)

-- the terms of a field with their infos: its part of the file of terms is a dictionary of them
abbrev pub dictionary_in : List ℕ → ℕ → Option (List Term)
dictionary_in terms field = option_map terms_of (part_in terms field)
