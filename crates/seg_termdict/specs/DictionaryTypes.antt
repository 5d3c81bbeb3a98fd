-- The types of term dictionaries, by their numbers.
use Rattle.std.specs.Prelude.{◌≡◌, ◌≢◌, ℕ, Result, Ok, Err}
use Rattle.seg_termdict.specs.declared.dictionary_type.DictionaryType.{DictionaryType}
use Rattle.seg_termdict.specs.declared.dictionary_type.DictionaryType.TheVariants.{Fst, SSTable}
use Rattle.seg_termdict.specs.declared.error.TermDictError.{TermDictError}
use Rattle.seg_termdict.specs.declared.error.TermDictError.TheVariants.{WrongType}

-- the number of a type
abbrev pub type_number : DictionaryType → ℕ
type_number Fst = 1
type_number SSTable = 2

-- a number is that of a type, or of none
abbrev pub NamesType : ℕ → Result DictionaryType TermDictError → Type 0
NamesType number (Ok t) = number ≡ type_number t
NamesType number (Err e) = (e ≡ WrongType) × (number ≢ type_number Fst) × (number ≢ type_number SSTable)
