-- The lines of the indexed fields.
use Rattle.std.specs.Prelude.{ℕ, List, [], ◌∷◌, ◌++◌, if◌then◌else◌, length, codes, decimal}
use Rattle.std.specs.List.{flat_map}
use Rattle.std.specs.FinMap.{entries}
use Rattle.json.specs.Print.{quoted}
use Rattle.seg_model.specs.Fields.{Schema, is_indexed}
use Rattle.seg_model.specs.DocumentTerms.{Posting, Terms}
use Rattle.seg_text.specs.PostingText.{posting_text}
use Rattle.seg_text.specs.TermText.{term_text}

-- a term and its postings
abbrev pub term_line : List ℕ × List Posting → List ℕ
term_line term = term_text term.0 ++ (flat_map posting_text term.1 ++ 10 ∷ [])

-- `field NAME terms N`
abbrev pub field_line : List ℕ → ℕ → List ℕ
field_line name count = codes "field " ++ (quoted name ++ (codes " terms " ++ (decimal count ++ 10 ∷ [])))

-- the line of a field, and one for each of its terms
abbrev pub field_text : List ℕ → List (List ℕ × List Posting) → List ℕ
field_text name terms = field_line name (length terms) ++ flat_map term_line terms

-- the indexed fields of a schema, in order, with their terms in byte order
abbrev pub fields_text : Schema → List Terms → List ℕ
fields_text [] terms = []
fields_text (entry ∷ schema) [] = []
fields_text (entry ∷ schema) (terms ∷ others) = (if is_indexed entry then field_text entry.name (entries terms) else [])
    ++ fields_text schema others
