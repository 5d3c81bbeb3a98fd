-- A shop catalogue: what the definitions say about its operations, and about what survives them.
use Rattle.std.proofs.Common.{◌≡◌, ℕ, ◌+◌, Bool, true, false, List, [], ◌∷◌, ◌++◌, map, Some, None, Option, refl}
use Rattle.std.specs.Prelude.{pos, ◌==◌, ◌&&◌, ◌||◌, nat_le, if◌then◌else◌, codes, is_some, is_none}
use Rattle.std.specs.List.{flat_map, list_all}
use Rattle.std.specs.Ordering.{nat_cmp}
use Rattle.std.specs.Cmp.Lexicographic.{slice_cmp}
use Rattle.seg_tokens.specs.declared.token.Token.{Token}
use Rattle.seg_values.specs.declared.schema.FieldEntry.{FieldEntry}
use Rattle.seg_values.specs.declared.schema.FieldKind.TheVariants.{Text, U64, Date, Facet, Bytes, Json}
use Rattle.seg_values.specs.declared.schema.IndexOption.TheVariants.{No, Basic, Positions}
use Rattle.seg_common.specs.declared.precision.DateTimePrecision.TheVariants.{Seconds}
use Rattle.seg_common.specs.declared.column_type.ColumnType.{ColumnType}
use Rattle.seg_common.specs.declared.column_type.ColumnType.TheVariants as types
use Rattle.seg_values.specs.Tree.{text, unsigned, signed, date, facet, byte_string, leaf, object, no_members, member, Document}
use Rattle.seg_model.specs.Fields.{Schema, Analyzer}
use Rattle.seg_model.specs.Occurrences.{Occurrence, occurrences}
use Rattle.seg_common.specs.TabulatedMaps.{is_among}
use Rattle.seg_model.specs.DocumentTerms.{Posting, presence, positions, postings_of, stored_document}
use Rattle.seg_model.specs.Norms.{length_id, field_norms}
use Rattle.seg_model.specs.Operations.{Operation, add, delete, batches, Batch, live}
use Rattle.seg_model.specs.Columns.{ColumnKey, ColumnValue, number, text_value, date_value, column_at, column_cmp, declared_columns, value_keys, fast_values, columns}
use Rattle.seg_model.specs.Laws.{recorded_values}

-- ---- analyzers: words of lower case letters, with one space between each two

abbrev lower : ℕ → ℕ
lower b = if nat_le 65 b && nat_le b 90 then b + 32 else b

abbrev token : ℕ → List ℕ → Token
token p w = record { offset_from = 0; offset_to = 0; position = p; position_length = 1; text = w }

abbrev words : ℕ → List ℕ → List ℕ → List Token
words p so_far [] = token p so_far ∷ []
words p so_far (b ∷ bs) = if b == 32 then token p so_far ∷ words (p + 1) [] bs else words p (so_far ++ lower b ∷ []) bs

abbrev analyzer : Analyzer
analyzer name s = words 0 [] s

-- ---- the schema

abbrev title : FieldEntry
title = record { name = codes "title"; kind = Text; stored = true; index = Positions; tokenizer = Some (codes "default"); norms = true; fast = false; fast_tokenizer = None; precision = Seconds; expand_dots = false }

abbrev price : FieldEntry
price = record { name = codes "price"; kind = U64; stored = true; index = Basic; tokenizer = None; norms = false; fast = false; fast_tokenizer = None; precision = Seconds; expand_dots = false }

abbrev added : FieldEntry
added = record { name = codes "added"; kind = Date; stored = true; index = No; tokenizer = None; norms = false; fast = true; fast_tokenizer = None; precision = Seconds; expand_dots = false }

abbrev tags : FieldEntry
tags = record { name = codes "tags"; kind = Facet; stored = true; index = Basic; tokenizer = None; norms = false; fast = true; fast_tokenizer = None; precision = Seconds; expand_dots = false }

abbrev attrs : FieldEntry
attrs = record { name = codes "attrs"; kind = Json; stored = true; index = No; tokenizer = None; norms = false; fast = true; fast_tokenizer = None; precision = Seconds; expand_dots = false }

abbrev thumb : FieldEntry
thumb = record { name = codes "thumb"; kind = Bytes; stored = true; index = No; tokenizer = None; norms = false; fast = false; fast_tokenizer = None; precision = Seconds; expand_dots = false }

abbrev schema : Schema
schema = title ∷ price ∷ added ∷ tags ∷ attrs ∷ thumb ∷ []

-- ---- the operations

abbrev kitchen_mug : List ℕ
kitchen_mug = codes "kitchen" ++ 0 ∷ codes "mug"

abbrev kitchen_pan : List ℕ
kitchen_pan = codes "kitchen" ++ 0 ∷ codes "pan"

abbrev red_mug : Document
red_mug = (0, leaf (text (codes "Red mug"))) ∷ (1, leaf (unsigned 900)) ∷ (2, leaf (date (pos 851045997000000000))) ∷ (3, leaf (facet kitchen_mug)) ∷ (4, object (member (codes "color") (leaf (text (codes "red"))) no_members)) ∷ (5, leaf (byte_string (1 ∷ 2 ∷ []))) ∷ []

abbrev blue_mug : Document
blue_mug = (0, leaf (text (codes "Blue mug"))) ∷ (1, leaf (unsigned 950)) ∷ (3, leaf (facet kitchen_mug)) ∷ (4, object (member (codes "color") (leaf (text (codes "blue"))) no_members)) ∷ []

abbrev red_pan : Document
red_pan = (0, leaf (text (codes "Red pan"))) ∷ (1, leaf (unsigned 2500)) ∷ (3, leaf (facet kitchen_pan)) ∷ (4, object (member (codes "color") (leaf (text (codes "red"))) (member (codes "size") (leaf (signed (pos 28))) no_members))) ∷ []

abbrev tea : Document
tea = (0, leaf (text (codes "Tea"))) ∷ (1, leaf (unsigned 400)) ∷ (3, leaf (facet (codes "food"))) ∷ []

abbrev tea_tin : Document
tea_tin = (0, leaf (text (codes "Tea tin"))) ∷ (1, leaf (unsigned 700)) ∷ (3, leaf (facet (codes "food"))) ∷ []

abbrev operations : List Operation
operations = add red_mug ∷ add blue_mug ∷ add red_pan ∷ delete (record { field = 1; bytes = (0 ∷ 0 ∷ 0 ∷ 0 ∷ 0 ∷ 0 ∷ 3 ∷ 182 ∷ []) }) ∷ add blue_mug ∷ add tea ∷ delete (record { field = 0; bytes = codes "tea" }) ∷ add tea_tin ∷ []

-- ---- what the batches add, and what of it is alive in the end

in_batches : map {B = List Document × List Bool} (λ (b : Batch). (b.documents, b.alive)) (batches schema analyzer (2 ∷ 5 ∷ []) operations) ≡ (red_mug ∷ blue_mug ∷ [], true ∷ false ∷ []) ∷ (red_pan ∷ blue_mug ∷ [], true ∷ true ∷ []) ∷ (tea ∷ tea_tin ∷ [], false ∷ true ∷ []) ∷ []
in_batches = refl

abbrev survived : List Document
survived = red_mug ∷ red_pan ∷ blue_mug ∷ tea_tin ∷ []

survivors : flat_map live (batches schema analyzer (2 ∷ 5 ∷ []) operations) ≡ survived
survivors = refl

all_stored : map (stored_document schema) survived ≡ survived
all_stored = refl

-- ---- the terms of what survives: these with these postings, and no others

abbrev occurred : ℕ → List (List Occurrence)
occurred field = map (λ d. occurrences schema analyzer d field) survived

abbrev all_among : ℕ → List (List ℕ) → Bool
all_among field terms = list_all (λ (o : Occurrence). is_among (slice_cmp nat_cmp) terms o.bytes) (flat_map (λ os. os) (occurred field))

abbrev at : ℕ → ℕ → Posting
at document position = record { document = document; recorded = positions (position ∷ []) }

abbrev alone : ℕ → Posting
alone document = record { document = document; recorded = presence }

abbrev title_terms : List (List ℕ)
title_terms = (codes "blue") ∷ (codes "mug") ∷ (codes "pan") ∷ (codes "red") ∷ (codes "tea") ∷ (codes "tin") ∷ []

title_postings : map (λ term. postings_of title term (occurred 0)) title_terms ≡ (at 2 0 ∷ []) ∷ (at 0 1 ∷ at 2 1 ∷ []) ∷ (at 1 1 ∷ []) ∷ (at 0 0 ∷ at 1 0 ∷ []) ∷ (at 3 0 ∷ []) ∷ (at 3 1 ∷ []) ∷ []
title_postings = refl

title_no_others : all_among 0 title_terms ≡ true
title_no_others = refl

abbrev price_terms : List (List ℕ)
price_terms = (0 ∷ 0 ∷ 0 ∷ 0 ∷ 0 ∷ 0 ∷ 2 ∷ 188 ∷ []) ∷ (0 ∷ 0 ∷ 0 ∷ 0 ∷ 0 ∷ 0 ∷ 3 ∷ 132 ∷ []) ∷ (0 ∷ 0 ∷ 0 ∷ 0 ∷ 0 ∷ 0 ∷ 3 ∷ 182 ∷ []) ∷ (0 ∷ 0 ∷ 0 ∷ 0 ∷ 0 ∷ 0 ∷ 9 ∷ 196 ∷ []) ∷ []

price_postings : map (λ term. postings_of price term (occurred 1)) price_terms ≡ (alone 3 ∷ []) ∷ (alone 0 ∷ []) ∷ (alone 2 ∷ []) ∷ (alone 1 ∷ []) ∷ []
price_postings = refl

price_no_others : all_among 1 price_terms ≡ true
price_no_others = refl

abbrev tags_terms : List (List ℕ)
tags_terms = [] ∷ (codes "food") ∷ (codes "kitchen") ∷ kitchen_mug ∷ kitchen_pan ∷ []

tags_postings : map (λ term. postings_of tags term (occurred 3)) tags_terms ≡ (alone 0 ∷ alone 1 ∷ alone 2 ∷ alone 3 ∷ []) ∷ (alone 3 ∷ []) ∷ (alone 0 ∷ alone 1 ∷ alone 2 ∷ []) ∷ (alone 0 ∷ alone 2 ∷ []) ∷ (alone 1 ∷ []) ∷ []
tags_postings = refl

tags_no_others : all_among 3 tags_terms ≡ true
tags_no_others = refl

-- ---- the columns and the length ids of what survives

abbrev key : List ℕ → ColumnType → ColumnKey
key path type = record { path = path; type = type }

abbrev attrs_path : List ℕ → List ℕ
attrs_path name = codes "attrs" ++ 1 ∷ name

abbrev expected_keys : List ColumnKey
expected_keys = key (codes "added") types.DateTime ∷ key (attrs_path (codes "color")) types.Str ∷ key (attrs_path (codes "size")) types.I64 ∷ key (codes "tags") types.Str ∷ []

abbrev column : ColumnKey → Option (List (List ColumnValue))
column k = column_at (declared_columns schema) k (recorded_values schema analyzer survived k)

the_columns : map column expected_keys ≡
    Some ((date_value (pos 851045997000000000) ∷ []) ∷ [] ∷ [] ∷ [] ∷ [])
    ∷ Some ((text_value (codes "red") ∷ []) ∷ (text_value (codes "red") ∷ []) ∷ (text_value (codes "blue") ∷ []) ∷ [] ∷ [])
    ∷ Some ([] ∷ (number (pos 28) ∷ []) ∷ [] ∷ [] ∷ [])
    ∷ Some ((text_value kitchen_mug ∷ []) ∷ (text_value kitchen_pan ∷ []) ∷ (text_value kitchen_mug ∷ []) ∷ (text_value (codes "food") ∷ []) ∷ [])
    ∷ []
the_columns = refl

no_other_columns : list_all (λ k. is_none (column k) || is_among column_cmp expected_keys k) (declared_columns schema ++ flat_map (flat_map value_keys) (map (fast_values schema analyzer) survived)) ≡ true
no_other_columns = refl

are_defined : is_some (columns schema analyzer survived) ≡ true
are_defined = refl

lengths : field_norms analyzer survived (0, title) ≡ 2 ∷ 2 ∷ 2 ∷ 2 ∷ []
unfolding length_id
lengths = refl
