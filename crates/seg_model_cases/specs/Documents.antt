-- Cases of the check of documents, and of what is stored of them.
use Rattle.std.specs.Prelude.{◌≡◌, pos, negsuc, ◌^◌, ◌-◌, List, [], ◌∷◌, map, replicate, codes, true, false, Option, Some, None}
use Rattle.seg_values.specs.declared.error.ArgumentCause.TheVariants as argument
use Rattle.seg_values.specs.declared.error.SchemaCause.TheVariants.{UnknownField, WrongValue}
use Rattle.seg_values.specs.declared.error.TantivyError.{TantivyError}
use Rattle.seg_values.specs.declared.error.TantivyError.TheVariants.{SchemaError, InvalidArgument}
use Rattle.seg_values.specs.declared.schema.FieldKind.TheVariants.{Text, Json}
use Rattle.seg_values.specs.declared.schema.IndexOption.TheVariants.{No, Positions}
use Rattle.seg_values.specs.Tree.{null, unsigned, signed, boolean, date, facet, byte_string, ip, Tree, leaf, array, tree, no_trees, Document}
use Rattle.seg_model.specs.Fields.{Schema}
use Rattle.seg_model.specs.DocumentTerms.{stored_document}
use Rattle.seg_values.specs.StoredBytes.{tree_form, stored_form}
use Rattle.seg_model.specs.DocumentCheck.{at_place, document_refusal, is_u32}
use Rattle.seg_model_cases.specs.CaseData.{analyzer, entry, only, said, token, cut, keyed, in_arrays}

-- field 0 has texts, field 1 JSON
abbrev pub two_fields : Schema
two_fields = entry Text Positions ∷ entry Json Positions ∷ []

-- each as the document at place 9
abbrev pub refusals : List Document → List (Option TantivyError)
refusals documents = map (λ d. at_place 9 (document_refusal two_fields analyzer d)) documents

abbrev pub seven : Tree
seven = leaf (unsigned 7)

abbrev pub bytes : Tree
bytes = leaf (byte_string (codes "a"))

-- two tokens, of which the second is before the first
abbrev pub falling : Tree
falling = cut (token 1 (codes "a") ∷ token 0 (codes "a") ∷ [])

pub record DocumentCases : Type 0 where
  -- no such field; no value of a text; no leaf of JSON, twice; no key of JSON, whose value is no leaf
  -- of it either; tokens that fall
  pub refused : refusals (((2, seven) ∷ []) ∷ ((0, seven) ∷ []) ∷ ((1, bytes) ∷ []) ∷ ((1, falling) ∷ [])
      ∷ ((1, keyed (0 ∷ []) falling) ∷ []) ∷ ((0, falling) ∷ []) ∷ [])
      ≡ Some (SchemaError (UnknownField 9)) ∷ Some (SchemaError (WrongValue 9 0))
      ∷ Some (InvalidArgument (argument.JsonLeaf 9)) ∷ Some (InvalidArgument (argument.JsonLeaf 9))
      ∷ Some (InvalidArgument (argument.JsonKey 9)) ∷ Some (InvalidArgument (argument.Positions 9)) ∷ []
  -- what is found in a later field, by an earlier pass, comes first
  pub in_passes : refusals (((1, bytes) ∷ (0, seven) ∷ []) ∷ ((0, falling) ∷ (1, bytes) ∷ [])
      ∷ ((1, in_arrays 200 seven) ∷ (0, falling) ∷ []) ∷ [])
      ≡ Some (SchemaError (WrongValue 9 0)) ∷ Some (InvalidArgument (argument.JsonLeaf 9))
      ∷ Some (InvalidArgument (argument.Positions 9)) ∷ []
  -- an array without values has a level too: 200 are taken
  pub empty_arrays :
      refusals (((1, in_arrays 199 (array no_trees)) ∷ []) ∷ ((1, in_arrays 200 (array no_trees)) ∷ []) ∷ [])
      ≡ None ∷ Some (InvalidArgument (argument.Limit 9)) ∷ []
  -- what is counted stays below 2^32
  pub counted : map is_u32 ((2 ^ 32 - 1) ∷ (2 ^ 32) ∷ []) ≡ true ∷ false ∷ []
  -- a text that was cut is stored as its text, and a field that is not stored, or not there, is left out
  pub stored : stored_document (record (entry Text No) { stored = false } ∷ entry Text No ∷ [])
      ((0, said (codes "gone")) ∷ (1, cut []) ∷ (2, seven) ∷ (1, said (codes "b")) ∷ [])
      ≡ (1, said (codes "a")) ∷ (1, said (codes "b")) ∷ []
  pub stored_bytes : stored_form (only Text No) ((0, said (codes "ab")) ∷ (3, said (codes "gone")) ∷ [])
      ≡ 1 ∷ 0 ∷ 1 ∷ 2 ∷ 97 ∷ 98 ∷ []
  -- each kind of value has its tag; numbers are in little endian
  pub tags : map tree_form (map leaf (null ∷ unsigned 258 ∷ signed (negsuc 0) ∷ boolean true ∷ date (pos 1)
      ∷ facet (codes "a") ∷ byte_string (codes "ab") ∷ ip (replicate 16 9) ∷ []))
      ≡ (0 ∷ [])
      ∷ (3 ∷ 2 ∷ 1 ∷ 0 ∷ 0 ∷ 0 ∷ 0 ∷ 0 ∷ 0 ∷ [])
      ∷ (4 ∷ replicate 8 255)
      ∷ (6 ∷ 1 ∷ [])
      ∷ (7 ∷ 1 ∷ 0 ∷ 0 ∷ 0 ∷ 0 ∷ 0 ∷ 0 ∷ 0 ∷ [])
      ∷ (8 ∷ 1 ∷ 97 ∷ [])
      ∷ (9 ∷ 2 ∷ 97 ∷ 98 ∷ [])
      ∷ (12 ∷ replicate 16 9) ∷ []
  -- {"a": [1, null]} in field 0
  pub object_of_a_list : stored_form (only Json No)
      ((0, keyed (codes "a") (array (tree (leaf (signed (pos 1))) (tree (leaf null) no_trees)))) ∷ [])
      ≡ 1 ∷ 0 ∷ 11 ∷ 1 ∷ 1 ∷ 97 ∷ 10 ∷ 2 ∷ 4 ∷ 1 ∷ replicate 8 0
  -- [null, {"k": true}], and a text of one token
  pub nested : map tree_form (array (tree (leaf null) (tree (keyed (codes "k") (leaf (boolean true))) no_trees))
      ∷ cut (token 5 (codes "b") ∷ []) ∷ [])
      ≡ (10 ∷ 2 ∷ 0 ∷ 11 ∷ 1 ∷ 1 ∷ 107 ∷ 6 ∷ 1 ∷ []) ∷ (2 ∷ 1 ∷ 97 ∷ 1 ∷ 0 ∷ 0 ∷ 5 ∷ 1 ∷ 1 ∷ 98 ∷ []) ∷ []
