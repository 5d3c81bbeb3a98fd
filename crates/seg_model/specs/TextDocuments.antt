-- Documents of texts, and documents that pass their check.
use Rattle.std.specs.Prelude.{Bool, true, false, is_none}
use Rattle.seg_values.specs.Tree.{Leaf, text, Tree, leaf, array, object, Document}
use Rattle.seg_model.specs.Fields.{Schema, Analyzer}
use Rattle.seg_model.specs.DocumentCheck.{document_refusal}

-- a text that is not cut yet
abbrev pub is_text_leaf : Leaf → Bool
is_text_leaf (text s) = true
is_text_leaf _ = false

-- a tree that is one text
abbrev pub is_text_tree : Tree → Bool
is_text_tree (leaf l) = is_text_leaf l
is_text_tree (array ts) = false
is_text_tree (object ms) = false

-- whether a document passes the check
abbrev pub is_taken : Schema → Analyzer → Document → Bool
is_taken schema analyzer document = is_none (document_refusal schema analyzer document)
