-- Stored documents and their pairs that are printed.
use Rattle.std.proofs.Common.{◌≡◌, ℕ, true, List, [], ◌∷◌, ◌++◌, length, take, Option, Some, None, codes, decimal, refl, sym, ap, ◌∙◌, subst, append_assoc}
use Rattle.std.specs.Prelude.{nat_eq, Result, OnOk, IsSomeAnd}
use Rattle.json.specs.Print.{quoted}
use Rattle.serde_json.specs.Written.{compact_text}
use Rattle.seg_doc_bytes.specs.FrontReaders.{made_of, counted_at}
use Rattle.seg_doc_bytes.specs.StoredTree.{stored_tree_at}
use Rattle.seg_doc_bytes.specs.StoredDocument.{most_levels_read, pair_at, stored_document_of}
use Rattle.seg_doc_bytes.proofs.Exports.{document_whole}
use Rattle.seg_values.specs.Tree.{Document}
use Rattle.seg_values.specs.ValueJson.{value_json}
use Rattle.seg_model.specs.Fields.{Schema}
use Rattle.seg_text.specs.DocumentText.{name_at, pair_json, document_json, document_line}
use Rattle.seg_text.specs.PrintedFronts.{HasMore, Printed, IsPrinted}

-- a field and its tree
pub pair_printed : (schema : Schema) (field named : ℕ) (old left next start a b c d e : List ℕ) → pair_at old ≡ made_of (λ t. (field, t)) (stored_tree_at most_levels_read left) → named ≡ field
    → a ≡ start ++ 91 ∷ [] → b ≡ a ++ quoted (name_at schema named) → c ≡ b ++ 44 ∷ []
    → Printed (stored_tree_at most_levels_read) (λ t. compact_text (value_json t)) left next c d → e ≡ d ++ 93 ∷ []
    → Printed pair_at (λ p. compact_text (pair_json schema p)) old next start e
pair_printed schema field named old left next start a b c d e pair same first name comma p close =
    let named_so : b ≡ a ++ quoted (name_at schema field) = name ∙ ap (λ f. a ++ quoted (name_at schema f)) same in
    record {
      value = (field, p.value);
      is = pair ∙ ap (made_of (λ t. (field, t))) p.is;
      printed = rw (close, p.printed, comma, named_so, first) (simp append_assoc);
    }

-- a document of which no byte is left
pub whole_printed : (text : Document → List ℕ) (stored left start out : List ℕ) → Printed (counted_at pair_at) text stored left start out → nat_eq (length left) 0 ≡ true → IsPrinted text stored start out
whole_printed text stored left start out p empty = subst (λ o. IsSomeAnd o (λ d. out ≡ start ++ text d)) (sym (document_whole stored left p.value p.is empty)) p.printed

-- a document that was read
pub read_printed : {T E : Type 0} (text : Document → List ℕ) (stored start out : List ℕ) (d : Document) (r : Result T E) → stored_document_of stored ≡ Some d → OnOk r (out ≡ start ++ text d) → OnOk r (IsPrinted text stored start out)
read_printed text stored start out d r is h = subst (λ o. OnOk r (IsSomeAnd o (λ e. out ≡ start ++ text e))) (sym is) h

take_all : (xs ys : List ℕ) → take (length xs) (xs ++ ys) ≡ xs
take_all [] ys = refl
take_all (x ∷ xs) ys = ap (λ zs. x ∷ zs) (take_all xs ys)

-- what came after it is cut off
pub cut_back : (start grown cut : List ℕ) (n : ℕ) → n ≡ length start → HasMore start grown → cut ≡ take n grown → cut ≡ start
cut_back start grown cut n many more is = is ∙ ap (λ m. take m grown) many ∙ ap (take (length start)) more.is ∙ take_all start more.more

-- the line of a document
pub line_printed : (schema : Schema) (id : ℕ) (o : Option Document) (start a b c d e : List ℕ) → a ≡ start ++ codes "doc " → b ≡ a ++ decimal id → c ≡ b ++ 32 ∷ [] → IsSomeAnd o (λ p. d ≡ c ++ compact_text (document_json schema p)) → e ≡ d ++ 10 ∷ [] → IsSomeAnd o (λ p. e ≡ start ++ document_line schema id p)
line_printed schema id None start a b c d e word number space h end = h
line_printed schema id (Some p) start a b c d e word number space h end = rw (end, h, space, number, word) (simp append_assoc)
