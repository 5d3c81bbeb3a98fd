-- What a value gives whose texts were cut.
use Rattle.std.proofs.Common.{◌≡◌, ℕ, Bool, List, [], ◌∷◌, ◌++◌, map, Some, None, Option, refl, sym, ap, ◌∙◌}
use Rattle.seg_values.specs.Tree.{Leaf, text, Tree}
use Rattle.seg_values.specs.declared.schema.FieldKind.{FieldKind}
use Rattle.seg_values.specs.declared.schema.FieldKind.TheVariants.{Text, U64, I64, Bool as Boolean, Date, Facet, Bytes, IpAddr, Json}
use Rattle.seg_tokens.specs.declared.token.Token.{Token}
use Rattle.seg_model.specs.DocumentCheck.{value_texts}
use Rattle.seg_model.specs.Leaves as model
use Rattle.seg_model.specs.Occurrences.{leaf_text, value_tokens}
use Rattle.seg_check.specs.IndexedValues.{tokens, leaves, content_from, kind_content}
use Rattle.seg_check.specs.LeafContents.{leaf_content, leaf_with, texts_after, with_texts}
use Rattle.seg_check.specs.Paths.{at_path, texts_of}
use Rattle.seg_check.specs.TextTokens.{cut_or_given}
use Rattle.seg_check.proofs.FieldValues.{texts-walked}

module _ (analyze : List ℕ → List Token) where
  first_cut : (l : Leaf) (rest : List (List Token)) → leaf_with (map analyze (leaf_text l) ++ rest) l ≡ leaf_content analyze l
  first_cut (text s) rest = refl
  first_cut l rest = refl

  others_cut : (l : Leaf) (rest : List (List Token)) → texts_after (map analyze (leaf_text l) ++ rest) l ≡ rest
  others_cut (text s) rest = refl
  others_cut l rest = refl

  -- texts that were cut in the order of the leaves are the texts of these
  all_cut : (found : List (List ℕ × Leaf))
      → with_texts (texts_of analyze found) found ≡ map (λ (p : List ℕ × Leaf). (p.0, leaf_content analyze p.1)) found
  all_cut [] = refl
  all_cut (p ∷ found) =
      let first = first_cut p.1 (texts_of analyze found) in
      let others : with_texts (texts_after (map analyze (leaf_text p.1) ++ texts_of analyze found) p.1) found
      ≡ map (λ (p : List ℕ × Leaf). (p.0, leaf_content analyze p.1)) found =
      ap (λ l. with_texts l found) (others_cut p.1 (texts_of analyze found)) ∙ all_cut found in
      λ i. (p.0, first i) ∷ others i

  pub content_cut : (k : FieldKind) (e : Bool) (cut : Option (List Token)) (texts : List (List Token)) (t : Tree)
      → (k ≡ Text → cut_or_given cut t ≡ value_tokens analyze t) → (k ≡ Json → texts ≡ value_texts k analyze t)
      → content_from k e cut texts t ≡ kind_content k e analyze t
  content_cut Text e (Some ts) texts t is json = ap tokens (is refl)
  content_cut Text e None texts t is json = ap tokens (is refl)
  content_cut Json e cut texts t is json = ap leaves (
      ap (λ l. with_texts l (map (at_path e) (model.leaves t))) (json refl ∙ sym (texts-walked e analyze t))
      ∙ all_cut (map (at_path e) (model.leaves t)))
  content_cut U64 e cut texts t is json = refl
  content_cut I64 e cut texts t is json = refl
  content_cut Boolean e cut texts t is json = refl
  content_cut Date e cut texts t is json = refl
  content_cut Facet e cut texts t is json = refl
  content_cut Bytes e cut texts t is json = refl
  content_cut IpAddr e cut texts t is json = refl
