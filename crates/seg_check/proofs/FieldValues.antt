-- The values of a field come in one after another.
use Rattle.std.proofs.Common.{◌≡◌, ℕ, suc, ◌+◌, Bool, true, false, cond, List, [], ◌∷◌, ◌++◌, map, length, Some, None, refl, sym, ap, ◌∙◌, append-nil}
use Rattle.std.specs.Prelude.{◌&&◌, is_some}
use Rattle.std.specs.List.{flat_map, list_all}
use Rattle.std.specs.Str.{bytes_eq}
use Rattle.std.proofs.lemmas.Bool.{false≢true}
use Rattle.std.proofs.lemmas.Grind.{flat_map-append}
use Rattle.std.proofs.lemmas.List.{length-append, map-append}
use Rattle.std.proofs.lemmas.List.Folds.{list_all-map}
use Rattle.std.proofs.Math.Bool.{and_comm}
use Rattle.seg_values.specs.Tree.{Leaf, Tree}
use Rattle.seg_values.specs.declared.schema.FieldEntry.{FieldEntry}
use Rattle.seg_values.specs.declared.schema.FieldKind.{FieldKind}
use Rattle.seg_values.specs.declared.schema.FieldKind.TheVariants.{Text, U64, I64, Bool as Boolean, Date, Facet, Bytes, IpAddr, Json}
use Rattle.seg_tokens.specs.declared.token.Token.{Token}
use Rattle.seg_model.specs.DocumentCheck.{is_u32, count_of, texts_fit, value_texts, leaves_with_path, path_fits, kind_fits}
use Rattle.seg_model.specs.Leaves.{PlacedLeaf, leaves, leaves_of, joined_path}
use Rattle.seg_model.specs.Occurrences.{leaf_text, value_tokens, texts_at}
use Rattle.seg_check.specs.Paths.{at_path, on_path, texts_of, path_texts, fits_on, paths_fit, PathsStand}
use Rattle.seg_model.specs.SaturatedNumbers.{saturated}
use Rattle.seg_check.specs.TextSizes.{size_of, all_rise, measured}
use Rattle.seg_check.specs.FieldContents.{found_in, Stands}
use Rattle.seg_check.specs.TotalsOfFields.{totals_of, with_more, totals_fit}
use Rattle.seg_check.specs.declared.field_totals.FieldTotals.{FieldTotals}
use Rattle.seg_check.specs.declared.size.TextSize.{TextSize}
use Rattle.seg_check.proofs.TextSizeSums.{saturated-one, size-add, fits-kept}
use Rattle.seg_check.proofs.PathLeaves.{kept-fit}

-- ---- leaves

module _ (e : Bool) where
  pub found-last : (values : List Tree) (t : Tree)
      → found_in e (values ++ t ∷ []) ≡ found_in e values ++ map (at_path e) (leaves t)
  found-last values t =
      ap (map (at_path e)) (flat_map-append leaves values (t ∷ [])
      ∙ ap (λ l. leaves_of values ++ l) (append-nil (leaves t)))
      ∙ map-append (at_path e) (leaves_of values) (leaves t)

  module _ (analyze : List ℕ → List Token) where
    texts-of-found : (found : List PlacedLeaf)
        → texts_of analyze (map (at_path e) found) ≡ flat_map (λ (p : PlacedLeaf). map analyze (leaf_text p.leaf)) found
    texts-of-found [] = refl
    texts-of-found (p ∷ found) = ap (λ l. map analyze (leaf_text p.leaf) ++ l) (texts-of-found found)

    -- the texts of a JSON value are those of its leaves
    pub texts-walked : (t : Tree) → texts_of analyze (map (at_path e) (leaves t)) ≡ value_texts Json analyze t
    texts-walked t = texts-of-found (leaves t)

    texts-on : (path : List ℕ) (found : List PlacedLeaf) → path_texts analyze path (map (at_path e) found) ≡ texts_at e analyze path found
    texts-on path [] = refl
    texts-on path (p ∷ found) = ap (λ l. cond (bytes_eq path (joined_path e p.keys)) (map analyze (leaf_text p.leaf)) [] ++ l) (texts-on path found)

    leaves-on : (path : List ℕ) (found : List PlacedLeaf) → length (on_path path (map (at_path e) found)) ≡ length (leaves_with_path e path found)
    leaves-on path [] = refl
    leaves-on path (p ∷ found) = by_case (leaves-on path found) (bytes_eq path (joined_path e p.keys))
      where
        by_case : length (on_path path (map (at_path e) found)) ≡ length (leaves_with_path e path found) → (b : Bool) → length (cond b (at_path e p ∷ on_path path (map (at_path e) found)) (on_path path (map (at_path e) found))) ≡ length (cond b (p ∷ leaves_with_path e path found) (leaves_with_path e path found))
        by_case rest true = ap suc rest
        by_case rest false = rest

    one-path : (found : List PlacedLeaf) (path : List ℕ) → fits_on analyze (map (at_path e) found) path ≡ path_fits e analyze found path
    one-path found path =
        ap (λ texts. texts_fit texts && is_u32 (length (on_path path (map (at_path e) found)))) (texts-on path found)
        ∙ ap (λ n. texts_fit (texts_at e analyze path found) && is_u32 n) (leaves-on path found)

    pub each-path : (found : List PlacedLeaf) → paths_fit analyze (map (at_path e) found) ≡ list_all (λ p. path_fits e analyze found (joined_path e p.keys)) found
    each-path found =
        list_all-map (λ (p : List ℕ × Leaf). fits_on analyze (map (at_path e) found) p.0) (at_path e) found
        ∙ ap (λ (f : List ℕ → Bool). list_all (λ p. f (joined_path e p.keys)) found) (λ i path. one-path found path i)

-- ---- values

one_text_each : (analyze : List ℕ → List Token) (values : List Tree) → flat_map (value_texts Text analyze) values ≡ map (value_tokens analyze) values
one_text_each analyze [] = refl
one_text_each analyze (v ∷ vs) = ap (λ l. value_tokens analyze v ∷ l) (one_text_each analyze vs)

pub measured-some : (s : TextSize) (texts : List (List Token)) → Some s ≡ measured texts → s ≡ size_of texts
measured-some s texts h = by_case (all_rise texts) h
  where
    inner : (x y : TextSize) → Some x ≡ Some y → x ≡ y
    inner x y h = cc

    by_case : (b : Bool) → Some s ≡ cond b (Some (size_of texts)) None → s ≡ size_of texts
    by_case true h = inner s (size_of texts) h
    by_case false h = absurd (false≢true (sym (ap is_some h)))

module _ (entry : FieldEntry) (analyze : List ℕ → List Token) where
  whole-last : (values : List Tree) (t : Tree) → with_more (totals_of (length values) (flat_map (value_texts entry.kind analyze) values)) (size_of (value_texts entry.kind analyze t)) ≡ totals_of (length (values ++ t ∷ [])) (flat_map (value_texts entry.kind analyze) (values ++ t ∷ []))
  whole-last values t =
      let all : flat_map (value_texts entry.kind analyze) (values ++ t ∷ []) ≡ flat_map (value_texts entry.kind analyze) values ++ value_texts entry.kind analyze t = flat_map-append (value_texts entry.kind analyze) values (t ∷ []) ∙ ap (λ l. flat_map (value_texts entry.kind analyze) values ++ l) (append-nil (value_texts entry.kind analyze t)) in
      let sizes : size_of (flat_map (value_texts entry.kind analyze) (values ++ t ∷ [])) ≡ _ = ap size_of all ∙ size-add (flat_map (value_texts entry.kind analyze) values) (value_texts entry.kind analyze t) in
      let many : saturated (length (values ++ t ∷ [])) ≡ saturated (saturated (length values) + 1) = ap saturated (length-append values (t ∷ [])) ∙ saturated-one (length values) in
      sym (λ i. record { size = sizes i; count = many i })

  pub one-more : (t after : FieldTotals) (values : List Tree) (v : Tree) (size : TextSize) → Some size ≡ measured (value_texts entry.kind analyze v) → after.whole ≡ with_more t.whole size → (entry.kind ≡ Json → PathsStand analyze after.paths (found_in entry.expand_dots (values ++ v ∷ []))) → Stands entry analyze t values → Stands entry analyze after (values ++ v ∷ [])
  one-more t after values v size is whole paths stands = record {
    whole = whole ∙ ap (λ w. with_more w size) stands.whole ∙ ap (with_more (totals_of (length values) (flat_map (value_texts entry.kind analyze) values))) (measured-some size (value_texts entry.kind analyze v) is) ∙ whole-last values v;
    paths = paths;
  }

  -- ---- the limits

  no_texts : (kind : FieldKind) (expand_dots : Bool) (values : List Tree) → (kind ≡ Text → ⊥) → (kind ≡ Json → ⊥) → kind_fits kind expand_dots analyze values ≡ true
  no_texts Text e values text json = absurd (text refl)
  no_texts Json e values text json = absurd (json refl)
  no_texts U64 e values text json = refl
  no_texts I64 e values text json = refl
  no_texts Boolean e values text json = refl
  no_texts Date e values text json = refl
  no_texts Facet e values text json = refl
  no_texts Bytes e values text json = refl
  no_texts IpAddr e values text json = refl

  module _ (t : FieldTotals) (values : List Tree) (stands : Stands entry analyze t values) where
    pub text-fits : entry.kind ≡ Text → totals_fit t.whole ≡ (is_u32 (length values) && kind_fits entry.kind entry.expand_dots analyze values)
    text-fits kind =
        ap totals_fit stands.whole ∙ kept-fit analyze (length values) (flat_map (value_texts entry.kind analyze) values)
        ∙ and_comm (texts_fit (flat_map (value_texts entry.kind analyze) values)) (is_u32 (length values))
        ∙ ap (λ k. is_u32 (length values) && texts_fit (flat_map (value_texts k analyze) values)) kind
        ∙ ap (λ l. is_u32 (length values) && texts_fit l) (one_text_each analyze values)
        ∙ ap (λ k. is_u32 (length values) && kind_fits k entry.expand_dots analyze values) (sym kind)

    count-fits : is_u32 t.whole.count ≡ is_u32 (length values)
    count-fits = ap (λ w. is_u32 w.count) stands.whole ∙ fits-kept (length values)

    tokens-fit : is_u32 t.whole.size.tokens ≡ is_u32 (count_of (flat_map (value_texts entry.kind analyze) values))
    tokens-fit = ap (λ w. is_u32 w.size.tokens) stands.whole ∙ fits-kept (count_of (flat_map (value_texts entry.kind analyze) values))

    pub json-fits : entry.kind ≡ Json → (is_u32 t.whole.count && (is_u32 t.whole.size.tokens && t.paths.are_within)) ≡ (is_u32 (length values) && kind_fits entry.kind entry.expand_dots analyze values)
    json-fits kind =
        ap (λ b. b && (is_u32 t.whole.size.tokens && t.paths.are_within)) count-fits
        ∙ ap (λ b. is_u32 (length values) && (b && t.paths.are_within)) (tokens-fit ∙ ap (λ k. is_u32 (count_of (flat_map (value_texts k analyze) values))) kind)
        ∙ ap (λ b. is_u32 (length values) && (is_u32 (count_of (flat_map (value_texts Json analyze) values)) && b)) ((stands.paths kind).within ∙ each-path entry.expand_dots analyze (leaves_of values))
        ∙ ap (λ b. is_u32 (length values) && b) (and_comm (is_u32 (count_of (flat_map (value_texts Json analyze) values))) (list_all (λ p. path_fits entry.expand_dots analyze (leaves_of values) (joined_path entry.expand_dots p.keys)) (leaves_of values)))
        ∙ ap (λ k. is_u32 (length values) && kind_fits k entry.expand_dots analyze values) (sym kind)

    pub other-fits : (entry.kind ≡ Text → ⊥) → (entry.kind ≡ Json → ⊥) → is_u32 t.whole.count ≡ (is_u32 (length values) && kind_fits entry.kind entry.expand_dots analyze values)
    other-fits text json =
        count-fits ∙ sym (ap (λ b. is_u32 (length values) && b) (no_texts entry.kind entry.expand_dots values text json) ∙ and_comm (is_u32 (length values)) true)
