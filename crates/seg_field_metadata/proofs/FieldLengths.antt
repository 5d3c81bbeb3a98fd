-- The sizes that a field says, and the lengths of its parts.
use Rattle.std.proofs.Common.{◌≡◌, ℕ, suc, ◌+◌, ◌*◌, ◌/◌, ◌<◌, ◌≤◌, Bool, true, false, List, [], ◌∷◌, length, map, refl, sym, ap, subst, ◌∙◌, arith, length-drop}
use Rattle.std.specs.Prelude.{◌^◌, ◌==◌, if◌then◌else◌}
use Rattle.std.specs.List.{sum_by}
use Rattle.std.specs.Option.{unwrap_or}
use Rattle.std.proofs.lemmas.Bool.Decides.{nat_tests}
use Rattle.std.proofs.lemmas.List.{length-map}
use Rattle.std.proofs.lemmas.List.Sums.{sum_by-cons}
use Rattle.seg_values.specs.FieldTypes.{type_of}
use Rattle.seg_values.specs.declared.schema.FieldEntry.{FieldEntry}
use Rattle.seg_model.specs.Fields.{is_json}
use Rattle.seg_termdict.specs.Dictionary.{Term}
use Rattle.seg_postings.specs.OpenedFields.{OpenField, dictionary_terms}
use Rattle.seg_postings.specs.JsonSpaces.{AreSpaces}
use Rattle.seg_postings.specs.declared.field_space.InvertedIndexFieldSpace.{InvertedIndexFieldSpace}
use Rattle.seg_field_metadata.specs.MetadataEntries.{Entry}
use Rattle.seg_model.specs.SaturatedNumbers.{saturated}
use Rattle.seg_field_metadata.specs.IndexedFieldMetadata.{FieldSays, FieldSaysBy, Said, Sizes, dictionary_size, indexed_entry, positions_size, postings_size, share, sizes_of, space_entry}
use Rattle.seg_field_metadata.specs.PartLengths.{FieldBytes, IsOpenedFrom, MakeUp, lengths_of, sum_of}
use Rattle.seg_field_metadata.proofs.DictionaryLengths.{dictionary_long, positions_fill, postings_fill}
use Rattle.seg_field_metadata.proofs.Shares.{shares_least, shares_most}
use Rattle.seg_field_metadata.proofs.SpaceSums.{no_space, positions_of_spaces, postings_of_spaces, terms_of_spaces}

fits : (n : ℕ) → n < 2 ^ 64 → saturated n ≡ n
fits n few = omega (arith, few)

-- ---- all terms

module _ (f : OpenField) (b : FieldBytes) (from : IsOpenedFrom b f) where
  dictionary_is : dictionary_size (dictionary_terms f) ≡ length b.dictionary
  dictionary_is = ap dictionary_size from.infos ∙ dictionary_long b.dictionary from.spell.is_dictionary

  postings_are : postings_size (dictionary_terms f) ≡ length b.postings
  postings_are =
      let all = postings_fill b.dictionary from.spell.is_dictionary in
      let fill = from.spell.postings_fill in
      let room = from.spell.room in
      let rest = length-drop 8 b.postings in
      ap postings_size from.infos ∙ omega (arith, all, fill, room, rest)

  positions_are : positions_size (dictionary_terms f) ≡ length b.positions
  positions_are = ap positions_size from.infos ∙ positions_fill b.dictionary from.spell.is_dictionary ∙ from.spell.positions_fill

  pub sizes_are : sizes_of (dictionary_terms f) ≡ lengths_of b
  sizes_are =
      let terms = ap saturated dictionary_is ∙ fits (length b.dictionary) from.few_terms in
      let postings = ap saturated postings_are ∙ fits (length b.postings) from.few_postings in
      let positions = ap saturated positions_are ∙ fits (length b.positions) from.few_positions in
      λ i. record { terms = terms i; postings = postings i; positions = positions i }

-- ---- those of paths

of_map : {X Y : Type 0} (size : Y → ℕ) (h : X → Y) (xs : List X) → sum_by size (map h xs) ≡ sum_by (λ x. size (h x)) xs
of_map size h [] = refl
of_map size h (x ∷ xs) = omega (arith, sum_by-cons size (h x) (map h xs), sum_by-cons (λ y. size (h y)) x xs, of_map size h xs)

abbrev shared : ℕ → List Term → List InvertedIndexFieldSpace → ℕ
shared size terms spaces = sum_by (λ s. share size s.num_terms (length terms)) spaces

not_zero : (n : ℕ) → (suc n == 0) ≡ false
not_zero n = grind (arith, nat_tests)

shares_near : (size : ℕ) (terms : List Term) (spaces : List InvertedIndexFieldSpace) → AreSpaces terms spaces
    → (shared size terms spaces ≤ size) × (0 < length spaces → size < shared size terms spaces + length spaces)
shares_near size [] spaces are =
    subst (λ (ss : List InvertedIndexFieldSpace). (shared size [] ss ≤ size) × (0 < length ss → size < shared size [] ss + length ss))
    (sym (no_space spaces are)) (omega arith, λ some. absurd (omega (arith, some)))
shares_near size (t ∷ terms) spaces are =
    let all : ℕ = suc (length terms) in
    let number : InvertedIndexFieldSpace → ℕ = λ s. s.num_terms in
    let some : 0 < all = omega arith in
    let whole : all ≡ sum_by number spaces = sym (terms_of_spaces (t ∷ terms) spaces are) in
    let divided : shared size (t ∷ terms) spaces ≡ sum_by (λ s. (size * number s) / all) spaces =
    λ i. sum_by (λ s. if not_zero (length terms) i then 0 else (size * number s) / all) spaces in
    let most = shares_most number size all some spaces whole in
    let least = shares_least number size all some spaces whole in
    (omega (arith, divided, most), λ there. let near = least there in omega (arith, divided, near))

module _ (entry : FieldEntry) (f : OpenField) (b : FieldBytes) (from : IsOpenedFrom b f) (spaces : List InvertedIndexFieldSpace)
    (are : AreSpaces (dictionary_terms f) spaces) where
  abbrev terms : List Term
  terms = dictionary_terms f

  abbrev es : List Entry
  es = map (space_entry entry terms) spaces

  spaces_make_up : MakeUp b es
  spaces_make_up =
      let near = shares_near (length b.dictionary) terms spaces are in
      let shares : sum_of (λ k. k.terms) es ≡ shared (length b.dictionary) terms spaces =
      of_map (λ (e : Entry). unwrap_or e.1.terms 0) (space_entry entry terms) spaces
      ∙ ap (λ (sizes : Sizes). shared sizes.terms terms spaces) (sizes_are f b from) in
      let number : length es ≡ length spaces = length-map spaces (space_entry entry terms) in
      record {
        postings =
            ap (λ n. 8 + n) (of_map (λ (e : Entry). unwrap_or e.1.postings 0) (space_entry entry terms) spaces ∙ postings_of_spaces terms spaces are)
            ∙ postings_are f b from;
        positions =
            of_map (λ (e : Entry). unwrap_or e.1.positions 0) (space_entry entry terms) spaces
            ∙ positions_of_spaces terms spaces are ∙ positions_are f b from;
        terms_most = let most = near.0 in omega (arith, shares, most);
        terms_least = λ some. let least = near.1 (omega (arith, some, number)) in omega (arith, shares, number, least);
      }

-- ---- what a field says

pub field_says_lengths : (entry : FieldEntry) (f : OpenField) (b : FieldBytes) (said : Said) → IsOpenedFrom b f → is_json entry.kind ≡ false
    → FieldSays entry (dictionary_terms f) said → said.entries ≡ indexed_entry entry entry.name (type_of entry.kind) (lengths_of b) ∷ []
field_says_lengths entry f b said from plain says =
    ap (λ (s : Said). s.entries) (subst (λ (json : Bool). FieldSaysBy json entry (dictionary_terms f) said) plain says)
    ∙ ap (λ (sizes : Sizes). indexed_entry entry entry.name (type_of entry.kind) sizes ∷ []) (sizes_are f b from)

pub paths_make_up : (entry : FieldEntry) (f : OpenField) (b : FieldBytes) (said : Said) → IsOpenedFrom b f → is_json entry.kind ≡ true
    → FieldSays entry (dictionary_terms f) said → MakeUp b said.entries
paths_make_up entry f b said from json says =
    let (spaces, are, is) = subst (λ (j : Bool). FieldSaysBy j entry (dictionary_terms f) said) json says in
    subst (λ (s : Said). MakeUp b s.entries) (sym is) (spaces_make_up entry f b from spaces are)
