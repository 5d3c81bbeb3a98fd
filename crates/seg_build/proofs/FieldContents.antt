-- What values give to their field, one after another.
use Rattle.std.proofs.Common.{◌≡◌, ℕ, ◌+◌, ◌<◌, ◌≤◌, ◌^◌, Bool, true, List, [], ◌∷◌, ◌++◌, map, length, sym, refl, ap, ◌∙◌, subst, arith, length-append}
use Rattle.std.specs.Prelude.{◌&&◌}
use Rattle.std.specs.List.{flat_map}
use Rattle.std.proofs.lemmas.Bool.{and_parts, ltb-true}
use Rattle.std.proofs.lemmas.List.{length-map, map-append}
use Rattle.seg_tokens.specs.declared.token.Token.{Token}
use Rattle.seg_values.specs.declared.schema.FieldKind.{FieldKind}
use Rattle.seg_values.specs.declared.schema.FieldKind.TheVariants.{Text, U64, I64, Bool as Boolean, Date, Facet, Bytes, IpAddr, Json}
use Rattle.seg_values.specs.Tree.{Tree}
use Rattle.seg_model.specs.DocumentCheck.{is_u32, count_of, kind_fits}
use Rattle.seg_model.specs.Leaves as model
use Rattle.seg_model.specs.Norms.{token_count, kind_length}
use Rattle.seg_model.specs.Occurrences.{Occurrence, at_zero, counted, start_after, start_after_all, placed_from, value_tokens, value_terms, text_occurrences, kind_occurrences}
use Rattle.seg_check.specs.IndexedValues.{IndexedContent, tokens, leaves, terms, kind_content}
use Rattle.seg_build.specs.AddedValues.{Starts, first_starts, occurrences_in, count_in, next_starts, length_in, TextsFit}
use Rattle.seg_build.specs.LeafPositions.{after_leaves, leaves_occur}
use Rattle.seg_build.specs.MemoryUsage.{total}
use Rattle.seg_build.proofs.JsonLimits.{path_ends}
use Rattle.seg_build.proofs.ModelLeaves.{contents, contents-append, leaves_occur-append, after_leaves-append, leaves-length, after_leaves-ge, leaves_fit, leaves_occur-model, following-model, reach-ge}

-- the occurrences in some values
abbrev pub occurrences_from : Starts → List IndexedContent → List Occurrence
occurrences_from starts [] = []
occurrences_from starts (c ∷ cs) = occurrences_in starts c ++ occurrences_from (next_starts starts c) cs

-- where texts begin after them
abbrev pub start_after_values : Starts → List IndexedContent → Starts
start_after_values starts [] = starts
start_after_values starts (c ∷ cs) = start_after_values (next_starts starts c) cs

-- and what they add to the length of their field
abbrev pub length_of_values : List IndexedContent → ℕ
length_of_values [] = 0
length_of_values (c ∷ cs) = length_in c + length_of_values cs

pub start_after_values-append : (starts : Starts) (vs ws : List IndexedContent)
    → start_after_values starts (vs ++ ws) ≡ start_after_values (start_after_values starts vs) ws
start_after_values-append starts [] ws = refl
start_after_values-append starts (v ∷ vs) ws = start_after_values-append (next_starts starts v) vs ws

pub length_of_values-append : (vs ws : List IndexedContent) → length_of_values (vs ++ ws) ≡ length_of_values vs + length_of_values ws
length_of_values-append [] ws = omega arith
length_of_values-append (v ∷ vs) ws = omega (arith, length_of_values-append vs ws)

-- ---- where texts begin

-- each text begins after the one before it
pub start_after_all-ge : (start : ℕ) (vs : List (List Token)) → start ≤ start_after_all start vs
start_after_all-ge start [] = omega arith
start_after_all-ge start (v ∷ vs) = omega (arith, reach-ge start (counted v), start_after_all-ge (start_after start v) vs)

here-ge : (starts : Starts) (c : IndexedContent) → starts.here ≤ (next_starts starts c).here
here-ge starts (tokens ts) = omega (arith, reach-ge starts.here (counted ts))
here-ge starts (leaves ls) = omega arith
here-ge starts (terms ts) = omega arith

at-ge : (starts : Starts) (c : IndexedContent) (path : List ℕ) → starts.at path ≤ (next_starts starts c).at path
at-ge starts (tokens ts) path = omega arith
at-ge starts (leaves ls) path = after_leaves-ge starts.at ls path
at-ge starts (terms ts) path = omega arith

-- texts begin at u32s
pub record AreLow (starts : Starts) : Type 0 where
  pub here : starts.here < 2 ^ 32
  pub at : (path : List ℕ) → starts.at path < 2 ^ 32

-- and so before some values, if they do after these
pub low-before : (starts : Starts) (cs : List IndexedContent) → AreLow (start_after_values starts cs) → AreLow starts
low-before starts [] low = low
low-before starts (c ∷ cs) low =
    let next = low-before (next_starts starts c) cs low in
    let here = next.here in
    record {
      here = omega (arith, here-ge starts c, here);
      at = λ path. let at = next.at path in omega (arith, at-ge starts c path, at);
    }

-- the texts of a value end at u32s, if the next ones begin at such
pub texts_fit : (starts : Starts) (c : IndexedContent) → AreLow (next_starts starts c) → TextsFit starts c
texts_fit starts (tokens ts) low = low.here
texts_fit starts (leaves ls) low = leaves_fit starts.at ls low.at
texts_fit starts (terms ts) low = tt

-- ---- how many occurrences there are

length_in_one : (starts : Starts) (c : IndexedContent) → length (occurrences_in starts c) ≡ count_in c
length_in_one starts (tokens ts) = length-map {B = Occurrence} (counted ts) (λ (t : Token). record { bytes = [] ++ t.text; position = starts.here + t.position })
length_in_one starts (leaves ls) = leaves-length starts.at ls
length_in_one starts (terms ts) = length-map ts at_zero

pub length_from : (starts : Starts) (cs : List IndexedContent) → length (occurrences_from starts cs) ≡ total count_in cs
length_from starts [] = refl
length_from starts (c ∷ cs) =
    omega (arith, length-append (occurrences_in starts c) (occurrences_from (next_starts starts c) cs), length_in_one starts c, length_from (next_starts starts c) cs)

-- as many as there are texts' tokens
pub length_texts : (start : ℕ) (vs : List (List Token)) → length (text_occurrences start vs) ≡ count_of vs
length_texts start [] = refl
length_texts start (v ∷ vs) =
    omega (arith, length-append (placed_from start [] v) (text_occurrences (start_after start v) vs), length-map {B = Occurrence} (counted v) (λ (t : Token). record { bytes = [] ++ t.text; position = start + t.position }), length_texts (start_after start v) vs)

-- ---- by the kind of the field

terms_occur : (starts : Starts) (values : List Tree) → occurrences_from starts (map (λ t. terms (value_terms t)) values) ≡ map at_zero (flat_map value_terms values)
terms_occur starts [] = refl
terms_occur starts (t ∷ ts) = ap (λ l. map at_zero (value_terms t) ++ l) (terms_occur starts ts) ∙ sym (map-append at_zero (value_terms t) (flat_map value_terms ts))

terms_length : (values : List Tree) → length_of_values (map (λ t. terms (value_terms t)) values) ≡ length values
terms_length [] = refl
terms_length (t ∷ ts) = omega (arith, terms_length ts)

module _ (expand_dots : Bool) (analyze : List ℕ → List Token) where
  texts_occur : (starts : Starts) (values : List Tree) → occurrences_from starts (map (kind_content Text expand_dots analyze) values) ≡ text_occurrences starts.here (map (value_tokens analyze) values)
  texts_occur starts [] = refl
  texts_occur starts (t ∷ ts) = ap (λ l. placed_from starts.here [] (value_tokens analyze t) ++ l) (texts_occur (next_starts starts (tokens (value_tokens analyze t))) ts)

  -- what JSON values give, each by its leaves
  abbrev json_contents : List Tree → List IndexedContent
  json_contents values = map (kind_content Json expand_dots analyze) values

  leaves_occur-all : (starts : Starts) (values : List Tree) → occurrences_from starts (json_contents values) ≡ leaves_occur starts.at (contents expand_dots analyze (model.leaves_of values))
  leaves_occur-all starts [] = refl
  leaves_occur-all starts (t ∷ ts) =
      let ls = contents expand_dots analyze (model.leaves t) in
      ap (λ l. leaves_occur starts.at ls ++ l) (leaves_occur-all (next_starts starts (leaves ls)) ts)
      ∙ sym (leaves_occur-append starts.at ls (contents expand_dots analyze (model.leaves_of ts)))
      ∙ ap (leaves_occur starts.at) (sym (contents-append expand_dots analyze (model.leaves t) (model.leaves_of ts)))

  -- the occurrences are those of the model
  pub kind_occur : (k : FieldKind) (values : List Tree) → kind_occurrences k expand_dots analyze values ≡ occurrences_from first_starts (map (kind_content k expand_dots analyze) values)
  kind_occur Text values = sym (texts_occur first_starts values)
  kind_occur Json values = sym (leaves_occur-all first_starts values ∙ leaves_occur-model expand_dots analyze [] (model.leaves_of values) (λ path. 0) (λ path. refl))
  kind_occur U64 values = sym (terms_occur first_starts values)
  kind_occur I64 values = sym (terms_occur first_starts values)
  kind_occur Boolean values = sym (terms_occur first_starts values)
  kind_occur Date values = sym (terms_occur first_starts values)
  kind_occur Facet values = sym (terms_occur first_starts values)
  kind_occur Bytes values = sym (terms_occur first_starts values)
  kind_occur IpAddr values = sym (terms_occur first_starts values)

  texts_length : (values : List Tree) → length_of_values (map (kind_content Text expand_dots analyze) values) ≡ token_count analyze values
  texts_length [] = refl
  texts_length (t ∷ ts) = ap (λ n. length (counted (value_tokens analyze t)) + n) (texts_length ts)

  json_length : (values : List Tree) → length_of_values (json_contents values) ≡ 0
  json_length [] = refl
  json_length (t ∷ ts) = omega (arith, json_length ts)

  -- and so is the length
  pub kind_lengths : (k : FieldKind) (values : List Tree) → length_of_values (map (kind_content k expand_dots analyze) values) ≡ kind_length k analyze values
  kind_lengths Text values = texts_length values
  kind_lengths Json values = json_length values
  kind_lengths U64 values = terms_length values
  kind_lengths I64 values = terms_length values
  kind_lengths Boolean values = terms_length values
  kind_lengths Date values = terms_length values
  kind_lengths Facet values = terms_length values
  kind_lengths Bytes values = terms_length values
  kind_lengths IpAddr values = terms_length values

-- ---- limits

-- where texts would begin after some values, and their length, are u32s
pub record AreBounded (contents : List IndexedContent) : Type 0 where
  pub end : AreLow (start_after_values first_starts contents)
  pub len : length_of_values contents < 2 ^ 32

-- the same of texts
pub record AreShort (texts : List (List Token)) : Type 0 where
  pub end : start_after_all 0 texts < 2 ^ 32
  pub count : count_of texts < 2 ^ 32

zero_low : 0 < 2 ^ 32
zero_low = omega arith

terms_end : (starts : Starts) (values : List Tree) → start_after_values starts (map (λ t. terms (value_terms t)) values) ≡ starts
terms_end starts [] = refl
terms_end starts (t ∷ ts) = terms_end starts ts

first_low : AreLow first_starts
first_low = record { here = zero_low; at = λ path. zero_low }

terms_bounded : (values : List Tree) → is_u32 (length values) ≡ true → AreBounded (map (λ t. terms (value_terms t)) values)
terms_bounded values few =
    let small : length values < 2 ^ 32 = ltb-true (length values) (2 ^ 32) few in
    record { end = subst AreLow (sym (terms_end first_starts values)) first_low; len = omega (arith, terms_length values, small) }

module _ (expand_dots : Bool) (analyze : List ℕ → List Token) where
  texts_end : (starts : Starts) (values : List Tree) → start_after_values starts (map (kind_content Text expand_dots analyze) values) ≡ record { here = start_after_all starts.here (map (value_tokens analyze) values); at = starts.at }
  texts_end starts [] = refl
  texts_end starts (t ∷ ts) = texts_end (next_starts starts (tokens (value_tokens analyze t))) ts

  pub count_of_texts : (values : List Tree) → count_of (map (value_tokens analyze) values) ≡ token_count analyze values
  count_of_texts [] = refl
  count_of_texts (t ∷ ts) = ap (λ n. length (counted (value_tokens analyze t)) + n) (count_of_texts ts)

  pub short_texts : (values : List Tree) → kind_fits Text expand_dots analyze values ≡ true → AreShort (map (value_tokens analyze) values)
  short_texts values fits =
      let texts = map (value_tokens analyze) values in
      let both = and_parts (is_u32 (start_after_all 0 texts)) (is_u32 (count_of texts)) (and_parts (is_u32 (start_after_all 0 texts) && is_u32 (count_of texts)) (is_u32 (length texts)) fits).0 in
      record { end = ltb-true (start_after_all 0 texts) (2 ^ 32) both.0; count = ltb-true (count_of texts) (2 ^ 32) both.1 }

  leaves_end : (starts : Starts) (values : List Tree) → start_after_values starts (json_contents expand_dots analyze values) ≡ record { here = starts.here; at = after_leaves starts.at (contents expand_dots analyze (model.leaves_of values)) }
  leaves_end starts [] = refl
  leaves_end starts (t ∷ ts) =
      let ls = contents expand_dots analyze (model.leaves t) in
      leaves_end (next_starts starts (leaves ls)) ts
      ∙ ap (λ (f : List ℕ → ℕ). record { here = starts.here; at = f }) (
      sym (after_leaves-append starts.at ls (contents expand_dots analyze (model.leaves_of ts)))
      ∙ ap (after_leaves starts.at) (sym (contents-append expand_dots analyze (model.leaves t) (model.leaves_of ts))))

  json_low : (values : List Tree) → kind_fits Json expand_dots analyze values ≡ true → AreLow (start_after_values first_starts (json_contents expand_dots analyze values))
  json_low values fits = subst AreLow (sym (leaves_end first_starts values)) (record {
    here = zero_low;
    at = λ path. subst (λ n. n < 2 ^ 32) (sym (following-model expand_dots analyze [] (model.leaves_of values) (λ path. 0) (λ path. refl) path)) (path_ends expand_dots analyze values fits path);
  })

  -- values that are within the limits are bounded
  pub kind_bounded : (k : FieldKind) (values : List Tree) → (is_u32 (length values) && kind_fits k expand_dots analyze values) ≡ true → AreBounded (map (kind_content k expand_dots analyze) values)
  kind_bounded Text values fits =
      let short = short_texts values (and_parts (is_u32 (length values)) (kind_fits Text expand_dots analyze values) fits).1 in
      let count = short.count in
      record {
        end = subst AreLow (sym (texts_end first_starts values)) (record { here = short.end; at = λ path. zero_low });
        len = omega (arith, texts_length expand_dots analyze values, count_of_texts values, count);
      }
  kind_bounded Json values fits = record {
    end = json_low values (and_parts (is_u32 (length values)) (kind_fits Json expand_dots analyze values) fits).1;
    len = subst (λ n. n < 2 ^ 32) (sym (json_length expand_dots analyze values)) zero_low;
  }
  kind_bounded U64 values fits = terms_bounded values (and_parts (is_u32 (length values)) true fits).0
  kind_bounded I64 values fits = terms_bounded values (and_parts (is_u32 (length values)) true fits).0
  kind_bounded Boolean values fits = terms_bounded values (and_parts (is_u32 (length values)) true fits).0
  kind_bounded Date values fits = terms_bounded values (and_parts (is_u32 (length values)) true fits).0
  kind_bounded Facet values fits = terms_bounded values (and_parts (is_u32 (length values)) true fits).0
  kind_bounded Bytes values fits = terms_bounded values (and_parts (is_u32 (length values)) true fits).0
  kind_bounded IpAddr values fits = terms_bounded values (and_parts (is_u32 (length values)) true fits).0
