-- Three parts that are checked are a field, and parts that aren't are none.
use Rattle.std.proofs.Common.{◌≡◌, ℕ, ◌-◌, ◌≤◌, true, false, List, [], ◌∷◌, length, drop, map, None, refl, sym, ap, ◌∙◌, arith, subst, slice_range}
use Rattle.std.specs.List.{list_all, AllByRecursion}
use Rattle.std.proofs.lemmas.Bool.{false≢true, and_parts}
use Rattle.std.proofs.lemmas.List.{length-drop, take_all}
use Rattle.seg_common.specs.LittleEndian.{u64_at}
use Rattle.seg_termdict.specs.Dictionary.{Term, IsDictionary, terms_of}
use Rattle.seg_termdict.specs.DictionaryBuilders.{last_term, postings_end, positions_end}
use Rattle.seg_postings.specs.FieldParts.{LiesWithin}
use Rattle.seg_postings.specs.FieldSerializers.{TermWritten}
use Rattle.seg_postings.specs.TermForms.{IsDictionaryOf, has_form, is_formed}
use Rattle.seg_postings.specs.OpenedFields.{FieldRules, IsFieldBy, is_read, IsReadable, OpenField, read_term, dictionary_terms, written_terms}
use Rattle.seg_postings.proofs.DictionaryRanges.{terms_within}
use Rattle.seg_postings.proofs.CheckedFields.{written, reads, reads_all, passes_all}

-- the ranges lie within parts that they fill
pub within_parts : (dictionary postings positions : List ℕ) → IsDictionary dictionary → postings_end (last_term None (terms_of dictionary)) ≡ length postings → positions_end (last_term None (terms_of dictionary)) ≡ length positions → AllByRecursion (LiesWithin (length postings) (length positions)) (terms_of dictionary)
within_parts dictionary postings positions is fill positions_fill =
    subst (λ n. AllByRecursion (LiesWithin n (length positions)) (terms_of dictionary)) fill
    (subst (λ n. AllByRecursion (LiesWithin (postings_end (last_term None (terms_of dictionary))) n) (terms_of dictionary)) positions_fill (terms_within dictionary is))

-- terms that are read have the form of those of the dictionary
all_formed : (rules : FieldRules) (postings positions : List ℕ) (terms : List Term) → list_all (is_formed rules.kind) terms ≡ true → AllByRecursion (λ (t : TermWritten). has_form rules.kind t.bytes ≡ true) (map (written rules postings positions) terms)
all_formed rules postings positions [] e = tt
all_formed rules postings positions (t ∷ terms) e =
    let both = and_parts (is_formed rules.kind t) (list_all (is_formed rules.kind) terms) e in
    (both.0, all_formed rules postings positions terms both.1)

module _ (rules : FieldRules) (dictionary postings positions : List ℕ) where
  pub is_field : IsDictionaryOf rules.kind dictionary → 8 ≤ length postings → postings_end (last_term None (terms_of dictionary)) ≡ length (drop 8 postings) → positions_end (last_term None (terms_of dictionary)) ≡ length positions → list_all (is_read rules (drop 8 postings) positions) (terms_of dictionary) ≡ true
      → IsFieldBy rules dictionary postings positions (u64_at postings 0) (map (written rules (drop 8 postings) positions) (terms_of dictionary))
  is_field is room fill positions_fill good =
      let r = reads_all rules (drop 8 postings) positions (terms_of dictionary) good in
      record {
        spells = record { is_dictionary = is.is_dictionary; room = room; counted = refl; read = r.read; occur = r.occur; postings_fill = fill; positions_fill = positions_fill };
        formed = all_formed rules (drop 8 postings) positions (terms_of dictionary) is.formed;
        kinds = r.kinds;
        low = r.low;
      }

  pub no_field : list_all (is_read rules (drop 8 postings) positions) (terms_of dictionary) ≡ false → (total : ℕ) (terms : List TermWritten) → IsFieldBy rules dictionary postings positions total terms → ⊥
  no_field bad total terms is = false≢true (sym bad ∙ passes_all rules (drop 8 postings) positions (terms_of dictionary) terms is.spells.read is.spells.occur is.kinds is.low)

pub readable : (rules : FieldRules) (postings positions : List ℕ) (terms : List Term) → AllByRecursion (LiesWithin (length postings) (length positions)) terms → list_all (is_read rules postings positions) terms ≡ true → AllByRecursion (IsReadable postings positions) terms
readable rules postings positions [] within good = tt
readable rules postings positions (t ∷ terms) within good =
    let both = and_parts (is_read rules postings positions t) (list_all (is_read rules postings positions) terms) good in
    let here = reads rules postings positions t both.0 in
    (record { within = within.0; read = here.read; occurs = here.number }, readable rules postings positions terms within.1 both.1)

-- ---- what a reader is seen as

pub dictionary_back : (total : ℕ) (postings positions : List ℕ) (terms : List Term) → dictionary_terms (record { total = total; terms = map (read_term postings positions) terms }) ≡ terms
dictionary_back total postings positions [] = refl
dictionary_back total postings positions (t ∷ terms) = ap (λ ts. t ∷ ts) (dictionary_back total postings positions terms)

pub written_back : (rules : FieldRules) (total : ℕ) (postings positions : List ℕ) (terms : List Term) → written_terms (record { total = total; terms = map (read_term postings positions) terms }) ≡ map (written rules postings positions) terms
written_back rules total postings positions [] = refl
written_back rules total postings positions (t ∷ terms) = ap (λ ts. written rules postings positions t ∷ ts) (written_back rules total postings positions terms)

-- ---- the last step

-- the bytes after the total
pub behind_total : (postings body slice : List ℕ) (n : ℕ) → 8 ≤ length postings → n ≡ length postings → slice ≡ slice_range postings 8 n → body ≡ slice → body ≡ drop 8 postings
behind_total postings body slice n room is_length is same =
    same ∙ is ∙ take_all (n - 8) (drop 8 postings) (let rest : length (drop 8 postings) ≡ length postings - 8 = length-drop 8 postings in omega (arith, rest, is_length))

module _ (rules : FieldRules) (dictionary postings positions : List ℕ) (is : IsDictionaryOf rules.kind dictionary) (room : 8 ≤ length postings) (fill : postings_end (last_term None (terms_of dictionary)) ≡ length (drop 8 postings)) (positions_fill : positions_end (last_term None (terms_of dictionary)) ≡ length positions) (body position_bytes : List ℕ) (body_is : body ≡ drop 8 postings) (positions_are : position_bytes ≡ positions) where
  pub lie_within : AllByRecursion (LiesWithin (length body) (length position_bytes)) (terms_of dictionary)
  lie_within = rw (body_is, positions_are) (within_parts dictionary (drop 8 postings) positions is.is_dictionary fill positions_fill)

  pub no_field_by : list_all (is_read rules body position_bytes) (terms_of dictionary) ≡ false → (total : ℕ) (terms : List TermWritten) → IsFieldBy rules dictionary postings positions total terms → ⊥
  no_field_by bad = no_field rules dictionary postings positions (subst (λ b. list_all (is_read rules b positions) (terms_of dictionary) ≡ false) body_is (subst (λ p. list_all (is_read rules body p) (terms_of dictionary) ≡ false) positions_are bad))

  module _ (checked : list_all (is_read rules body position_bytes) (terms_of dictionary) ≡ true) (slice : List ℕ) (terms : List Term) (slice_is : body ≡ slice) (terms_are : terms ≡ terms_of dictionary) where
    passed : list_all (is_read rules (drop 8 postings) positions) (terms_of dictionary) ≡ true
    passed = subst (λ b. list_all (is_read rules b positions) (terms_of dictionary) ≡ true) body_is (subst (λ p. list_all (is_read rules body p) (terms_of dictionary) ≡ true) positions_are checked)

    slice_same : slice ≡ drop 8 postings
    slice_same = sym slice_is ∙ body_is

    pub are_readable : AllByRecursion (IsReadable slice positions) terms
    are_readable = rw (slice_same, terms_are) (readable rules (drop 8 postings) positions (terms_of dictionary) (within_parts dictionary (drop 8 postings) positions is.is_dictionary fill positions_fill) passed)

    module _ (reader : OpenField) (total : ℕ) (reader_is : reader ≡ record { total = total; terms = map (read_term slice positions) terms }) where
      pub opened : total ≡ u64_at postings 0 → IsFieldBy rules dictionary postings positions reader.total (written_terms reader)
      opened total_is = rw (reader_is, total_is, slice_same, terms_are)
          (subst (λ ws. IsFieldBy rules dictionary postings positions (u64_at postings 0) ws) (sym (written_back rules (u64_at postings 0) (drop 8 postings) positions (terms_of dictionary)))
          (is_field rules dictionary postings positions is room fill positions_fill passed))

      pub its_terms : dictionary_terms reader ≡ terms_of dictionary
      its_terms = ap dictionary_terms reader_is ∙ dictionary_back total slice positions terms ∙ terms_are
