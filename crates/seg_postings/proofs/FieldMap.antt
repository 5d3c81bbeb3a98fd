-- The terms of an open field are those of a map.
use Rattle.std.proofs.Common.{◌≡◌, ℕ, T, List, [], ◌∷◌, map, refl, sym, ap, ◌∙◌, subst}
use Rattle.std.specs.FinMap.{entries, is_sorted, entries-from_sorted}
use Rattle.std.specs.List.Sorted.{IsStrictlySortedBy}
use Rattle.std.specs.Ordering.{nat_cmp}
use Rattle.std.specs.Cmp.Lexicographic.{slice_cmp}
use Rattle.seg_values.proofs.Exports.{is_sorted-rising}
use Rattle.seg_model.specs.DocumentTerms.{Posting}
use Rattle.seg_termdict.specs.Dictionary.{Term}
use Rattle.seg_postings.specs.OpenedFields.{OpenField, ReadTerm, read_term, written_terms}
use Rattle.seg_postings.specs.FieldSerializers.{TermWritten}
use Rattle.seg_postings.specs.TermMaps.{terms_held}

-- a term with its postings
abbrev pair_of : ReadTerm → List ℕ × List Posting
pair_of t = (t.bytes, t.postings)

same_pairs : (ts : List ReadTerm) (total : ℕ) → map (λ (t : TermWritten). (t.bytes, t.postings)) (written_terms (record { total = total; terms = ts })) ≡ map pair_of ts
same_pairs [] total = refl
same_pairs (t ∷ ts) total = ap (λ ps. pair_of t ∷ ps) (same_pairs ts total)

same_bytes : (postings positions : List ℕ) (ts : List Term) → map (λ (e : List ℕ × List Posting). e.0) (map pair_of (map (read_term postings positions) ts)) ≡ map (λ (t : Term). t.0) ts
same_bytes postings positions [] = refl
same_bytes postings positions (t ∷ ts) = ap (λ ks. t.0 ∷ ks) (same_bytes postings positions ts)

pub map_of_field : (self : OpenField) (total : ℕ) (postings positions : List ℕ) (terms : List Term) → record { total = total; terms = map (read_term postings positions) terms } ≡ self → IsStrictlySortedBy (slice_cmp nat_cmp) (map (λ (t : Term). t.0) terms) → entries (terms_held (written_terms self)) ≡ map (λ (t : ReadTerm). (t.bytes, t.postings)) self.terms
map_of_field self total postings positions terms view rise =
    let ts = map (read_term postings positions) terms in
    let ps = map pair_of ts in
    let keys = subst (IsStrictlySortedBy (slice_cmp nat_cmp)) (sym (same_bytes postings positions terms)) rise in
    let sorted : T (is_sorted (slice_cmp nat_cmp) ps) = subst T (sym (is_sorted-rising ps keys)) tt in
    let same = same_pairs ts total in
    let all : T (is_sorted (slice_cmp nat_cmp) (map (λ (t : TermWritten). (t.bytes, t.postings)) (written_terms (record { total = total; terms = ts })))) = subst (λ xs. T (is_sorted (slice_cmp nat_cmp) xs)) (sym same) sorted in
    subst (λ (f : OpenField). entries (terms_held (written_terms f)) ≡ map (λ (t : ReadTerm). (t.bytes, t.postings)) f.terms) view
    (entries-from_sorted (slice_cmp nat_cmp) (map (λ (t : TermWritten). (t.bytes, t.postings)) (written_terms (record { total = total; terms = ts }))) all ∙ same)
