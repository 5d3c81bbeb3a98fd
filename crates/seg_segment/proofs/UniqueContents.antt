-- The files of a segment spell at most one contents.
use Rattle.std.proofs.Common.{◌≡◌, ℕ, zero, suc, ◌+◌, Bool, true, false, cond, List, [], ◌∷◌, ◌++◌, map, Some, None, Option, length, sym, refl, ap, ◌∙◌, subst, arith}
use Rattle.std.specs.Prelude.{is_some}
use Rattle.std.specs.FinMap.{get, empty, same_map, same_entries_map}
use Rattle.std.specs.List.{slice_get, slice_index_or, flat_map, enumerate_from}
use Rattle.std.specs.Option.{option_map}
use Rattle.std.proofs.lemmas.Bool.{false≢true}
use Rattle.std.proofs.lemmas.Cmp.{nat_list_cmp_total}
use Rattle.std.proofs.lemmas.Option.{same_Some}
use Rattle.seg_common.proofs.TabulatedMaps.{texts_apart}
use Rattle.seg_values.specs.declared.schema.FieldEntry.{FieldEntry}
use Rattle.seg_model.specs.Contents.{Contents}
use Rattle.seg_model.specs.Fields.{Schema, is_indexed, has_lengths}
use Rattle.seg_model.specs.DocumentTerms.{Terms}
use Rattle.seg_model.specs.Shape.{HasFullShape}
use Rattle.seg_directory.specs.CompositeFiles as parts
use Rattle.seg_directory.specs.CompositeFiles.{composite, field_of}
use Rattle.seg_store.specs.Store.{store_of, documents_of}
use Rattle.seg_postings.specs.Field.{IsField}
use Rattle.seg_norms.specs.FieldNorms.{norms_parts}
use Rattle.seg_postings.specs.FieldSerializers.{TermWritten}
use Rattle.seg_segment.specs.TermFiles.{HoldsField, HoldTerms}
use Rattle.seg_segment.specs.Laws.{FilesSpellOneContents}

-- what is there is one
pub one : {X : Type 0} (o : Option X) (x y : X) → o ≡ Some x → o ≡ Some y → x ≡ y
one o x y p q = same_Some x y (sym p ∙ q)

-- ---- lists by the fields of a schema

module _ {X : Type 0} (d : X) where
  -- lists that have as many places as a schema, and the same at each
  by_fields : (as' bs : List X) (schema : Schema) → length as' ≡ length schema → length bs ≡ length schema → ((i : ℕ) (e : FieldEntry) → slice_get schema i ≡ Some e → slice_index_or as' i d ≡ slice_index_or bs i d) → as' ≡ bs
  by_fields [] [] schema la lb h = refl
  by_fields [] (b ∷ bs) [] la lb h = absurd (let z : ⊥ = omega (arith, lb) in z)
  by_fields [] (b ∷ bs) (e ∷ es) la lb h = absurd (let z : ⊥ = omega (arith, la) in z)
  by_fields (a ∷ as') [] [] la lb h = absurd (let z : ⊥ = omega (arith, la) in z)
  by_fields (a ∷ as') [] (e ∷ es) la lb h = absurd (let z : ⊥ = omega (arith, lb) in z)
  by_fields (a ∷ as') (b ∷ bs) [] la lb h = absurd (let z : ⊥ = omega (arith, la) in z)
  by_fields (a ∷ as') (b ∷ bs) (e ∷ es) la lb h =
      let first : a ≡ b = h 0 e refl in
      let rest = by_fields as' bs es (omega (arith, la)) (omega (arith, lb)) (λ i x at. h (suc i) x at) in
      λ j. first j ∷ rest j

-- ---- terms

-- bytes spell one list of terms
one_list : (dictionary postings positions : List ℕ) (total other : ℕ) (xs ys : List TermWritten) → IsField dictionary postings positions total xs → IsField dictionary postings positions other ys → xs ≡ ys
one_list dictionary postings positions total other xs ys h k = one _ xs ys h.read k.read

module _ (entry : FieldEntry) (f : ℕ) (terms postings positions : List parts.Part) where
  -- the parts of a field spell one list of terms
  one_field : (x y : Terms) → HoldsField entry f terms postings positions x → HoldsField entry f terms postings positions y → x ≡ y
  one_field x y h k =
      let dictionary = one (field_of terms f) h.dictionary k.dictionary h.in_terms k.in_terms in
      let posting = one (field_of postings f) h.postings_part k.postings_part h.in_postings k.in_postings in
      let position = one (field_of positions f) h.positions_part k.positions_part h.in_positions k.in_positions in
      let spells = subst (λ d. IsField d h.postings_part h.positions_part k.total k.written) (sym dictionary)
      (subst (λ p. IsField k.dictionary p h.positions_part k.total k.written) (sym posting)
      (subst (λ p. IsField k.dictionary k.postings_part p k.total k.written) (sym position) k.spells)) in
      let written = one_list h.dictionary h.postings_part h.positions_part h.total k.total h.written k.written h.spells spells in
      same_entries_map x y (sym h.are ∙ ap (map (λ (t : TermWritten). (t.bytes, t.postings))) written ∙ k.are)

-- the three files spell the terms of each indexed field once
one_indexed : (schema : Schema) (terms postings positions : List ℕ) (xs ys : List Terms) (f : ℕ) (entry : FieldEntry) → slice_get schema f ≡ Some entry → is_indexed entry ≡ true → HoldTerms schema terms postings positions xs → HoldTerms schema terms postings positions ys → slice_index_or xs f empty ≡ slice_index_or ys f empty
one_indexed schema terms postings positions xs ys f entry at on h k =
    let same_terms = one (composite terms) k.term_parts h.term_parts k.term_file h.term_file in
    let same_postings = one (composite postings) k.posting_parts h.posting_parts k.posting_file h.posting_file in
    let same_positions = one (composite positions) k.position_parts h.position_parts k.position_file h.position_file in
    one_field entry f h.term_parts h.posting_parts h.position_parts (slice_index_or xs f empty) (slice_index_or ys f empty) (h.each f entry at on)
    (subst (λ p. HoldsField entry f p h.posting_parts h.position_parts (slice_index_or ys f empty)) same_terms
    (subst (λ p. HoldsField entry f k.term_parts p h.position_parts (slice_index_or ys f empty)) same_postings
    (subst (λ p. HoldsField entry f k.term_parts k.posting_parts p (slice_index_or ys f empty)) same_positions (k.each f entry at on))))

-- maps without a term
both_empty : (x y : Terms) → ((term : List ℕ) → get x term ≡ None) → ((term : List ℕ) → get y term ≡ None) → x ≡ y
both_empty x y h k = same_map nat_list_cmp_total texts_apart x y (λ q. h q ∙ sym (k q))

-- ---- lengths

-- the fields with lengths, of which the first is `n`
abbrev pub selected : ℕ → Schema → List ℕ
selected n schema = flat_map (λ (f : ℕ × FieldEntry). cond (has_lengths f.1) (f.0 ∷ []) []) (enumerate_from n schema)

heads : {X : Type 0} (x y : X) (xs ys : List X) → (let l : List X = x ∷ xs in l) ≡ y ∷ ys → x ≡ y
heads x y xs ys e = cc

tails : {X : Type 0} (x y : X) (xs ys : List X) → (let l : List X = x ∷ xs in l) ≡ y ∷ ys → xs ≡ ys
tails x y xs ys e = cc

module _ {X : Type 0} (F G : ℕ → X) where
  later : (b : Bool) (n : ℕ) (rest : List ℕ) → map F (cond b (n ∷ []) [] ++ rest) ≡ map G (cond b (n ∷ []) [] ++ rest) → map F rest ≡ map G rest
  later true n rest h = tails (F n) (G n) (map F rest) (map G rest) h
  later false n rest h = h

  ahead : (b : Bool) (n : ℕ) (rest : List ℕ) → b ≡ true → map F (cond b (n ∷ []) [] ++ rest) ≡ map G (cond b (n ∷ []) [] ++ rest) → F n ≡ G n
  ahead true n rest on h = heads (F n) (G n) (map F rest) (map G rest) h
  ahead false n rest on h = absurd (false≢true on)

  -- what is the same for each field with lengths is the same for one
  at_selected : (n i : ℕ) (schema : Schema) (e : FieldEntry) → slice_get schema i ≡ Some e → has_lengths e ≡ true → map F (selected n schema) ≡ map G (selected n schema) → F (n + i) ≡ G (n + i)
  at_selected n i [] e at on h = absurd (false≢true (ap is_some at))
  at_selected n zero (x ∷ xs) e at on h =
      ap F (omega arith) ∙ ahead (has_lengths x) n (selected (n + 1) xs) (ap has_lengths (same_Some x e at) ∙ on) h ∙ ap G (omega arith)
  at_selected n (suc i) (x ∷ xs) e at on h =
      ap F (omega arith) ∙ at_selected (n + 1) i xs e at on (later (has_lengths x) n (selected (n + 1) xs) h) ∙ ap G (omega arith)

one_norms : (schema : Schema) (xs ys : List (List ℕ)) (i : ℕ) (e : FieldEntry) → slice_get schema i ≡ Some e → has_lengths e ≡ true → norms_parts schema xs ≡ norms_parts schema ys → slice_index_or xs i [] ≡ slice_index_or ys i []
one_norms schema xs ys i e at on h =
    let same = at_selected (λ f. (f, slice_index_or xs f [])) (λ f. (f, slice_index_or ys f [])) 0 i schema e at on h in
    subst (λ n. slice_index_or xs n [] ≡ slice_index_or ys n []) (omega arith) (ap (λ (p : parts.Part). p.1) same)

-- ---- contents

module _ (schema : Schema) (a b : Contents) (ha : HasFullShape schema a) (hb : HasFullShape schema b) where
  same_terms : (terms postings positions : List ℕ) → HoldTerms schema terms postings positions a.terms → HoldTerms schema terms postings positions b.terms → a.terms ≡ b.terms
  same_terms terms postings positions h k = by_fields empty a.terms b.terms schema ha.terms_per_field hb.terms_per_field (λ i e at. by i e at (is_indexed e) refl)
    where
      by : (i : ℕ) (e : FieldEntry) → slice_get schema i ≡ Some e → (indexed : Bool) → is_indexed e ≡ indexed → slice_index_or a.terms i empty ≡ slice_index_or b.terms i empty
      by i e at true on = one_indexed schema terms postings positions a.terms b.terms i e at on h k
      by i e at false off = both_empty _ _ (ha.no_terms i e at off) (hb.no_terms i e at off)

  same_norms : norms_parts schema a.norms ≡ norms_parts schema b.norms → a.norms ≡ b.norms
  same_norms h = by_fields [] a.norms b.norms schema ha.norms_per_field hb.norms_per_field (λ i e at. by i e at (has_lengths e) refl)
    where
      by : (i : ℕ) (e : FieldEntry) → slice_get schema i ≡ Some e → (lengths : Bool) → has_lengths e ≡ lengths → slice_index_or a.norms i [] ≡ slice_index_or b.norms i []
      by i e at true on = one_norms schema a.norms b.norms i e at on h
      by i e at false off = ha.no_norms i e at off ∙ sym (hb.no_norms i e at off)

same_contents : (a b : Contents) → a.documents ≡ b.documents → a.terms ≡ b.terms → a.stored ≡ b.stored → a.norms ≡ b.norms → a.columns ≡ b.columns → a ≡ b
same_contents a b documents terms stored norms columns = λ j. record { documents = documents j; terms = terms j; stored = stored j; norms = norms j; columns = columns j }

pub one_spelled : FilesSpellOneContents
one_spelled schema files a b h k =
    same_contents a b
    (sym h.columns.rows ∙ k.columns.rows)
    (same_terms schema a b h.shape k.shape files.terms files.postings files.positions h.hold_terms k.hold_terms)
    (one (option_map documents_of (store_of files.store)) a.stored b.stored h.stored k.stored)
    (same_norms schema a b h.shape k.shape (one (composite files.field_norms) (norms_parts schema a.norms) (norms_parts schema b.norms) h.norm_parts k.norm_parts))
    (sym h.columns.are ∙ k.columns.are)
