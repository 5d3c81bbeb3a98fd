-- The terms of a field that is open, in contents of full shape.
use Rattle.std.proofs.Common.{◌≡◌, ℕ, ◌<◌, Bool, true, List, [], ◌∷◌, map, length, get_or, Option, Some, None, refl, sym, ap, subst, ◌∙◌, arith}
use Rattle.std.specs.Prelude.{is_some, IfSome}
use Rattle.std.specs.FinMap.{empty, entries, get, get-entries}
use Rattle.std.specs.FinMap.Entries.{is_some-find}
use Rattle.std.specs.List.{list_all, list_any, slice_get}
use Rattle.std.specs.Ordering.{eq_by_cmp, nat_cmp}
use Rattle.std.specs.Cmp.Lexicographic.{slice_cmp}
use Rattle.std.proofs.lemmas.Bool.{and_from, false≢true, or_left, or_right}
use Rattle.std.proofs.lemmas.List.{get_or-map, length-map}
use Rattle.std.proofs.lemmas.Option.{get_or_from_slice_get, slice_get-get_or, slice_get_within}
use Rattle.seg_common.proofs.Bytes.{eq_by_cmp-itself}
use Rattle.seg_values.specs.declared.schema.FieldEntry.{FieldEntry}
use Rattle.seg_values.specs.declared.schema.FieldKind.{FieldKind}
use Rattle.seg_values.specs.declared.schema.FieldKind.TheVariants.{Json}
use Rattle.seg_model.specs.Contents.{Contents, terms_at}
use Rattle.seg_model.specs.Fields.{Schema, is_indexed, is_json}
use Rattle.seg_model.specs.DocumentTerms.{Posting, Terms}
use Rattle.seg_model.specs.Shape.{HasFullShape, IsTermWith}
use Rattle.seg_postings.specs.OpenedFields.{OpenField, ReadTerm, dictionary_terms, written_terms}
use Rattle.seg_postings.specs.TermMaps.{terms_held}
use Rattle.seg_postings.specs.TermForms.{has_form, is_formed}
use Rattle.seg_postings.proofs.Exports.{form_of_term}
use Rattle.seg_open.specs.OpenSegment.{terms_in}

-- ---- terms of a map

abbrev is_among : List ℕ → List (List ℕ) → Bool
is_among term keys = list_any (eq_by_cmp (slice_cmp nat_cmp) term) keys

key_formed : (entry : FieldEntry) (documents : ℕ) (m : Terms)
    → ((term : List ℕ) (ps : List Posting) → get m term ≡ Some ps → IsTermWith entry documents term ps)
    → (term : List ℕ) → is_among term (map (λ (e : List ℕ × List Posting). e.0) (entries m)) ≡ true → has_form entry.kind term ≡ true
key_formed entry documents m shape term there = by (get m term) refl
  where
    by : (o : Option (List Posting)) → get m term ≡ o → has_form entry.kind term ≡ true
    by None none =
        absurd (false≢true (ap is_some (sym none) ∙ ap is_some (get-entries m term) ∙ is_some-find (slice_cmp nat_cmp) term (entries m) ∙ there))
    by (Some ps) found = form_of_term entry term (shape term ps found).form

all_formed : (kind : FieldKind) (rs : List ReadTerm)
    → ((term : List ℕ) → is_among term (map (λ (r : ReadTerm). r.bytes) rs) ≡ true → has_form kind term ≡ true)
    → list_all (is_formed kind) (map (λ (r : ReadTerm). (r.bytes, r.info)) rs) ≡ true
all_formed kind [] form = refl
all_formed kind (r ∷ rs) form =
    and_from (has_form kind r.bytes) (list_all (is_formed kind) (map (λ (x : ReadTerm). (x.bytes, x.info)) rs))
    (form r.bytes (or_left _ (is_among r.bytes (map (λ (x : ReadTerm). x.bytes) rs)) (eq_by_cmp-itself r.bytes)))
    (all_formed kind rs (λ term there. form term (or_right (eq_by_cmp (slice_cmp nat_cmp) term r.bytes) _ there)))

keys_are : (m : Terms) (rs : List ReadTerm) → entries m ≡ map (λ (r : ReadTerm). (r.bytes, r.postings)) rs
    → map (λ (e : List ℕ × List Posting). e.0) (entries m) ≡ map (λ (r : ReadTerm). r.bytes) rs
keys_are m rs are = ap (map (λ (e : List ℕ × List Posting). e.0)) are ∙ firsts rs
  where
    firsts : (xs : List ReadTerm) → map (λ (e : List ℕ × List Posting). e.0) (map (λ (r : ReadTerm). (r.bytes, r.postings)) xs) ≡ map (λ (r : ReadTerm). r.bytes) xs
    firsts [] = refl
    firsts (x ∷ xs) = ap (λ (l : List (List ℕ)). x.bytes ∷ l) (firsts xs)

kind_is_json : (kind : FieldKind) → is_json kind ≡ true → kind ≡ Json
kind_is_json Json json = refl
kind_is_json other json = absurd (false≢true json)

-- ---- the same place of two lists

at_place : {X Y : Type 0} (p : X → Bool) (q : Y → Bool) (xs : List X) (ys : List Y) (i : ℕ) (x : X) (y : Y) → map p xs ≡ map q ys
    → slice_get xs i ≡ Some x → slice_get ys i ≡ Some y → p x ≡ q y
at_place p q xs ys i x y same x_there y_there =
    sym (get_or-map p xs i x true (slice_get_within xs i x x_there) ∙ ap p (get_or_from_slice_get xs i x x x_there))
    ∙ ap (λ (l : List Bool). get_or l i true) same
    ∙ get_or-map q ys i y true (slice_get_within ys i y y_there)
    ∙ ap q (get_or_from_slice_get ys i y y y_there)

module _ (schema : Schema) (fields : List (Option OpenField)) (place : ℕ) (entry : FieldEntry)
    (open_where : map is_some fields ≡ map is_indexed schema) (there : slice_get schema place ≡ Some entry) where
  as_many : length fields ≡ length schema
  as_many = sym (length-map fields is_some) ∙ ap length open_where ∙ length-map schema is_indexed

  pub none_open : IfSome (slice_get fields place) (λ (o : Option OpenField). o ≡ None) → slice_get fields place ≡ Some None
  none_open none =
      let lt : place < length fields = omega (arith, slice_get_within schema place entry there, as_many) in
      let here : slice_get fields place ≡ Some (get_or fields place None) = slice_get-get_or fields place None lt in
      here ∙ ap (λ (o : Option OpenField). Some o)
      (subst (λ (s : Option (Option OpenField)). IfSome s (λ (o : Option OpenField). o ≡ None)) here none)

  module _ (f : OpenField) (opened : slice_get fields place ≡ Some (Some f)) where
    indexed : is_indexed entry ≡ true
    indexed = sym (at_place is_some is_indexed fields schema place (Some f) entry open_where opened there)

    terms_are : get_or (map terms_in fields) place empty ≡ terms_held (written_terms f)
    terms_are =
        get_or-map terms_in fields place None empty (slice_get_within fields place (Some f) opened)
        ∙ ap terms_in (get_or_from_slice_get fields place (Some f) None opened)

    -- those of a JSON field have its form
    pub terms_formed : (contents : Contents) → contents.terms ≡ map terms_in fields → HasFullShape schema contents
        → entries (terms_held (written_terms f)) ≡ map (λ (r : ReadTerm). (r.bytes, r.postings)) f.terms
        → is_json entry.kind ≡ true → list_all (is_formed Json) (dictionary_terms f) ≡ true
    terms_formed contents are_terms shape ascend json =
        let held : terms_at contents place ≡ terms_held (written_terms f) =
        ap (λ (ts : List Terms). get_or ts place empty) are_terms ∙ terms_are in
        let form = key_formed entry contents.documents (terms_held (written_terms f))
        (subst (λ (m : Terms). (term : List ℕ) (ps : List Posting) → get m term ≡ Some ps → IsTermWith entry contents.documents term ps) held
        (shape.terms place entry there indexed)) in
        subst (λ (k : FieldKind). list_all (is_formed k) (dictionary_terms f) ≡ true) (kind_is_json entry.kind json)
        (all_formed entry.kind f.terms
        (λ term among. form term (ap (is_among term) (keys_are (terms_held (written_terms f)) f.terms ascend) ∙ among)))
