-- Terms as their fields record them: their bytes, and their postings.
use Rattle.std.proofs.Common.{◌≡◌, ℕ, zero, suc, List, [], ◌∷◌, length, Some, sym, refl, ap, ◌∙◌, subst}
use Rattle.std.specs.Prelude.{is_some, IsSomeAnd}
use Rattle.std.specs.List.{slice_get}
use Rattle.std.specs.Map.{keys_of, values_of}
use Rattle.std.proofs.lemmas.Bool.{false≢true}
use Rattle.std.proofs.lemmas.List.{length-map}
use Rattle.std.proofs.lemmas.Option.{same_Some}
use Rattle.seg_model.specs.DocumentTerms.{Posting}
use Rattle.seg_postings.specs.declared.asked_kind.AskedKind.{AskedKind}
use Rattle.seg_terms.specs.TermEntries.{TermEntries}
use Rattle.seg_build.specs.FieldTerms.{FieldTerms, kind_in, postings_as, entries_as}

keys_as : (asked : AskedKind) (es : TermEntries) → keys_of (entries_as asked es) ≡ keys_of es
keys_as asked [] = refl
keys_as asked (e ∷ es) = ap (λ ks. e.0 ∷ ks) (keys_as asked es)

-- a term at a place has these postings, as its kind keeps them
abbrev pub HasPostings : FieldTerms → ℕ → List Posting → Type 0
HasPostings field i ps = IsSomeAnd (slice_get field.terms i) (λ e. e.1 ≡ postings_as (kind_in field.asked e.0) ps)

value_as : (asked : AskedKind) (es : TermEntries) (i : ℕ) (ps : List Posting) → slice_get (values_of es) i ≡ Some ps → HasPostings (record { asked = asked; terms = entries_as asked es }) i ps
value_as asked [] i ps at = absurd (false≢true (ap is_some at))
value_as asked (e ∷ es) zero ps at = ap (postings_as (kind_in asked e.0)) (same_Some e.1 ps at)
value_as asked (e ∷ es) (suc i) ps at = value_as asked es i ps at

-- its bytes say which
pub value_there : (asked : AskedKind) (es : TermEntries) (i : ℕ) (bytes : List ℕ) (ps : List Posting) → slice_get (keys_of es) i ≡ Some bytes → HasPostings (record { asked = asked; terms = es }) i ps → slice_get (values_of es) i ≡ Some (postings_as (kind_in asked bytes) ps)
value_there asked [] i bytes ps at has = absurd has
value_there asked (e ∷ es) zero bytes ps at has = ap Some (has ∙ ap (λ q. postings_as (kind_in asked q) ps) (same_Some e.0 bytes at))
value_there asked (e ∷ es) (suc i) bytes ps at has = value_there asked es i bytes ps at has

-- the terms of a field, as they are asked for
module _ (asked : AskedKind) (terms : TermEntries) (now : FieldTerms)
    (same : record { asked = asked; terms = entries_as asked terms } ≡ now) where
  pub as_many : length terms ≡ length now.terms
  as_many = sym (length-map terms (λ e. (e.0, postings_as (kind_in asked e.0) e.1))) ∙ ap (λ (f : FieldTerms). length f.terms) same

  pub bytes_of_place : (i : ℕ) (bytes : List ℕ) → slice_get (keys_of terms) i ≡ Some bytes
      → slice_get (keys_of now.terms) i ≡ Some bytes
  bytes_of_place i bytes at =
      ap (λ (f : FieldTerms). slice_get (keys_of f.terms) i) (sym same)
      ∙ ap (λ ks. slice_get ks i) (keys_as asked terms)
      ∙ at

  pub postings_of_place : (i : ℕ) (ps : List Posting) → slice_get (values_of terms) i ≡ Some ps → HasPostings now i ps
  postings_of_place i ps at = subst (λ (f : FieldTerms). HasPostings f i ps) same (value_as asked terms i ps at)
