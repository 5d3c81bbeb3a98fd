-- The kind with which the postings of a term begin.
use Rattle.std.proofs.Common.{◌≡◌, ◌≢◌, ℕ, zero, suc, true, false, List, [], ◌∷◌, Option, Some, None, refl, sym, ap, ◌∙◌}
use Rattle.std.specs.Prelude.{nat_eq, option_map, option_and_then}
use Rattle.std.proofs.lemmas.Bool.{ne_eqb}
use Rattle.seg_model.specs.DocumentTerms.{Posting}
use Rattle.seg_postings.specs.declared.record_kind.RecordKind.{RecordKind}
use Rattle.seg_postings.specs.declared.record_kind.RecordKind.TheVariants.{Documents, Counts, Positions}
use Rattle.seg_postings.specs.RecordKinds.{kind_byte, kind_of_byte}
use Rattle.seg_postings.specs.Postings.{term_postings, postings_of_kind}
use Rattle.seg_postings.specs.RemainingPostings.{postings_at, are_low, is_term_of}

pub kind_back : (kind : RecordKind) → kind_of_byte (kind_byte kind) ≡ Some kind
kind_back Documents = refl
kind_back Counts = refl
kind_back Positions = refl

-- the kind of a byte has this byte
has_byte : (byte : ℕ) (kind : RecordKind) → kind_of_byte byte ≡ Some kind → kind_byte kind ≡ byte
has_byte zero kind e = let same : kind ≡ Documents = cc in rw same refl
has_byte (suc zero) kind e = let same : kind ≡ Counts = cc in rw same refl
has_byte (suc (suc zero)) kind e = let same : kind ≡ Positions = cc in rw same refl
has_byte (suc (suc (suc byte))) kind e = absurd cc

pub no_bytes : (kind : RecordKind) (max_doc count : ℕ) (bytes qs : List ℕ) → bytes ≡ [] → is_term_of kind max_doc (term_postings count bytes qs) ≡ false
no_bytes kind max_doc count bytes qs e = rw e refl

module _ (kind : RecordKind) (max_doc count first : ℕ) (bytes rest qs : List ℕ) (front : bytes ≡ first ∷ rest) where
  front_is : is_term_of kind max_doc (term_postings count bytes qs) ≡ is_term_of kind max_doc (option_and_then (postings_of_kind count rest qs) (kind_of_byte first))
  front_is = ap (λ bs. is_term_of kind max_doc (term_postings count bs qs)) front

  pub other_kind : first ≢ kind_byte kind → is_term_of kind max_doc (term_postings count bytes qs) ≡ false
  unfolding postings_at
  other_kind other = front_is ∙ by_kind (kind_of_byte first) refl
    where
      by_postings : (k : RecordKind) (o : Option (List Posting)) → kind_byte k ≡ first → is_term_of kind max_doc (option_map (λ ps. record { kind = k; postings = ps }) o) ≡ false
      by_postings k None e = refl
      by_postings k (Some ps) e = rw (ne_eqb (kind_byte k) (kind_byte kind) (λ same. other (sym e ∙ same))) refl

      by_kind : (o : Option RecordKind) → kind_of_byte first ≡ o → is_term_of kind max_doc (option_and_then (postings_of_kind count rest qs) o) ≡ false
      by_kind None e = refl
      by_kind (Some k) e = by_postings k (postings_at k count 0 0 rest qs) (has_byte first k e)

  itself : (k : RecordKind) → nat_eq (kind_byte k) (kind_byte k) ≡ true
  itself Documents = refl
  itself Counts = refl
  itself Positions = refl

  pub same_kind : first ≡ kind_byte kind → is_term_of kind max_doc (term_postings count bytes qs) ≡ are_low max_doc (postings_at kind count 0 0 rest qs)
  unfolding postings_at
  same_kind same = front_is ∙ ap (λ o. is_term_of kind max_doc (option_and_then (postings_of_kind count rest qs) o)) (ap kind_of_byte same ∙ kind_back kind) ∙ by_postings (postings_at kind count 0 0 rest qs)
    where
      by_postings : (o : Option (List Posting)) → is_term_of kind max_doc (option_map (λ ps. record { kind = kind; postings = ps }) o) ≡ are_low max_doc o
      by_postings None = refl
      by_postings (Some ps) = rw (itself kind) refl
