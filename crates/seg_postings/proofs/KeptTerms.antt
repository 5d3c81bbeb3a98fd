-- The terms of a field that is read, as a map.
use Rattle.std.proofs.Common.{◌≡◌, ℕ, ◌<◌, Bool, true, false, cond, T, List, [], ◌∷◌, map, length, slice_range, Some, refl, sym, ap, ◌∙◌, subst}
use Rattle.std.specs.FinMap.{find, is_sorted, entries-from_sorted, get-from_sorted}
use Rattle.std.specs.List.{list_all, AllByRecursion}
use Rattle.std.specs.List.Sorted.{IsStrictlySortedBy}
use Rattle.std.specs.Ordering.{nat_cmp, eq_by_cmp}
use Rattle.std.specs.Cmp.Lexicographic.{slice_cmp}
use Rattle.std.proofs.lemmas.Bool.{and_from}
use Rattle.seg_values.specs.declared.schema.FieldEntry.{FieldEntry}
use Rattle.seg_values.specs.declared.schema.FieldKind.{FieldKind}
use Rattle.seg_values.proofs.Exports.{is_sorted-rising}
use Rattle.seg_common.proofs.TabulatedMaps.{texts_apart, same_key}
use Rattle.seg_model.specs.DocumentTerms.{Posting, term_option}
use Rattle.seg_model.specs.Shape.{ArePostings, IsTermWith}
use Rattle.seg_termdict.specs.Dictionary.{Term, terms_of}
use Rattle.seg_termdict.proofs.Exports.{dictionary_sorted}
use Rattle.seg_postings.specs.Postings.{term_postings}
use Rattle.seg_postings.specs.Field.{term_at, terms_at}
use Rattle.seg_postings.specs.OpenedFields.{FieldRules, IsFieldBy}
use Rattle.seg_postings.specs.FieldSerializers.{TermWritten}
use Rattle.seg_postings.specs.TermMaps.{TermsReadHaveShape}
use Rattle.seg_postings.specs.RecordKinds.{kind_of}
use Rattle.seg_postings.specs.TermForms.{IsDictionaryOf, has_form, is_formed}
use Rattle.seg_postings.proofs.TermForms.{term_formed}
use Rattle.seg_postings.proofs.AscendingPostings.{after, mapped, read_rise}

-- a term with its postings
abbrev entry_of : TermWritten → List ℕ × List Posting
entry_of t = (t.bytes, t.postings)

-- ---- keys

-- the keys of what is read are those of the dictionary
keys_kept : (postings positions : List ℕ) (ts : List Term) (ws : List TermWritten) → terms_at postings positions ts ≡ Some ws → map (λ (e : List ℕ × List Posting). e.0) (map entry_of ws) ≡ map (λ (t : Term). t.0) ts
unfolding terms_at
keys_kept postings positions [] ws e = let same : [] ≡ ws = cc in ap (λ (xs : List TermWritten). map (λ (e : List ℕ × List Posting). e.0) (map entry_of xs)) (sym same)
keys_kept postings positions (t ∷ ts) ws e =
    let w = after _ (term_at postings positions t) ws e in
    let rest = mapped _ (terms_at postings positions ts) ws w.next in
    let p = mapped _ (term_postings t.1.doc_freq (slice_range postings t.1.postings_start t.1.postings_end) (slice_range positions t.1.positions_start t.1.positions_end)) w.value w.is in
    let key : w.value.bytes ≡ t.0 = ap (λ (x : TermWritten). x.bytes) (sym p.same) in
    let others = keys_kept postings positions ts rest.value rest.is in
    ap (λ (xs : List TermWritten). map (λ (e : List ℕ × List Posting). e.0) (map entry_of xs)) (sym rest.same) ∙ (λ i. key i ∷ others i)

-- what is read has the form that its dictionary has
formed_kept : (kind : FieldKind) (postings positions : List ℕ) (ts : List Term) (ws : List TermWritten) → terms_at postings positions ts ≡ Some ws → AllByRecursion (λ (t : TermWritten). has_form kind t.bytes ≡ true) ws → list_all (is_formed kind) ts ≡ true
unfolding terms_at
formed_kept kind postings positions [] ws e forms = refl
formed_kept kind postings positions (t ∷ ts) ws e forms =
    let w = after _ (term_at postings positions t) ws e in
    let rest = mapped _ (terms_at postings positions ts) ws w.next in
    let p = mapped _ (term_postings t.1.doc_freq (slice_range postings t.1.postings_start t.1.postings_end) (slice_range positions t.1.positions_start t.1.positions_end)) w.value w.is in
    let key : w.value.bytes ≡ t.0 = ap (λ (x : TermWritten). x.bytes) (sym p.same) in
    let fs = subst (AllByRecursion (λ (x : TermWritten). has_form kind x.bytes ≡ true)) (sym rest.same) forms in
    and_from (is_formed kind t) (list_all (is_formed kind) ts) (subst (λ (b : List ℕ). has_form kind b ≡ true) key fs.0) (formed_kept kind postings positions ts rest.value rest.is fs.1)

pub dictionary_of_field : (rules : FieldRules) (dictionary postings positions : List ℕ) (total : ℕ) (terms : List TermWritten) → IsFieldBy rules dictionary postings positions total terms → IsDictionaryOf rules.kind dictionary
dictionary_of_field rules dictionary postings positions total terms by = record {
  is_dictionary = by.spells.is_dictionary;
  formed = formed_kept rules.kind _ _ (terms_of dictionary) terms by.spells.read by.formed;
}

module _ {Y : Type 0} where
  -- what holds of each entry holds of the one that is found
  of_found : (P : List ℕ × Y → Type 0) (q : List ℕ) (es : List (List ℕ × Y)) (x : Y) → AllByRecursion P es → find (slice_cmp nat_cmp) q es ≡ Some x → P (q, x)
  of_found P q [] x all h = absurd (cc h)
  of_found P q (e ∷ es) x all h = by (eq_by_cmp (slice_cmp nat_cmp) q e.0) refl h (λ other. of_found P q es x all.1 other)
    where
      by : (b : Bool) → eq_by_cmp (slice_cmp nat_cmp) q e.0 ≡ b → cond b (Some e.1) (find (slice_cmp nat_cmp) q es) ≡ Some x → (find (slice_cmp nat_cmp) q es ≡ Some x → P (q, x)) → P (q, x)
      by true t h later =
          let same : e.1 ≡ x = cc in
          subst (λ k. P (k, x)) (sym (same_key texts_apart q e.0 t)) (subst (λ y. P (e.0, y)) same all.0)
      by false t h later = later h

-- ---- shape

module _ (entry : FieldEntry) (documents : ℕ) where
  each : (postings positions : List ℕ) (ts : List Term) (ws : List TermWritten) → terms_at postings positions ts ≡ Some ws → AllByRecursion (λ (t : TermWritten). has_form entry.kind t.bytes ≡ true) ws → AllByRecursion (λ (t : TermWritten). t.kind ≡ kind_of (term_option entry t.bytes)) ws → AllByRecursion (λ (t : TermWritten). AllByRecursion (λ (p : Posting). p.document < documents) t.postings) ws → AllByRecursion (λ (t : TermWritten). 0 < length t.postings) ws → AllByRecursion (λ (e : List ℕ × List Posting). IsTermWith entry documents e.0 e.1) (map entry_of ws)
  unfolding terms_at
  each postings positions [] ws e forms kinds low occur = let same : [] ≡ ws = cc in subst (λ (xs : List TermWritten). AllByRecursion (λ (x : List ℕ × List Posting). IsTermWith entry documents x.0 x.1) (map entry_of xs)) same tt
  each postings positions (t ∷ ts) ws e forms kinds low occur =
      let w = after _ (term_at postings positions t) ws e in
      let rest = mapped _ (terms_at postings positions ts) ws w.next in
      let p = mapped _ (term_postings t.1.doc_freq (slice_range postings t.1.postings_start t.1.postings_end) (slice_range positions t.1.positions_start t.1.positions_end)) w.value w.is in
      let fs = subst (AllByRecursion (λ (x : TermWritten). has_form entry.kind x.bytes ≡ true)) (sym rest.same) forms in
      let ks = subst (AllByRecursion (λ (x : TermWritten). x.kind ≡ kind_of (term_option entry x.bytes))) (sym rest.same) kinds in
      let ls = subst (AllByRecursion (λ (x : TermWritten). AllByRecursion (λ (q : Posting). q.document < documents) x.postings)) (sym rest.same) low in
      let os = subst (AllByRecursion (λ (x : TermWritten). 0 < length x.postings)) (sym rest.same) occur in
      let kind : p.value.kind ≡ kind_of (term_option entry w.value.bytes) = ap (λ (x : TermWritten). x.kind) p.same ∙ ks.0 in
      let same : p.value.postings ≡ w.value.postings = ap (λ (x : TermWritten). x.postings) p.same in
      let rises = read_rise documents (term_option entry w.value.bytes) t.1.doc_freq (slice_range postings t.1.postings_start t.1.postings_end) (slice_range positions t.1.positions_start t.1.positions_end) p.value p.is kind (subst (AllByRecursion (λ (q : Posting). q.document < documents)) (sym same) ls.0) in
      subst (λ (xs : List TermWritten). AllByRecursion (λ (x : List ℕ × List Posting). IsTermWith entry documents x.0 x.1) (map entry_of xs)) rest.same (
        record {
          form = term_formed entry w.value.bytes fs.0;
          occurs = os.0;
          postings_ascend = subst (ArePostings (term_option entry w.value.bytes) 0 documents) same rises;
        },
        each postings positions ts rest.value rest.is fs.1 ks.1 ls.1 os.1,
      )

pub read_have_shape : TermsReadHaveShape
read_have_shape entry documents dictionary postings positions total written by =
    let f = by.spells in
    let keys : map (λ (e : List ℕ × List Posting). e.0) (map entry_of written) ≡ map (λ (t : Term). t.0) (terms_of dictionary) = keys_kept _ _ (terms_of dictionary) written f.read in
    let rise = subst (IsStrictlySortedBy (slice_cmp nat_cmp)) (sym keys) (dictionary_sorted dictionary f.is_dictionary) in
    let sorted : T (is_sorted (slice_cmp nat_cmp) (map entry_of written)) = subst T (sym (is_sorted-rising (map entry_of written) rise)) tt in
    let all = each entry documents _ _ (terms_of dictionary) written f.read by.formed by.kinds by.low f.occur in
    record {
      are = sym (entries-from_sorted (slice_cmp nat_cmp) (map entry_of written) sorted);
      shape = λ term ps found. of_found (λ (e : List ℕ × List Posting). IsTermWith entry documents e.0 e.1) term (map entry_of written) ps all (sym (get-from_sorted (slice_cmp nat_cmp) (map entry_of written) term sorted) ∙ found);
    }
