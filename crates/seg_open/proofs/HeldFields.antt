-- The parts of a field that hold terms are a field by the rules of its entry.
use Rattle.std.proofs.Common.{◌≡◌, ℕ, ◌+◌, ◌<◌, cond, T, true, List, [], ◌∷◌, map, Some, None, refl, sym, ap, ◌∙◌, subst}
use Rattle.std.specs.FinMap.Entries.{below_all}
use Rattle.std.specs.FinMap.{entries, find, is_sorted, entries_sorted, get-entries}
use Rattle.std.specs.List.{AllByRecursion}
use Rattle.std.specs.Ordering.{nat_cmp, is_lt, is_eq}
use Rattle.std.specs.Cmp.{tied_itself}
use Rattle.std.specs.Cmp.Lexicographic.{slice_cmp, nat_list_cmp_total}
use Rattle.std.specs.declared.cmp.Ordering.{Ordering}
use Rattle.std.specs.declared.cmp.Ordering.TheVariants.{Less, Equal, Greater}
use Rattle.std.proofs.lemmas.Option.{none-some}
use Rattle.seg_common.proofs.Bools.{first_holds, second_holds}
use Rattle.seg_values.specs.declared.schema.FieldEntry.{FieldEntry}
use Rattle.seg_values.specs.declared.schema.IndexOption.{IndexOption}
use Rattle.seg_model.specs.DocumentTerms.{Posting, term_option}
use Rattle.seg_model.specs.Shape.{ArePostings, IsTermWith}
use Rattle.seg_directory.specs.CompositeFiles.{Part}
use Rattle.seg_postings.specs.FieldSerializers.{TermWritten}
use Rattle.seg_postings.specs.OpenedFields.{IsFieldBy, rules_of}
use Rattle.seg_postings.specs.TermForms.{has_form}
use Rattle.seg_postings.proofs.Exports.{form_of_term}
use Rattle.seg_open.specs.OpenedFieldParts.{MayHold}

-- ---- each entry of a map is found by its key

less : (o : Ordering) → T (is_lt o) → o ≡ Less
less Less p = refl
less Equal p = absurd p
less Greater p = absurd p

module _ {Y : Type 0} where
  -- a key that ties with one below all others isn't among these
  missed : (q k : List ℕ) → slice_cmp nat_cmp q k ≡ Equal → (es : List (List ℕ × Y)) → T (below_all (slice_cmp nat_cmp) k es) → find (slice_cmp nat_cmp) q es ≡ None
  missed q k tie [] h = refl
  missed q k tie (e ∷ es) h =
      ap (λ r. cond (is_eq r) (Some e.1) (find (slice_cmp nat_cmp) q es)) (nat_list_cmp_total.congr q k e.0 tie ∙ less _ (first_holds _ _ h))
      ∙ missed q k tie es (second_holds _ _ h)

  -- what is found after the first entry is found
  found_after : (e : List ℕ × Y) (es : List (List ℕ × Y)) → T (below_all (slice_cmp nat_cmp) e.0 es) → (k : List ℕ) (y : Y) → find (slice_cmp nat_cmp) k es ≡ Some y → (r : Ordering) → slice_cmp nat_cmp k e.0 ≡ r → find (slice_cmp nat_cmp) k (e ∷ es) ≡ Some y
  found_after e es below k y at Less is = ap (λ r. cond (is_eq r) (Some e.1) (find (slice_cmp nat_cmp) k es)) is ∙ at
  found_after e es below k y at Equal is = absurd (none-some y (sym (missed k e.0 is es below) ∙ at))
  found_after e es below k y at Greater is = ap (λ r. cond (is_eq r) (Some e.1) (find (slice_cmp nat_cmp) k es)) is ∙ at

  -- what holds of whatever is found holds of each entry
  of_each : (P : List ℕ → Y → Type 0) (es : List (List ℕ × Y)) → T (is_sorted (slice_cmp nat_cmp) es) → ((k : List ℕ) (y : Y) → find (slice_cmp nat_cmp) k es ≡ Some y → P k y) → AllByRecursion (λ (e : List ℕ × Y). P e.0 e.1) es
  of_each P [] s h = tt
  of_each P (e ∷ es) s h = (
    h e.0 e.1 (ap (λ r. cond (is_eq r) (Some e.1) (find (slice_cmp nat_cmp) e.0 es)) (tied_itself nat_list_cmp_total e.0)),
    of_each P es (second_holds _ _ s) (λ k y at. h k y (found_after e es (first_holds _ _ s) k y at (slice_cmp nat_cmp k e.0) refl)),
  )

-- ---- their form

each_formed : (entry : FieldEntry) (documents : ℕ) (written : List TermWritten) → AllByRecursion (λ (e : List ℕ × List Posting). IsTermWith entry documents e.0 e.1) (map (λ (t : TermWritten). (t.bytes, t.postings)) written) → AllByRecursion (λ (t : TermWritten). has_form entry.kind t.bytes ≡ true) written
each_formed entry documents [] all = tt
each_formed entry documents (t ∷ ts) all = (form_of_term entry t.bytes all.0.form, each_formed entry documents ts all.1)

-- ---- their documents

-- postings in order lie below their end
all_low : (option : IndexOption) (low documents : ℕ) (ps : List Posting) → ArePostings option low documents ps → AllByRecursion (λ (p : Posting). p.document < documents) ps
all_low option low documents [] are = tt
all_low option low documents (p ∷ ps) are = (are.1, all_low option (p.document + 1) documents ps are.3)

each_low : (entry : FieldEntry) (documents : ℕ) (written : List TermWritten) → AllByRecursion (λ (e : List ℕ × List Posting). IsTermWith entry documents e.0 e.1) (map (λ (t : TermWritten). (t.bytes, t.postings)) written) → AllByRecursion (λ (t : TermWritten). AllByRecursion (λ (p : Posting). p.document < documents) t.postings) written
each_low entry documents [] all = tt
each_low entry documents (t ∷ ts) all = (all_low (term_option entry t.bytes) 0 documents t.postings all.0.postings_ascend, each_low entry documents ts all.1)

module _ (entry : FieldEntry) (field documents : ℕ) (terms : List Part) where
  pub by_rules : (postings positions : List Part) (m : MayHold entry field documents terms postings positions) → IsFieldBy (rules_of entry documents) m.holds.dictionary m.holds.postings_part m.holds.positions_part m.holds.total m.holds.written
  by_rules postings positions m =
      let shaped = of_each (IsTermWith entry documents) (entries m.held) (entries_sorted m.held) (λ k y at. m.shape k y (get-entries m.held k ∙ at)) in
      let all = subst (AllByRecursion (λ (e : List ℕ × List Posting). IsTermWith entry documents e.0 e.1)) (sym m.holds.are) shaped in
      record {
        spells = m.holds.spells;
        formed = each_formed entry documents m.holds.written all;
        kinds = m.holds.kinds;
        low = each_low entry documents m.holds.written all;
      }
