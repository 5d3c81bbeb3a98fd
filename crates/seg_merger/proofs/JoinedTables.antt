-- The joined terms of a field, as a table of its keys.
use Rattle.std.proofs.Common.{◌≡◌, ℕ, true, false, List, [], ◌∷◌, ◌++◌, map, Some, None, Option, sym, refl, ap, ◌∙◌}
use Rattle.std.specs.Prelude.{is_some, option_to_list}
use Rattle.std.specs.Cmp.Lexicographic.{nat_list_cmp_total}
use Rattle.std.specs.FinMap.{contains_key-keys, entries, get, is_sorted, keys}
use Rattle.std.specs.List.{AllByRecursion, flat_map}
use Rattle.std.proofs.lemmas.Bool.{false≢true}
use Rattle.std.proofs.lemmas.List.{map-append}
use Rattle.seg_common.specs.declared.term_info.TermInfo.{TermInfo}
use Rattle.seg_values.specs.declared.schema.FieldEntry.{FieldEntry}
use Rattle.seg_model.specs.Join.{joined_postings, joined_terms}
use Rattle.seg_termdict.specs.MergedTerms.{Standing, standings_from, if_stands, merged_terms}
use Rattle.seg_model.specs.DocumentTerms.{Posting, if_any}
use Rattle.seg_termdict.specs.SortedTerms.{key_cmp}
use Rattle.seg_common.specs.TabulatedMaps.{entry_of, tabulated}
use Rattle.seg_termdict.proofs.Exports.{merged_terms_answer}
use Rattle.seg_common.proofs.TabulatedMaps.{texts_apart, IsComplete, same_table}
use Rattle.seg_model.proofs.Exports.{complete_joined}
use Rattle.seg_postings.specs.FieldSerializers.{TermWritten}
use Rattle.seg_termdict.specs.MergedStreams.{MergedTerm, info_of}
use Rattle.seg_open.specs.OpenSegment.{OpenSegment, part_of}
use Rattle.seg_merger.specs.MovedPostings.{SourceTerms, moved_from_all, ranked_of}
use Rattle.seg_merger.specs.JoinedSources.{IsJoinable, joined_at, terms_joined}
use Rattle.seg_segment.specs.WrittenTerms.{term_with}
use Rattle.seg_merger.proofs.SortedEntries.{entries_from, some_sorted, sorted_entries}
use Rattle.seg_merger.proofs.KeyStandings.{all_given_at, given_at}

-- ---- the joined terms

abbrev pair_of : TermWritten → List ℕ × List Posting
pair_of t = (t.bytes, t.postings)

one_pair : (key : List ℕ) (ps : List Posting) → map pair_of (option_to_list (term_with key ps)) ≡ entry_of key (if_any ps)
one_pair key [] = refl
one_pair key (p ∷ ps) = refl

none_of : {X : Type 0} (o : Option X) → is_some o ≡ false → o ≡ None
none_of None e = refl
none_of (Some x) e = absurd (false≢true (sym e))

no_standing : (ss : List (Standing TermInfo)) → if_stands ss ≡ None → ss ≡ []
no_standing [] e = refl
no_standing (s ∷ ss) e = absurd (false≢true (sym (ap is_some e)))

module _ (sources : List SourceTerms) where
  abbrev at : List ℕ → Option (List Posting)
  at key = if_any (moved_from_all key sources)

  abbrev merged : List MergedTerm
  merged = entries (merged_terms (map ranked_of sources))

  pairs : (ts : List MergedTerm) → map pair_of (flat_map (joined_at sources) ts) ≡ flat_map (λ k. entry_of k (at k)) (map (λ (t : MergedTerm). t.0) ts)
  pairs [] = refl
  pairs (t ∷ ts) =
      map-append pair_of (joined_at sources t) (flat_map (joined_at sources) ts)
      ∙ ap (λ l. l ++ map pair_of (flat_map (joined_at sources) ts)) (one_pair t.0 (moved_from_all t.0 sources))
      ∙ ap (λ l. entry_of t.0 (at t.0) ++ l) (pairs ts)

  table_is : map pair_of (terms_joined sources) ≡ entries (tabulated {R = key_cmp} at (keys (merged_terms (map ranked_of sources))))
  table_is =
      let up : is_sorted key_cmp merged ≡ true = sorted_entries (merged_terms (map ranked_of sources)) merged refl in
      pairs merged ∙ sym (entries_from (flat_map (λ k. entry_of k (at k)) (map (λ (t : MergedTerm). t.0) merged)) (some_sorted at merged up))

  module _ (each : AllByRecursion IsJoinable sources) where
    complete : IsComplete nat_list_cmp_total texts_apart at (keys (merged_terms (map ranked_of sources)))
    complete = record {
      outside = λ q lacks.
          let none : get (merged_terms (map ranked_of sources)) q ≡ None = none_of _ (contains_key-keys (merged_terms (map ranked_of sources)) q ∙ lacks) in
          let stands : standings_from 0 q (map ranked_of sources) ≡ [] = no_standing _ (sym (merged_terms_answer TermInfo (map ranked_of sources) q) ∙ none) in
          ap if_any (sym (all_given_at q sources each) ∙ ap (λ ss. flat_map (given_at sources q) (map info_of ss)) stands);
    }

    module _ (ps : List OpenSegment) (field : ℕ) (entry : FieldEntry) (same : (key : List ℕ) → moved_from_all key sources ≡ joined_postings (map part_of ps) field key) where
      pub are_joined_terms : map (λ (t : TermWritten). (t.bytes, t.postings)) (terms_joined sources) ≡ entries (joined_terms (map part_of ps) (field, entry))
      are_joined_terms =
          table_is
          ∙ ap entries (same_table nat_list_cmp_total texts_apart at (λ key. if_any (joined_postings (map part_of ps) field key)) (keys (merged_terms (map ranked_of sources))) _ complete (complete_joined field (map part_of ps)) (λ q. ap if_any (same q)))
