-- The terms of documents that pass the check can be written.
use Rattle.std.proofs.Common.{◌≡◌, ℕ, suc, ◌+◌, ◌<◌, ◌≤◌, ◌^◌, Bool, true, false, cond, List, [], ◌∷◌, ◌++◌, map, length, Some, None, Option, Less, Equal, Greater, sym, refl, ap, ◌∙◌, subst, arith, inl, inr, eq-eqb}
use Rattle.std.specs.Prelude.{filter, nat_eq, nat_le, is_some, ◌&&◌, ◌||◌}
use Rattle.std.specs.declared.cmp.Ordering.{Ordering}
use Rattle.std.specs.FinMap.{entries, empty, from_entries, entries_sorted, entries-insert, len-empty, len-entries}
use Rattle.std.specs.FinMap.Entries.{put, by_order}
use Rattle.std.specs.List.{AllByRecursion, slice_get, list_all, flat_map, enumerate_from}
use Rattle.std.specs.Ordering.{nat_cmp}
use Rattle.std.specs.Cmp.Lexicographic.{slice_cmp, nat_list_cmp_total}
use Rattle.std.specs.Str.{bytes_eq}
use Rattle.std.proofs.lemmas.Bool.{false≢true, and_parts, eqb-true, leb-true}
use Rattle.std.proofs.lemmas.Grind.{flat_map-append}
use Rattle.seg_common.proofs.Lists.{all_back, all_both, all_front}
use Rattle.std.proofs.lemmas.Bool.Decides.{eqb_tells}
use Rattle.std.proofs.lemmas.List.{length-map}
use Rattle.std.proofs.lemmas.Option.{same_Some}
use lib.Dec.{T}
use Rattle.seg_tokens.specs.declared.token.Token.{Token}
use Rattle.seg_values.specs.declared.schema.FieldEntry.{FieldEntry}
use Rattle.seg_values.specs.declared.schema.FieldKind.{FieldKind}
use Rattle.seg_values.specs.declared.schema.FieldKind.TheVariants.{Text, U64, I64, Bool as Boolean, Date, Facet, Bytes, IpAddr, Json}
use Rattle.seg_values.specs.declared.schema.IndexOption.{IndexOption}
use Rattle.seg_values.specs.declared.schema.IndexOption.TheVariants as options
use Rattle.seg_values.specs.Tree.{Tree, Document}
use Rattle.seg_model.specs.TextDocuments.{is_taken}
use Rattle.seg_model.specs.DocumentCheck.{positions_fall, unless, json_refusal, tree_refusal, leaves_refusal, value_texts, is_rising, is_u32, count_of, kind_fits, positions_refusal, field_fits, order_refusal}
use Rattle.seg_model.specs.Fields.{Schema, Analyzer, is_text, is_json, is_indexed, indexing_tokenizer, values_of}
use Rattle.seg_model.specs.Occurrences.{Occurrence, at_zero, counted, reach, start_after, start_after_all, value_tokens, leaf_text, texts_at, value_terms, text_occurrences, json_occurrences, kind_occurrences, occurrences_at, occurrences}
use Rattle.seg_model.specs.Shape.{path_part}
use Rattle.seg_model.specs.Leaves.{PlacedLeaf, joined_path, leaves, leaves_of}
use Rattle.seg_model.specs.DocumentTerms.{Recorded, Posting, term_option, type_code, positions_of, if_occurs, recorded_in, postings_from, postings_of, if_any, terms_of, field_terms}
use Rattle.seg_common.specs.TabulatedMaps.{entry_of}
use Rattle.seg_common.proofs.Bytes.{same_term}
use Rattle.seg_postings.specs.RecordKinds.{kind_of}
use Rattle.seg_postings.specs.declared.record_kind.RecordKind.{RecordKind}
use Rattle.seg_postings.specs.WritablePostings.{Rise, IsOfKind, AreWritable}
use Rattle.seg_terms.specs.TermEntries.{TermEntries}
use Rattle.seg_build.specs.FieldTerms.{FieldTerms, asked_by, kind_in}
use Rattle.seg_build.specs.WritableTerms.{CanBeWritten, TakenTermsCanBeWritten}
use Rattle.seg_check.proofs.Exports.{for_one_field, rises, rises_first}
use Rattle.seg_model.proofs.Exports.{or_both, unless_true}
use Rattle.seg_build.proofs.FieldContents.{length_texts, short_texts, start_after_all-ge}
use Rattle.seg_build.proofs.IndexedParts.{values-own, values-other}
use Rattle.seg_build.proofs.JsonLimits.{low_at}
use Rattle.seg_build.proofs.JsonPositions.{in_texts, in_leaves}
use Rattle.seg_build.proofs.PlainPaths.{plain_leaves_of, value_part}
use Rattle.seg_build.proofs.RecordedTerms.{no_terms_of}
use Rattle.seg_build.proofs.TakenDocuments.{HasPassed, passed, values_fit}
use Rattle.seg_build.proofs.ModelLeaves.{reach-ge}

-- ---- positions that rise

abbrev placed_at : List Occurrence → List ℕ
placed_at os = map (λ (o : Occurrence). o.position) os

rise_lower : (low before : ℕ) (ps : List ℕ) → low ≤ before → Rise before ps → Rise low ps
rise_lower low before [] le h = tt
rise_lower low before (p ∷ ps) le (following, small, rest) = (omega (arith, le, following), small, rest)

-- those of one term rise too
rise_some : (q : List ℕ) (before : ℕ) (os : List Occurrence) → Rise before (placed_at os) → Rise before (positions_of q os)
rise_some q before [] h = tt
rise_some q before (o ∷ os) (following, small, rest) =
    elim (bytes_eq q o.bytes) as (λ b. Rise before (map (λ (y : Occurrence). y.position) (cond b (o ∷ filter (λ y. bytes_eq q y.bytes) os) (filter (λ y. bytes_eq q y.bytes) os)))) [
      | true ↦ (following, small, rise_some q o.position os rest)
      | false ↦ rise_lower before o.position (positions_of q os) following (rise_some q o.position os rest)
    ]

-- and are no more
fewer : (q : List ℕ) (os : List Occurrence) → length (positions_of q os) ≤ length os
fewer q [] = omega arith
fewer q (o ∷ os) =
    let rest : length (positions_of q os) ≤ length os = fewer q os in
    elim (bytes_eq q o.bytes) as (λ b. length (map (λ (y : Occurrence). y.position) (cond b (o ∷ filter (λ y. bytes_eq q y.bytes) os) (filter (λ y. bytes_eq q y.bytes) os))) ≤ suc (length os)) [
      | true ↦ omega (arith, rest)
      | false ↦ omega (arith, rest)
    ]

abbrev placed : ℕ → Token → Occurrence
placed start t = record { bytes = t.text; position = start + t.position }

-- the tokens of a value, and after them what begins no lower than they reach
rise_placed : (start top : ℕ) → top < 2 ^ 32 → (before low : ℕ) (ts : List Token) (more : List Occurrence) → rises low ts ≡ true → before ≤ start + low → before ≤ top → reach start ts ≤ top → Rise top (placed_at more) → Rise before (placed_at (map (placed start) ts ++ more))
rise_placed start top small before low [] more up from le reaches rest = rise_lower before top (placed_at more) le rest
rise_placed start top small before low (t ∷ ts) more up from le reaches rest =
    let two = and_parts (nat_le low t.position) (rises t.position ts) up in
    let higher = leb-true low t.position two.0 in
    let here : start + t.position ≤ top = omega (arith, reaches) in
    let others : reach start ts ≤ top = omega (arith, reaches) in
    (omega (arith, higher, from), omega (arith, here, small), rise_placed start top small (start + t.position) t.position ts more two.1 (omega arith) here others rest)

abbrev AllRising : List (List Token) → Type 0
AllRising vs = AllByRecursion (λ v. is_rising (counted v) ≡ true) vs

-- the texts of a field
rise_texts : (start before : ℕ) (vs : List (List Token)) → AllRising vs → before ≤ start → start_after_all start vs < 2 ^ 32 → Rise before (placed_at (text_occurrences start vs))
rise_texts start before [] up le low = tt
rise_texts start before (v ∷ vs) up le low =
    let top = reach start (counted v) in
    let next : start_after start v ≡ 1 + top = refl in
    let ge = start_after_all-ge (start_after start v) vs in
    let reaches = reach-ge start (counted v) in
    rise_placed start top (omega (arith, low, ge, next)) before 0 (counted v) (text_occurrences (start_after start v) vs) (rises_first (counted v) ∙ up.0) (omega (arith, le)) (omega (arith, le, reaches)) (omega arith)
    (rise_texts (start_after start v) top vs up.1 (omega (arith, next)) low)

-- the positions of each term in a field of a document rise, and are few
record Fit (os : List Occurrence) : Type 0 where
  rising : (q : List ℕ) → Rise 0 (positions_of q os)
  few : (q : List ℕ) → length (positions_of q os) < 2 ^ 32

-- and so they do where all of them do
fit_all : (os : List Occurrence) → Rise 0 (placed_at os) → length os < 2 ^ 32 → Fit os
fit_all os rising few = record { rising = λ q. rise_some q 0 os rising; few = λ q. omega (arith, fewer q os, few) }

-- a count that a field keeps is a u32
abbrev CountFits : IndexOption → ℕ → Type 0
CountFits options.Freqs n = n < 2 ^ 32
CountFits options.Positions n = n < 2 ^ 32
CountFits _ n = Unit {0}

count_fits : (option : IndexOption) (n : ℕ) → n < 2 ^ 32 → CountFits option n
count_fits options.No n few = tt
count_fits options.Basic n few = tt
count_fits options.Freqs n few = few
count_fits options.Positions n few = few

-- the positions of each term in a field of a document rise, and are few where the field keeps how many they are
record FitIn (e : FieldEntry) (os : List Occurrence) : Type 0 where
  rising : (q : List ℕ) → Rise 0 (positions_of q os)
  few : (q : List ℕ) → CountFits (term_option e q) (length (positions_of q os))

fit_in : (e : FieldEntry) (os : List Occurrence) → Fit os → FitIn e os
fit_in e os fit = record { rising = fit.rising; few = λ q. count_fits (term_option e q) (length (positions_of q os)) (fit.few q) }

-- ---- values that are no texts

abbrev zeros : List (List ℕ) → List ℕ
zeros terms = placed_at (map at_zero terms)

rise_zeros : (terms : List (List ℕ)) → Rise 0 (zeros terms)
rise_zeros [] = tt
rise_zeros (t ∷ ts) = (omega arith, omega arith, rise_zeros ts)

-- ---- the leaves of JSON values

each_rises : (vs : List (List Token)) → list_all (λ tokens. is_rising (counted tokens)) vs ≡ true → AllRising vs
each_rises [] h = tt
each_rises (v ∷ vs) h = let two = and_parts (is_rising (counted v)) (list_all (λ tokens. is_rising (counted tokens)) vs) h in (two.0, each_rises vs two.1)

rise_zero : (ps : List ℕ) → AllByRecursion (λ p. p ≡ 0) ps → Rise 0 ps
rise_zero [] h = tt
rise_zero (p ∷ ps) h = let first = h.0 in (omega arith, omega (arith, first), subst (λ n. Rise n ps) (sym h.0) (rise_zero ps h.1))

module _ (e : Bool) (analyze : List ℕ → List Token) (values : List Tree) (limits : kind_fits Json e analyze values ≡ true) (plain : AllByRecursion (λ t. tree_refusal t ≡ None) values) (up : AllByRecursion (λ t. AllRising (value_texts Json analyze t)) values) where
  abbrev found : List PlacedLeaf
  found = leaves_of values

  abbrev leaf_tokens : PlacedLeaf → List (List Token)
  leaf_tokens p = map analyze (leaf_text p.leaf)

  all_up : (vs : List Tree) → AllByRecursion (λ t. AllRising (value_texts Json analyze t)) vs → AllRising (flat_map leaf_tokens (leaves_of vs))
  all_up [] h = tt
  all_up (t ∷ ts) h =
      subst AllRising (sym (flat_map-append leaf_tokens (leaves t) (leaves_of ts)))
      (all_both (λ v. is_rising (counted v) ≡ true) (value_texts Json analyze t) (flat_map leaf_tokens (leaves_of ts)) h.0 (all_up ts h.1))

  path_up : (path : List ℕ) (ls : List PlacedLeaf) → AllRising (flat_map leaf_tokens ls) → AllRising (texts_at e analyze path ls)
  path_up path [] h = tt
  path_up path (p ∷ ps) h =
      let here = all_front (λ v. is_rising (counted v) ≡ true) (leaf_tokens p) (flat_map leaf_tokens ps) h in
      let rest = all_back (λ v. is_rising (counted v) ≡ true) (leaf_tokens p) (flat_map leaf_tokens ps) h in
      all_both (λ v. is_rising (counted v) ≡ true) (cond (bytes_eq path (joined_path e p.keys)) (leaf_tokens p) []) (texts_at e analyze path ps) (by (bytes_eq path (joined_path e p.keys)) here) (path_up path ps rest)
    where
      by : (b : Bool) → AllRising (leaf_tokens p) → AllRising (cond b (leaf_tokens p) [])
      by true h = h
      by false h = tt

  term_fits : (q : List ℕ) (b : Bool) → nat_eq (type_code q) 115 ≡ b → Rise 0 (positions_of q (json_occurrences e analyze [] found)) × (length (positions_of q (json_occurrences e analyze [] found)) < 2 ^ 32)
  term_fits q true is =
      let path = path_part q in
      let low = low_at e analyze path values limits in
      let texts = texts_at e analyze path found in
      let os = text_occurrences 0 texts in
      let same = in_texts e analyze q (eqb-true (type_code q) 115 is) [] found (plain_leaves_of e values plain) in
      let count = low.tokens in
      let few : length (positions_of (value_part q) os) < 2 ^ 32 = omega (arith, fewer (value_part q) os, length_texts 0 texts, count) in (
        subst (Rise 0) (sym same) (rise_some (value_part q) 0 os (rise_texts 0 0 texts (path_up path found (all_up values up)) (omega arith) low.end)),
        subst (λ (ps : List ℕ). length ps < 2 ^ 32) (sym same) few,
      )
  term_fits q false other =
      let all = in_leaves e analyze q (λ is. false≢true (sym other ∙ eq-eqb (type_code q) 115 is)) [] found (plain_leaves_of e values plain) in
      let low = (low_at e analyze (path_part q) values limits).leaves in
      let few = all.few in
      (rise_zero (positions_of q (json_occurrences e analyze [] found)) all.are_zero, omega (arith, few, low))

  json_fit : Fit (json_occurrences e analyze [] found)
  json_fit = record { rising = λ q. (term_fits q (nat_eq (type_code q) 115) refl).0; few = λ q. (term_fits q (nat_eq (type_code q) 115) refl).1 }

-- ---- a document that is taken

module _ (schema : Schema) (analyzer : Analyzer) (k : ℕ) (e : FieldEntry) (at_e : slice_get schema k ≡ Some e) (on : is_indexed e ≡ true) where
  abbrev analyze : List ℕ → List Token
  analyze = analyzer (indexing_tokenizer e)

  abbrev texts_of : Document → List (List Token)
  texts_of ps = map (value_tokens analyze) (values_of k ps)

  -- the positions of a text
  positions_refusal-text : e.kind ≡ Text → (t : Tree) → positions_refusal analyzer t (Some e) ≡ unless (is_rising (counted (value_tokens analyze t)) && true) positions_fall
  positions_refusal-text kind_is t =
      ap (λ b. cond b (unless (list_all (λ tokens. is_rising (counted tokens)) (value_texts e.kind analyze t)) positions_fall) None) on
      ∙ ap (λ kind. unless (list_all (λ tokens. is_rising (counted tokens)) (value_texts kind analyze t)) positions_fall) kind_is

  positions_refusal-json : e.kind ≡ Json → (t : Tree) → positions_refusal analyzer t (Some e) ≡ unless (list_all (λ tokens. is_rising (counted tokens)) (value_texts Json analyze t)) positions_fall
  positions_refusal-json kind_is t =
      ap (λ b. cond b (unless (list_all (λ tokens. is_rising (counted tokens)) (value_texts e.kind analyze t)) positions_fall) None) on
      ∙ ap (λ kind. unless (list_all (λ tokens. is_rising (counted tokens)) (value_texts kind analyze t)) positions_fall) kind_is

  json_refusal-checked : e.kind ≡ Json → (t : Tree) → json_refusal t (Some e) ≡ tree_refusal t
  json_refusal-checked kind_is t =
      ap (λ k. cond (is_json k && (is_indexed e || e.fast)) (tree_refusal t) None) kind_is
      ∙ ap (λ b. cond (b || e.fast) (tree_refusal t) None) on

  rising_texts : e.kind ≡ Text → (ps : Document) → order_refusal schema analyzer ps ≡ None → AllRising (texts_of ps)
  rising_texts kind_is [] none = tt
  rising_texts kind_is (p ∷ ps) none =
      let two = or_both (positions_refusal analyzer p.1 (slice_get schema p.0)) (order_refusal schema analyzer ps) none in
      let v = value_tokens analyze p.1 in
      let rest = rising_texts kind_is ps two.1 in
      elim (eqb_tells k p.0) [
        | inl h ↦
            let refusal : unless (is_rising (counted v) && true) positions_fall ≡ None = sym (positions_refusal-text kind_is p.1) ∙ ap (positions_refusal analyzer p.1) (sym (ap (slice_get schema) (sym h.1) ∙ at_e)) ∙ two.0 in
            let rising = (and_parts (is_rising (counted v)) true (unless_true _ positions_fall refusal)).0 in
            subst (λ ts. AllRising (map (value_tokens analyze) ts)) (sym (values-own k p ps h.0)) (rising, rest)
        | inr h ↦ subst (λ ts. AllRising (map (value_tokens analyze) ts)) (sym (values-other k p ps h.0)) rest
      ]

  -- of a JSON field: each text of its values
  rising_leaves : e.kind ≡ Json → (ps : Document) → order_refusal schema analyzer ps ≡ None → AllByRecursion (λ t. AllRising (value_texts Json analyze t)) (values_of k ps)
  rising_leaves kind_is [] none = tt
  rising_leaves kind_is (p ∷ ps) none =
      let two = or_both (positions_refusal analyzer p.1 (slice_get schema p.0)) (order_refusal schema analyzer ps) none in
      let rest = rising_leaves kind_is ps two.1 in
      elim (eqb_tells k p.0) [
        | inl h ↦
            let refusal : unless (list_all (λ tokens. is_rising (counted tokens)) (value_texts Json analyze p.1)) positions_fall ≡ None = sym (positions_refusal-json kind_is p.1) ∙ ap (positions_refusal analyzer p.1) (sym (ap (slice_get schema) (sym h.1) ∙ at_e)) ∙ two.0 in
            subst (AllByRecursion (λ t. AllRising (value_texts Json analyze t))) (sym (values-own k p ps h.0)) (each_rises (value_texts Json analyze p.1) (unless_true _ positions_fall refusal), rest)
        | inr h ↦ subst (AllByRecursion (λ t. AllRising (value_texts Json analyze t))) (sym (values-other k p ps h.0)) rest
      ]

  -- and no key of them has a byte 0
  plain_values : e.kind ≡ Json → (ps : Document) → leaves_refusal schema ps ≡ None → AllByRecursion (λ t. tree_refusal t ≡ None) (values_of k ps)
  plain_values kind_is [] none = tt
  plain_values kind_is (p ∷ ps) none =
      let two = or_both (json_refusal p.1 (slice_get schema p.0)) (leaves_refusal schema ps) none in
      let rest = plain_values kind_is ps two.1 in
      elim (eqb_tells k p.0) [
        | inl h ↦
            let refusal : json_refusal p.1 (Some e) ≡ None = ap (json_refusal p.1) (sym (ap (slice_get schema) (sym h.1) ∙ at_e)) ∙ two.0 in
            subst (AllByRecursion (λ t. tree_refusal t ≡ None)) (sym (values-own k p ps h.0)) (sym (json_refusal-checked kind_is p.1) ∙ refusal, rest)
        | inr h ↦ subst (AllByRecursion (λ t. tree_refusal t ≡ None)) (sym (values-other k p ps h.0)) rest
      ]

  -- what the field would record of a term, were it of a kind
  abbrev option_in : List ℕ → FieldKind → IndexOption
  option_in q kind = cond (is_text kind || (is_json kind && nat_eq (type_code q) 115)) e.index options.Basic

  -- the occurrences of a document that has passed
  module _ (ps : Document) (h : HasPassed schema analyzer ps) where
    abbrev values : List Tree
    values = values_of k ps

    abbrev IsFit : FieldKind → Type 0
    IsFit kind = FitIn e (kind_occurrences kind e.expand_dots analyze values)

    fits : (is_u32 (length values) && kind_fits e.kind e.expand_dots analyze values) ≡ true
    fits = values_fit analyzer k e ps on (for_one_field (field_fits analyzer ps) schema h.fit k e at_e)

    limits_of : (kind : FieldKind) → e.kind ≡ kind → kind_fits kind e.expand_dots analyze values ≡ true
    limits_of kind is = (and_parts (is_u32 (length values)) (kind_fits kind e.expand_dots analyze values) (ap (λ q. is_u32 (length values) && kind_fits q e.expand_dots analyze values) (sym is) ∙ fits)).1

    texts_fit_in : e.kind ≡ Text → IsFit Text
    texts_fit_in is =
        let os = text_occurrences 0 (texts_of ps) in
        let short = short_texts e.expand_dots analyze values (limits_of Text is) in
        let few : count_of (texts_of ps) < 2 ^ 32 = short.count in
        let many : length os ≡ count_of (texts_of ps) = length_texts 0 (texts_of ps) in
        fit_in e os (fit_all os (rise_texts 0 0 (texts_of ps) (rising_texts is ps h.order) (omega arith) short.end) (omega (arith, few, many)))

    json_fits_in : e.kind ≡ Json → IsFit Json
    json_fits_in is = fit_in e (json_occurrences e.expand_dots analyze [] (leaves_of values)) (json_fit e.expand_dots analyze values (limits_of Json is) (plain_values is ps h.json) (rising_leaves is ps h.order))

    -- a field of another kind keeps no counts
    terms_fit_in : ((q : List ℕ) → term_option e q ≡ options.Basic) → FitIn e (map at_zero (flat_map value_terms values))
    terms_fit_in none =
        let os = map at_zero (flat_map value_terms values) in
        record {
          rising = λ q. rise_some q 0 os (rise_zeros (flat_map value_terms values));
          few = λ q. subst (λ option. CountFits option (length (positions_of q os))) (sym (none q)) tt;
        }

    by_kind : (kind : FieldKind) → e.kind ≡ kind → IsFit kind
    by_kind Text is = texts_fit_in is
    by_kind Json is = json_fits_in is
    by_kind U64 is = terms_fit_in (λ q. ap (option_in q) is)
    by_kind I64 is = terms_fit_in (λ q. ap (option_in q) is)
    by_kind Boolean is = terms_fit_in (λ q. ap (option_in q) is)
    by_kind Date is = terms_fit_in (λ q. ap (option_in q) is)
    by_kind Facet is = terms_fit_in (λ q. ap (option_in q) is)
    by_kind Bytes is = terms_fit_in (λ q. ap (option_in q) is)
    by_kind IpAddr is = terms_fit_in (λ q. ap (option_in q) is)

    occurrences_are : occurrences schema analyzer ps k ≡ kind_occurrences e.kind e.expand_dots analyze values
    occurrences_are = ap (occurrences_at analyzer ps k) at_e ∙ ap (λ b. cond b (kind_occurrences e.kind e.expand_dots analyze values) []) on

    passed_fits : FitIn e (occurrences schema analyzer ps k)
    passed_fits = subst (FitIn e) (sym occurrences_are) (by_kind e.kind refl)

  all_fit : (ds : List Document) → list_all (is_taken schema analyzer) ds ≡ true → AllByRecursion (FitIn e) (map (λ d. occurrences schema analyzer d k) ds)
  all_fit [] h = tt
  all_fit (d ∷ ds) h =
      let two = and_parts (is_taken schema analyzer d) (list_all (is_taken schema analyzer) ds) h in
      (passed_fits d (passed schema analyzer d two.0), all_fit ds two.1)

-- ---- the postings of a term

abbrev IsKept : RecordKind → Option Recorded → Type 0
IsKept kind None = Unit {0}
IsKept kind (Some r) = IsOfKind kind r

module _ (kind : RecordKind) where
  writable_from : (before least n : ℕ) (rs : List (Option Recorded)) → before + least ≤ n → n + length rs < 2 ^ 32 → AllByRecursion (IsKept kind) rs → AreWritable kind before least (postings_from n rs)
  writable_from before least n [] le few all = tt
  writable_from before least n (None ∷ rs) le few all = writable_from before least (n + 1) rs (omega arith) (omega (arith, few)) all.1
  writable_from before least n (Some r ∷ rs) le few all = (le, omega (arith, few), all.0, writable_from n 1 (n + 1) rs (omega arith) (omega (arith, few)) all.1)

kept : (option : IndexOption) (ps : List ℕ) → Rise 0 ps → CountFits option (length ps) → IsKept (kind_of option) (if_occurs option ps)
kept option [] rise few = tt
kept options.No (p ∷ ps) rise few = refl
kept options.Basic (p ∷ ps) rise few = refl
kept options.Freqs (p ∷ ps) rise few = (length (p ∷ ps), omega arith, few, refl)
kept options.Positions (p ∷ ps) rise few = (p ∷ ps, omega arith, few, rise, refl)

module _ (e : FieldEntry) where
  -- what the field keeps of a term
  abbrev kind_for : List ℕ → RecordKind
  kind_for q = kind_in (asked_by e) q

  all_kept : (q : List ℕ) (ds : List (List Occurrence)) → AllByRecursion (FitIn e) ds → AllByRecursion (IsKept (kind_for q)) (map (recorded_in e q) ds)
  all_kept q [] h = tt
  all_kept q (os ∷ ds) h = (kept (term_option e q) (positions_of q os) (h.0.rising q) (h.0.few q), all_kept q ds h.1)

  postings_writable : (q : List ℕ) (ds : List (List Occurrence)) → AllByRecursion (FitIn e) ds → length ds < 2 ^ 31 → AreWritable (kind_for q) 0 0 (postings_of e q ds)
  postings_writable q ds h few = writable_from (kind_for q) 0 0 0 (map (recorded_in e q) ds) (omega arith) (omega (arith, few, length-map ds (recorded_in e q))) (all_kept q ds h)

-- ---- the entries of a table

module _ {Y : Type 0} (P : List ℕ → Y → Type 0) where
  abbrev AllHave : List (List ℕ × Y) → Type 0
  AllHave es = AllByRecursion (λ e. P e.0 e.1) es

  put_all : (k : List ℕ) (v : Y) (es : List (List ℕ × Y)) → P k v → AllHave es → AllHave (put (slice_cmp nat_cmp) k v es)
  put_all k v [] h all = (h, tt)
  put_all k v (e ∷ es) h all = by (slice_cmp nat_cmp k e.0) refl (put_all k v es h all.1)
    where
      by : (o : Ordering) → slice_cmp nat_cmp k e.0 ≡ o → AllHave (put (slice_cmp nat_cmp) k v es) → AllHave (by_order o ((k, v) ∷ e ∷ es) ((e.0, v) ∷ es) (e ∷ put (slice_cmp nat_cmp) k v es))
      by Less is rest = (h, all)
      by Equal is rest = (subst (λ q. P q v) (same_term k e.0 is) h, all.1)
      by Greater is rest = (all.0, rest)

  none_have : (es : List (List ℕ × Y)) → length es ≡ 0 → AllHave es
  none_have [] h = tt
  none_have (e ∷ es) h = absurd (omega arith)

  from_all : (es : List (List ℕ × Y)) → AllHave es → AllHave (entries (from_entries {R = slice_cmp nat_cmp} es))
  from_all [] h = none_have (entries (empty {X = Y} {R = slice_cmp nat_cmp})) (sym (len-entries (empty {X = Y} {R = slice_cmp nat_cmp})) ∙ len-empty (slice_cmp nat_cmp) Y)
  from_all (e ∷ es) h = subst AllHave (sym (entries-insert nat_list_cmp_total (from_entries es) e.0 e.1)) (put_all e.0 e.1 (entries (from_entries es)) h.0 (from_all es h.1))

  one : (k : List ℕ) (o : Option Y) (es : List (List ℕ × Y)) → ((v : Y) → o ≡ Some v → P k v) → AllHave es → AllHave (entry_of k o ++ es)
  one k None es h all = all
  one k (Some v) es h all = (h v refl, all)

  entry_all : (f : List ℕ → Option Y) (ks : List (List ℕ)) → ((k : List ℕ) (v : Y) → f k ≡ Some v → P k v) → AllHave (flat_map (λ k. entry_of k (f k)) ks)
  entry_all f [] h = tt
  entry_all f (k ∷ ks) h = one k (f k) (flat_map (λ k. entry_of k (f k)) ks) (h k) (entry_all f ks h)

any_occurs : (ps v : List Posting) → if_any ps ≡ Some v → 0 < length v
any_occurs [] v e = absurd (false≢true (ap is_some e))
any_occurs (p ∷ ps) v e = subst (λ x. 0 < length x) (same_Some (p ∷ ps) v e) (omega arith)

any_writable : (kind : RecordKind) (ps v : List Posting) → AreWritable kind 0 0 ps → if_any ps ≡ Some v → AreWritable kind 0 0 v
any_writable kind [] v w e = absurd (false≢true (ap is_some e))
any_writable kind (p ∷ ps) v w e = subst (AreWritable kind 0 0) (same_Some (p ∷ ps) v e) w

truth : (b : _) → T b → b ≡ true
truth true h = refl
truth false h = absurd h

-- the terms of a field, by what says what their postings keep
abbrev terms_for : FieldEntry → TermEntries → FieldTerms
terms_for e terms = record { asked = asked_by e; terms = terms }

can_be_written : (e : FieldEntry) (ds : List (List Occurrence)) → AllByRecursion (FitIn e) ds → length ds < 2 ^ 31 → CanBeWritten (terms_for e (entries (terms_of e ds)))
can_be_written e ds h few =
    let keys = flat_map (map (λ (o : Occurrence). o.bytes)) ds in
    let f : List ℕ → Option (List Posting) = λ q. if_any (postings_of e q ds) in
    record {
      ascend = truth _ (entries_sorted (terms_of e ds));
      occur = from_all (λ q ps. 0 < length ps) _ (entry_all (λ q ps. 0 < length ps) f keys (λ q v is. any_occurs (postings_of e q ds) v is));
      writable = from_all (λ q ps. AreWritable (kind_for e q) 0 0 ps) _ (entry_all (λ q ps. AreWritable (kind_for e q) 0 0 ps) f keys (λ q v is. any_writable (kind_for e q) (postings_of e q ds) v (postings_writable e q ds h few) is));
    }

none_can : (e : FieldEntry) → CanBeWritten (terms_for e [])
none_can e = record { ascend = truth _ tt; occur = tt; writable = tt }

-- ---- all fields

all_fields : (Q : FieldTerms → Type 0) (F : ℕ × FieldEntry → FieldTerms) (n : ℕ) (xs : List FieldEntry) → ((i : ℕ) (e : FieldEntry) → slice_get xs i ≡ Some e → Q (F (n + i, e))) → AllByRecursion Q (map F (enumerate_from n xs))
all_fields Q F n [] h = tt
all_fields Q F n (x ∷ xs) h =
    (subst (λ m. Q (F (m, x))) (let z : n + 0 ≡ n = omega arith in z) (h 0 x refl), all_fields Q F (n + 1) xs (λ i e at. subst (λ m. Q (F (m, e))) (let z : n + suc i ≡ n + 1 + i = omega arith in z) (h (suc i) e at)))

module _ (schema : Schema) (analyzer : Analyzer) (ds : List Document) (taken : list_all (is_taken schema analyzer) ds ≡ true) (few : length ds < 2 ^ 31) where
  each_can : (i : ℕ) (e : FieldEntry) → slice_get schema i ≡ Some e → (b : Bool) → is_indexed e ≡ b → CanBeWritten (terms_for e (entries (field_terms schema analyzer ds (i, e))))
  each_can i e at true on =
      let occurred : Document → List Occurrence = λ d. occurrences schema analyzer d i in
      can_be_written e (map occurred ds) (all_fit schema analyzer i e at on ds taken) (omega (arith, few, length-map ds occurred))
  each_can i e at false off = subst (λ terms. CanBeWritten (terms_for e terms)) (sym (no_terms_of schema analyzer ds i e at off e)) (none_can e)

pub taken_terms_can_be_written : TakenTermsCanBeWritten
taken_terms_can_be_written schema analyzer ds taken few =
    all_fields CanBeWritten (λ f. terms_for f.1 (entries (field_terms schema analyzer ds f))) 0 schema (λ i e at.
    subst (λ n. CanBeWritten (terms_for e (entries (field_terms schema analyzer ds (n, e))))) (let z : i ≡ 0 + i = omega arith in z) (each_can schema analyzer ds taken few i e at (is_indexed e) refl))
