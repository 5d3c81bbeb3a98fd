-- The space of the terms of one path and type, in the dictionary of a JSON field.
use Rattle.std.proofs.Common.{◌≡◌, ℕ, zero, suc, ◌+◌, ◌-◌, ◌<◌, ◌≤◌, Bool, true, false, List, [], ◌∷◌, ◌++◌, length, map, take, drop, get_or, sym, ap, subst, ◌∙◌, arith, length-drop, slice_get}
use Rattle.std.specs.Prelude.{IsSomeAnd}
use Rattle.std.specs.List.{list_all, prefix_len, sum_by}
use Rattle.std.specs.List.Sorted.{IsStrictlySortedBy}
use Rattle.std.specs.Ordering.{nat_cmp}
use Rattle.std.specs.Cmp.Lexicographic.{slice_cmp}
use Rattle.std.specs.Str.{IsUtf8, bytes_eq, is_utf8}
use Rattle.std.proofs.lemmas.Bool.{and_parts}
use Rattle.std.proofs.lemmas.List.{append-nil, take-append-drop, drop_all, drop_more, drop-drop, length-take-le}
use Rattle.std.proofs.lemmas.List.Sums.{prefix_len-drop_yes, prefix_len-drop_no, prefix_len-le-length}
use Rattle.std.proofs.lemmas.Str.{IsUtf8-from_is_utf8}
use Rattle.seg_common.specs.declared.term_info.TermInfo.{TermInfo}
use Rattle.seg_values.specs.declared.schema.FieldKind.TheVariants.{Json}
use Rattle.seg_model.specs.DocumentTerms.{type_code}
use Rattle.seg_model.specs.Shape.{is_type_code, path_part}
use Rattle.seg_termdict.specs.Dictionary.{Term}
use Rattle.seg_termdict.specs.LookUps.{HasKeyAt}
use Rattle.seg_termdict.specs.TermStreams.{no_term}
use Rattle.seg_termdict.proofs.Exports.{key_there, info_there}
use Rattle.seg_postings.specs.declared.field_space.InvertedIndexFieldSpace.{InvertedIndexFieldSpace}
use Rattle.seg_postings.specs.TermForms.{has_form, is_formed}
use Rattle.seg_postings.specs.JsonSpaces.{path_and_type, beginning, begins_with, IsSpaceOf, AreSpaces}
use Rattle.seg_postings.specs.JsonRuns.{AreJsonTerms, AddsSpace, IsRunOf}
use Rattle.seg_postings.proofs.JsonRuns.{IsRun, first_run, same_is, put_first, no_spaces}
use Rattle.seg_postings.proofs.RangeSums.{between_places}

abbrev postings_long : Term → ℕ
postings_long t = t.1.postings_end - t.1.postings_start

abbrev positions_long : Term → ℕ
positions_long t = t.1.positions_end - t.1.positions_start

sorted_left : (ts : List Term) (n : ℕ) → IsStrictlySortedBy (slice_cmp nat_cmp) (map (λ (t : Term). t.0) ts) → IsStrictlySortedBy (slice_cmp nat_cmp) (map (λ (t : Term). t.0) (drop n ts))
unfolding IsStrictlySortedBy
sorted_left ts zero sorted = sorted
sorted_left [] (suc n) sorted = tt
sorted_left (t ∷ ts) (suc n) sorted = sorted_left ts n sorted.1

all_at : (p : Term → Bool) (ts : List Term) (i : ℕ) (d : Term) → i < length ts → list_all p ts ≡ true → p (get_or ts i d) ≡ true
all_at p [] i d lt all = absurd (omega (arith, lt))
all_at p (t ∷ ts) zero d lt all = (and_parts (p t) (list_all p ts) all).0
all_at p (t ∷ ts) (suc i) d lt all = all_at p ts i d (omega (arith, lt)) (and_parts (p t) (list_all p ts) all).1

-- ---- where a run ends

module _ (terms : List Term) (place all : ℕ) (key head : List ℕ) (lt : place < length terms) (has : HasKeyAt terms place key) (so_far : place + prefix_len (begins_with head) (drop place terms) ≡ all) where
  there : begins_with head (get_or terms place no_term) ≡ bytes_eq (path_and_type key) head
  there = ap (λ (k : List ℕ). bytes_eq (path_and_type k) head) (key_there terms place key lt has)

  pub run_goes_on : bytes_eq (path_and_type key) head ≡ true → (place + 1) + prefix_len (begins_with head) (drop (place + 1) terms) ≡ all
  run_goes_on is = omega (arith, so_far, prefix_len-drop_yes (begins_with head) terms place no_term lt (there ∙ is))

  pub run_stops : bytes_eq (path_and_type key) head ≡ false → place ≡ all
  run_stops other = omega (arith, so_far, prefix_len-drop_no (begins_with head) terms place no_term lt (there ∙ other))

-- at the end of the terms all spaces are found
pub all_found : (terms : List Term) (start : ℕ) (found : List InvertedIndexFieldSpace) → length terms ≤ start → ((rest : List InvertedIndexFieldSpace) → AreSpaces (drop start terms) rest → AreSpaces terms (found ++ rest)) → AreSpaces terms found
all_found terms start found le so_far =
    subst (λ (l : List InvertedIndexFieldSpace). AreSpaces terms l) (append-nil found) (so_far [] (subst (λ (ts : List Term). AreSpaces ts []) (sym (drop_all start terms le)) no_spaces))

-- ---- the space of a run

module _ (terms : List Term) (json : AreJsonTerms terms) (start : ℕ) (lt : start < length terms) (key : List ℕ) (has : HasKeyAt terms start key) where
  abbrev head : List ℕ
  head = path_and_type key

  abbrev left : List Term
  left = drop start terms

  abbrev here : Term
  here = get_or terms start no_term

  key_is : here.0 ≡ key
  key_is = key_there terms start key lt has

  left_is : left ≡ here ∷ drop (start + 1) terms
  left_is = drop_more terms start no_term lt

  formed : has_form Json key ≡ true
  formed = subst (λ (k : List ℕ). has_form Json k ≡ true) key_is (all_at (is_formed Json) terms start no_term lt json.formed)

  pub is_text : IsUtf8 (path_part key)
  is_text = IsUtf8-from_is_utf8 (path_part key) (and_parts (is_utf8 (path_part key)) (is_type_code (type_code key)) formed).0

  pub is_coded : is_type_code (type_code key) ≡ true
  is_coded = (and_parts (is_utf8 (path_part key)) (is_type_code (type_code key)) formed).1

  abbrev number : ℕ
  number = prefix_len (begins_with head) left

  here_begins : begins_with head here ≡ true
  here_begins = same_is head here (ap path_and_type key_is)

  is_run : IsRun head number left
  is_run =
      let sorted : IsStrictlySortedBy (slice_cmp nat_cmp) (map (λ (t : Term). t.0) (here ∷ drop (start + 1) terms)) = subst (λ (ts : List Term). IsStrictlySortedBy (slice_cmp nat_cmp) (map (λ (t : Term). t.0) ts)) left_is (sorted_left terms start json.ascend) in
      let run : IsRun (path_and_type here.0) (prefix_len (begins_with (path_and_type here.0)) (here ∷ drop (start + 1) terms)) (here ∷ drop (start + 1) terms) = first_run here (drop (start + 1) terms) sorted in
      subst (λ (k : List ℕ). IsRun (path_and_type k) (prefix_len (begins_with (path_and_type k)) left) left) key_is
      (subst (λ (ts : List Term). IsRun (path_and_type here.0) (prefix_len (begins_with (path_and_type here.0)) ts) ts) (sym left_is) run)

  module _ (end : ℕ) (is_end : end ≡ start + number) where
    pub forward : start < end
    forward = omega (arith, is_end, prefix_len-drop_yes (begins_with head) terms start no_term lt here_begins)

    pub within : end ≤ length terms
    within = omega (arith, is_end, lt, prefix_len-le-length (begins_with head) left, length-drop start terms)

    pub last_there : end - 1 < length terms
    last_there = omega (arith, forward, within)

    number_is : end - start ≡ number
    number_is = omega (arith, is_end)

    module _ (first last : TermInfo) (first_is : IsSomeAnd (slice_get terms start) (λ t. t.1 ≡ first)) (last_is : IsSomeAnd (slice_get terms (end - 1)) (λ t. t.1 ≡ last)) where
      first_info : here.1 ≡ first
      first_info = info_there terms start first lt first_is

      last_info : (get_or terms (end - 1) no_term).1 ≡ last
      last_info = info_there terms (end - 1) last last_there last_is

      postings_long_together : first.postings_start + sum_by postings_long (take (end - start) left) ≡ last.postings_end
      postings_long_together =
          ap (λ (i : TermInfo). i.postings_start + sum_by postings_long (take (end - start) left)) (sym first_info)
          ∙ between_places (λ t. t.1.postings_start) (λ t. t.1.postings_end) terms start end 0 no_term forward within json.follow.postings
          ∙ ap (λ (i : TermInfo). i.postings_end) last_info

      positions_long_together : first.positions_start + sum_by positions_long (take (end - start) left) ≡ last.positions_end
      positions_long_together =
          ap (λ (i : TermInfo). i.positions_start + sum_by positions_long (take (end - start) left)) (sym first_info)
          ∙ between_places (λ t. t.1.positions_start) (λ t. t.1.positions_end) terms start end 0 no_term forward within json.follow.positions
          ∙ ap (λ (i : TermInfo). i.positions_end) last_info

      pub postings_rise : first.postings_start ≤ last.postings_end
      postings_rise = omega (arith, postings_long_together)

      pub positions_rise : first.positions_start ≤ last.positions_end
      positions_rise = omega (arith, positions_long_together)

      module _ (space : InvertedIndexFieldSpace) (count : ℕ) (count_is : count ≡ end - start) (is : IsRunOf key first last count space) where
        size : length (take (end - start) left) ≡ end - start
        size = length-take-le (end - start) left (omega (arith, forward, within, length-drop start terms))

        own : IsSpaceOf (take (end - start) left) space
        own =
            let n = is.number_is in
            let p = is.postings in
            let q = is.positions in
            record {
              number = n ∙ count_is ∙ sym size;
              occur = omega (arith, n, count_is, forward);
              postings = p ∙ (let sum = postings_long_together in omega (arith, sum));
              positions = q ∙ (let sum = positions_long_together in omega (arith, sum));
            }

        run : IsRun (beginning space) (end - start) left
        run = subst (λ (h : List ℕ). IsRun h (end - start) left) (sym is.begins) (subst (λ (n : ℕ). IsRun head n left) (sym number_is) is_run)

        behind_is : drop (end - start) left ≡ drop end terms
        behind_is = drop-drop (end - start) start terms ∙ ap (λ (n : ℕ). drop n terms) (let f = forward in let e : start + (end - start) ≡ end = omega (arith, f) in e)

        comes_first : (rest : List InvertedIndexFieldSpace) → AreSpaces (drop end terms) rest → AreSpaces left (space ∷ rest)
        comes_first rest are =
            subst (λ (ts : List Term). AreSpaces ts (space ∷ rest)) (take-append-drop (end - start) left)
            (put_first space (take (end - start) left) (drop (end - start) left) run.alike run.behind own rest
            (subst (λ (ts : List Term). AreSpaces ts rest) (sym behind_is) are))

        pub adds : (before after : List InvertedIndexFieldSpace) → after ≡ before ++ space ∷ [] → AddsSpace terms start end before after
        adds before after added = record { space = space; added = added; forward = forward; within = within; first = comes_first }
