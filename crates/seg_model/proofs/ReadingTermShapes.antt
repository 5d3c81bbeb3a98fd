-- The terms of a reading are of full shape.
use Rattle.std.proofs.Common.{◌≡◌, ℕ, suc, ◌+◌, Bool, true, false, cond, List, [], ◌∷◌, ◌++◌, map, length, Some, None, sym, refl, ap, ◌∙◌, subst, arith, append_assoc}
use Rattle.std.specs.Prelude.{◌||◌, ◌&&◌, nat_eq, nat_lt, ◌^◌, filter, is_some, IsUtf8, pos}
use mathlib.Core.Bool.{true≢false}
use Rattle.std.specs.List.{flat_map, slice_get, AllByRecursion}
use Rattle.std.specs.Ordering.{nat_cmp, eq_by_cmp}
use Rattle.std.specs.Cmp.Lexicographic.{slice_cmp}
use Rattle.std.specs.FinMap.{get}
use Rattle.std.specs.Int.{w64, to_be_bytes}
use Rattle.std.proofs.lemmas.Bool.Decides.{nat_tests}
use Rattle.std.proofs.lemmas.List.Folds.{list_any-append}
use Rattle.std.proofs.lemmas.List.{length-map}
use Rattle.seg_common.proofs.Lists.{all_both, all_each, all_map}
use Rattle.seg_tokens.specs.declared.token.Token.{Token}
use Rattle.seg_values.specs.declared.schema.FieldEntry.{FieldEntry}
use Rattle.seg_values.specs.declared.schema.FieldKind.{FieldKind}
use Rattle.seg_values.specs.declared.schema.FieldKind.TheVariants as kinds
use Rattle.seg_values.specs.declared.schema.IndexOption.{IndexOption}
use Rattle.seg_values.specs.declared.schema.IndexOption.TheVariants.{No, Basic, Freqs, Positions}
use Rattle.seg_values.specs.Tree.{Leaf, null, text, pre_tokenized, unsigned, signed, boolean, date, facet, byte_string, ip, Tree, leaf, array, object, Trees, no_trees, tree, Members, no_members, member, Document}
use Rattle.seg_values.specs.Utf8Values.{IsUtf8Tree, AreUtf8Trees, AreUtf8Members, IsUtf8Document}
use Rattle.seg_model.specs.Fields.{Schema, Analyzer, is_json, is_facet, is_indexed, indexing_tokenizer, values_of}
use Rattle.seg_model.specs.Leaves.{PlacedLeaf, level_in_array, leaves_at, leaves_of_trees, leaves_of_members, leaves, leaves_of, joined_path}
use Rattle.seg_model.specs.AcceptedTrees.{is_own_leaf, is_own_array, is_of_kind, takes}
use Rattle.seg_common.specs.TabulatedMaps.{is_among}
use Rattle.seg_values.specs.ValueBytes.{raised}
use Rattle.seg_model.specs.Occurrences.{Occurrence, counted, facet_prefixes, at_zero, value_terms, leaf_occurrences, json_occurrences, kind_occurrences, occurrences_at, occurrences}
use Rattle.seg_model.specs.DocumentTerms.{Posting, positions_of, if_occurs, term_option, recorded_in, postings_of, terms_of}
use Rattle.seg_model.specs.DocumentCheck.{first_of, unless, value_refusal, is_json_leaf, has_no_zero, tree_refusal, trees_refusal, members_refusal, is_checked_json, json_refusal, wrong_value, json_leaf, json_key, IsSound}
use Rattle.seg_model.specs.Shape.{IsTermOf, IsTermWith, ArePostings, is_type_code}
use Rattle.seg_model.proofs.FirstAnswers.{or_first, or_second, unless_true}
use Rattle.seg_common.proofs.TabulatedMaps.{texts_apart, same_key}
use Rattle.seg_model.proofs.JoinedTerms.{get-terms_of, complete_terms}
use Rattle.seg_model.proofs.TermShapes.{IsMaybeRecordOf, ArePostings-from, some_if_any}
use Rattle.seg_model.proofs.Utf8Paths.{AreUtf8, HaveNoZero, IsUtf8-joined_path, has_no_zero-joined_path, path_part-path, type_code-path, AreUtf8-facet_prefixes}

-- ---- sound values of a field

pub record IsSoundValue (entry : FieldEntry) (t : Tree) : Type 0 where
  pub taken : takes entry t ≡ true
  pub json : json_refusal t (Some entry) ≡ None
  pub utf8 : IsUtf8Tree t

module _ (schema : Schema) (i : ℕ) (e : FieldEntry) (at : slice_get schema i ≡ Some e) where
  sound_pair : (p : ℕ × Tree) → i ≡ p.0 → value_refusal p.0 p.1 (slice_get schema p.0) ≡ None → json_refusal p.1 (slice_get schema p.0) ≡ None → IsUtf8Tree p.1 → IsSoundValue e p.1
  sound_pair p is v j u =
      let found : slice_get schema p.0 ≡ Some e = sym (ap (slice_get schema) is) ∙ at in
      record {
        taken = unless_true (takes e p.1) (wrong_value p.0) (sym (ap (value_refusal p.0 p.1) found) ∙ v);
        json = sym (ap (json_refusal p.1) found) ∙ j;
        utf8 = u;
      }

  sound_values : (d : Document) → first_of (λ p. value_refusal p.0 p.1 (slice_get schema p.0)) d ≡ None → first_of (λ p. json_refusal p.1 (slice_get schema p.0)) d ≡ None → IsUtf8Document d → AllByRecursion (IsSoundValue e) (values_of i d)
  sound_values [] v j u = tt
  sound_values (p ∷ ps) v j u = by (nat_eq i p.0) refl (sound_values ps (or_second (value_refusal p.0 p.1 (slice_get schema p.0)) _ v) (or_second (json_refusal p.1 (slice_get schema p.0)) _ j) u.1)
    where
      by : (b : Bool) → nat_eq i p.0 ≡ b → AllByRecursion (IsSoundValue e) (values_of i ps) → AllByRecursion (IsSoundValue e) (map (λ (x : ℕ × Tree). x.1) (cond b (p ∷ filter (λ x. nat_eq i x.0) ps) (filter (λ x. nat_eq i x.0) ps)))
      by true is rest = (sound_pair p (let z : i ≡ p.0 = grind (arith, nat_tests) in z) (or_first (value_refusal p.0 p.1 (slice_get schema p.0)) _ v) (or_first (json_refusal p.1 (slice_get schema p.0)) _ j) u.0, rest)
      by false is rest = rest

  pub values_sound : (d : Document) → IsSound schema d → AllByRecursion (IsSoundValue e) (values_of i d)
  values_sound d s = sound_values d s.taken s.json s.utf8

-- ---- leaves of JSON fields

pub record IsSoundLeaf (p : PlacedLeaf) : Type 0 where
  pub keys_utf8 : AreUtf8 p.keys
  pub keys_no_zero : HaveNoZero p.keys
  pub is_json : is_json_leaf p.leaf ≡ true

mutual
  sound_leaves : (keys : List (List ℕ)) (level : ℕ) (t : Tree) → AreUtf8 keys → HaveNoZero keys → tree_refusal t ≡ None → IsUtf8Tree t → AllByRecursion IsSoundLeaf (leaves_at keys level t)
  sound_leaves keys level (leaf l) u z r h = (record { keys_utf8 = u; keys_no_zero = z; is_json = unless_true (is_json_leaf l) json_leaf r }, tt)
  sound_leaves keys level (array ts) u z r h = sound_tree_leaves keys (level_in_array level) ts u z r h
  sound_leaves keys level (object ms) u z r h = sound_member_leaves keys (suc level) ms u z r h

  sound_tree_leaves : (keys : List (List ℕ)) (level : ℕ) (ts : Trees) → AreUtf8 keys → HaveNoZero keys → trees_refusal ts ≡ None → AreUtf8Trees ts → AllByRecursion IsSoundLeaf (leaves_of_trees keys level ts)
  sound_tree_leaves keys level no_trees u z r h = tt
  sound_tree_leaves keys level (tree t ts) u z r h = all_both IsSoundLeaf _ _ (sound_leaves keys level t u z (or_first (tree_refusal t) _ r) h.0) (sound_tree_leaves keys level ts u z (or_second (tree_refusal t) _ r) h.1)

  sound_member_leaves : (keys : List (List ℕ)) (level : ℕ) (ms : Members) → AreUtf8 keys → HaveNoZero keys → members_refusal ms ≡ None → AreUtf8Members ms → AllByRecursion IsSoundLeaf (leaves_of_members keys level ms)
  sound_member_leaves keys level no_members u z r h = tt
  sound_member_leaves keys level (member key t ms) u z r h =
      all_both IsSoundLeaf _ _
      (sound_leaves (keys ++ key ∷ []) level t (all_both IsUtf8 keys (key ∷ []) u (h.0, tt)) (all_both _ keys (key ∷ []) z (unless_true (has_no_zero key) json_key (or_first (unless (has_no_zero key) json_key) _ r), tt)) (or_first (tree_refusal t) _ (or_second (unless (has_no_zero key) json_key) _ r)) h.1)
      (sound_member_leaves keys level ms u z (or_second (tree_refusal t) _ (or_second (unless (has_no_zero key) json_key) _ r)) h.2)

pub sound_leaves_of : (e : FieldEntry) → is_checked_json e ≡ true → (values : List Tree) → AllByRecursion (IsSoundValue e) values → AllByRecursion IsSoundLeaf (leaves_of values)
sound_leaves_of e c [] h = tt
sound_leaves_of e c (t ∷ ts) h =
    all_both IsSoundLeaf (leaves t) (leaves_of ts)
    (sound_leaves [] 0 t tt tt (sym (ap (λ b. cond b (tree_refusal t) None) c) ∙ h.0.json) h.0.utf8)
    (sound_leaves_of e c ts h.1)

-- ---- the form of terms

-- a field that is neither JSON nor facet takes any bytes
plain_form : (e : FieldEntry) (bytes : List ℕ) → is_json e.kind ≡ false → is_facet e.kind ≡ false → IsTermOf e bytes
plain_form e bytes j f = record { json = λ h. absurd (true≢false (sym h ∙ j)); facet = λ h. absurd (true≢false (sym h ∙ f)) }

pub each-flat_map : {X Y : Type 0} (P : Y → Type 0) (Q : X → Type 0) (f : X → List Y) → ((x : X) → Q x → AllByRecursion P (f x)) → (xs : List X) → AllByRecursion Q xs → AllByRecursion P (flat_map f xs)
each-flat_map P Q f g [] h = tt
each-flat_map P Q f g (x ∷ xs) h = all_both P (f x) (flat_map f xs) (g x h.0) (each-flat_map P Q f g xs h.1)

module _ (e : FieldEntry) where
  abbrev HasForm : Occurrence → Type 0
  HasForm o = IsTermOf e o.bytes

  json_form : is_facet e.kind ≡ false → (path : List ℕ) (code : ℕ) (rest : List ℕ) → IsUtf8 path → has_no_zero path ≡ true → is_type_code code ≡ true → IsTermOf e (path ++ 0 ∷ code ∷ rest)
  json_form f path code rest u z c = record {
    json = λ _. (subst IsUtf8 (sym (path_part-path path (code ∷ rest) z)) u, ap is_type_code (type_code-path path code rest z) ∙ c);
    facet = λ h. absurd (true≢false (sym h ∙ f));
  }

  leaf_forms : is_facet e.kind ≡ false → (analyze : List ℕ → List Token) (path : List ℕ) (start : ℕ) (l : Leaf) → IsUtf8 path → has_no_zero path ≡ true → AllByRecursion (λ o. IsTermOf e o.bytes) (leaf_occurrences analyze path start l)
  leaf_forms f analyze path start (text s) u z = all_map (λ o. IsTermOf e o.bytes) _ (counted (analyze s)) (all_each _ (λ t. subst (IsTermOf e) (sym (append_assoc path (0 ∷ 115 ∷ []) t.text)) (json_form f path 115 t.text u z refl)) (counted (analyze s)))
  leaf_forms f analyze path start null u z = tt
  leaf_forms f analyze path start (pre_tokenized p) u z = tt
  leaf_forms f analyze path start (unsigned n) u z = (by (nat_lt n (2 ^ 63)), tt)
    where
      by : (b : Bool) → IsTermOf e (path ++ 0 ∷ cond b (105 ∷ to_be_bytes w64 (raised (pos n))) (117 ∷ to_be_bytes w64 n))
      by true = json_form f path 105 _ u z refl
      by false = json_form f path 117 _ u z refl
  leaf_forms f analyze path start (signed n) u z = (json_form f path 105 _ u z refl, tt)
  leaf_forms f analyze path start (boolean n) u z = (json_form f path 111 _ u z refl, tt)
  leaf_forms f analyze path start (date n) u z = (json_form f path 100 _ u z refl, tt)
  leaf_forms f analyze path start (facet n) u z = tt
  leaf_forms f analyze path start (byte_string n) u z = tt
  leaf_forms f analyze path start (ip n) u z = tt

  json_forms : is_facet e.kind ≡ false → (expand : Bool) (analyze : List ℕ → List Token) (before found : List PlacedLeaf) → AllByRecursion IsSoundLeaf found → AllByRecursion (λ o. IsTermOf e o.bytes) (json_occurrences expand analyze before found)
  json_forms f expand analyze before [] h = tt
  json_forms f expand analyze before (p ∷ found) h =
      all_both _ _ _ (leaf_forms f analyze (joined_path expand p.keys) _ p.leaf (IsUtf8-joined_path expand p.keys h.0.keys_utf8) (has_no_zero-joined_path expand p.keys h.0.keys_no_zero))
      (json_forms f expand analyze (before ++ p ∷ []) found h.1)

  facet_form : is_json e.kind ≡ false → (bytes : List ℕ) → IsUtf8 bytes → IsTermOf e bytes
  facet_form j bytes u = record { json = λ h. absurd (true≢false (sym h ∙ j)); facet = λ _. u }

  facet_leaf_forms : is_json e.kind ≡ false → (l : Leaf) → is_of_kind kinds.Facet l ≡ true → IsUtf8Tree (leaf l) → AllByRecursion (IsTermOf e) (value_terms (leaf l))
  facet_leaf_forms j (facet s) k u = all (facet_prefixes s) (AreUtf8-facet_prefixes s u)
    where
      all : (xs : List (List ℕ)) → AreUtf8 xs → AllByRecursion (IsTermOf e) xs
      all [] h = tt
      all (x ∷ xs) h = (facet_form j x h.0, all xs h.1)
  facet_leaf_forms j null k u = absurd (true≢false (sym k))
  facet_leaf_forms j (text s) k u = absurd (true≢false (sym k))
  facet_leaf_forms j (pre_tokenized s) k u = absurd (true≢false (sym k))
  facet_leaf_forms j (unsigned s) k u = absurd (true≢false (sym k))
  facet_leaf_forms j (signed s) k u = absurd (true≢false (sym k))
  facet_leaf_forms j (boolean s) k u = absurd (true≢false (sym k))
  facet_leaf_forms j (date s) k u = absurd (true≢false (sym k))
  facet_leaf_forms j (byte_string s) k u = absurd (true≢false (sym k))
  facet_leaf_forms j (ip s) k u = absurd (true≢false (sym k))

  facet_value_forms : is_json e.kind ≡ false → (t : Tree) → is_own_leaf kinds.Facet t ≡ true → IsUtf8Tree t → AllByRecursion (IsTermOf e) (value_terms t)
  facet_value_forms j (leaf l) k u = facet_leaf_forms j l k u
  facet_value_forms j (array ts) k u = tt
  facet_value_forms j (object ms) k u = tt

  own_leaf : is_json e.kind ≡ false → is_indexed e ≡ true → (t : Tree) → takes e t ≡ true → is_own_leaf e.kind t ≡ true
  own_leaf j on t k = sym (λ i. cond (j i) true (cond (on i) (is_own_leaf e.kind t) (cond e.fast (is_own_array e.kind t) true))) ∙ k

  kind_forms : is_indexed e ≡ true → (kind : FieldKind) → e.kind ≡ kind → (expand : Bool) (analyze : List ℕ → List Token) (values : List Tree) → AllByRecursion (IsSoundValue e) values → AllByRecursion (λ o. IsTermOf e o.bytes) (kind_occurrences kind expand analyze values)
  kind_forms on kinds.Text is expand analyze values h = all_each _ (λ o. plain_form e o.bytes (ap is_json is) (ap is_facet is)) _
  kind_forms on kinds.U64 is expand analyze values h = all_each _ (λ o. plain_form e o.bytes (ap is_json is) (ap is_facet is)) _
  kind_forms on kinds.I64 is expand analyze values h = all_each _ (λ o. plain_form e o.bytes (ap is_json is) (ap is_facet is)) _
  kind_forms on kinds.Bool is expand analyze values h = all_each _ (λ o. plain_form e o.bytes (ap is_json is) (ap is_facet is)) _
  kind_forms on kinds.Date is expand analyze values h = all_each _ (λ o. plain_form e o.bytes (ap is_json is) (ap is_facet is)) _
  kind_forms on kinds.Facet is expand analyze values h =
      all_map (λ o. IsTermOf e o.bytes) at_zero (flat_map value_terms values)
      (each-flat_map (IsTermOf e) (IsSoundValue e) value_terms (λ t s. facet_value_forms (ap is_json is) t (sym (ap (λ k. is_own_leaf k t) is) ∙ own_leaf (ap is_json is) on t s.taken) s.utf8) values h)
  kind_forms on kinds.Bytes is expand analyze values h = all_each _ (λ o. plain_form e o.bytes (ap is_json is) (ap is_facet is)) _
  kind_forms on kinds.IpAddr is expand analyze values h = all_each _ (λ o. plain_form e o.bytes (ap is_json is) (ap is_facet is)) _
  kind_forms on kinds.Json is expand analyze values h = json_forms (ap is_facet is) expand analyze [] (leaves_of values) (sound_leaves_of e (λ i. is_json (is i) && (on i || e.fast)) values h)

-- ---- the terms of a field

records_of : (option : IndexOption) (ps : List ℕ) → IsMaybeRecordOf option (if_occurs option ps)
records_of option [] = tt
records_of No (p ∷ ps) = refl
records_of Basic (p ∷ ps) = refl
records_of Freqs (p ∷ ps) = (length (p ∷ ps), omega arith, refl)
records_of Positions (p ∷ ps) = (p ∷ ps, omega arith, refl)

module _ (e : FieldEntry) (q : List ℕ) where
  form_in_document : (os : List Occurrence) → AllByRecursion (λ o. IsTermOf e o.bytes) os → is_among (slice_cmp nat_cmp) (map (λ o. o.bytes) os) q ≡ true → IsTermOf e q
  form_in_document [] h k = absurd (true≢false (sym k))
  form_in_document (o ∷ os) h k = by (eq_by_cmp (slice_cmp nat_cmp) q o.bytes) refl k (form_in_document os h.1)
    where
      by : (b : Bool) → eq_by_cmp (slice_cmp nat_cmp) q o.bytes ≡ b → (b || is_among (slice_cmp nat_cmp) (map (λ (x : Occurrence). x.bytes) os) q) ≡ true → (is_among (slice_cmp nat_cmp) (map (λ x. x.bytes) os) q ≡ true → IsTermOf e q) → IsTermOf e q
      by true is k later = subst (IsTermOf e) (sym (same_key texts_apart q o.bytes is)) h.0
      by false is k later = later k

  form_in_documents : (ds : List (List Occurrence)) → AllByRecursion (AllByRecursion (λ o. IsTermOf e o.bytes)) ds → is_among (slice_cmp nat_cmp) (flat_map (map (λ o. o.bytes)) ds) q ≡ true → IsTermOf e q
  form_in_documents [] h k = absurd (true≢false (sym k))
  form_in_documents (d ∷ ds) h k = by (is_among (slice_cmp nat_cmp) (map (λ o. o.bytes) d) q) refl (sym (list_any-append (eq_by_cmp (slice_cmp nat_cmp) q) (map (λ (o : Occurrence). o.bytes) d) (flat_map (map (λ o. o.bytes)) ds)) ∙ k) (form_in_documents ds h.1)
    where
      by : (b : Bool) → is_among (slice_cmp nat_cmp) (map (λ o. o.bytes) d) q ≡ b → (is_among (slice_cmp nat_cmp) (map (λ o. o.bytes) d) q || is_among (slice_cmp nat_cmp) (flat_map (map (λ o. o.bytes)) ds) q) ≡ true → (is_among (slice_cmp nat_cmp) (flat_map (map (λ o. o.bytes)) ds) q ≡ true → IsTermOf e q) → IsTermOf e q
      by true is k later = form_in_document d h.0 is
      by false is k later = later (sym (ap (λ b. b || is_among (slice_cmp nat_cmp) (flat_map (map (λ o. o.bytes)) ds) q) is) ∙ k)

  pub term_read : (ds : List (List Occurrence)) → AllByRecursion (AllByRecursion (λ o. IsTermOf e o.bytes)) ds → (postings : List Posting) → get (terms_of e ds) q ≡ Some postings → IsTermWith e (length ds) q postings
  term_read ds h postings g =
      let told = some_if_any (postings_of e q ds) postings (sym (get-terms_of e ds q) ∙ g) in
      let P : List Posting → Type 0 = λ l. ArePostings (term_option e q) 0 (length ds) l in
      let N : ℕ → Type 0 = λ n. ArePostings (term_option e q) 0 n (postings_of e q ds) in
      record {
        form = by (is_among (slice_cmp nat_cmp) (flat_map (map (λ o. o.bytes)) ds) q) refl;
        occurs = told.1;
        postings_ascend = subst P (sym told.0) (subst N (let z : 0 + length (map (recorded_in e q) ds) ≡ length ds = omega (arith, length-map ds (recorded_in e q)) in z) (ArePostings-from (term_option e q) 0 (map (recorded_in e q) ds) (all_map (IsMaybeRecordOf (term_option e q)) (recorded_in e q) ds (all_each _ (λ os. records_of (term_option e q) (positions_of q os)) ds))));
      }
    where
      by : (b : Bool) → is_among (slice_cmp nat_cmp) (flat_map (map (λ o. o.bytes)) ds) q ≡ b → IsTermOf e q
      by true k = form_in_documents ds h k
      by false k = absurd (true≢false (ap is_some (sym g ∙ get-terms_of e ds q ∙ (complete_terms e ds).outside q k)))

-- the occurrences of sound documents have the form of their field
pub forms_of : (schema : Schema) (analyzer : Analyzer) (i : ℕ) (e : FieldEntry) → slice_get schema i ≡ Some e → is_indexed e ≡ true → (ds : List Document) → AllByRecursion (IsSound schema) ds → AllByRecursion (AllByRecursion (λ o. IsTermOf e o.bytes)) (map (λ d. occurrences schema analyzer d i) ds)
forms_of schema analyzer i e at on [] h = tt
forms_of schema analyzer i e at on (d ∷ ds) h =
    let P : List Occurrence → Type 0 = AllByRecursion (λ o. IsTermOf e o.bytes) in
    let field : occurrences schema analyzer d i ≡ kind_occurrences e.kind e.expand_dots (analyzer (indexing_tokenizer e)) (values_of i d) = ap (occurrences_at analyzer d i) at ∙ ap (λ b. cond b (kind_occurrences e.kind e.expand_dots (analyzer (indexing_tokenizer e)) (values_of i d)) []) on in
    (subst P (sym field) (kind_forms e on e.kind refl e.expand_dots (analyzer (indexing_tokenizer e)) (values_of i d) (values_sound schema i e at d h.0)), forms_of schema analyzer i e at on ds h.1)
