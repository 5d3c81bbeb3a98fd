-- What a writer keeps after one more document.
use Rattle.std.proofs.Common.{◌≡◌, ℕ, suc, ◌+◌, ◌<◌, ◌≤◌, ◌^◌, ◌-◌, Bool, true, List, [], ◌∷◌, ◌++◌, map, length, take, drop, get_or, Some, None, Option, option_map, refl, sym, ap, ◌∙◌, subst, arith, length-append}
use Rattle.std.specs.Prelude.{IsSomeAnd, IfSome}
use Rattle.std.specs.List.{AllByRecursion, list_all}
use Rattle.std.proofs.lemmas.Bool.{and_from, and_parts}
use Rattle.std.proofs.lemmas.List.{length-map, map-append, take_at}
use Rattle.std.proofs.Math.Seq.{take-length}
use Rattle.seg_values.specs.declared.schema.FieldEntry.{FieldEntry}
use Rattle.seg_values.specs.Tree.{Tree, Document}
use Rattle.seg_values.specs.Utf8Values.{IsUtf8Document}
use Rattle.seg_model.specs.TextDocuments.{is_taken}
use Rattle.seg_model.specs.DocumentCheck.{document_refusal}
use Rattle.seg_model.specs.Columns.{fast_values}
use Rattle.seg_model.specs.Fields.{Schema, Analyzer}
use Rattle.seg_model.specs.DocumentTerms.{stored_document}
use Rattle.seg_model.specs.ValidInputs.{Known}
use Rattle.seg_column_format.specs.FastTokenizers.{AreKnown}
use Rattle.seg_fastfield.specs.FastFieldWriters.{Holds}
use Rattle.seg_values.specs.StoredBytes.{stored_form}
use Rattle.seg_store.specs.BlockLaw.{AreTakenLast}
use Rattle.seg_store.specs.WriterBlocks.{taken_count}
use Rattle.seg_check.specs.IndexedValues.{IndexedContent, IsPlainIn, value_in, value_of, document_values}
use Rattle.seg_check.specs.declared.indexed_value.IndexedValue.{IndexedValue}
use Rattle.seg_build.specs.WriterContents.{Kept}
use Rattle.seg_build.specs.DocumentLengths.{HaveLengths, with_lengths}
use Rattle.seg_build.specs.MemoryUsage.{occurrence_count, value_count}
use Rattle.seg_build.specs.SegmentWriters.{kept_of, Stores, IsKeptOf, IsUnderWay, HasPlace, Adds, HasRoom, HasTaken}
use Rattle.seg_build.specs.FieldsByValue.{AllFit, fresh, indexed_part, with_documents, with_pairs, with_values}
use Rattle.seg_build.specs.StoredBlocks.{stored_with}
use Rattle.seg_build.specs.FieldState.{FieldSoFar}
use Rattle.seg_build.specs.declared.writer_parts.WriterParts.{WriterParts}
use Rattle.seg_common.proofs.Lists.{all_push}
use Rattle.seg_build.proofs.FittingValues.{document_fits}
use Rattle.seg_build.proofs.KeptLengths.{fields_turn, lengths_turn}
use Rattle.seg_build.proofs.StoredDocuments.{HasStored, shallow_taken, stored_turn}
use Rattle.seg_build.proofs.TakenDocuments.{none_is, passed}
use Rattle.seg_build.proofs.ValueSteps.{values-pairs}
use Rattle.seg_build.proofs.UsedMemory.{total-last}
use Rattle.seg_build.proofs.ValueCounts.{values_counted}
use Rattle.seg_build.proofs.AllDocuments.{all_more, all_fresh, length-with_documents}

-- ---- lists with one more at the end

drop-front : {X : Type 0} (xs : List X) (x : X) → drop (length xs) (xs ++ x ∷ []) ≡ x ∷ drop (length xs + 1) (xs ++ x ∷ [])
drop-front [] x = refl
drop-front (y ∷ ys) x = drop-front ys x ∙ ap (λ n. x ∷ drop n (y ∷ (ys ++ x ∷ []))) (let z : suc (length ys + 1) ≡ suc (length ys) + 1 = omega arith in z)

get_or-last : {X : Type 0} (xs : List X) (x : X) → x ≡ get_or (xs ++ x ∷ []) (length xs) x
get_or-last [] x = refl
get_or-last (y ∷ ys) x = get_or-last ys x

all-last : {X : Type 0} (test : X → Bool) (xs : List X) (x : X) → list_all test xs ≡ true → test x ≡ true → list_all test (xs ++ x ∷ []) ≡ true
all-last test [] x h t = and_from (test x) true t refl
all-last test (y ∷ ys) x h t =
    let two = and_parts (test y) (list_all test ys) h in
    and_from (test y) (list_all test (ys ++ x ∷ [])) two.0 (all-last test ys x two.1 t)

weaker : {X : Type 0} (P Q : X → Type 0) (o : Option X) → ((x : X) → P x → Q x) → IsSomeAnd o P → IsSomeAnd o Q
weaker P Q (Some x) f h = f x h
weaker P Q None f h = absurd h

if_some : {X : Type 0} (P : X → Type 0) (o : Option X) → IsSomeAnd o P → IfSome o P
if_some P (Some x) h = h
if_some P None h = absurd h

module _ (schema : Schema) (analyzer : Analyzer) (documents : List Document) (d : Document) (taken : is_taken schema analyzer d ≡ true) (utf8 : IsUtf8Document d) (size : ℕ) (stamps : List ℕ) (stamp : ℕ) (old : Kept) (are : IsKeptOf schema analyzer size documents stamps old) (place : HasPlace old) where
  abbrev all : List Document
  all = documents ++ d ∷ []

  abbrev many : ℕ
  many = length documents

  more : length all ≡ many + 1
  more = length-append documents (d ∷ [])

  within : many ≤ length all
  within = omega (arith, more)

  before : take many all ≡ documents
  before = take_at documents (d ∷ []) many refl

  whole : take (many + 1) all ≡ all
  whole = ap (λ n. take n all) (sym more) ∙ take-length all

  count : length old.stamps ≡ many
  count = ap length are.stamped ∙ are.each

  few : many < 2 ^ 31 - 1
  few = omega (arith, count, place)

  pub has_room : (known : Known) → AreKnown known schema → (found : List IndexedValue) → map (value_in d) found ≡ document_values schema analyzer d → AllByRecursion (IsPlainIn d) found → HasRoom known analyzer d found old
  has_room known all_known found found_are keys = record {
    place = place;
    passes = subst (λ (s : Schema). document_refusal s analyzer d ≡ None) (sym are.fast_schema) (none_is (document_refusal schema analyzer d) taken);
    fast_tokenizers = subst (AreKnown known) (sym are.fast_schema) all_known;
    rows = subst (λ n. n < 2 ^ 31 - 1) (sym (are.fast.rows_are ∙ length-map documents (fast_values schema analyzer))) few;
    shallow = shallow_taken d (passed schema analyzer d taken).shallow;
    fit =
        let fit = document_fits schema analyzer d taken documents (with_documents schema analyzer 0 (map (λ _. fresh) schema) documents) (all_more schema analyzer [] (map (λ _. fresh) schema) documents (all_fresh schema analyzer)) in
        let values_are : map (value_in d) found ≡ map (value_of schema analyzer) (indexed_part schema d) = found_are in
        subst (λ (n : ℕ). AllFit n old.fields (map (value_in d) found)) (sym count)
        (subst (λ (fs : List FieldSoFar). AllFit many fs (map (value_in d) found)) (sym are.fields)
        (subst (λ (vs : List (ℕ × IndexedContent)). AllFit many (with_documents schema analyzer 0 (map (λ _. fresh) schema) documents) vs) (sym values_are) fit));
    keys = keys;
    store = if_some _ old.store (weaker (Stores schema size documents) (λ w. taken_count w < 2 ^ 31 - 1) old.store (λ w s. omega (arith, s.count, few)) are.store);
  }

  module _ (in_order : AreTakenLast) (found : List IndexedValue) (found_are : map (value_in d) found ≡ document_values schema analyzer d) (new : Kept) (took : HasTaken schema analyzer d found stamp old new) where
    abbrev values : List (ℕ × IndexedContent)
    values = map (value_in d) found

    values_are : values ≡ map (value_of schema analyzer) (indexed_part schema d)
    values_are = found_are

    places : map (λ (v : IndexedValue). v.field) found ≡ map (λ (p : ℕ × Tree). p.0) (indexed_part schema d)
    places = in_values found ∙ ap (map (λ (v : ℕ × IndexedContent). v.0)) values_are ∙ in_pairs (indexed_part schema d)
      where
        in_values : (vs : List IndexedValue) → map (λ (v : IndexedValue). v.field) vs ≡ map (λ (v : ℕ × IndexedContent). v.0) (map (value_in d) vs)
        in_values [] = refl
        in_values (v ∷ vs) = ap (λ l. v.field ∷ l) (in_values vs)

        in_pairs : (ps : Document) → map (λ (v : ℕ × IndexedContent). v.0) (map (value_of schema analyzer) ps) ≡ map (λ (p : ℕ × Tree). p.0) ps
        in_pairs [] = refl
        in_pairs (p ∷ ps) = ap (λ l. p.0 ∷ l) (in_pairs ps)

    now : old.fields ≡ with_documents schema analyzer 0 (map (λ _. fresh) schema) (take many all)
    now = are.fields ∙ ap (with_documents schema analyzer 0 (map (λ _. fresh) schema)) (sym before)

    after : new.fields ≡ with_pairs schema analyzer many old.fields (indexed_part schema d)
    after = took.fields ∙ ap (λ n. with_values n old.fields values) count ∙ ap (with_values many old.fields) values_are ∙ values-pairs schema analyzer many old.fields (indexed_part schema d)

    here : drop many all ≡ d ∷ drop (many + 1) all
    here = drop-front documents d

    stored : IsSomeAnd new.store (HasStored schema size all (many + 1))
    stored = stored_turn in_order schema size all many d (omega (arith, more)) (get_or-last documents d) (stored_form schema d) old.store new.store took.store refl took.reads
        (weaker (Stores schema size documents) (HasStored schema size all many) old.store (λ w s. record { read = s.read ∙ ap (map (stored_document schema)) (sym before); taken = s.count; forms = s.forms ∙ ap (map (stored_form schema)) (sym before); cut = s.cut ∙ ap (λ ds. stored_with size (map (stored_form schema) ds)) (sym before) }) are.store)

    fields_now : new.fields ≡ with_documents schema analyzer 0 (map (λ _. fresh) schema) all
    fields_now = fields_turn schema analyzer all many within d here (map (λ _. fresh) schema) old.fields new.fields now after ∙ ap (with_documents schema analyzer 0 (map (λ _. fresh) schema)) whole

    as_many : length new.fields ≡ length schema
    as_many = ap length fields_now ∙ length-with_documents schema analyzer 0 (map (λ (e : FieldEntry). fresh) schema) all ∙ length-map schema (λ (e : FieldEntry). fresh)

    -- what it has in fast fields
    recorded : map (fast_values schema analyzer) documents ++ fast_values old.fast.schema analyzer d ∷ [] ≡ map (fast_values schema analyzer) all
    recorded =
        ap (λ (s : Schema). map (fast_values schema analyzer) documents ++ fast_values s analyzer d ∷ []) are.fast_schema
        ∙ sym (map-append (fast_values schema analyzer) documents (d ∷ []))

    -- how often terms occur in its values
    counted_as : value_count values ≡ occurrence_count schema analyzer d
    counted_as = ap value_count values_are ∙ values_counted schema analyzer d

    pub one_more : IsKeptOf schema analyzer size (documents ++ d ∷ []) (stamps ++ stamp ∷ []) new
    one_more = record {
      taken = all-last (is_taken schema analyzer) documents d are.taken taken;
      few = omega (arith, few, more);
      utf8 = all_push IsUtf8Document documents d are.utf8 utf8;
      fields = fields_now;
      norms = subst (λ ds. IsSomeAnd new.norms (HaveLengths schema analyzer ds)) whole
          (lengths_turn schema analyzer all many within d here (map (λ _. fresh) schema) old.fields new.fields refl now after as_many (map (λ (v : IndexedValue). v.field) found) places old.norms new.norms
          (subst (λ ds. IsSomeAnd old.norms (HaveLengths schema analyzer ds)) (sym before) are.norms)
          (took.norms ∙ ap (λ n. option_map (with_lengths n new.fields (map (λ (v : IndexedValue). v.field) found)) old.norms) count));
      fast_schema = took.fast_schema ∙ are.fast_schema;
      fast = subst (λ l. Holds l new.fast) recorded (took.fast (map (fast_values schema analyzer) documents) are.fast);
      store = weaker (HasStored schema size all (many + 1)) (Stores schema size all) new.store (λ w s. record { read = s.read ∙ ap (map (stored_document schema)) whole; count = s.taken ∙ sym more; forms = s.forms ∙ ap (map (stored_form schema)) whole; cut = s.cut ∙ ap (λ ds. stored_with size (map (stored_form schema) ds)) whole }) stored;
      stamped = took.stamps ∙ ap (λ l. l ++ stamp ∷ []) are.stamped;
      each = omega (arith, length-append stamps (stamp ∷ []), more, are.each);
      occurrences = omega (arith, counted_as, took.occurrences, are.occurrences, total-last (occurrence_count schema analyzer) documents d);
    }

-- ---- the parts of a writer

pub of_parts : (P : Kept → Type 0) (o : Option WriterParts) (p : WriterParts) → o ≡ Some p → IsSomeAnd (option_map kept_of o) P → P (kept_of p)
of_parts P o p is h = subst (λ x. IsSomeAnd (option_map kept_of x) P) is h

pub to_parts : (P : Kept → Type 0) (o : Option WriterParts) (p : WriterParts) → o ≡ Some p → P (kept_of p) → IsSomeAnd (option_map kept_of o) P
to_parts P o p is h = subst (λ x. IsSomeAnd (option_map kept_of x) P) (sym is) h

module _ (schema : Schema) (analyzer : Analyzer) (d : Document) (taken : is_taken schema analyzer d ≡ true) (utf8 : IsUtf8Document d) (stamp : ℕ) (parts : Option WriterParts) (p : WriterParts) (is : parts ≡ Some p) (place : HasPlace (kept_of p)) where
  under : IfSome parts (λ p. IsUnderWay schema analyzer (kept_of p)) → IsUnderWay schema analyzer (kept_of p)
  under h = subst (λ x. IfSome x (λ p. IsUnderWay schema analyzer (kept_of p))) is h

  -- a writer under way can take one more document
  pub room_of : (known : Known) → AreKnown known schema → (values : List IndexedValue) → map (value_in d) values ≡ document_values schema analyzer d → AllByRecursion (IsPlainIn d) values → IfSome parts (λ p. IsUnderWay schema analyzer (kept_of p)) → HasRoom known analyzer d values (kept_of p)
  room_of known all_known values values_are keys h = let u = under h in has_room schema analyzer u.documents d taken utf8 u.block_size u.stamps stamp (kept_of p) u.are place known all_known values values_are keys

  module _ (in_order : AreTakenLast) (values : List IndexedValue) (values_are : map (value_in d) values ≡ document_values schema analyzer d) (new : WriterParts) (took : HasTaken schema analyzer d values stamp (kept_of p) (kept_of new)) where
    -- is under way after it
    pub still_under_way : IfSome parts (λ p. IsUnderWay schema analyzer (kept_of p)) → IsUnderWay schema analyzer (kept_of new)
    still_under_way h =
        let u = under h in
        record {
          block_size = u.block_size;
          documents = u.documents ++ d ∷ [];
          stamps = u.stamps ++ stamp ∷ [];
          are = one_more schema analyzer u.documents d taken utf8 u.block_size u.stamps stamp (kept_of p) u.are place in_order values values_are (kept_of new) took;
        }

    -- and has added it
    pub adds : (id size : ℕ) → Adds analyzer d stamp (record { schema = schema; id = id; block_size = size; kept = option_map kept_of parts }) (record { schema = schema; id = id; block_size = size; kept = Some (kept_of new) })
    adds id size = record {
      place = to_parts HasPlace parts p is place;
      taken = taken;
      following = λ documents stamps h. one_more schema analyzer documents d taken utf8 size stamps stamp (kept_of p) (of_parts (IsKeptOf schema analyzer size documents stamps) parts p is h) place in_order values values_are (kept_of new) took;
    }
