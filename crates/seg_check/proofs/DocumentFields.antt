-- The values of a document come in one after another, each in its field.
use Rattle.std.proofs.Common.{◌≡◌, ℕ, zero, suc, ◌+◌, ◌<◌, ◌≤◌, get_or, ◌⊎◌, inl, inr, Bool, true, false, cond, List, [], ◌∷◌, ◌++◌, map, length, take, drop, Some, None, Option, refl, sym, ap, ◌∙◌, subst, append-nil, add-one, arith}
use Rattle.std.specs.Prelude.{◌&&◌, ◌||◌, filter, nat_eq, is_some, is_none, IfOk, Ok, Err, Result}
use Rattle.std.specs.HashMap.{HashMap, Updates, get}
use Rattle.std.specs.List.{AllByRecursion, slice_get}
use Rattle.std.specs.Option.{option_or}
use Rattle.std.specs.Cmp.{nat_eq_equiv}
use Rattle.std.proofs.lemmas.Bool.{false≢true, eqb-true}
use Rattle.std.proofs.lemmas.List.{map-append}
use Rattle.std.proofs.lemmas.List.Elements.{filter-append}
use Rattle.std.proofs.lemmas.Option.{same_Some}
use Rattle.seg_common.proofs.Lists.{drop-slice_get}
use Rattle.seg_values.specs.Tree.{Tree, Document}
use Rattle.seg_values.specs.declared.schema.FieldEntry.{FieldEntry}
use Rattle.seg_tokens.specs.declared.token.Token.{Token}
use Rattle.seg_model.specs.DocumentCheck.{Cause, unless, json_refusal, tree_refusal, positions_fall, value_texts, positions_refusal, order_refusal, fields_refusal, leaves_refusal, limit_refusal, document_refusal}
use Rattle.seg_values.specs.declared.schema.FieldKind.TheVariants.{Json}
use Rattle.seg_model.specs.Fields.{Schema, Analyzer, is_json, is_indexed, indexing_tokenizer, values_of}
use Rattle.seg_check.specs.DocumentFields.{StandsAt, AllStand}
use Rattle.seg_check.specs.TextSizes.{all_rise}
use Rattle.seg_check.specs.FieldContents.{Stands}
use Rattle.seg_check.specs.declared.field_totals.FieldTotals.{FieldTotals}

-- ---- one more value

values-last : (place field : ℕ) (t : Tree) (b : Bool) (came : Document) → nat_eq place field ≡ b → values_of place (came ++ (field, t) ∷ []) ≡ values_of place came ++ cond b (t ∷ []) []
values-last place field t b came e =
    ap (map (λ (p : ℕ × Tree). p.1)) (filter-append (λ (p : ℕ × Tree). nat_eq place p.0) came ((field, t) ∷ []))
    ∙ map-append (λ (p : ℕ × Tree). p.1) (filter (λ (p : ℕ × Tree). nat_eq place p.0) came) (cond (nat_eq place field) ((field, t) ∷ []) [])
    ∙ ap (λ l. values_of place came ++ l) (by_case (nat_eq place field) b e)
  where
    by_case : (a b : Bool) → a ≡ b → map (λ (p : ℕ × Tree). p.1) (cond a ((field, t) ∷ []) []) ≡ cond b (t ∷ []) []
    by_case true true e = refl
    by_case false false e = refl
    by_case true false e = absurd (false≢true (sym e))
    by_case false true e = absurd (false≢true e)

module _ {S : Type 0} (schema : Schema) (analyzer : Analyzer) (totals : HashMap ℕ FieldTotals S) (came : Document) (field : ℕ) (t : Tree) (stand : AllStand schema analyzer totals came) where
  here-or-there : (place : ℕ) (entry : FieldEntry) (o : Option FieldTotals) (b : Bool) → nat_eq place field ≡ b → (b ≡ true → StandsAt entry (analyzer (indexing_tokenizer entry)) o (values_of place came ++ t ∷ [])) → (b ≡ false → StandsAt entry (analyzer (indexing_tokenizer entry)) o (values_of place came)) → StandsAt entry (analyzer (indexing_tokenizer entry)) o (values_of place (came ++ (field, t) ∷ []))
  here-or-there place entry o true e here there = subst (λ l. StandsAt entry (analyzer (indexing_tokenizer entry)) o l) (sym (values-last place field t true came e)) (here refl)
  here-or-there place entry o false e here there = subst (λ l. StandsAt entry (analyzer (indexing_tokenizer entry)) o l) (sym (values-last place field t false came e ∙ append-nil (values_of place came))) (there refl)

  -- a field that is not indexed, or is not there
  pub not-indexed : ((entry : FieldEntry) → slice_get schema field ≡ Some entry → is_indexed entry ≡ false) → AllStand schema analyzer totals (came ++ (field, t) ∷ [])
  not-indexed out place entry e indexed = here-or-there place entry (get nat_eq totals place) (nat_eq place field) refl
      (λ same. absurd (false≢true (sym (out entry (ap (slice_get schema) (sym (eqb-true place field same)) ∙ e)) ∙ indexed)))
      (λ other. stand place entry e indexed)

  pub one-field : (entry : FieldEntry) (after : HashMap ℕ FieldTotals S) (new : FieldTotals) → slice_get schema field ≡ Some entry → is_indexed entry ≡ true → Updates nat_eq totals after field (Some new) → (StandsAt entry (analyzer (indexing_tokenizer entry)) (get nat_eq totals field) (values_of field came) → Stands entry (analyzer (indexing_tokenizer entry)) new (values_of field came ++ t ∷ [])) → AllStand schema analyzer after (came ++ (field, t) ∷ [])
  one-field entry after new at_entry indexed updates more place other e on = here-or-there place other (get nat_eq after place) (nat_eq place field) refl
      (λ same. here place other (eqb-true place field same) e)
      (λ apart. subst (λ o. StandsAt other (analyzer (indexing_tokenizer other)) o (values_of place came)) (sym (updates.2 place (nat_eq_equiv.symm field place ∙ apart))) (stand place other e on))
    where
      here : (place : ℕ) (other : FieldEntry) → place ≡ field → slice_get schema place ≡ Some other → StandsAt other (analyzer (indexing_tokenizer other)) (get nat_eq after place) (values_of place came ++ t ∷ [])
      here place other same e =
          let entry_is : entry ≡ other = same_Some entry other (sym at_entry ∙ ap (slice_get schema) (sym same) ∙ e) in
          subst (λ k. StandsAt other (analyzer (indexing_tokenizer other)) (get nat_eq after k) (values_of k came ++ t ∷ [])) (sym same)
          (subst (λ o. StandsAt other (analyzer (indexing_tokenizer other)) o (values_of field came ++ t ∷ [])) (sym updates.1)
          (subst (λ x. Stands x (analyzer (indexing_tokenizer x)) new (values_of field came ++ t ∷ [])) entry_is (more (stand field entry at_entry indexed))))

-- what a value adds to a field that has totals
pub to-some : (entry : FieldEntry) (analyze : List ℕ → List Token) (o : Option FieldTotals) (old new : FieldTotals) (values : List Tree) (t : Tree) → o ≡ Some old → (Stands entry analyze old values → Stands entry analyze new (values ++ t ∷ [])) → StandsAt entry analyze o values → Stands entry analyze new (values ++ t ∷ [])
to-some entry analyze o old new values t is more stands = more (subst (λ x. StandsAt entry analyze x values) is stands)

-- and to one that has none
pub to-none : (entry : FieldEntry) (analyze : List ℕ → List Token) (o : Option FieldTotals) (new : FieldTotals) (values : List Tree) (t : Tree) → o ≡ None → Stands entry analyze new ([] ++ t ∷ []) → StandsAt entry analyze o values → Stands entry analyze new (values ++ t ∷ [])
to-none entry analyze o new values t is one stands = subst (λ vs. Stands entry analyze new (vs ++ t ∷ [])) (sym (subst (λ x. StandsAt entry analyze x values) is stands)) one

-- ---- the order of positions

is_none-unless : (b : Bool) → is_none (unless b positions_fall) ≡ b
is_none-unless true = refl
is_none-unless false = refl

pub order-of : (analyzer : Analyzer) (schema : Schema) (field : ℕ) (t : Tree) (entry : FieldEntry) → slice_get schema field ≡ Some entry → is_indexed entry ≡ true → all_rise (value_texts entry.kind (analyzer (indexing_tokenizer entry)) t) ≡ is_none (positions_refusal analyzer t (slice_get schema field))
order-of analyzer schema field t entry at indexed =
    sym (ap (λ o. is_none (positions_refusal analyzer t o)) at
    ∙ ap (λ b. is_none (cond b (unless (all_rise (value_texts entry.kind (analyzer (indexing_tokenizer entry)) t)) positions_fall) None)) indexed
    ∙ is_none-unless (all_rise (value_texts entry.kind (analyzer (indexing_tokenizer entry)) t)))

pub order-none : (analyzer : Analyzer) (schema : Schema) (field : ℕ) (t : Tree) (entry : FieldEntry) → slice_get schema field ≡ Some entry → is_indexed entry ≡ false → true ≡ is_none (positions_refusal analyzer t (slice_get schema field))
order-none analyzer schema field t entry at out =
    sym (ap (λ o. is_none (positions_refusal analyzer t o)) at
    ∙ ap (λ b. is_none (cond b (unless (all_rise (value_texts entry.kind (analyzer (indexing_tokenizer entry)) t)) positions_fall) None)) out)

none-else : (o later : Option Cause) → is_none o ≡ true → option_or o later ≡ later
none-else None later h = refl
none-else (Some r) later h = absurd (false≢true h)

some-else : (o later : Option Cause) → is_none o ≡ false → is_none (option_or o later) ≡ false
some-else None later h = absurd (false≢true (sym h))
some-else (Some r) later h = refl

none-first : (o later : Option Cause) → option_or o later ≡ None → o ≡ None
none-first None later h = refl
none-first (Some r) later h = absurd (false≢true (ap is_none h))

none-second : (o later : Option Cause) → option_or o later ≡ None → later ≡ None
none-second None later h = h
none-second (Some r) later h = absurd (false≢true (ap is_none h))

-- no pair of these has a leaf or a key that it may not have
module _ (schema : Schema) (document : Document) (i field : ℕ) (t : Tree) (at : slice_get document i ≡ Some (field, t)) (none : leaves_refusal schema (drop i document) ≡ None) where
  both-none : option_or (json_refusal t (slice_get schema field)) (leaves_refusal schema (drop (i + 1) document)) ≡ None
  both-none = sym (ap (leaves_refusal schema) (drop-slice_get document i (field, t) at)) ∙ none

  pub none-here : json_refusal t (slice_get schema field) ≡ None
  none-here = none-first (json_refusal t (slice_get schema field)) (leaves_refusal schema (drop (i + 1) document)) both-none

  pub none-following : leaves_refusal schema (drop (i + 1) document) ≡ None
  none-following = none-second (json_refusal t (slice_get schema field)) (leaves_refusal schema (drop (i + 1) document)) both-none

-- and so the value of a JSON field that is indexed
pub keys-plain : (schema : Schema) (field : ℕ) (t : Tree) (entry : FieldEntry) → slice_get schema field ≡ Some entry → is_indexed entry ≡ true → json_refusal t (slice_get schema field) ≡ None → entry.kind ≡ Json → tree_refusal t ≡ None
keys-plain schema field t entry at indexed none json =
    sym (ap (json_refusal t) at
    ∙ ap (λ k. cond (is_json k && (is_indexed entry || entry.fast)) (tree_refusal t) None) json
    ∙ ap (λ b. cond (b || entry.fast) (tree_refusal t) None) indexed)
    ∙ none

module _ (schema : Schema) (analyzer : Analyzer) (document : Document) (i field : ℕ) (t : Tree) (at : slice_get document i ≡ Some (field, t)) where
  pub rises-on : is_none (positions_refusal analyzer t (slice_get schema field)) ≡ true → order_refusal schema analyzer (drop (i + 1) document) ≡ order_refusal schema analyzer (drop i document)
  rises-on h = sym (ap (order_refusal schema analyzer) (drop-slice_get document i (field, t) at) ∙ none-else (positions_refusal analyzer t (slice_get schema field)) (order_refusal schema analyzer (drop (i + 1) document)) h)

  pub falls : is_none (positions_refusal analyzer t (slice_get schema field)) ≡ false → false ≡ is_none (order_refusal schema analyzer (drop i document))
  falls h = sym (ap (λ d. is_none (order_refusal schema analyzer d)) (drop-slice_get document i (field, t) at) ∙ some-else (positions_refusal analyzer t (slice_get schema field)) (order_refusal schema analyzer (drop (i + 1) document)) h)

  pub take-more : take (i + 1) document ≡ take i document ++ (field, t) ∷ []
  take-more = ap (λ k. take k document) (add-one i) ∙ taken document i at
    where
      taken : (d : Document) (k : ℕ) → slice_get d k ≡ Some (field, t) → take (suc k) d ≡ take k d ++ (field, t) ∷ []
      taken [] k e = absurd (false≢true (ap is_some e))
      taken (p ∷ d) zero e = ap (λ x. x ∷ []) (same_Some p (field, t) e)
      taken (p ∷ d) (suc k) e = ap (λ l. p ∷ l) (taken d k e)

-- ---- what is at a place

pub each-at : {X : Type 0} (P : X → Type 0) (xs : List X) (i : ℕ) (x : X) → AllByRecursion P xs → slice_get xs i ≡ Some x → P x
each-at P [] i x all at = absurd (false≢true (ap is_some at))
each-at P (y ∷ ys) zero x all at = subst P (same_Some y x at) all.0
each-at P (y ∷ ys) (suc i) x all at = each-at P ys i x all.1 at

pub read-at : {X : Type 0} (xs : List X) (place k : ℕ) (x : X) → place < length xs → x ≡ get_or xs place x → place ≡ k → slice_get xs k ≡ Some x
read-at {X} xs place k x lt is same = ap (slice_get xs) (sym same) ∙ read xs place lt is
  where
    read : (ys : List X) (i : ℕ) → i < length ys → x ≡ get_or ys i x → slice_get ys i ≡ Some x
    read [] i lt is = absurd (omega arith)
    read (y ∷ ys) zero lt is = ap Some (sym is)
    read (y ∷ ys) (suc i) lt is = read ys i (omega arith) is

pub none-past : {X : Type 0} (xs : List X) (place k : ℕ) (x : X) → length xs ≤ place → place ≡ k → slice_get xs k ≡ Some x → ⊥
none-past {X} xs place k x le same e = past xs k (omega (arith, le, same)) e
  where
    past : (ys : List X) (i : ℕ) → length ys ≤ i → slice_get ys i ≡ Some x → ⊥
    past [] i le e = false≢true (ap is_some e)
    past (y ∷ ys) zero le e = absurd (omega arith)
    past (y ∷ ys) (suc i) le e = past ys i (omega arith) e

-- what holds of each beginning where the answer is Ok true
pub stand-if : {T E : Type 0} (r : Result Bool E) (new : T) (All : T → Type 0) (Before : List Tree → Type 0) (After : T → List Tree → Type 0) → ((values : List Tree) → Before values → IfOk r (λ rises. rises ≡ true → After new values)) → (((values : List Tree) → Before values → After new values) → All new) → IfOk r (λ rises. rises ≡ true → All new)
stand-if (Ok b) new All Before After each make = λ is. make (λ values before. each values before is)
stand-if (Err e) new All Before After each make = tt

-- the only refusal of the order
pub only-falls : (schema : Schema) (analyzer : Analyzer) (document : Document) → is_none (order_refusal schema analyzer document) ≡ false → order_refusal schema analyzer document ≡ Some positions_fall
only-falls schema analyzer [] h = absurd (false≢true (sym h))
only-falls schema analyzer (p ∷ ps) h = by_case (one p.1 (slice_get schema p.0)) (only-falls schema analyzer ps) h
  where
    falls-only : (b : Bool) → (unless b positions_fall ≡ None) ⊎ (unless b positions_fall ≡ Some positions_fall)
    falls-only true = inl refl
    falls-only false = inr refl

    one : (t : Tree) (o : Option FieldEntry) → (positions_refusal analyzer t o ≡ None) ⊎ (positions_refusal analyzer t o ≡ Some positions_fall)
    one t None = inl refl
    one t (Some entry) = indexed (is_indexed entry)
      where
        indexed : (b : Bool) → (cond b (unless (all_rise (value_texts entry.kind (analyzer (indexing_tokenizer entry)) t)) positions_fall) None ≡ None) ⊎ (cond b (unless (all_rise (value_texts entry.kind (analyzer (indexing_tokenizer entry)) t)) positions_fall) None ≡ Some positions_fall)
        indexed true = falls-only (all_rise (value_texts entry.kind (analyzer (indexing_tokenizer entry)) t))
        indexed false = inl refl

    by_case : (positions_refusal analyzer p.1 (slice_get schema p.0) ≡ None) ⊎ (positions_refusal analyzer p.1 (slice_get schema p.0) ≡ Some positions_fall) → (is_none (order_refusal schema analyzer ps) ≡ false → order_refusal schema analyzer ps ≡ Some positions_fall) → is_none (option_or (positions_refusal analyzer p.1 (slice_get schema p.0)) (order_refusal schema analyzer ps)) ≡ false → option_or (positions_refusal analyzer p.1 (slice_get schema p.0)) (order_refusal schema analyzer ps) ≡ Some positions_fall
    by_case (inl none) rest h = ap (λ o. option_or o (order_refusal schema analyzer ps)) none ∙ rest (ap (λ o. is_none (option_or o (order_refusal schema analyzer ps))) (sym none) ∙ h)
    by_case (inr some) rest h = ap (λ o. option_or o (order_refusal schema analyzer ps)) some

pub falls-third : (schema : Schema) (analyzer : Analyzer) (document : Document) → fields_refusal schema document ≡ None → leaves_refusal schema document ≡ None → is_none (order_refusal schema analyzer document) ≡ false → Some positions_fall ≡ document_refusal schema analyzer document
falls-third schema analyzer document fields leaves falls =
    sym (ap (λ o. option_or o (option_or (leaves_refusal schema document) (option_or (order_refusal schema analyzer document) (limit_refusal schema analyzer document)))) fields
    ∙ ap (λ o. option_or o (option_or (order_refusal schema analyzer document) (limit_refusal schema analyzer document))) leaves
    ∙ ap (λ o. option_or o (limit_refusal schema analyzer document)) (only-falls schema analyzer document falls))
