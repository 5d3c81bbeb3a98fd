-- Things after their number that are printed with commas between them.
use Rattle.std.proofs.Common.{◌≡◌, ◌≤◌, ◌<◌, ℕ, ◌+◌, ◌-◌, Bool, true, false, List, [], ◌∷◌, ◌++◌, Some, refl, sym, ap, ◌∙◌, append_assoc, append-nil}
use Rattle.serde_json.specs.Data.{Data, Items, no_items, item, array}
use Rattle.serde_json.specs.Written.{comma_if, compact_text, items_text}
use Rattle.seg_common.specs.Varint.{varint_at}
use Rattle.seg_doc_bytes.specs.FrontReaders.{Reader, counted_at}
use Rattle.seg_doc_bytes.proofs.Exports.{Gathered, none_yet, one_more, all_made, counted}
use Rattle.seg_values.specs.Tree as tree
use Rattle.seg_values.specs.Tree.{Tree, Document, trees_from}
use Rattle.seg_tokens.specs.declared.token.Token.{Token}
use Rattle.seg_values.specs.ValueJson.{value_json, items_json, token_json, tokens_items}
use Rattle.seg_model.specs.Fields.{Schema}
use Rattle.seg_text.specs.DocumentText.{pair_json, pairs_items}
use Rattle.seg_text.specs.PrintedFronts.{HasMore, Printed}
use Rattle.seg_text.proofs.PrintedFronts.{not_more, more_by, more_then}

-- things as items
abbrev pub listed : {A : Type 0} → (A → Data) → List A → Items
listed json [] = no_items
listed json (x ∷ xs) = item (json x) (listed json xs)

-- their text
abbrev pub listed_text : {A : Type 0} → (A → Data) → List A → List ℕ
listed_text json xs = compact_text (array (listed json xs))

-- some were printed after `before`, and this many are left
pub record ItemsPrinted {A : Type 0} (read : Reader A) (json : A → Data) (count : ℕ) (old : List ℕ) (left : ℕ) (now before out : List ℕ) (later : Bool) : Type 0 where
  pub values : List A
  pub gathered : Gathered read count old values left now
  pub so_far : (xs : List A) → before ++ items_text false (listed json (values ++ xs)) ≡ out ++ items_text later (listed json xs)
  pub grown : HasMore before out

-- none yet
pub no_item : {A : Type 0} (read : Reader A) (json : A → Data) (count : ℕ) (old before : List ℕ) → ItemsPrinted read json count old (count - 0) old before before false
no_item read json count old before = record { values = []; gathered = none_yet read count old [] refl; so_far = λ xs. refl; grown = not_more before }

-- one more
pub one_item : {A : Type 0} (read : Reader A) (json : A → Data) (count : ℕ) (old : List ℕ) (i : ℕ) (now next before out mid after : List ℕ) (later : Bool)
    → i < count → ItemsPrinted read json count old (count - i) now before out later → mid ≡ out ++ comma_if later
    → Printed read (λ x. compact_text (json x)) now next mid after
    → ItemsPrinted read json count old (count - (i + 1)) next before after true
one_item read json count old i now next before out mid after later lt s comma p =
    let text = compact_text (json p.value) in
    let split : after ≡ out ++ (comma_if later ++ text) = p.printed ∙ ap (λ o. o ++ text) comma ∙ append_assoc out (comma_if later) text in
    record {
      values = s.values ++ p.value ∷ [];
      gathered = one_more read count old s.values (s.values ++ p.value ∷ []) p.value i now next lt s.gathered p.is refl;
      so_far = λ xs.
          ap (λ ys. before ++ items_text false (listed json ys)) (append_assoc s.values (p.value ∷ []) xs)
          ∙ s.so_far (p.value ∷ xs)
          ∙ sym (ap (λ o. o ++ items_text true (listed json xs)) split
          ∙ append_assoc out (comma_if later ++ text) (items_text true (listed json xs))
          ∙ ap (λ o. out ++ o) (append_assoc (comma_if later) text (items_text true (listed json xs))));
      grown = more_then before out after s.grown (more_by out after (comma_if later ++ text) split);
    }

-- one that was given up
pub item_given_up : (start before out mid after first comma : List ℕ) → before ≡ start ++ first → HasMore before out → mid ≡ out ++ comma → HasMore mid after → HasMore start after
item_given_up start before out mid after first comma head grown one more =
    more_then start before after (more_by start before first head) (more_then before out after grown (more_then out mid after (more_by out mid comma one) more))

-- all of them
pub all_items : {A : Type 0} (read : Reader A) (json : A → Data) (bytes : List ℕ) (count : ℕ) (old : List ℕ) (i : ℕ) (now start before out last : List ℕ) (later : Bool)
    → varint_at bytes ≡ Some (count, old) → before ≡ start ++ 91 ∷ [] → count ≤ i → ItemsPrinted read json count old (count - i) now before out later → last ≡ out ++ 93 ∷ []
    → Printed (counted_at read) (listed_text json) bytes now start last
all_items read json bytes count old i now start before out last later number head past s end = record {
  value = s.values;
  is = counted read bytes old count (Some (s.values, now)) number (all_made read count old s.values i now past s.gathered);
  printed =
      end
      ∙ sym (s.so_far [])
      ∙ ap (λ xs. before ++ items_text false (listed json xs)) (append-nil s.values)
      ∙ ap (λ o. o ++ items_text false (listed json s.values)) head
      ∙ append_assoc start (91 ∷ []) (items_text false (listed json s.values));
}

pub trees_listed : (ts : List Tree) → listed_text value_json ts ≡ compact_text (value_json (tree.array (trees_from ts)))
trees_listed ts = ap (λ items. compact_text (array items)) (same ts)
  where
    same : (us : List Tree) → listed value_json us ≡ items_json (trees_from us)
    same [] = refl
    same (u ∷ us) = ap (item (value_json u)) (same us)

pub pairs_listed : (schema : Schema) (ps : Document) → listed_text (pair_json schema) ps ≡ compact_text (array (pairs_items schema ps))
pairs_listed schema ps = ap (λ items. compact_text (array items)) (same ps)
  where
    same : (qs : Document) → listed (pair_json schema) qs ≡ pairs_items schema qs
    same [] = refl
    same (q ∷ qs) = ap (item (pair_json schema q)) (same qs)

pub tokens_listed : (ts : List Token) → listed_text token_json ts ≡ compact_text (array (tokens_items ts))
tokens_listed ts = ap (λ items. compact_text (array items)) (same ts)
  where
    same : (us : List Token) → listed token_json us ≡ tokens_items us
    same [] = refl
    same (u ∷ us) = ap (item (token_json u)) (same us)
