-- The causes for which a document is not taken: each is one of six.
use Rattle.std.proofs.Common.{ℕ, Bool, true, false, List, [], ◌∷◌, cond, Some, None, Option}
use Rattle.std.specs.Prelude.{IfSome}
use Rattle.std.specs.List.{slice_get, list_all}
use Rattle.std.specs.Option.{option_or}
use Rattle.seg_values.specs.declared.schema.FieldEntry.{FieldEntry}
use Rattle.seg_values.specs.Tree.{Tree, leaf, array, object, Trees, no_trees, tree, Members, no_members, member, Document}
use Rattle.seg_model.specs.DocumentCheck.{Cause, unknown_field, wrong_value, json_leaf, json_key, positions_fall, past_limit, first_of, unless, value_refusal, is_json_leaf, has_no_zero, tree_refusal, trees_refusal, members_refusal, is_checked_json, json_refusal, is_rising, value_texts, positions_refusal, is_within_limits, fields_refusal, leaves_refusal, order_refusal, limit_refusal, document_refusal}
use Rattle.seg_model.specs.Fields.{Schema, Analyzer, is_indexed, indexing_tokenizer}
use Rattle.seg_model.specs.Occurrences.{counted}
use Rattle.seg_model.specs.AcceptedTrees.{takes}

module _ {X : Type 0} (P : X → Type 0) where
  -- the first of two
  pub or_each : (a b : Option X) → IfSome a P → IfSome b P → IfSome (option_or a b) P
  or_each None b h k = k
  or_each (Some x) b h k = h

  -- what stands unless a test holds
  pub unless_each : (b : Bool) (x : X) → P x → IfSome (unless b x) P
  unless_each true x h = tt
  unless_each false x h = h

  -- what stands if a test holds
  pub if_each : (b : Bool) (o : Option X) → IfSome o P → IfSome (cond b o None) P
  if_each true o h = h
  if_each false o h = tt

  -- the first that something of a list has
  pub first_each : {Y : Type 0} (f : Y → Option X) → ((y : Y) → IfSome (f y) P) → (ys : List Y) → IfSome (first_of f ys) P
  first_each f h [] = tt
  first_each f h (y ∷ ys) = or_each (f y) (first_of f ys) (h y) (first_each f h ys)

-- each cause has a property
pub record EachHas (P : Cause → Type 0) : Type 0 where
  pub unknown : P unknown_field
  pub wrong : (field : ℕ) → P (wrong_value field)
  pub leaf : P json_leaf
  pub key : P json_key
  pub falls : P positions_fall
  pub past : P past_limit

module _ (P : Cause → Type 0) (each : EachHas P) where
  value-has : (field : ℕ) (t : Tree) (o : Option FieldEntry) → IfSome (value_refusal field t o) P
  value-has field t None = each.unknown
  value-has field t (Some entry) = unless_each P (takes entry t) (wrong_value field) (each.wrong field)

  mutual
    tree-has : (t : Tree) → IfSome (tree_refusal t) P
    tree-has (leaf l) = unless_each P (is_json_leaf l) json_leaf each.leaf
    tree-has (array ts) = trees-has ts
    tree-has (object ms) = members-has ms

    trees-has : (ts : Trees) → IfSome (trees_refusal ts) P
    trees-has no_trees = tt
    trees-has (tree t ts) = or_each P (tree_refusal t) (trees_refusal ts) (tree-has t) (trees-has ts)

    members-has : (ms : Members) → IfSome (members_refusal ms) P
    members-has no_members = tt
    members-has (member key t ms) =
        or_each P (unless (has_no_zero key) json_key) (option_or (tree_refusal t) (members_refusal ms))
        (unless_each P (has_no_zero key) json_key each.key)
        (or_each P (tree_refusal t) (members_refusal ms) (tree-has t) (members-has ms))

  json-has : (t : Tree) (o : Option FieldEntry) → IfSome (json_refusal t o) P
  json-has t None = tt
  json-has t (Some entry) = if_each P (is_checked_json entry) (tree_refusal t) (tree-has t)

  positions-has : (analyzer : Analyzer) (t : Tree) (o : Option FieldEntry) → IfSome (positions_refusal analyzer t o) P
  positions-has analyzer t None = tt
  positions-has analyzer t (Some entry) =
      let rises = list_all (λ tokens. is_rising (counted tokens)) (value_texts entry.kind (analyzer (indexing_tokenizer entry)) t) in
      if_each P (is_indexed entry) (unless rises positions_fall) (unless_each P rises positions_fall each.falls)

  pub cause-has : (schema : Schema) (analyzer : Analyzer) (document : Document) → IfSome (document_refusal schema analyzer document) P
  cause-has schema analyzer document =
      or_each P (fields_refusal schema document) _
      (first_each P (λ (p : ℕ × Tree). value_refusal p.0 p.1 (slice_get schema p.0))
      (λ p. value-has p.0 p.1 (slice_get schema p.0)) document)
      (or_each P (leaves_refusal schema document) _
      (first_each P (λ (p : ℕ × Tree). json_refusal p.1 (slice_get schema p.0))
      (λ p. json-has p.1 (slice_get schema p.0)) document)
      (or_each P (order_refusal schema analyzer document) (limit_refusal schema analyzer document)
      (first_each P (λ (p : ℕ × Tree). positions_refusal analyzer p.1 (slice_get schema p.0))
      (λ p. positions-has analyzer p.1 (slice_get schema p.0)) document)
      (unless_each P (is_within_limits schema analyzer document) past_limit each.past)))
