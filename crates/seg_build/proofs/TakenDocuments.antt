-- What a document that is taken has passed.
use Rattle.std.proofs.Common.{◌≡◌, ℕ, true, cond, None, Some, Option, length, refl, sym, ap, ◌∙◌}
use Rattle.std.specs.Prelude.{nat_le, is_none, ◌&&◌}
use Rattle.std.specs.List.{list_all}
use Rattle.std.proofs.lemmas.Bool.{false≢true, and_parts}
use Rattle.seg_values.specs.declared.schema.FieldEntry.{FieldEntry}
use Rattle.seg_values.specs.Tree.{levels, Document}
use Rattle.seg_model.specs.TextDocuments.{is_taken}
use Rattle.seg_model.specs.DocumentCheck.{Cause, past_limit, is_u32, kind_fits, field_fits, is_within_limits, fields_refusal, leaves_refusal, order_refusal, limit_refusal, document_refusal}
use Rattle.seg_model.specs.Fields.{Schema, Analyzer, is_indexed, indexing_tokenizer, values_of, fields}
use Rattle.seg_values.specs.StoredBytes.{most_levels_read, stored_form}
use Rattle.seg_model.proofs.Exports.{or_first, or_second, unless_true}
use Rattle.seg_build.proofs.FieldContents.{AreBounded, kind_bounded}
use Rattle.seg_build.proofs.FieldStates.{contents_of}

pub none_is : (o : Option Cause) → is_none o ≡ true → o ≡ None
none_is None h = refl
none_is (Some c) h = absurd (false≢true h)

-- the passes of a document that is taken
pub record HasPassed (schema : Schema) (analyzer : Analyzer) (ps : Document) : Type 0 where
  pub taken : fields_refusal schema ps ≡ None
  pub json : leaves_refusal schema ps ≡ None
  pub order : order_refusal schema analyzer ps ≡ None
  pub fit : list_all (field_fits analyzer ps) (fields schema) ≡ true
  pub shallow : list_all (λ p. nat_le (levels p.1) most_levels_read) ps ≡ true

pub passed : (schema : Schema) (analyzer : Analyzer) (ps : Document) → is_taken schema analyzer ps ≡ true → HasPassed schema analyzer ps
passed schema analyzer ps h =
    let all = none_is (document_refusal schema analyzer ps) h in
    let second = or_second (fields_refusal schema ps) _ all in
    let third = or_second (leaves_refusal schema ps) _ second in
    let fourth = or_second (order_refusal schema analyzer ps) (limit_refusal schema analyzer ps) third in
    let limits = and_parts (list_all (field_fits analyzer ps) (fields schema) && is_u32 (length (stored_form schema ps))) (list_all (λ p. nat_le (levels p.1) most_levels_read) ps) (unless_true (is_within_limits schema analyzer ps) past_limit fourth) in
    record {
      taken = or_first (fields_refusal schema ps) _ all;
      json = or_first (leaves_refusal schema ps) _ second;
      order = or_first (order_refusal schema analyzer ps) (limit_refusal schema analyzer ps) third;
      fit = (and_parts (list_all (field_fits analyzer ps) (fields schema)) (is_u32 (length (stored_form schema ps))) limits.0).0;
      shallow = limits.1;
    }

-- the values of an indexed field are within the limits
pub values_fit : (analyzer : Analyzer) (k : ℕ) (e : FieldEntry) (ps : Document) → is_indexed e ≡ true → field_fits analyzer ps (k, e) ≡ true → (is_u32 (length (values_of k ps)) && kind_fits e.kind e.expand_dots (analyzer (indexing_tokenizer e)) (values_of k ps)) ≡ true
values_fit analyzer k e ps on h =
    ap (λ b. cond b (is_u32 (length (values_of k ps)) && kind_fits e.kind e.expand_dots (analyzer (indexing_tokenizer e)) (values_of k ps)) true) (sym on) ∙ h

-- and what they give is bounded
pub bounded : (analyzer : Analyzer) (k : ℕ) (e : FieldEntry) (ps : Document) → is_indexed e ≡ true → field_fits analyzer ps (k, e) ≡ true → AreBounded (contents_of analyzer e k ps)
bounded analyzer k e ps on h = kind_bounded e.expand_dots (analyzer (indexing_tokenizer e)) e.kind (values_of k ps) (values_fit analyzer k e ps on h)
