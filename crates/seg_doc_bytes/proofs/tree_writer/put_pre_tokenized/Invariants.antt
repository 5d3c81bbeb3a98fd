use Rattle.std.proofs.Common.{◌≡◌, ◌++◌, drop}
use Rattle.std.specs.List.{flat_map}
use Rattle.seg_values.specs.StoredBytes.{token_form}
use Rattle.seg_doc_bytes.specs.StorableDocuments.{AreTokens}
use Rattle.seg_doc_bytes.proofs.tree_writer.put_pre_tokenized.Given as goal

-- what is so far, with what is left, is all
abbrev pub invariant-loop-token : goal.invariant-loop-token
invariant-loop-token l = record {
  form : l.out.items ++ flat_map token_form (drop l.token-index l.token-items) ≡ l.initial.out.items ++ flat_map token_form l.token-items;
  storable : AreTokens (drop l.token-index l.token-items) → AreTokens l.token-items;
}
