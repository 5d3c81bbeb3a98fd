use Rattle.std.proofs.Common.{◌≡◌, ◌++◌, drop, false}
use Rattle.serde_json.specs.Written.{items_text}
use Rattle.seg_values.specs.ValueJson.{tokens_items}
use Rattle.seg_text.proofs.pre_tokenized_text.push_tokens.Given as goal

abbrev pub invariant-loop-token : goal.invariant-loop-token
invariant-loop-token l = l.out.items ++ items_text l.later (tokens_items (drop l.token-index l.tokens)) ≡ l.initial.out.items ++ items_text false (tokens_items l.tokens)
