use Rattle.std.proofs.Common.{◌≡◌}
use Rattle.std.specs.Vec.Iter.{into_iter_items}
use Rattle.serde_json.specs.View.{view, items_view}
use Rattle.seg_meta.specs.JsonReaders.{list_of}
use Rattle.seg_meta.proofs.Exports.{so_far}
use Rattle.seg_script_values.specs.TokenizedTexts.{token_from}
use Rattle.seg_script_values.proofs.tokenized_texts.tokens_from.Given as goal

abbrev pub invariant-loop-item : goal.invariant-loop-item
invariant-loop-item l = so_far token_from l.tokens (items_view (into_iter_items l.item-iterator)) ≡ list_of token_from (view l.fn.json)
