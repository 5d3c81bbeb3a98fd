use Rattle.std.proofs.Common.{◌≡◌, ap, sym, ◌∙◌, arith}
use Rattle.seg_termdict.specs.Dictionary.{ends_of, keys_of}
use Rattle.seg_termdict.proofs.DictionaryKeys.{same_key}
use Rattle.seg_termdict.proofs.DictionaryTerms.{seen_length, seen_key, seen_none, weaker}
use Rattle.seg_termdict.proofs.dictionary.TermDictionary.find.Goals as goal

pub returns : goal.returns
returns c =
    let bytes = c.self.inside.bytes in
    let count = c.self.inside.count in
    let terms = c.args.self.now in
    let counted = c.self.invariant.0 in
    let view = c.self.view_is in
    let key = c.args.key.now in
    let ends : c.ends_table.result.now ≡ ends_of bytes = c.ends_table.ensures.table ∙ ap ends_of c.as_slice-bytes.ensures in
    let keys : c.key_bytes.result.now ≡ keys_of bytes = c.key_bytes.ensures.table ∙ ap keys_of c.as_slice-bytes.ensures in
    weaker c.find_key.result c.find_key.ensures
    (λ none. seen_none bytes count terms counted view key (λ i h e. none i h (same_key _ _ _ _ ends keys i ∙ e)))
    (λ i h. (omega (arith, h.0, seen_length bytes count terms counted view), seen_key bytes count terms counted view i key h.0 (sym (same_key _ _ _ _ ends keys i) ∙ h.1)))
