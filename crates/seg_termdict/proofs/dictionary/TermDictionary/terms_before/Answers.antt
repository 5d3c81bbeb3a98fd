use Rattle.std.proofs.Common.{◌≡◌, ℕ, ◌<◌, List, ap, sym, ◌∙◌, arith}
use Rattle.seg_termdict.specs.Dictionary.{Term, ends_of, keys_of, key_of}
use Rattle.seg_termdict.specs.TermStreams.{no_term}
use Rattle.seg_termdict.specs.TermRanges.{comes_before, key_at}
use Rattle.seg_termdict.proofs.DictionaryKeys.{same_key}
use Rattle.seg_termdict.proofs.DictionaryTerms.{seen_length, seen_term}
use Rattle.seg_termdict.proofs.dictionary.TermDictionary.terms_before.Goals as goal

pub returns : goal.returns
returns c =
    let bytes = c.self.inside.bytes in
    let count = c.self.inside.count in
    let terms = c.args.self.now in
    let counted = c.self.invariant.0 in
    let view = c.self.view_is in
    let ends : c.ends_table.result.now ≡ ends_of bytes = c.ends_table.ensures.table ∙ ap ends_of c.as_slice-bytes.ensures in
    let keys : c.key_bytes.result.now ≡ keys_of bytes = c.key_bytes.ensures.table ∙ ap keys_of c.as_slice-bytes.ensures in
    let key : (i : ℕ) → i < count → key_at terms i ≡ key_of c.ends_table.result.now c.key_bytes.result.now i = λ i h. ap (λ (t : Term). t.0) (seen_term bytes count terms counted view i no_term h) ∙ sym (same_key _ _ _ _ ends keys i) in
    let test : List ℕ → _ = comes_before c.args.through c.args.bound.now in
    record {
      within = omega (arith, c.keys_before.ensures.within, seen_length bytes count terms counted view);
      before = λ i h. ap test (key i (omega (arith, h, c.keys_before.ensures.within))) ∙ c.keys_before.ensures.before i h;
      behind = λ i h k.
          let lt : i < count = omega (arith, k, seen_length bytes count terms counted view) in
          ap test (key i lt) ∙ c.keys_before.ensures.behind i h lt;
    }
