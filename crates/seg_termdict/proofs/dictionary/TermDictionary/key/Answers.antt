use Rattle.std.proofs.Common.{◌≡◌, ◌<◌, ◌+◌, ap, sym, ◌∙◌, arith}
use Rattle.seg_termdict.specs.Dictionary.{ends_of, keys_of, AreKeys}
use Rattle.seg_termdict.proofs.DictionaryKeys.{start_within, same_key}
use Rattle.seg_termdict.proofs.DictionaryTerms.{seen_length, seen_key}
use Rattle.seg_termdict.proofs.dictionary.TermDictionary.key.Goals as goal

pub key_at-requires-clause-room : goal.key_at-requires-clause-room
key_at-requires-clause-room c = omega (arith, c.requires, c.ends_table.ensures.length, seen_length c.self.inside.bytes c.self.inside.count c.args.self.now c.self.invariant.0 c.self.view_is)

pub key_at-requires-clause-order : goal.key_at-requires-clause-order
key_at-requires-clause-order c =
    let bytes = c.self.inside.bytes in
    let ends : c.ends_table.result.now ≡ ends_of bytes = c.ends_table.ensures.table ∙ ap ends_of c.as_slice-bytes.ensures in
    let keys : c.key_bytes.result.now ≡ keys_of bytes = c.key_bytes.ensures.table ∙ ap keys_of c.as_slice-bytes.ensures in
    let are : AreKeys c.ends_table.result.now c.key_bytes.result.now c.self.inside.count = rw (ends, keys, c.self.invariant.0) c.self.invariant.1.keys in
    are.rise c.args.place (omega (arith, c.requires, seen_length bytes c.self.inside.count c.args.self.now c.self.invariant.0 c.self.view_is))

pub key_at-requires-clause-within : goal.key_at-requires-clause-within
key_at-requires-clause-within c =
    let bytes = c.self.inside.bytes in
    let ends : c.ends_table.result.now ≡ ends_of bytes = c.ends_table.ensures.table ∙ ap ends_of c.as_slice-bytes.ensures in
    let keys : c.key_bytes.result.now ≡ keys_of bytes = c.key_bytes.ensures.table ∙ ap keys_of c.as_slice-bytes.ensures in
    let are : AreKeys c.ends_table.result.now c.key_bytes.result.now c.self.inside.count = rw (ends, keys, c.self.invariant.0) c.self.invariant.1.keys in
    start_within _ _ c.self.inside.count (c.args.place + 1) are (omega (arith, c.requires, seen_length bytes c.self.inside.count c.args.self.now c.self.invariant.0 c.self.view_is))

pub returns : goal.returns
returns c =
    let bytes = c.self.inside.bytes in
    let lt : c.args.place < c.self.inside.count = omega (arith, c.requires, seen_length bytes c.self.inside.count c.args.self.now c.self.invariant.0 c.self.view_is) in
    let ends : c.ends_table.result.now ≡ ends_of bytes = c.ends_table.ensures.table ∙ ap ends_of c.as_slice-bytes.ensures in
    let keys : c.key_bytes.result.now ≡ keys_of bytes = c.key_bytes.ensures.table ∙ ap keys_of c.as_slice-bytes.ensures in
    seen_key bytes c.self.inside.count c.args.self.now c.self.invariant.0 c.self.view_is c.args.place _ lt (sym (same_key _ _ _ _ ends keys c.args.place) ∙ sym c.key_at.ensures)
