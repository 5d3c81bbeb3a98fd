use Rattle.std.proofs.Common.{◌≡◌, ◌+◌, List, ℕ, ◌++◌, ap, subst, sym, ◌∙◌, arith}
use Rattle.std.specs.Int.{w64, to_le_bytes}
use Rattle.seg_termdict.specs.Dictionary.{IsDictionary, terms_of, AreInfos}
use Rattle.seg_termdict.proofs.BuilderGrowth.{none_more, terms_seen}
use Rattle.seg_termdict.proofs.DictionaryParts.{AreParts, AreSteps, all, all_from, is_dictionary, terms_are}
use Rattle.seg_termdict.proofs.written_terms.WrittenTerms.finish.Goals as goal

module _ (c : goal.After-drop-self-inside-4) where
  same : c.self.inside.key_count ≡ c.self.inside.info_count
  same = none_more c.self.inside.ends.items c.self.inside.keys.items c.self.inside.infos.items c.self.inside.key_count c.self.inside.info_count c.self.inside.last_start c.args.self c.self.invariant c.self.view_is c.requires

  parts : AreParts c.self.inside.ends.items c.self.inside.keys.items c.self.inside.infos.items c.self.inside.key_count (8 + c.len.result)
  parts = record {
    small = omega (arith, c.len.ensures);
    store_is = omega (arith, c.len.ensures, c.self.invariant.infos_length, same);
    ends_length = c.self.invariant.ends_length;
    infos_length = omega (arith, c.self.invariant.infos_length, same);
    keys_are = c.self.invariant.keys_are;
    infos_are = subst (AreInfos c.self.inside.infos.items) (sym same) c.self.invariant.infos_are;
  }

  steps : AreSteps c.self.inside.ends.items c.self.inside.keys.items c.self.inside.infos.items c.self.inside.key_count c.self.inside.info_count (8 + c.len.result) c.put_u64.new.out.items c.extend_from_slice.new.self.items c.extend_from_slice-2.new.self.items c.put_u64-2.new.out.items c.extend_from_slice-3.new.self.items c.put_u64-3.new.out.items c.put_u32.new.out.items c.put_u32-2.new.out.items
  steps = record {
    key_count = c.in_ok-put_u64.ensures.ok ∙ ap (λ (l : List ℕ). l ++ to_le_bytes w64 c.self.inside.key_count) c.new-bytes.ensures.items;
    ends_are = c.in_ok-extend_from_slice.ensures.items ∙ ap (λ (l : List ℕ). c.put_u64.new.out.items ++ l) c.deref.ensures.value;
    keys_are = c.in_ok-extend_from_slice-2.ensures.items ∙ ap (λ (l : List ℕ). c.extend_from_slice.new.self.items ++ l) c.deref-2.ensures.value;
    info_count = c.in_ok-put_u64-2.ensures.ok;
    infos_are = c.in_ok-extend_from_slice-3.ensures.items ∙ ap (λ (l : List ℕ). c.put_u64-2.new.out.items ++ l) c.deref-3.ensures.value;
    store_length = c.in_ok-put_u64-3.ensures.ok;
    version = c.in_ok-put_u32.ensures.ok;
    kind = c.in_ok-put_u32-2.ensures.ok;
  }

  whole : c.put_u32-2.new.out.items ≡ all c.self.inside.ends.items c.self.inside.keys.items c.self.inside.infos.items c.self.inside.key_count (8 + c.len.result) parts
  whole = all_from _ _ _ _ _ _ parts _ _ _ _ _ _ _ _ same steps

pub returns-clause-dictionary : goal.returns-clause-dictionary
returns-clause-dictionary c = subst IsDictionary (sym (whole c)) (is_dictionary _ _ _ _ _ (parts c))

pub returns-clause-terms : goal.returns-clause-terms
returns-clause-terms c = ap terms_of (whole c) ∙ terms_are _ _ _ _ _ (parts c) ∙ terms_seen c.self.inside.ends.items c.self.inside.keys.items c.self.inside.infos.items c.self.inside.key_count c.self.inside.info_count c.self.inside.last_start c.args.self c.self.invariant c.self.view_is c.requires
