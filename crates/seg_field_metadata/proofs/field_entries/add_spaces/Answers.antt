use Rattle.std.proofs.Common.{◌≤◌, ◌++◌, ◌∙◌, List, length, map, sym, ap, subst, arith}
use Rattle.std.proofs.lemmas.List.{take_all}
use Rattle.std.specs.List.{flat_map}
use Rattle.seg_postings.specs.OpenedFields.{dictionary_terms}
use Rattle.seg_postings.specs.declared.field_space.InvertedIndexFieldSpace.{InvertedIndexFieldSpace}
use Rattle.seg_field_metadata.specs.MetadataEntries.{entry_of}
use Rattle.seg_field_metadata.specs.IndexedFieldMetadata.{space_entry}
use Rattle.seg_field_metadata.specs.ListedNames.{EscapedName, HasNames}
use Rattle.seg_field_metadata.proofs.FieldAdditions.{entries_more, names_more, names_of, spaces_add}
use Rattle.seg_field_metadata.proofs.Spaces.{within}
use Rattle.seg_field_metadata.proofs.field_entries.add_spaces.Goals as goal

pub share-requires : goal.share-requires
share-requires c =
    let l = c.loop-space in
    let terms = dictionary_terms c.args.opened.now in
    let items = c.deref-space-items.result.now in
    let s = c.space-item.result in
    let few : s.num_terms ≤ length terms =
    subst (λ (x : InvertedIndexFieldSpace). x.num_terms ≤ length terms) (sym c.space-item.is)
    (within terms items l.invariant.are l.space-index s c.loop-space-test.true) in
    omega (arith, few, l.invariant.as_many)

pub loop-space-preserved : goal.loop-space-preserved
loop-space-preserved c =
    let l = c.loop-space in
    let entry = c.args.entry.now in
    let terms = dictionary_terms c.args.opened.now in
    let items = c.deref-space-items.result.now in
    let s = c.space-item.result in
    record {
      are = l.invariant.are;
      as_many = l.invariant.as_many;
      added = entries_more entry terms items l.space-index s c.loop-space-test.true c.space-item.is (map entry_of c.args.entries.now.items)
          (map entry_of l.entries.items) (map entry_of c.add_space.new.entries.items) c.args.terms_size c.num_terms-all.result c.share.result
          c.requires.size l.invariant.as_many c.share.ensures c.in_ok-add_space.ensures l.invariant.added;
      named = names_more entry terms items l.space-index s c.loop-space-test.true c.space-item.is c.args.names.now.by_dotted l.names.by_dotted
          c.add.new.self.by_dotted c.as_str.result.now c.as_str.ensures.value c.in_ok-add.ensures l.invariant.named;
    }

pub returns : goal.returns
returns c =
    let l = c.loop-space in
    let entry = c.args.entry.now in
    let terms = dictionary_terms c.args.opened.now in
    let items = c.deref-space-items.result.now in
    let old = map entry_of c.args.entries.now.items in
    let new = map entry_of l.entries.items in
    let all = take_all l.space-index items (omega arith) in
    spaces_add entry terms old new c.args.names.now.by_dotted l.names.by_dotted items c.requires.json l.invariant.are
    (l.invariant.added ∙ ap (λ (ss : List InvertedIndexFieldSpace). old ++ map (space_entry entry terms) ss) all)
    (subst (λ (ss : List InvertedIndexFieldSpace). (names : List EscapedName) → HasNames c.args.names.now.by_dotted names
    → HasNames l.names.by_dotted (names ++ flat_map (names_of entry) ss)) all l.invariant.named)
