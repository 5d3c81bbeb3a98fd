use Rattle.std.proofs.Common.{◌≡◌, ◌≤◌, ◌∙◌, List, Some, length, map, sym, ap, subst, arith}
use Rattle.std.specs.List.{slice_get}
use Rattle.std.proofs.lemmas.Option.{slice_get-get_or}
use Rattle.seg_values.specs.declared.schema.FieldEntry.{FieldEntry}
use Rattle.seg_field_metadata.specs.MetadataEntries.{entry_of}
use Rattle.seg_field_metadata.proofs.FieldTurns.{all_said, none_so_far, place_turn}
use Rattle.seg_field_metadata.proofs.metadata.entries_by_place.Goals as goal

pub loop-place-init : goal.loop-place-init
loop-place-init c =
    none_so_far c.args.fields.now c.args.reader.now.fields (map entry_of c.new-entries.result.items) c.args.names.now.by_dotted
    (ap (map entry_of) c.new-entries.ensures.items) c.requires.none_yet

pub add_indexed-requires : goal.add_indexed-requires
add_indexed-requires c =
    let place = c.loop-place.place in
    let entry = c.index-fields-place.result in
    subst (λ (l : List FieldEntry). slice_get l place ≡ Some entry) c.requires.schema
    (slice_get-get_or c.args.fields.now place entry c.loop-place-test.true ∙ ap (λ e. Some e) (sym c.index-fields-place.is))

pub loop-place-preserved : goal.loop-place-preserved
loop-place-preserved c =
    let place = c.loop-place.place in
    let entry = c.index-fields-place.result in
    place_turn c.args.fields.now c.args.reader.now.fields place entry (map entry_of c.loop-place.entries.items)
    (map entry_of c.add_indexed.new.entries.items) c.loop-place.names.by_dotted c.add_indexed.new.names.by_dotted
    (slice_get-get_or c.args.fields.now place entry c.loop-place-test.true ∙ ap (λ e. Some e) (sym c.index-fields-place.is)) c.in_ok-add_indexed.ensures c.loop-place.invariant

pub returns : goal.returns
returns c =
    let end : length c.args.fields.now ≤ c.loop-place.place = omega arith in
    all_said c.args.fields.now c.args.reader.now.fields c.loop-place.place (map entry_of c.loop-place.entries.items) c.loop-place.names.by_dotted
    end c.loop-place.invariant
