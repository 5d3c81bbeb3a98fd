use Rattle.std.proofs.Common.{◌++◌, length}
use Rattle.std.specs.Map.{keys_of}
use Rattle.seg_terms.specs.PathKeys.{term_on}
use Rattle.seg_terms.specs.PathTermParts.{path_entry_of}
use Rattle.seg_terms.proofs.PathOrder.{copied, copied_if_ok, path_of_place}
use Rattle.seg_terms.proofs.SortedEntries.{key_at, place_within}
use Rattle.seg_terms.proofs.ordered_path_terms.OrderedPathTerms.copy_bytes_at.Goals as goal

pub path_at-requires : goal.path_at-requires
path_at-requires c =
    let lt = place_within (path_entry_of c.self.inside.paths c.self.inside.hits.items)
    c.self.inside.terms.items c.args.self.now c.self.view_is c.args.index c.index-term.result.now c.requires
    c.index-term.ensures in
    path_of_place (length c.self.inside.paths) c.self.inside.terms.items c.args.index c.index-term.result.now
    c.as_slice-key.result.now c.key_path.result c.self.invariant.2 lt c.index-term.ensures c.as_slice-key.ensures
    c.key_path.ensures

pub returns : goal.returns
returns c =
    let see = path_entry_of c.self.inside.paths c.self.inside.hits.items in
    let lt = place_within see c.self.inside.terms.items c.args.self.now c.self.view_is c.args.index
    c.index-term.result.now c.requires c.index-term.ensures in
    let at = key_at see c.self.inside.terms.items c.args.self.now c.self.view_is c.args.index c.index-term.result.now
    c.requires c.index-term.ensures in
    let within = path_of_place (length c.self.inside.paths) c.self.inside.terms.items c.args.index
    c.index-term.result.now c.as_slice-key.result.now c.key_path.result c.self.invariant.2 lt c.index-term.ensures
    c.as_slice-key.ensures c.key_path.ensures in
    copied_if_ok c.extend_from_slice-2.result (keys_of c.args.self.now) c.args.index
    (term_on c.self.inside.paths c.index-term.result.now.key) c.extend_from_slice-2.new.self.items
    (c.push.new.self.items ++ c.key_rest.result.now) c.push.new.self.items c.extend_from_slice-2.ensures.items
    (copied c.self.inside.paths c.index-term.result.now.key c.as_slice-key.result.now c.in_ok-path.path.items
    c.deref.result.now c.key_rest.result.now c.clear.new.self.items c.extend_from_slice.new.self.items
    c.push.new.self.items c.extend_from_slice-2.new.self.items c.key_path.result within c.key_path.ensures
    c.as_slice-key.ensures c.in_ok-path.ensures c.deref.ensures.value c.clear.ensures.items
    c.in_ok-extend_from_slice.ensures.items c.in_ok-push.ensures.items c.key_rest.ensures) at
