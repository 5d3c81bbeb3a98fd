use Rattle.std.proofs.Common.{rules, ◌≡◌, ◌∙◌, ℕ, ap, length, subst, sym}
use Rattle.std.specs.Prelude.{IfSome}
use Rattle.std.specs.Option.{option_map}
use Rattle.seg_meta.specs.Metas.{deletes_of}
use Rattle.seg_open.specs.OpenSegment.{OpenSegment, alive_of}
use Rattle.seg_open.specs.OpeningSteps.{Asked, HasFilesOf}
use Rattle.seg_open.proofs.AliveFileReads.{as_many_read}
use Rattle.seg_open.proofs.DocumentMarks.{long_set}
use Rattle.seg_open.proofs.OpenedSegments.{opens_holds, opens_undamaged}
use Rattle.seg_open.proofs.OpeningOnDisk.{opening_on_disk}
use Rattle.seg_open.proofs.OpeningSteps.{opens, stops_after_alive, stops_in_alive, stops_in_files, with_marks}
use Rattle.seg_open.proofs.segment_reader.SegmentReader.open_with_custom_alive_set.Goals as goal

pub returns-in-Err-clause-does : goal.returns-in-Err-clause-does
returns-in-Err-clause-does g c =
    let x : Asked = record { segment = c.args.segment.now; custom = c.args.custom } in
    stops_in_files x c.in-Err.e _ _ c.in-Err.ensures

pub returns-in-Err-clause-whole : goal.returns-in-Err-clause-whole
returns-in-Err-clause-whole g c told whole =
    let x : Asked = record { segment = c.args.segment.now; custom = c.args.custom } in
    opens_undamaged x _ _ c.in-Err.e whole told (returns-in-Err-clause-does g c)

pub returns-in-Err-read_deletes-clause-does : goal.returns-in-Err-read_deletes-clause-does
returns-in-Err-read_deletes-clause-does g c =
    let x : Asked = record { segment = c.args.segment.now; custom = c.args.custom } in
    let id_is : c.id-id.result ≡ c.args.segment.now.meta.id = search rules in
    let count_is : c.max_doc-max_doc.result ≡ c.args.segment.now.meta.documents = search rules in
    let deletes_are : option_map deletes_of c.deletes-deletes.result ≡ c.args.segment.now.meta.deletes = search rules in
    stops_in_alive x c.id-id.result c.max_doc-max_doc.result (option_map deletes_of c.deletes-deletes.result) id_is count_is deletes_are c.in-Ok.reader _ _ _ c.in-Ok.ensures c.in-Err-read_deletes.e c.in-Err-read_deletes.ensures

pub returns-in-Err-read_deletes-clause-whole : goal.returns-in-Err-read_deletes-clause-whole
returns-in-Err-read_deletes-clause-whole g c told whole =
    let x : Asked = record { segment = c.args.segment.now; custom = c.args.custom } in
    opens_undamaged x _ _ c.in-Err-read_deletes.e whole told (returns-in-Err-read_deletes-clause-does g c)

pub cut_by-requires-clause-alive : goal.cut_by-requires-clause-alive
cut_by-requires-clause-alive g c =
    let documents = c.max_doc-max_doc.result in
    let alive = c.in-Ok-read_deletes.alive in
    long_set documents alive
    (as_many_read c.id-id.result documents (option_map deletes_of c.deletes-deletes.result) (alive_of documents alive) c.in-Ok-read_deletes.ensures)

pub cut_by-requires-clause-custom : goal.cut_by-requires-clause-custom
cut_by-requires-clause-custom g c =
    let count_is : c.max_doc-max_doc.result ≡ c.args.segment.now.meta.documents = search rules in
    subst (λ (n : ℕ). IfSome c.args.custom (λ set. length set ≡ n)) (sym count_is) c.requires.custom

pub returns-in-Ok-cut_by-clause-does : goal.returns-in-Ok-cut_by-clause-does
returns-in-Ok-cut_by-clause-does g c =
    let x : Asked = record { segment = c.args.segment.now; custom = c.args.custom } in
    let id_is : c.id-id.result ≡ c.args.segment.now.meta.id = search rules in
    let count_is : c.max_doc-max_doc.result ≡ c.args.segment.now.meta.documents = search rules in
    let deletes_are : option_map deletes_of c.deletes-deletes.result ≡ c.args.segment.now.meta.deletes = search rules in
    let documents = c.max_doc-max_doc.result in
    let cut = c.in-Ok-cut_by.alive in
    let number_is : c.in-Ok.reader.documents ≡ documents = c.in-Ok.ensures.is.of_number ∙ sym count_is in
    opens x c.id-id.result c.max_doc-max_doc.result (option_map deletes_of c.deletes-deletes.result) id_is count_is deletes_are c.in-Ok.reader _ _ _ c.in-Ok.ensures
    (alive_of documents c.in-Ok-read_deletes.alive) c.in-Ok-read_deletes.ensures c.with_alive.result
    (subst (λ (s : OpenSegment). HasFilesOf c.args.segment.now c.in-Ok.ensures.files s) (sym c.with_alive.ensures) (with_marks c.args.segment.now c.in-Ok.reader (alive_of c.in-Ok.reader.documents cut) _ _ c.in-Ok.ensures))
    (ap (λ (s : OpenSegment). s.alive) c.with_alive.ensures ∙ ap (λ (n : ℕ). alive_of n cut) number_is ∙ c.in-Ok-cut_by.ensures.cut)

pub returns-in-Ok-cut_by-clause-holds : goal.returns-in-Ok-cut_by-clause-holds
returns-in-Ok-cut_by-clause-holds g c told =
    let x : Asked = record { segment = c.args.segment.now; custom = c.args.custom } in
    opens_holds x _ _ c.with_alive.result told (returns-in-Ok-cut_by-clause-does g c)

pub returns-in-Err-cut_by-clause-does : goal.returns-in-Err-cut_by-clause-does
returns-in-Err-cut_by-clause-does g c =
    let x : Asked = record { segment = c.args.segment.now; custom = c.args.custom } in
    let id_is : c.id-id.result ≡ c.args.segment.now.meta.id = search rules in
    let count_is : c.max_doc-max_doc.result ≡ c.args.segment.now.meta.documents = search rules in
    let deletes_are : option_map deletes_of c.deletes-deletes.result ≡ c.args.segment.now.meta.deletes = search rules in
    stops_after_alive x c.id-id.result c.max_doc-max_doc.result (option_map deletes_of c.deletes-deletes.result) id_is count_is deletes_are c.in-Ok.reader _ _ _ c.in-Ok.ensures
    (alive_of c.max_doc-max_doc.result c.in-Ok-read_deletes.alive) c.in-Ok-read_deletes.ensures

pub returns-in-Err-clause-disk : goal.returns-in-Err-clause-disk
returns-in-Err-clause-disk g c told =
    let x : Asked = record { segment = c.args.segment.now; custom = c.args.custom } in
    opening_on_disk x _ told (returns-in-Err-clause-does g c)

pub returns-in-Err-read_deletes-clause-disk : goal.returns-in-Err-read_deletes-clause-disk
returns-in-Err-read_deletes-clause-disk g c told =
    let x : Asked = record { segment = c.args.segment.now; custom = c.args.custom } in
    opening_on_disk x _ told (returns-in-Err-read_deletes-clause-does g c)

pub returns-in-Ok-cut_by-clause-disk : goal.returns-in-Ok-cut_by-clause-disk
returns-in-Ok-cut_by-clause-disk g c told =
    let x : Asked = record { segment = c.args.segment.now; custom = c.args.custom } in
    opening_on_disk x _ told (returns-in-Ok-cut_by-clause-does g c)

pub returns-in-Err-cut_by-clause-disk : goal.returns-in-Err-cut_by-clause-disk
returns-in-Err-cut_by-clause-disk g c told =
    let x : Asked = record { segment = c.args.segment.now; custom = c.args.custom } in
    opening_on_disk x _ told (returns-in-Err-cut_by-clause-does g c)
