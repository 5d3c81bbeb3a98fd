use Rattle.std.proofs.Common.{◌≡◌, ◌<◌, ◌^◌, List, map, sym, subst}
use Rattle.std.specs.List.{AllByRecursion}
use Rattle.seg_common.specs.declared.column_type.ColumnType.TheVariants as types
use Rattle.seg_column_writer.specs.EncodedColumns.{AddsValues, imaged}
use Rattle.seg_column_format.specs.RowNumbers.{eight_bytes}
use Rattle.seg_column_format.specs.ValuesByRow.{Rise}
use Rattle.seg_column_writer.specs.declared.row_value.RowValue.{RowValue}
use Rattle.seg_column_writer.proofs.AddedColumns.{addresses_put, bytes_put, fits, images_put, texts_put}
use Rattle.seg_column_writer.proofs.recorded_column.RecordedColumn.put.Goals as goal

pub put_images-requires : goal.put_images-requires
put_images-requires c =
    let i = c.self.inside in
    record {
      rise = subst (Rise (λ (v : RowValue). v.row) 0) (sym c.deref.ensures.value) c.self.invariant.rise;
      fits = subst (AllByRecursion (λ (v : RowValue). c.args.column_type ≡ types.I64 → v.number < 2 ^ 63))
          (sym c.deref.ensures.value)
          (fits i.kind i.declared i.sorts i.signed i.unsigned i.known.values.items i.known.terms c.self.invariant
          c.args.self.now c.self.view_is c.args.column_type c.requires.typed);
    }

pub returns-in_ok-put_texts-in-Bytes : goal.returns-in_ok-put_texts-in-Bytes
returns-in_ok-put_texts-in-Bytes c =
    let i = c.self.inside in
    bytes_put i.kind i.declared i.sorts i.signed i.unsigned i.known.values.items i.known.terms c.self.invariant
    c.args.self.now c.self.view_is c.args.column_type c.requires.typed c.args.num_rows c.requires.rows
    c.args.out.now.items c.put_texts.new.out.items c.in-Bytes.is c.in_ok-put_texts-in-Bytes.ensures

pub returns-in_ok-put_texts-in-Str : goal.returns-in_ok-put_texts-in-Str
returns-in_ok-put_texts-in-Str c =
    let i = c.self.inside in
    texts_put i.kind i.declared i.sorts i.signed i.unsigned i.known.values.items i.known.terms c.self.invariant
    c.args.self.now c.self.view_is c.args.column_type c.requires.typed c.args.num_rows c.requires.rows
    c.args.out.now.items c.put_texts-in-Str.new.out.items c.in-Str.is c.in_ok-put_texts-in-Str.ensures

pub returns-in_ok-put_addresses-in-IpAddr : goal.returns-in_ok-put_addresses-in-IpAddr
returns-in_ok-put_addresses-in-IpAddr c =
    let i = c.self.inside in
    addresses_put i.kind i.declared i.sorts i.signed i.unsigned i.known.values.items i.known.terms c.self.invariant
    c.args.self.now c.self.view_is c.args.column_type c.requires.typed c.args.num_rows c.requires.rows
    c.args.out.now.items c.put_addresses.new.out.items c.in-IpAddr.is c.in_ok-put_addresses-in-IpAddr.ensures

pub returns-in_ok-put_images-in_default : goal.returns-in_ok-put_images-in_default
returns-in_ok-put_images-in_default c =
    let i = c.self.inside in
    images_put i.kind i.declared i.sorts i.signed i.unsigned i.known.values.items i.known.terms c.self.invariant
    c.args.self.now c.self.view_is c.args.column_type c.requires.typed c.args.num_rows c.requires.rows
    c.args.out.now.items c.put_images.new.out.items c.in_default.not-Bytes c.in_default.not-Str c.in_default.not-IpAddr
    (subst (λ (l : List RowValue). AddsValues eight_bytes i.sorts (map (imaged c.args.column_type) l) c.args.num_rows
    c.args.out.now.items c.put_images.new.out.items) c.deref.ensures.value c.in_ok-put_images-in_default.ensures)
