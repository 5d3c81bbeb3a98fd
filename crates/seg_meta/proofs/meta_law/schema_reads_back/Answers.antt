use Rattle.seg_meta.proofs.meta_law.schema_reads_back.Goals as goal

pub returns : goal.returns
returns c stamp payload segments fits_stamp is_text fits list =
    c.meta_texts_read_back.ensures _
    (record { block_size = c.has_32_bits.ensures; stamp = fits_stamp; payload = is_text; fields = rw c.fields.ensures at c.have_texts.ensures; segments = fits }) list
    c.fields_are_valid.ensures
