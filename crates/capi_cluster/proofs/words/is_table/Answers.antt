use Rattle.std.proofs.Common.{◌∙◌}
use Rattle.capi_cluster.proofs.Rows.{no_table_length, no_table_count, table_rows}
use Rattle.capi_cluster.proofs.words.is_table.Goals as goal

pub returns-then-words-ne-TABLE_WORDS : goal.returns-then-words-ne-TABLE_WORDS
returns-then-words-ne-TABLE_WORDS c = no_table_length _ c.if-words-ne-TABLE_WORDS.true

pub returns-then-words-ge-BYTE_LIMIT : goal.returns-then-words-ge-BYTE_LIMIT
returns-then-words-ge-BYTE_LIMIT c = no_table_count _ c.if-words-ne-TABLE_WORDS.false c.if-words-ge-BYTE_LIMIT.true

pub returns : goal.returns
returns c = c.rows_fit.ensures ∙ table_rows _ c.if-words-ne-TABLE_WORDS.false c.if-words-ge-BYTE_LIMIT.false
