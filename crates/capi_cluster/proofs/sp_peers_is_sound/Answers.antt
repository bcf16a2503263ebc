use Rattle.std.proofs.Common.{sym, ◌∙◌, ap}
use Rattle.capi_words.specs.Result.{flag}
use Rattle.capi_cluster.proofs.Events.{no_table_unsound, table_sound}
use Rattle.capi_cluster.proofs.sp_peers_is_sound.Goals as goal

pub returns-then-not-is_table : goal.returns-then-not-is_table
returns-then-not-is_table c = no_table_unsound _ (sym c.is_table.ensures ∙ c.if-not-is_table.true)

pub returns : goal.returns
returns c =
    c.flag.ensures ∙ ap flag c.is_sound.ensures ∙ table_sound _ _ (sym c.is_table.ensures ∙ c.if-not-is_table.false) c.read_table.ensures
