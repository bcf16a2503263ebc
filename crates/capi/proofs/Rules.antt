-- What the answers of the functions are found by.
use Rattle.entry.proofs.Numbers.{number_not_0}
use Rattle.capi.proofs.Bytes.{repl_told, repl_left, err_told, err_left, flag-answer, flag-after}
use Rattle.capi.proofs.Frames.{wrote_told}
use Rattle.capi.proofs.Stores.{merge_told, purge_told}

pub ruleset rules = (number_not_0, wrote_told, merge_told, purge_told, repl_told, repl_left, err_told, err_left, flag-answer, flag-after)
