use mathlib.Core.Path.{sym, ap, ◌∙◌}
use mathlib.Core.Bool.{not}
use Rattle.entry.proofs.Accept.{key_empty, key_long, key_else}
use Rattle.entry.proofs.is_acceptable_key.Goals as goal

pub returns-then-key-eq0 : goal.returns-then-key-eq0
returns-then-key-eq0 c = rw (key_empty c.args.key.now c.if-key-eq0.true)

pub returns-then-key-gt-MAX_KEY : goal.returns-then-key-gt-MAX_KEY
returns-then-key-gt-MAX_KEY c = rw (key_long c.args.key.now c.if-key-eq0.false c.if-key-gt-MAX_KEY.true)

pub returns : goal.returns
returns c =
    let a = c.args in
    ap not (c.is_reserved.ensures ∙ sym (key_else a.key.now c.if-key-eq0.false c.if-key-gt-MAX_KEY.false))
