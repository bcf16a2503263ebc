use Rattle.std.proofs.Common.{rules, tests}
use mathlib.Core.Path.{refl, ap, ◌∙◌}
use Rattle.std.proofs.lemmas.Iterator.{YieldsList-from_range}
use Rattle.std.proofs.lemmas.Iterator.Search.{all_from_yields_List}
use Prim.Native.Nat.{ℕ}
use native.Mathlib.Nat.{sub-zero}
use lib.ListN.{drop}
use Rattle.image.specs.Layout.{header_width}
use Rattle.image.specs.Check.{slots_sound}
use Rattle.image.proofs.Soundness.{sound_at, each_slot}
use Rattle.image.proofs.slots_sound.Goals as goal

pub returns : goal.returns
returns c =
    let s = c.args.store.now in
    all_from_yields_List (sound_at s) _ _ _ c.all.ensures.ran (YieldsList-from_range 0 _ c.used_count.result refl (sub-zero _))
    (λ i b f k. search (rules, tests))
    ∙ each_slot s c.used_count.result 0 ∙ ap (λ (n : ℕ). slots_sound n (drop header_width s)) c.used_count.ensures.is
