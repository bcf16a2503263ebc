use Rattle.std.proofs.Common.{rules, tests}
use mathlib.Core.Path.{refl, ap, ◌∙◌}
use Rattle.std.proofs.lemmas.Iterator.{YieldsList-from_range}
use Rattle.std.proofs.lemmas.Iterator.Search.{all_from_yields_List}
use Prim.Native.Nat.{ℕ, ◌-◌}
use native.Mathlib.Omega.{arith}
use Rattle.image.proofs.Soundness.{keys_at, each_key}
use Rattle.image.proofs.keys_ascend.Goals as goal

pub returns : goal.returns
returns c =
    let s = c.args.store.now in
    all_from_yields_List (keys_at s) _ _ _ c.all.ensures.ran (YieldsList-from_range 1 c.used_count.result _ refl refl)
    (λ i b f k. search (rules, tests))
    ∙ each_key s (c.used_count.result - 1) 1 (omega arith) (ap (λ (n : ℕ). n - 1) c.used_count.ensures.is)
