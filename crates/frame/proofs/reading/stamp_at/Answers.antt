use native.Mathlib.Omega.{arith}
use mathlib.Core.Path.{◌≡◌, sym}
use Prim.Native.Nat.{◌+◌}
use Rattle.frame.specs.Reading.{stamp_in, number_at}
use Rattle.frame.proofs.Fields.{number_byte, number_lt, number_read}
use lib.ListN.{get_or}
use Rattle.frame.proofs.reading.stamp_at.Goals as goal

pub overflow_cast-logical : goal.overflow_cast-logical
overflow_cast-logical c =
    let a = c.args in
    let n = c.requires in
    let l = number_lt a.frame.now (λ i. (c.type_inv.frame i).fits) (a.at + 6) 2 (omega arith) in
    omega (arith, number_read _ (a.at + 6) 2 a.frame.now c.number_at-logical.ensures.is)

pub returns : goal.returns
unfolding stamp_in
returns c =
    let a = c.args in
    let n = c.requires in
    let node : get_or a.frame.now (a.at + 8) 0 ≡ number_at (a.at + 8) 1 a.frame.now = sym (number_byte (a.at + 8) a.frame.now (omega arith)) in
    let phys = number_read _ a.at 6 a.frame.now c.number_at-phys.ensures.is in
    let logical = number_read _ (a.at + 6) 2 a.frame.now c.number_at-logical.ensures.is in
    λ i. record { phys = phys i; logical = logical i; node = node i }
