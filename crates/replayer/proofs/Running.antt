-- The loop of a call, between its turns.
use mathlib.Core.Path.{◌≡◌, refl, sym, ◌∙◌}
use mathlib.Core.Bool.{Bool, true, false, ◌&&◌}
use mathlib.Core.List.{List}
use Prim.Native.Nat.{ℕ, suc, ◌-◌, ◌≤◌, ◌<◌}
use native.Mathlib.Nat.{sub-zero}
use native.Mathlib.Omega.{arith}
use lib.ListN.{length, take, drop, take-append-drop}
use lib.Seq.{length-take-le, take_at, drop_at}
use lib.Dec.{leb}
use borrow.Author.Tests.{leb-true}
use Rattle.wire.proofs.Tests.{and-true}
use Rattle.clock.specs.declared.Clock.{Clock}
use Rattle.frame.specs.Layout.{max_frame}
use Rattle.replayer.specs.declared.Next.TheVariants.{Write}
use Rattle.replayer.specs.declared.Progress.{Progress}
use Rattle.replayer.specs.Advance.{Replay, turn, is_write, goes_on, advance_within, advanced, replay_of, Fits, Leaves, Advances}
use Rattle.replayer.proofs.Filling.{drop_further}
use Rattle.replayer.proofs.Advancing.{turns_left, turn_moves, advance_on, advance_rests}

-- what is left stands for what was stated
pub leaves_replay : (x : Replay) (o s b o' : List ℕ) (r : Progress) → Leaves x o r s b o' → replay_of s b o' r ≡ x
leaves_replay x o s b o' r l =
    let w : take r.filled o' ≡ x.output = rw (l.filled_is, l.output_is) (take_at x.output (drop (length x.output) o) (length x.output) refl) in
    λ i. record {
      kept = record { store = l.store_is i; clock = l.clock_is i; reply = l.reply_is i };
      taken = l.taken_is i;
      output = w i;
      next = l.next_is i;
    }

module _ (store₀ input reply₀ output₀ : List ℕ) (ended : Bool) (clock : Clock) where
  -- turns have been made, and those that are left give what the call is to give
  pub record Running (store reply output : List ℕ) (p : Progress) : Type 0 where
    pub within : p.taken ≤ length input
    pub filled : p.filled ≤ length output₀
    pub outputs : length output ≡ length output₀
    pub stores : length store ≡ length store₀
    pub replies : length reply ≡ length reply₀
    pub rest : drop p.filled output ≡ drop p.filled output₀
    pub same : advance_within (suc (length input - p.taken)) ended input (length output₀) (replay_of store reply output p)
        ≡ advanced ended input (length output₀) (record { store = store₀; clock = clock; reply = reply₀ })

  pub running_first : Running store₀ reply₀ output₀ (record { clock = clock; taken = 0; filled = 0; next = Write })
  unfolding advanced
  running_first = record {
    within = omega arith;
    filled = omega arith;
    outputs = refl;
    stores = refl;
    replies = refl;
    rest = refl;
    same = rw sub-zero;
  }

  module _ (store reply output : List ℕ) (p : Progress) (i : Running store reply output p) where
    -- the code's test is the definition's
    test_is : goes_on (length output₀) (replay_of store reply output p) ≡ (is_write p.next && leb max_frame (length output₀ - p.filled))
    unfolding goes_on
    test_is = rw (length-take-le p.filled output (omega (arith, i.filled, i.outputs)))

    module _ (b : Bool) (e : b ≡ (is_write p.next && leb max_frame (length output₀ - p.filled))) where
      pub running_fits : b ≡ true → Fits input output p
      running_fits t =
          let a = and-true (is_write p.next) (leb max_frame (length output₀ - p.filled)) (sym e ∙ t) in
          let n = leb-true max_frame (length output₀ - p.filled) a.1 in
          record { within = i.within; room = omega (arith, i.outputs, i.filled) }

      goes : b ≡ true → goes_on (length output₀) (replay_of store reply output p) ≡ true
      goes t = test_is ∙ sym e ∙ t

      pub running_ends : b ≡ false → Advances store₀ clock input ended reply₀ output₀ p store reply output
      running_ends t =
          let x : advanced ended input (length output₀) (record { store = store₀; clock = clock; reply = reply₀ }) ≡ replay_of store reply output p =
          sym i.same ∙ advance_rests ended input (length output₀) (suc (length input - p.taken)) (replay_of store reply output p) (test_is ∙ sym e ∙ t) in
          let n : length (take p.filled output) ≡ p.filled = length-take-le p.filled output (omega (arith, i.filled, i.outputs)) in
          rw x (record {
            store_is = refl;
            clock_is = refl;
            reply_is = refl;
            taken_is = refl;
            filled_is = sym n;
            output_is = rw (n, ← i.rest) (sym (take-append-drop p.filled output));
            next_is = refl;
          })

      module _ (r : Progress) (store' reply' output' : List ℕ)
          (l : Leaves (turn ended input (replay_of store reply output p)) output r store' reply' output') where
        next : Replay
        next = turn ended input (replay_of store reply output p)

        -- what was not yet filled is as it came
        rest_kept : length (take p.filled output) ≤ length next.output → drop r.filled output' ≡ drop r.filled output₀
        unfolding next
        rest_kept m =
            let n : length (take p.filled output) ≡ p.filled = length-take-le p.filled output (omega (arith, i.filled, i.outputs)) in
            let d : drop (length next.output) output ≡ drop (length next.output) output₀ =
            drop_further p.filled (length next.output) output output₀ (omega arith) i.rest in
            rw (l.filled_is, l.output_is, drop_at next.output (drop (length next.output) output) (length next.output) refl) d

        module _ (t : b ≡ true) where
          pub running_less : turns_left input r.taken r.next < turns_left input p.taken p.next
          running_less =
              let m = turn_moves ended input (replay_of store reply output p) i.within in
              let w = and-true (is_write p.next) (leb max_frame (length output₀ - p.filled)) (sym e ∙ t) in
              rw (l.taken_is, l.next_is, w.0) m.less

          pub running_again : length output' ≡ length output → length store' ≡ length store → length reply' ≡ length reply → Running store' reply' output' r
          unfolding next
          running_again os ss rs =
              let m = turn_moves ended input (replay_of store reply output p) i.within in
              let f = running_fits t in
              let n : length (take p.filled output) ≡ p.filled = length-take-le p.filled output (omega (arith, i.filled, i.outputs)) in
              record {
                within = rw l.taken_is m.within;
                filled = omega (arith, l.filled_is, m.room, f.room);
                outputs = os ∙ i.outputs;
                stores = ss ∙ i.stores;
                replies = rs ∙ i.replies;
                rest = rest_kept m.longer;
                same = rw (leaves_replay next output store' reply' output' r l, l.taken_is)
                    (sym (advance_on ended input (length output₀) (replay_of store reply output p) i.within (goes t)) ∙ i.same);
              }
