-- One call: how far it goes, and what it leaves to the next.
use mathlib.Core.Path.{◌≡◌}
use mathlib.Core.Bool.{Bool, true, false}
use mathlib.Core.List.{List, []}
use Prim.Native.Nat.{ℕ, suc, ◌-◌, ◌≤◌}
use native.Mathlib.Omega.{arith}
use lib.ListN.{length, drop}
use lib.Dec.{leb}
use borrow.Author.Tests.{leb-true, le-leb}
use Rattle.wire.proofs.Tests.{and-true, never}
use Rattle.frame.specs.Layout.{max_frame}
use Rattle.journal.specs.Journal.{no_record, piece_of}
use Rattle.journal.proofs.Pieces.{begun_is_short}
use Rattle.replayer.specs.declared.Next.TheVariants.{Read, Write}
use Rattle.replayer.specs.Replies.{Kept}
use Rattle.replayer.specs.Advance.{Replay, answered, waiting, stopped, turn, is_write, goes_on, advance_within, advanced}
use Rattle.replayer.specs.Meaning.{CallsGoOn, Within, CallsStayWithin, CallsGetOn, ReadsForARecord}
use Rattle.replayer.proofs.Advancing.{turn_cases, turn_moves, advance_keeps, advanced_keeps, advance_ends}

-- a turn is made only where the last one was, and any reply has room
pub goes_on_lem : (room : ℕ) (p : Replay) → goes_on room p ≡ true → (is_write p.next ≡ true) × (max_frame ≤ room - length p.output)
unfolding goes_on
goes_on_lem room p g =
    let left = room - length p.output in
    let a = and-true (is_write p.next) (leb max_frame left) g in
    (a.0, leb-true max_frame left a.1)

starts : (room : ℕ) (k : Kept) → max_frame ≤ room → goes_on room (record { kept = k; taken = 0; output = []; next = Write }) ≡ true
unfolding goes_on
starts room k r = le-leb max_frame (room - 0) (omega arith)

pub calls_go_on : CallsGoOn
unfolding advanced
calls_go_on ended input room k =
    advance_ends ended input room (suc (length input)) (record { kept = k; taken = 0; output = []; next = Write }) (omega arith) (omega arith)

pub calls_stay_within : CallsStayWithin
calls_stay_within ended input room k = advanced_keeps ended input room (Within input room) step k
    (record { input_left = omega arith; output_left = omega arith })
  where
    step : (p : Replay) → Within input room p → goes_on room p ≡ true → Within input room (turn ended input p)
    step p w g =
        let m = turn_moves ended input p w.input_left in
        record { input_left = m.within; output_left = omega (arith, m.room, (goes_on_lem room p g).1) }

-- ---- why a call ends
module _ (ended : Bool) (input : List ℕ) where
  -- more input is asked for where a record may have begun and the input has not ended
  pub record Begun (p : Replay) : Type 0 where
    pub open_ended : ended ≡ false
    pub refusal : ℕ
    pub begun : piece_of (drop p.taken input) ≡ no_record true refusal

  record Why (p : Replay) : Type 0 where
    within : p.taken ≤ length input
    reads : p.next ≡ Read → Begun p

  pub read_begun : (room : ℕ) (k : Kept) → (advanced ended input room k).next ≡ Read → Begun (advanced ended input room k)
  unfolding answered waiting stopped
  read_begun room k = (advanced_keeps ended input room Why step k (record { within = omega arith; reads = λ h. never (cc) })).reads
    where
      step : (p : Replay) → Why p → goes_on room p ≡ true → Why (turn ended input p)
      step p w g = turn_cases ended input Why p w.within
          (λ t e h x y. record { within = y; reads = λ n. never (cc) })
          (λ n h e. record { within = w.within; reads = λ q. record { open_ended = e; refusal = n; begun = h } })
          (λ more n h e. record { within = w.within; reads = λ q. never (cc) })

  -- another call is asked for where a record was answered
  record Got (p : Replay) : Type 0 where
    within : p.taken ≤ length input
    takes : p.next ≡ Write → 14 ≤ p.taken

  got : (p : Replay) → p.taken ≤ length input → Got (turn ended input p)
  unfolding answered waiting stopped
  got p l = turn_cases ended input Got p l
      (λ t e h x y. record { within = y; takes = λ n. omega arith })
      (λ n h e. record { within = l; takes = λ q. never (cc) })
      (λ more n h e. record { within = l; takes = λ q. never (cc) })

pub calls_get_on : CallsGetOn
unfolding advanced advance_within
calls_get_on ended input room k r =
    let first : Replay = record { kept = k; taken = 0; output = []; next = Write } in
    rw (starts room k r) (advance_keeps ended input room (Got ended input) (λ p w g. got ended input p w.within) (length input)
    (turn ended input first) (got ended input first (omega arith))).takes

pub reads_for_a_record : ReadsForARecord
reads_for_a_record ended input room k h =
    let b = read_begun ended input room k h in
    (b.open_ended, begun_is_short (drop (advanced ended input room k).taken input) b.refusal b.begun)
