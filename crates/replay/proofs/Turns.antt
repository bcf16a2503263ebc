-- Where a turn of the program leaves it.
use mathlib.Core.Path.{◌≡◌, refl, sym, ap, ◌∙◌}
use mathlib.Core.Bool.{Bool, true, false}
use mathlib.Core.List.{List, [], ◌∷◌, ◌++◌, append-nil}
use Prim.Native.Nat.{ℕ, ◌+◌, ◌-◌, ◌≤◌, ◌<◌}
use native.Mathlib.Omega.{arith}
use lib.ListN.{length, take, drop, length-drop}
use lib.Seq.{take_all, take-add}
use borrow.Author.Tests.{eqb-true, eq-eqb}
use Rattle.std.specs.declared.ops.ControlFlow.{ControlFlow}
use Rattle.std.specs.declared.ops.ControlFlow.TheVariants.{Continue, Break}
use Rattle.wire.specs.Fill.{field}
use Rattle.wire.proofs.Tests.{clash}
use Rattle.wire.proofs.Fill.{length-field}
use Rattle.wire.proofs.Fields.{field_part}
use Rattle.clock.specs.declared.Clock.{Clock}
use Rattle.clock.specs.Clock.{fresh_clock}
use Rattle.image.specs.Layout.{most_slots, slot_start}
use Rattle.store.specs.Create.{create_refusal, after_create}
use Rattle.replayer.specs.declared.Next.{Next}
use Rattle.replayer.specs.declared.Next.TheVariants.{Read, Write, Stop}
use Rattle.replayer.specs.declared.Progress.{Progress}
use Rattle.replayer.specs.Replies.{Kept, start}
use Rattle.replayer.specs.Advance.{Replay, advanced, Advances}
use Rattle.replayer.specs.Meaning.{Stream, Call, after_call, is_stop, called, called_all, fed, no_more, drained}
use Rattle.replayer.proofs.Calls.{calls_stay_within, reads_for_a_record}
use Rattle.replayer.proofs.Feeding.{fed_more, drained_more, drained_none}
use Rattle.replay.specs.declared.State.{State}
use Rattle.replay.specs.State.{Fits, History, one_more, Stands, StandsAfter, Refilled, past_call, CanGoOn, GoesOn, state_of, TurnIsOneCall}

-- what is left of a part once its first bytes are taken
part_left : (a n t : ℕ) (b : List ℕ) → t ≤ n → a + n ≤ length b → drop t (field a n b) ≡ field (a + t) (n - t) b
unfolding field
part_left a n t b h w =
    let l : length (field a n b) ≡ n = length-field a n b w in
    let d : length (drop t (field a n b)) ≡ n - t = length-drop t (field a n b) ∙ ap (λ (m : ℕ). m - t) l in
    sym (take_all (n - t) (drop t (field a n b)) (omega (arith, d))) ∙ field_part a n t (n - t) b (omega arith)

-- what came stands behind what was left
filled_rest : (k e at : ℕ) (u b : List ℕ) → u ≡ take k b → k ≤ e → at ≡ 0 → u ++ take (e - k) (drop k b) ≡ field at e b
unfolding field
filled_rest k e at u b h l z =
    let d : k + (e - k) ≡ e = omega arith in
    rw (z, h) (sym (take-add k (e - k) b) ∙ ap (λ (n : ℕ). take n b) d)

called_as : (e : Bool) (i : Stream) (c : Call) (b : List ℕ) (n : ℕ) (k : Kept) → is_stop i.next ≡ false → i.rest ++ c.came ≡ b → c.room ≡ n
    → i.kept ≡ k → called e i c ≡ after_call i b (advanced e b n k)
unfolding called
called_as e i c b n k h r m q = rw h (λ j. after_call i (r j) (advanced e (r j) (m j) (q j)))

module _ (store reply input output : List ℕ) (s : State) (f : Fits input output s) (p : Progress) (store' reply' output' : List ℕ)
    (l : Advances store s.clock (field s.rest.at s.rest.len input) s.ended reply output p store' reply' output') where
  came : List ℕ
  came = field s.rest.at s.rest.len input

  before : Kept
  before = record { store = store; clock = s.clock; reply = reply }

  x : Replay
  x = advanced s.ended came (length output) before

  came_long : length came ≡ s.rest.len
  unfolding came
  came_long = length-field s.rest.at s.rest.len input f.within

  -- the call took no more than had come, and filled no more than there was
  taken_within : p.taken ≤ s.rest.len
  unfolding x came before
  taken_within =
      let v = calls_stay_within s.ended came (length output) before in
      omega (arith, l.taken_is, v.input_left, came_long)

  pub filled_within : p.filled ≤ 65536
  unfolding x came before
  filled_within =
      let v = calls_stay_within s.ended came (length output) before in
      omega (arith, l.filled_is, v.output_left, f.outputs)

  -- where more is to be read, less than a record is left
  read_room : p.next ≡ Read → s.rest.len - p.taken < length input
  unfolding x came before
  read_room h =
      let v = reads_for_a_record s.ended came (length output) before (sym l.next_is ∙ h) in
      omega (arith, v.1, length-drop x.taken came, came_long, l.taken_is, f.inputs)

  pub can_go_on : CanGoOn input s p
  can_go_on = record { order = taken_within; within = f.within; inputs = f.inputs; room = read_room }

  -- the state past the call, and what is left of the input there
  past : State
  past = past_call s p

  left : List ℕ
  left = field (s.rest.at + p.taken) (s.rest.len - p.taken) input

  written_is : (i : Stream) → after_call i came x ≡ record {
    kept = record { store = store'; clock = p.clock; reply = reply' };
    rest = left;
    written = i.written ++ x.output;
    next = p.next;
  }
  unfolding after_call x came before left
  written_is i =
      let r : drop x.taken came ≡ left =
      rw (← l.taken_is) (part_left s.rest.at s.rest.len p.taken input taken_within f.within) in
      λ j. record {
        kept = record { store = sym l.store_is j; clock = sym l.clock_is j; reply = sym l.reply_is j };
        rest = r j;
        written = i.written ++ x.output;
        next = sym l.next_is j;
      }

  fits_past : length output' ≡ length output → Fits input output' past
  unfolding past
  fits_past os = record { within = omega (arith, taken_within, f.within); inputs = f.inputs; outputs = os ∙ f.outputs }

  -- where the program stands once the call is made
  module _ (h : History) (w : StandsAfter h store reply input (Continue s)) where
    after : Stream
    after = record {
      kept = record { store = store'; clock = p.clock; reply = reply' };
      rest = left;
      written = (drained h.calls h.rooms).written ++ x.output;
      next = p.next;
    }

    made : Call
    made = record { came = h.came; room = 65536 }

    call_is : called s.ended (drained h.calls h.rooms) made ≡ after
    unfolding made after came before x
    call_is =
        let i = drained h.calls h.rooms in
        called_as s.ended i made came (length output) before w.1 w.0.rest_is (sym f.outputs) w.0.kept_is ∙ written_is i

    all_made : (b : Bool) (more : List ℕ) → s.ended ≡ b → drained (one_more b h more).calls (one_more b h more).rooms ≡ after
    unfolding made
    all_made true more e =
        let c : no_more 65536 ≡ made = λ j. record { came = sym (w.0.no_more_read e) j; room = 65536 } in
        drained_more h.calls h.rooms 65536 ∙ rw (c, ← e) call_is
    all_made false more e =
        let i : fed h.calls ≡ drained h.calls h.rooms = sym (drained_none h.calls) ∙ ap (drained h.calls) (sym (w.0.open_ended e)) in
        let z : h.rooms ≡ [] = w.0.open_ended e in
        ap (drained (h.calls ++ (made ∷ []))) z ∙ drained_none (h.calls ++ (made ∷ [])) ∙ fed_more h.calls made ∙
        (λ j. called (sym e j) (i j) made) ∙ call_is

    still_open : (b : Bool) (more : List ℕ) → s.ended ≡ b → b ≡ false → (one_more b h more).rooms ≡ []
    still_open true more e z = clash refl z
    still_open false more e z = w.0.open_ended e

    stands_past : Stands (one_more s.ended h []) store' reply' input past
    unfolding after past left
    stands_past =
        let m = all_made s.ended [] refl in
        record {
          kept_is = ap (λ (i : Stream). i.kept) m;
          rest_is = append-nil _ ∙ ap (λ (i : Stream). i.rest) m;
          open_ended = still_open s.ended [] refl;
          no_more_read = λ e. refl;
        }

    -- what the calls have left to be done
    next_is : (more : List ℕ) → is_stop (drained (one_more s.ended h more).calls (one_more s.ended h more).rooms).next ≡ is_stop p.next
    unfolding after
    next_is more = ap (λ (i : Stream). is_stop i.next) (all_made s.ended more refl)

    -- more has been read
    module _ (n : p.next ≡ Read) (r : State) (input' : List ℕ) (q : Refilled input past r input') where
      more : List ℕ
      more = take (r.rest.len - past.rest.len) (drop past.rest.len input')

      stands_filled : Stands (one_more s.ended h more) store' reply' input' r
      unfolding after x came before more past left
      stands_filled =
          let k = s.rest.len - p.taken in
          let m = all_made s.ended more refl in
          let v = reads_for_a_record s.ended came (length output) before (sym l.next_is ∙ n) in
          record {
            kept_is = ap (λ (i : Stream). i.kept) m ∙ (λ j. record { store = store'; clock = sym q.clock_is j; reply = reply' });
            rest_is = filled_rest k r.rest.len r.rest.at _ input' (ap (λ (i : Stream). i.rest) m ∙ sym q.kept) q.longer q.at_is;
            open_ended = λ e. still_open s.ended more refl v.0;
            no_more_read = λ e. ap (λ (a : ℕ). take a (drop k input')) (eqb-true (r.rest.len - k) 0 (sym q.ended_is ∙ e));
          }

    stands_on : (n : Next) → p.next ≡ n → (r : ControlFlow State State) (input' : List ℕ) → GoesOn n input s p r input'
        → (more : List ℕ) × StandsAfter (one_more s.ended h more) store' reply' input' r
    unfolding past
    stands_on Read e (Continue r) input' q = (more e r input' q, (stands_filled e r input' q, next_is (more e r input' q) ∙ ap is_stop e))
    stands_on Read e (Break r) input' q = elim q [ ]
    stands_on Write e r input' q = ([], rw (q.0, q.1) (stands_past, next_is [] ∙ ap is_stop e))
    stands_on Stop e r input' q = ([], rw (q.0, q.1) stands_past)

  -- ---- what a turn ensures
  fits_on : (n : Next) → (r : ControlFlow State State) (input' : List ℕ) → GoesOn n input s p r input' → length input' ≡ length input
      → length output' ≡ length output → Fits input' output' (state_of r)
  unfolding past
  fits_on Read (Continue r) input' q is os =
      record { within = omega (arith, q.at_is, q.within); inputs = is ∙ f.inputs; outputs = os ∙ f.outputs }
  fits_on Read (Break r) input' q is os = elim q [ ]
  fits_on Write r input' q is os = rw (q.0, q.1) (fits_past os)
  fits_on Stop r input' q is os = rw (q.0, q.1) (fits_past os)

  pub turn_goes_on : (r : ControlFlow State State) (input' : List ℕ) → GoesOn p.next input s p r input' → length input' ≡ length input
      → length output' ≡ length output → Fits input' output' (state_of r) × TurnIsOneCall store reply input s store' reply' input' r
  turn_goes_on r input' q is os = (fits_on p.next r input' q is os, λ h w. stands_on h w p.next refl r input' q)

  -- a write that failed ends it past the call
  pub turn_stops : (r : State) → r ≡ past_call s p → length output' ≡ length output
      → Fits input output' r × TurnIsOneCall store reply input s store' reply' input (Break r)
  unfolding past
  turn_stops r e os = (rw e (fits_past os), λ h w. ([], rw e (stands_past h w)))

-- at the start no call has been made, and nothing has come
abbrev pub nothing : History
nothing = record { calls = []; rooms = []; came = [] }

pub stands_first : (store reply input : List ℕ) (c : Clock) → store ≡ start.store → reply ≡ start.reply → c ≡ fresh_clock 1
    → StandsAfter nothing store reply input (Continue (record { clock = c; rest = record { at = 0; len = 0 }; ended = false }))
unfolding drained fed called_all start field
stands_first store reply input c hs hr hc = (
  record {
    kept_is = λ j. record { store = sym hs j; clock = sym hc j; reply = sym hr j };
    rest_is = refl;
    open_ended = λ e. refl;
    no_more_read = λ e. refl;
  },
  refl,
)

-- there is a history that has led there
pub record Reached (store reply input : List ℕ) (s : ControlFlow State State) : Type 0 where
  pub history : History
  pub stands : StandsAfter history store reply input s

-- as far as a turn leads
pub reached_on : (store reply input : List ℕ) (s : State) (store' reply' input' : List ℕ) (r : ControlFlow State State)
    → Reached store reply input (Continue s)
    → TurnIsOneCall store reply input s store' reply' input' r → Reached store' reply' input' r
reached_on store reply input s store' reply' input' r h t = record { history = _; stands = (t h.history h.stands).1 }

-- a buffer of the right length is made a store of the most slots
pub created : (b s : List ℕ) → length b ≡ slot_start most_slots → s ≡ after_create b most_slots → s ≡ start.store
unfolding after_create create_refusal start
created b s n h = h ∙ rw (eq-eqb (length b) (slot_start most_slots) n)
