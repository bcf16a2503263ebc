-- One turn.
use mathlib.Core.Path.{◌≡◌, refl, sym, ap, ◌∙◌}
use mathlib.Core.Bool.{Bool, true, false, not, ◌&&◌}
use mathlib.Core.List.{List, [], ◌++◌, append-nil}
use Prim.Native.Nat.{ℕ, ◌+◌, ◌-◌, ◌≤◌}
use native.Mathlib.Omega.{arith}
use lib.ListN.{length, take, drop, length-append, take-append-drop}
use lib.Seq.{length-take-le, drop-drop}
use Rattle.wire.specs.Fill.{field}
use Rattle.wire.proofs.Fields.{rest}
use Rattle.frame.specs.Message.{err}
use Rattle.frame.specs.Layout.{frame_of}
use Rattle.node.specs.declared.Handled.{Handled}
use Rattle.node.specs.Handler.{handled}
use Rattle.node.specs.Answer.{Handles}
use Rattle.journal.specs.declared.Cut.{Cut}
use Rattle.journal.specs.Journal.{Piece, whole, no_record, piece_of, meaning, record_at}
use Rattle.replayer.specs.declared.Next.{Next}
use Rattle.replayer.specs.declared.Next.TheVariants.{Read, Write, Stop}
use Rattle.replayer.specs.declared.Progress.{Progress}
use Rattle.replayer.specs.Replies.{answer, after, reply_to, last_reply}
use Rattle.replayer.specs.Advance.{answered, waiting, stopped, turn_on, turn, replay_of, with_next, Fits, Leaves}
use Rattle.replayer.proofs.Filling.{length_err}

-- the bytes of a record's frame, as the code cuts them from the input
pub frame_cut : (a e : ℕ) (i : List ℕ) → 6 ≤ e → take (a + e - (a + 6)) (drop (a + 6) i) ≡ field 6 (e - 6) (drop a i)
unfolding field
frame_cut a e i h =
    let n : a + e - (a + 6) ≡ e - 6 = omega arith in
    rw (n, drop-drop)

-- what cut_record found at the front of what is left
pub cut_piece : (a : ℕ) (i : List ℕ) (x y : Cut) → meaning x ≡ piece_of (take (length i - a) (drop a i)) → x ≡ y → piece_of (drop a i) ≡ meaning y
cut_piece a i x y h e = ap piece_of (sym (rest a i)) ∙ sym h ∙ ap meaning e

module _ (s b o i : List ℕ) (p : Progress) (f : Fits i o p) where
  filled_long : (q : List ℕ) → length (take p.filled o ++ q) ≡ p.filled + length q
  filled_long q = length-append (take p.filled o) q ∙ omega (arith, length-take-le p.filled o (omega (arith, f.room)))

  -- what was put behind the first bytes of the output
  behind : (q q' o' : List ℕ) → q' ≡ q → o' ≡ take p.filled o ++ q' ++ drop (p.filled + length q') o
      → o' ≡ take p.filled o ++ q ++ drop (length (take p.filled o ++ q)) o
  behind q q' o' e h = rw (filled_long q, ← e) h

  module _ (t e : ℕ) (six : 6 ≤ e) where
    pub answer_leaves : (h : Handled) (s' b' o' : List ℕ) (filled : ℕ)
        → Handles s p.clock t (take (p.taken + e - (p.taken + 6)) (drop (p.taken + 6) i)) b h s' b'
        → filled ≡ p.filled + length (take h.written b')
        → o' ≡ take p.filled o ++ take h.written b' ++ drop (p.filled + length (take h.written b')) o
        → Leaves (answered (replay_of s b o p) (record_at t e (drop p.taken i)) e) o
        (record { clock = h.clock; taken = p.taken + e; filled = filled; next = Write }) s' b' o'
    unfolding answered after reply_to answer record_at
    answer_leaves h s' b' o' filled g n u =
        let l = rw (frame_cut p.taken e i six) at g in
        let x = handled s p.clock t (field 6 (e - 6) (drop p.taken i)) b in
        let q : take h.written b' ≡ take x.written x.reply = rw (l.written_is, l.reply_is) in
        record {
          store_is = l.store_is;
          clock_is = l.clock_is;
          reply_is = l.reply_is;
          taken_is = refl;
          filled_is = n ∙ ap (λ (a : List ℕ). p.filled + length a) q ∙ sym (filled_long (take x.written x.reply));
          output_is = behind (take x.written x.reply) (take h.written b') o' q u;
          next_is = refl;
        }

  -- nothing was put there
  same_leaves : (n : Next) (w : List ℕ) → w ≡ take p.filled o
      → Leaves (record { kept = (replay_of s b o p).kept; taken = p.taken; output = w; next = n }) o (with_next p.filled n p) s b o
  same_leaves n w e =
      let l : length (take p.filled o) ≡ p.filled = length-take-le p.filled o (omega (arith, f.room)) in
      record {
        store_is = refl;
        clock_is = refl;
        reply_is = refl;
        taken_is = refl;
        filled_is = rw (e, l);
        output_is = rw (e, l) (sym (take-append-drop p.filled o));
        next_is = refl;
      }

  module _ (ended : Bool) where
    turned : (x : Piece) → piece_of (drop p.taken i) ≡ x → turn ended i (replay_of s b o p) ≡ turn_on ended (replay_of s b o p) (drop p.taken i) x
    unfolding turn
    turned x h = ap (turn_on ended (replay_of s b o p) (drop p.taken i)) h

    pub turn-answers : (t e : ℕ) (s' b' o' : List ℕ) (r : Progress) → piece_of (drop p.taken i) ≡ whole t e
        → Leaves (answered (replay_of s b o p) (record_at t e (drop p.taken i)) e) o r s' b' o' → Leaves (turn ended i (replay_of s b o p)) o r s' b' o'
    unfolding turn_on
    turn-answers t e s' b' o' r h l = rw (turned (whole t e) h) l

    module _ (r : Progress) where
      pub turn_waits : (n : ℕ) → piece_of (drop p.taken i) ≡ no_record true n → ended ≡ false → r ≡ with_next p.filled Read p
          → Leaves (turn ended i (replay_of s b o p)) o r s b o
      unfolding turn_on waiting
      turn_waits n h w e = rw (turned (no_record true n) h, w, e) (same_leaves Read (take p.filled o) refl)

      pub turn_ends : piece_of (drop p.taken i) ≡ no_record true 0 → ended ≡ true → r ≡ with_next p.filled Stop p
          → Leaves (turn ended i (replay_of s b o p)) o r s b o
      unfolding turn_on stopped last_reply
      turn_ends h w e = rw (turned (no_record true 0) h, w, e) (same_leaves Stop (take p.filled o ++ []) (append-nil (take p.filled o)))

      pub turn_stops : (more : Bool) (o' : List ℕ) → piece_of (drop p.taken i) ≡ no_record more 3 → more && not ended ≡ false
          → r ≡ with_next (p.filled + 9) Stop p → o' ≡ take p.filled o ++ frame_of (err 3) ++ drop (p.filled + 9) o
          → Leaves (turn ended i (replay_of s b o p)) o r s b o'
      unfolding turn_on stopped last_reply
      turn_stops more o' h w e u =
          let l : length (frame_of (err 3)) ≡ 9 = length_err 3 in
          rw (turned (no_record more 3) h, w, e) (record {
            store_is = refl;
            clock_is = refl;
            reply_is = refl;
            taken_is = refl;
            filled_is = rw (filled_long (frame_of (err 3)), l);
            output_is = behind (frame_of (err 3)) (frame_of (err 3)) o' refl (rw l u);
            next_is = refl;
          })
