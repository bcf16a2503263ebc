-- The handler's answers: how long replies are, and that they are frames.
use mathlib.Core.Path.{◌≡◌, ◌∙◌}
use mathlib.Core.Bool.{true}
use mathlib.Core.List.{List}
use Prim.Native.Nat.{ℕ, ◌≤◌}
use native.Mathlib.Omega.{arith}
use lib.ListN.{length, take, drop, length-take, length-append, length-drop}
use lib.Dec.{ltb}
use borrow.Author.Tests.{ltb-false}
use Rattle.wire.proofs.Tests.{cases}
use Rattle.clock.specs.declared.Clock.{Clock}
use Rattle.frame.specs.Message.{Message, err}
use Rattle.frame.specs.Reading.{message, read_frame}
use Rattle.frame.specs.Layout.{max_frame, frame_of}
use Rattle.node.specs.Handler.{Served, done, refused, serve_frame, over, settle, handled}
use Rattle.node.specs.declared.Handled.{Handled}
use Rattle.node.specs.Answer.{Handles}
use Rattle.node.proofs.Telling.{reply_at_most_600, reply_reads_back}
use Rattle.journal.specs.Journal.{TimedFrame}
use Rattle.replayer.specs.Replies.{Kept, answer, after, reply_to}

module _ (s : List ℕ) (c : Clock) (t : ℕ) (f b : List ℕ) where
  pub written_within : (handled s c t f b).written ≤ length b
  written_within = cases (ltb (length b) max_frame)
      (λ p. short p)
      (λ p. omega (arith, ltb-false (length b) max_frame p, reply_at_most_600 s c t f b))
    where
      short : ltb (length b) max_frame ≡ true → (handled s c t f b).written ≤ length b
      short p = unfold handled in rw p (omega arith)

  settled_long : (x : Served) → (settle s c b x).written ≤ length b → length (settle s c b x).reply ≡ length b
  unfolding settle over
  settled_long (done s' c' m) h = length-append (frame_of m) (drop (length (frame_of m)) b) ∙ omega (arith, length-drop (length (frame_of m)) b)
  settled_long (refused n) h = length-append (frame_of (err n)) (drop (length (frame_of (err n))) b) ∙ omega (arith, length-drop (length (frame_of (err n))) b)

  pub reply_long : length (handled s c t f b).reply ≡ length b
  unfolding handled
  reply_long = cases (ltb (length b) max_frame)
      (λ p. rw p)
      (λ p. rw p (settled_long (serve_frame s c t f) (rw p at written_within)))

  -- the same of a call
  module _ (h : Handled) (s' b' : List ℕ) (g : Handles s c t f b h s' b') where
    pub call_within : h.written ≤ length b'
    call_within = rw (g.written_is, g.reply_is, reply_long) written_within

    pub call_short : length (take h.written b') ≤ max_frame
    call_short = rw length-take (omega (arith, g.written_is, reply_at_most_600 s c t f b))

module _ (k : Kept) (r : TimedFrame) where
  pub reply_short : length (reply_to k r) ≤ max_frame
  unfolding reply_to answer
  reply_short = rw length-take (omega (arith, reply_at_most_600 k.store k.clock r.time r.frame k.reply))

  -- a reply is a frame where it has room, and so has the next one
  pub reply_reads : max_frame ≤ length k.reply → (m : Message) × (read_frame (reply_to k r) ≡ message m)
  unfolding reply_to answer
  reply_reads h = let b = reply_reads_back k.store k.clock r.time r.frame k.reply h in (b.says, b.reads)

  pub room_kept : max_frame ≤ length k.reply → max_frame ≤ length (after k r).reply
  unfolding after answer
  room_kept h = omega (arith, reply_long k.store k.clock r.time r.frame k.reply)
