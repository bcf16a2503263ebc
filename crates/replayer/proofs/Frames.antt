-- The replies to a journal are frames.
use mathlib.Core.Path.{◌≡◌, refl, sym, ap, ◌∙◌}
use mathlib.Core.Logic.{inl, inr}
use mathlib.Core.List.{List, [], ◌∷◌, ◌++◌, append_assoc, append-nil}
use Prim.Native.Nat.{ℕ, ◌≤◌}
use native.Mathlib.Omega.{arith}
use lib.ListN.{length, length-append}
use Rattle.wire.proofs.Fill.{length-zeros}
use Rattle.frame.specs.Message.{Message, err}
use Rattle.frame.specs.Layout.{max_frame, frame_of}
use Rattle.frame.specs.Reading.{message, read_frame}
use Rattle.frame.proofs.RoundTrips.{written_reads_back}
use Rattle.journal.specs.Journal.{TimedFrame, journal_of}
use Rattle.journal.proofs.Records.{refusal_is_0_or_3}
use Rattle.replayer.specs.Replies.{Kept, start, after, reply_to, replies_to, last_reply, replies_from, replies}
use Rattle.replayer.specs.Meaning.{joined, AllRead, OneFrameForEachRecord}
use Rattle.replayer.proofs.Filling.{err_3_taken}
use Rattle.replayer.proofs.Answers.{reply_reads, room_kept}

-- the frames of the replies to some records
frames_to : Kept → List TimedFrame → List (List ℕ)
frames_to k [] = []
frames_to k (r ∷ rs) = reply_to k r ∷ frames_to (after k r) rs

frames_joined : (rs : List TimedFrame) (k : Kept) → replies_to k rs ≡ joined (frames_to k rs)
unfolding frames_to replies_to joined
frames_joined [] k = refl
frames_joined (r ∷ rs) k = ap (λ (l : List ℕ). reply_to k r ++ l) (frames_joined rs (after k r))

frames_count : (rs : List TimedFrame) (k : Kept) → length (frames_to k rs) ≡ length rs
unfolding frames_to
frames_count [] k = refl
frames_count (r ∷ rs) k = omega (arith, frames_count rs (after k r))

frames_read : (rs : List TimedFrame) (k : Kept) → max_frame ≤ length k.reply → AllRead (frames_to k rs)
unfolding frames_to
frames_read [] k h = tt
frames_read (r ∷ rs) k h = (reply_reads k r h, frames_read rs (after k r) (room_kept k r h))

-- one frame more
joined_more : (fs : List (List ℕ)) (f : List ℕ) → joined (fs ++ (f ∷ [])) ≡ joined fs ++ f
unfolding joined
joined_more [] f = append-nil f
joined_more (g ∷ fs) f = ap (λ (l : List ℕ). g ++ l) (joined_more fs f) ∙ sym (append_assoc g (joined fs) f)

read_more : (fs : List (List ℕ)) (f : List ℕ) (m : Message) → AllRead fs → read_frame f ≡ message m → AllRead (fs ++ (f ∷ []))
read_more [] f m a h = ((m, h), tt)
read_more (g ∷ fs) f m a h = (a.0, read_more fs f m a.1 h)

start_room : max_frame ≤ length start.reply
unfolding start
start_room = omega (arith, length-zeros max_frame)

pub one_frame_for_each_record : OneFrameForEachRecord
unfolding replies replies_from last_reply
one_frame_for_each_record s =
    let rs = (journal_of s).records in
    let fs = frames_to start rs in
    let a = frames_read rs start start_room in
    let n = frames_count rs start in
    elim (refusal_is_0_or_3 s) [
      | inl h ↦ record {
        frames = fs;
        are = rw h (append-nil (replies_to start rs) ∙ frames_joined rs start);
        count = rw h (omega arith);
        read = a;
      }
      | inr h ↦ record {
        frames = fs ++ (frame_of (err 3) ∷ []);
        are = rw h (ap (λ (l : List ℕ). l ++ frame_of (err 3)) (frames_joined rs start) ∙ sym (joined_more fs (frame_of (err 3))));
        count = rw h (omega (arith, length-append fs (frame_of (err 3) ∷ [])));
        read = read_more fs (frame_of (err 3)) (err 3) a (written_reads_back (err 3) err_3_taken tt);
      }
    ]
