-- What the parts of the handler owe each other.
use Rattle.std.specs.Prelude.{ℕ, ◌≤◌, ◌≡◌, true, List, length, Result, Ok, Err}
use Rattle.entry.specs.declared.Refusal.{Refusal}
use Rattle.entry.specs.Refusal.{number, refusal_number}
use Rattle.clock.specs.declared.Clock.{Clock}
use Rattle.frame.specs.Message.{Message, ok, err}
use Rattle.frame.specs.Layout.{max_frame, frame_of}
use Rattle.image.specs.Image.{sound}
use Rattle.node.specs.declared.Handled.{Handled}
use Rattle.node.specs.Handler.{Served, done, refused, over, settle}
use Rattle.node.specs.Answer.{Leaves}

-- an answer with the clock c and the refusal n, 0 for none, and the message m in the reply
pub record Replies (c : Clock) (m : Message) (n : ℕ) (reply : List ℕ) (r : Handled) (reply' : List ℕ) : Type 0 where
  pub clock_is : r.clock ≡ c
  pub reply_is : reply' ≡ over (frame_of m) reply
  pub written_is : r.written ≡ length (frame_of m)
  pub answer_is : refusal_number r.answer ≡ n

-- a refusal, told by its ERR frame
abbrev pub Refuses : Clock → ℕ → List ℕ → Handled → List ℕ → Type 0
Refuses c n reply r reply' = Replies c (err n) n reply r reply'

-- what is left of a call is what settling it leaves
abbrev pub Settles : List ℕ → Clock → List ℕ → Served → Handled → List ℕ → List ℕ → Type 0
Settles store c reply x r store' reply' = Leaves (settle store c reply x) r store' reply'

-- a write that was taken has a next clock, and OK is to be replied; or it is refused
abbrev pub outcome_of : List ℕ → Result Clock Refusal → Served
outcome_of store (Ok c) = done store c ok
outcome_of store (Err r) = refused (number r)

-- a write's answer and the store that it leaves are those of an outcome; refused, it leaves the
-- store as it came (R29)
pub record Does (store : List ℕ) (x : Served) (r : Result Clock Refusal) (store' : List ℕ) : Type 0 where
  pub outcome_is : outcome_of store' r ≡ x
  pub stays : (e : Refusal) → r ≡ Err e → store' ≡ store

-- a request may be served: the store is sound, and the reply has room for any frame
pub record Ready (store reply : List ℕ) : Type 0 where
  pub is_sound : sound store ≡ true
  pub room : max_frame ≤ length reply
