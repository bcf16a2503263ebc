-- The handler's checks in their order.
use Prim.Native.Nat.{ℕ, ◌≤◌, ◌<◌, ◌^◌}
use mathlib.Core.Path.{◌≡◌, refl}
use mathlib.Core.Logic.{◌⊎◌, inl, inr}
use mathlib.Core.Bool.{true, false}
use mathlib.Core.List.{List}
use lib.ListN.{length}
use lib.Dec.{leb}
use borrow.Author.Tests.{lt-ltb, le-ltb, le-leb, lt-leb}
use Rattle.clock.specs.declared.Clock.{Clock}
use Rattle.std.specs.Prelude.{Ok, Err}
use Rattle.entry.specs.declared.Refusal.{Refusal}
use Rattle.entry.specs.Refusal.{number}
use Rattle.frame.specs.declared.answer.Message.{Message as Located}
use Rattle.frame.specs.Layout.{max_frame}
use Rattle.frame.specs.Reading.{message_in, type_in, read_answer, read_frame}
use Rattle.image.specs.Image.{sound}
use Rattle.node.specs.declared.Handled.{Handled}
use Rattle.entry.specs.declared.Refusal.TheVariants.{NoRoom}
use Rattle.node.specs.Handler.{Served, refused, serve, serve_outcome, serve_frame, handled}
use Rattle.node.specs.Answer.{Handles}
use Rattle.node.specs.Request.{Refuses, Settles}
use Rattle.node.proofs.Settling.{settled_refused, settled_as}

module _ (s : List ℕ) (c : Clock) (now : ℕ) (frame out : List ℕ) where
  pub no_room : length out < max_frame → Handles s c now frame out (record { clock = c; written = 0; answer = Err NoRoom }) s out
  unfolding handled
  no_room h = rw (lt-ltb (length out) max_frame h) record { store_is = refl; clock_is = refl; reply_is = refl; written_is = refl; answer_is = refl }

  module _ (room : max_frame ≤ length out) (r : Handled) (store' out' : List ℕ) where
    pub handles : (x : Served) → x ≡ serve_frame s c now frame → Settles s c out x r store' out' → Handles s c now frame out r store' out'
    unfolding handled
    handles x e p = rw (le-ltb (length out) max_frame room) (settled_as s c out r store' out' x (serve_frame s c now frame) e p)

    pub refuses : (n : ℕ) → refused n ≡ serve_frame s c now frame → store' ≡ s → Refuses c n out r out' → Handles s c now frame out r store' out'
    refuses n e k p = handles (refused n) e (settled_refused s c out r store' out' n k p)

  pub unsound : sound s ≡ false → refused 5 ≡ serve_frame s c now frame
  unfolding serve_frame
  unsound h = rw h

  module _ (h : sound s ≡ true) where
    -- as the code tests the two times
    pub bad_times : (2 ^ 48 ≤ now) ⊎ ((now < 2 ^ 48) × (2 ^ 48 ≤ c.phys)) → refused 9 ≡ serve_frame s c now frame
    unfolding serve_frame
    bad_times (inl k) = rw (h, le-leb (2 ^ 48) now k)
    bad_times (inr k) = rw (h, lt-leb (2 ^ 48) now k.0, le-leb (2 ^ 48) c.phys k.1)

    module _ (k : now < 2 ^ 48) where
      module _ (p : c.phys < 2 ^ 48) where
        pub reply_type : leb 16 (type_in frame) ≡ true → refused 3 ≡ serve_frame s c now frame
        unfolding serve_frame
        reply_type t = rw (h, lt-leb (2 ^ 48) now k, lt-leb (2 ^ 48) c.phys p, t)

        module _ (t : leb 16 (type_in frame) ≡ false) where
          pub served : (m : Located) → Ok m ≡ read_answer frame → serve s c now (message_in frame m) ≡ serve_frame s c now frame
          unfolding serve_frame serve_outcome read_frame
          served m e = rw (h, lt-leb (2 ^ 48) now k, lt-leb (2 ^ 48) c.phys p, t, ← e)

          pub unread : (r : Refusal) → Err r ≡ read_answer frame → refused (number r) ≡ serve_frame s c now frame
          unfolding serve_frame serve_outcome read_frame
          unread r e = rw (h, lt-leb (2 ^ 48) now k, lt-leb (2 ^ 48) c.phys p, t, ← e)
