-- What a part of the handler leaves, from what it wrote and what the store answered.
use Prim.Native.Nat.{ℕ}
use mathlib.Core.Path.{◌≡◌, refl, sym, ◌∙◌}
use Rattle.std.specs.Prelude.{Result, Ok, Err}
use Rattle.entry.specs.Refusal.{number}
use Rattle.entry.specs.declared.Refusal.{Refusal}
use mathlib.Core.Bool.{true}
use mathlib.Core.List.{List}
use Rattle.entry.specs.Entry.{Entry}
use Rattle.clock.specs.declared.Clock.{Clock}
use Rattle.frame.specs.Message.{Message, ok}
use Rattle.image.specs.Image.{sound}
use Rattle.store.specs.Answer.{Answer, is_refused, answer_of}
use Rattle.store.specs.Answer as answer
use Rattle.store.specs.declared.Offered.{Offered}
use Rattle.store.specs.Offer.{offer_answer, after_offer}
use Rattle.store.specs.Unchecked.{offer_unchecked, after_offer_unchecked}
use Rattle.store.proofs.OnSound.{unchecked_on_sound}
use Rattle.node.specs.declared.Handled.{Handled}
use Rattle.node.specs.Handler.{Served, done, refused, offer_served, offered, settle}
use Rattle.store.specs.declared.Offered.TheVariants.{Stored, Replaced, Kept}
use Rattle.node.specs.Request.{Replies, Refuses, Settles, outcome_of, Does}

module _ (s : List ℕ) (c : Clock) (reply : List ℕ) (r : Handled) (store' reply' : List ℕ) where
  pub settled : (s' : List ℕ) (c' : Clock) (m : Message) → store' ≡ s' → Replies c' m 0 reply r reply' → Settles s c reply (done s' c' m) r store' reply'
  unfolding settle
  settled s' c' m e p = record { store_is = e; clock_is = p.clock_is; reply_is = p.reply_is; written_is = p.written_is; answer_is = p.answer_is }

  pub settled_refused : (n : ℕ) → store' ≡ s → Refuses c n reply r reply' → Settles s c reply (refused n) r store' reply'
  unfolding settle
  settled_refused n e p = record { store_is = e; clock_is = p.clock_is; reply_is = p.reply_is; written_is = p.written_is; answer_is = p.answer_is }

  -- what is settled of an equal outcome
  pub settled_as : (x y : Served) → x ≡ y → Settles s c reply x r store' reply' → Settles s c reply y r store' reply'
  settled_as x y e p = rw e at p

-- ---- a write
-- a refused offer leaves the store as it came
pub refused_leaves : (s : List ℕ) (e : Entry) (n : ℕ) → offer_answer s e ≡ answer.refused n → after_offer s e ≡ s
unfolding after_offer is_refused
refused_leaves s e n q = rw q

module _ (s store' : List ℕ) where
  -- what is done of an equal outcome
  pub does_as : (x y : Served) (r : Result Clock Refusal) → x ≡ y → Does s x r store' → Does s y r store'
  does_as x y r e d = rw e at d

  -- a refusal before anything was offered
  pub does_nothing : (x : Served) (r : Refusal) → store' ≡ s → refused (number r) ≡ x → Does s x (Err r) store'
  does_nothing x r k e = record { outcome_is = e; stays = λ q w. k }

  -- an entry was offered
  module _ (h : sound s ≡ true) (e : Entry) (left : store' ≡ after_offer_unchecked s e) (next : Clock) (o : Result Offered Refusal)
      (told : answer_of o ≡ offer_unchecked s e) where
    after : store' ≡ after_offer s e
    after = left ∙ (unchecked_on_sound s h).after e

    answer_is : answer_of o ≡ offer_answer s e
    answer_is = told ∙ (unchecked_on_sound s h).offer e

    pub offer_does : (x : Offered) → o ≡ Ok x → Does s (offered s next e) (Ok next) store'
    unfolding offered offer_served
    offer_does x q = record { outcome_is = rw (after) (by x (rw q at answer_is)); stays = λ r w. absurd (cc) }
      where
        by : (x : Offered) → answer_of (Ok x) ≡ offer_answer s e → done (after_offer s e) next ok ≡ offer_served (after_offer s e) next (offer_answer s e)
        by Stored k = rw (← k) refl
        by Replaced k = rw (← k) refl
        by Kept k = rw (← k) refl

    pub offer_refused : (r : Refusal) → o ≡ Err r → Does s (offered s next e) (Err r) store'
    unfolding offered offer_served
    offer_refused r q =
        let k : answer.refused (number r) ≡ offer_answer s e = rw q at answer_is in
        record { outcome_is = rw (← k) refl; stays = λ w p. after ∙ refused_leaves s e (number r) (sym k) }

-- what is replied to a write settles its outcome
pub done_settles : (s : List ℕ) (x : Served) (r : Result Clock Refusal) (store' : List ℕ) (c : Clock) (reply : List ℕ) (a : Handled) (reply' : List ℕ)
    → Does s x r store' → ((store : List ℕ) → Settles store c reply (outcome_of store r) a store reply') → Settles s c reply x a store' reply'
unfolding settle
done_settles s x (Ok n) store' c reply a reply' d p = let e = d.outcome_is in rw (← e) (p store')
done_settles s x (Err n) store' c reply a reply' d p = let e = d.outcome_is in let k = d.stays n refl in rw (← e, k) (p s)
