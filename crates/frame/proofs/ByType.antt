-- What holds of each row of the reader's table holds of what it reads.
use mathlib.Core.Path.{◌≡◌, refl}
use mathlib.Core.Bool.{Bool, true, false, cond}
use mathlib.Core.List.{List}
use Prim.Native.Nat.{ℕ, ◌+◌}
use lib.Dec.{eqb}
use borrow.Author.Tests.{eqb-true}
use Rattle.std.specs.Prelude.{Result, Err}
use Rattle.entry.specs.declared.Refusal.{Refusal}
use Rattle.entry.specs.declared.Refusal.TheVariants.{BadFrame}
use Rattle.frame.specs.declared.answer.Message.{Message as Located}
use Rattle.frame.specs.declared.answer.Message.TheVariants.{Get, Del, Ok as OkMessage, Value, NotFound, Err as ErrMessage}
use Rattle.frame.specs.Reading.{span, number_at, klen, vlen, ends_at, key_ends, value_ends, checked, put_in, repl_in, read_body}

-- what holds of both branches holds of a choice between them
pub either : {A : Type 0} (P : A → Type 0) (b : Bool) (x y : A) → P x → P y → P (cond b x y)
either P true x y p q = p
either P false x y p q = q

module _ (P : Result Located Refusal → Type 0) (s : List ℕ) where
  -- a property, by the type and by whether the message uses up the body
  pub record Rows (t : ℕ) : Type 0 where
    pub put : t ≡ 1 → P (checked s (value_ends (klen s + 5) s) (put_in s))
    pub get : t ≡ 2 → P (checked s (key_ends s) (Get (span 5 (klen s))))
    pub del : t ≡ 3 → P (checked s (key_ends s) (Del (span 5 (klen s))))
    pub repl : t ≡ 4 → P (checked s (value_ends (klen s + 15) s) (repl_in s))
    pub ok : t ≡ 16 → P (checked s (ends_at 4 s) OkMessage)
    pub value : t ≡ 17 → P (checked s (value_ends 4 s) (Value (span 6 (vlen 4 s))))
    pub not_found_lem : t ≡ 18 → P (checked s (ends_at 4 s) NotFound)
    pub err : t ≡ 20 → P (checked s (ends_at 5 s) (ErrMessage (number_at 4 1 s)))
    pub unknown : P (Err BadFrame)

  row : (t c : ℕ) (x y : Result Located Refusal) → (t ≡ c → P x) → P y → P (cond (eqb t c) x y)
  row t c x y p q = go (eqb t c) refl
    where
      go : (b : Bool) → eqb t c ≡ b → P (cond b x y)
      go true e = p (eqb-true t c e)
      go false e = q

  pub by_type : (t : ℕ) → Rows t → P (read_body t s)
  unfolding read_body
  by_type t r =
      row t 1 _ _ r.put
      (row t 2 _ _ r.get
      (row t 3 _ _ r.del
      (row t 4 _ _ r.repl
      (row t 16 _ _ r.ok
      (row t 17 _ _ r.value
      (row t 18 _ _ r.not_found_lem
      (row t 20 _ _ r.err
      r.unknown)))))))
