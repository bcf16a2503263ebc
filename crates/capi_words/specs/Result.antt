-- A result: a refusal in the upper 16 bits (0: none), and a count or an answer in the lower 16.
use Rattle.std.specs.Prelude.{ℕ, ◌+◌, ◌*◌, Bool, cond, min, Result, Ok, Err}
use Rattle.entry.specs.declared.Refusal.{Refusal}

abbrev pub packed : ℕ → ℕ → ℕ  -- (R199, R236)
packed refusal answer = refusal * 65536 + answer

-- what a result counts, as far as its 16 bits go, or 0 (R199)
abbrev pub count_in : Result ℕ Refusal → ℕ
count_in (Ok n) = min n 65535
count_in (Err r) = 0

-- 1 for a test that holds, else 0
abbrev pub flag : Bool → ℕ
flag b = cond b 1 0
