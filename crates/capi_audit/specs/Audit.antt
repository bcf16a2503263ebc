-- The words of the report's functions.
use Rattle.std.specs.Prelude.{ℕ}
use Rattle.deliveries.specs.List.{Answer as Count, deliveries, refused as not_counted}
use Rattle.explain.specs.Explain.{Answer, won, no_delivery, refused}
use Rattle.capi_words.specs.Result.{packed}

-- ---- the number of deliveries
abbrev pub count_refusal : Count → ℕ
count_refusal (deliveries n) = 0
count_refusal (not_counted n) = n

abbrev pub count_given : Count → ℕ
count_given (deliveries n) = n
count_given (not_counted n) = 0

abbrev pub count_word : Count → ℕ  -- (R236)
count_word a = packed (count_refusal a) (count_given a)

-- ---- the report
abbrev pub explained_refusal : Answer → ℕ
explained_refusal (won i) = 0
explained_refusal no_delivery = 0
explained_refusal (refused n) = n

-- the winner's place, or 65535 for NONE (R254)
abbrev pub explained_given : Answer → ℕ
explained_given (won i) = i
explained_given no_delivery = 65535
explained_given (refused n) = 0

abbrev pub explained_word : Answer → ℕ  -- (R236, R254)
explained_word a = packed (explained_refusal a) (explained_given a)
