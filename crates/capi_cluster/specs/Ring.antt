-- The ring's functions.
use Rattle.std.specs.Prelude.{ℕ, Bool, cond, not, ◌||◌, List, leb, eqb}
use Rattle.peers.specs.declared.Admission.{Admission}
use Rattle.peers.specs.declared.Admission.TheVariants.{Home, Standing}
use Rattle.ring.specs.Answer.{Answer, gives, refuses}
use Rattle.ring.specs.Owners.{owners_answer, owners_output}
use Rattle.capi_words.specs.Result.{packed}
use Rattle.capi_cluster.specs.Words.{is_table, table_of}

-- the refusal in an answer, or 0
abbrev pub refusal_in : Answer → ℕ
refusal_in (gives n) = 0
refusal_in (refuses n) = n

-- the number in an answer, or 0
abbrev pub given_in : Answer → ℕ
given_in (gives n) = n
given_in (refuses n) = 0

abbrev pub answer_word : Answer → ℕ
answer_word a = packed (refusal_in a) (given_in a)

-- 0 is HOME, 1 is STANDING (R239)
abbrev pub admission_of : ℕ → Admission
admission_of n = cond (eqb n 0) Home Standing

-- another number is no admission (R238, R239)
unfoldable pub bad_form : ℕ → List ℕ → Bool
bad_form admission w = leb 2 admission || not (is_table w)

-- the refusal of an owner walk: 17 for a bad form, then the walk's own (R239)
unfoldable pub owners_refusal : List ℕ → List ℕ → ℕ → ℕ → List ℕ → ℕ
owners_refusal ring w admission count out =
    cond (bad_form admission w) 17 (refusal_in (owners_answer ring (table_of w) (admission_of admission) count out))

-- the output after it
unfoldable pub owners_bytes : List ℕ → List ℕ → ℕ → ℕ → ℕ → List ℕ → List ℕ
owners_bytes ring w position admission count out =
    cond (bad_form admission w) out (owners_output ring (table_of w) position (admission_of admission) count out)
