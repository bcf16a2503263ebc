-- Laws of big-endian numbers.
use mathlib.Core.Path.{◌≡◌, refl, sym, ap, ◌∙◌}
use Prim.Native.Nat.{ℕ, min, zero, suc, ◌+◌, ◌-◌, ◌*◌, ◌/◌, ◌%◌, ◌^◌, ◌≤◌, ◌<◌}
use mathlib.Core.List.{List, [], ◌∷◌, ◌++◌, append-nil}
use native.Mathlib.Omega.{arith}
use native.Mathlib.Nat.{not-suc-le-zero, le_of_suc-le-suc, pow-suc, div-lt_iff_lt-mul, div-add-mod'}
use native.Mathlib.Numerals.{add-one}
use lib.ListN.{length, take, drop, get_or, set, length-append}
use lib.Seq.{drop-length, append_snoc, take_all, take-suc}
use lib.Dec.{lit<}
use Rattle.wire.proofs.Fill.{take_min}
use Rattle.wire.specs.Number.{be, num_from, num, Bytes}
use Rattle.wire.specs.Meaning.{NumBe, BeNum}

pub length-be : (w n : ℕ) → length (be w n) ≡ w
unfolding be
length-be zero n = refl
length-be (suc w) n = length-append (be w (n / 256)) (n % 256 ∷ []) ∙ ap (λ (k : ℕ). k + 1) (length-be w (n / 256)) ∙ add-one w

num_from-append : (a : ℕ) (s t : List ℕ) → num_from a (s ++ t) ≡ num_from (num_from a s) t
unfolding num_from
num_from-append a [] t = refl
num_from-append a (b ∷ s) t = num_from-append (a * 256 + b) s t

num_snoc : (s : List ℕ) (b : ℕ) → num (s ++ (b ∷ [])) ≡ num s * 256 + b
unfolding num num_from
num_snoc s b = num_from-append 0 s (b ∷ [])

num-be_step : (w n : ℕ) → num (be (suc w) n) ≡ num (be w (n / 256)) * 256 + n % 256
unfolding be
num-be_step w n = num_snoc (be w (n / 256)) (n % 256)

pub num-be : NumBe
unfolding be num num_from
num-be zero n h = omega arith
num-be (suc w) n h =
    num-be_step w n
    ∙ ap (λ (k : ℕ). k * 256 + n % 256) (num-be w (n / 256) ((div-lt_iff_lt-mul (lit< tt)).1 (rw (pow-suc) at h)))
    ∙ div-add-mod' n 256

pub num-be-lt : (w n : ℕ) → num (be w n) < 256 ^ w
unfolding be num num_from
num-be-lt zero n = omega arith
num-be-lt (suc w) n = rw (num-be_step w n, pow-suc) (omega (arith, num-be-lt w (n / 256)))

-- ---- a number written from its last byte
drop-set_same : (d : List ℕ) (i v : ℕ) → i < length d → drop i (set d i v) ≡ v ∷ drop (suc i) d
drop-set_same [] i v h = absurd (not-suc-le-zero h)
drop-set_same (x ∷ d) zero v h = refl
drop-set_same (x ∷ d) (suc i) v h = drop-set_same d i v (le_of_suc-le-suc h)

be_step' : (d : List ℕ) (i x : ℕ) → i < length d → be (suc i) x ++ drop (suc i) d ≡ be i (x / 256) ++ drop i (set d i (x % 256))
unfolding be
be_step' d i x h = append_snoc (be i (x / 256)) (x % 256) (drop (suc i) d) ∙ ap (λ (r : List ℕ). be i (x / 256) ++ r) (sym (drop-set_same d i (x % 256) h))

pub be_step : (d : List ℕ) (i x : ℕ) → 0 < i → i ≤ length d → be i x ++ drop i d ≡ be (i - 1) (x / 256) ++ drop (i - 1) (set d (i - 1) (x % 256))
be_step d zero x h k = absurd (not-suc-le-zero h)
be_step d (suc i) x h k =
    let e : suc i - 1 ≡ i = omega arith in
    rw e (be_step' d i x k)

pub be_none : (d : List ℕ) (n : ℕ) → be (length d) n ≡ be (length d) n ++ drop (length d) d
be_none d n = sym (ap (λ (r : List ℕ). be (length d) n ++ r) (drop-length d) ∙ append-nil (be (length d) n))

pub be_done : (l d : List ℕ) (i x : ℕ) → i ≤ 0 → l ≡ be i x ++ drop i d → d ≡ l
unfolding be
be_done l d zero x h e = sym e
be_done l d (suc i) x h e = absurd (not-suc-le-zero h)

-- ---- a number read byte by byte
pub num_next : (s : List ℕ) (i : ℕ) → i < length s → num (take (i + 1) s) ≡ num (take i s) * 256 + get_or s i 0
num_next s i h = ap (λ (k : ℕ). num (take k s)) (add-one i) ∙ ap num (take-suc s i 0 h) ∙ num_snoc (take i s) (get_or s i 0)

pub num_wider : (i x b : ℕ) → x < 256 ^ i → b < 256 → x * 256 + b < 256 ^ (i + 1)
num_wider i x b h k = rw (add-one i, pow-suc) (omega arith)

-- a number of at most seven bytes leaves room for one more
pub num_room : (i x : ℕ) → i ≤ 7 → x < 256 ^ i → x < 2 ^ 56
num_room zero x h k = omega arith
num_room (suc zero) x h k = omega arith
num_room (suc (suc zero)) x h k = omega arith
num_room (suc (suc (suc zero))) x h k = omega arith
num_room (suc (suc (suc (suc zero)))) x h k = omega arith
num_room (suc (suc (suc (suc (suc zero))))) x h k = omega arith
num_room (suc (suc (suc (suc (suc (suc zero)))))) x h k = omega arith
num_room (suc (suc (suc (suc (suc (suc (suc zero))))))) x h k = omega arith
num_room (suc (suc (suc (suc (suc (suc (suc (suc i)))))))) x h k = absurd (past i h)
  where
    past : (i : ℕ) → suc (suc (suc (suc (suc (suc (suc (suc i))))))) ≤ 7 → ⊥
    past i h = omega arith

-- what is read of as many bytes as there are, of eight
pub num_first : (i : ℕ) (s : List ℕ) → i ≡ min (length s) 8 → num (take i s) ≡ num (take 8 s)
num_first i s h = ap num (take_min i 8 s h)

-- what get_be reads of at most eight bytes
pub num_whole : (s : List ℕ) → length s ≤ 8 → num (take 8 s) ≡ num s
num_whole s h = ap num (take_all 8 s h)

-- ---- bytes from the number that they stand for
bytes_tail : (b : ℕ) (s : List ℕ) → Bytes (b ∷ s) → Bytes s
bytes_tail b s h i = h (suc i)

be_one_more : (i a b : ℕ) → b < 256 → be (i + 1) (a * 256 + b) ≡ be i a ++ (b ∷ [])
unfolding be
be_one_more i a b h =
    let q : (a * 256 + b) / 256 ≡ a = omega arith in
    let r : (a * 256 + b) % 256 ≡ b = omega arith in
    rw (add-one i, q, r)

be-num_from : (s : List ℕ) (a i : ℕ) → Bytes s → be (i + length s) (num_from a s) ≡ be i a ++ s
unfolding num_from
be-num_from [] a i h = let e : i + 0 ≡ i = omega arith in rw e (sym (append-nil (be i a)))
be-num_from (b ∷ s) a i h =
    let e : i + suc (length s) ≡ i + 1 + length s = omega arith in
    rw e (be-num_from s (a * 256 + b) (i + 1) (bytes_tail b s h)
    ∙ ap (λ (r : List ℕ). r ++ s) (be_one_more i a b (h 0)) ∙ append_snoc (be i a) b s)

pub be-num : BeNum
unfolding num be
be-num s h = let e : 0 + length s ≡ length s = omega arith in rw e at (be-num_from s 0 0 h)

-- ---- bytes stand for a number that fits them
num_from-lt : (s : List ℕ) (a i : ℕ) → Bytes s → a < 256 ^ i → num_from a s < 256 ^ (i + length s)
unfolding num_from
num_from-lt [] a i h k = let e : i + 0 ≡ i = omega arith in rw e k
num_from-lt (b ∷ s) a i h k =
    let e : i + suc (length s) ≡ i + 1 + length s = omega arith in
    rw e (num_from-lt s (a * 256 + b) (i + 1) (bytes_tail b s h) (num_wider i a b k (h 0)))

pub num-lt : (s : List ℕ) → Bytes s → num s < 256 ^ length s
unfolding num
num-lt s h = let e : 0 + length s ≡ length s = omega arith in rw e at (num_from-lt s 0 0 h (omega arith))
