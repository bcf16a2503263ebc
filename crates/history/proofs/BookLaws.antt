-- The book over a list of events: what it accepts, that its sets only grow, and what it refuses
-- where all entries are acceptable and their keys fit.
use Prim.Native.Nat.{ℕ, zero, suc, ◌≤◌}
use native.Mathlib.Omega.{arith}
use mathlib.Core.Path.{◌≡◌, refl}
use mathlib.Core.Logic.{◌⊎◌, inl, inr}
use mathlib.Core.Bool.{Bool, true, false, cond, not}
use mathlib.Core.List.Memᴰ.{cases_cons as mem-cons}
use mathlib.Core.List.Memᴰ.{head}
use mathlib.Core.List.Memᴰ.{not-nil as mem-nil}
use mathlib.Core.List.Memᴰ.{tail}
use mathlib.Core.List.{List, [], ◌∷◌, ◌++◌}
use mathlib.Core.List.Memᴰ.{append_cases as mem-append}
use mathlib.Core.List.Memᴰ.{append_left as mem-append_left}
use mathlib.Core.List.Memᴰ.{append_right as mem-append_right}
use lib.ListN.{get_or, set, replicate, length}
use lib.Dec.{ltb, eqb}
use borrow.Author.Tests.{ltb-false, le-ltb, eqb-true, eq-eqb, ne_eqb}
use Rattle.wire.proofs.Tests.{test, clash}
use Rattle.entry.specs.Entry.{Entry, Acceptable, refusal_of}
use Rattle.entry.proofs.Accept.{refusal_at_most}
use Rattle.clock.specs.declared.Clock.{Clock}
use Rattle.frame.specs.Layout.{max_frame}
use Rattle.store.specs.Held.{◌∈◌}
use Rattle.store.specs.Answer.{Answer, stored, replaced, kept, merged, purged, refused, is_refused}
use Rattle.store.specs.Overtaken.{overtaken_by}
use Rattle.node.specs.Handler.{offer_served, settle}
use Rattle.node.specs.Asked.{Asked, refusal, look_up, local_write, replica, asked}
use Rattle.node.proofs.Asking.{short_reply_refused}
use Rattle.history.specs.Book.{offer, merge, has_key, key_count, beats_all, best, book_offer, book_merge, Book, delivered}
use Rattle.history.specs.Events.{Event, call, request, Said, told, replied, Start, live, live_offer, joins, live_offered, live_merge, live_merged, live_served}
use Rattle.history.specs.Events.{live_replied, live_requested, book_said, book_then, book_run, book_says, brought_by, brought, Given}
use Rattle.history.specs.AfterPurge.{MayRefuse, Accepts}
use Rattle.history.proofs.Best.{Within, key_count_mono}
use Rattle.history.proofs.Live.{below, mem-live, live-append}

-- ---- sets of entries
pub within_cons : (e : Entry) (ds : List Entry) {all : List Entry} → e ∈ all → Within ds all → Within (e ∷ ds) all
within_cons e ds m f d k = elim (mem-cons k) [ inl q ↦ rw q m | inr q ↦ f d q ]

pub within_append : (gs ds : List Entry) {all : List Entry} → Within gs all → Within ds all → Within (gs ++ ds) all
within_append gs ds g f d k = elim (mem-append gs k) [ inl q ↦ g d q | inr q ↦ f d q ]

pub copies_within : (n i : ℕ) (ds all : List Entry) → Within ds all → Within (get_or (replicate n ds) i []) all
copies_within zero i ds all f = λ d m. absurd (mem-nil m)
copies_within (suc n) zero ds all f = f
copies_within (suc n) (suc i) ds all f = copies_within n i ds all f

pub set_within : (b : Book) (r i : ℕ) (ds : List Entry) → Within (get_or b r []) ds → Within (get_or b i []) (get_or (set b r ds) i [])
set_within [] r i ds f = λ d m. absurd (mem-nil m)
set_within (x ∷ b) zero zero ds f = f
set_within (x ∷ b) zero (suc i) ds f = λ d m. m
set_within (x ∷ b) (suc r) zero ds f = λ d m. m
set_within (x ∷ b) (suc r) (suc i) ds f = set_within b r i ds f

pub set_all : (all : List Entry) (b : Book) (r : ℕ) (ds : List Entry) → Within ds all → ((i : ℕ) → Within (get_or b i []) all) → (i : ℕ)
    → Within (get_or (set b r ds) i []) all
set_all all [] r ds f g i = g i
set_all all (x ∷ b) zero ds f g zero = f
set_all all (x ∷ b) zero ds f g (suc i) = g (suc i)
set_all all (x ∷ b) (suc r) ds f g zero = g zero
set_all all (x ∷ b) (suc r) ds f g (suc i) = set_all all b r ds f (λ j. g (suc j)) i

-- ---- the answer to an offer
-- the successes
taken-told : (a b : Bool) → let x : Answer = cond a stored (cond b replaced kept) in (is_refused x ≡ false) × (joins x ≡ true)
unfolding is_refused joins
taken-told true b = (refl, refl)
taken-told false true = (refl, refl)
taken-told false false = (refl, refl)

-- it is refused and does not join; or it is below the line, and joins; or it is taken
pub data Judged (t : Start) (ds : List Entry) (e : Entry) (a : Answer) : Type 0 where
  turned : is_refused a ≡ true → joins a ≡ false → Judged t ds e a
  passed : a ≡ refused 34 → Acceptable e → below t ds e ≡ true → Judged t ds e a
  taken : is_refused a ≡ false → joins a ≡ true → Acceptable e → below t ds e ≡ false → key_count (e ∷ live t ds) ≤ t.slots → Judged t ds e a

pub judged : (t : Start) (ds : List Entry) (e : Entry) → Judged t ds e (live_offer t ds e)
unfolding live_offer book_offer below is_refused joins
judged t ds e = elim (test (eqb (refusal_of e) 0)) [
  | inl p ↦ elim (test (below t ds e)) [
    | inl q ↦ rw (p, q) (passed refl (eqb-true _ _ p) q)
    | inr q ↦ elim (test (ltb t.slots (key_count (e ∷ live t ds)))) [
      | inl r ↦ rw (p, q, r) (turned refl refl)
      | inr r ↦
          let s = taken-told (not (has_key e.key (live t ds))) (beats_all e (live t ds)) in
          rw (p, q, r) (taken s.0 s.1 (eqb-true _ _ p) q (ltb-false _ _ r))
    ]
  ]
  | inr p ↦ rw p (turned refl (ne_eqb (refusal_of e) 34 (λ q. omega (arith, refusal_at_most e, q))))
]

-- and a merge that is not refused has room
pub merge_accepted : (t : Start) (ds gs : List Entry) → is_refused (live_merge t ds gs) ≡ false → key_count (live t (gs ++ ds)) ≤ t.slots
unfolding is_refused live_merge book_merge
merge_accepted t ds gs h = rw (live-append t gs ds) (elim (test (ltb t.slots (key_count (live t gs ++ live t ds)))) [
  | inl q ↦ clash refl (rw q at h)
  | inr q ↦ ltb-false _ _ q
])

-- ---- a set only grows, and by what is brought
module _ (t : Start) (ds : List Entry) where
  pub offered_grows : (e : Entry) → Within ds (live_offered t ds e)
  unfolding live_offered
  offered_grows e = elim (test (joins (live_offer t ds e))) [ inl p ↦ rw p (λ d m. tail m) | inr p ↦ rw p (λ d m. m) ]

  pub offered_within : (e : Entry) {all : List Entry} → e ∈ all → Within ds all → Within (live_offered t ds e) all
  unfolding live_offered
  offered_within e m f = elim (test (joins (live_offer t ds e))) [ inl p ↦ rw p (within_cons e ds m f) | inr p ↦ rw p f ]

  pub requested_grows : (a : Asked) → Within ds (live_requested t ds a)
  unfolding live_requested
  requested_grows (refusal n) = λ d m. m
  requested_grows (look_up k) = λ d m. m
  requested_grows (local_write c e) = elim (test (overtaken_by (best e.key (live t ds)) e.stamp)) [
    | inl p ↦ rw p (λ d m. m)
    | inr p ↦ rw p (offered_grows e)
  ]
  requested_grows (replica c e) = offered_grows e

  pub requested_within : (a : Asked) {all : List Entry} → Within (brought_by a) all → Within ds all → Within (live_requested t ds a) all
  unfolding live_requested brought_by
  requested_within (refusal n) g f = f
  requested_within (look_up k) g f = f
  requested_within (local_write c e) g f = elim (test (overtaken_by (best e.key (live t ds)) e.stamp)) [
    | inl p ↦ rw p f
    | inr p ↦ rw p (offered_within e (g e (head refl)) f)
  ]
  requested_within (replica c e) g f = offered_within e (g e (head refl)) f

  pub merged_grows : (gs : List Entry) → Within ds (live_merged t ds gs)
  unfolding live_merged
  merged_grows gs = elim (test (is_refused (live_merge t ds gs))) [ inl p ↦ rw p (λ d m. m) | inr p ↦ rw p (λ d m. mem-append_right gs m) ]

  pub merged_within : (gs : List Entry) {all : List Entry} → Within gs all → Within ds all → Within (live_merged t ds gs) all
  unfolding live_merged
  merged_within gs g f = elim (test (is_refused (live_merge t ds gs))) [ inl p ↦ rw p f | inr p ↦ rw p (within_append gs ds g f) ]

pub book_grows : (t : Start) (b : Book) (v : Event) (i : ℕ) → Within (delivered b i) (delivered (book_then t b v) i)
unfolding book_then
book_grows t b (call (offer r e)) i = set_within b r i _ (offered_grows t (delivered b r) e)
book_grows t b (call (merge r g)) i = set_within b r i _ (merged_grows t (delivered b r) (delivered b g))
book_grows t b (request r c now frame reply) i = set_within b r i _ (requested_grows t (delivered b r) (asked c now frame reply))

-- ---- the events that are left
pub given_tail : (n : ℕ) (v : Event) (vs : List Event) → Given n (v ∷ vs) → Given n vs
given_tail n (call (offer i e)) vs g = g.2
given_tail n (call (merge i j)) vs g = g.2
given_tail n (request i c now frame reply) vs g = g.3

pub given-append : (n : ℕ) (xs ys : List Event) → Given n (xs ++ ys) → Given n xs × Given n ys
given-append n [] ys g = (tt, g)
given-append n (call (offer i e) ∷ xs) ys g = let r = given-append n xs ys g.2 in ((g.0, g.1, r.0), r.1)
given-append n (call (merge i j) ∷ xs) ys g = let r = given-append n xs ys g.2 in ((g.0, g.1, r.0), r.1)
given-append n (request i c now frame reply ∷ xs) ys g = let r = given-append n xs ys g.3 in ((g.0, g.1, g.2, r.0), r.1)

pub brought_tail : (v : Event) (vs : List Event) {all : List Entry} → Within (brought (v ∷ vs)) all → Within (brought vs) all
unfolding brought
brought_tail (call (offer i e)) vs k = λ d m. k d (tail m)
brought_tail (call (merge i j)) vs k = k
brought_tail (request i c now frame reply) vs k = λ d m. k d (mem-append_right (brought_by (asked c now frame reply)) m)

-- the sets stay within all that is brought
module _ (t : Start) (all : List Entry) where
  pub sets_within : (b : Book) (v : Event) (vs : List Event) → ((i : ℕ) → Within (delivered b i) all) → Within (brought (v ∷ vs)) all → (i : ℕ)
      → Within (delivered (book_then t b v) i) all
  unfolding book_then brought
  sets_within b (call (offer r e)) vs f k = set_all all b r _ (offered_within t (delivered b r) e (k e (head refl)) (f r)) f
  sets_within b (call (merge r g)) vs f k = set_all all b r _ (merged_within t (delivered b r) (delivered b g) (f g) (f r)) f
  sets_within b (request r c now frame reply) vs f k =
      set_all all b r _ (requested_within t (delivered b r) (asked c now frame reply) (λ d m. k d (mem-append_left (brought vs) m)) (f r)) f

-- ---- what no answer of the book says: that a merge passed an entry over, and 35
abbrev pub Plain : Said → Type 0
Plain (told stored) = Unit {0}
Plain (told replaced) = Unit {0}
Plain (told kept) = Unit {0}
Plain (told (merged k)) = k ≡ 0
Plain (told (purged k)) = Unit {0}
Plain (told (refused n)) = n ≡ 35 → ⊥
Plain (replied c reply w n) = Unit {0}

success_plain : (a b : Bool) → Plain (told (cond a stored (cond b replaced kept)))
success_plain true b = tt
success_plain false true = tt
success_plain false false = tt

offer_plain : (t : Start) (ds : List Entry) (e : Entry) → Plain (told (live_offer t ds e))
unfolding live_offer book_offer below
offer_plain t ds e = elim (test (eqb (refusal_of e) 0)) [
  | inl p ↦ elim (test (below t ds e)) [
    | inl q ↦ rw (p, q) (λ z. absurd (omega (arith, z)))
    | inr q ↦ elim (test (ltb t.slots (key_count (e ∷ live t ds)))) [
      | inl r ↦ rw (p, q, r) (λ z. absurd (omega (arith, z)))
      | inr r ↦ rw (p, q, r) (success_plain (not (has_key e.key (live t ds))) (beats_all e (live t ds)))
    ]
  ]
  | inr p ↦ rw p (λ z. omega (arith, refusal_at_most e, z))
]

merge_plain : (t : Start) (ds gs : List Entry) → Plain (told (live_merge t ds gs))
unfolding live_merge book_merge
merge_plain t ds gs = elim (test (ltb t.slots (key_count (live t gs ++ live t ds)))) [
  | inl p ↦ rw p (λ z. absurd (omega (arith, z)))
  | inr p ↦ rw p refl
]

said_plain : (t : Start) (b : Book) (v : Event) → Plain (book_said t b v)
unfolding book_said live_replied
said_plain t b (call (offer i e)) = offer_plain t (delivered b i) e
said_plain t b (call (merge r g)) = merge_plain t (delivered b r) (delivered b g)
said_plain t b (request i c now frame reply) = elim (test (ltb (length reply) max_frame)) [ inl p ↦ rw p tt | inr p ↦ rw p tt ]

pub all_plain : (t : Start) (b : Book) (vs : List Event) {x : Said} → x ∈ book_says t b vs → Plain x
unfolding book_says
all_plain t b [] m = absurd (mem-nil m)
all_plain t b (v ∷ vs) {x} m = elim (mem-cons m) [ inl q ↦ rw q (said_plain t b v) | inr q ↦ all_plain t (book_then t b v) vs q ]

-- ---- where all entries are acceptable and their keys fit
pub offer_may : (t : Start) (ds : List Entry) (e : Entry) → Acceptable e → key_count (e ∷ live t ds) ≤ t.slots
    → (is_refused (live_offer t ds e) ≡ false) ⊎ (live_offer t ds e ≡ refused 34)
unfolding live_offer book_offer below
offer_may t ds e ok few = rw (eq-eqb _ _ ok) (elim (test (below t ds e)) [
  | inl p ↦ rw p (inr refl)
  | inr p ↦ rw (p, le-ltb _ _ few) (inl (taken-told (not (has_key e.key (live t ds))) (beats_all e (live t ds))).0)
])

offer_number : (s s' : List ℕ) (c d : Clock) (reply : List ℕ) (a : Answer) → (is_refused a ≡ false) ⊎ (a ≡ refused 34)
    → let n : ℕ = (settle s c reply (offer_served s' d a)).refusal in (n ≡ 0) ⊎ (n ≡ 34)
unfolding settle offer_served is_refused
offer_number s s' c d reply stored h = inl refl
offer_number s s' c d reply replaced h = inl refl
offer_number s s' c d reply kept h = inl refl
offer_number s s' c d reply (merged k) h = inl refl
offer_number s s' c d reply (purged k) h = inl refl
offer_number s s' c d reply (refused n) (inl h) = clash refl h
offer_number s s' c d reply (refused n) (inr h) = inr cc

module _ (t : Start) (all : List Entry) (ok : (e : Entry) → e ∈ all → Acceptable e) (few : key_count all ≤ t.slots) where
  -- the live entries of a set, and one that is brought, have no more keys than all
  fits : (ds : List Entry) (e : Entry) → Within ds all → e ∈ all → key_count (e ∷ live t ds) ≤ t.slots
  fits ds e f m = omega (arith, few, key_count_mono (e ∷ live t ds) all (within_cons e (live t ds) m (λ d k. f d (mem-live t ds k).0)))

  merge_may : (ds gs : List Entry) → Within ds all → Within gs all → is_refused (live_merge t ds gs) ≡ false
  unfolding live_merge book_merge is_refused
  merge_may ds gs f g =
      let w = within_append (live t gs) (live t ds) (λ d k. g d (mem-live t gs k).0) (λ d k. f d (mem-live t ds k).0) in
      let m = key_count_mono (live t gs ++ live t ds) all w in
      rw (le-ltb t.slots (key_count (live t gs ++ live t ds)) (omega (arith, few, m)))

  asked_may : (ds : List Entry) (c : Clock) (reply : List ℕ) (a : Asked) → Within ds all → Within (brought_by a) all
      → MayRefuse a (settle [] c reply (live_served t ds c a)).refusal
  unfolding live_served settle brought_by
  asked_may ds c reply (refusal n) f g = refl
  asked_may ds c reply (look_up k) f g = refl
  asked_may ds c reply (local_write d e) f g =
      let m = g e (head refl) in
      let n = offer_number [] [] c d reply (live_offer t ds e) (offer_may t ds e (ok e m) (fits ds e f m)) in
      elim (test (overtaken_by (best e.key (live t ds)) e.stamp)) [
        | inl p ↦ rw p (inr (inl refl))
        | inr p ↦ rw p (elim n [ inl z ↦ inl z | inr z ↦ inr (inr z) ])
      ]
  asked_may ds c reply (replica d e) f g =
      let m = g e (head refl) in
      offer_number [] [] c d reply (live_offer t ds e) (offer_may t ds e (ok e m) (fits ds e f m))

  pub event_accepts : (b : Book) (v : Event) (vs : List Event) → ((i : ℕ) → Within (delivered b i) all) → Within (brought (v ∷ vs)) all
      → Accepts v (book_said t b v)
  unfolding book_said live_replied brought
  event_accepts b (call (offer i e)) vs f k = let m = k e (head refl) in offer_may t (delivered b i) e (ok e m) (fits (delivered b i) e (f i) m)
  event_accepts b (call (merge r g)) vs f k = merge_may (delivered b r) (delivered b g) (f r) (f g)
  event_accepts b (request i c now frame reply) vs f k = elim (test (ltb (length reply) max_frame)) [
    | inl p ↦ rw (p, (short_reply_refused [] c now frame reply p).0) refl
    | inr p ↦ rw p (asked_may (delivered b i) c reply (asked c now frame reply) (f i) (λ d m. k d (mem-append_left (brought vs) m)))
  ]

  pub run_accepts : (b : Book) (before : List Event) (v : Event) (later : List Event) → ((i : ℕ) → Within (delivered b i) all)
      → Within (brought (before ++ v ∷ later)) all → Accepts v (book_said t (book_run t b before) v)
  unfolding book_run
  run_accepts b [] v later f k = event_accepts b v later f k
  run_accepts b (u ∷ before) v later f k =
      run_accepts (book_then t b u) before v later (sets_within t all b u (before ++ v ∷ later) f k) (brought_tail u (before ++ v ∷ later) k)
