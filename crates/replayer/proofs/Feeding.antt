-- Input that comes in pieces.
use mathlib.Core.Path.{◌≡◌, refl, sym, ap, ◌∙◌}
use mathlib.Core.Bool.{Bool, true, false}
use mathlib.Core.List.{List, [], ◌∷◌, ◌++◌, append_assoc, append-nil, map}
use Prim.Native.Nat.{ℕ, ◌≤◌, ◌<◌}
use native.Mathlib.Omega.{arith}
use mathlib.Core.Logic.{◌⊎◌, inl, inr}
use lib.ListN.{length, drop, length-append, length-drop}
use Rattle.wire.proofs.Tests.{cases, never}
use Rattle.frame.specs.Layout.{max_frame}
use Rattle.journal.specs.Journal.{no_record, piece_of, journal_of}
use Rattle.replayer.specs.declared.Next.{Next}
use Rattle.replayer.specs.declared.Next.TheVariants.{Read, Write, Stop}
use Rattle.replayer.specs.Replies.{Kept, start, replies_to, last_reply, replies_from, replies}
use Rattle.replayer.specs.Advance.{Replay, advanced}
use Rattle.replayer.specs.Meaning.{Stream, Call, after_call, is_stop, called, called_all}
use Rattle.replayer.specs.Meaning.{fed, no_more, arrived, AnyPieces, AllHaveRoom, Stops, AnsweredBeforeReading}
use Rattle.replayer.specs.Meaning as meaning
use Rattle.replayer.proofs.Calls.{read_begun, calls_stay_within, calls_get_on, reads_for_a_record}
use Rattle.replayer.proofs.Owing.{told, told_ends, Open, Owed, call_owes}

still_open : (ended : Bool) (k₀ : Kept) (a : List ℕ) (n : Next) (k : Kept) (rest out : List ℕ) → is_stop n ≡ false → Owed ended k₀ a n k rest out →
    Open ended k₀ a k rest out
still_open ended k₀ a Read k rest out h o = o
still_open ended k₀ a Write k rest out h o = o
still_open ended k₀ a Stop k rest out h o = never (cc)

is_stop_lem : (n : Next) → is_stop n ≡ true → n ≡ Stop
is_stop_lem Read h = never (cc)
is_stop_lem Write h = never (cc)
is_stop_lem Stop h = refl

-- what a call owes, after what those before it did
module _ (ended : Bool) (k₀ k : Kept) (a c rest out : List ℕ) (o : Open ended k₀ a k rest out) where
  told_on : (f : ℕ → List ℕ) (more : List ℕ) → told f k₀ (a ++ c ++ more) ≡ out ++ told f k (rest ++ c ++ more)
  told_on f more = ap (told f k₀) (append_assoc a c more) ∙ o f (c ++ more) ∙ ap (λ (l : List ℕ). out ++ told f k l) (sym (append_assoc rest c more))

  open_on : (k' : Kept) (rest' out' : List ℕ) → Open ended k (rest ++ c) k' rest' out' → Open ended k₀ (a ++ c) k' rest' (out ++ out')
  open_on k' rest' out' x f more = told_on f more ∙ ap (λ (l : List ℕ). out ++ l) (x f more) ∙ sym (append_assoc out out' (told f k' (rest' ++ more)))

  owed_on : (n : Next) (k' : Kept) (rest' out' : List ℕ) → Owed ended k (rest ++ c) n k' rest' out' → Owed ended k₀ (a ++ c) n k' rest' (out ++ out')
  owed_on Read k' rest' out' x = open_on k' rest' out' x
  owed_on Write k' rest' out' x = open_on k' rest' out' x
  owed_on Stop k' rest' out' x = λ more m. told_on last_reply more ∙ ap (λ (l : List ℕ). out ++ l) (x more m)

shut_on : (ended : Bool) (k₀ k : Kept) (a c rest out : List ℕ) (n : Next) → (ended ≡ true → c ≡ []) → is_stop n ≡ true → Owed ended k₀ a n k rest out →
    Owed ended k₀ (a ++ c) n k rest out
shut_on ended k₀ k a c rest out Read clear h o = never (cc)
shut_on ended k₀ k a c rest out Write clear h o = never (cc)
shut_on ended k₀ k a c rest out Stop clear h o = λ more m. ap (told last_reply k₀) (append_assoc a c more) ∙ o (c ++ more) (λ t. rw (clear t, m t))

-- ---- call by call
-- what holds between two calls, where a has come
record Stood (ended : Bool) (a : List ℕ) (s : Stream) : Type 0 where
  owed : Owed ended start a s.next s.kept s.rest s.written
  begun : s.next ≡ Read → (n : ℕ) × (piece_of s.rest ≡ no_record true n)
  short : length s.rest ≤ length a

module _ (ended : Bool) (a : List ℕ) (s : Stream) (c : Call) (w : Stood ended a s) (clear : ended ≡ true → c.came ≡ []) where
  stood_call : Stood ended (a ++ c.came) (called ended s c)
  unfolding called after_call
  stood_call =
      let input = s.rest ++ c.came in
      let x = advanced ended input c.room s.kept in
      cases (is_stop s.next)
      (λ h. rw h (record {
        owed = shut_on ended start s.kept a c.came s.rest s.written s.next clear h w.owed;
        begun = w.begun;
        short = omega (arith, w.short, length-append a c.came);
      }))
      (λ h. rw h (record {
        owed =
            let o = still_open ended start a s.next s.kept s.rest s.written h w.owed in
            owed_on ended start s.kept a c.came s.rest s.written o x.next x.kept (drop x.taken input) x.output
            (call_owes ended s.kept input c.room);
        begun = λ e. let b = read_begun ended input c.room s.kept e in (b.refusal, b.begun);
        short = omega (arith, w.short, length-append a c.came, length-append s.rest c.came, length-drop x.taken input);
      }))

stood_fed : (cs : List Call) (a : List ℕ) (s : Stream) → Stood false a s → Stood false (a ++ arrived cs) (called_all false s cs)
unfolding arrived called_all
stood_fed [] a s w = rw append-nil w
stood_fed (c ∷ cs) a s w =
    rw (← append_assoc) (stood_fed cs (a ++ c.came) (called false s c) (stood_call false a s c w (λ t. never (cc))))

fed_stands : (calls : List Call) → Stood false (arrived calls) (fed calls)
unfolding fed
fed_stands calls = stood_fed calls [] (record { kept = start; rest = []; written = []; next = Write })
    (record { owed = λ f more. refl; begun = λ h. never (cc); short = omega arith })

-- the input ends
ends_owed : (a : List ℕ) (n : Next) (k : Kept) (rest out : List ℕ) → Owed false start a n k rest out → Owed true start a n k rest out
ends_owed a Read k rest out o = o
ends_owed a Write k rest out o = o
ends_owed a Stop k rest out o = λ more m. o more (λ t. never (cc))

stood_ended : (ns : List ℕ) (a : List ℕ) (s : Stream) → Stood true a s → Stood true a (called_all true s (map no_more ns))
unfolding called_all
stood_ended [] a s w = w
stood_ended (n ∷ ns) a s w =
    stood_ended ns a (called true s (no_more n)) (rw append-nil at (stood_call true a s (no_more n) w (λ t. refl)))

drained_stands : (calls : List Call) (rooms : List ℕ) → Stood true (arrived calls) (meaning.drained calls rooms)
unfolding meaning.drained
drained_stands calls rooms =
    let w = fed_stands calls in
    let s = fed calls in
    stood_ended rooms (arrived calls) s (record {
      owed = ends_owed (arrived calls) s.next s.kept s.rest s.written w.owed;
      begun =
          w.begun;
      short = w.short;
    })

-- ---- the theorems
stop_told : (a : List ℕ) (n : Next) (k : Kept) (rest out : List ℕ) → n ≡ Stop → Owed true start a n k rest out → out ≡ told last_reply start a
stop_told a n k rest out e o = sym ((rw e at o) [] (λ t. refl)) ∙ ap (told last_reply start) (append-nil a)

pub any_pieces : AnyPieces
unfolding replies replies_from told
any_pieces calls rooms h =
    let s = meaning.drained calls rooms in
    stop_told (arrived calls) s.next s.kept s.rest s.written h (drained_stands calls rooms).owed

read_told : (a : List ℕ) (n : Next) (k : Kept) (rest out : List ℕ) (m : ℕ) → n ≡ Read → Owed false start a n k rest out → piece_of rest ≡ no_record true m
    → out ≡ replies_to start (journal_of a).records
unfolding told
read_told a n k rest out m e o h =
    let g : ℕ → List ℕ = λ j. [] in
    let x : replies_to start (journal_of a).records ≡ out ++ replies_to k (journal_of rest).records = simp append-nil at ((rw e at o) g []) in
    let y : replies_to k (journal_of rest).records ≡ [] = simp append-nil at (told_ends g k rest true m h) in
    sym (x ∙ ap (λ (l : List ℕ). out ++ l) y ∙ append-nil out)

pub answered-before_reading : AnsweredBeforeReading
answered-before_reading calls h =
    let s = fed calls in
    let w = fed_stands calls in
    let b = w.begun h in
    read_told (arrived calls) s.next s.kept s.rest s.written b.0 h w.owed b.1

-- ---- it stops
stop_stays : (ns : List ℕ) (s : Stream) → s.next ≡ Stop → (called_all true s (map no_more ns)).next ≡ Stop
unfolding called_all called
stop_stays [] s h = h
stop_stays (n ∷ ns) s h = stop_stays ns (called true s (no_more n)) (rw stopped h)
  where
    stopped : is_stop s.next ≡ true
    stopped = ap is_stop h

shorter_or_stopped : (s : Stream) (n : ℕ) → max_frame ≤ n → is_stop s.next ≡ false
    → ((called true s (no_more n)).next ≡ Stop) ⊎ (length (called true s (no_more n)).rest < length s.rest)
unfolding called after_call
shorter_or_stopped s n r h = rw h (go x.next refl)
  where
    input : List ℕ
    input = s.rest ++ []

    x : Replay
    x = advanced true input n s.kept

    go : (m : Next) → x.next ≡ m → (x.next ≡ Stop) ⊎ (length (drop x.taken input) < length s.rest)
    go Stop e = inl e
    go Read e = let b = reads_for_a_record true input n s.kept e in never (cc)
    go Write e =
        let g = calls_get_on true input n s.kept r e in
        let w = calls_stay_within true input n s.kept in
        inr (omega (arith, w.input_left, length-drop x.taken input, length-append s.rest []))

stops_soon : (ns : List ℕ) (s : Stream) → AllHaveRoom ns → length s.rest < length ns → (called_all true s (map no_more ns)).next ≡ Stop
unfolding called_all
stops_soon [] s r l = absurd (omega arith)
stops_soon (n ∷ ns) s r l = cases (is_stop s.next)
    (λ h. stop_stays (n ∷ ns) s (is_stop_lem s.next h))
    (λ h. elim (shorter_or_stopped s n r.0 h) [
      | inl e ↦ stop_stays ns (called true s (no_more n)) e
      | inr e ↦ stops_soon ns (called true s (no_more n)) r.1 (omega arith)
    ])

pub stops : Stops
unfolding meaning.drained
stops calls rooms r l = stops_soon rooms (fed calls) r (omega (arith, (fed_stands calls).short))

-- ---- one call more
called_more : (cs : List Call) (ended : Bool) (s : Stream) (c : Call) → called_all ended s (cs ++ (c ∷ [])) ≡ called ended (called_all ended s cs) c
unfolding called_all
called_more [] ended s c = refl
called_more (d ∷ cs) ended s c = called_more cs ended (called ended s d) c

pub fed_more : (calls : List Call) (c : Call) → fed (calls ++ (c ∷ [])) ≡ called false (fed calls) c
unfolding fed
fed_more calls c = called_more calls false (record { kept = start; rest = []; written = []; next = Write }) c

map_more : (ns : List ℕ) (n : ℕ) → map no_more (ns ++ (n ∷ [])) ≡ map no_more ns ++ (no_more n ∷ [])
map_more [] n = refl
map_more (m ∷ ns) n = ap (λ (l : List Call). no_more m ∷ l) (map_more ns n)

pub drained_more : (calls : List Call) (rooms : List ℕ) (n : ℕ) → meaning.drained calls (rooms ++ (n ∷ [])) ≡ called true
    (meaning.drained calls rooms) (no_more n)
unfolding meaning.drained
drained_more calls rooms n = rw map_more (called_more (map no_more rooms) true (fed calls) (no_more n))

pub drained_none : (calls : List Call) → meaning.drained calls [] ≡ fed calls
unfolding meaning.drained called_all
drained_none calls = refl
