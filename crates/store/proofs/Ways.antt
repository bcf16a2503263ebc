-- Each way through the calls.
use Prim.Native.Nat.{ℕ, suc, ◌+◌, ◌-◌, ◌*◌, ◌≤◌, ◌<◌}
use native.Mathlib.Omega.{arith}
use native.Mathlib.Numerals.{add-one}
use mathlib.Core.Path.{◌≡◌, sym, ap, ap₂, ◌∙◌}
use mathlib.Core.Bool.{Bool, true, false, not}
use mathlib.Core.List.{List, ◌∷◌, ◌++◌, append-nil}
use mathlib.Core.Option.{Option, none, some}
use Rattle.std.specs.Prelude.{Result, Ok, Err, MatchResult, is_ok}
use Rattle.entry.specs.declared.Stamp.{Stamp}
use lib.ListN.{length, drop, drop_of_length-le}
use lib.Dec.{ltb, leb, eqb}
use borrow.Author.Tests.{eq-eqb, ne_eqb, lt-ltb, le-ltb, le-leb, lt-leb}
use Rattle.wire.specs.Fill.{zeros}
use Rattle.wire.proofs.Fill.{length-field}
use Rattle.entry.specs.declared.Refusal.{Refusal}
use Rattle.entry.specs.declared.Refusal.TheVariants.{BadStore, StoreFull, BelowLine}
use Rattle.entry.specs.Refusal.{number}
use Rattle.entry.specs.Key.{bad_key}
use Rattle.entry.specs.Entry.{Entry, beats, refusal_of}
use Rattle.entry.proofs.Numbers.{number_not_0}
use Rattle.entry.proofs.Accept.{opposite_true, opposite_false}
use Rattle.image.specs.Layout.{value_start, slot_width, most_slots, slot_start}
use Rattle.image.specs.Image.{image, header, slots, slot_entry, key_in, flag_in, value_in, stamp_in, slots_of, used_of, line_of, entries_of, sound}
use Rattle.image.specs.Slot.{slot_at, has_slot}
use Rattle.image.proofs.ImageLaws.{entry_at, used_is}
use Rattle.store.specs.Held.{is_held}
use Rattle.store.specs.Answer.{Answer, merged, refused, is_refused}
use Rattle.store.specs.Create.{create_refusal, fresh_store, after_create}
use Rattle.store.specs.Lookup.{value, deleted, never, finding_for, lookup_answer}
use Rattle.store.specs.Lookup as looking
use Rattle.store.specs.Offer.{offer_answer, after_offer}
use Rattle.store.specs.Merge.{passed_over, merged_entries, merge_answer, after_merge}
use Rattle.store.specs.declared.Placement.{Placement}
use Rattle.store.specs.declared.Placement.TheVariants.{Insert, Replace, Kept}
use Rattle.store.specs.Unchecked.{seek, seen, Placed, lookup_unchecked, replace_at, insert_at, placement_for, placement, told_of, written_at}
use Rattle.store.specs.Unchecked.{after_placed, after_all, count_new, count_passed, Counted, offer_unchecked, after_offer_unchecked}
use Rattle.store.proofs.HeldLaws.{none_of, some_of}
use Rattle.store.proofs.Seeking.{seen_there, length-put_all, passed_count}
use Rattle.store.proofs.Splices.{opened}
use Rattle.store.proofs.Placing.{placement_fits}
use Rattle.store.proofs.OnSound.{ordered, all_placed, accepts_held, fits_held}

-- what a call says and what it leaves, as its contract names them
pub told_left : {A B : Type 0} → A × B → record { told : A; left : B }
told_left p = record { told = p.0; left = p.1 }

-- ---- a new store
module _ (s : List ℕ) (c : ℕ) where
  pub create_few : c < 1 → (17 ≡ create_refusal s c) × (s ≡ after_create s c)
  unfolding create_refusal after_create
  create_few h = (sym (rw (lt-ltb c 1 h)), sym (rw (lt-ltb c 1 h)))

  module _ (lo : 1 ≤ c) where
    pub create_many : most_slots < c → (17 ≡ create_refusal s c) × (s ≡ after_create s c)
    unfolding create_refusal after_create
    create_many h = (sym (rw (le-ltb c 1 lo, lt-ltb most_slots c h)), sym (rw (le-ltb c 1 lo, lt-ltb most_slots c h)))

    module _ (hi : c ≤ most_slots) where
      pub create_size : (length s ≡ slot_start c → ⊥) → (4 ≡ create_refusal s c) × (s ≡ after_create s c)
      unfolding create_refusal after_create
      create_size h =
          let q = ne_eqb (length s) (slot_start c) h in
          (sym (rw (le-ltb c 1 lo, le-ltb most_slots c hi, q)), sym (rw (le-ltb c 1 lo, le-ltb most_slots c hi, q)))

      pub create_done : length s ≡ slot_start c → (t : List ℕ) → t ≡ fresh_store c → (0 ≡ create_refusal s c) × (t ≡ after_create s c)
      unfolding create_refusal after_create
      create_done h t e =
          let q = eq-eqb (length s) (slot_start c) h in
          (sym (rw (le-ltb c 1 lo, le-ltb most_slots c hi, q)), e ∙ sym (rw (le-ltb c 1 lo, le-ltb most_slots c hi, q)))

pub fresh_bytes : (c n : ℕ) → n ≡ slot_width * c → header c 0 0 ++ zeros n ≡ fresh_store c
unfolding fresh_store image slots
fresh_bytes c n e =
    let z : n ≡ slot_width * (c - 0) = omega arith in
    ap (λ (m : ℕ). header c 0 0 ++ zeros m) z ∙ sym (rw append-nil)

-- ---- a key sought
first : (a b : Entry) (r s : List Entry) → a ∷ r ≡ b ∷ s → a ≡ b
first a b r s h = cc

module _ (s k : List ℕ) (at : ℕ) where
  pub not_seen : Placed k (entries_of s) at false → seen k (entries_of s) ≡ none
  not_seen p = none_of (seen k (entries_of s)) (sym p.known)

  -- the entry that is seen is that of the slot at the place
  pub is_seen : Placed k (entries_of s) at true → seen k (entries_of s) ≡ some (slot_entry (slot_at at s))
  is_seen p =
      let (h, q) = some_of (seen k (entries_of s)) (sym p.known) in
      let r = seen_there k (entries_of s) h q in
      let e : at ≡ seek k (entries_of s) = p.place in
      q ∙ ap {B = Option Entry} some (first h (slot_entry (slot_at at s)) _ _
      (sym r.there ∙ ap (λ (i : ℕ). drop i (entries_of s)) (sym e) ∙ entry_at at s (omega (arith, r.within, used_is s))))

-- ---- a key looked up: a is whether it is acceptable
module _ (s k : List ℕ) (a : Bool) (ae : a ≡ not (bad_key k)) where
  pub look_bad : a ≡ false → looking.refused 1 ≡ lookup_unchecked s k
  unfolding lookup_unchecked
  look_bad f = sym (rw (opposite_true a (bad_key k) ae (ap not f)))

  module _ (t : a ≡ true) (at : ℕ) where
    ok : bad_key k ≡ false
    ok = opposite_false a (bad_key k) ae (ap not t)

    pub look_never : Placed k (entries_of s) at false → never ≡ lookup_unchecked s k
    unfolding lookup_unchecked finding_for
    look_never p = let q = not_seen s k at p in sym (rw (ok, q))

    -- its slot u
    module _ (p : Placed k (entries_of s) at true) (u : List ℕ) (ue : u ≡ slot_at at s) (flag : ℕ) (fe : flag ≡ flag_in u) where
      there-flag : flag ≡ flag_in (slot_at at s)
      there-flag = fe ∙ ap flag_in ue

      pub look_deleted : flag ≡ 1 → deleted ≡ lookup_unchecked s k
      unfolding lookup_unchecked finding_for slot_entry
      look_deleted f = sym (rw (ok, is_seen s k at p, eq-eqb (flag_in (slot_at at s)) 1 (sym there-flag ∙ f)))

      pub look_value : (flag ≡ 1 → ⊥) → (v : List ℕ) → v ≡ value_in u → value (value_start at) (length v) ≡ lookup_unchecked s k
      unfolding lookup_unchecked finding_for slot_entry
      look_value f v ve =
          let e = ne_eqb (flag_in (slot_at at s)) 1 (λ x. f (there-flag ∙ x)) in
          ap₂ (λ (i : ℕ) (l : List ℕ). value (value_start i) (length l)) p.place (ve ∙ ap value_in ue) ∙ sym (rw (ok, is_seen s k at p, e))

pub look_5 : (s k : List ℕ) (b : Bool) → b ≡ sound s → b ≡ false → looking.refused 5 ≡ lookup_answer s k
unfolding lookup_answer
look_5 s k b be f = sym (rw (sym be ∙ f))

-- ---- an entry placed
module _ (s : List ℕ) (e : Entry) (at : ℕ) where
  -- over the slot's entry h, if e beats it
  module _ (p : Placed e.key (entries_of s) at true) (h : Entry) (t : List ℕ) (he : h ≡ slot_entry t) (te : t ≡ slot_at at s)
      (b : Bool) (be : b ≡ beats e h) where
    beaten : (r : Bool) → b ≡ r → beats e (slot_entry (slot_at at s)) ≡ r
    beaten r f = sym (be ∙ ap (beats e) (he ∙ ap slot_entry te)) ∙ f

    pub place_kept : b ≡ false → Ok Kept ≡ placement s e
    unfolding placement_for
    place_kept f = sym (rw (is_seen s e.key at p, beaten false f))

    module _ (w : b ≡ true) (r : Bool) (re : r ≡ has_slot at s) where
      there : (v : Bool) → r ≡ v → has_slot (seek e.key (entries_of s)) s ≡ v
      there v f = ap (λ (i : ℕ). has_slot i s) (sym p.place) ∙ sym re ∙ f

      pub place_cut : r ≡ false → Err BadStore ≡ placement s e
      unfolding placement_for
      place_cut f = sym (rw (is_seen s e.key at p, beaten true w, there false f))

      pub place_over : r ≡ true → Ok (Replace at) ≡ placement s e
      unfolding placement_for
      place_over f = ap {B = Result Placement Refusal} (λ i. Ok (Replace i)) p.place ∙ sym (rw (is_seen s e.key at p, beaten true w, there true f))

  -- into a new slot
  module _ (p : Placed e.key (entries_of s) at false) (line : ℕ) (le : line ≡ line_of s) where
    pub place_old : e.stamp.phys < line → Err BelowLine ≡ placement s e
    unfolding placement_for
    place_old h = sym (rw (not_seen s e.key at p, lt-ltb e.stamp.phys (line_of s) (omega arith)))

    module _ (new : line ≤ e.stamp.phys) (n u : ℕ) (ne : n ≡ slots_of s) (ue : u ≡ used_of s) where
      above : ltb e.stamp.phys (line_of s) ≡ false
      above = le-ltb e.stamp.phys (line_of s) (omega arith)

      pub place_full : n ≤ u → Err StoreFull ≡ placement s e
      unfolding placement_for
      place_full h = sym (rw (not_seen s e.key at p, above, le-leb (slots_of s) (used_of s) (omega arith)))

      module _ (room : u < n) (r : Bool) (re : r ≡ has_slot u s) where
        full : leb (slots_of s) (used_of s) ≡ false
        full = lt-leb (slots_of s) (used_of s) (omega arith)

        next : (v : Bool) → r ≡ v → has_slot (used_of s) s ≡ v
        next v f = ap (λ (i : ℕ). has_slot i s) (sym ue) ∙ sym re ∙ f

        pub place_short : r ≡ false → Err BadStore ≡ placement s e
        unfolding placement_for
        place_short f = sym (rw (not_seen s e.key at p, above, full, next false f))

        pub place_new : r ≡ true → Ok (Insert at) ≡ placement s e
        unfolding placement_for
        place_new f = ap {B = Result Placement Refusal} (λ i. Ok (Insert i)) p.place ∙ sym (rw (not_seen s e.key at p, above, full, next true f))

-- the bytes w of its slot written where its placement says
module _ (s : List ℕ) (e : Entry) where
  pub insert_fits : (i : ℕ) → Ok (Insert i) ≡ placement s e → (i ≤ used_of s) × (slot_start (used_of s + 1) ≤ length s)
  insert_fits i h = rw (sym h) at (placement_fits s e)

  pub replace_fits : (i : ℕ) → Ok (Replace i) ≡ placement s e → slot_start (i + 1) ≤ length s
  replace_fits i h = rw (sym h) at (placement_fits s e)

  pub left_as : (p : Result Placement Refusal) → p ≡ placement s e → (w t : List ℕ) → t ≡ written_at p w s → t ≡ written_at (placement s e) w s
  left_as p h w t te = te ∙ ap (λ (x : Result Placement Refusal). written_at x w s) h

  pub inserted_as : (i : ℕ) → Ok (Insert i) ≡ placement s e → (w t u : List ℕ) → t ≡ insert_at i (slot_at i s) s → u ≡ replace_at i w t
      → u ≡ written_at (placement s e) w s
  unfolding slot_at
  inserted_as i h w t u te ue =
      let f = insert_fits i h in
      let l : length (slot_at i s) ≡ slot_width = length-field (slot_start i) slot_width s (omega (arith, f.0, f.1)) in
      left_as (Ok (Insert i)) h w u (ue ∙ ap (replace_at i w) te ∙ opened i s f.0 f.1 (slot_at i s) w l)

-- ---- an entry offered
module _ (s : List ℕ) (e : Entry) where
  pub offer_refused : (r : Refusal) → number r ≡ refusal_of e → (refused (number r) ≡ offer_unchecked s e) × (s ≡ after_offer_unchecked s e)
  unfolding offer_unchecked after_offer_unchecked
  offer_refused r re =
      let n : refusal_of e ≡ number r = sym re in
      let q : eqb (refusal_of e) 0 ≡ false = rw n (number_not_0 r) in
      (sym (rw (q, n)), sym (rw q))

  pub offer_placed : 0 ≡ refusal_of e → (a : Answer) (t : List ℕ) → a ≡ told_of (placement s e) → t ≡ after_placed s e
      → (a ≡ offer_unchecked s e) × (t ≡ after_offer_unchecked s e)
  unfolding offer_unchecked after_offer_unchecked
  offer_placed h a t ae te =
      let q = eq-eqb (refusal_of e) 0 (sym h) in
      (ae ∙ sym (rw q), te ∙ sym (rw q))

  pub offer_5 : (b : Bool) → b ≡ sound s → b ≡ false → (refused 5 ≡ offer_answer s e) × (s ≡ after_offer s e)
  unfolding offer_answer after_offer is_refused
  offer_5 b be f = let h = sym be ∙ f in (sym (rw h), sym (rw h))

-- ---- a merge
-- a loop that counts the giver's entries whose key is not held, at entry j
pub record Counting (line : ℕ) (hs es : List Entry) (j new passed : ℕ) : Type 0 where
  pub new_is : new + count_new line hs (drop j es) ≡ count_new line hs es
  pub passed_is : passed + count_passed line hs (drop j es) ≡ count_passed line hs es
  pub new_most : new ≤ j
  pub passed_most : passed ≤ j

pub counting_end : (line : ℕ) (hs es : List Entry) (j new passed : ℕ) → Counting line hs es j new passed → length es ≤ j → Counted line hs es new passed
unfolding count_new count_passed
counting_end line hs es j new passed c h =
    let z = drop_of_length-le es h in
    record { new_is = omega (arith, rw z at c.new_is); passed_is = omega (arith, rw z at c.passed_is) }

-- the key k of the giver's slot j is sought, and its place is r
module _ (line : ℕ) (hs : List Entry) (g : List ℕ) (j new passed : ℕ) (c : Counting line hs (entries_of g) j new passed) (used : j < used_of g)
    (t k : List ℕ) (te : t ≡ slot_at j g) (ke : k ≡ key_in t)
    (r : Result ℕ ℕ) (m : MatchResult r (λ i. Placed k hs i true) (λ i. Placed k hs i false)) where
  abbrev given : Entry
  given = slot_entry (slot_at j g)

  split : drop j (entries_of g) ≡ given ∷ drop (suc j) (entries_of g)
  split = entry_at j g used

  held : (l : List ℕ) (p : Result ℕ ℕ) → MatchResult p (λ i. Placed l hs i true) (λ i. Placed l hs i false) → is_ok p ≡ is_held (seen l hs)
  held l (Ok i) q = q.known
  held l (Err i) q = q.known

  known : (b : Bool) → is_ok r ≡ b → is_held (seen given.key hs) ≡ b
  unfolding slot_entry
  known b f = ap (λ (l : List ℕ). is_held (seen l hs)) (sym (ke ∙ ap key_in te)) ∙ sym (held k r m) ∙ f

  pub counting_held : is_ok r ≡ true → Counting line hs (entries_of g) (j + 1) new passed
  unfolding count_new count_passed
  counting_held f = record {
    new_is = rw (add-one j) (rw (split, known true f) at c.new_is);
    passed_is = rw (add-one j) (rw (split, known true f) at c.passed_is);
    new_most = omega (arith, c.new_most);
    passed_most = omega (arith, c.passed_most);
  }

  module _ (f : is_ok r ≡ false) (p : Stamp) (pe : p ≡ stamp_in t) (l : ℕ) (le : l ≡ line) where
    stamp_is : p ≡ given.stamp
    unfolding slot_entry
    stamp_is = pe ∙ ap stamp_in te

    old : (b : Bool) → ltb p.phys l ≡ b → ltb given.stamp.phys line ≡ b
    old b q = rw (stamp_is, le) at q

    pub counting_old : p.phys < l → Counting line hs (entries_of g) (j + 1) new (passed + 1)
    unfolding count_new count_passed
    counting_old q =
        let o = old true (lt-ltb p.phys l q) in record {
          new_is = rw (add-one j) (rw (split, known false f, o) at c.new_is);
          passed_is = rw (add-one j) (omega (arith, rw (split, known false f, o) at c.passed_is));
          new_most = omega (arith, c.new_most);
          passed_most = omega (arith, c.passed_most);
        }

    pub counting_new : l ≤ p.phys → Counting line hs (entries_of g) (j + 1) (new + 1) passed
    unfolding count_new count_passed
    counting_new q =
        let o = old false (le-ltb p.phys l q) in record {
          new_is = rw (add-one j) (omega (arith, rw (split, known false f, o) at c.new_is));
          passed_is = rw (add-one j) (rw (split, known false f, o) at c.passed_is);
          new_most = omega (arith, c.new_most);
          passed_most = omega (arith, c.passed_most);
        }

-- a loop that offers the giver's entries
pub give_next : (es : List Entry) (j : ℕ) (e : Entry) → drop j es ≡ e ∷ drop (suc j) es → (s t : List ℕ) → t ≡ after_placed s e
    → after_all (drop (j + 1) es) t ≡ after_all (drop j es) s
unfolding after_all
give_next es j e split s t te = rw (split, te, add-one j)

pub give_end : (es : List Entry) (j : ℕ) (s t : List ℕ) → length es ≤ j → after_all (drop j es) s ≡ t → s ≡ t
unfolding after_all
give_end es j s t h e = rw (drop_of_length-le es h) at e

-- b and d are whether the stores are sound, m and n their lines
module _ (r g : List ℕ) (b : Bool) (be : b ≡ sound r) where
  pub merge_5 : b ≡ false → (refused 5 ≡ merge_answer r g) × (r ≡ after_merge r g)
  unfolding merge_answer after_merge is_refused
  merge_5 f = let h = sym be ∙ f in (sym (rw h), sym (rw h))

  module _ (bt : b ≡ true) (d : Bool) (de : d ≡ sound g) where
    h : sound r ≡ true
    h = sym be ∙ bt

    pub merge_giver_5 : d ≡ false → (refused 5 ≡ merge_answer r g) × (r ≡ after_merge r g)
    unfolding merge_answer after_merge is_refused
    merge_giver_5 f = let k = sym de ∙ f in (sym (rw (h, k)), sym (rw (h, k)))

    module _ (dt : d ≡ true) (m n : ℕ) (me : m ≡ line_of r) (ne : n ≡ line_of g) where
      k : sound g ≡ true
      k = sym de ∙ dt

      pub merge_35 : (m ≡ n → ⊥) → (refused 35 ≡ merge_answer r g) × (r ≡ after_merge r g)
      unfolding merge_answer after_merge is_refused
      merge_35 f =
          let q = ne_eqb (line_of r) (line_of g) (λ e. f (me ∙ e ∙ sym ne)) in
          (sym (rw (h, k, q)), sym (rw (h, k, q)))

      -- u slots of c are used, and of the giver's entries new ones are new and passed are passed over
      module _ (l : m ≡ n) (c u new passed : ℕ) (ce : c ≡ slots_of r) (ue : u ≡ used_of r)
          (t : Counted (line_of r) (entries_of r) (entries_of g) new passed) where
        same : eqb (line_of r) (line_of g) ≡ true
        same = eq-eqb (line_of r) (line_of g) (sym me ∙ l ∙ ne)

        merged-length : length (merged_entries r g) ≡ u + new
        unfolding merged_entries
        merged-length =
            length-put_all (line_of r) (entries_of g) (entries_of r) (ordered g k) (ordered r h)
            ∙ ap₂ (λ (x y : ℕ). x + y) (used_is r ∙ sym ue) (sym t.new_is)

        pub merge_6 : c < u + new → (refused 6 ≡ merge_answer r g) × (r ≡ after_merge r g)
        unfolding merge_answer after_merge is_refused
        merge_6 f =
            let q = lt-ltb (slots_of r) (length (merged_entries r g)) (omega (arith, merged-length)) in
            (sym (rw (h, k, same, q)), sym (rw (h, k, same, q)))

        pub merge_done : u + new ≤ c → (w : List ℕ) → w ≡ after_all (entries_of g) r → (merged passed ≡ merge_answer r g) × (w ≡ after_merge r g)
        unfolding merge_answer after_merge is_refused merged_entries
        merge_done f w we =
            let fits : length (merged_entries r g) ≤ slots_of r = omega (arith, merged-length) in
            let q = le-ltb (slots_of r) (length (merged_entries r g)) fits in
            let a = all_placed (entries_of g) r h (ordered g k) (accepts_held g k) (fits_held g k) fits in
            let e : passed ≡ passed_over (line_of r) (entries_of r) (entries_of g) =
            t.passed_is ∙ sym (passed_count (line_of r) (entries_of g) (entries_of r) (ordered r h)) in
            (ap {B = Answer} merged e ∙ sym (rw (h, k, same, q)), we ∙ a ∙ sym (rw (h, k, same, q)))
