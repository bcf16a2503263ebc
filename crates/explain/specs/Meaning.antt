-- What the report means: the winner is what a store holds, and each reason is what it says.
use Rattle.std.specs.Prelude.{ℕ, ◌≤◌, ◌<◌, ◌≡◌, ◌⊎◌, ◌↔◌, true, false, cond, List, [], ◌∷◌, length, drop, get_or, None, Some}
use Rattle.std.proofs.Math.Option.{some}
use Rattle.wire.specs.Number.{Bytes}
use Rattle.entry.specs.Key.{bad_key}
use Rattle.entry.specs.Entry.{Entry, beats}
use Rattle.image.specs.Layout.{most_slots}
use Rattle.image.specs.Image.{image}
use Rattle.store.specs.Create.{fresh_store}
use Rattle.store.specs.Offer.{after_offer}
use Rattle.store.specs.Listing.{nth}
use Rattle.deliveries.specs.List.{deliveries_of}
use Rattle.explain.specs.Winner.{is_of}
use Rattle.explain.specs.Reason as byte
use Rattle.explain.specs.Explain.{won, no_delivery, refused, is_refused, explain_answer, after_explain}

-- ---- the refusals
-- each is given exactly where its check is the first that fails (R252)
pub record RefusedExactly (list k out : List ℕ) : Type 0 where
  pub unreadable : explain_answer list k out ≡ refused 17 ↔ (deliveries_of list ≡ None)
  pub on_bad_key : explain_answer list k out ≡ refused 1 ↔ ((es : List Entry) × (deliveries_of list ≡ Some es) × (bad_key k ≡ true))
  pub no_room : explain_answer list k out ≡ refused 4
      ↔ ((es : List Entry) × (deliveries_of list ≡ Some es) × (bad_key k ≡ false) × (length out < length es))
  pub numbers : (n : ℕ) → explain_answer list k out ≡ refused n → (n ≡ 17) ⊎ (n ≡ 1) ⊎ (n ≡ 4)

abbrev pub ReportRefused : Type 0
ReportRefused = (list k out : List ℕ) → RefusedExactly list k out

-- a refusal touches no byte of the output; where the call is not refused, as many bytes as
-- deliveries are written, and later bytes stay (R29, R31, R250)
pub record Writes (list k out : List ℕ) : Type 0 where
  pub refused : is_refused (explain_answer list k out) ≡ true → after_explain list k out ≡ out
  pub reported : (es : List Entry) → deliveries_of list ≡ Some es → is_refused (explain_answer list k out) ≡ false
      → (length es ≤ length out) × (length (after_explain list k out) ≡ length out) × (drop (length es) (after_explain list k out) ≡ drop (length es) out)

abbrev pub ReportWrites : Type 0
ReportWrites = (list k out : List ℕ) → Writes list k out

-- ---- the winner is what a fresh store holds
-- the deliveries of the key, in order
unfoldable pub of_key : List ℕ → List Entry → List Entry
of_key k [] = []
of_key k (d ∷ ds) = cond (is_of k d) (d ∷ of_key k ds) (of_key k ds)

-- a store to which each of some entries was offered in turn
unfoldable pub offered_all : List Entry → List ℕ → List ℕ
offered_all [] store = store
offered_all (e ∷ es) store = offered_all es (after_offer store e)

-- a fresh store of C slots to which that key's deliveries were offered in order
abbrev pub held_after : ℕ → List ℕ → List Entry → List ℕ
held_after C k es = offered_all (of_key k es) (fresh_store C)

-- it is the image of just the winner, or fresh for NONE (R253)
pub record WinnerHeld (list k out : List ℕ) (es : List Entry) (C : ℕ) : Type 0 where
  pub winner : (i : ℕ) → explain_answer list k out ≡ won i → (e : Entry) × (nth i es ≡ some e) × (held_after C k es ≡ image C 0 (e ∷ []))
  pub on_no_delivery : explain_answer list k out ≡ no_delivery → held_after C k es ≡ fresh_store C

abbrev pub WinnerIsHeld : Type 0
WinnerIsHeld = (list k out : List ℕ) (es : List Entry) → Bytes list → deliveries_of list ≡ Some es
    → (C : ℕ) → 1 ≤ C → C ≤ most_slots → WinnerHeld list k out es C

-- ---- each reason means what it says
-- the delivery d of the key lost to the winner w, with the byte b (R249, R256)
pub record LostBy (w d : Entry) (b : ℕ) : Type 0 where
  pub reason : (b ≡ byte.earlier_time) ⊎ (b ≡ byte.lower_count) ⊎ (b ≡ byte.lower_node) ⊎ (b ≡ byte.same_entry) ⊎ (b ≡ byte.lower_content)
  pub time : b ≡ byte.earlier_time ↔ (d.stamp.phys < w.stamp.phys)
  pub count : b ≡ byte.lower_count ↔ (d.stamp.phys ≡ w.stamp.phys) × (d.stamp.logical < w.stamp.logical)
  pub node : b ≡ byte.lower_node
      ↔ (d.stamp.phys ≡ w.stamp.phys) × (d.stamp.logical ≡ w.stamp.logical) × (d.stamp.node < w.stamp.node)
  pub same : b ≡ byte.same_entry ↔ (d ≡ w)
  -- the winner has the same stamp, and so is above by its contents
  pub content : b ≡ byte.lower_content ↔ (d.stamp ≡ w.stamp) × (beats w d ≡ true)

-- what the byte b says of the delivery d at place i, where the delivery w at place p won (R250)
pub record Means (k : List ℕ) (p : ℕ) (w : Entry) (i : ℕ) (d : Entry) (b : ℕ) : Type 0 where
  pub other : b ≡ byte.other_key ↔ (d.key ≡ k → ⊥)
  -- just one byte is the winner's
  pub won : b ≡ byte.won ↔ (i ≡ p)
  pub lost : d.key ≡ k → (i ≡ p → ⊥) → LostBy w d b
  -- the winner is the first delivery of its entry, so every later one of it stands behind
  pub first : d ≡ w → p ≤ i
  pub again : b ≡ byte.same_entry → p < i

abbrev pub ReasonsMean : Type 0
ReasonsMean = (list k out : List ℕ) (es : List Entry) (p : ℕ) → deliveries_of list ≡ Some es → explain_answer list k out ≡ won p
    → (w : Entry) × (nth p es ≡ some w) × (w.key ≡ k) × ((i : ℕ) (d : Entry) → nth i es ≡ some d → Means k p w i d (get_or (after_explain list k out) i 0))

-- with NONE every delivery is of another key, and every byte says so (R248, R250)
abbrev pub NoneMeans : Type 0
NoneMeans = (list k out : List ℕ) (es : List Entry) → deliveries_of list ≡ Some es → explain_answer list k out ≡ no_delivery
    → (i : ℕ) (d : Entry) → nth i es ≡ some d → (d.key ≡ k → ⊥) × (get_or (after_explain list k out) i 0 ≡ byte.other_key)
