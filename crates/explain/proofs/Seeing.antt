-- One delivery: what is seen of it, whether it is the best so far, and its byte.
use Prim.Native.Nat.{ℕ, ◌+◌, ◌-◌, ◌≤◌}
use native.Mathlib.Omega.{arith}
use mathlib.Core.Path.{◌≡◌, sym, ap, ◌∙◌}
use mathlib.Core.Bool.{Bool, true, false, cond}
use mathlib.Core.List.{List, []}
use lib.ListN.{length, take, drop, length-drop}
use borrow.Author.Tests.{eq-eqb, ne_eqb}
use Rattle.std.specs.Prelude.{Option, None, Some}
use Rattle.wire.specs.Order.{same_bytes}
use Rattle.wire.proofs.Fields.{rest}
use Rattle.entry.specs.declared.Stamp.{Stamp}
use Rattle.entry.specs.Entry.{Entry, entry_of, content_below, beats}
use Rattle.entry.proofs.EntryOrder.{at_equal, content_keys}
use Rattle.frame.specs.Reading.{part}
use Rattle.deliveries.specs.declared.Delivery.{Delivery}
use Rattle.deliveries.specs.Cut.{cut_unchecked}
use Rattle.deliveries.proofs.Cutting.{unchecked_within}
use Rattle.explain.specs.Winner.{is_of}
use Rattle.explain.specs.Reason.{earlier_time, lower_count, lower_node, lower_content, same_entry, reason}
use Rattle.explain.specs.Walk.{seen, behind}

-- ---- the reason
same_stamp : (s t : Stamp) → s.phys ≡ t.phys → s.logical ≡ t.logical → s.node ≡ t.node → s ≡ t
same_stamp s t p l n = λ i. record { phys = p i; logical = l i; node = n i }

module _ (w d : Entry) where
  pub by_time : (d.stamp.phys ≡ w.stamp.phys → ⊥) → earlier_time ≡ reason w d
  unfolding reason
  by_time h = rw (ne_eqb d.stamp.phys w.stamp.phys h)

  module _ (p : d.stamp.phys ≡ w.stamp.phys) where
    pub by_count : (d.stamp.logical ≡ w.stamp.logical → ⊥) → lower_count ≡ reason w d
    unfolding reason
    by_count h = rw (eq-eqb d.stamp.phys w.stamp.phys p, ne_eqb d.stamp.logical w.stamp.logical h)

    module _ (l : d.stamp.logical ≡ w.stamp.logical) where
      pub by_node : (d.stamp.node ≡ w.stamp.node → ⊥) → lower_node ≡ reason w d
      unfolding reason
      by_node h =
          rw
          (eq-eqb d.stamp.phys w.stamp.phys p, eq-eqb d.stamp.logical w.stamp.logical l, ne_eqb d.stamp.node w.stamp.node h)

      -- at equal stamps the winner beats just what has lower contents
      module _ (n : d.stamp.node ≡ w.stamp.node) where
        won_by_content : beats w d ≡ content_below d w
        won_by_content = at_equal w d (sym (same_stamp d.stamp w.stamp p l n))

        pub by_content : beats w d ≡ true → lower_content ≡ reason w d
        unfolding reason
        by_content b =
            rw (
              eq-eqb d.stamp.phys w.stamp.phys p,
              eq-eqb d.stamp.logical w.stamp.logical l,
              eq-eqb d.stamp.node w.stamp.node n,
              sym won_by_content ∙ b,
            )

        pub by_nothing : beats w d ≡ false → same_entry ≡ reason w d
        unfolding reason
        by_nothing b =
            rw (
              eq-eqb d.stamp.phys w.stamp.phys p,
              eq-eqb d.stamp.logical w.stamp.logical l,
              eq-eqb d.stamp.node w.stamp.node n,
              sym won_by_content ∙ b,
            )

-- the keys have no say in it
pub reason_keys : (w d : Entry) → reason (entry_of [] w.value w.flag w.stamp) (entry_of [] d.value d.flag d.stamp) ≡ reason w d
unfolding reason
reason_keys w d = rw (content_keys [] [] d w)

-- ---- what is seen
module _ (list : List ℕ) (at : ℕ) (k : List ℕ) (x : Option Delivery) (c : x ≡ cut_unchecked (take (length list - at) (drop at list))) where
  cut_there : x ≡ cut_unchecked (drop at list)
  cut_there = c ∙ ap cut_unchecked (rest at list)

  module _ (h : x ≡ None) where
    nothing_there : cut_unchecked (drop at list) ≡ None
    nothing_there = sym cut_there ∙ h

    pub seen_nothing : None ≡ seen list at k
    unfolding seen
    seen_nothing = rw nothing_there

    pub behind_nothing : length list ≡ behind list at
    unfolding behind
    behind_nothing = rw nothing_there

  module _ (d : Delivery) (h : x ≡ Some d) where
    delivery_there : cut_unchecked (drop at list) ≡ Some d
    delivery_there = sym cut_there ∙ h

    pub end_within : at ≤ length list → at + d.end ≤ length list
    end_within l =
        let w = unchecked_within (drop at list) d delivery_there in
        omega (arith, w.3, length-drop at list, l)

    pub behind_delivery : at + d.end ≡ behind list at
    unfolding behind
    behind_delivery = rw delivery_there

    abbrev left : List ℕ
    left = take (length list - at) (drop at list)

    -- its entry, by whether it is of the key
    module _ (e : Entry) (q : e ≡ entry_of (part d.entry.key left) (part d.entry.value left) d.entry.flag d.entry.stamp) (b : Bool)
        (s : b ≡ same_bytes k e.key) where
      seen_as : cond b (Some e) None ≡ seen list at k
      unfolding seen is_of
      seen_as = rw (delivery_there, s, q, rest at list)

      pub seen_delivery : b ≡ true → Some e ≡ seen list at k
      seen_delivery t = rw t at seen_as

      pub seen_other : b ≡ false → None ≡ seen list at k
      seen_other t = rw t at seen_as
