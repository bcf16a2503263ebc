-- Every point of the table holds, by computation.
use mathlib.Core.Path.{refl}
use Rattle.wire.specs.Number.{be}
use Rattle.wire.specs.Fill.{zeros}
use Rattle.clock.specs.Clock.{raise, with_skew, send_step, receive_in_range, receive_step}
use Rattle.peers.specs.Row.{age_at, in_range, tick_state, tick_row}
use Rattle.peers.specs.Table.{has_row, held_state, on_others, distinct, own_alive, rows_in_range, sound_table}
use Rattle.peers.specs.Admitted.{admits_among, admits}
use Rattle.peers.specs.Event.{unless_refused, with_rows, tick_answer, after_tick}
use Rattle.ring.specs.Lists.{elem, filter, firsts, count_below, ascending}
use Rattle.ring.specs.Sound.{in_range as places_in_range, sound_ring}
use Rattle.ring.specs.Walk.{from, before, around, met, owners_of, admitted_with_place}
use Rattle.ring.specs.Owners.{bad_request, owners_answer, owners_output}
use Rattle.image.specs.Image.{header, slots, image}
use Rattle.store.specs.Create.{create_refusal, fresh_store, after_create}
use Rattle.points.specs.Points.{AllPointsHold}

pub all_points_hold : AllPointsHold
unfolding raise with_skew send_step receive_in_range receive_step age_at in_range tick_state tick_row has_row held_state on_others distinct
    own_alive rows_in_range sound_table unless_refused with_rows tick_answer after_tick admits_among admits elem filter firsts count_below
    ascending places_in_range sound_ring from before around met owners_of admitted_with_place bad_request owners_answer owners_output be
    zeros header slots image create_refusal fresh_store after_create
all_points_hold = (
  refl,
  (
    refl,
    (
      refl,
      (
        refl,
        (
          refl,
          (
            refl,
            (
              (refl, refl),
              (
                (refl, refl),
                (
                  (refl, refl),
                  (
                    (refl, refl),
                    (
                      (refl, refl),
                      (
                        (refl, refl),
                        ((refl, refl), ((refl, refl), ((refl, refl), ((refl, refl), ((refl, refl), tt))))),
                      ),
                    ),
                  ),
                ),
              ),
            ),
          ),
        ),
      ),
    ),
  ),
)
