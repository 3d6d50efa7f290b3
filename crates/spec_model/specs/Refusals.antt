-- The refusals by name: docs/refusals.txt, which says each in words.
use Rattle.std.specs.Prelude.{ℕ}

abbrev pub form : ℕ
form = 1

abbrev pub out_of_range : ℕ
out_of_range = 2

abbrev pub not_below : ℕ
not_below = 3

abbrev pub short_buffer : ℕ
short_buffer = 4

abbrev pub unknown_subject : ℕ
unknown_subject = 5

abbrev pub not_held : ℕ
not_held = 6

abbrev pub unknown_type : ℕ
unknown_type = 7

abbrev pub unrelated : ℕ
unrelated = 8

abbrev pub not_owner : ℕ
not_owner = 9

abbrev pub not_strict : ℕ
not_strict = 10

abbrev pub types_full : ℕ
types_full = 11

abbrev pub places_full : ℕ
places_full = 12

abbrev pub cells_full : ℕ
cells_full = 13

abbrev pub not_callable : ℕ
not_callable = 14

abbrev pub wrong_values : ℕ
wrong_values = 15

abbrev pub too_wide : ℕ
too_wide = 16

abbrev pub answered_already : ℕ
answered_already = 17

abbrev pub calls_full : ℕ
calls_full = 18

abbrev pub later_layer : ℕ
later_layer = 19

abbrev pub unfit_times : ℕ
unfit_times = 22
