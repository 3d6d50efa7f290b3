-- The number of each refusal, as document 01 fixes it, and what a `Result` that may hold one says in the words of the model.
use Rattle.std.specs.Prelude.{ℕ, Result, Ok, Err}
use Rattle.spec_model.specs.Basics.{Res, refuse, ok}
use Rattle.spec_model.specs.Refusals as number
use Rattle.base_numbers.specs.declared.refusal.Refusal.{Refusal}
use Rattle.base_numbers.specs.declared.refusal.Refusal.TheVariants.{Form, OutOfRange, NotBelow, ShortBuffer, UnknownSubject, NotHeld, UnknownType, Unrelated}
use Rattle.base_numbers.specs.declared.refusal.Refusal.TheVariants.{NotOwner, NotStrict, TypesFull, PlacesFull, CellsFull, NotCallable, WrongValues, TooWide}
use Rattle.base_numbers.specs.declared.refusal.Refusal.TheVariants.{AnsweredAlready, CallsFull, LaterLayer, UnfitTimes}

abbrev pub number_of : Refusal → ℕ
number_of Form = number.form
number_of OutOfRange = number.out_of_range
number_of NotBelow = number.not_below
number_of ShortBuffer = number.short_buffer
number_of UnknownSubject = number.unknown_subject
number_of NotHeld = number.not_held
number_of UnknownType = number.unknown_type
number_of Unrelated = number.unrelated
number_of NotOwner = number.not_owner
number_of NotStrict = number.not_strict
number_of TypesFull = number.types_full
number_of PlacesFull = number.places_full
number_of CellsFull = number.cells_full
number_of NotCallable = number.not_callable
number_of WrongValues = number.wrong_values
number_of TooWide = number.too_wide
number_of AnsweredAlready = number.answered_already
number_of CallsFull = number.calls_full
number_of LaterLayer = number.later_layer
number_of UnfitTimes = number.unfit_times

-- the model's result; `numbered` says the number of an error, f what a value means
abbrev pub res_numbered : {E T A : Type 0} → (E → ℕ) → (T → A) → Result T E → Res A
res_numbered numbered f (Ok x) = ok (f x)
res_numbered numbered f (Err e) = refuse (numbered e)

abbrev pub res_by : {T A : Type 0} → (T → A) → Result T Refusal → Res A
res_by = res_numbered number_of
