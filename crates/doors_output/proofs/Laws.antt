-- From the lines that are read to the result, and from the result to the line that is printed. The proofs of the functions cite them.
use mathlib.Core.Path.{◌≡◌, refl, sym, ap, ◌∙◌}
use mathlib.Core.Bool.{Bool, true, false, ◌&&◌}
use mathlib.Core.List.{List, [], ◌∷◌}
use Prim.Native.Nat.{ℕ, ◌≤◌, ◌<◌}
use native.Mathlib.Omega.{arith}
use lib.Dec.{leb}
use lib.ListN.{length, take}
use borrow.Author.Tests.{lt-ltb, le-ltb}
use Rattle.spec_model.specs.Basics.{Res, refuse, ok, need}
use Rattle.spec_model.specs.Refusals.{unfit_times}
use Rattle.spec_sheet.specs.Lines.{bytes, split, join, Reading}
use Rattle.spec_sheet.specs.Text.{max_input}
use Rattle.spec_doors.specs.Times.{max_times, max_tolerance, times_fit}
use Rattle.spec_doors.specs.Held.{Counts, pairs_of, counts, held}
use Rattle.spec_doors.specs.Input.{Input, input_lines}
use Rattle.spec_doors.specs.Output.{held_text, held_in, doors_output}
use Rattle.doors_hold.proofs.Laws.{too-many}
use Rattle.doors_read.specs.View.{InputRead}
use Rattle.doors_read.specs.declared.Read.{Read}
use Rattle.std.specs.Prelude.{Some}

-- ---- The result
unfit : (ms xs : List ℕ) (w : ℕ) → (times_fit ms && times_fit xs) ≡ false → refuse unfit_times ≡ held ms xs w
unfolding held
unfit ms xs w e = go (leb w max_tolerance)
  where
    go : (b : Bool) → refuse unfit_times ≡ need (b && (times_fit ms && times_fit xs)) unfit_times λ _. ok (counts ms xs (pairs_of w ms xs))
    go true = rw e
    go false = refl

and-false : (b : Bool) → (b && false) ≡ false
and-false true = refl
and-false false = refl

module _ (R : Reading Input) (marks arrivals : List ℕ) (x : Read) (whole : InputRead R marks arrivals (Some x)) where
  pub many-marks : max_times < x.marks → refuse unfit_times ≡ held_in R
  many-marks k =
      let i = whole.input in
      let e : false ≡ times_fit i.marks = too-many i.marks (omega (arith, whole.marks.count)) in
      unfit i.marks i.arrivals i.within (ap (λ b. b && times_fit i.arrivals) (sym e)) ∙ sym (ap held_in whole.is)

  pub many-arrivals : max_times < x.arrivals → refuse unfit_times ≡ held_in R
  many-arrivals k =
      let i = whole.input in
      let e : false ≡ times_fit i.arrivals = too-many i.arrivals (omega (arith, whole.arrivals.count)) in
      unfit i.marks i.arrivals i.within (ap (λ b. times_fit i.marks && b) (sym e) ∙ and-false (times_fit i.marks)) ∙ sym (ap held_in whole.is)

  pub lists-held : x.marks ≤ max_times → x.arrivals ≤ max_times → held (take x.marks marks) (take x.arrivals arrivals) x.within ≡ held_in R
  lists-held k l =
      let i = whole.input in
      ap (held (take x.marks marks) (take x.arrivals arrivals)) (sym whole.within) ∙ ap (λ ms. held ms (take x.arrivals arrivals) i.within) (whole.marks.there k)
      ∙ ap (λ xs. held i.marks xs i.within) (whole.arrivals.there l) ∙ sym (ap held_in whole.is)

-- ---- What is printed
module _ (s : List ℕ) where
  pub long-prints : max_input < length s → join (bytes "no=2" ∷ []) ≡ doors_output s
  unfolding doors_output
  long-prints l = rw (lt-ltb max_input (length s) l)

  pub held-prints : (r : Res Counts) → r ≡ held_in (input_lines 0 (split s)) → length s ≤ max_input → join (held_text r ∷ []) ≡ doors_output s
  unfolding doors_output
  held-prints r e l = rw (e, le-ltb max_input (length s) l)
