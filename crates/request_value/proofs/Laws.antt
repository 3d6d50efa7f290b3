-- Numbers that name cells, and what is left of the values of a call and the arguments of a signature.
use mathlib.Core.Path.{◌≡◌, refl, sym, ap, ◌∙◌}
use mathlib.Core.List.{List, [], ◌∷◌}
use mathlib.Core.Option.{none, some}
use Prim.Native.Nat.{ℕ, zero, suc, ◌+◌, ◌≤◌, ◌<◌}
use native.Mathlib.Numerals.{add-one}
use native.Mathlib.Omega.{arith}
use lib.IntN.{ℤ, pos}
use lib.ListN.{length, get_or, get_elem?, drop, get_or-eq_default}
use lib.Seq.{drop-cons}
use borrow.Author.Tests.{ltb-false}
use Rattle.spec_model.specs.Basics.{names, named}
use Rattle.spec_model.specs.Requests.{no_cell}
use Rattle.std.specs.Prelude.{Some, None}
use Rattle.std.specs.Prelude.{Option as Maybe}
use Rattle.table_record.specs.declared.Method.{Method}
use Rattle.base_numbers.specs.Index.{index_of}
use Rattle.base_numbers.proofs.Laws.{index-unknown, index-known}
use Rattle.state_record.specs.declared.Cell.{Cell}
use Rattle.state_record.specs.Counted.{Cells}
use Rattle.state_record.specs.View.{cell_of, cells_in}
use Rattle.state_record.proofs.Laws.{cells-length}
use Rattle.crossing_targets.specs.Targets.{option_of, argument_of}
use Rattle.request_value.specs.Sent.{arguments_of}

-- ---- The cell that a number names.
module _ (cs : Cells) (v z : ℤ) (is : z ≡ pos (named v)) (k : ℕ) (e : k ≡ index_of z cs.count) where
  pub cell-named : k < cs.count → (r : Cell) → cell_of r ≡ get_or (cells_in cs) k no_cell → cell_of r ≡ get_or (cells_in cs) (named v) no_cell
  cell-named l r w = w ∙ ap (λ (n : ℕ). get_or (cells_in cs) n no_cell) (sym (index-known z cs.count k e l).1 ∙ ap named is)

  pub cell-unnamed : cs.count ≤ k → no_cell ≡ get_or (cells_in cs) (named v) no_cell
  cell-unnamed l =
      let out : cs.count ≤ named v = ltb-false (named v) cs.count (sym (ap (λ (y : ℤ). names y cs.count) is) ∙ index-unknown z cs.count k e l) in
      let n : length (cells_in cs) ≡ cs.count = cells-length cs in
      sym (get_or-eq_default (cells_in cs) no_cell {n = named v} (omega arith))

-- ---- What is left of a signature's arguments and of the values, from the i-th on.
elem-none : (xs : List ℕ) (i : ℕ) → none ≡ get_elem? xs i → drop i xs ≡ []
elem-none [] zero e = refl
elem-none [] (suc i) e = refl
elem-none (x ∷ xs) zero e = cc
elem-none (x ∷ xs) (suc i) e = elem-none xs i e

elem-some : (xs : List ℕ) (i a : ℕ) → some a ≡ get_elem? xs i → drop i xs ≡ a ∷ drop (suc i) xs
elem-some [] i a e = cc
elem-some (x ∷ xs) zero a e = ap (λ (n : ℕ). n ∷ xs) cc
elem-some (x ∷ xs) (suc i) a e = elem-some xs i a e

module _ (x : Method) (i : ℕ) (o : Maybe ℕ) (e : option_of o ≡ argument_of x i) where
  pub none_left : o ≡ None → drop i (arguments_of x) ≡ []
  none_left z = elem-none (arguments_of x) i (ap option_of (sym z) ∙ e)

  pub some_left : (a : ℕ) → o ≡ Some a → drop i (arguments_of x) ≡ a ∷ drop (i + 1) (arguments_of x)
  some_left a z = elem-some (arguments_of x) i a (ap option_of (sym z) ∙ e) ∙ ap (λ (k : ℕ). a ∷ drop k (arguments_of x)) (sym (add-one i))

pub value-next : (vs : List ℤ) (i : ℕ) → i < length vs → drop i vs ≡ get_or vs i (pos 0) ∷ drop (i + 1) vs
value-next vs i h = drop-cons vs i (pos 0) h ∙ ap (λ (k : ℕ). get_or vs i (pos 0) ∷ drop k vs) (sym (add-one i))
