-- The theorem of marks against the door counter (specs/Doors): by the contracts, from what is computed to what it has to be (crate spec_doors, `held-is`).
use mathlib.Core.Path.{◌≡◌, refl, sym, ap, subst, ◌∙◌}
use mathlib.Core.Bool.{Bool, true, false, cond}
use mathlib.Core.List.{List, [], ◌∷◌, ◌++◌}
use Prim.Native.Nat.{ℕ, ◌≤◌}
use native.Mathlib.Omega.{arith}
use lib.Dec.{ltb}
use lib.ListN.{length}
use borrow.Author.Tests.{ltb-true, ltb-false}
use Rattle.spec_model.specs.Basics.{Res, ok}
use Rattle.spec_model.specs.Refusals.{form}
use Rattle.spec_sheet.specs.Lines.{bytes, split, join, Reading, refused, got}
use Rattle.spec_sheet.specs.Text.{max_input, number_text}
use Rattle.spec_doors.specs.Held.{Counts, held}
use Rattle.spec_doors.specs.Paired.{Fit, Counted, Paired, unfit, counted}
use Rattle.spec_doors.specs.Input.{Input, input_lines, input_text}
use Rattle.spec_doors.specs.Output.{held_text, held_in, doors_output}
use Rattle.spec_sheet.proofs.Steps.{ok-value}
use Rattle.spec_sheet.proofs.Readers.{refused-got, got-value}
use Rattle.spec_doors.proofs.Held.{held-is, paired-one}
use Rattle.spec_doors.proofs.Forms.{OfForms, input-form, Ended, input-ended}
use Rattle.spec_doors.proofs.Exact.{input-exact}
use Rattle.export_doors.specs.Result.{HeldIs}
use Rattle.theorem.specs.Doors as doors
use Rattle.theorem.specs.Doors.{ShownOfHolding, HeldBytes, refuses, counts, ShownOfHoldingBytes, Prints, long, malformed, Printed, ShownOfDoors, OneOutput}

pub shown-of-holding : ShownOfHolding
shown-of-holding marks arrivals within r e = subst (Paired marks arrivals within) (sym e) (held-is marks arrivals within)

-- ---- The C function
handed-out : (marks arrivals : List ℕ) (within n : ℕ) (old new : List ℕ) (r : Res Counts) → Paired marks arrivals within r → HeldIs r n old new
    → HeldBytes marks arrivals within old n new
handed-out marks arrivals within n old new _ (unfit e) h = rw (h.number, h.counts) (refuses e)
handed-out marks arrivals within n old new _ (counted {c} k) h = rw (h.number, h.counts) (counts c k)

pub shown-of-holding-bytes : ShownOfHoldingBytes
shown-of-holding-bytes marks arrivals within n old new h = handed-out marks arrivals within n old new (held marks arrivals within) (held-is marks arrivals within) h

-- ---- The program
module _ (s : List ℕ) (short : length s ≤ max_input) where
  as_read : (x : Input) (at : ℕ) → input_lines 0 (split s) ≡ got x at [] → (r : Res Counts) → Paired x.marks x.arrivals x.within r → Prints s (held_text r)
  unfolding held_text number_text
  as_read x at i _ (unfit e) = doors.unfit x at short i e
  as_read x at i _ (counted {c} k) = doors.counted x c short ((input-exact x k.fit s).0 (at, i)) k

  by_lines : (r : Reading Input) → input_lines 0 (split s) ≡ r → OfForms r → Ended r → Prints s (held_text (held_in r))
  unfolding held_text number_text
  by_lines (refused n at) e f g = subst (λ k. Prints s (held_text (held_in (refused k at)))) (sym f) (malformed at short (e ∙ ap (λ k. refused k at) f))
  by_lines (got x at rs) e f g = as_read x at (e ∙ ap (got x at) g) (held x.marks x.arrivals x.within) (held-is x.marks x.arrivals x.within)

pub shown-of-doors : ShownOfDoors
unfolding doors_output
shown-of-doors s out e = go (ltb max_input (length s)) refl
  where
    lines : Bool → List (List ℕ)
    lines b = cond b (bytes "no=2") (held_text (held_in (input_lines 0 (split s)))) ∷ []

    go : (b : Bool) → ltb max_input (length s) ≡ b → Printed s out
    go true t = record { text = bytes "no=2"; prints = long (ltb-true max_input (length s) t); is = e ∙ ap (λ b. join (lines b)) t }
    go false t = record {
      text = held_text (held_in (input_lines 0 (split s)));
      prints = by_lines s (ltb-false max_input (length s) t) (input_lines 0 (split s)) refl (input-form 0 (split s)) (input-ended 0 (split s));
      is = e ∙ ap (λ b. join (lines b)) t;
    }

-- ---- One output
-- an input that fits and whose text is s is what s is read as
module _ (s : List ℕ) (y : Input) (c : Counts) (t : s ≡ input_text y) (k : Counted y.marks y.arrivals y.within c) where
  is_read : (r : Reading Input) → input_lines 0 (split s) ≡ r → (at : ℕ) × (r ≡ got y at [])
  is_read r e = let i = (input-exact y k.fit s).1 t in (i.0, sym e ∙ i.1)

  not-malformed : {A : Type 0} (at : ℕ) → input_lines 0 (split s) ≡ refused form at → A
  not-malformed at e = refused-got (is_read (refused form at) e).1

  as-itself : (x : Input) (at : ℕ) → input_lines 0 (split s) ≡ got x at [] → x ≡ y
  as-itself x at e = got-value (is_read (got x at []) e).1

  not-unfit : {A : Type 0} (x : Input) (at : ℕ) → input_lines 0 (split s) ≡ got x at [] → (Fit x.marks x.arrivals x.within → ⊥) → A
  not-unfit x at e f = absurd (f (subst (λ (z : Input). Fit z.marks z.arrivals z.within) (sym (as-itself x at e)) k.fit))

-- the counts of one input, or of another that is the same, are the same
same-counts : (x y : Input) (c d : Counts) → x ≡ y → Counted x.marks x.arrivals x.within c → Counted y.marks y.arrivals y.within d → c ≡ d
same-counts x y c d e k l =
    ok-value (paired-one y.marks y.arrivals y.within (ok c) (ok d) (counted {c = c} (subst (λ (z : Input). Counted z.marks z.arrivals z.within c) e k)) (counted {c = d} l))

one-text : (s a b : List ℕ) → Prints s a → Prints s b → a ≡ b
one-text s _ _ (long h) (long k) = refl
one-text s _ _ (long h) (malformed at k e) = absurd (omega arith)
one-text s _ _ (long h) (doors.unfit x at k e f) = absurd (omega arith)
one-text s _ _ (long h) (doors.counted x c k t l) = absurd (omega arith)
one-text s _ _ (malformed at h e) (long k) = absurd (omega arith)
one-text s _ _ (malformed at h e) (malformed at' k e') = refl
one-text s _ _ (malformed at h e) (doors.unfit x at' k e' f) = refused-got (sym e ∙ e')
one-text s _ _ (malformed at h e) (doors.counted x c k t l) = not-malformed s x c t l at e
one-text s _ _ (doors.unfit x at h e f) (long k) = absurd (omega arith)
one-text s _ _ (doors.unfit x at h e f) (malformed at' k e') = refused-got (sym e' ∙ e)
one-text s _ _ (doors.unfit x at h e f) (doors.unfit y at' k e' g) = refl
one-text s _ _ (doors.unfit x at h e f) (doors.counted y c k t l) = not-unfit s y c t l x at e f
one-text s _ _ (doors.counted x c h t l) (long k) = absurd (omega arith)
one-text s _ _ (doors.counted x c h t l) (malformed at k e) = not-malformed s x c t l at e
one-text s _ _ (doors.counted x c h t l) (doors.unfit y at k e f) = not-unfit s x c t l y at e f
one-text s _ _ (doors.counted x c h t l) (doors.counted y d k u m) =
    let i = is_read s x c t l (input_lines 0 (split s)) refl in
    ap (λ (z : Counts). number_text (bytes "got=") z.pairs ++ (number_text (bytes " ") z.marks ++ number_text (bytes " ") z.arrivals))
    (same-counts x y c d (as-itself s y d u m x i.0 i.1) l m)

pub one-output : OneOutput
one-output s out other p q = p.is ∙ ap (λ z. join (z ∷ [])) (one-text s p.text q.text p.prints q.prints) ∙ sym q.is
