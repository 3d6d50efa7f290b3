-- Laws of what may stand in a signature: tests over lists, one thing after the other, and what the bytes of a method and of a type say.
use mathlib.Core.Path.{◌≡◌, refl, sym, ap, ◌∙◌}
use mathlib.Core.Bool.{Bool, true, false, ◌&&◌, cond}
use mathlib.Core.List.{List, []}
use mathlib.Core.Option.{Option, none, some}
use Prim.Native.Nat.{ℕ, ◌+◌, ◌≤◌, ◌<◌}
use native.Mathlib.Numerals.{add-one}
use lib.Dec.{ltb}
use lib.ListN.{length, get_or, drop, drop_of_length-le}
use lib.Seq.{drop-cons}
use borrow.Author.Tests.{ltb-true, ltb-false}
use Rattle.spec_model.specs.Basics.{all, unless_missing, from}
use Rattle.spec_model.specs.Table.{Ty, Table, Method as Methodᵐ, no_type, type_at, is_ref, may_stand}
use Rattle.spec_model.specs.Check.{RawType, no_raw_type, no_raw_method, rep_of, method_of, type_of}
use Rattle.spec_model.proofs.Largest.{get_or-from-out}
use Rattle.spec_model.proofs.Lists.{all_same}
use Rattle.table_record.specs.Store.{types_to, may_stand_as}
use Rattle.table_record.proofs.Tables.{types-to-at}
use Rattle.spec_sheet.specs.Sheet.{stands, signatures_stand}
use Rattle.sheet_read_signatures.specs.Signatures.{methods_of, stands_at, methods_stand, type_stands}

-- A test over a list, from its front: it holds before i.
module _ {A : Type 0} (f : A → Bool) (l : List A) (i : ℕ) (d : A) (inv : all f l ≡ all f (drop i l)) where
  here : i < length l → all f l ≡ f (get_or l i d) && all f (drop (i + 1) l)
  here h = inv ∙ ap (all f) (drop-cons l i d h) ∙ ap (λ (n : ℕ). f (get_or l i d) && all f (drop n l)) (sym (add-one i))

  pub all-broken : i < length l → f (get_or l i d) ≡ false → false ≡ all f l
  all-broken h e = sym (here h ∙ ap (λ z. z && all f (drop (i + 1) l)) e)

  pub all-next : i < length l → f (get_or l i d) ≡ true → all f l ≡ all f (drop (i + 1) l)
  all-next h e = here h ∙ ap (λ z. z && all f (drop (i + 1) l)) e

  pub all_done : length l ≤ i → true ≡ all f l
  all_done h = sym (inv ∙ ap (all f) (drop_of_length-le l {i = i} h))

-- A type's methods.
pub methods-ref : (may : ℕ → Bool) (m : ℕ) (x : RawType) → is_ref (rep_of x.rep) ≡ true → all (stands may) (from m 0 (λ j. method_of (get_or x.methods j no_raw_method))) ≡ methods_stand may (methods_of m x)
methods-ref may m x e = ap (λ z. methods_stand may (cond z (from m 0 (λ j. method_of (get_or x.methods j no_raw_method))) [])) (sym e)

-- what may stand as the table has it
module _ (t : Table) (m n : ℕ) (rs : List RawType) (e : t.types ≡ types_to m n n rs) where
  may-is : (a : ℕ) → may_stand (type_at t a) ≡ stands_at rs n a
  unfolding types_to
  may-is a = ap (λ (ts : List Ty). may_stand (get_or ts a no_type)) e ∙ go (ltb a n) refl
    where
      go : (b : Bool) → ltb a n ≡ b → may_stand (get_or (types_to m n n rs) a no_type) ≡ cond b (may_stand_as (get_or rs a no_raw_type)) true
      go true q = ap may_stand (types-to-at m n rs n a no_type (ltb-true a n q))
      go false q = ap may_stand (get_or-from-out (λ i. type_of m n i (get_or rs i no_raw_type)) no_type n 0 a (ltb-false a n q))

  method-same : (x : Methodᵐ) → stands (λ a. may_stand (type_at t a)) x ≡ stands (stands_at rs n) x
  method-same x =
      ap (λ z. z && unless_missing x.answer (λ a. may_stand (type_at t a))) (all_same (λ a. may_stand (type_at t a)) (stands_at rs n) may-is x.args)
      ∙ ap (λ z. all (stands_at rs n) x.args && z) (answer-same x.answer)
    where
      answer-same : (o : Option ℕ) → unless_missing o (λ a. may_stand (type_at t a)) ≡ unless_missing o (stands_at rs n)
      answer-same none = refl
      answer-same (some a) = may-is a

  pub table-stands : signatures_stand t ≡ all (type_stands rs n) (types_to m n n rs)
  unfolding signatures_stand
  table-stands =
      all_same (λ (x : Ty). all (stands (λ a. may_stand (type_at t a))) x.methods) (type_stands rs n)
      (λ (x : Ty). all_same (stands (λ a. may_stand (type_at t a))) (stands (stands_at rs n)) method-same x.methods) t.types
      ∙ ap (all (type_stands rs n)) e
