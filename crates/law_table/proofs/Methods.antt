-- Representation and methods of the types that the bytes mean, for whoever asks for one of them.
use mathlib.Core.Path.{◌≡◌, refl, sym, ap, ◌∙◌}
use mathlib.Core.Logic.{⊎_elim}
use mathlib.Core.Bool.{Bool, true, false, cond}
use mathlib.Core.List.{List, []}
use Prim.Native.Nat.{ℕ, ◌≤◌, ◌<◌}
use lib.Dec.{eqb}
use lib.ListN.{get_or}
use Rattle.spec_model.specs.Basics.{from}
use Rattle.spec_model.specs.Table.{Method, Ty, no_method, type_at, method_at, is_ref}
use Rattle.spec_model.specs.Check.{RawType, no_raw_type, no_raw_method, rep_of, method_of}
use Rattle.spec_model.proofs.Rules.{never}
use Rattle.spec_model.proofs.Largest.{get_or-from-out}
use Rattle.table_record.specs.declared.Counts.{Counts}
use Rattle.table_record.specs.declared.Head.{Head}
use Rattle.table_record.specs.Store.{head_of, types_in, table_in, method_in}
use Rattle.table_record.proofs.Lists.{lt-or-ge, from_first}
use Rattle.table_record.proofs.Tables.{type-is, type-out}
use Rattle.table_record.proofs.Codes.{rep-code}

module _ (b l : List ℕ) (c : Counts) where
  -- whether a number names a reference type: not past the count, and by the code of its record
  pub ref-out : (t : ℕ) → c.types ≤ t → false ≡ is_ref (type_at (table_in b l c) t).rep
  ref-out t h = sym (ap (λ (x : Ty). is_ref x.rep) (type-out b l c t h))

  pub ref-is : (t : ℕ) (h : Head) → t < c.types → h ≡ head_of (get_or (types_in b) t no_raw_type) → eqb h.rep 0 ≡ is_ref (type_at (table_in b l c) t).rep
  ref-is t h p e = ap (λ (x : Head). eqb x.rep 0) e ∙ rep-code (get_or (types_in b) t no_raw_type).rep ∙ sym (ap (λ (x : Ty). is_ref x.rep) (type-is b l c t p))

  -- a type that is a reference type stands in the table
  pub ref-known : (t : ℕ) → is_ref (type_at (table_in b l c) t).rep ≡ true → t < c.types
  ref-known t r = ⊎_elim (λ (p : t < c.types). p) (λ (p : c.types ≤ t). never (ref-out t p ∙ r)) (lt-or-ge t c.types)

  pub method-is : (t j : ℕ) → is_ref (type_at (table_in b l c) t).rep ≡ true → j < c.methods → method_at (table_in b l c) t j ≡ method_in b t j
  method-is t j r h =
      let p : t < c.types = ref-known t r in
      let x : RawType = get_or (types_in b) t no_raw_type in
      let f : ℕ → Method = λ k. method_of (get_or x.methods k no_raw_method) in
      let e : is_ref (rep_of x.rep) ≡ true = sym (ap (λ (y : Ty). is_ref y.rep) (type-is b l c t p)) ∙ r in
      ap (λ (y : Ty). get_or y.methods j no_method) (type-is b l c t p)
      ∙ ap (λ (q : Bool). get_or (cond q (from c.methods 0 f) []) j no_method) e ∙ from_first f c.methods j no_method h

  pub method-out : (t j : ℕ) → c.methods ≤ j → method_at (table_in b l c) t j ≡ no_method
  method-out t j h = ⊎_elim
      (λ (p : t < c.types). let x : RawType = get_or (types_in b) t no_raw_type in
      ap (λ (y : Ty). get_or y.methods j no_method) (type-is b l c t p) ∙ either (λ k. method_of (get_or x.methods k no_raw_method)) (is_ref (rep_of x.rep)))
      (λ (p : c.types ≤ t). ap (λ (y : Ty). get_or y.methods j no_method) (type-out b l c t p))
      (lt-or-ge t c.types)
    where
      either : (f : ℕ → Method) (q : Bool) → get_or (cond q (from c.methods 0 f) []) j no_method ≡ no_method
      either f true = get_or-from-out f no_method c.methods 0 j h
      either f false = refl
