-- Representation, category and own of a pair: the rule of two types is that of their heads (specs/Parts).
use mathlib.Core.Path.{◌≡◌, refl, ap, sym}
use mathlib.Core.Bool.{Bool, ◌&&◌, and-true, So}
use Prim.Native.Nat.{ℕ}
use Rattle.spec_model.specs.Table.{Rep, ref, w32, w64, Ty, Table, is_ref}
use Rattle.spec_model.specs.Relations.{Relation, subtype, conforms, strict, loose, free, same_rep, same_sort, cat_le, outer_rule}
use Rattle.spec_model.specs.Check.{RawType, rep_of, type_of}
use Rattle.spec_model.proofs.Rules.{first}
use Rattle.spec_model.proofs.Tests.{beq-so}
use Rattle.table_record.specs.Store.{head_of}
use Rattle.relation_rule.specs.Parts.{outer_heads}

-- the rule of the two types is that of their heads
pub heads-rule : (k : Relation) (t : Table) (ms sh i j : ℕ) (x y : RawType) → outer_rule k t (type_of ms sh i x) (type_of ms sh j y) ≡ outer_heads k t (head_of x) (head_of y)
unfolding outer_rule outer_heads
heads-rule subtype t ms sh i j x y = refl
heads-rule conforms t ms sh i j x y = ap (λ (b : Bool). same_rep (rep_of x.rep) (rep_of y.rep) && b) (sym (and-true (cat_le t x.cat y.cat)))
heads-rule strict t ms sh i j x y = ap (λ (b : Bool). same_sort (rep_of x.rep) (rep_of y.rep) && b) (sym (and-true (cat_le t x.cat y.cat)))
heads-rule loose t ms sh i j x y = sym (and-true (same_sort (rep_of x.rep) (rep_of y.rep)))
heads-rule free t ms sh i j x y = sym (and-true (same_sort (rep_of x.rep) (rep_of y.rep)))

-- Where it holds, both are ref or both are numbers.
rep-sort : (a b : Rep) → So (same_rep a b) → is_ref a ≡ is_ref b
rep-sort ref ref h = refl
rep-sort ref w32 h = sym h
rep-sort ref w64 h = sym h
rep-sort w32 ref h = h
rep-sort w32 w32 h = refl
rep-sort w32 w64 h = refl
rep-sort w64 ref h = h
rep-sort w64 w32 h = refl
rep-sort w64 w64 h = refl

pub outer-sort : (k : Relation) (t : Table) (x y : Ty) → So (outer_rule k t x y) → is_ref x.rep ≡ is_ref y.rep
unfolding outer_rule
outer-sort subtype t x y h = rep-sort x.rep y.rep (first (same_rep x.rep y.rep) _ h)
outer-sort conforms t x y h = rep-sort x.rep y.rep (first (same_rep x.rep y.rep) _ h)
outer-sort strict t x y h = beq-so (is_ref x.rep) (is_ref y.rep) (first (same_sort x.rep y.rep) _ h)
outer-sort loose t x y h = beq-so (is_ref x.rep) (is_ref y.rep) h
outer-sort free t x y h = beq-so (is_ref x.rep) (is_ref y.rep) h
