-- Types as their records say them: classes (T16) and references.
use mathlib.Core.Path.{◌≡◌, refl, ap, ◌∙◌}
use mathlib.Core.Bool.{Bool, true, false, not, ◌&&◌}
use mathlib.Core.List.{List}
use Prim.Native.Nat.{ℕ, ◌<◌}
use lib.ListN.{get_or}
use Rattle.spec_model.specs.Basics.{all, from}
use Rattle.spec_model.specs.Table.{Ty, Method, type_at, is_ref, is_settled, is_class}
use Rattle.spec_model.specs.Check.{RawType, no_raw_type, no_raw_method, method_of, type_of, rep_of}
use Rattle.table_record.specs.declared.Counts.{Counts}
use Rattle.table_record.specs.Store.{types_in, table_in}
use Rattle.table_record.proofs.Tables.{type-is}
use Rattle.table_check_links.proofs.Each.{all-each}
use Rattle.state_check_records.specs.Parts.{ref_as, settled_as, class_as}

-- a class, as its record says
class-parts : (r o s : Bool) (ms ms' : List Method) (p : Method → Bool) → (r ≡ true → ms' ≡ ms) → all p ms ≡ s → (r && (not (r && o) && all p ms')) ≡ (r && (not (r && o) && s))
class-parts true o s ms ms' p on e = rw (on refl, e)
class-parts false o s ms ms' p on e = refl

pub class_of : (methods sheet i : ℕ) (x : RawType) → is_class (type_of methods sheet i x) ≡ class_as methods x
unfolding settled_as
class_of methods sheet i x =
    let y : Ty = type_of methods sheet i x in
    let ms : List Method = from methods 0 (λ j. method_of (get_or x.methods j no_raw_method)) in
    class-parts (is_ref (rep_of x.rep)) _ (settled_as methods x) ms y.methods (λ m. is_settled m.state) (λ e. rw e)
    (all-each (λ j. method_of (get_or x.methods j no_raw_method)) (λ m. is_settled m.state) methods 0)

module _ (b l : List ℕ) (c : Counts) (i : ℕ) (h : i < c.types) where
  pub class-is : is_class (type_at (table_in b l c) i) ≡ class_as c.methods (get_or (types_in b) i no_raw_type)
  class-is = ap is_class (type-is b l c i h) ∙ class_of c.methods c.sheet i (get_or (types_in b) i no_raw_type)

  pub ref-is : is_ref (type_at (table_in b l c) i).rep ≡ ref_as (get_or (types_in b) i no_raw_type)
  ref-is = ap (λ (x : Ty). is_ref x.rep) (type-is b l c i h)
