-- How a derivation begins, and how the record of a new type is opened and stored, in the words of the model.
use Rattle.std.specs.Prelude.{◌≡◌, true, Option, None, Some, List, ℕ, ◌≤◌, ◌<◌, get_or}
use Rattle.std.proofs.Math.Option.{none, some}
use Rattle.std.proofs.Math.Option.{Option as Optionᵐ}
use Rattle.spec_model.specs.Table.{Kind as Kindᵐ}
use Rattle.spec_model.specs.Table.{Table, with_types, max_types}
use Rattle.spec_model.specs.Check.{no_raw_type}
use Rattle.table_record.specs.declared.Counts.{Counts}
use Rattle.table_record.specs.declared.Key.{Key}
use Rattle.table_record.specs.declared.Kind.{Kind}
use Rattle.table_record.specs.declared.TypeRec.{TypeRec}
use Rattle.table_record.specs.Store.{kind_is, kind_byte, raw_of, types_in, types_to, ref_in, Put}
use Rattle.derive_type.specs.declared.Work.{Work as WorkOf}
use Rattle.derive_type.specs.NewType.{Work, pending_by, Finished}

-- what a derivation comes to: the type's number and how many types there are now
abbrev pub Derived : Type 0
Derived = Option (ℕ × ℕ)

-- The table whose types are the first n of the bytes.
abbrev pub tabled : Table → Counts → ℕ → List ℕ → Table
tabled t c n b = with_types t (types_to c.methods c.sheet n (types_in b))

-- the number is one of the two or below the new count
abbrev pub Below : ℕ → ℕ → ℕ → ℕ → Type 0
Below t s m i = (z : ℕ) → m ≤ z → t < z → s < z → i < z

-- How a derivation begins, where `o` is what needs no new type: that type; or nothing is left; or a new one, of two reference types.
abbrev pub Begins : (Table → Optionᵐ ℕ) → ℕ → ℕ → ℕ → List ℕ → Option Derived → Type 0
Begins o n t s b (Some None) = ((T : Table) → o T ≡ none) × (max_types ≤ n)
Begins o n t s b (Some (Some p)) = ((T : Table) → o T ≡ some p.0) × (p.1 ≡ n) × Below t s n p.0
Begins o n t s b None = ((T : Table) → o T ≡ none) × (n < max_types) × (ref_in n b t ≡ true) × (ref_in n b s ≡ true)

-- Both sides are read, and the type at work is stored: for any kind that has a code and a meaning (`KindCode`), and for a `Kind`.
pub record OpenedBy {K : Type 0} (code : K → ℕ) (meaning : K → Kindᵐ) (key : Key K) (n : ℕ) (w : WorkOf K) (b b' : List ℕ) : Type 0 where
  pub key_is : w.key ≡ key
  pub left : raw_of w.left ≡ get_or (types_in b) key.left no_raw_type
  pub right : raw_of w.right ≡ get_or (types_in b) key.right no_raw_type
  pub put : Put b n (pending_by code meaning w) b'

abbrev pub Opened : Key Kind → ℕ → Work → List ℕ → List ℕ → Type 0
Opened = OpenedBy kind_byte kind_is

-- The finished type is stored.
pub record Stored (w : Work) (ms n : ℕ) (ns b b' : List ℕ) : Type 0 where
  pub z : TypeRec
  pub put : Put b n (raw_of z) b'
  pub finished : Finished w ms ns z
