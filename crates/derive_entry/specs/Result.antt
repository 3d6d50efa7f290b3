-- What a derivation on a table handed in leaves, and what it says: the number of a refusal, or the table in the bytes with so many types, and the derived type's number.
use Rattle.std.specs.Prelude.{◌≡◌, true, false, Bool, cond, Option, None, Some, Result, Ok, Err, List, ℕ, eqb}
use Rattle.std.proofs.Math.Bool.{So}
use Rattle.spec_model.specs.Basics.{Res, refuse, ok}
use Rattle.spec_model.specs.Table.{Table}
use Rattle.spec_model.specs.Check.{codes_fit}
use Rattle.spec_model.specs.Records.{kind_code}
use Rattle.base_numbers.specs.Refusal.{number_of}
use Rattle.base_numbers.specs.declared.refusal.Refusal.{Refusal}
use Rattle.table_record.specs.declared.Kind.{Kind}
use Rattle.table_record.specs.Store.{kind_is}
use Rattle.table_record.specs.declared.Counts.{Counts}
use Rattle.table_record.specs.Layout.{raw_table, table_in, with_count}
use Rattle.derive_sub_sup.specs.Bytes.{Writes}
use Rattle.derive_entry.specs.Handed.{kind_asked}

-- The kind that a code asks for, or none.
abbrev pub Asked : ℕ → Bool → Option Kind → Type 0
Asked kind refs None = kind_asked kind refs ≡ false
Asked kind refs (Some k) = (kind_code (kind_is k) ≡ kind) × (kind_asked kind refs ≡ true)

-- What a derivation leaves: 0, the derived type's number, how many types there are now and their bytes; or the number of a refusal, with the count and the bytes
-- handed in.
pub record Derivation : Type 0 where
  pub refusal : ℕ
  pub number : ℕ
  pub count : ℕ
  pub types : List ℕ

abbrev pub derivation_of : List ℕ → Counts → Derivation → Res (Table × ℕ)
derivation_of l c r = cond (eqb r.refusal 0) (ok (table_in r.types l (with_count c r.count), r.number)) (refuse r.refusal)

-- A refusal has the bytes and the count that were handed in.
abbrev pub refused_with : ℕ → List ℕ → Counts → Derivation
refused_with n b c = record { refusal = n; number = 0; count = c.types; types = b }

-- what the code's result and the bytes that it leaves say
abbrev pub left : Counts → Result (ℕ × ℕ) Refusal → List ℕ → Derivation
left c (Err e) b = refused_with (number_of e) b c
left c (Ok p) b = record { refusal = 0; number = p.0; count = p.1; types = b }

-- What is left, r, of bytes and counts handed in and counts handed in, where the model's is `a`: every counted byte is determined, a refusal hands back what was handed in,
-- and where every code of the table names something before, every code does after, whatever the links are.
pub record DerivesHanded (b l : List ℕ) (c : Counts) (a : Res (Table × ℕ)) (r : Derivation) : Type 0 where
  pub is : derivation_of l c r ≡ a
  pub refused : (r.refusal ≡ 0 → ⊥) → r ≡ refused_with r.refusal b c
  pub writes : Writes c.types b r.types a
  pub codes : r.refusal ≡ 0 → (k : List ℕ) → So (codes_fit (raw_table b k c)) → So (codes_fit (raw_table r.types k (with_count c r.count)))
