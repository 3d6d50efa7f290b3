-- Numbers at the C boundary, and what they stand for (E12).
use Rattle.std.specs.Prelude.{◌≡◌, List, ℕ, ◌+◌}
use Rattle.std.proofs.Math.Bool.{So}
use Rattle.spec_model.specs.Basics.{Res, refuse, ok}
use Rattle.spec_model.specs.Table.{Table}
use Rattle.spec_model.specs.Relations.{Comparison}
use Rattle.spec_model.specs.Check.{codes_fit}
use Rattle.table_record.specs.Layout.{raw_table, with_count}
use Rattle.state_bytes.specs.Flat.{counts_in}
use Rattle.relation_compare.specs.Pairs.{pair_code}
use Rattle.derive_sub_sup.specs.Bytes.{Writes}
use Rattle.derive_entry.specs.Result.{Derivation, derivation_of}
pub use Rattle.text_write.specs.Written.{number_of, value_of}

-- 16 and the comparison, as in the pair table (B24)
abbrev pub comparison_code : Comparison → ℕ
comparison_code a = 16 + pair_code a

-- What Compare comes to: the number of the refusal, or the code of the comparison
abbrev pub compared_code : Res Comparison → ℕ
compared_code (refuse n) = n
compared_code (ok a) = comparison_code a

-- the number and the value together, for a result with one value
abbrev pub handed_out : {A : Type 0} → A → Res A → ℕ × A
handed_out old a = (number_of a, value_of old a)

-- a derivation's result, each part by itself: number, the type's number, the counts as they are now, and the types' bytes
abbrev pub derivation_left : ℕ → ℕ → List ℕ → List ℕ → Derivation
derivation_left n number counts types = record { refusal = n; number = number; count = (counts_in counts).types; types = types }

-- what a caller lends to a derivation, all of it: the types' bytes, the counts, and where the type's number goes
pub record Lent : Type 0 where
  pub types : List ℕ
  pub counts : List ℕ
  pub number : ℕ

abbrev pub lent : List ℕ → List ℕ → ℕ → Lent
lent types counts number = record { types = types; counts = counts; number = number }

-- What a derivation leaves of it (old and new), n being returned, where `a` is the definition's result: the table and the type's number; a refusal changes nothing;
-- every byte below the old count stays and the records of the new types stand behind them (B22); of the counts only that of the types changes; and codes that
-- named something still do, whatever the links are.
pub record DerivedIs (l : List ℕ) (a : Res (Table × ℕ)) (n : ℕ) (old new : Lent) : Type 0 where
  pub is : derivation_of l (counts_in old.counts) (derivation_left n new.number new.counts new.types) ≡ a
  pub refused : (n ≡ 0 → ⊥) → new ≡ old
  pub writes : Writes (counts_in old.counts).types old.types new.types a
  pub counted : counts_in new.counts ≡ with_count (counts_in old.counts) (counts_in new.counts).types
  pub codes : n ≡ 0 → (k : List ℕ) → So (codes_fit (raw_table old.types k (counts_in old.counts))) → So (codes_fit (raw_table new.types k (counts_in new.counts)))
