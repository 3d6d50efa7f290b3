-- The plans give the records of the tables of the list, in its order; and the code's records are those of the plans.
use mathlib.Core.Path.{◌≡◌, refl, sym, ap, ◌∙◌}
use mathlib.Core.Bool.{Bool, true, ◌&&◌, So}
use mathlib.Core.List.{List, map}
use Prim.Native.Nat.{ℕ, ◌<◌, ◌≤◌}
use lib.Dec.{ltb}
use lib.ListN.{get_or}
use borrow.Author.Tests.{ltb-true, lt-ltb, le-ltb}
use Rattle.spec_model.specs.Basics.{from}
use Rattle.spec_model.specs.Table.{Table, type_at}
use Rattle.spec_model.specs.Records.{type_record}
use Rattle.spec_model.specs.Check.{RawType, no_raw_type}
use Rattle.spec_model.proofs.Rules.{first, second}
use Rattle.spec_model.proofs.Lists.{from_first}
use Rattle.spec_tiny.specs.Tiny.{tiny_tables, tiny_count}
use Rattle.spec_tiny.specs.Numbered.{tiny_at}
use Rattle.spec_tiny.proofs.Count.{mapped_at, methods-at}
use Rattle.tiny_record.specs.declared.Plan.{Plan}
use Rattle.tiny_record.specs.Plan.{plan_of, plan_raw, tiny_counts}

-- ---- Number by number
abbrev record_of : Table → RawType
record_of t = type_record (type_at t 0)

all-planned : map record_of tiny_tables ≡ from tiny_count 0 (λ i. plan_raw (plan_of i))
unfolding from plan_of tiny_tables
all-planned = refl

pub plan-is : (i : ℕ) → i < tiny_count → plan_raw (plan_of i) ≡ type_record (type_at (tiny_at i) 0)
plan-is i l = sym (mapped_at record_of _ no_raw_type all-planned i l ∙ from_first (λ k. plan_raw (plan_of k)) tiny_count i no_raw_type l)

abbrev small : Plan → Bool
small p = ltb p.first 10 && ltb p.second 10

all_small : from tiny_count 0 (λ i. small (plan_of i)) ≡ from tiny_count 0 (λ i. true)
unfolding from plan_of
all_small = refl

pub plan-small : (p : Plan) (i : ℕ) → p ≡ plan_of i → i < tiny_count → (p.first < 10) × (p.second < 10)
plan-small p i e l =
    let h : So (small p) = ap small e ∙ sym (from_first (λ k. small (plan_of k)) tiny_count i true l) ∙ ap (λ (xs : List Bool). get_or xs i true) all_small ∙ from_first (λ k. true) tiny_count i true l in
    (ltb-true p.first 10 (first (ltb p.first 10) _ h), ltb-true p.second 10 (second (ltb p.first 10) _ h))

-- ---- The counts
pub counts-one : (i : ℕ) → i < tiny_count → i < 14 → tiny_counts 1 ≡ tiny_counts (tiny_at i).methods
counts-one i l a = rw (methods-at i l, lt-ltb i 14 a)

pub counts-two : (i : ℕ) → i < tiny_count → 14 ≤ i → tiny_counts 2 ≡ tiny_counts (tiny_at i).methods
counts-two i l a = rw (methods-at i l, le-ltb i 14 a)
