-- A valid sheet table is good, so that demand 3 holds of every sheet.
use mathlib.Core.Path.{◌≡◌, ap, sym, ◌∙◌}
use mathlib.Core.Bool.{So}
use mathlib.Core.Option.{Option, none, some, none-ne-some}
use Prim.Native.Nat.{ℕ, ◌≤◌, ◌<◌}
use native.Mathlib.Omega.{arith}
use native.Mathlib.Decide.{dec_lt}
use lib.Dec.{leb}
use Rattle.spec_model.specs.Table.{Key, Table, size, type_at, key_fits, table_fits, valid_sheet}
use Rattle.spec_model.specs.Claim.{Demand3}
use Rattle.spec_model.proofs.Tests.{eqb-so, leb-so}
use Rattle.spec_model.proofs.Rules.{first, second}
use Rattle.law_model.proofs.Good.{Good, out}
use Rattle.law_model.proofs.Demand3.{good-claim}
use Rattle.law_model.proofs.Fitting.{TableFitting, table-fitting, fitting-counts, fitting-sigs, fitting-unowned, fitting-short, fitting-cat_in}

pub sheet-fitting : (t : Table) → So (valid_sheet t) → TableFitting t × (t.sheet ≡ size t)
unfolding valid_sheet
sheet-fitting t h = (table-fitting t (first (table_fits t) _ h), eqb-so (second (table_fits t) _ h))

-- a sheet type has no key
sheet-key : (t : Table) (i : ℕ) (o : Option Key) (k : Key) → i < t.sheet → So (key_fits t i o) → o ≡ some k → ⊥
sheet-key t i none k l h e = none-ne-some k e
sheet-key t i (some o) k l h e = let p : t.sheet ≤ i = leb-so (first (leb t.sheet i) _ h) in omega arith

pub sheet-good : (t : Table) → So (valid_sheet t) → Good t
sheet-good t h =
    let f = (sheet-fitting t h).0 in let e = (sheet-fitting t h).1 in
    record {
      cats = f.cats;
      sigs = fitting-sigs t f;
      counts = fitting-counts t f;
      unowned = fitting-unowned t f;
      short = fitting-short t f;
      cat_in = fitting-cat_in t f;
      room = f.room;
      complete = λ i k q. absurd (go f e i k (dec_lt i (size t)) q);
      keyed = λ i a b. absurd (omega (arith, e));
    }
  where
    go : TableFitting t → t.sheet ≡ size t → (i : ℕ) (k : Key) → Dec (i < size t) → (type_at t i).key ≡ some k → ⊥
    go f e i k (yes l) q = sheet-key t i (type_at t i).key k (omega arith) (f.types i l).key q
    go f e i k (no l) q = none-ne-some k (sym (ap (λ y. y.key) (out t i (omega arith))) ∙ q)

-- Demand 3, entire: for every valid sheet table and every list of requests.
pub demand3 : Demand3
demand3 t h qs = good-claim t (sheet-good t h) (sheet-fitting t h).0.sheet qs
