-- What a derivation that is refused hands out, from its contract.
use mathlib.Core.Path.{◌≡◌, refl, sym, ap, ◌∙◌}
use mathlib.Core.Bool.{Bool, cond}
use mathlib.Core.List.{List}
use Prim.Native.Nat.{ℕ, ◌<◌}
use native.Mathlib.Omega.{arith}
use borrow.Author.Tests.{ne_eqb}
use Rattle.spec_model.specs.Basics.{Res, refuse, ok}
use Rattle.spec_model.specs.Table.{Table}
use Rattle.base_numbers.specs.Refusal.{number_of}
use Rattle.base_numbers.specs.declared.refusal.Refusal.{Refusal}
use Rattle.base_numbers.specs.declared.refusal.Refusal.TheVariants as no
use Rattle.table_record.specs.Layout.{table_in, with_count}
use Rattle.state_bytes.specs.Flat.{counts_in}
use Rattle.derive_entry.specs.Result.{Derivation, refused_with, DerivesHanded}
use Rattle.export_table.specs.Codes.{DerivedIs, lent}

-- no refusal has the number 0
number-some : (e : Refusal) → 0 < number_of e
number-some no.Form = omega arith
number-some no.OutOfRange = omega arith
number-some no.NotBelow = omega arith
number-some no.ShortBuffer = omega arith
number-some no.UnknownSubject = omega arith
number-some no.NotHeld = omega arith
number-some no.UnknownType = omega arith
number-some no.Unrelated = omega arith
number-some no.NotOwner = omega arith
number-some no.NotStrict = omega arith
number-some no.TypesFull = omega arith
number-some no.PlacesFull = omega arith
number-some no.CellsFull = omega arith
number-some no.NotCallable = omega arith
number-some no.WrongValues = omega arith
number-some no.TooWide = omega arith
number-some no.AnsweredAlready = omega arith
number-some no.CallsFull = omega arith
number-some no.LaterLayer = omega arith
number-some no.UnfitTimes = omega arith

module _ (b b' l counts : List ℕ) (number : ℕ) (e : Refusal) {a : Res (Table × ℕ)} (h : DerivesHanded b l (counts_in counts) a (refused_with (number_of e) b' (counts_in counts))) where
  some : number_of e ≡ 0 → ⊥
  some z = let p = number-some e in omega arith

  same : b' ≡ b
  same = ap (λ (r : Derivation). r.types) (h.refused some)

  refusal-is : refuse (number_of e) ≡ a
  refusal-is = sym (ap (λ (z : Bool). cond z (ok (table_in b' l (with_count (counts_in counts) (counts_in counts).types), 0)) (refuse (number_of e))) (ne_eqb (number_of e) 0 some)) ∙ h.is

  pub refused-out : DerivedIs l a (number_of e) (lent b counts number) (lent b' counts number)
  refused-out = record {
    is = ap (λ (z : Bool). cond z (ok (table_in b' l (with_count (counts_in counts) (counts_in counts).types), number)) (refuse (number_of e))) (ne_eqb (number_of e) 0 some) ∙ refusal-is;
    refused = λ _. ap (λ (x : List ℕ). lent x counts number) same;
    writes = h.writes;
    counted = refl;
    codes = λ z. absurd (some z);
  }
