-- What Compare answers (R8 to R14), written out and computed from the definitions.
use mathlib.Core.Path.{◌≡◌, refl}
use mathlib.Core.Bool.{Bool, true, false}
use mathlib.Core.List.{[], ◌∷◌, map}
use Prim.Native.Nat.{ℕ}
use lib.IntN.{ℤ, pos, negsuc}
use Rattle.spec_model.specs.Basics.{Res, refuse, ok}
use Rattle.spec_model.specs.Table.{w32, w64, denied, optional, avail, unavail, Table, valid_sheet, bare}
use Rattle.spec_model.specs.Relations.{Comparison, compare}
use Rattle.spec_model.proofs.CasesWords.{type_in, owned, number_in, sheet_in}

-- Categories 1 and 3 have none broader, 2 names 1. Types 0 to 3 differ in category alone, 4 and 5 are numbers, 6 to 8 have category 0 and another state, 9 is 0 with own.
abbrev kinds : Table
kinds = sheet_in ((0 ∷ []) ∷ (1 ∷ []) ∷ (0 ∷ []) ∷ []) 1 1 (
    type_in 0 (bare avail ∷ [])
    ∷ type_in 1 (bare avail ∷ [])
    ∷ type_in 2 (bare avail ∷ [])
    ∷ type_in 3 (bare avail ∷ [])
    ∷ number_in w32 1
    ∷ number_in w64 2
    ∷ type_in 0 (bare optional ∷ [])
    ∷ type_in 0 (bare unavail ∷ [])
    ∷ type_in 0 (bare denied ∷ [])
    ∷ owned (bare avail ∷ [])
    ∷ [])

pub kinds-valid : valid_sheet kinds ≡ true
unfolding valid_sheet
kinds-valid = refl

abbrev says : Bool → Bool → Bool → Bool → Res Comparison
says a b c d = ok (record { subtype = a; strict = b; loose = c; free = d })

abbrev asked : ℤ × ℤ → Res Comparison
asked p = compare kinds p.0 p.1

abbrev pair : ℕ → ℕ → ℤ × ℤ
pair t s = (pos t, pos s)

pub compared : map asked (
    -- categories: the broader one may be T's, in subtype and strict; none is broader than every other
    pair 1 2 ∷ pair 2 1 ∷ pair 1 3 ∷ pair 0 2 ∷ pair 2 0
    -- numbers of different widths, and a number with a reference
    ∷ pair 4 5 ∷ pair 5 4 ∷ pair 4 1
    -- states: optional below avail and unavail, denied below each; avail for no other
    ∷ pair 6 0 ∷ pair 0 6 ∷ pair 6 7 ∷ pair 7 6 ∷ pair 0 7 ∷ pair 8 7 ∷ pair 7 8
    -- own: T only if S
    ∷ pair 9 0 ∷ pair 0 9
    -- numbers that name no type
    ∷ pair 10 0 ∷ pair 0 10 ∷ (negsuc 0, pos 0) ∷ []) ≡
    says true true true true ∷ says false false true true ∷ says false false true true ∷ says true true true true ∷ says false false true true
    ∷ says false true true true ∷ says false false true true ∷ says false false false false
    ∷ says true true true true ∷ says false false true true ∷ says true true true true ∷ says false true true true ∷ says false false false true ∷ says true true true true
    ∷ says false true true true
    ∷ says false true true true ∷ says true true true true
    ∷ refuse 7 ∷ refuse 7 ∷ refuse 7 ∷ []
unfolding compare
compared = refl
