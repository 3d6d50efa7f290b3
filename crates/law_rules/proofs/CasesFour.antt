-- Four arguments (T13), computed from the definitions: four references through an adapter. The class has two argument types by turns and the cell's type the same in opposite order;
-- type 4 takes an argument where they take none, so that a reference of it crosses to none of them.
use mathlib.Core.Path.{◌≡◌, refl}
use mathlib.Core.Bool.{true}
use mathlib.Core.List.{[], ◌∷◌}
use mathlib.Core.Option.{none}
use lib.IntN.{pos}
use Rattle.spec_model.specs.Table.{denied, avail, unavail, Table, valid_sheet, signed, bare}
use Rattle.spec_model.specs.Crossing.{object, adapter}
use Rattle.spec_model.specs.Requests.{got, refused, pair, loaded, run}
use Rattle.spec_model.proofs.CasesWords.{type, sheet_of, cell, new', move', call'}
use Rattle.spec_model.proofs.CasesWorked.{Works}

abbrev passing_four : Table
passing_four = sheet_of 2 3 (
    type (signed avail (1 ∷ 2 ∷ 1 ∷ 2 ∷ []) none ∷ bare avail ∷ bare avail ∷ [])
    ∷ type (bare denied ∷ bare avail ∷ bare denied ∷ [])
    ∷ type (bare unavail ∷ bare avail ∷ bare denied ∷ [])
    ∷ type (signed avail (2 ∷ 1 ∷ 2 ∷ 1 ∷ []) none ∷ bare unavail ∷ bare avail ∷ [])
    ∷ type (bare unavail ∷ signed avail (1 ∷ []) none ∷ bare unavail ∷ [])
    ∷ [])

pub four-valid : valid_sheet passing_four ≡ true
unfolding valid_sheet
four-valid = refl

-- Four references of different objects. One that cannot cross is refused with 8 at each of the four positions, and leaves nothing (C20); then all four cross, and the owner has a
-- cell for each, in order, of the class's argument types, in front of its own object (C10, C17).
pub four-worked : Works (record {
  state = loaded passing_four;
  requests =
      new' 0 0 3
      ∷ move' 0 0 1 3
      ∷ new' 1 0 0
      ∷ new' 1 0 0
      ∷ new' 1 0 0
      ∷ new' 1 0 0
      ∷ new' 1 4 4
      ∷ call' 1 1 0 (pos 6 ∷ pos 3 ∷ pos 4 ∷ pos 5 ∷ [])
      ∷ call' 1 1 0 (pos 2 ∷ pos 6 ∷ pos 4 ∷ pos 5 ∷ [])
      ∷ call' 1 1 0 (pos 2 ∷ pos 3 ∷ pos 6 ∷ pos 5 ∷ [])
      ∷ call' 1 1 0 (pos 2 ∷ pos 3 ∷ pos 4 ∷ pos 6 ∷ [])
      ∷ call' 1 1 0 (pos 2 ∷ pos 3 ∷ pos 4 ∷ pos 5 ∷ [])
      ∷ [];
  gives =
      got (pair 0 1) ∷ got (pair 1 1) ∷ got (pair 2 2) ∷ got (pair 3 3) ∷ got (pair 4 4) ∷ got (pair 5 5) ∷ got (pair 6 6)
      ∷ refused 8 ∷ refused 8 ∷ refused 8 ∷ refused 8 ∷ got (pair 0 1) ∷ [];
  cells =
      cell 0 3 1 ∷ cell 1 3 1 ∷ cell 1 0 2 ∷ cell 1 0 3 ∷ cell 1 0 4 ∷ cell 1 0 5 ∷ cell 1 4 6
      ∷ cell 0 1 7 ∷ cell 0 2 8 ∷ cell 0 1 9 ∷ cell 0 2 10 ∷ [];
  places =
      object 0 0 ∷ adapter 0 8 ∷ object 0 1 ∷ object 0 1 ∷ object 0 1 ∷ object 0 1 ∷ object 4 1
      ∷ adapter 2 12 ∷ adapter 3 14 ∷ adapter 4 12 ∷ adapter 5 14 ∷ [];
})
unfolding run
four-worked = refl
