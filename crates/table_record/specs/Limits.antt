-- Counts within the limits of a table, as every function needs them that takes counts after the check of 2; and links that fall.
use Rattle.std.specs.Prelude.{List, ℕ, ◌≤◌, ◌<◌}
use Rattle.spec_model.specs.Basics.{AllBelow}
use Rattle.spec_model.specs.Table.{max_subjects, max_methods, max_categories, max_sheet_types, max_types}
use Rattle.table_record.specs.declared.Counts.{Counts}
use Rattle.table_record.specs.Store.{broader_of}

pub record Limits (c : Counts) : Type 0 where
  pub subjects : c.subjects ≤ max_subjects
  pub methods : c.methods ≤ max_methods
  pub cats : c.cats ≤ max_categories
  pub sheet : c.sheet ≤ max_sheet_types
  pub counted : c.sheet ≤ c.types
  pub types : c.types ≤ max_types

-- every category, from 1 on, names only categories below it
abbrev pub Descends : List ℕ → Counts → Type 0
Descends l c = (k : ℕ) → 0 < k → k ≤ c.cats → AllBelow k (broader_of l k)

-- What the relations ask of a table: nothing of its types, since a number in a signature that names no type makes a pair unrelated, in the model as in the code.
pub record Checked (l : List ℕ) (c : Counts) : Type 0 where
  pub limits : Limits c
  pub descends : Descends l c
