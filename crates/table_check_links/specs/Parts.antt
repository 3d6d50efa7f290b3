-- Counts and broader links of a table that is handed in, as this crate tests them. What they are to the model is proved in crate `table_check`, so nothing here
-- has to be believed.
use Rattle.std.specs.Prelude.{Bool, true, ◌&&◌, List, ℕ, zero, suc, leb, get_or}
use Rattle.spec_model.specs.Table.{max_subjects, max_methods, max_categories, max_sheet_types, max_types, max_broader, between, links_fit}
use Rattle.spec_model.specs.Check.{RawLinks, no_raw_links, links_of}
use Rattle.table_record.specs.declared.Counts.{Counts}

-- a test holds of i, i + 1, ..: c numbers
unfoldable pub each_from : ℕ → ℕ → (ℕ → Bool) → Bool
each_from zero i f = true
each_from (suc c) i f = f i && each_from c (suc i) f

-- every count within its limits (H1)
abbrev pub counts_accepted : Counts → Bool
counts_accepted c = between 1 max_subjects c.subjects && (between 1 max_methods c.methods && (leb c.cats max_categories
    && (between 1 max_sheet_types c.sheet && (leb c.sheet c.types && leb c.types max_types))))

-- T6: category k names one or two categories below it
abbrev pub link_accepted : ℕ → RawLinks → Bool
link_accepted k x = between 1 max_broader x.count && links_fit k (links_of x)

unfoldable pub links_accepted : ℕ → List RawLinks → Bool
unfolding each_from
links_accepted n ls = each_from n 1 (λ k. link_accepted k (get_or ls k no_raw_links))
