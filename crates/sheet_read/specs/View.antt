-- What the reader's results say, in the words of crate `spec_sheet`: the code's records as the model's, and the lines of a sheet in the groups in which the code reads them.
use Rattle.std.specs.Prelude.{List, [], ℕ, get_or}
use Rattle.spec_model.specs.Basics.{from}
use Rattle.spec_model.specs.Table.{Table, max_subjects, max_methods, max_categories, max_sheet_types}
use Rattle.spec_model.specs.Check.{RawLinks, no_raw_links, links_of}
use Rattle.spec_sheet.specs.Lines.{bytes, Reader, pure, line, bind, times}
use Rattle.spec_sheet.specs.Text.{newest_form}
use Rattle.spec_sheet.specs.Sheet.{number_line, under_line, one_type}
use Rattle.sheet_read.specs.declared.Front.{Front}
pub use Rattle.sheet_read.specs.Result.{sheet_for, sheet_of, read_into_of, table_of}

-- The broader categories of categories 1 to n.
unfoldable pub links_to : ℕ → List RawLinks → List (List ℕ)
links_to n ls = from n 1 (λ k. links_of (get_or ls k no_raw_links))

-- the `under=` line of a category
abbrev pub each_under : ℕ → ℕ → Reader (List ℕ)
each_under cats k = line (under_line cats k)

-- The lines of `body` (S22) in groups: the first four, the `under=` lines, the number of types, and the rest.
abbrev pub first₁ : ℕ → Reader Front
first₁ g = bind (line (number_line (bytes "subjects=") 1 max_subjects)) λ s. bind (line (number_line (bytes "methods=") 1 max_methods)) λ m. bind
    (line (number_line (bytes "cats=") 0 max_categories)) λ cats.
    pure (record { subjects = s; methods = m; cats = cats })

unfoldable pub first : Reader Front
unfolding number_line
first = bind (line (number_line (bytes "guide=") 1 newest_form)) first₁

unfoldable pub after_count : Front → List (List ℕ) → ℕ → Reader Table
unfolding times one_type
after_count h links n = bind (times (one_type h.methods h.cats n) n 0 []) λ ts.
    pure (record { subjects = h.subjects; methods = h.methods; cats = links; sheet = n; types = ts })

unfoldable pub after_cats : Front → List (List ℕ) → Reader Table
unfolding number_line after_count
after_cats h links = bind (line (number_line (bytes "types=") 1 max_sheet_types)) (after_count h links)

unfoldable pub after_first : Front → Reader Table
unfolding times under_line after_cats
after_first h = bind (times (each_under h.cats) h.cats 1 []) (after_cats h)
