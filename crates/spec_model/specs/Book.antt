-- Rules L1 to L14: the book, a second account of a run beside the state. All that it is told are requests, and for each whether it was taken. With the state it has in common
-- no more than relations and derivation, and how the table and the numbers of a request are read; whether a type is own it looks up by itself: one slip in unwrapping would have to be made twice.
use Rattle.std.specs.Prelude.{true, false, List, [], ◌∷◌, ◌++◌, map, reverse, ℕ, suc, ℤ, get_or}
use Rattle.std.proofs.Math.Option.{Option, none, some}
use Rattle.spec_model.specs.Basics.{named}
use Rattle.spec_model.specs.Table.{sub, closed, Table, max_types, type_at, method_at, argument_at, answer_at, is_ref}
use Rattle.spec_model.specs.Relations.{subtype, conforms, related}
use Rattle.spec_model.specs.Restriction.{derive}
use Rattle.spec_model.specs.Requests.{Request, new, move, call, answer}

-- A page is the book's entry for one cell. Its trail has the types that the reference crossed since the object was made or last unwrapped, beside it the types of the adapters that came
-- of them (L3). The latest entry of a list comes first.
pub record Page : Type 0 where
  pub class : ℕ
  pub closed : List ℕ
  pub trail : List ℕ

-- what the book keeps of a call (L12)
pub record Note : Type 0 where
  pub page : ℕ
  pub method : ℕ

-- A page's number, and a note's, is where it stands (L2).
pub record Book : Type 0 where
  pub table : Table
  pub pages : List Page
  pub calls : List Note

abbrev pub opened : Table → Book
opened t = record { table = t; pages = []; calls = [] }

abbrev pub last_or : List ℕ → ℕ → ℕ
last_or [] c = c
last_or (x ∷ xs) c = x

-- what S and V are for a page: the latest entry of its list, and the class before there is one (L4)
abbrev pub last_type : Page → ℕ
last_type g = last_or g.trail g.class

abbrev pub last_closed : Page → ℕ
last_closed g = last_or g.closed g.class

abbrev pub empty_page : ℕ → Page
empty_page c = record { class = c; closed = []; trail = [] }

-- the end of every crossing of a page (L8)
abbrev pub joins : ℕ → Page → Page
joins to g = record { class = g.class; closed = g.closed; trail = to ∷ g.trail }

abbrev pub add_closed : ℕ → Page → Page
add_closed c g = record { class = g.class; closed = c ∷ g.closed; trail = g.trail }

-- L7. The request was taken, so a derivation never fails here.
unfoldable pub page_adapt : Table → Page → ℕ → ℕ → Table × Page
unfolding related derive
page_adapt t g to r = elim (related conforms t r (last_closed g)) [
  | true ↦ (t, joins to g)
  | false ↦ elim (derive max_types t closed r (last_closed g)) [ none ↦ (t, g) | some x ↦ (x.0, joins to (add_closed x.1 g)) ]
]

-- L5 and L6: the crossing of X, without its tests. After unwrapping the page is as good as new.
unfoldable pub page_cross : Table → Page → ℕ → Table × Page
unfolding related derive page_adapt
page_cross t g to = elim (type_at t to).own [
  | true ↦ page_adapt t (empty_page g.class) to to
  | false ↦ elim (related subtype t to (last_type g)) [
    | true ↦ (t, joins to g)
    | false ↦ elim (derive max_types t sub to (last_type g)) [ none ↦ (t, g) | some x ↦ page_adapt x.0 g to x.1 ]
  ]
]

-- a page crosses to each type in turn
unfoldable pub page_cross_all : Table → Page → List (Option ℕ) → Table × Page
unfolding page_cross
page_cross_all t g [] = (t, g)
page_cross_all t g (none ∷ ts) = (t, g)
page_cross_all t g (some to ∷ ts) = let x = page_cross t g to in page_cross_all x.0 x.1 ts

abbrev pub page_at : Book → ℕ → Page
page_at b k = get_or b.pages k (empty_page 0)

-- L14
abbrev pub add_page : Book → Table × Page → Book
add_page b x = record { table = x.0; pages = b.pages ++ (x.1 ∷ []); calls = b.calls }

-- what a value meets on its way, by the page: as the layers of a call (L11)
abbrev pub page_layers : Page → List ℕ
page_layers g = last_type g ∷ (g.closed ++ (g.class ∷ []))

-- page k, copied, crosses to the types
unfoldable pub copy_page : Book → ℕ → List (Option ℕ) → Book
unfolding page_cross_all
copy_page b k ts = add_page b (page_cross_all b.table (page_at b k) ts)

-- L11: argument i and those after it; a number leaves no page
unfoldable pub copy_arguments : Book → List ℕ → ℕ → ℕ → List ℕ → List ℤ → Book
unfolding copy_page
copy_arguments b ls m i [] vs = b
copy_arguments b ls m i (a ∷ xs) [] = b
copy_arguments b ls m i (a ∷ xs) (v ∷ vs) = elim (is_ref (type_at b.table a).rep) [
  | true ↦ copy_arguments (copy_page b (named v) (map (argument_at b.table m i) ls)) ls m (suc i) xs vs
  | false ↦ copy_arguments b ls m (suc i) xs vs
]

abbrev pub add_note : Book → Note → Book
add_note b n = record { table = b.table; pages = b.pages; calls = b.calls ++ (n ∷ []) }

-- L13: the same way outward
unfoldable pub copy_answer : Book → Note → Option ℕ → Option ℤ → Book
unfolding copy_page
copy_answer b n none v = b
copy_answer b n (some a) none = b
copy_answer b n (some a) (some v) = elim (is_ref (type_at b.table a).rep) [
  | true ↦ copy_page b (named v) (reverse (map (answer_at b.table n.method) (page_layers (page_at b n.page))))
  | false ↦ b
]

abbrev pub note_at : Book → ℕ → Note
note_at b j = get_or b.calls j (record { page = 0; method = 0 })

-- An accepted request goes into the book (L9 to L13).
unfoldable pub enter : Book → Request → Book
unfolding page_cross copy_page copy_arguments copy_answer
-- L9
enter b (new subject class to) = add_page b (page_cross b.table (empty_page (named class)) (named to))
-- L10
enter b (move subject k receiver to) = copy_page b (named k) (some (named to) ∷ [])
enter b (call subject k m vs) = let g = page_at b (named k) in
    add_note (copy_arguments b (page_layers g) (named m) 0 (method_at b.table (last_type g) (named m)).args vs) (record { page = named k; method = named m })
enter b (answer subject j v) = let n = note_at b (named j) in copy_answer b n (answer_at b.table n.method (last_type (page_at b n.page))) v
