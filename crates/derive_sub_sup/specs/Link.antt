-- What the code's results and its bytes mean, in the words of the model.
use Rattle.std.specs.Prelude.{◌≡◌, List, ℕ, ◌+◌, ◌*◌, ◌≤◌, ◌<◌, None, Some, length, get_or, take, drop}
use Rattle.std.proofs.Math.Bool.{So}
use Rattle.std.proofs.Math.Option.{Option, none, some}
use Rattle.spec_model.specs.Basics.{Res, refuse, ok}
use Rattle.spec_model.specs.Table.{Kind, Table, max_types}
use Rattle.spec_model.specs.Restriction.{derive, derived}
use Rattle.spec_model.specs.Check.{no_raw_type, type_of, raw_type_fits, codes_fit}
use Rattle.spec_model.specs.Refusals.{types_full}
use Rattle.table_record.specs.declared.Counts.{Counts}
use Rattle.table_record.specs.Store.{types_in, raw_table, table_in, with_count}
use Rattle.table_record.specs.Records.{bytes_of}
use Rattle.table_record.specs.Limits.{Limits}
use Rattle.table_record.specs.Layout.{type_size, types_size}
use Rattle.derive_record.specs.Begins.{Derived, Below, tabled}
pub use Rattle.derive_sub_sup.specs.Bytes.{Writes}

-- The 128 bytes of type i. Those below the count n stay as they are, also where the table is full.
abbrev pub record_at : List ℕ → ℕ → List ℕ
record_at b i = take type_size (drop (i * type_size) b)

abbrev pub Kept : ℕ → List ℕ → List ℕ → Type 0
Kept n b b' = (i : ℕ) → i < n → record_at b' i ≡ record_at b i

-- Each type from n to m is stored as the record that stands for it.
abbrev pub ExactAt : Counts → List ℕ → ℕ → Type 0
ExactAt c b i = record_at b i ≡ bytes_of (type_of c.methods c.sheet i (get_or (types_in b) i no_raw_type))

abbrev pub Exact : Counts → ℕ → ℕ → List ℕ → Type 0
Exact c n m b = (i : ℕ) → n ≤ i → i < m → ExactAt c b i

-- The public result: a full table is refused with 11; else the number, and the table with so many types.
abbrev pub derivation_in : List ℕ → List ℕ → Counts → Derived → Res (Table × ℕ)
derivation_in b l c None = refuse types_full
derivation_in b l c (Some p) = ok (table_in b l (with_count c p.1), p.0)

-- What a derivation asks: counts within their limits, n being the types so far, and numbers that a byte can hold.
pub record Ready (c : Counts) (n t s : ℕ) (b : List ℕ) : Type 0 where
  pub limits : Limits (with_count c n)
  pub left : t < 256
  pub right : s < 256
  pub long : length b ≡ types_size

-- the same up to the new count
abbrev pub ExactTo : Counts → ℕ → List ℕ → Derived → Type 0
ExactTo c n b None = Unit {0}
ExactTo c n b (Some p) = Exact c n p.1 b

-- the count grows, within its limit
abbrev pub Sized : ℕ → ℕ → ℕ → Derived → Type 0
Sized n t s None = Unit {0}
Sized n t s (Some p) = (n ≤ p.1) × (p.1 ≤ max_types) × Below t s p.1 p.0

pub record Leaves (n t s : ℕ) (b b' : List ℕ) (r : Derived) : Type 0 where
  pub long : length b' ≡ types_size
  pub kept : Kept n b b'
  pub sized : Sized n t s r

-- Every code of the first n records names something, as the check of a table handed in asks; and so it is up to the new count.
abbrev pub Coded : Counts → ℕ → List ℕ → Type 0
Coded c n b = (i : ℕ) → i < n → So (raw_type_fits c.methods c.sheet i (get_or (types_in b) i no_raw_type))

abbrev pub CodedTo : Counts → List ℕ → Derived → Type 0
CodedTo c b None = Unit {0}
CodedTo c b (Some p) = Coded c p.1 b

-- The same of the whole table: where its codes name something before, they do after, whatever its links are.
abbrev pub CodesIn : List ℕ → List ℕ → Counts → Derived → Type 0
CodesIn b l c None = Unit {0}
CodesIn b l c (Some p) = So (codes_fit (raw_table b l (with_count c p.1)))

abbrev pub CodesStay : Counts → List ℕ → List ℕ → Derived → Type 0
CodesStay c b b' r = (l : List ℕ) → So (codes_fit (raw_table b l c)) → CodesIn b' l c r

-- What the public functions promise: the result is the model's, whatever the links are; every counted byte; what else the caller goes on with; and that codes
-- go on naming something.
pub record Derives (d : Kind) (c : Counts) (t s : ℕ) (b b' : List ℕ) (r : Derived) : Type 0 where
  pub is : (l : List ℕ) → derivation_in b' l c r ≡ derived (table_in b l c) d t s
  pub writes : (l : List ℕ) → Writes c.types b b' (derived (table_in b l c) d t s)
  pub keeps : Leaves c.types t s b b' r
  pub exact : ExactTo c c.types b' r
  pub codes : CodesStay c b b' r

-- What the result and the bytes left say of the table whose types are the first n of the bytes.
abbrev pub derived_in : Table → Counts → Derived → List ℕ → Option (Table × ℕ)
derived_in t c None b = none
derived_in t c (Some p) b = some (tabled t c p.1 b, p.0)

-- The contract of the recursion: the result is the model's, whatever else there is in the table, and for every fuel of at least the free numbers.
pub record Gives (d : Kind) (c : Counts) (n t s : ℕ) (b b' : List ℕ) (r : Derived) : Type 0 where
  pub keeps : Leaves n t s b b' r
  pub is : (T : Table) → T.methods ≡ c.methods → (f : ℕ) → max_types ≤ n + f → derived_in T c r b' ≡ derive f (tabled T c n b) d t s
  pub exact : ExactTo c n b' r
  pub coded : Coded c n b → CodedTo c b' r
