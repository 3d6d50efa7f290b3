-- What a store does to the table that the bytes mean, for whoever stores types, and what the table's parts are, for whoever reads them.
use mathlib.Core.Path.{◌≡◌, refl, ap, sym, subst, ◌∙◌}
use mathlib.Core.Bool.{Bool, true, false, ◌&&◌}
use mathlib.Core.Logic.{⊎_elim}
use mathlib.Core.List.{List, [], ◌∷◌, ◌++◌}
use Prim.Native.Nat.{ℕ, suc, ◌≤◌, ◌<◌}
use native.Mathlib.Nat.{zero-add}
use native.Mathlib.Omega.{arith}
use lib.Dec.{ltb}
use lib.ListN.{length, get_or, set, length-set}
use lib.Seq.{ext_get_or, get_or-set_same, get_or-set_other}
use borrow.Author.Tests.{lt-ltb, le-ltb, ltb-true, ltb-false}
use Rattle.spec_model.specs.Basics.{from}
use Rattle.spec_model.specs.Table.{Ty, no_type, size, type_at, is_ref}
use Rattle.spec_model.specs.Check.{RawType, no_raw_type, no_raw_links, links_of, type_of, table_of}
use Rattle.spec_model.proofs.Largest.{get_or-from-out}
use Rattle.spec_model.proofs.Rules.{first}
use Rattle.table_record.specs.declared.Counts.{Counts}
use Rattle.table_record.specs.Store.{types_in, links_in, table_in, types_to, ref_as, ref_in}
use Rattle.table_record.proofs.Lists.{same_or, length_from, from_first, from_last, from-same}

-- The first n records as types.
module _ (ms sh : ℕ) (rs : List RawType) where
  pub types-to-length : (n : ℕ) → length (types_to ms sh n rs) ≡ n
  unfolding types_to
  types-to-length n = length_from (λ i. type_of ms sh i (get_or rs i no_raw_type)) n 0

  pub types-to-at : (n i : ℕ) (d : Ty) → i < n → get_or (types_to ms sh n rs) i d ≡ type_of ms sh i (get_or rs i no_raw_type)
  unfolding types_to
  types-to-at n i d l = from_first (λ i. type_of ms sh i (get_or rs i no_raw_type)) n i d l

  -- records past the count are open
  pub types_same : (n : ℕ) (us : List RawType) → ((i : ℕ) → i < n → get_or us i no_raw_type ≡ get_or rs i no_raw_type) → types_to ms sh n us ≡ types_to ms sh n rs
  unfolding types_to
  types_same n us h = from-same (λ i. type_of ms sh i (get_or us i no_raw_type)) (λ i. type_of ms sh i (get_or rs i no_raw_type)) n 0 (λ j p q. ap (type_of ms sh j) (h j (omega arith)))

  -- a type stored at the count joins the table
  pub types-add : (n : ℕ) (t : RawType) → n < length rs → types_to ms sh (suc n) (set rs n t) ≡ types_to ms sh n rs ++ (type_of ms sh n t ∷ [])
  unfolding types_to
  types-add n t l =
      from_last (λ i. type_of ms sh i (get_or (set rs n t) i no_raw_type)) n 0
      ∙ rw (types_same n (set rs n t) (λ i p. get_or-set_other rs n i t no_raw_type (λ e. let d : i ≡ n = e in omega arith)), zero-add n, get_or-set_same rs n t no_raw_type l)

  -- one stored below the count takes its place
  pub types-put : (n i : ℕ) (t : RawType) → i < n → n ≤ length rs → types_to ms sh n (set rs i t) ≡ set (types_to ms sh n rs) i (type_of ms sh i t)
  unfolding types_to
  types-put n i t p q =
      let f : ℕ → Ty = λ k. type_of ms sh k (get_or (set rs i t) k no_raw_type) in
      let g : ℕ → Ty = λ k. type_of ms sh k (get_or rs k no_raw_type) in
      let x : Ty = type_of ms sh i t in
      ext_get_or no_type (from n 0 f) (set (from n 0 g) i x) (length_from f n 0 ∙ sym (length_from g n 0) ∙ sym (length-set (from n 0 g) i x))
      (λ k l. let l' : k < n = subst (λ (z : ℕ). k < z) (length_from f n 0) l in
      let lg : i < length (from n 0 g) = subst (λ (z : ℕ). i < z) (sym (length_from g n 0)) p in
      ⊎_elim
      (λ (e : k ≡ i). from_first f n k no_type l' ∙ ap f e ∙ ap (type_of ms sh i) (get_or-set_same rs i t no_raw_type (omega arith))
      ∙ sym (ap (λ (z : ℕ). get_or (set (from n 0 g) i x) z no_type) e ∙ get_or-set_same (from n 0 g) i x no_type lg))
      (λ (e : k ≡ i → ⊥). from_first f n k no_type l' ∙ ap (type_of ms sh k) (get_or-set_other rs i k t no_raw_type e)
      ∙ sym (get_or-set_other (from n 0 g) i k x no_type e ∙ from_first g n k no_type l'))
      (same_or k i))

-- Reference types of the first n.
module _ (n t : ℕ) (b : List ℕ) where
  pub no_ref : n ≤ t → ltb t n ≡ ref_in n b t
  no_ref h = rw (le-ltb t n h)

  pub ref-among : (r : Bool) → t < n → r ≡ ref_as (get_or (types_in b) t no_raw_type) → r ≡ ref_in n b t
  ref-among r l e = e ∙ sym (ap (λ (a : Bool). a && ref_as (get_or (types_in b) t no_raw_type)) (lt-ltb t n l))

  pub ref-below : ref_in n b t ≡ true → t < n
  ref-below e = ltb-true t n (first (ltb t n) _ e)

  pub ref-type : (ms sh : ℕ) → is_ref (get_or (types_to ms sh n (types_in b)) t no_type).rep ≡ ref_in n b t
  unfolding types_to
  ref-type ms sh = go (ltb t n) refl
    where
      go : (a : Bool) → ltb t n ≡ a → is_ref (get_or (types_to ms sh n (types_in b)) t no_type).rep ≡ (a && ref_as (get_or (types_in b) t no_raw_type))
      go true e = ap (λ (x : Ty). is_ref x.rep) (types-to-at ms sh (types_in b) n t no_type (ltb-true t n e))
      go false e = ap (λ (x : Ty). is_ref x.rep) (get_or-from-out (λ i. type_of ms sh i (get_or (types_in b) i no_raw_type)) no_type n 0 t (ltb-false t n e))

-- The parts of the table that the bytes mean.
module _ (b l : List ℕ) (c : Counts) where
  pub types_of : (table_in b l c).types ≡ types_to c.methods c.sheet c.types (types_in b)
  unfolding table_in table_of types_to
  types_of = refl

  pub size_is : size (table_in b l c) ≡ c.types
  unfolding table_in table_of
  size_is = length_from (λ i. type_of c.methods c.sheet i (get_or (types_in b) i no_raw_type)) c.types 0

  pub type-is : (i : ℕ) → i < c.types → type_at (table_in b l c) i ≡ type_of c.methods c.sheet i (get_or (types_in b) i no_raw_type)
  unfolding table_in table_of
  type-is i h = from_first (λ i. type_of c.methods c.sheet i (get_or (types_in b) i no_raw_type)) c.types i no_type h

  pub type-out : (i : ℕ) → c.types ≤ i → type_at (table_in b l c) i ≡ no_type
  unfolding table_in table_of
  type-out i h = get_or-from-out (λ i. type_of c.methods c.sheet i (get_or (types_in b) i no_raw_type)) no_type c.types 0 i h

  pub ref-table : (t : ℕ) → is_ref (type_at (table_in b l c) t).rep ≡ ref_in c.types b t
  unfolding table_in table_of types_to
  ref-table t = ref-type c.types t b c.methods c.sheet

  pub cats-length : length (table_in b l c).cats ≡ c.cats
  unfolding table_in table_of
  cats-length = length_from (λ k. links_of (get_or (links_in l) k no_raw_links)) c.cats 1
