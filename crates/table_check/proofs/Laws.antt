-- The parts of the check come to the model's `table_accepted`.
use mathlib.Core.Path.{◌≡◌, refl, ap, sym, ◌∙◌}
use mathlib.Core.Bool.{Bool, true, false, ◌&&◌, ◌||◌, cond, and_assoc, and_comm, and-true}
use mathlib.Core.List.{List, []}
use mathlib.Core.Option.{Option, none, some}
use Prim.Native.Nat.{ℕ, ◌≤◌, ◌<◌}
use native.Mathlib.Nat.{min-le_left}
use native.Mathlib.Omega.{arith}
use lib.Dec.{eqb, ltb, leb}
use lib.ListN.{length, get_or, take, length-take}
use borrow.Author.Tests.{ltb-true, ltb-false, leb-true, le-leb, eq-eqb}
use Rattle.spec_model.specs.Basics.{◌⇒◌, all, every, from, unless_missing}
use Rattle.spec_model.specs.Table.{may_stand, max_subjects, max_methods, max_categories, max_sheet_types, max_types, max_arguments, Rep, ref, w32, w64, Key, Method, Ty, Table, size, is_ref, permit}
use Rattle.spec_model.specs.Table.{between, counts_fit}
use Rattle.spec_model.specs.Table.{links_fit, stands_in, is_nil, is_none, signature_fits, method_count, key_fits, type_fits, table_fits}
use Rattle.spec_model.specs.Check.{RawMethod, RawType, RawLinks, no_raw_type, no_raw_method, no_raw_links, state_of, answer_of, kind_of, method_of, type_of, links_of, table_of, raw_method_fits, raw_type_fits}
use Rattle.spec_model.specs.Check.{codes_fit, table_accepted}
use Rattle.spec_model.proofs.Rules.{first, second}
use Rattle.spec_model.proofs.Lists.{all_same}
use Rattle.table_record.specs.declared.Counts.{Counts}
use Rattle.table_record.specs.Store.{types_in, links_in, raw_table, table_in, head_of}
use Rattle.table_record.specs.Limits.{Limits}
use Rattle.table_record.proofs.Lists.{length_from}
use Rattle.table_record.proofs.Tables.{size_is, type-is, cats-length}
use Rattle.table_check_links.specs.Parts.{each_from, counts_accepted, links_accepted}
use Rattle.table_check.specs.Parts.{stands_as, method_accepted, key_accepted, bound_of, methods_accepted, type_accepted, types_accepted}
use Rattle.table_check_links.proofs.Each.{left_comm, interchange, under-and, all-each, every-each, each_and, each_same}

-- Counts that pass are within the limits.
pub counts-limits : (c : Counts) → counts_accepted c ≡ true → Limits c
counts-limits c e =
    let e₁ = second (between 1 max_subjects c.subjects) _ e in
    let e₂ = second (between 1 max_methods c.methods) _ e₁ in
    let e₃ = second (leb c.cats max_categories) _ e₂ in
    let e₄ = second (between 1 max_sheet_types c.sheet) _ e₃ in
    record {
      subjects = upper max_subjects c.subjects (first (between 1 max_subjects c.subjects) _ e);
      methods = upper max_methods c.methods (first (between 1 max_methods c.methods) _ e₁);
      cats = leb-true c.cats max_categories (first (leb c.cats max_categories) _ e₂);
      sheet = upper max_sheet_types c.sheet (first (between 1 max_sheet_types c.sheet) _ e₃);
      counted = leb-true c.sheet c.types (first (leb c.sheet c.types) _ e₄);
      types = leb-true c.types max_types (second (leb c.sheet c.types) _ e₄);
    }
  where
    upper : (m n : ℕ) → between 1 m n ≡ true → n ≤ m
    upper m n h = leb-true n m (second (leb 1 n) _ h)

-- A method: the test of its codes and that of its signature. A test F of the table, and what the records say of it.
module _ (F G : ℕ → Bool) (same : (a : ℕ) → F a ≡ G a) where
  missing-same : (a : Option ℕ) → unless_missing a F ≡ unless_missing a G
  missing-same none = refl
  missing-same (some a) = same a

  -- b: the code names a state; p: it permits, and then xs' and a' are the signature read; q: the count is in its limits, and then so is the number of arguments read
  method-parts : (b p q : Bool) (k : ℕ) (xs xs' : List ℕ) (a a' : Option ℕ) → (p ≡ true → (xs' ≡ xs) × (a' ≡ a)) → (p ≡ false → (xs' ≡ []) × (a' ≡ none))
      → (q ≡ true → leb (length xs) k ≡ true)
      → ((b && (p ⇒ q)) && elim p [ true ↦ leb (length xs') k && (all F xs' && unless_missing a' F) | false ↦ is_nil xs' && is_none a' ]) ≡
      (b && (p ⇒ (q && (all G xs && unless_missing a G))))
  method-parts b false q k xs xs' a a' on off h = rw ((off refl).0, (off refl).1) (and-true (b && true))
  method-parts b true q k xs xs' a a' on off h =
      rw ((on refl).0, (on refl).1)
      (and_assoc b q (leb (length xs) k && (all F xs && unless_missing a F))
      ∙ ap (λ (x : Bool). b && x) (under-and q (leb (length xs) k && (all F xs && unless_missing a F)) (all G xs && unless_missing a G) (λ e. rw (h e, all_same F G same xs, missing-same a))))

take-fits : (n k : ℕ) (xs : List ℕ) → leb n k ≡ true → leb (length (take n xs)) k ≡ true
take-fits n k xs e = let h : n ≤ k = leb-true n k e in let m : length (take n xs) ≤ n = rw (length-take n xs) (min-le_left n (length xs)) in le-leb (length (take n xs)) k (omega arith)

-- A type: what its codes and the model's test ask, put in the order of the code.
type-parts : (a k₁ c c' ow cn ss k₂ r o m s k ma : Bool) → c' ≡ c → ow ≡ true → cn ≡ true → ss ≡ (r ⇒ s) → (k₁ && k₂) ≡ k → (m && s) ≡ ma
    → ((a && ((r ⇒ (o && m)) && k₁)) && (c' && (ow && (cn && (ss && k₂))))) ≡ ((a && (c && k)) && (r ⇒ (o && ma)))
type-parts a k₁ c c' ow cn ss k₂ r o m s k ma e₀ e₁ e₂ e₃ e₄ e₅ = rw (e₀, e₁, e₂, e₃, ← e₄, ← e₅) (go r)
  where
    go : (r : Bool) → ((a && ((r ⇒ (o && m)) && k₁)) && (c && ((r ⇒ s) && k₂))) ≡ ((a && (c && (k₁ && k₂))) && (r ⇒ (o && (m && s))))
    go true =
        interchange a ((o && m) && k₁) c (s && k₂)
        ∙ ap (λ (x : Bool). (a && c) && x) (interchange (o && m) k₁ s k₂ ∙ and_comm ((o && m) && s) (k₁ && k₂) ∙ ap (λ (x : Bool). (k₁ && k₂) && x) (and_assoc o m s))
        ∙ sym (and_assoc (a && c) (k₁ && k₂) (o && (m && s))) ∙ ap (λ (x : Bool). x && (o && (m && s))) (and_assoc a c (k₁ && k₂))
    go false = interchange a k₁ c k₂ ∙ and_assoc a c (k₁ && k₂) ∙ sym (and-true (a && (c && (k₁ && k₂))))

own-fits : (r : Rep) (o : Bool) → ((is_ref r && o) ⇒ is_ref r) ≡ true
own-fits ref true = refl
own-fits ref false = refl
own-fits w32 o = refl
own-fits w64 o = refl

-- the methods ms' of a type: ms for a reference type, none for a number type
module _ (r : Rep) (ms ms' : List Method) (on : is_ref r ≡ true → ms' ≡ ms) (off : is_ref r ≡ false → ms' ≡ []) where
  count-fits : (n : ℕ) → length ms ≡ n → eqb (length ms') (method_count r n) ≡ true
  count-fits n e = go r on off
    where
      go : (r : Rep) → (is_ref r ≡ true → ms' ≡ ms) → (is_ref r ≡ false → ms' ≡ []) → eqb (length ms') (method_count r n) ≡ true
      go ref on off = rw (on refl) (eq-eqb (length ms) n e)
      go w32 on off = rw (off refl)
      go w64 on off = rw (off refl)

  only-ref : (f : Method → Bool) → all f ms' ≡ (is_ref r ⇒ all f ms)
  only-ref f = go (is_ref r) on off
    where
      go : (t : Bool) → (t ≡ true → ms' ≡ ms) → (t ≡ false → ms' ≡ []) → all f ms' ≡ (t ⇒ all f ms)
      go true on off = rw (on refl)
      go false on off = rw (off refl)

module _ (b l : List ℕ) (c : Counts) where
  abbrev rs : List RawType
  rs = types_in b

  pub counts-are : counts_fit (table_in b l c) ≡ counts_accepted c
  unfolding table_in table_of
  counts-are = rw (cats-length b l c, size_is b l c)

  links-are : (all (λ x. between 1 2 x.count) (from c.cats 1 (λ k. get_or (links_in l) k no_raw_links)) && every links_fit 1 (table_in b l c).cats) ≡ links_accepted c.cats (links_in l)
  unfolding table_in table_of links_accepted
  links-are =
      let g : ℕ → RawLinks = λ k. get_or (links_in l) k no_raw_links in
      let h : ℕ → List ℕ = λ k. links_of (get_or (links_in l) k no_raw_links) in
      let p : RawLinks → Bool = λ x. between 1 2 x.count in
      ap (λ (x : Bool). x && every links_fit 1 (from c.cats 1 h)) (all-each g p c.cats 1)
      ∙ ap (λ (x : Bool). each_from c.cats 1 (λ k. p (g k)) && x) (every-each h links_fit c.cats 1)
      ∙ each_and (λ k. p (g k)) (λ k. links_fit k (h k)) c.cats 1

  key-is : (i : ℕ) (x : RawType) → ((ltb i c.sheet || ltb x.kind 3) && key_fits (table_in b l c) i (type_of c.methods c.sheet i x).key) ≡ key_accepted c i (head_of x)
  unfolding table_in table_of
  key-is i x = go (ltb i c.sheet) (type_of c.methods c.sheet i x).key refl (λ e. rw e) (λ e. rw e)
    where
      at : Key
      at = record { kind = kind_of x.kind; left = x.left; right = x.right }

      go : (s : Bool) (k : Option Key) → ltb i c.sheet ≡ s → (s ≡ true → k ≡ none) → (s ≡ false → k ≡ some at)
          → ((s || ltb x.kind 3) && key_fits (table_in b l c) i k) ≡ (s || (ltb x.kind 3 && (ltb x.left c.types && ltb x.right c.types)))
      go true k e on off = rw (on refl) e
      go false k e on off = rw (off refl, size_is b l c, le-leb c.sheet i (ltb-false i c.sheet e))

  module _ (below : c.sheet ≤ c.types) where
    bound-below : (i : ℕ) → bound_of c i ≤ c.types
    bound-below i = go (ltb i c.sheet)
      where
        go : (s : Bool) → cond s c.sheet c.types ≤ c.types
        go true = below
        go false = omega arith

    stands_same : (n : ℕ) → n ≤ c.types → (a : ℕ) → stands_in (table_in b l c) n a ≡ stands_as rs n a
    stands_same n h a = under-and (ltb a n) _ _ (λ e. let lt : a < n = ltb-true a n e in ap may_stand (type-is b l c a (omega arith)))

    method-is : (n : ℕ) → n ≤ c.types → (m : RawMethod) → (raw_method_fits m && signature_fits (table_in b l c) n (method_of m)) ≡ method_accepted rs n m
    method-is n h m =
        method-parts (stands_in (table_in b l c) n) (stands_as rs n) (stands_same n h) (ltb m.state 4) (permit (state_of m.state)) (leb m.count max_arguments) max_arguments
        (take m.count m.args) (method_of m).args (answer_of m.answer) (method_of m).answer
        (λ e. (rw e, rw e)) (λ e. (rw e, rw e)) (take-fits m.count max_arguments m.args)

    methods-are : (n : ℕ) → n ≤ c.types → (x : RawType)
        → (all raw_method_fits (from c.methods 0 (λ j. get_or x.methods j no_raw_method)) && all (signature_fits (table_in b l c) n)
        (from c.methods 0 (λ j. method_of (get_or x.methods j no_raw_method)))) ≡ methods_accepted rs n c.methods x
    unfolding methods_accepted
    methods-are n h x =
        let g : ℕ → RawMethod = λ j. get_or x.methods j no_raw_method in
        let s : Method → Bool = signature_fits (table_in b l c) n in
        ap (λ (z : Bool). z && all s (from c.methods 0 (λ j. method_of (g j)))) (all-each g raw_method_fits c.methods 0)
        ∙ ap (λ (z : Bool). each_from c.methods 0 (λ j. raw_method_fits (g j)) && z) (all-each (λ j. method_of (g j)) s c.methods 0)
        ∙ each_and (λ j. raw_method_fits (g j)) (λ j. s (method_of (g j))) c.methods 0
        ∙ each_same (λ j. raw_method_fits (g j) && s (method_of (g j))) (λ j. method_accepted rs n (g j)) (λ j. method-is n h (g j)) c.methods 0

    type-accepted : (i : ℕ) (x : RawType) → (raw_type_fits c.methods c.sheet i x && type_fits (table_in b l c) i (type_of c.methods c.sheet i x)) ≡ type_accepted rs c i x
    unfolding table_in table_of
    type-accepted i x =
        let t : Table = table_in b l c in
        let y : Ty = type_of c.methods c.sheet i x in
        let ms : List Method = from c.methods 0 (λ j. method_of (get_or x.methods j no_raw_method)) in
        let on : is_ref y.rep ≡ true → y.methods ≡ ms = λ e. rw e in
        let off : is_ref y.rep ≡ false → y.methods ≡ [] = λ e. rw e in
        let n : cond (ltb i c.sheet) c.sheet (size t) ≡ bound_of c i = ap (λ (z : ℕ). cond (ltb i c.sheet) c.sheet z) (size_is b l c) in
        type-parts (ltb x.rep 3) (ltb i c.sheet || ltb x.kind 3) (leb x.cat c.cats) _ _ _ _ (key_fits t i y.key) (is_ref y.rep) (ltb x.own 2) _
        (all (signature_fits t (bound_of c i)) ms) _ _
        (ap (leb x.cat) (cats-length b l c)) (own-fits y.rep (eqb x.own 1))
        (count-fits y.rep ms y.methods on off c.methods (length_from (λ j. method_of (get_or x.methods j no_raw_method)) c.methods 0))
        (only-ref y.rep ms y.methods on off (signature_fits t (cond (ltb i c.sheet) c.sheet (size t))) ∙ ap (λ (z : ℕ). is_ref y.rep ⇒ all (signature_fits t z) ms) n)
        (key-is i x) (methods-are (bound_of c i) (bound-below i) x)

    types_are : (every (raw_type_fits c.methods c.sheet) 0 (from c.types 0 (λ i. get_or rs i no_raw_type)) && every (type_fits (table_in b l c)) 0 (table_in b l c).types) ≡ types_accepted rs c
    unfolding table_in table_of types_accepted
    types_are =
        let g : ℕ → RawType = λ i. get_or rs i no_raw_type in
        let h : ℕ → Ty = λ i. type_of c.methods c.sheet i (get_or rs i no_raw_type) in
        let p : ℕ → RawType → Bool = raw_type_fits c.methods c.sheet in
        let q : ℕ → Ty → Bool = type_fits (table_in b l c) in
        ap (λ (z : Bool). z && every q 0 (from c.types 0 h)) (every-each g p c.types 0)
        ∙ ap (λ (z : Bool). each_from c.types 0 (λ i. p i (g i)) && z) (every-each h q c.types 0)
        ∙ each_and (λ i. p i (g i)) (λ i. q i (h i)) c.types 0
        ∙ each_same (λ i. p i (g i) && q i (h i)) (λ i. type_accepted rs c i (g i)) (λ i. type-accepted i (g i)) c.types 0

  pub accepted-is : table_accepted (raw_table b l c) ≡ (counts_accepted c && (links_accepted c.cats (links_in l) && types_accepted rs c))
  unfolding table_accepted codes_fit table_fits table_in
  accepted-is =
      let t : Table = table_in b l c in
      let cl : Bool = all (λ (x : RawLinks). between 1 2 x.count) (from c.cats 1 (λ k. get_or (links_in l) k no_raw_links)) in
      let ct : Bool = every (raw_type_fits c.methods c.sheet) 0 (from c.types 0 (λ i. get_or rs i no_raw_type)) in
      let tl : Bool = every links_fit 1 t.cats in
      let tt' : Bool = every (type_fits t) 0 t.types in
      left_comm (cl && ct) (counts_fit t) (tl && tt')
      ∙ ap (λ (z : Bool). z && ((cl && ct) && (tl && tt'))) counts-are
      ∙ under-and (counts_accepted c) _ _ (λ e. interchange cl ct tl tt' ∙ ap (λ (z : Bool). z && (ct && tt')) links-are ∙ ap
      (λ (z : Bool). links_accepted c.cats (links_in l) && z) (types_are (counts-limits c e).counted))
