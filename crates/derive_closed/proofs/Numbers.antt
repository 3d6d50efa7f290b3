-- Closed(R,V) of two number types: known, full, or a new number type.
use mathlib.Core.Path.{◌≡◌, refl, sym, ap, ◌∙◌, subst}
use mathlib.Core.Logic.{⊎_elim}
use mathlib.Core.Bool.{Bool, So, true, false, ◌&&◌, ◌||◌, cond}
use mathlib.Core.List.{List, [], ◌∷◌, ◌++◌, map}
use mathlib.Core.Option.{none, some}
use mathlib.Core.Option.{Option as Optionᵐ}
use Rattle.std.specs.Prelude.{None, Some}
use Prim.Native.Nat.{ℕ, zero, suc, ◌+◌, ◌≤◌, ◌<◌}
use native.Mathlib.Omega.{arith}
use native.Mathlib.Numerals.{add-one}
use lib.Dec.{ltb}
use lib.ListN.{length, get_or, set, replicate}
use lib.Seq.{get_or-set_same}
use borrow.Author.Tests.{lt-ltb, le-ltb}
use Rattle.spec_model.specs.Basics.{from}
use Rattle.spec_model.specs.Table.{closed, Ty, Method, Table, no_type, type_at, with_types, is_ref, max_methods, max_types}
use Rattle.spec_model.specs.Restriction.{find, without_new, entry, pending, Derivation, derive_methods, derive}
use Rattle.spec_model.specs.Check.{RawType, no_raw_type, no_raw_method, rep_of, type_of, method_of, raw_type_fits}
use Rattle.spec_model.proofs.Rules.{never}
use Rattle.table_record.specs.declared.Counts.{Counts}
use Rattle.table_record.specs.declared.Head.{Head}
use Rattle.table_record.specs.Store.{raw_method, types_in, types_to, head_of, ref_in, empty_method, blank_method, empty_type, Put, TypeExact}
use Rattle.table_record.proofs.Lists.{lt-or-ge}
use Rattle.table_record.proofs.Laws.{types-length, put-length, put-types}
use Rattle.table_record.proofs.Tables.{types-to-at, types-add}
use Rattle.table_record.proofs.Codes.{number-rep}
use Rattle.law_table.proofs.Exact.{derived-key, number-exact}
use Rattle.derive_record.specs.Begins.{tabled}
use Rattle.derive_sub_sup.specs.Link.{Ready, Gives, Kept, Coded, Exact, ExactAt}
use Rattle.derive_closed.specs.Numbers.{Alike, NumberIn, NumberType}
use Rattle.derive_record.proofs.Begins.{found-known, found-full, closed-begins}
use Rattle.derive_sub_sup.proofs.Bytes.{record_same, put-below, put-exact}
use Rattle.derive_sub_sup.proofs.Ends.{size-tabled, Last, Methods, make-new, settled}

-- the methods of an empty type
blanks : (j : ℕ) → j < max_methods → get_or (map raw_method empty_type.methods) j no_raw_method ≡ blank_method
blanks j l = go max_methods j l where
  go : (n j : ℕ) → j < n → get_or (map raw_method (replicate n empty_method)) j no_raw_method ≡ blank_method
  go zero j l = absurd (omega arith)
  go (suc n) zero l = refl
  go (suc n) (suc j) l = go n j (omega arith)

-- the last of a list is set
set_last : {A : Type 0} (xs : List A) (x y : A) → set (xs ++ (x ∷ [])) (length xs) y ≡ xs ++ (y ∷ [])
set_last [] x y = refl
set_last (z ∷ xs) x y = ap (λ l. z ∷ l) (set_last xs x y)

-- two references, or two numbers
pub alike-ref : (n : ℕ) (b : List ℕ) (r v : ℕ) → Alike n b r v → ref_in n b r ≡ true → ref_in n b v ≡ true
alike-ref n b r v h e =
    ap (λ (z : Bool). z && is_ref (rep_of (get_or (types_in b) v no_raw_type).rep)) (lt-ltb v n h.right) ∙ sym h.same
    ∙ sym (ap (λ (z : Bool). z && is_ref (rep_of (get_or (types_in b) r no_raw_type).rep)) (lt-ltb r n h.left)) ∙ e

pub alike-number : (n : ℕ) (b : List ℕ) (r v : ℕ) → Alike n b r v → ref_in n b r ≡ false → NumberIn n b r × NumberIn n b v
alike-number n b r v h e =
    let z : is_ref (rep_of (get_or (types_in b) r no_raw_type).rep) ≡ false = sym (ap (λ (a : Bool). a && is_ref (rep_of (get_or (types_in b) r no_raw_type).rep)) (lt-ltb r n h.left)) ∙ e in
    (record { below = h.left; number = z }, record { below = h.right; number = sym h.same ∙ z })

module _ {c : Counts} {r v : ℕ} {b : List ℕ} (asked : Ready c c.types r v b) where
  abbrev n : ℕ
  n = c.types

  abbrev Found : Table → Optionᵐ ℕ
  Found T = find closed r v 0 (types_to c.methods c.sheet n (types_in b))

  pub numbers-known : {i : ℕ} → some i ≡ find closed r v 0 (types_to c.methods c.sheet n (types_in b)) → i < n → Gives closed c n r v b b (Some (i, n))
  numbers-known {i} is h = settled closed asked {g = Some (Some (i, n))} refl (closed-begins c n r v b (Some (Some (i, n))) (found-known Found n r v b i (λ T. is) h))

  pub numbers-full : none ≡ find closed r v 0 (types_to c.methods c.sheet n (types_in b)) → max_types ≤ n → Gives closed c n r v b b None
  numbers-full is l = settled closed asked {g = Some None} refl (closed-begins c n r v b (Some None) (found-full Found n r v b (λ T. is) l))

  -- A new one: x is its record, h the head of R.
  module _ (is : none ≡ find closed r v 0 (types_to c.methods c.sheet n (types_in b))) (room : n < max_types) (left : NumberIn n b r) (right : NumberIn n b v) (h : Head) (read : h ≡ head_of (get_or (types_in b) r no_raw_type)) (x : RawType)
      (number : NumberType h r v x) (b' : List ℕ) (put : Put b n x b') where
    abbrev ms : ℕ
    ms = c.methods

    abbrev sh : ℕ
    sh = c.sheet

    is_number : h.rep ≡ 0 → ⊥
    is_number e = let z : is_ref (rep_of 0) ≡ false = ap (λ (k : ℕ). is_ref (rep_of k)) (sym e ∙ ap (λ (y : Head). y.rep) read) ∙ left.number in never (sym z)

    new-number : is_ref (rep_of x.rep) ≡ false
    new-number = number-rep x.rep (λ e. let z = number.rep.some in omega arith)

    placed : types_in b' ≡ set (types_in b) n x
    placed = put-types put asked.long room

    kept : Kept n b b'
    kept j l = put-below put asked.long room j (omega arith) l

    stored : get_or (types_in b') n no_raw_type ≡ x
    stored = ap (λ (rs : List RawType). get_or rs n no_raw_type) placed ∙ get_or-set_same (types_in b) n x no_raw_type (let z = types-length b in omega arith)

    x-exact : TypeExact ms sh n x
    x-exact = let e = number.is in
        number-exact ms sh n x (ap (λ (y : RawType). length y.methods) e) (derived-key sh n x asked.limits.counted (let k : x.kind ≡ 2 = ap (λ (y : RawType). y.kind) e in omega arith))
        (λ z. let w = number.rep.some in omega arith) number.rep.code (ap (λ (y : RawType). y.own) e) (λ j l. ap (λ (y : RawType). get_or y.methods j no_raw_method) e ∙ blanks j l)

    x-coded : So (raw_type_fits ms sh n x)
    x-coded = rw (lt-ltb x.rep 3 number.rep.code, new-number, ap (λ (y : RawType). y.kind) number.is) (go (ltb n sh)) where
      go : (z : Bool) → So (z || true)
      go true = refl
      go false = refl

    coded : Coded c n b → Coded c (n + 1) b'
    coded q j l = ⊎_elim
        (λ (p : j < n). subst (λ (y : RawType). So (raw_type_fits ms sh j y)) (sym (record_same b b' j (omega arith) (kept j p))) (q j p))
        (λ (p : n ≤ j). let e : j ≡ n = omega arith in subst (λ (k : ℕ). So (raw_type_fits ms sh k (get_or (types_in b') k no_raw_type))) (sym e)
        (subst (λ (y : RawType). So (raw_type_fits ms sh n y)) (sym stored) x-coded))
        (lt-or-ge j n)

    exact : Exact c n (n + 1) b'
    exact j p q = let e : j ≡ n = omega arith in subst (ExactAt c b') (sym e) (put-exact put asked.long room c x-exact)

    module _ (T : Table) where
      abbrev Tb : Table
      Tb = tabled T c n b

      number_at : (k : ℕ) → NumberIn n b k → type_at Tb k ≡ type_of ms sh k (get_or (types_in b) k no_raw_type)
      number_at k w = types-to-at ms sh (types_in b) n k no_type w.below

      no-methods : (k : ℕ) → NumberIn n b k → (type_at Tb k).methods ≡ []
      no-methods k w = ap (λ (y : Ty). y.methods) (number_at k w)
          ∙ ap (λ (z : Bool). cond z (from ms 0 (λ j. method_of (get_or (get_or (types_in b) k no_raw_type).methods j no_raw_method))) []) w.number

      entry-is : type_of ms sh n x ≡ entry Tb closed r v []
      entry-is =
          ap (type_of ms sh n) number.is
          ∙ rw (
            new-number,
            le-ltb n sh asked.limits.counted,
            number.rep.is is_number,
            ap (λ (y : Head). y.cat) read,
            ap (λ (y : Head). y.rep) read,
            ap (λ (y : Ty). y.rep)
                (number_at r left),
            ap (λ (y : Ty). y.cat) (number_at r left),
          )

      unknown : without_new Tb closed r v ≡ none
      unfolding without_new
      unknown = sym is

      methods-none : (rec : Derivation) → Methods Tb closed r v rec ≡ some (with_types Tb (Tb.types ++ (pending Tb closed r v ∷ [])), [])
      unfolding derive_methods
      methods-none rec = ap (λ (l : List Method). derive_methods rec closed (with_types Tb (Tb.types ++ (pending Tb closed r v ∷ []))) l (type_at Tb v).methods) (no-methods r left)

      types : types_to ms sh (n + 1) (types_in b') ≡ set (Tb.types ++ (pending Tb closed r v ∷ [])) n (entry Tb closed r v [])
      types =
          ap (λ (k : ℕ). types_to ms sh k (types_in b')) (add-one n) ∙ ap (types_to ms sh (suc n)) placed ∙ types-add ms sh (types_in b) n x (let z = types-length b in omega arith)
          ∙ ap (λ (y : Ty). Tb.types ++ (y ∷ [])) entry-is ∙ sym (set_last Tb.types (pending Tb closed r v) (entry Tb closed r v []))
          ∙ ap (λ (k : ℕ). set (Tb.types ++ (pending Tb closed r v ∷ [])) k (entry Tb closed r v [])) (size-tabled T c n b)

      derives : (f : ℕ) → max_types ≤ n + f → some (tabled T c (n + 1) b', n) ≡ derive f Tb closed r v
      unfolding derive
      derives zero l = absurd (omega arith)
      derives (suc f) l =
          ap (λ (ts : List Ty). some (with_types T ts, n)) types
          ∙ sym (make-new Tb closed r v n unknown (size-tabled T c n b) room (derive f) ∙ ap (Last Tb closed r v n) (methods-none (derive f)))

    pub numbers-new : Gives closed c n r v b b' (Some (n, n + 1))
    numbers-new = record {
      keeps = record { long = put-length put ∙ asked.long; kept = kept; sized = (omega arith, omega arith, λ z p q w. omega arith) };
      is = λ T et f l. derives T f l;
      exact = exact;
      coded = coded;
    }
