-- The definition by its refusals, in their order, and what a checked table gives to the derivation.
use mathlib.Core.Path.{◌≡◌, refl, sym, ap, ◌∙◌, subst}
use mathlib.Core.Bool.{Bool, true, false, ◌&&◌, cond}
use mathlib.Core.List.{List}
use Prim.Native.Nat.{ℕ, ◌≤◌, ◌<◌}
use lib.Dec.{eqb}
use lib.IntN.{ℤ}
use Rattle.spec_model.specs.Basics.{Res, refuse, ok, need, names, named}
use Rattle.spec_model.specs.Table.{Kind, Table, size}
use Rattle.spec_model.specs.Restriction.{derived}
use Rattle.spec_model.specs.Check.{kind_of, table_accepted}
use Rattle.spec_model.proofs.Rules.{never}
use Rattle.spec_model.specs.Refusals.{out_of_range, unknown_type}
use Rattle.table_record.specs.declared.Counts.{Counts}
use Rattle.table_record.specs.Store.{raw_table, table_in, ref_in}
use Rattle.table_record.proofs.Tables.{size_is, ref-table}
use Rattle.base_numbers.specs.Index.{index_of}
use Rattle.base_numbers.proofs.Laws.{index-unknown, index-known}
use Rattle.spec_model.specs.Records.{kind_code}
use Rattle.derive_type.proofs.Laws.{code-back}
use Rattle.derive_entry.specs.Handed.{kind_asked, is_ref_type, derive_named, derive_handed}
use Rattle.derive_entry.specs.Result.{Derivation, refused_with, DerivesHanded}

-- The answer is the model's by another name.
pub derives-as : {b l : List ℕ} {c : Counts} {a a' : Res (Table × ℕ)} {r : Derivation} → DerivesHanded b l c a r → a ≡ a' → DerivesHanded b l c a' r
derives-as {b} {l} {c} {r = r} h e = subst (λ a. DerivesHanded b l c a r) e h

-- A refusal.
pub refused-derives : (b l : List ℕ) (c : Counts) {n : ℕ} → eqb n 0 ≡ false → {a : Res (Table × ℕ)} → refuse n ≡ a → DerivesHanded b l c a (refused_with n b c)
refused-derives b l c {n} h w = derives-as {r = refused_with n b c} (record {
  is = ap (λ (z : Bool). cond z (ok (table_in b l c, 0)) (refuse n)) h;
  refused = λ _. refl;
  writes = refl;
  codes = λ z. never (sym (ap (λ (k : ℕ). eqb k 0) (sym z) ∙ h));
}) w

-- By the numbers of the types: x and y are the indices of the numbers handed in.
module _ (b l : List ℕ) (c : Counts) (kind : ℕ) (t s : ℤ) where
  abbrev T : Table
  T = table_in b l c

  abbrev Answer : Bool → Bool → Bool → Res (Table × ℕ) → Res (Table × ℕ)
  Answer left right asked d = need (left && right) unknown_type λ _. need asked unknown_type λ _. d

  named-is : derive_named T kind t s ≡ Answer (names t (size T)) (names s (size T)) (kind_asked kind (is_ref_type T (named t) && is_ref_type T (named s))) (derived T (kind_of kind) (named t) (named s))
  unfolding derive_named
  named-is = refl

  module _ (x : ℕ) (ex : x ≡ index_of t c.types) where
    pub no-left : c.types ≤ x → refuse unknown_type ≡ derive_named T kind t s
    no-left h = let u : names t (size T) ≡ false = rw (size_is b l c) (index-unknown t c.types x ex h) in sym (named-is ∙ rw u)

    module _ (p : x < c.types) (y : ℕ) (ey : y ≡ index_of s c.types) where
      left-known : (names t (size T) ≡ true) × (named t ≡ x)
      left-known = let k = index-known t c.types x ex p in (rw (size_is b l c) k.0, k.1)

      pub no-right : c.types ≤ y → refuse unknown_type ≡ derive_named T kind t s
      no-right h = let u : names s (size T) ≡ false = rw (size_is b l c) (index-unknown s c.types y ey h) in sym (named-is ∙ rw (left-known.0, u))

      module _ (q : y < c.types) where
        right-known : (names s (size T) ≡ true) × (named s ≡ y)
        right-known = let k = index-known s c.types y ey q in (rw (size_is b l c) k.0, k.1)

        known : {asked : Bool} → kind_asked kind (ref_in c.types b x && ref_in c.types b y) ≡ asked → derive_named T kind t s ≡ Answer true true asked (derived T (kind_of kind) x y)
        known e = named-is ∙ rw (left-known.0, right-known.0, left-known.1, right-known.1, ref-table b l c x, ref-table b l c y, e)

        pub no_kind : kind_asked kind (ref_in c.types b x && ref_in c.types b y) ≡ false → refuse unknown_type ≡ derive_named T kind t s
        no_kind h = sym (known h)

        pub named-derived : (k : Kind) → kind_code k ≡ kind → kind_asked kind (ref_in c.types b x && ref_in c.types b y) ≡ true → derived T k x y ≡ derive_named T kind t s
        named-derived k e h = ap (λ (d : Kind). derived T d x y) (sym (code-back k) ∙ ap kind_of e) ∙ sym (known h)

  -- On a table handed in.
  pub handed-unfit : table_accepted (raw_table b l c) ≡ false → refuse out_of_range ≡ derive_handed (raw_table b l c) kind t s
  unfolding derive_handed
  handed-unfit e = rw e

  pub handed-fit : table_accepted (raw_table b l c) ≡ true → derive_named T kind t s ≡ derive_handed (raw_table b l c) kind t s
  unfolding derive_handed table_in
  handed-fit e = rw e
