-- The rule of a pair of types, by its parts in the bytes: the two heads, and every method of two reference types.
use mathlib.Core.Path.{◌≡◌, ap, sym, ◌∙◌}
use mathlib.Core.Bool.{Bool, true, false, ◌&&◌, So}
use mathlib.Core.List.{List}
use Prim.Native.Nat.{ℕ, ◌<◌}
use native.Mathlib.Omega.{arith}
use native.Mathlib.Decide.{dec_lt}
use lib.ListN.{get_or}
use Rattle.spec_model.specs.Basics.{from}
use Rattle.spec_model.specs.Table.{Method, no_method, is_ref}
use Rattle.spec_model.specs.Relations.{Relation, outer_rule, method_rule, every_method, rule}
use Rattle.spec_model.specs.Check.{RawType, no_raw_type, rep_of, type_of}
use Rattle.spec_model.proofs.Largest.{get_or-from-out}
use Rattle.spec_model.proofs.Rules.{first, all-test, all-says, denied-fits}
use Rattle.table_record.specs.declared.Counts.{Counts}
use Rattle.table_record.specs.declared.Head.{Head}
use Rattle.table_record.specs.Store.{types_in, head_of, table_in, method_in}
use Rattle.table_record.proofs.Lists.{from_first}
use Rattle.table_record.proofs.Tables.{type-is}
use Rattle.table_record.proofs.Codes.{number-rep, ref-rep}
use Rattle.std.specs.Prelude.{Option}
use Rattle.relation_found.specs.Found.{found, Listed, Grew, Broke, Met}
use Rattle.relation_rule.specs.Parts.{outer_heads}
use Rattle.relation_found.proofs.Pairs.{clash, stay, met-as}
use Rattle.relation_search.specs.Search.{each_below}
use Rattle.relation_search.proofs.Methods.{each-says, each-test}
use Rattle.relation_rule.proofs.Outside.{heads-rule, outer-sort}

-- every method of two lists that are as long
module _ (f : Method → Method → Bool) (z : So (f no_method no_method)) (n : ℕ) (x y : ℕ → Method) where
  all-each : So (each_below n (λ j. f (x j) (y j))) → So (every_method f (from n 0 x) (from n 0 y))
  all-each w = all-test f (from n 0 x) (from n 0 y) (λ m. go m (dec_lt m n))
    where
      go : (m : ℕ) → Dec (m < n) → So (f (get_or (from n 0 x) m no_method) (get_or (from n 0 y) m no_method))
      go m (yes l) = rw (from_first x n m no_method l, from_first y n m no_method l) (each-says n (λ j. f (x j) (y j)) w m l)
      go m (no l) = rw (get_or-from-out x no_method n 0 m (omega arith), get_or-from-out y no_method n 0 m (omega arith)) z

  each_all : So (every_method f (from n 0 x) (from n 0 y)) → So (each_below n (λ j. f (x j) (y j)))
  each_all w = each-test n (λ j. f (x j) (y j)) (λ j l. rw (from_first x n j no_method l, from_first y n j no_method l) at (all-says f z (from n 0 x) (from n 0 y) w j))

-- The pair (a, d) of types in the table, whose heads are x and y; `fine` is what the rule says of the heads.
module _ (b l : List ℕ) (c : Counts) (k : Relation) (a d : ℕ) (p : a < c.types) (q : d < c.types) (x y : Head)
    (ex : x ≡ head_of (get_or (types_in b) a no_raw_type)) (ey : y ≡ head_of (get_or (types_in b) d no_raw_type)) (fine : Bool) (ef : fine ≡ outer_heads k (table_in b l c) x y) where
  abbrev A : RawType
  A = get_or (types_in b) a no_raw_type

  abbrev D : RawType
  D = get_or (types_in b) d no_raw_type

  abbrev W : (ℕ → ℕ → Bool) → Bool
  W M = rule k (table_in b l c) M a d

  abbrev Methods : (ℕ → ℕ → Bool) → Bool
  Methods M = each_below c.methods (λ j. method_rule k M (method_in b a j) (method_in b d j))

  rule-is : (M : ℕ → ℕ → Bool) → W M ≡ (outer_rule k (table_in b l c) (type_of c.methods c.sheet a A) (type_of c.methods c.sheet d D)
      && every_method (method_rule k M) (type_of c.methods c.sheet a A).methods (type_of c.methods c.sheet d D).methods)
  unfolding rule
  rule-is M = rw (type-is b l c a p, type-is b l c d q)

  outer-is : fine ≡ outer_rule k (table_in b l c) (type_of c.methods c.sheet a A) (type_of c.methods c.sheet d D)
  outer-is = ef ∙ rw (ex, ey) (sym (heads-rule k (table_in b l c) c.methods c.sheet a d A D))

  -- the heads break it
  pub types-broke : (n : ℕ) → fine ≡ false → Broke n W
  types-broke n e = record {
    none = λ M i w. clash (first (outer_rule k (table_in b l c) (type_of c.methods c.sheet a A) (type_of c.methods c.sheet d D)) _ (rw (rule-is M) at w))
        (sym outer-is ∙ e);
  }

  module _ (e : fine ≡ true) (n : ℕ) (marks : List Bool) (queue : List ℕ) (t : ℕ) where
    sorts : is_ref (rep_of A.rep) ≡ is_ref (rep_of D.rep)
    sorts = outer-sort k (table_in b l c) (type_of c.methods c.sheet a A) (type_of c.methods c.sheet d D) (sym outer-is ∙ e)

    -- two numbers have no methods
    pub types-numbers : (x.rep ≡ 0 → ⊥) → Listed n marks queue t → Grew n W marks queue t marks queue t
    unfolding every_method
    types-numbers z h =
        let f : is_ref (rep_of A.rep) ≡ false = number-rep A.rep (λ o. z (ap (λ (v : Head). v.rep) ex ∙ o)) in
        let g : is_ref (rep_of D.rep) ≡ false = sym sorts ∙ f in
        stay n W marks queue t h (rw (rule-is (found n marks), sym outer-is ∙ e, f, g))

    -- two references have their methods
    pub types-methods : (marks' : List Bool) (queue' : List ℕ) (r : Option ℕ) → x.rep ≡ 0 → Met n Methods marks queue t marks' queue' r → Met n W marks queue t marks' queue' r
    types-methods marks' queue' r z m = met-as n Methods W marks queue t marks' queue' r
        (λ M w. rw (all M) (all-each (method_rule k M) (denied-fits k M) c.methods (method_in b a) (method_in b d) w))
        (λ M w. each_all (method_rule k M) (denied-fits k M) c.methods (method_in b a) (method_in b d) (rw (all M) at w)) m
      where
        all : (M : ℕ → ℕ → Bool) → W M ≡ every_method (method_rule k M) (from c.methods 0 (method_in b a)) (from c.methods 0 (method_in b d))
        all M =
            let f : is_ref (rep_of A.rep) ≡ true = ref-rep A.rep (sym (ap (λ (v : Head). v.rep) ex) ∙ z) in
            let g : is_ref (rep_of D.rep) ≡ true = sym sorts ∙ f in
            rw (rule-is M, sym outer-is ∙ e, f, g)
