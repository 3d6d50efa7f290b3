-- Laws of what is stored: the categories' links, and the table that the bytes mean.
use mathlib.Core.Path.{◌≡◌, refl, sym, ap, ◌∙◌}
use mathlib.Core.List.{List, [], ◌∷◌, ◌++◌, map, flatten}
use Prim.Native.Nat.{ℕ, suc, ◌+◌, ◌*◌, ◌≤◌, ◌<◌}
use native.Mathlib.Omega.{arith}
use native.Mathlib.Numerals.{add-one}
use lib.ListN.{length, get_or, set}
use lib.Seq.{sets, get_or-set_same, get_or-set_other}
use Rattle.spec_model.specs.Basics.{from}
use Rattle.spec_model.specs.Table.{Table, size, max_categories}
use Rattle.spec_model.specs.Check.{RawLinks, no_raw_links, links_of}
use Rattle.spec_model.specs.Records.{links_record}
use Rattle.table_record.specs.Store.{links_bytes, empty_links}
use Rattle.table_record.specs.Records.{padded, link_bytes_of, type_bytes, link_bytes}
use Rattle.law_table.proofs.Exact.{padded-next, padded-length}
use Rattle.law_table.proofs.Whole.{flat-length}
use Rattle.table_record.proofs.Lists.{from_last, from-same, length_from}
use Rattle.table_record.specs.Layout.{link_size, links_size}
use Rattle.spec_sheet.specs.Sheet.{loaded}
use Rattle.sheet_read_type.proofs.Stored.{flat-next}
use Rattle.sheet_read.specs.declared.Sheet.{Sheet}
use Rattle.sheet_read.specs.View.{links_to, sheet_for}

-- the links of one category more
pub links-none : (ls : List RawLinks) → links_to 0 ls ≡ []
unfolding links_to from
links-none ls = refl

pub links-add : (ls : List RawLinks) (j : ℕ) (x : RawLinks) → j + 1 < length ls → links_to (j + 1) (set ls (j + 1) x) ≡ links_to j ls ++ links_of x ∷ []
unfolding links_to
links-add ls j x h =
    let f : ℕ → List ℕ = λ k. links_of (get_or (set ls (j + 1) x) k no_raw_links) in
    let g : ℕ → List ℕ = λ k. links_of (get_or ls k no_raw_links) in
    let e : 1 + j ≡ j + 1 = omega arith in
    ap (λ (n : ℕ). from n 1 f) (add-one j) ∙ from_last f j 1
    ∙ ap (λ (zs : List (List ℕ)). zs ++ (f (1 + j) ∷ [])) (from-same f g j 1 (λ k p q. ap links_of (get_or-set_other ls (j + 1) k x no_raw_links (λ r. let d : k ≡ j + 1 = r in omega arith))))
    ∙ ap (λ (n : ℕ). from j 1 g ++ (f n ∷ [])) e ∙ ap (λ (v : RawLinks). from j 1 g ++ (links_of v ∷ [])) (get_or-set_same ls (j + 1) x no_raw_links h)

-- Bytes filled from the front: the links of a category more are stored behind those of j others.
pub empty-links : empty_links ≡ link_bytes []
unfolding empty_links link_bytes padded flatten
empty-links = refl

pub links-room : (cs : List (List ℕ)) → length cs ≤ max_categories → length (link_bytes cs) ≡ links_size
unfolding link_bytes
links-room cs h = let l : length (flatten (map link_bytes_of ([] ∷ cs))) ≡ suc (length cs) * link_size = flat-length link_bytes_of link_size (λ x. refl) ([] ∷ cs) in padded-length links_size
    (flatten (map link_bytes_of ([] ∷ cs))) (omega arith)

pub links-stored : (cs : List (List ℕ)) (c : List ℕ) (j : ℕ) (x : RawLinks) (l l' : List ℕ) → length cs ≡ j → j < max_categories → l ≡ link_bytes cs → links_record c ≡ x
    → l' ≡ sets l ((j + 1) * link_size) (links_bytes x) → l' ≡ link_bytes (cs ++ c ∷ [])
unfolding link_bytes
links-stored cs c j x l l' n h e r w =
    let all : List ℕ = flatten (map link_bytes_of ([] ∷ cs)) in
    let m : length all ≡ suc (length cs) * link_size = flat-length link_bytes_of link_size (λ x. refl) ([] ∷ cs) in
    let k : (j + 1) * link_size ≡ length all = omega arith in
    w ∙ ap (λ (z : List ℕ). sets z ((j + 1) * link_size) (links_bytes x)) e ∙ ap (λ (z : RawLinks). sets (padded links_size all) ((j + 1) * link_size) (links_bytes z)) (sym r)
    ∙ ap (λ (z : ℕ). sets (padded links_size all) z (link_bytes_of c)) k ∙ padded-next links_size all (link_bytes_of c) (omega arith) ∙ ap (padded links_size) (sym (flat-next link_bytes_of ([] ∷ cs) c))

pub links-count : (n : ℕ) (ls : List RawLinks) → length (links_to n ls) ≡ n
unfolding links_to
links-count n ls = length_from (λ k. links_of (get_or ls k no_raw_links)) n 1

-- The whole answer.
pub sheet-loaded : (t : Table) (b l : List ℕ) (n k : ℕ) → b ≡ type_bytes t.types → l ≡ link_bytes t.cats → n ≡ size t → k ≡ length t.cats
    → ◌≡◌ {A = Sheet} (record { refusal = 0; at = 0; types = b; links = l; counts = record { subjects = t.subjects; methods = t.methods; cats = k; sheet = t.sheet; types = n } })
    (sheet_for (loaded t))
sheet-loaded t b l n k p q r e = cc
