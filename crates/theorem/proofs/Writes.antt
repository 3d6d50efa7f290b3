-- Sheet write on any state of a history gives the bytes back that were read: the table has grown from the sheet's, and no derived type is written.
use mathlib.Core.Path.{◌≡◌, ap, sym, subst, ◌∙◌}
use mathlib.Core.Bool.{Bool, So, cond}
use mathlib.Core.List.{List, [], ◌∷◌, ◌++◌}
use Prim.Native.Nat.{ℕ, ◌<◌}
use native.Mathlib.Omega.{arith}
use lib.ListN.{length, take}
use lib.Seq.{ext_get_or, get_or-take, length-take-le}
use Rattle.spec_model.specs.Basics.{refuse}
use Rattle.spec_model.specs.Table.{Table, no_type, size, valid_sheet}
use Rattle.spec_model.specs.Requests.{Request, loaded}
use Rattle.spec_model.specs.Check.{RawSystem, table_of, system_of, table_accepted}
use Rattle.spec_model.specs.Book.{Book, opened}
use Rattle.spec_model.specs.Claim.{reached}
use Rattle.spec_model.proofs.Rules.{both}
use Rattle.spec_model.proofs.Growth.{Grown}
use Rattle.spec_model.specs.Refusals.{out_of_range}
use Rattle.law_model.proofs.Sheets.{sheet-fitting}
use Rattle.law_model.proofs.Checked.{system-fitting}
use Rattle.law_model.proofs.Reached.{reached-fits}
use Rattle.law_model.proofs.Returned.{accepted-codes}
use Rattle.spec_model.specs.Callers.{Transcript}
use Rattle.spec_sheet.specs.Lines.{join}
use Rattle.spec_sheet.specs.Text.{end_text, sheet_lines, without_derived, text, write_text, write}
use Rattle.spec_sheet.proofs.Exact.{text-of-read}
use Rattle.sheet_read.specs.declared.Sheet.{Sheet}
use Rattle.sheet_read.proofs.Accepted.{read-loaded}
use Rattle.theorem.specs.Shown.{Accepts, sheet_table, book_of, History}
use Rattle.theorem.proofs.Runs.{follow-added}
use Rattle.theorem.proofs.Laws.{Means}
use Rattle.theorem.proofs.Shown.{valid, history-means}

-- ---- A table that has grown has the same text.
module _ (t u : Table) (g : Grown t u) (whole : t.sheet ≡ size t) where
  sheet-types : take u.sheet u.types ≡ take t.sheet t.types
  sheet-types = ap (λ n. take n u.types) g.sheet ∙ ext_get_or no_type _ _ (long ∙ sym (length-take-le t.sheet t.types (omega (arith, whole)))) λ i l.
      let n : i < t.sheet = omega (arith, long) in
      get_or-take t.sheet u.types i no_type n ∙ g.same i (omega (arith, whole)) ∙ sym (get_or-take t.sheet t.types i no_type n)
    where
      long : length (take t.sheet u.types) ≡ t.sheet
      long = length-take-le t.sheet u.types (omega (arith, whole, g.more))

  same_text : text u ≡ text t
  unfolding text
  same_text = let e : without_derived u ≡ without_derived t = rw (sheet-types, g.subjects, g.methods, g.cats, g.sheet) in ap (λ z. join (sheet_lines z ++ (end_text ∷ []))) e

module _ (t : Table) (v : So (valid_sheet t)) where
  reached-grown : (qs : List Request) → Grown t (reached t qs).0.table
  reached-grown qs = (follow-added t v qs (loaded t) (opened t) (reached-fits t v)).grown

  module _ (r : RawSystem) (b : Book) (h : Means t r b) where
    means-grown : Grown t (table_of r.table)
    unfolding system_of
    means-grown = subst (λ s. Grown t s.table) (sym h.state) (reached-grown h.requests)

    means-accepted : So (table_accepted r.table)
    unfolding table_accepted system_of
    means-accepted = let c = accepted-codes r h.passes in both c.0 (system-fitting (system_of r) c.2).table

    means-writes : (old : List ℕ) → write r.table old ≡ write_text (text t) old
    unfolding write
    means-writes old = ap (λ (c : Bool). cond c (write_text (text (table_of r.table)) old) (record { result = refuse out_of_range; buffer = old })) means-accepted
        ∙ ap (λ z. write_text z old) (same_text t (table_of r.table) means-grown (sheet-fitting t v).1)

-- from the bytes on
module _ (bytes : List ℕ) (f : Sheet) (a : Accepts bytes f) where
  pub written_back : (r : RawSystem) (l : Transcript) → History f r l → (old : List ℕ) → write r.table old ≡ write_text bytes old
  written_back r l h old = let t = sheet_table f in
      means-writes t (valid bytes f a) r (book_of f l) (history-means bytes f a r l h) old ∙ ap (λ z. write_text z old) (text-of-read bytes t (read-loaded bytes f a.contract a.accepted))
