-- The reader accepts exactly the texts of valid tables, each with its own table; and what follows for reading, writing and reading back.
use mathlib.Core.Path.{◌≡◌, refl, sym, ap, ◌∙◌, subst}
use mathlib.Core.Logic.{◌↔◌}
use mathlib.Core.Bool.{Bool, true, false, So, cond}
use mathlib.Core.List.{List, [], ◌∷◌, ◌++◌}
use Prim.Native.Nat.{ℕ, ◌+◌, ◌≤◌}
use native.Mathlib.Omega.{arith}
use lib.ListN.{length, take, drop, length-append, length-drop}
use lib.Seq.{take-append_seam, drop-append_seam}
use lib.Dec.{leb}
use borrow.Author.Tests.{leb-true}
use Rattle.spec_model.specs.Requests.{Request}
use Rattle.spec_model.specs.Claim.{reached, Claim}
use Rattle.law_model.proofs.Sheets.{demand3}
use Rattle.spec_model.specs.Basics.{refuse, ok}
use Rattle.spec_model.specs.Table.{Table, table_fits, valid_sheet}
use Rattle.spec_model.specs.Check.{RawTable, table_of, codes_fit, table_accepted}
use Rattle.spec_model.proofs.Rules.{second}
use Rattle.spec_model.specs.Refusals.{out_of_range, not_below, short_buffer}
use Rattle.spec_sheet.specs.Lines.{Row, row, split, join, Reading, refused, got, Reader, line, follow, bind, end_of_input}
use Rattle.spec_sheet.specs.Text.{end_text, sheet_lines, without_derived, text, Written, write_text, write}
use Rattle.spec_sheet.specs.Sheet.{end_line, body, signatures_stand, ending, sheet, malformed, loaded, sheet_result, read}
use Rattle.spec_sheet.proofs.Steps.{cond_cases, refuse-ok, ok-value}
use Rattle.spec_sheet.proofs.Lines.{rows, rows_append, split-sound, split-full, clean-lines}
use Rattle.spec_sheet.proofs.LineKinds.{end-exact}
use Rattle.spec_sheet.proofs.Readers.{line-exact, refused-got, got-value, follow-got}
use Rattle.spec_sheet.proofs.Types.{body-exact}
use Rattle.spec_sheet.proofs.Valid.{without-none, valid-test, valid-says, valid-whole, sheet-valid}

malformed-loaded : {C : Type 0} {n at : ℕ} {t : Table} → malformed n at ≡ loaded t → C
malformed-loaded p = let z : ◌≡◌ {A = ℕ} 0 1 = cc in absurd (omega arith)

loaded-table : {t u : Table} → loaded t ≡ loaded u → t ≡ u
loaded-table p = cc

end_of_input-got : (at : ℕ) (rs : List Row) (u : Unit {0}) (at' : ℕ) (rs' : List Row) → end_of_input at rs ≡ got u at' rs' → rs ≡ []
end_of_input-got at [] u at' rs' h = refl
end_of_input-got at (r ∷ rs) u at' rs' h = refused-got h

-- what stands behind the line `end=sheet` of table t, which began at `last`
abbrev pub behind_end : Table → ℕ → Unit {0} → Reader Table
behind_end t last v = bind end_of_input λ u at rs. cond (signatures_stand t) (got t at rs) (refused not_below last)

ending-sound : (t : Table) (at : ℕ) (rs : List Row) (u : Table) (at' : ℕ) (rs' : List Row) → ending t at rs ≡ got u at' rs'
    → (t ≡ u) × So (signatures_stand t) × (rs ≡ row end_text ∷ [])
unfolding ending
ending-sound t at rs u at' rs' h = follow-got (line end_line at rs) (behind_end t at) h λ v a q e₁ e₂.
    follow-got (end_of_input a q) (λ v b r. cond (signatures_stand t) (got t b r) (refused not_below at)) e₂ λ w b r e₃ e₄.
    cond_cases (signatures_stand t) e₄
    (λ o e. (got-value e, o, ((line-exact end-exact).sound at rs v a q e₁).1 ∙ ap (λ z. row end_text ∷ z) (end_of_input-got a q w b r e₃)))
    (λ o e. refused-got e)

ending-full : (t : Table) (at : ℕ) → So (signatures_stand t) → (at' : ℕ) × (ending t at (row end_text ∷ []) ≡ got t at' [])
unfolding ending
ending-full t at o =
    let i = (line-exact end-exact).full at tt [] tt in
    (i.0, ap (λ z. follow z (behind_end t at)) i.1 ∙ ap (λ z. cond z (got t i.0 []) (refused not_below at)) o)

-- The reader accepts bytes with table t if and only if t is a valid sheet's and the bytes are its text.
pub read-exact : (bs : List ℕ) (t : Table) → (read bs ≡ loaded t) ↔ (So (valid_sheet t) × (bs ≡ text t))
unfolding read sheet text
read-exact bs t = (λ h. from (sheet 0 (split bs)) refl h, λ p. to p.0 p.1)
  where
    sound : (u : Table) (at : ℕ) (rs : List Row) → sheet 0 (split bs) ≡ got u at rs → So (valid_sheet u) × (bs ≡ text u)
    sound u at rs e = follow-got (body 0 (split bs)) ending e λ v a q e₁ e₂.
        let i = body-exact.sound 0 (split bs) v a q e₁ in
        let j = ending-sound v a q u at rs e₂ in
        subst (λ z. So (valid_sheet z) × (bs ≡ text z)) j.0 (
          valid-test v i.0 j.1,
          split-sound bs (sheet_lines v ++ (end_text ∷ [])) (i.1 ∙ ap (λ z. rows (sheet_lines v) ++ z) j.2 ∙ sym (rows_append (sheet_lines v) (end_text ∷ [])))
              ∙ ap (λ z. join (sheet_lines z ++ (end_text ∷ []))) (sym (without-none v i.0.count)),
        )

    from : (r : Reading Table) → sheet 0 (split bs) ≡ r → sheet_result r ≡ loaded t → So (valid_sheet t) × (bs ≡ text t)
    from (refused n at) e h = malformed-loaded h
    from (got u at rs) e h = subst (λ z. So (valid_sheet z) × (bs ≡ text z)) (loaded-table h) (sound u at rs e)

    to : So (valid_sheet t) → bs ≡ text t → read bs ≡ loaded t
    to h e =
        let v = valid-says t h in
        let i = body-exact.full 0 t (row end_text ∷ []) v.0 in
        let j = ending-full t i.0 v.1 in
        ap read (e ∙ ap (λ z. join (sheet_lines z ++ (end_text ∷ []))) (valid-whole t h))
        ∙ ap (λ z. sheet_result (sheet 0 z))
        (split-full (sheet_lines t ++ (end_text ∷ [])) (clean-lines (sheet_lines t) (end_text ∷ []) (body-exact.lf t v.0) (refl, tt)) ∙ rows_append (sheet_lines t) (end_text ∷ []))
        ∙ ap (λ z. sheet_result (follow z ending)) i.1 ∙ ap sheet_result j.1

-- The premise of demand 3: what is loaded is valid.
pub loaded-valid : (bs : List ℕ) (t : Table) → read bs ≡ loaded t → So (valid_sheet t)
loaded-valid bs t h = ((read-exact bs t).0 h).0

-- so it holds from the bytes of a sheet on, whatever the requests are
pub loaded-demand3 : (bs : List ℕ) (t : Table) → read bs ≡ loaded t → (qs : List Request) → Claim (reached t qs).0 (reached t qs).1
loaded-demand3 bs t h = demand3 t (loaded-valid bs t h)

-- the text of what was read is what was read
pub text-of-read : (bs : List ℕ) (t : Table) → read bs ≡ loaded t → text t ≡ bs
text-of-read bs t h = sym ((read-exact bs t).0 h).1

-- every valid table is read back
pub read-of-text : (t : Table) → So (valid_sheet t) → read (text t) ≡ loaded t
read-of-text t h = (read-exact (text t) t).1 (h, refl)

-- one text has one table, and one table one text
pub same-table : (bs : List ℕ) (t u : Table) → read bs ≡ loaded t → read bs ≡ loaded u → t ≡ u
same-table bs t u h k = loaded-table (sym h ∙ k)

pub same_text : (bs cs : List ℕ) (t : Table) → read bs ≡ loaded t → read cs ≡ loaded t → bs ≡ cs
same_text bs cs t h k = sym (text-of-read bs t h) ∙ text-of-read cs t k

-- The text of a table that keeps the rules, derived types or not, is read back as the table without them (W8).
pub read-of-fitting : (t : Table) → So (table_fits t) → read (text t) ≡ loaded (without_derived t)
unfolding text
read-of-fitting t h =
    let v = sheet-valid t h in
    ap (λ z. read (join (sheet_lines z ++ (end_text ∷ [])))) (sym (valid-whole (without_derived t) v)) ∙ read-of-text (without_derived t) v

-- What it says that the writer accepts, with length n. (A refusal leaves the buffer as it was: `write-refused`.)
pub record WroteSheet (r : RawTable) (old new : List ℕ) (n : ℕ) : Type 0 where
  pub accepted : So (table_accepted r)
  pub length-of : n ≡ length (text (table_of r))
  pub size : length new ≡ length old
  pub front : take n new ≡ text (table_of r)
  pub behind : drop n new ≡ drop n old
  pub read_back : read (take n new) ≡ loaded (without_derived (table_of r))

pub accepted-fits : (r : RawTable) → So (table_accepted r) → So (table_fits (table_of r))
unfolding table_accepted
accepted-fits r h = second (codes_fit r) _ h

-- a text put in front of a buffer that has room for it
record Filled (xs old new : List ℕ) (n : ℕ) : Type 0 where
  length-of : n ≡ length xs
  size : length new ≡ length old
  front : take n new ≡ xs
  behind : drop n new ≡ drop n old

fills : (xs old : List ℕ) → length xs ≤ length old → Filled xs old (xs ++ drop (length xs) old) (length xs)
fills xs old h = record {
  length-of = refl;
  size = length-append xs (drop (length xs) old) ∙ ap (λ z. length xs + z) (length-drop (length xs) old) ∙ omega arith;
  front = take-append_seam xs (drop (length xs) old);
  behind = drop-append_seam xs (drop (length xs) old);
}

write-text-ok : (xs old : List ℕ) (n : ℕ) → (write_text xs old).result ≡ ok n → Filled xs old (write_text xs old).buffer n
unfolding write_text
write-text-ok xs old n = go (leb (length xs) (length old)) refl
  where
    full : Written
    full = record { result = ok (length xs); buffer = xs ++ drop (length xs) old }

    short : Written
    short = record { result = refuse short_buffer; buffer = old }

    go : (b : Bool) → leb (length xs) (length old) ≡ b → (cond b full short).result ≡ ok n → Filled xs old (cond b full short).buffer n
    go true e h = subst (Filled xs old (xs ++ drop (length xs) old)) (ok-value h) (fills xs old (leb-true (length xs) (length old) e))
    go false e h = refuse-ok h

write-text-refused : (xs old : List ℕ) (n : ℕ) → (write_text xs old).result ≡ refuse n → (write_text xs old).buffer ≡ old
unfolding write_text
write-text-refused xs old n = go (leb (length xs) (length old))
  where
    full : Written
    full = record { result = ok (length xs); buffer = xs ++ drop (length xs) old }

    short : Written
    short = record { result = refuse short_buffer; buffer = old }

    go : (b : Bool) → (cond b full short).result ≡ refuse n → (cond b full short).buffer ≡ old
    go true h = refuse-ok (sym h)
    go false h = refl

pub write-ok : (r : RawTable) (old : List ℕ) (n : ℕ) → (write r old).result ≡ ok n → WroteSheet r old (write r old).buffer n
unfolding write
write-ok r old n = go (table_accepted r) refl
  where
    two : Written
    two = record { result = refuse out_of_range; buffer = old }

    go : (a : Bool) → table_accepted r ≡ a → (cond a (write_text (text (table_of r)) old) two).result ≡ ok n → WroteSheet r old (cond a (write_text (text (table_of r)) old) two).buffer n
    go true e h =
        let i = write-text-ok (text (table_of r)) old n h in
        record { accepted = e; length-of = i.length-of; size = i.size; front = i.front; behind = i.behind; read_back = ap read i.front ∙ read-of-fitting (table_of r) (accepted-fits r e) }
    go false e h = refuse-ok h

-- a refusal leaves every byte of the buffer (W3)
pub write-refused : (r : RawTable) (old : List ℕ) (n : ℕ) → (write r old).result ≡ refuse n → (write r old).buffer ≡ old
unfolding write
write-refused r old n = go (table_accepted r)
  where
    two : Written
    two = record { result = refuse out_of_range; buffer = old }

    go : (a : Bool) → (cond a (write_text (text (table_of r)) old) two).result ≡ refuse n → (cond a (write_text (text (table_of r)) old) two).buffer ≡ old
    go true h = write-text-refused (text (table_of r)) old n h
    go false h = refl
