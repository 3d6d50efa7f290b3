-- Each kind of line is exact: it accepts exactly the texts of its values, and gives the value back. By cases on what the line begins with.
use mathlib.Core.Path.{◌≡◌, refl, sym, ap, ◌∙◌, subst}
use mathlib.Core.Bool.{Bool, true, false, ◌&&◌, So, cond}
use mathlib.Core.List.{List, [], ◌∷◌, ◌++◌, append_assoc, append-nil}
use mathlib.Core.Option.{Option, none, some}
use Prim.Native.Nat.{ℕ, suc, ◌≤◌, ◌<◌}
use Prim.Native.Char.{code}
use native.Mathlib.Omega.{arith}
use lib.Dec.{eqb, ltb, leb}
use lib.ListN.{length, drop}
use borrow.Author.Tests.{ltb-true, leb-true, eqb-true, lt-ltb, le-leb, ne_eqb}
use Rattle.spec_model.specs.Basics.{Res, ok, try, need, all, unless_missing}
use Rattle.spec_model.specs.Table.{State, denied, optional, avail, unavail, Rep, ref, w32, w64, Method, between, links_fit, permit, is_nil, is_none, max_arguments, signed, bare}
use Rattle.spec_model.proofs.Rules.{both, first, second, never}
use Rattle.spec_model.specs.Refusals.{out_of_range, not_below}
use Rattle.spec_sheet.specs.Lines.{bytes, starts, same, keyed, choice}
use Rattle.spec_sheet.specs.Clean.{not_lf, clean}
use Rattle.spec_sheet.specs.Numbers.{took, bind_scan, whole, is_digit, top, number, numbers, decimal, tails, commas}
use Rattle.spec_sheet.specs.Text.{number_text, under_text, rep_text, own_text, state_text, answer_text, signature_text, method_text_by, method_text, end_text}
use Rattle.spec_sheet.specs.Sheet.{number_line, under_line, rep_line, own_line, end_line, closing, arguments, answer, below, signature, method_line}
use Rattle.spec_sheet.proofs.Steps.{cond_cases, refuse-ok, ok-value, try_ok, need-ok, fail-took, took-value, took-rest, bind_scan-took, whole-ok}
use Rattle.spec_sheet.proofs.Numbers.{is_digit-low, number-sound, number-full, decimal-head, small, numbers-sound, numbers-full}
use Rattle.spec_sheet.proofs.Lines.{all_append, decimal-clean, commas-clean, starts-sound, same-sound, keyed-sound, keyed-full, LineExact, Any, choice-exact}

-- ranges and bounds
pub between-low : (low high n : ℕ) → So (between low high n) → low ≤ n
between-low low high n h = leb-true low n (first (leb low n) (leb n high) h)

pub between-high : (low high n : ℕ) → So (between low high n) → n ≤ high
between-high low high n h = leb-true n high (second (leb low n) (leb n high) h)

pub in_between : (low high n : ℕ) → low ≤ n → n ≤ high → So (between low high n)
in_between low high n l h = both (le-leb low n l) (le-leb n high h)

pub all-weaken : {A : Type 0} (f g : A → Bool) (xs : List A) → ((n : A) → So (f n) → So (g n)) → So (all f xs) → So (all g xs)
all-weaken f g [] k h = refl
all-weaken f g (x ∷ xs) k h = both (k x (first (f x) (all f xs) h)) (all-weaken f g xs k (second (f x) (all f xs) h))

pub missing-weaken : (f g : ℕ → Bool) (o : Option ℕ) → ((n : ℕ) → So (f n) → So (g n)) → So (unless_missing o f) → So (unless_missing o g)
missing-weaken f g none k h = refl
missing-weaken f g (some n) k h = k n h

below-small : (c : ℕ) → c ≤ top → (n : ℕ) → So (ltb n c) → So (small n)
below-small c h n e = let q : n < c = ltb-true n c e in lt-ltb n top (omega arith)

-- a line with one number
abbrev within : ℕ → ℕ → ℕ → Res ℕ
within low high n = need (between low high n) out_of_range λ u. ok n

pub number-exact : (key : List ℕ) (low high : ℕ) → high < top → So (clean key) → LineExact (number_line key low high) (λ n. So (between low high n)) (number_text key)
unfolding number_line number_text
number-exact key low high h ck = record { sound = from; full = to; lf = λ n b. all_append not_lf key (decimal n) ck (decimal-clean n) }
  where
    fits : (n : ℕ) → So (between low high n) → n < top
    fits n b = let q : n ≤ high = between-high low high n b in omega arith

    from : (l : List ℕ) (x : ℕ) → number_line key low high l ≡ ok x → So (between low high x) × (l ≡ number_text key x)
    from l x e = try_ok (keyed key l) _ e λ r e₁ e. try_ok (whole (number r)) (within low high) e λ n e₂ e. need-ok (between low high n) out_of_range _ e λ b e.
        subst (λ z. So (between low high z) × (l ≡ number_text key z)) (ok-value e)
        (b, keyed-sound key l r e₁ ∙ ap (λ z. key ++ z) (number-sound r n [] (whole-ok (number r) e₂) (fits n b) ∙ append-nil (decimal n)))

    to : (n : ℕ) → So (between low high n) → number_line key low high (number_text key n) ≡ ok n
    to n b =
        ap (λ z. try z (λ r. try (whole (number r)) (within low high))) (keyed-full key (decimal n))
        ∙ ap (λ z. try (whole (number z)) (within low high)) (sym (append-nil (decimal n)))
        ∙ ap (λ z. try (whole z) (within low high)) (number-full n [] (fits n b) refl)
        ∙ ap (λ z. need z out_of_range (λ u. ok n)) b

-- the line of category k of c
abbrev links_tried : ℕ → ℕ → List ℕ → Res (List ℕ)
links_tried c k links = need (all (λ n. leb n c) links) out_of_range λ u. need (all (λ n. ltb n k) links) not_below λ u. ok links

pub under-exact : (c k : ℕ) → c < top → k ≤ c → LineExact (under_line c k) (λ links. So (links_fit k links)) under_text
unfolding under_line under_text
under-exact c k h kc = record { sound = from; full = to; lf = λ links b. all_append not_lf (bytes "under=") (commas links) refl (commas-clean links) }
  where
    smalls : (links : List ℕ) → So (links_fit k links) → So (all small links)
    smalls links b = all-weaken (λ n. ltb n k) small links (below-small k (omega arith)) (second (between 1 2 (length links)) _ b)

    from : (l links : List ℕ) → under_line c k l ≡ ok links → So (links_fit k links) × (l ≡ under_text links)
    from l links e = try_ok (keyed (bytes "under=") l) _ e λ r e₁ e. try_ok (whole (numbers 2 [] r)) (links_tried c k) e λ ns e₂ e.
        need-ok (all (λ n. leb n c) ns) out_of_range _ e λ t e. need-ok (all (λ n. ltb n k) ns) not_below _ e λ u e.
        let i = numbers-sound 2 [] r ns [] (whole-ok (numbers 2 [] r) e₂) in
        let len : length ns ≡ suc (length i.1) = ap length i.2 in
        let fit : So (links_fit k ns) = both (in_between 1 2 (length ns) (omega arith) (omega (arith, i.3))) u in
        subst (λ z. So (links_fit k z) × (l ≡ under_text z)) (ok-value e) (
          fit,
          keyed-sound (bytes "under=") l r e₁ ∙ ap (λ z. bytes "under=" ++ z) (i.4 (subst (λ z. So (all small z)) i.2 (smalls ns fit))
              ∙ ap (λ z. decimal i.0 ++ z) (append-nil (tails i.1)) ∙ ap commas (sym i.2)),
        )

    known : (links : List ℕ) → So (links_fit k links) → So (all (λ n. leb n c) links)
    known links b = all-weaken (λ n. ltb n k) (λ n. leb n c) links (λ n e. let q : n < k = ltb-true n k e in le-leb n c (omega arith)) (second (between 1 2 (length links)) _ b)

    some-links : (a : ℕ) (xs : List ℕ) → So (links_fit k (a ∷ xs)) → under_line c k (under_text (a ∷ xs)) ≡ ok (a ∷ xs)
    some-links a xs b =
        let few : suc (length xs) ≤ 2 = between-high 1 2 (suc (length xs)) (first (between 1 2 (suc (length xs))) _ b) in
        ap (λ z. try z (λ r. try (whole (numbers 2 [] r)) (links_tried c k))) (keyed-full (bytes "under=") (decimal a ++ tails xs))
        ∙ ap (λ z. try (whole (numbers 2 [] (decimal a ++ z))) (links_tried c k)) (sym (append-nil (tails xs)))
        ∙ ap (λ z. try (whole z) (links_tried c k)) (numbers-full 2 [] a xs [] few (smalls (a ∷ xs) b) refl)
        ∙ ap (λ z. need z out_of_range λ u. need (all (λ n. ltb n k) (a ∷ xs)) not_below λ u. ok (a ∷ xs)) (known (a ∷ xs) b)
        ∙ ap (λ z. need z not_below λ u. ok (a ∷ xs)) (second (between 1 2 (suc (length xs))) _ b)

    to : (links : List ℕ) → So (links_fit k links) → under_line c k (under_text links) ≡ ok links
    to [] b = never b
    to (a ∷ xs) b = some-links a xs b

-- lines with one word
pub rep-exact : LineExact rep_line Any rep_text
unfolding rep_line starts
rep-exact = choice-exact rep_text (ref ∷ w32 ∷ w64 ∷ []) full lf
  where
    full : (r : Rep) → choice rep_text (ref ∷ w32 ∷ w64 ∷ []) (rep_text r) ≡ ok r
    full ref = refl
    full w32 = refl
    full w64 = refl

    lf : (r : Rep) → So (clean (rep_text r))
    lf ref = refl
    lf w32 = refl
    lf w64 = refl

pub own-exact : LineExact own_line Any own_text
unfolding own_line starts
own-exact = choice-exact own_text (true ∷ false ∷ []) full lf
  where
    full : (b : Bool) → choice own_text (true ∷ false ∷ []) (own_text b) ≡ ok b
    full true = refl
    full false = refl

    lf : (b : Bool) → So (clean (own_text b))
    lf true = refl
    lf false = refl

pub end-exact : LineExact end_line Any (λ u. end_text)
unfolding end_line starts
end-exact = choice-exact (λ u. end_text) (tt ∷ []) (λ u. refl) (λ u. refl)

-- What the line of a method may hold where there are n types; own is tested at the sheet's end.
abbrev pub signature_in_by : State → ℕ → Method → Bool
signature_in_by s n m = cond (permit s) (leb (length m.args) max_arguments && (all (below n) m.args && unless_missing m.answer (below n))) (is_nil m.args && is_none m.answer)

abbrev pub signature_in : ℕ → Method → Bool
signature_in n m = signature_in_by m.state n m

-- a number begins neither with a bracket nor with a dash
arguments-digit : (b : ℕ) (l : List ℕ) → So (is_digit b) → arguments (b ∷ l) ≡ bind_scan (numbers max_arguments [] (b ∷ l)) closing
unfolding arguments
arguments-digit b l h = let low : 48 ≤ b = is_digit-low b h in ap (λ z. cond z (took [] l) (bind_scan (numbers max_arguments [] (b ∷ l)) closing)) (ne_eqb b 41 (λ q. omega arith))

answer-digit : (b : ℕ) (l : List ℕ) → So (is_digit b) → answer (b ∷ l) ≡ bind_scan (number (b ∷ l)) (λ n r. took (some n) r)
unfolding answer
answer-digit b l h = let low : 48 ≤ b = is_digit-low b h in ap (λ z. cond z (took none l) (bind_scan (number (b ∷ l)) (λ n r. took (some n) r))) (ne_eqb b 45 (λ q. omega arith))

arguments_sound : (l xs r : List ℕ) → arguments l ≡ took xs r → (length xs ≤ max_arguments) × (So (all small xs) → l ≡ commas xs ++ code ")" ∷ r)
unfolding arguments
arguments_sound [] xs r h = absurd (fail-took h)
arguments_sound (b ∷ bs) xs r h = cond_cases (eqb b 41) h
    (λ t v. subst (λ z. (length z ≤ max_arguments) × (So (all small z) → b ∷ bs ≡ commas z ++ 41 ∷ r)) (took-value v)
    (omega arith, λ s. ap (λ z. z ∷ bs) (eqb-true b 41 t) ∙ ap (λ z. 41 ∷ z) (took-rest v)))
    (λ t v. bind_scan-took (numbers max_arguments [] (b ∷ bs)) closing v shut)
  where
    shut : (ys q : List ℕ) → numbers max_arguments [] (b ∷ bs) ≡ took ys q → closing ys q ≡ took xs r
        → (length xs ≤ max_arguments) × (So (all small xs) → b ∷ bs ≡ commas xs ++ 41 ∷ r)
    shut ys [] s c = absurd (fail-took c)
    shut ys (d ∷ q) s c = cond_cases (eqb d 41) c
        (λ t v. let i = numbers-sound max_arguments [] (b ∷ bs) ys (d ∷ q) s in
        let e : i.0 ∷ i.1 ≡ xs = sym i.2 ∙ took-value v in
        subst (λ z. (length z ≤ max_arguments) × (So (all small z) → b ∷ bs ≡ commas z ++ 41 ∷ r)) e (
          i.3,
          λ sm. i.4 sm ∙ sym (append_assoc (decimal i.0) (tails i.1) (d ∷ q))
              ∙ ap (λ z. (decimal i.0 ++ tails i.1) ++ z ∷ q) (eqb-true d 41 t) ∙ ap (λ z. (decimal i.0 ++ tails i.1) ++ 41 ∷ z) (took-rest v),
        ))
        (λ t v. absurd (fail-took v))

answer-sound : (l : List ℕ) (o : Option ℕ) (r : List ℕ) → answer l ≡ took o r → So (unless_missing o small) → l ≡ answer_text o ++ r
unfolding answer
answer-sound [] o r h s = absurd (fail-took h)
answer-sound (b ∷ bs) o r h s = cond_cases (eqb b 45) h
    (λ t v. ap (λ z. z ∷ bs) (eqb-true b 45 t) ∙ ap (λ z. 45 ∷ z) (took-rest v) ∙ ap (λ z. answer_text z ++ r) (took-value v))
    (λ t v. bind_scan-took (number (b ∷ bs)) (λ n r. took (some n) r) v
    (λ n q e w. let u : some n ≡ o = took-value w in
    let g : So (unless_missing (some n) small) = subst (λ z. So (unless_missing z small)) (sym u) s in
    number-sound (b ∷ bs) n q e (ltb-true n top g) ∙ ap (λ z. decimal n ++ z) (took-rest w) ∙ ap (λ z. answer_text z ++ r) u))

arguments-full : (xs r : List ℕ) → length xs ≤ max_arguments → So (all small xs) → arguments (commas xs ++ code ")" ∷ r) ≡ took xs r
unfolding arguments
arguments-full [] r h s = refl
arguments-full (a ∷ xs) r h s =
    let i = decimal-head a (ltb-true a top (first (small a) (all small xs) s)) in
    let q : List ℕ = tails xs ++ 41 ∷ r in
    ap arguments (append_assoc (decimal a) (tails xs) (41 ∷ r)) ∙ ap (λ z. arguments (z ++ q)) i.2 ∙ arguments-digit i.0 (i.1 ++ q) i.3
    ∙ ap (λ z. bind_scan (numbers max_arguments [] (z ++ q)) closing) (sym i.2)
    ∙ ap (λ z. bind_scan z closing) (numbers-full max_arguments [] a xs (41 ∷ r) h s refl)

answer-full : (o : Option ℕ) → So (unless_missing o small) → answer (answer_text o) ≡ took o []
unfolding answer
answer-full none s = refl
answer-full (some n) s =
    let l : n < top = ltb-true n top s in
    let i = decimal-head n l in
    ap answer i.2 ∙ answer-digit i.0 i.1 i.3 ∙ ap (λ z. bind_scan (number z) (λ n r. took (some n) r)) (sym i.2 ∙ sym (append-nil (decimal n)))
    ∙ ap (λ z. bind_scan z (λ n r. took (some n) r)) (number-full n [] l refl)

-- a signature behind its state
abbrev permitted : ℕ → Method → Bool
permitted n m = leb (length m.args) max_arguments && (all (below n) m.args && unless_missing m.answer (below n))

abbrev SignatureOf : ℕ → State → List ℕ → Method → Type 0
SignatureOf n s l m = (m.state ≡ s) × So (permitted n m) × (l ≡ signature_text m)

abbrev named : ℕ → Method → Res Method
named n m = need (all (below n) m.args && unless_missing m.answer (below n)) out_of_range λ u. ok m

args-small : (n : ℕ) (m : Method) → n ≤ top → So (permitted n m) → So (all small m.args)
args-small n m h b = all-weaken (below n) small m.args (below-small n h) (first (all (below n) m.args) _ (second (leb (length m.args) max_arguments) _ b))

answer-small : (n : ℕ) (m : Method) → n ≤ top → So (permitted n m) → So (unless_missing m.answer small)
answer-small n m h b = missing-weaken (below n) small m.answer (below-small n h) (second (all (below n) m.args) _ (second (leb (length m.args) max_arguments) _ b))

signature-sound : (n : ℕ) (s : State) (l : List ℕ) (m : Method) → n ≤ top → signature n s l ≡ ok m → SignatureOf n s l m
unfolding signature
signature-sound n s l m h e = try_ok (whole (bind_scan (arguments l) _)) (named n) e λ y e₁ e. need-ok (all (below n) y.args && unless_missing y.answer (below n)) out_of_range _ e λ b e.
    bind_scan-took (arguments l) _ (whole-ok _ e₁) λ xs q a e₂. bind_scan-took (answer q) _ e₂ λ o p w e₃. go y b (ok-value e) xs q a o p w (took-value e₃) (took-rest e₃)
  where
    go : (y : Method) → So (all (below n) y.args && unless_missing y.answer (below n)) → y ≡ m →
        (xs q : List ℕ) → arguments l ≡ took xs q → (o : Option ℕ) (p : List ℕ) → answer q ≡ took o p → signed s xs o ≡ y → p ≡ [] → SignatureOf n s l m
    go y b ym xs q a o p w e z =
        let i = arguments_sound l xs q a in
        let v : Method = signed s xs o in
        let fit : So (permitted n v) = both (le-leb (length xs) max_arguments i.0) (subst (λ (z : Method). So (all (below n) z.args && unless_missing z.answer (below n))) (sym e) b) in
        subst (λ (z : Method). SignatureOf n s l z) (e ∙ ym) (
          refl,
          fit,
          i.1 (args-small n v h fit) ∙ ap (λ r. commas xs ++ code ")" ∷ r) (answer-sound q o p w (answer-small n v h fit) ∙ ap (λ r. answer_text o ++ r) z ∙ append-nil (answer_text o)),
        )

signature-full : (n : ℕ) (m : Method) → n ≤ top → So (permitted n m) → signature n m.state (signature_text m) ≡ ok m
unfolding signature
signature-full n m h b =
    ap (λ z. try (whole (bind_scan z λ xs r. bind_scan (answer r) λ o q. took (signed m.state xs o) q)) (named n))
    (arguments-full m.args (answer_text m.answer) (leb-true (length m.args) max_arguments (first (leb (length m.args) max_arguments) _ b)) (args-small n m h b))
    ∙ ap (λ z. try (whole (bind_scan z λ o q. took (signed m.state m.args o) q)) (named n)) (answer-full m.answer (answer-small n m h b))
    ∙ ap (λ z. need z out_of_range λ u. ok m) (second (leb (length m.args) max_arguments) _ b)

answer-clean : (o : Option ℕ) → So (clean (answer_text o))
answer-clean none = refl
answer-clean (some n) = decimal-clean n

signature-clean : (m : Method) → So (clean (signature_text m))
signature-clean m = all_append not_lf (commas m.args) (code ")" ∷ answer_text m.answer) (commas-clean m.args) (answer-clean m.answer)

no_arguments : (xs : List ℕ) (o : Option ℕ) → So (is_nil xs && is_none o) → (xs ≡ []) × (o ≡ none)
no_arguments [] none h = (refl, refl)
no_arguments [] (some n) h = never h
no_arguments (x ∷ xs) o h = never h

-- an m= line
pub method-exact : (n : ℕ) → n ≤ top → LineExact (method_line n) (λ m. So (signature_in n m)) method_text
unfolding method_line method_text starts
method-exact n h = record { sound = from; full = λ m b. to m.state m refl b; lf = λ m b. lf m.state m b }
  where
    with-signature : (s : State) (l q : List ℕ) (m : Method) → (So (permitted n m) → So (signature_in_by s n m)) → l ≡ state_text s ++ q
        → cond (permit s) (signature_text m) [] ≡ signature_text m → SignatureOf n s q m → So (signature_in n m) × (l ≡ method_text m)
    with-signature s l q m f e g i = (subst (λ z. So (signature_in_by z n m)) (sym i.0) (f i.1), e ∙ ap (λ z. state_text s ++ z) (i.2 ∙ sym g) ∙ ap (λ z. method_text_by z m) (sym i.0))

    from : (l : List ℕ) (m : Method) → method_line n l ≡ ok m → So (signature_in n m) × (l ≡ method_text m)
    from l m e = cond_cases (starts (state_text avail) l) e
        (λ t v. with-signature avail l (drop 8 l) m (λ x. x) (starts-sound (state_text avail) l t) refl (signature-sound n avail (drop 8 l) m h v))
        (λ t v. cond_cases (starts (state_text optional) l) v
        (λ t v. with-signature optional l (drop 11 l) m (λ x. x) (starts-sound (state_text optional) l t) refl (signature-sound n optional (drop 11 l) m h v))
        (λ t v. cond_cases (same (state_text denied) l) v
        (λ t v. subst (λ z. So (signature_in n z) × (l ≡ method_text z)) (ok-value v) (refl, same-sound (state_text denied) l t))
        (λ t v. cond_cases (same (state_text unavail) l) v
        (λ t v. subst (λ z. So (signature_in n z) × (l ≡ method_text z)) (ok-value v) (refl, same-sound (state_text unavail) l t))
        (λ t v. refuse-ok v))))

    plain : (s : State) (m : Method) → m.state ≡ s → So (is_nil m.args && is_none m.answer) → bare s ≡ m
    plain s m e b =
        let i = no_arguments m.args m.answer b in
        ap (λ z. signed z [] none) (sym e) ∙ ap (λ z. signed m.state z none) (sym i.0) ∙ ap (λ z. signed m.state m.args z) (sym i.1)

    to : (s : State) (m : Method) → m.state ≡ s → So (signature_in_by s n m) → method_line n (method_text_by s m) ≡ ok m
    to avail m e b = ap (λ z. signature n z (signature_text m)) (sym e) ∙ signature-full n m h b
    to optional m e b = ap (λ z. signature n z (signature_text m)) (sym e) ∙ signature-full n m h b
    to denied m e b = ap ok (plain denied m e b)
    to unavail m e b = ap ok (plain unavail m e b)

    lf : (s : State) (m : Method) → So (signature_in_by s n m) → So (clean (method_text_by s m))
    lf avail m b = all_append not_lf (state_text avail) (signature_text m) refl (signature-clean m)
    lf optional m b = all_append not_lf (state_text optional) (signature_text m) refl (signature-clean m)
    lf denied m b = refl
    lf unavail m b = refl
