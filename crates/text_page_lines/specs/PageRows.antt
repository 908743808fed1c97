-- "What a refusal gives", of a page: each number with when it is given, and what it leaves.
use Rattle.std.specs.Prelude.{◌≡◌, refl, ◌↔◌, Bool, ◌&&◌, List, ℕ, zero, suc, ◌+◌, ◌≤◌, ◌<◌, T, eqb, ltb, ℤ}
use Rattle.std.proofs.Common.{sym, subst, ◌∙◌, arith, T_not}
use Rattle.std.proofs.Math.Path.{ap}
use Rattle.std.proofs.Math.Bool.{not}
use Rattle.std.proofs.Math.Dec.{eqb→eq, eqb_refl, ltb→lt, nltb→le}
use Rattle.std.proofs.Math.ListN.{length}
use Rattle.whole.specs.Cases.{if, by_test, both, not_not}
use Rattle.theory.specs.Valid.{all}
use Rattle.theory.specs.Verdict.{Verdict, refusal, from_to}
use Rattle.theory.specs.Value.{Asked, value_of}
use Rattle.theory.specs.Listing.{written, ListingOut}
use Rattle.theory.specs.Rows.{Range, Admitted, EarlyRow}
use Rattle.theory.proofs.laws.Rows.{if_yes, if_no, by_early, admitted, early_some, early_is, admitted_is}
use Rattle.text_page_lines.specs.Page.{page_text, meets, page_refusal, page}

module _ (B : List ℕ) (H : ℕ) (nodes : List ℤ) (stages : List ℕ) (q : Asked) (buffer : List ℕ) (at : ℕ) where
  -- no value call of stages 1 to H is refused with k
  abbrev pub Spared : ℕ → Type 0
  Spared k = (h : ℕ) → Range 1 H h → (value_of B nodes stages h q).number ≡ k → ⊥

  -- the buffer as it was lent
  abbrev pub refused_page : ℕ → ℕ → ListingOut
  refused_page k p = record { number = k; place = p; size = 0; buffer = buffer }

  pub data PageRow : ListingOut → Type 0 where
    -- written: the page from the stated place on, all else as it was
    page_0 : Admitted B H (length stages) → Spared 13 → Spared 15 → Spared 14 → at + length (page_text B H nodes stages q) ≤ length buffer
        → PageRow (record { number = 0; place = 0; size = length (page_text B H nodes stages q); buffer = written buffer at (page_text B H nodes stages q) })
    page_1_10 : {k p : ℕ} → EarlyRow B H (length stages) k p → PageRow (refused_page k p)
    page_13 : {h : ℕ} → Admitted B H (length stages) → Range 1 H h → (value_of B nodes stages h q).number ≡ 13 → PageRow (refused_page 13 0)
    -- of any stage, before 14 of any
    page_15 : {h : ℕ} → Admitted B H (length stages) → Spared 13 → Range 1 H h → (value_of B nodes stages h q).number ≡ 15 → PageRow (refused_page 15 0)
    page_14 : {h : ℕ} → Admitted B H (length stages) → Spared 13 → Spared 15 → Range 1 H h → (value_of B nodes stages h q).number ≡ 14 → PageRow (refused_page 14 0)
    -- "a short buffer is number 17", last
    page_17 : Admitted B H (length stages) → Spared 13 → Spared 15 → Spared 14 → length buffer < at + length (page_text B H nodes stages q) → PageRow (refused_page 17 0)

-- ---- a number met in a list, or not

met : (p : ℕ → ℕ) (k a n : ℕ) → T (not (all (λ h. not (eqb (p h) k)) (from_to a n))) → (h : ℕ) × (a ≤ h) × (h < a + n) × (p h ≡ k)
unfolding all from_to
met p k a zero = λ t. absurd t
met p k a (suc n) = by_test (eqb (p a) k) (λ b. T (not (not b && all (λ h. not (eqb (p h) k)) (from_to (suc a) n))) → (h : ℕ) × (a ≤ h) × (h < a + suc n) × (p h ≡ k))
    (λ u _. (a, omega arith, omega arith, eqb→eq (p a) k u))
    (λ _ t. let r = met p k (suc a) n t in (r.0, omega (arith, r.1), omega (arith, r.2), r.3))

unmet : (p : ℕ → ℕ) (k a n : ℕ) → T (all (λ h. not (eqb (p h) k)) (from_to a n)) → (h : ℕ) → a ≤ h → h < a + n → p h ≡ k → ⊥
unfolding all from_to
unmet p k a zero t h f l e = omega arith
unmet p k a (suc n) t h f l e =
    let d = both (not (eqb (p a) k)) (all (λ h. not (eqb (p h) k)) (from_to (suc a) n)) t in
    by_test (eqb h a) (λ _. ⊥)
    (λ u. here (p a) (ap p (sym (eqb→eq h a u)) ∙ e) d.0)
    (λ u. unmet p k (suc a) n d.1 h (above h a f (λ z. T_not (eqb h a) u (rw z (eqb_refl a)))) (omega arith) e)
  where
    here : (x : ℕ) → x ≡ k → T (not (eqb x k)) → ⊥
    here x z t = T_not (eqb x k) t (rw z (eqb_refl k))

    above : (h a : ℕ) → a ≤ h → (h ≡ a → ⊥) → suc a ≤ h
    above h a f z = omega arith

-- ---- the outcome is a row

module _ (B : List ℕ) (H : ℕ) (nodes : List ℤ) (stages : List ℕ) (q : Asked) (buffer : List ℕ) (at : ℕ) where
  abbrev Row : ListingOut → Type 0
  Row = PageRow B H nodes stages q buffer at

  abbrev done : ListingOut
  done = record { number = 0; place = 0; size = length (page_text B H nodes stages q); buffer = written buffer at (page_text B H nodes stages q) }

  -- the outcome by the verdict
  abbrev left_by : Verdict → ListingOut
  left_by v = if (eqb v.number 0) done (refused_page B H nodes stages q buffer at v.number v.place)

  some : (k : ℕ) → T (meets B H nodes stages q k) → (h : ℕ) × Range 1 H h × ((value_of B nodes stages h q).number ≡ k)
  unfolding meets
  some k t = let r = met (λ h. (value_of B nodes stages h q).number) k 1 H t in (r.0, (r.1, omega (arith, r.2)), r.3)

  none : (k : ℕ) → T (not (meets B H nodes stages q k)) → Spared B H nodes stages q buffer at k
  unfolding meets
  none k t h r e = unmet (λ h. (value_of B nodes stages h q).number) k 1 H (not_not (all (λ h. not (eqb (value_of B nodes stages h q).number k)) (from_to 1 H)) t) h r.0 (omega (arith, r.1)) e

  -- past the early refusals
  judged : Admitted B H (length stages) → Row (left_by (if (meets B H nodes stages q 13) (refusal 13 0) (if (meets B H nodes stages q 15) (refusal 15 0) (if (meets B H nodes stages q 14) (refusal 14 0)
      (if (ltb (length buffer) (at + length (page_text B H nodes stages q))) (refusal 17 0) (refusal 0 0))))))
  judged d =
      let short = ltb (length buffer) (at + length (page_text B H nodes stages q)) in
      let m15 = meets B H nodes stages q 15 in
      let m14 = meets B H nodes stages q 14 in
      by_test (meets B H nodes stages q 13) (λ b. Row (left_by (if b (refusal 13 0) (if m15 (refusal 15 0) (if m14 (refusal 14 0) (if short (refusal 17 0) (refusal 0 0)))))))
      (λ t. let r = some 13 t in page_13 d r.1 r.2)
      (λ a. by_test m15 (λ b. Row (left_by (if b (refusal 15 0) (if m14 (refusal 14 0) (if short (refusal 17 0) (refusal 0 0))))))
      (λ t. let r = some 15 t in page_15 d (none 13 a) r.1 r.2)
      (λ b. by_test m14 (λ c. Row (left_by (if c (refusal 14 0) (if short (refusal 17 0) (refusal 0 0)))))
      (λ t. let r = some 14 t in page_14 d (none 13 a) (none 15 b) r.1 r.2)
      (λ c. by_test short (λ s. Row (left_by (if s (refusal 17 0) (refusal 0 0))))
      (λ s. page_17 d (none 13 a) (none 15 b) (none 14 c) (ltb→lt _ _ s))
      (λ s. page_0 d (none 13 a) (none 15 b) (none 14 c) (nltb→le _ _ s)))))

  pub page_row : Row (page B H nodes stages q buffer at)
  unfolding page page_refusal
  page_row =
      let rest = if (meets B H nodes stages q 13) (refusal 13 0) (if (meets B H nodes stages q 15) (refusal 15 0) (if (meets B H nodes stages q 14) (refusal 14 0)
      (if (ltb (length buffer) (at + length (page_text B H nodes stages q))) (refusal 17 0) (refusal 0 0)))) in
      by_early B H (length stages) (λ v b. Row (left_by (if (not b) v rest)))
      (λ p. judged (admitted p))
      (λ k p r. early_row k p r)
    where
      early_row : (k p : ℕ) → EarlyRow B H (length stages) k p → Row (left_by (refusal k p))
      early_row k p r = by_test (eqb k 0) (λ b. Row (if b done (refused_page B H nodes stages q buffer at k p))) (λ t. absurd (omega (arith, early_some r, eqb→eq k 0 t))) (λ _. page_1_10 r)

-- ---- and each row is the outcome

module _ (B : List ℕ) (H : ℕ) (nodes : List ℤ) (stages : List ℕ) (q : Asked) (buffer : List ℕ) (at : ℕ) where
  abbrev m : ℕ → Bool
  m = meets B H nodes stages q

  abbrev short : Bool
  short = ltb (length buffer) (at + length (page_text B H nodes stages q))

  -- what is left to judge behind 13, behind 15 and behind 14
  abbrev behind_14 : Verdict
  behind_14 = if short (refusal 17 0) (refusal 0 0)

  abbrev behind_15 : Verdict
  behind_15 = if (m 14) (refusal 14 0) behind_14

  abbrev behind_13 : Verdict
  behind_13 = if (m 15) (refusal 15 0) behind_15

  from_early : Verdict → Verdict
  from_early v = if (not (eqb v.number 0)) v (if (m 13) (refusal 13 0) behind_13)

  abbrev refuses : Verdict
  refuses = page_refusal B H nodes stages q (length buffer) at

  some_meets : {k h : ℕ} → Range 1 H h → (value_of B nodes stages h q).number ≡ k → T (m k)
  some_meets {k} {h} r e = by_test (m k) T (λ _. tt) (λ t. absurd (none B H nodes stages q buffer at k t h r e))

  none_meets : {k : ℕ} → Spared B H nodes stages q buffer at k → T (not (m k))
  none_meets {k} s = by_test (m k) (λ b. T (not b)) (λ t. let r = some B H nodes stages q buffer at k t in absurd (s r.0 r.1 r.2)) (λ _. tt)

  admitted_as : Admitted B H (length stages) → refuses ≡ if (m 13) (refusal 13 0) behind_13
  unfolding page_refusal from_early
  admitted_as d = ap from_early (admitted_is d)

  past_13 : Admitted B H (length stages) → Spared B H nodes stages q buffer at 13 → refuses ≡ behind_13
  past_13 d a = admitted_as d ∙ if_no (m 13) (refusal 13 0) behind_13 (none_meets a)

  past_15 : Admitted B H (length stages) → Spared B H nodes stages q buffer at 13 → Spared B H nodes stages q buffer at 15 → refuses ≡ behind_15
  past_15 d a b = past_13 d a ∙ if_no (m 15) (refusal 15 0) behind_15 (none_meets b)

  past_14 : Admitted B H (length stages) → Spared B H nodes stages q buffer at 13 → Spared B H nodes stages q buffer at 15 → Spared B H nodes stages q buffer at 14 → refuses ≡ behind_14
  past_14 d a b c = past_15 d a b ∙ if_no (m 14) (refusal 14 0) behind_14 (none_meets c)

  refused_as : (k p : ℕ) → 1 ≤ k → refuses ≡ refusal k p → page B H nodes stages q buffer at ≡ refused_page B H nodes stages q buffer at k p
  unfolding page
  refused_as k p h e = ap (left_by B H nodes stages q buffer at) e ∙ by_test (eqb k 0) (λ b. if b (done B H nodes stages q buffer at) (refused_page B H nodes stages q buffer at k p) ≡ refused_page B H nodes stages q buffer at k p)
      (λ t. absurd (omega (arith, eqb→eq k 0 t))) (λ _. refl)

  -- the page is each of its rows
  pub page_is : {o : ListingOut} → PageRow B H nodes stages q buffer at o → page B H nodes stages q buffer at ≡ o
  unfolding page page_refusal from_early
  page_is (page_0 d a b c l) = ap (left_by B H nodes stages q buffer at) (past_14 d a b c
      ∙ by_test short (λ x. if x (refusal 17 0) (refusal 0 0) ≡ refusal 0 0) (λ t. absurd (omega (arith, ltb→lt (length buffer) (at + length (page_text B H nodes stages q)) t))) (λ _. refl))
  page_is (page_1_10 {k = k} {p = p} r) = refused_as k p (early_some r) (ap from_early (early_is r)
      ∙ by_test (eqb k 0) (λ x. if (not x) (refusal k p) (if (m 13) (refusal 13 0) behind_13) ≡ refusal k p) (λ t. absurd (omega (arith, early_some r, eqb→eq k 0 t))) (λ _. refl))
  page_is (page_13 d r e) = refused_as 13 0 (omega arith) (admitted_as d ∙ if_yes (m 13) (refusal 13 0) behind_13 (some_meets r e))
  page_is (page_15 d a r e) = refused_as 15 0 (omega arith) (past_13 d a ∙ if_yes (m 15) (refusal 15 0) behind_15 (some_meets r e))
  page_is (page_14 d a b r e) = refused_as 14 0 (omega arith) (past_15 d a b ∙ if_yes (m 14) (refusal 14 0) behind_14 (some_meets r e))
  page_is (page_17 d a b c l) = refused_as 17 0 (omega arith) (past_14 d a b c
      ∙ by_test short (λ x. if x (refusal 17 0) (refusal 0 0) ≡ refusal 17 0) (λ _. refl) (λ t. absurd (omega (arith, nltb→le (length buffer) (at + length (page_text B H nodes stages q)) t))))

-- every outcome is one of the rows, and no two are rows of the same call
abbrev pub PageRows : Type 0
PageRows = (B : List ℕ) (H : ℕ) (nodes : List ℤ) (stages : List ℕ) (q : Asked) (buffer : List ℕ) (at : ℕ) (o : ListingOut)
    → PageRow B H nodes stages q buffer at o ↔ (page B H nodes stages q buffer at ≡ o)

pub page_rows : PageRows
page_rows B H nodes stages q buffer at o = (page_is B H nodes stages q buffer at, λ e. subst (PageRow B H nodes stages q buffer at) e (page_row B H nodes stages q buffer at))
