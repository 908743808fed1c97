-- One byte on the way to an atom takes what is looked for one byte on.
use mathlib.Core.Path.{◌≡◌, refl, sym, ap, ◌∙◌, subst}
use mathlib.Core.Bool.{Bool, true, false, not}
use mathlib.Core.List.{List, [], ◌∷◌}
use Prim.Native.Nat.{ℕ, zero, suc, ◌+◌, ◌*◌, ◌/◌, ◌%◌, ◌≤◌, ◌<◌}
use native.Mathlib.Numerals.{add-one}
use native.Mathlib.Omega.{arith}
use lib.Dec.{eqb, leb, leb→le, nleb→lt}
use lib.ListN.{length, get_or, drop, drop_of_length-le}
use lib.Seq.{drop-cons}
use borrow.Author.Tests.{ne_eqb, eq-eqb}
use Rattle.whole.specs.Cases.{if, by_test, by_eq}
use Rattle.import_found.specs.Places.{Place, atom_at, result_at, lost, is_space, is_cond, after_colon, next_case, go, TooDeep}
use Rattle.import_found.proofs.laws.Depth.{go_deep}
use Rattle.import_places.specs.declared.Next.{Next}
use Rattle.import_places.specs.declared.Next.TheVariants.{Go as GoAt, Result as ResultTo, NextCase as NextCaseAt, Lost as LostTo}
use Rattle.import_places.specs.Walking.{signs, two_to, meant, PlaceComes}
use Rattle.import_places.specs.laws.Signs.{signs_length}
use Rattle.import_places.proofs.Steps.{not_zero}
use Rattle.import_going.specs.declared.turning.Going.{Going}
use Rattle.import_going.specs.declared.turning.Turn.{Turn}
use Rattle.import_going.specs.declared.turning.Turn.TheVariants.{On, Atom, Else, Deep, Lost}
use Rattle.import_going.specs.declared.start.Spot.{Spot}
use Rattle.import_going.specs.declared.start.Spot.TheVariants.{Atom as AtomAt, Result as ResultAt, Lost as LostAt, Deep as DeepAt}
use Rattle.std.specs.Prelude.{Option, Some, None}
use Rattle.import_going.specs.Going.{upto, found_at, reached, Behind}
use Rattle.import_going.specs.Turns.{bit_of, opened_of, turn_of, cond_at, Spotted}

-- ---- bits

pub bit_most : (b : Bool) → bit_of b ≤ 1
bit_most true = omega arith
bit_most false = omega arith

low_bit : (m : ℕ) (b : Bool) → (eqb ((m * 2 + bit_of b) % 2) 1 ≡ b) × ((m * 2 + bit_of b) / 2 ≡ m)
low_bit m true = (eq-eqb ((m * 2 + 1) % 2) 1 (omega arith), omega arith)
low_bit m false = (ne_eqb ((m * 2 + 0) % 2) 1 (λ e. omega (arith, e)), omega arith)

signs_push : (m c : ℕ) (b : Bool) → b ∷ signs m c ≡ signs (m * 2 + bit_of b) (c + 1)
unfolding signs
signs_push m c b = let d = low_bit m b in sym (ap (signs (m * 2 + bit_of b)) (add-one c) ∙ (λ i. d.0 i ∷ signs (d.1 i) c))

-- ---- one byte

abbrev pub from_going : List ℕ → Going → Place
from_going w s = go w s.sign (signs s.mask s.count)

-- what an answer to byte k says of the place that is meant: w is behind the byte
abbrev pub Meets : Place → ℕ → List ℕ → Going → Turn → Type 0
Meets p k w s (On t) = p ≡ from_going w t
Meets p k w s Atom = p ≡ atom_at s.sign (signs s.mask s.count) (k ∷ w)
Meets p k w s Else = p ≡ after_colon w
Meets p k w s Deep = TooDeep p
Meets p k w s Lost = p ≡ lost

meets_if : (k : ℕ) (w : List ℕ) (s : Going) (b : Bool) (x y : Place) (t u : Turn) → Meets x k w s t → Meets y k w s u → Meets (if b x y) k w s (if b t u)
meets_if k w s true x y t u p q = p
meets_if k w s false x y t u p q = q

else_meets : (k : ℕ) (w : List ℕ) (s : Going) (m c : ℕ) → Meets (elim (signs m c) as (λ _. Place) [ [] ↦ after_colon w | p ∷ qs ↦ lost ]) k w s (if (eqb c 0) Else Lost)
unfolding signs
else_meets k w s m zero = refl
else_meets k w s m (suc c) = subst (λ (b : Bool). Meets lost k w s (if b Else Lost)) (sym (not_zero c)) refl

open_meets : (k : ℕ) (w : List ℕ) (s : Going) → Meets (go w false (s.sign ∷ signs s.mask s.count)) k w s (opened_of s)
unfolding opened_of
open_meets k w s = by_test (leb 32 s.count)
    (λ b. Meets (go w false (s.sign ∷ signs s.mask s.count)) k w s (if b Deep (On (record { sign = false; mask = s.mask * 2 + bit_of s.sign; count = s.count + 1 }))))
    (λ t. go_deep w false (s.sign ∷ signs s.mask s.count) (omega (arith, leb→le 32 s.count t, signs_length s.mask s.count)))
    (λ _. ap (go w false) (signs_push s.mask s.count s.sign))

one_turn : (k : ℕ) (w : List ℕ) (s : Going) (c : Bool) → c ≡ if (eqb k 40) (is_cond w 0) false → Meets (from_going (k ∷ w) s) k w s (turn_of s k c)
unfolding go turn_of
one_turn k w s c e =
    let rest : Meets (if (eqb k 101) (elim (signs s.mask s.count) as (λ _. Place) [ [] ↦ after_colon w | p ∷ qs ↦ lost ]) (if (is_space k) (from_going w s) (atom_at s.sign (signs s.mask s.count) (k ∷ w)))) k w s
    (if (eqb k 101) (if (eqb s.count 0) Else Lost) (if (is_space k) (On s) Atom)) =
    meets_if k w s (eqb k 101) _ _ _ _ (else_meets k w s s.mask s.count) (meets_if k w s (is_space k) _ _ (On s) Atom refl refl) in
    meets_if k w s (eqb k 33) _ _ (On (record { sign = not s.sign; mask = s.mask; count = s.count })) _ refl
    (by_eq (eqb k 40)
    (λ b. eqb k 40 ≡ b → Meets (if b (if (is_cond w 0) (go w false (s.sign ∷ signs s.mask s.count)) (atom_at s.sign (signs s.mask s.count) (k ∷ w)))
    (if (eqb k 101) (elim (signs s.mask s.count) as (λ _. Place) [ [] ↦ after_colon w | p ∷ qs ↦ lost ]) (if (is_space k) (from_going w s) (atom_at s.sign (signs s.mask s.count) (k ∷ w))))) k w s
    (if b (if c (opened_of s) Atom) (if (eqb k 101) (if (eqb s.count 0) Else Lost) (if (is_space k) (On s) Atom))))
    (λ _ q. subst (λ (d : Bool). Meets (if (is_cond w 0) (go w false (s.sign ∷ signs s.mask s.count)) (atom_at s.sign (signs s.mask s.count) (k ∷ w))) k w s (if d (opened_of s) Atom))
    (sym (e ∙ ap (λ (b : Bool). if b (is_cond w 0) false) q)) (meets_if k w s (is_cond w 0) _ _ (opened_of s) Atom (open_meets k w s) refl))
    (λ _ _. rest) refl)

-- ---- the loop

pub record Reaching (text : List ℕ) (p : Place) (s : Going) (i : ℕ) : Type 0 where
  pub within : i ≤ length text
  pub low : s.mask < two_to s.count
  pub rest : from_going (drop i text) s ≡ p

pub on_turn : (text : List ℕ) (p : Place) (s : Going) (i : ℕ) (t : Turn) (c : Bool) → i < length text → c ≡ cond_at text i (get_or text i 0) → t ≡ turn_of s (get_or text i 0) c
    → Reaching text p s i → Meets p (get_or text i 0) (drop (suc i) text) s t
unfolding cond_at
on_turn text p s i t c h e q r =
    let k = get_or text i 0 in
    let w = drop (suc i) text in
    let cond : c ≡ if (eqb k 40) (is_cond w 0) false = e ∙ ap (λ (j : ℕ). if (eqb k 40) (is_cond (drop j text) 0) false) (add-one i) in
    let place : from_going (k ∷ w) s ≡ p = ap (λ (l : List ℕ). from_going l s) (sym (drop-cons text i 0 h)) ∙ r.rest in
    subst (λ (t : Turn). Meets p k w s t) (sym q) (subst (λ (p : Place). Meets p k w s (turn_of s k c)) place (one_turn k w s c cond))

abbrev LowAfter : Turn → Type 0
LowAfter (On t) = t.mask < two_to t.count
LowAfter Atom = Unit {0}
LowAfter Else = Unit {0}
LowAfter Deep = Unit {0}
LowAfter Lost = Unit {0}

low_if : (b : Bool) (t u : Turn) → LowAfter t → LowAfter u → LowAfter (if b t u)
low_if true t u p q = p
low_if false t u p q = q

push_low : (m c : ℕ) (b : Bool) → m < two_to c → m * 2 + bit_of b < two_to (c + 1)
unfolding two_to
push_low m c b h = subst (λ (k : ℕ). m * 2 + bit_of b < two_to k) (sym (add-one c)) (omega (arith, h, bit_most b))

turn_low : (s : Going) (k : ℕ) (c : Bool) → s.mask < two_to s.count → LowAfter (turn_of s k c)
unfolding turn_of opened_of
turn_low s k c h =
    low_if (eqb k 33) (On (record { sign = not s.sign; mask = s.mask; count = s.count })) _ h
    (low_if (eqb k 40) _ _ (low_if c _ _ (low_if (leb 32 s.count) Deep (On (record { sign = false; mask = s.mask * 2 + bit_of s.sign; count = s.count + 1 })) tt (push_low s.mask s.count s.sign h)) tt)
    (low_if (eqb k 101) _ _ (low_if (eqb s.count 0) Else Lost tt tt) (low_if (is_space k) (On s) Atom h tt)))

pub goes_on : (text : List ℕ) (p : Place) (s g : Going) (i : ℕ) (c : Bool) → i < length text → c ≡ cond_at text i (get_or text i 0) → On g ≡ turn_of s (get_or text i 0) c → Reaching text p s i → Reaching text p g (i + 1)
goes_on text p s g i c h e q r = record {
  within = omega (arith, h);
  low = subst LowAfter (sym q) (turn_low s (get_or text i 0) c r.low);
  rest = ap (λ (j : ℕ). from_going (drop j text) g) (add-one i) ∙ sym (on_turn text p s i (On g) c h e q r);
}

pub atom_spotted : (text : List ℕ) (p : Place) (s : Going) (i : ℕ) (c : Bool) → i < length text → c ≡ cond_at text i (get_or text i 0) → Atom ≡ turn_of s (get_or text i 0) c → Reaching text p s i
    → Spotted text p (AtomAt i s.sign s.mask s.count)
atom_spotted text p s i c h e q r = (on_turn text p s i Atom c h e q r ∙ ap (atom_at s.sign (signs s.mask s.count)) (sym (drop-cons text i 0 h)), (h, r.low))

pub else_spotted : (text : List ℕ) (p : Place) (s : Going) (i : ℕ) (c : Bool) (o : Spot) → i < length text → c ≡ cond_at text i (get_or text i 0) → Else ≡ turn_of s (get_or text i 0) c → Reaching text p s i
    → Spotted text (after_colon (drop (i + 1) text)) o → Spotted text p o
else_spotted text p s i c o h e q r d =
    subst (λ (p : Place). Spotted text p o) (ap (λ (j : ℕ). after_colon (drop j text)) (add-one i) ∙ sym (on_turn text p s i Else c h e q r)) d

pub deep_spotted : (text : List ℕ) (p : Place) (s : Going) (i : ℕ) (c : Bool) → i < length text → c ≡ cond_at text i (get_or text i 0) → Deep ≡ turn_of s (get_or text i 0) c → Reaching text p s i → Spotted text p DeepAt
deep_spotted text p s i c h e q r = on_turn text p s i Deep c h e q r

pub lost_spotted : (text : List ℕ) (p : Place) (s : Going) (i : ℕ) (c : Bool) → i < length text → c ≡ cond_at text i (get_or text i 0) → Lost ≡ turn_of s (get_or text i 0) c → Reaching text p s i → Spotted text p LostAt
lost_spotted text p s i c h e q r = on_turn text p s i Lost c h e q r

pub end_spotted : (text : List ℕ) (p : Place) (s : Going) (i : ℕ) → Reaching text p s i → length text ≤ i → Spotted text p LostAt
unfolding go
end_spotted text p s i r h = sym r.rest ∙ ap (λ (w : List ℕ). from_going w s) (drop_of_length-le text h)

-- ---- behind a byte

colon_upto : (w : List ℕ) → after_colon w ≡ upto 58 result_at w
unfolding after_colon upto
colon_upto [] = refl
colon_upto (k ∷ w) = ap (λ (p : Place). if (eqb k 58) (result_at w) p) (colon_upto w)

case_upto : (w : List ℕ) → next_case w ≡ upto 59 (λ v. go v false []) w
unfolding next_case upto
case_upto [] = refl
case_upto (k ∷ w) = ap (λ (p : Place). if (eqb k 59) (go w false []) p) (case_upto w)

pub colon_found : (text : List ℕ) (from i : ℕ) (f : Option ℕ) → f ≡ Some i → Behind 58 text from f → Spotted text (after_colon (drop from text)) (ResultAt i)
unfolding found_at reached
colon_found text from i f e g = let b = subst (Behind 58 text from) e g in (colon_upto (drop from text) ∙ sym (b.place result_at), b.within)

pub colon_not : (text : List ℕ) (from : ℕ) (f : Option ℕ) → f ≡ None → Behind 58 text from f → Spotted text (after_colon (drop from text)) LostAt
unfolding found_at
colon_not text from f e g = let b = subst (Behind 58 text from) e g in colon_upto (drop from text) ∙ sym (b.place result_at)

pub case_within : (text : List ℕ) (from i : ℕ) (f : Option ℕ) → f ≡ Some i → Behind 59 text from f → i ≤ length text
unfolding reached
case_within text from i f e g = (subst (Behind 59 text from) e g).within

pub case_found : (text : List ℕ) (from i : ℕ) (o : Spot) (f : Option ℕ) → f ≡ Some i → Behind 59 text from f → Spotted text (go (drop i text) false (signs 0 0)) o → Spotted text (next_case (drop from text)) o
unfolding found_at signs
case_found text from i o f e g d = let b = subst (Behind 59 text from) e g in subst (λ (p : Place). Spotted text p o) (b.place (λ v. go v false []) ∙ sym (case_upto (drop from text))) d

pub case_not : (text : List ℕ) (from : ℕ) (f : Option ℕ) → f ≡ None → Behind 59 text from f → Spotted text (next_case (drop from text)) LostAt
unfolding found_at
case_not text from f e g = let b = subst (Behind 59 text from) e g in case_upto (drop from text) ∙ sym (b.place (λ v. go v false []))

-- ---- the code's tests

pub too_deep : (s : Going) → 32 ≤ s.count → Deep ≡ opened_of s
unfolding opened_of
too_deep s h = by_test (leb 32 s.count) (λ b. Deep ≡ if b Deep (On (record { sign = false; mask = s.mask * 2 + bit_of s.sign; count = s.count + 1 }))) (λ _. refl) (λ n. absurd (omega (arith, h, nleb→lt 32 s.count n)))

pub not_deep : (s : Going) (b : ℕ) → s.count < 32 → b ≡ bit_of s.sign → On (record { sign = false; mask = s.mask * 2 + b; count = s.count + 1 }) ≡ opened_of s
unfolding opened_of
not_deep s b h e = by_test (leb 32 s.count) (λ t. On (record { sign = false; mask = s.mask * 2 + b; count = s.count + 1 }) ≡ if t Deep (On (record { sign = false; mask = s.mask * 2 + bit_of s.sign; count = s.count + 1 })))
    (λ t. absurd (omega (arith, h, leb→le 32 s.count t))) (λ _. ap (λ (n : ℕ). On (record { sign = false; mask = s.mask * 2 + n; count = s.count + 1 })) e)

-- ---- once an atom is decided

pub comes_go : (text : List ℕ) (p : Place) (i m c : ℕ) (o : Spot) (n : Next) → n ≡ GoAt i m c → PlaceComes text p n → Spotted text (go (drop i text) false (signs m c)) o → Spotted text p o
unfolding meant
comes_go text p i m c o n e g d = subst (λ (p : Place). Spotted text p o) (subst (PlaceComes text p) e g).place d

pub go_inside : (text : List ℕ) (p : Place) (i m c : ℕ) (n : Next) → n ≡ GoAt i m c → PlaceComes text p n → (i ≤ length text) × (m < two_to c)
go_inside text p i m c n e g = (subst (PlaceComes text p) e g).inside

pub comes_result : (text : List ℕ) (p : Place) (i : ℕ) (n : Next) → n ≡ ResultTo i → PlaceComes text p n → Spotted text p (ResultAt i)
unfolding meant
comes_result text p i n e g = let b = subst (PlaceComes text p) e g in (sym b.place, b.inside)

pub comes_case : (text : List ℕ) (p : Place) (i : ℕ) (o : Spot) (n : Next) → n ≡ NextCaseAt i → PlaceComes text p n → Spotted text (next_case (drop i text)) o → Spotted text p o
unfolding meant
comes_case text p i o n e g d = subst (λ (p : Place). Spotted text p o) (subst (PlaceComes text p) e g).place d

pub case_inside : (text : List ℕ) (p : Place) (i : ℕ) (n : Next) → n ≡ NextCaseAt i → PlaceComes text p n → i ≤ length text
case_inside text p i n e g = (subst (PlaceComes text p) e g).inside

pub comes_lost : (text : List ℕ) (p : Place) (n : Next) → n ≡ LostTo → PlaceComes text p n → Spotted text p LostAt
unfolding meant
comes_lost text p n e g = sym (subst (PlaceComes text p) e g).place
