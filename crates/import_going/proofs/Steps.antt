-- One byte of each walk takes what is looked for one byte on.
use mathlib.Core.Path.{◌≡◌, refl, sym, ap, ◌∙◌, subst}
use mathlib.Core.Bool.{Bool, true, false}
use mathlib.Core.List.{List, ◌∷◌}
use Prim.Native.Nat.{ℕ, zero, suc, ◌+◌, ◌-◌, ◌≤◌, ◌<◌}
use native.Mathlib.Numerals.{add-one}
use native.Mathlib.Omega.{arith}
use lib.Dec.{eqb}
use lib.ListN.{length, get_or, drop, drop_of_length-le}
use lib.Seq.{drop-cons}
use borrow.Author.Tests.{ne_eqb, eq-eqb}
use Rattle.whole.specs.Cases.{if}
use Rattle.import_found.specs.Places.{Place, is_cond}
use Rattle.import_places.proofs.Steps.{not_zero, less_one}
use Rattle.std.specs.declared.ops.ControlFlow.{ControlFlow}
use Rattle.std.specs.declared.ops.ControlFlow.TheVariants.{Continue, Break}
use Rattle.std.specs.Prelude.{Some, None}
use Rattle.import_going.specs.Going.{is_mark, seen_of, upto, found_at, reached, Behind}

-- ---- a bracket

abbrev pub seen_after : List ℕ → ControlFlow Bool ℕ → Bool
seen_after w (Continue d) = is_cond w d
seen_after w (Break b) = b

alike : (w : List ℕ) (b : Bool) (x y : Bool) (x' y' : ControlFlow Bool ℕ) → x ≡ seen_after w x' → y ≡ seen_after w y' → if b x y ≡ seen_after w (if b x' y')
alike w true x y x' y' p q = p
alike w false x y x' y' p q = q

marks : (w : List ℕ) (d : ℕ) (a b c e : Bool) → if a true (if b true (if c true (if e true (is_cond w d)))) ≡ seen_after w (if (if a true (if b true (if c true e))) (Break true) (Continue d))
marks w d true b c e = refl
marks w d false true c e = refl
marks w d false false true e = refl
marks w d false false false true = refl
marks w d false false false false = refl

otherwise : (w : List ℕ) (x y : ControlFlow Bool ℕ) (b : Bool) → b ≡ false → seen_after w y ≡ seen_after w (if b x y)
otherwise w x y b e = sym (ap (λ (t : Bool). seen_after w (if t x y)) e)

one_seen : (k : ℕ) (w : List ℕ) (d : ℕ) → is_cond (k ∷ w) d ≡ seen_after w (seen_of d k)
unfolding is_cond seen_of is_mark
one_seen k w zero = alike w (eqb k 40) _ _ _ _ refl (alike w (eqb k 41) _ _ _ _ refl (marks w zero (eqb k 60) (eqb k 62) (eqb k 67) (eqb k 78)))
one_seen k w (suc d) =
    alike w (eqb k 40) _ _ _ _ (ap (is_cond w) (sym (add-one (suc d))))
    (alike w (eqb k 41) _ _ _ _ (ap (is_cond w) (less_one d) ∙ otherwise w (Break false) (Continue (suc d - 1)) (eqb (suc d) 0) (not_zero d))
    (marks w (suc d) (eqb k 60) (eqb k 62) (eqb k 67) (eqb k 78)))

pub on_seen : (text : List ℕ) (d i : ℕ) (t : ControlFlow Bool ℕ) → i < length text → t ≡ seen_of d (get_or text i 0) → is_cond (drop i text) d ≡ seen_after (drop (i + 1) text) t
on_seen text d i t h e =
    ap (λ (w : List ℕ). is_cond w d) (drop-cons text i 0 h) ∙ one_seen (get_or text i 0) (drop (suc i) text) d
    ∙ ap (seen_after (drop (suc i) text)) (sym e) ∙ ap (λ (j : ℕ). seen_after (drop j text) t) (sym (add-one i))

abbrev depth_after : ControlFlow Bool ℕ → ℕ
depth_after (Continue d) = d
depth_after (Break b) = 0

shallow : (n : ℕ) (b : Bool) (x y : ControlFlow Bool ℕ) → depth_after x ≤ n → depth_after y ≤ n → depth_after (if b x y) ≤ n
shallow n true x y p q = p
shallow n false x y p q = q

seen_depth : (d k : ℕ) → depth_after (seen_of d k) ≤ d + 1
unfolding seen_of
seen_depth d k =
    shallow (d + 1) (eqb k 40) _ _ (omega arith)
    (shallow (d + 1) (eqb k 41) _ _ (shallow (d + 1) (eqb d 0) _ _ (omega arith) (omega arith)) (shallow (d + 1) (is_mark k) _ _ (omega arith) (omega arith)))

pub on_depth : (d e k : ℕ) → Continue e ≡ seen_of d k → e ≤ d + 1
on_depth d e k q = subst (λ (t : ControlFlow Bool ℕ). depth_after t ≤ d + 1) (sym q) (seen_depth d k)

pub record Seeing (text : List ℕ) (meant : Bool) (d i : ℕ) : Type 0 where
  pub within : i ≤ length text
  pub shallows : d ≤ i
  pub rest : is_cond (drop i text) d ≡ meant

pub seen_end : (text : List ℕ) (meant : Bool) (d i : ℕ) → Seeing text meant d i → length text ≤ i → false ≡ meant
unfolding is_cond
seen_end text meant d i a h = ap (λ (w : List ℕ). is_cond w d) (sym (drop_of_length-le text h)) ∙ a.rest

-- ---- behind a byte

pub record Passing (c : ℕ) (text : List ℕ) (from i : ℕ) : Type 0 where
  pub within : i ≤ length text
  pub rest : (K : List ℕ → Place) → upto c K (drop i text) ≡ upto c K (drop from text)

one_passed : (c k : ℕ) (K : List ℕ → Place) (w : List ℕ) (b : Bool) → eqb k c ≡ b → upto c K (k ∷ w) ≡ if b (K w) (upto c K w)
unfolding upto
one_passed c k K w b e = ap (λ (t : Bool). if t (K w) (upto c K w)) e

at_byte : (c : ℕ) (text : List ℕ) (i : ℕ) (b : Bool) → i < length text → eqb (get_or text i 0) c ≡ b → (K : List ℕ → Place)
    → upto c K (drop i text) ≡ if b (K (drop (i + 1) text)) (upto c K (drop (i + 1) text))
at_byte c text i b h e K =
    ap (upto c K) (drop-cons text i 0 h) ∙ one_passed c (get_or text i 0) K (drop (suc i) text) b e
    ∙ ap (λ (j : ℕ). if b (K (drop j text)) (upto c K (drop j text))) (sym (add-one i))

pub pass_on : (c : ℕ) (text : List ℕ) (from i : ℕ) → Passing c text from i → i < length text → (get_or text i 0 ≡ c → ⊥) → Passing c text from (i + 1)
pass_on c text from i p h n = record { within = omega (arith, h); rest = λ K. sym (at_byte c text i false h (ne_eqb _ _ n) K) ∙ p.rest K }

pub pass_found : (c : ℕ) (text : List ℕ) (from i : ℕ) → Passing c text from i → i < length text → get_or text i 0 ≡ c → Behind c text from (Some (i + 1))
unfolding found_at reached
pass_found c text from i p h e = record { place = λ K. sym (at_byte c text i true h (eq-eqb _ _ e) K) ∙ p.rest K; within = omega (arith, h) }

pub pass_end : (c : ℕ) (text : List ℕ) (from i : ℕ) → Passing c text from i → length text ≤ i → Behind c text from None
unfolding found_at reached upto
pass_end c text from i p h = record { place = λ K. ap (upto c K) (sym (drop_of_length-le text h)) ∙ p.rest K; within = omega arith }
