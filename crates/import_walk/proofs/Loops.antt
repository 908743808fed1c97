-- The loops' invariants, and what keeps them.
use mathlib.Core.Path.{◌≡◌, refl, sym, ap, ◌∙◌, subst}
use mathlib.Core.Bool.{Bool, true, false}
use mathlib.Core.List.{List, [], ◌∷◌}
use Prim.Native.Nat.{ℕ, zero, suc, ◌+◌, ◌*◌, ◌-◌, ◌≤◌, ◌<◌, min}
use native.Mathlib.Numerals.{add-one}
use native.Mathlib.Omega.{arith}
use lib.Dec.{eqb, leb, leb→le, nleb→lt}
use lib.ListN.{length, get_or, drop, drop_of_length-le}
use lib.Seq.{drop-cons, drop-drop}
use borrow.Author.Tests.{ne_eqb, eq-eqb}
use Rattle.whole.specs.Cases.{if, by_test}
use Rattle.import_model.specs.Commands.{at_most}
use Rattle.import_state.specs.Bytes.{blank}
use Rattle.import_parts.specs.Walk.{past, is_letter, next_letter, goes_on, grown, number_value, number_rest, spells, spelled, string_rest}
use Rattle.import_parts.specs.laws.Meets.{small, great}
use Rattle.import_walk.specs.declared.number.Number.{Number}
use Rattle.import_walk.specs.Onward.{Onward, Ahead, NumberAt}
use Rattle.import_walk.specs.Scans.{stops, turned, scan_rest}

-- ---- n bytes on

pub ahead_in : (w : List ℕ) (at n : ℕ) → at ≤ length w → n < length w - at → Ahead w at n (at + n)
ahead_in w at n a h = record { to = record { stands = record { within = omega (arith, h); rest = sym (drop-drop n at w) }; on = omega arith }; moves = λ p q. omega (arith, q) }

pub ahead_out : (w : List ℕ) (at n : ℕ) → at ≤ length w → length w - at ≤ n → Ahead w at n (length w)
ahead_out w at n a h = record {
  to = record { stands = record { within = omega arith; rest = drop_of_length-le w {i = length w} (omega arith) ∙ sym (drop-drop n at w ∙ drop_of_length-le w {i = at + n} (omega (arith, a, h))) }; on = a };
  moves = λ p q. p;
}

-- ---- a scan that stops at a byte

pub record Scanning (string : Bool) (text : List ℕ) (from : ℕ) (b : Bool) (i : ℕ) : Type 0 where
  pub within : i ≤ length text
  pub on : from ≤ i
  pub rest : scan_rest string b (drop i text) ≡ scan_rest string false (drop from text)

one_byte : (string b : Bool) (k : ℕ) (w : List ℕ) → scan_rest string b (k ∷ w) ≡ if (stops string b k) (k ∷ w) (scan_rest string (turned string b k) w)
unfolding string_rest next_letter
one_byte true b k w = refl
one_byte false b k w = refl

nothing : (string b : Bool) → scan_rest string b [] ≡ []
unfolding string_rest next_letter
nothing true b = refl
nothing false b = refl

at_byte : (string : Bool) (text : List ℕ) (b c : Bool) (i : ℕ) → i < length text → stops string b (get_or text i 0) ≡ c
    → scan_rest string b (drop i text) ≡ if c (drop i text) (scan_rest string (turned string b (get_or text i 0)) (drop (i + 1) text))
at_byte string text b c i h e =
    ap (scan_rest string b) (drop-cons text i 0 h) ∙ one_byte string b (get_or text i 0) (drop (suc i) text)
    ∙ (λ j. if (e j) (sym (drop-cons text i 0 h) j) (scan_rest string (turned string b (get_or text i 0)) (drop (sym (add-one i) j) text)))

pub scan_on : (string : Bool) (text : List ℕ) (from : ℕ) (b b' : Bool) (i : ℕ) → Scanning string text from b i → i < length text → stops string b (get_or text i 0) ≡ false → b' ≡ turned string b (get_or text i 0)
    → Scanning string text from b' (i + 1)
scan_on string text from b b' i s h e t = record {
  within = omega (arith, h);
  on = let a = s.on in omega (arith, a);
  rest = ap (λ (x : Bool). scan_rest string x (drop (i + 1) text)) t ∙ sym (at_byte string text b false i h e) ∙ s.rest;
}

pub scan_here : (string : Bool) (text : List ℕ) (from : ℕ) (b : Bool) (i : ℕ) → Scanning string text from b i → i < length text → stops string b (get_or text i 0) ≡ true
    → Onward text from i (scan_rest string false (drop from text))
scan_here string text from b i s h e = record { stands = record { within = s.within; rest = sym (at_byte string text b true i h e) ∙ s.rest }; on = s.on }

pub scan_end : (string : Bool) (text : List ℕ) (from : ℕ) (b : Bool) (i : ℕ) → Scanning string text from b i → length text ≤ i → Onward text from (length text) (scan_rest string false (drop from text))
scan_end string text from b i s h = record {
  stands = record { within = omega arith; rest = drop_of_length-le text {i = length text} (omega arith) ∙ sym (nothing string b) ∙ ap (scan_rest string b) (sym (drop_of_length-le text h)) ∙ s.rest };
  on = let a = s.on in let e = s.within in omega arith;
}

-- ---- behind a byte

pub record Passing (c : ℕ) (text : List ℕ) (from i : ℕ) : Type 0 where
  pub within : i ≤ length text
  pub on : from ≤ i
  pub rest : past c (drop i text) ≡ past c (drop from text)

past_byte : (c : ℕ) (text : List ℕ) (i : ℕ) (b : Bool) → i < length text → eqb (get_or text i 0) c ≡ b → past c (drop i text) ≡ if b (drop (i + 1) text) (past c (drop (i + 1) text))
unfolding past
past_byte c text i b h e =
    ap (past c) (drop-cons text i 0 h) ∙ ap (λ (t : Bool). if t (drop (suc i) text) (past c (drop (suc i) text))) e
    ∙ ap (λ (j : ℕ). if b (drop j text) (past c (drop j text))) (sym (add-one i))

pub past_on : (c : ℕ) (text : List ℕ) (from i : ℕ) → Passing c text from i → i < length text → (get_or text i 0 ≡ c → ⊥) → Passing c text from (i + 1)
past_on c text from i p h n = record { within = omega (arith, h); on = let a = p.on in omega (arith, a); rest = sym (past_byte c text i false h (ne_eqb _ _ n)) ∙ p.rest }

pub past_found : (c : ℕ) (text : List ℕ) (from i : ℕ) → Passing c text from i → i < length text → get_or text i 0 ≡ c → Onward text from (i + 1) (past c (drop from text))
past_found c text from i p h e = record {
  stands = record { within = omega (arith, h); rest = sym (past_byte c text i true h (eq-eqb _ _ e)) ∙ p.rest };
  on = let a = p.on in omega (arith, a);
}

pub past_end : (c : ℕ) (text : List ℕ) (from i : ℕ) → Passing c text from i → length text ≤ i → Onward text from (length text) (past c (drop from text))
unfolding past
past_end c text from i p h = record {
  stands = record { within = omega arith; rest = drop_of_length-le text {i = length text} (omega arith) ∙ ap (past c) (sym (drop_of_length-le text h)) ∙ p.rest };
  on = let a = p.on in let e = p.within in omega arith;
}

-- ---- numbers

pub grown_blank : (m v k : ℕ) → blank k ≡ true → v ≡ grown m v k
unfolding grown blank
grown_blank m v k e = sym (ap (λ (b : Bool). if b v (at_most m (v * 10 + (k - 48)))) e)

grown_digit : (m v k d : ℕ) → blank k ≡ false → d ≡ k - 48 → at_most m (v * 10 + d) ≡ grown m v k
unfolding grown blank
grown_digit m v k d e q = ap (λ (x : ℕ). at_most m (v * 10 + x)) q ∙ sym (ap (λ (b : Bool). if b v (at_most m (v * 10 + (k - 48)))) e)

least_is : (m x : ℕ) → min m x ≡ at_most m x
least_is m x = by_test (leb x m) (λ _. min m x ≡ at_most m x)
    (λ t. let h = leb→le x m t in let q : min m x ≡ x = omega (arith, h) in q ∙ sym (small m x h))
    (λ t. let h = nleb→lt x m t in let q : min m x ≡ m = omega (arith, h) in q ∙ sym (great m x (omega (arith, h))))

pub grown_least : (m v k d : ℕ) {e r : ℕ} → blank k ≡ false → d ≡ k - 48 → e ≡ d → r ≡ min m (v * 10 + e) → r ≡ grown m v k
grown_least m v k d {e} n q f g = g ∙ least_is m (v * 10 + e) ∙ grown_digit m v k e n (f ∙ q)

pub record Counting (text : List ℕ) (from most v i : ℕ) : Type 0 where
  pub within : i ≤ length text
  pub on : from ≤ i
  pub least : v ≤ most
  pub value : number_value most v (drop i text) ≡ number_value most 0 (drop from text)
  pub rest : number_rest (drop i text) ≡ number_rest (drop from text)

value_byte : (text : List ℕ) (most v i : ℕ) (b : Bool) → i < length text → goes_on (get_or text i 0) ≡ b
    → number_value most v (drop i text) ≡ if b (number_value most (grown most v (get_or text i 0)) (drop (i + 1) text)) v
unfolding number_value
value_byte text most v i b h e =
    ap (number_value most v) (drop-cons text i 0 h)
    ∙ (λ j. if (e j) (number_value most (grown most v (get_or text i 0)) (drop (sym (add-one i) j) text)) v)

rest_byte : (text : List ℕ) (i : ℕ) (b : Bool) → i < length text → goes_on (get_or text i 0) ≡ b → number_rest (drop i text) ≡ if b (number_rest (drop (i + 1) text)) (drop i text)
unfolding number_rest
rest_byte text i b h e =
    ap number_rest (drop-cons text i 0 h) ∙ (λ j. if (e j) (number_rest (drop (sym (add-one i) j) text)) (sym (drop-cons text i 0 h) j))

pub count_on : (text : List ℕ) (from most v v' i : ℕ) → Counting text from most v i → i < length text → goes_on (get_or text i 0) ≡ true → v' ≡ grown most v (get_or text i 0) → v' ≤ most
    → Counting text from most v' (i + 1)
count_on text from most v v' i s h e t l = record {
  within = omega (arith, h);
  on = let a = s.on in omega (arith, a);
  least = l;
  value = ap (λ (x : ℕ). number_value most x (drop (i + 1) text)) t ∙ sym (value_byte text most v i true h e) ∙ s.value;
  rest = sym (rest_byte text i true h e) ∙ s.rest;
}

pub count_here : (text : List ℕ) (from most v i : ℕ) → Counting text from most v i → i < length text → goes_on (get_or text i 0) ≡ false → (r : Number) → r.value ≡ v → r.next ≡ i → NumberAt text from most r
count_here text from most v i s h e r p q = record {
  value = p ∙ sym (value_byte text most v i false h e) ∙ s.value;
  next = subst (λ (j : ℕ). Onward text from j (number_rest (drop from text))) (sym q) (record { stands = record { within = s.within; rest = sym (rest_byte text i false h e) ∙ s.rest }; on = s.on });
}

pub count_end : (text : List ℕ) (from most v i : ℕ) → Counting text from most v i → length text ≤ i → (r : Number) → r.value ≡ v → r.next ≡ length text → NumberAt text from most r
unfolding number_value number_rest
count_end text from most v i s h r p q = record {
  value = p ∙ ap (number_value most v) (sym (drop_of_length-le text h)) ∙ s.value;
  next = subst (λ (j : ℕ). Onward text from j (number_rest (drop from text))) (sym q)
      (record {
        stands = record { within = omega arith; rest = drop_of_length-le text {i = length text} (omega arith) ∙ ap number_rest (sym (drop_of_length-le text h)) ∙ s.rest };
        on = let a = s.on in let e = s.within in omega arith;
      });
}

-- ---- the characters of a name

pub record Spelling (text : List ℕ) (from j left : ℕ) (q : Bool) (i : ℕ) : Type 0 where
  pub within : i ≤ length text
  pub rest : get_or (spelled q (drop i text)) left 0x20 ≡ get_or (spelled false (drop from text)) j 0x20

spell_byte : (text : List ℕ) (q b : Bool) (i : ℕ) → i < length text → spells q (get_or text i 0) ≡ b
    → spelled q (drop i text) ≡ if b (get_or text i 0 ∷ spelled false (drop (i + 1) text)) (if q [] (spelled true (drop (i + 1) text)))
unfolding spelled
spell_byte text q b i h e =
    ap (spelled q) (drop-cons text i 0 h)
    ∙ (λ j. if (e j) (get_or text i 0 ∷ spelled false (drop (sym (add-one i) j) text)) (if q [] (spelled true (drop (sym (add-one i) j) text))))

pub spell_here : (text : List ℕ) (from j left : ℕ) (q : Bool) (i : ℕ) → Spelling text from j left q i → i < length text → spells q (get_or text i 0) ≡ true → left ≡ 0
    → get_or text i 0 ≡ get_or (spelled false (drop from text)) j 0x20
spell_here text from j left q i s h e z =
    ap (λ (n : ℕ). get_or (get_or text i 0 ∷ spelled false (drop (i + 1) text)) n 0x20) (sym z) ∙ ap (λ (l : List ℕ). get_or l left 0x20) (sym (spell_byte text q true i h e)) ∙ s.rest

next_of : (k : ℕ) (l : List ℕ) (left : ℕ) → (left ≡ 0 → ⊥) → get_or l (left - 1) 0x20 ≡ get_or (k ∷ l) left 0x20
next_of k l zero z = absurd (z refl)
next_of k l (suc n) z = ap (λ (x : ℕ). get_or l x 0x20) (less_one n)
  where
    less_one : (n : ℕ) → suc n - 1 ≡ n
    less_one n = omega arith

pub spell_on : (text : List ℕ) (from j left : ℕ) (q : Bool) (i : ℕ) → Spelling text from j left q i → i < length text → spells q (get_or text i 0) ≡ true → (left ≡ 0 → ⊥) → Spelling text from j (left - 1) false (i + 1)
spell_on text from j left q i s h e z = record {
  within = omega (arith, h);
  rest = next_of (get_or text i 0) (spelled false (drop (i + 1) text)) left z ∙ ap (λ (l : List ℕ). get_or l left 0x20) (sym (spell_byte text q true i h e)) ∙ s.rest;
}

pub spell_behind : (text : List ℕ) (from j left : ℕ) (q : Bool) (i : ℕ) → Spelling text from j left q i → i < length text → spells q (get_or text i 0) ≡ false → q ≡ true → 0x20 ≡ get_or (spelled false (drop from text)) j 0x20
spell_behind text from j left q i s h e z =
    ap (λ (b : Bool). get_or (if b [] (spelled true (drop (i + 1) text))) left 0x20) (sym z) ∙ ap (λ (l : List ℕ). get_or l left 0x20) (sym (spell_byte text q false i h e)) ∙ s.rest

pub spell_quoted : (text : List ℕ) (from j left : ℕ) (q : Bool) (i : ℕ) → Spelling text from j left q i → i < length text → spells q (get_or text i 0) ≡ false → q ≡ false → Spelling text from j left true (i + 1)
spell_quoted text from j left q i s h e z = record {
  within = omega (arith, h);
  rest = ap (λ (b : Bool). get_or (if b [] (spelled true (drop (i + 1) text))) left 0x20) (sym z) ∙ ap (λ (l : List ℕ). get_or l left 0x20) (sym (spell_byte text q false i h e)) ∙ s.rest;
}

pub spell_end : (text : List ℕ) (from j left : ℕ) (q : Bool) (i : ℕ) → Spelling text from j left q i → length text ≤ i → 0x20 ≡ get_or (spelled false (drop from text)) j 0x20
unfolding spelled
spell_end text from j left q i s h = ap (λ (l : List ℕ). get_or (spelled q l) left 0x20) (sym (drop_of_length-le text h)) ∙ s.rest
