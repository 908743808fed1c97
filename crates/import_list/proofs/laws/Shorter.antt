-- Where an atom's outcome goes on is two bytes or more behind the atom.
use Rattle.std.specs.Prelude.{◌≡◌, Bool, true, false, not, List, [], ◌∷◌, ℕ, zero, suc, ◌+◌, ◌-◌, ◌≤◌, eqb, length, drop}
use Rattle.std.proofs.Common.{ap, ◌∙◌, arith}
use Rattle.whole.specs.Cases.{if}
use Rattle.import_grammar.specs.Grammar.{Spaces, none, more, Digits, one, also, Op, lt, le, gt, ge, ConstFactor, number, kbracket, ConstTerm, kfactor, ktimes}
use Rattle.import_grammar.specs.Grammar.{ConstSum, kterm, kneg, kplus, VaryFactor, level, vbracket, VaryTerm, vfactor, vscaled, vby, VarySum, vterm, vneg}
use Rattle.import_grammar.specs.Grammar.{plus_kv, plus_vk, plus_vv, Sum, constant, varying, Atom, now, later, compare, group, digit_byte, blank_byte, index_byte}
use Rattle.import_grammar.specs.Grammar.{four_byte, sign_byte, op_bytes, spaces_bytes, digits_bytes, kfactor_bytes, kterm_bytes, ksum_bytes, vfactor_bytes}
use Rattle.import_grammar.specs.Grammar.{vterm_bytes, vsum_bytes, sum_bytes, atom_bytes}
use Rattle.import_found.specs.Places.{Place, result_at, lost, is_space, is_cond, after_colon, go, next_case, xor, find, Decided}
use Rattle.import_found.proofs.laws.Walks.{pass_spaces, pass_atom}
use Rattle.import_list.specs.Pending.{size, AtomReading}

-- ---- the walks only go on

size_if : (b : Bool) (x y : Place) (n : ℕ) → size x ≤ n → size y ≤ n → size (if b x y) ≤ n
size_if true x y n p q = p
size_if false x y n p q = q

colon_size : (w : List ℕ) → size (after_colon w) ≤ length w
unfolding after_colon
colon_size [] = omega arith
colon_size (k ∷ w) = let h = colon_size w in size_if (eqb k 58) _ _ _ (omega arith) (omega (arith, h))

else_size : (ps : List Bool) (w : List ℕ) → size (elim ps as (λ _. Place) [ [] ↦ after_colon w | p ∷ qs ↦ lost ]) ≤ suc (length w)
else_size [] w = let h = colon_size w in omega (arith, h)
else_size (p ∷ qs) w = omega arith

pub go_size : (w : List ℕ) (b : Bool) (ps : List Bool) → size (go w b ps) ≤ length w
unfolding go
go_size [] b ps = omega arith
go_size (k ∷ w) b ps =
    let turned = go_size w (not b) ps in
    let inside = go_size w false (b ∷ ps) in
    let on = go_size w b ps in
    size_if (eqb k 33) _ _ _ (omega (arith, turned))
    (size_if (eqb k 40) _ _ _ (size_if (is_cond w 0) _ _ _ (omega (arith, inside)) (omega arith))
    (size_if (eqb k 101) _ _ _ (else_size ps w)
    (size_if (is_space k) _ _ _ (omega (arith, on)) (omega arith))))

case_size : (w : List ℕ) → size (next_case w) ≤ length w
unfolding next_case
case_size [] = omega arith
case_size (k ∷ w) = let h = case_size w in let g = go_size w false [] in size_if (eqb k 59) _ _ _ (omega (arith, g)) (omega (arith, h))

pred_more : {m : ℕ} (n : ℕ) → m ≤ n - 1 → m ≤ suc n - 1
pred_more n h = omega (arith, h)

no_pred : {m n : ℕ} → m ≤ n → m ≤ suc n - 1
no_pred h = omega (arith, h)

token_size : (k : ℕ) (w : List ℕ) (v a : Bool) (n : ℕ) (on all next : Place) (ps : List Bool) → size on ≤ n → size all ≤ n → size next ≤ n → length w ≤ n → size (go w false ps) ≤ n
    → size (if (eqb k 38) (if v (if a on (go w false ps)) on) (if (eqb k 124) (if v all (go w false ps)) (if (eqb k 58) (if v (result_at w) next) on))) ≤ n
token_size k w v a n on all next ps o l c r g =
    size_if (eqb k 38) _ _ _ (size_if v _ _ _ (size_if a _ _ _ o g) o)
    (size_if (eqb k 124) _ _ _ (size_if v _ _ _ l g)
    (size_if (eqb k 58) _ _ _ (size_if v _ _ _ r c) o))

-- behind the first byte at least
pub find_size : (w : List ℕ) (d : ℕ) (v a : Bool) (ps : List Bool) → size (find w d v a ps) ≤ length w - 1
unfolding find
find_size [] d v a ps = omega arith
find_size (k ∷ w) zero v a [] =
    let opened = find_size w 1 v a [] in
    let on = find_size w 0 v a [] in
    let row = find_size w 0 true true [] in
    size_if (eqb k 40) _ _ _ (pred_more (length w) opened)
    (size_if (eqb k 41) _ _ _ (omega arith)
    (token_size k w v a _ _ _ _ [] (pred_more (length w) on) (pred_more (length w) row) (no_pred (case_size w)) (omega arith) (no_pred (go_size w false []))))
find_size (k ∷ w) zero v a (p ∷ ps) =
    let opened = find_size w 1 v a (p ∷ ps) in
    let on = find_size w 0 v a (p ∷ ps) in
    let row = find_size w 0 true true (p ∷ ps) in
    let closed = find_size w 0 (xor p v) false ps in
    size_if (eqb k 40) _ _ _ (pred_more (length w) opened)
    (size_if (eqb k 41) _ _ _ (pred_more (length w) closed)
    (token_size k w v a _ _ _ _ (p ∷ ps) (pred_more (length w) on) (pred_more (length w) row) (no_pred (case_size w)) (omega arith) (no_pred (go_size w false (p ∷ ps)))))
find_size (k ∷ w) (suc d) v a ps =
    let opened = find_size w (suc (suc d)) v a ps in
    let closed = find_size w d v a ps in
    let on = find_size w (suc d) v a ps in
    size_if (eqb k 40) _ _ _ (pred_more (length w) opened) (size_if (eqb k 41) _ _ _ (pred_more (length w) closed) (pred_more (length w) on))

-- ---- an atom has bytes

spaces_long : (q : Spaces) (f : List ℕ) → length f ≤ length (spaces_bytes q f)
unfolding spaces_bytes
spaces_long none f = omega arith
spaces_long (more q b) f = let h = spaces_long q (blank_byte b ∷ f) in omega (arith, h)

token_long : (q : Spaces) (k : ℕ) (f : List ℕ) → length f ≤ length (spaces_bytes q (k ∷ f))
token_long q k f = let h = spaces_long q (k ∷ f) in omega (arith, h)

digits_long : (ds : Digits) (f : List ℕ) → length f ≤ length (digits_bytes ds f)
unfolding digits_bytes
digits_long (one x) f = omega arith
digits_long (also ds x) f = let h = digits_long ds (digit_byte x ∷ f) in omega (arith, h)

le_cons : (k : ℕ) (f : List ℕ) → length f ≤ length (k ∷ f)
le_cons k f = omega arith

then : {a b c : ℕ} → a ≤ b → b ≤ c → a ≤ c
then p q = omega (arith, p, q)

mutual
  unfolding kfactor_bytes

  kfactor_long : {n : ℕ} (x : ConstFactor n) (f : List ℕ) → length f ≤ length (kfactor_bytes x f)
  kfactor_long (number p ds) f = then (digits_long ds f) (spaces_long p (digits_bytes ds f))
  kfactor_long (kbracket p s q) f = then (token_long q 41 f) (then (ksum_long s (spaces_bytes q (41 ∷ f))) (token_long p 40 (ksum_bytes s (spaces_bytes q (41 ∷ f)))))

  kterm_long : {n : ℕ} (t : ConstTerm n) (f : List ℕ) → length f ≤ length (kterm_bytes t f)
  kterm_long (kfactor x) f = kfactor_long x f
  kterm_long (ktimes t p x) f = then (kfactor_long x f) (then (token_long p 42 (kfactor_bytes x f)) (kterm_long t (spaces_bytes p (42 ∷ kfactor_bytes x f))))

  ksum_long : {n : ℕ} (s : ConstSum n) (f : List ℕ) → length f ≤ length (ksum_bytes s f)
  ksum_long (kterm t) f = kterm_long t f
  ksum_long (kneg p t) f = then (kterm_long t f) (token_long p 45 (kterm_bytes t f))
  ksum_long (kplus s p g t) f = then (kterm_long t f) (then (token_long p (sign_byte g) (kterm_bytes t f)) (ksum_long s (spaces_bytes p (sign_byte g ∷ kterm_bytes t f))))

mutual
  unfolding vfactor_bytes

  vfactor_long : {n : ℕ} (x : VaryFactor n) (f : List ℕ) → length f ≤ length (vfactor_bytes x f)
  vfactor_long (level p i) f = then (le_cons (index_byte i) f) (token_long p 76 (index_byte i ∷ f))
  vfactor_long (vbracket p s q) f = then (token_long q 41 f) (then (vsum_long s (spaces_bytes q (41 ∷ f))) (token_long p 40 (vsum_bytes s (spaces_bytes q (41 ∷ f)))))

  vterm_long : {n : ℕ} (t : VaryTerm n) (f : List ℕ) → length f ≤ length (vterm_bytes t f)
  vterm_long (vfactor x) f = vfactor_long x f
  vterm_long (vscaled t p x) f = then (vfactor_long x f) (then (token_long p 42 (vfactor_bytes x f)) (kterm_long t (spaces_bytes p (42 ∷ vfactor_bytes x f))))
  vterm_long (vby t p x) f = then (kfactor_long x f) (then (token_long p 42 (kfactor_bytes x f)) (vterm_long t (spaces_bytes p (42 ∷ kfactor_bytes x f))))

  vsum_long : {n : ℕ} (s : VarySum n) (f : List ℕ) → length f ≤ length (vsum_bytes s f)
  vsum_long (vterm t) f = vterm_long t f
  vsum_long (vneg p t) f = then (vterm_long t f) (token_long p 45 (vterm_bytes t f))
  vsum_long (plus_kv s p g t) f = then (vterm_long t f) (then (token_long p (sign_byte g) (vterm_bytes t f)) (ksum_long s (spaces_bytes p (sign_byte g ∷ vterm_bytes t f))))
  vsum_long (plus_vk s p g t) f = then (kterm_long t f) (then (token_long p (sign_byte g) (kterm_bytes t f)) (vsum_long s (spaces_bytes p (sign_byte g ∷ kterm_bytes t f))))
  vsum_long (plus_vv s p g t) f = then (vterm_long t f) (then (token_long p (sign_byte g) (vterm_bytes t f)) (vsum_long s (spaces_bytes p (sign_byte g ∷ vterm_bytes t f))))

sum_long : {n : ℕ} (s : Sum n) (f : List ℕ) → length f ≤ length (sum_bytes s f)
unfolding sum_bytes
sum_long (constant s) f = ksum_long s f
sum_long (varying s) f = vsum_long s f

op_long : (op : Op) (f : List ℕ) → length f + 1 ≤ length (op_bytes op f)
op_long lt f = omega arith
op_long le f = omega arith
op_long gt f = omega arith
op_long ge f = omega arith

-- one byte or more
atom_long : {n : ℕ} (x : Atom n) → Decided x → (f : List ℕ) → length f + 1 ≤ length (atom_bytes x f)
unfolding atom_bytes
atom_long (now p i) d f = let h = spaces_long p (67 ∷ four_byte i ∷ f) in omega (arith, h)
atom_long (later p i) d f = let h = spaces_long p (78 ∷ four_byte i ∷ f) in omega (arith, h)
atom_long (compare s p op t) d f =
    let a = sum_long t f in
    let b = op_long op (sum_bytes t f) in
    let c = spaces_long p (op_bytes op (sum_bytes t f)) in
    let e = sum_long s (spaces_bytes p (op_bytes op (sum_bytes t f))) in
    omega (arith, a, b, c, e)
atom_long (group p o q) d f = absurd d

-- each step passes an atom and a token
pub outcome_size : (u : List ℕ) → AtomReading u → (v : Bool) (ps : List Bool) → size (find u 0 v false ps) + 2 ≤ length u
outcome_size u R v ps =
    let g = R.next ∷ R.rest in
    let same : find u 0 v false ps ≡ find g 0 v false ps = ap (λ (l : List ℕ). find l 0 v false ps) R.bytes ∙ (pass_atom R.atom (spaces_bytes R.spaces g) 0 v false ps ∙ pass_spaces R.spaces g 0 v false ps) in
    let a = find_size g 0 v false ps in
    let b = spaces_long R.spaces g in
    let c = atom_long R.atom R.decided (spaces_bytes R.spaces g) in
    let m : size (find u 0 v false ps) ≡ size (find g 0 v false ps) = ap size same in
    let n : length u ≡ length (atom_bytes R.atom (spaces_bytes R.spaces g)) = ap length R.bytes in
    omega (arith, a, b, c, m, n)
