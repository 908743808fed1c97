-- Frames, and what a byte does to one: sums worked from the left, each result judged at once.
use Rattle.std.specs.Prelude.{Bool, true, false, List, ℕ, ◌+◌, ◌*◌, ◌-◌, ◌≤◌, eqb, leb, ltb, ℤ, pos}
use Rattle.whole.specs.Cases.{if}
use Rattle.whole.specs.Linears.{add_list, sub_list}
use Rattle.import_numbers.specs.Numbers.{all_within}
use Rattle.import_linears.specs.Nine.{most, Nine, constant9, level9, multiplied}
use Rattle.import_frames.specs.declared.Frame.{Frame}

-- what a step may rely on: all that is held lies within 32 bits
pub record SoundFrame (s : Frame) : Type 0 where
  pub left_nine : Nine s.left
  pub sum_nine : Nine s.sum
  pub term_nine : Nine s.term
  pub number_within : s.number ≤ most

abbrev pub zero9 : List ℤ
zero9 = constant9 (pos 0)

abbrev pub unit9 : List ℤ
unit9 = constant9 (pos 1)

-- ---- bytes

abbrev pub digit : ℕ → Bool
digit k = if (ltb k 48) false (leb k 57)

abbrev pub blank : ℕ → Bool
blank k = if (eqb k 32) true (if (eqb k 9) true (if (eqb k 10) true (eqb k 13)))

-- the bytes of sums, but ")"
abbrev pub of_sum : ℕ → Bool
of_sum k = if (blank k) true (if (digit k) true (if (eqb k 42) true (if (eqb k 43) true (if (eqb k 45) true (if (eqb k 76) true (eqb k 40))))))

-- ---- frames

abbrev pub made : List ℤ → List ℤ → List ℤ → ℕ → Bool → ℕ → ℕ → Frame
made L X t n m o C = record { left = L; sum = X; term = t; number = n; minus = m; mode = o; compared = C; beyond = false }

abbrev pub idle : ℕ → Frame
idle o = made zero9 zero9 unit9 0 false o 0

abbrev pub over : Frame
over = record { left = zero9; sum = zero9; term = unit9; number = 0; minus = false; mode = 0; compared = 0; beyond = true }

abbrev pub termed : Frame → List ℤ → Frame
termed s t = made s.left s.sum t 0 s.minus 2 s.compared

abbrev pub moded : Frame → ℕ → Frame
moded s o = made s.left s.sum s.term 0 s.minus o s.compared

abbrev pub numbered : Frame → ℕ → Frame
numbered s n = made s.left s.sum s.term n s.minus 1 s.compared

abbrev pub summed : Frame → List ℤ → Bool → Frame
summed s t m = made s.left t unit9 0 m 0 s.compared

abbrev pub sided : List ℤ → ℕ → Frame
sided t C = made t zero9 unit9 0 false 0 C

abbrev pub valued : List ℤ → Frame
valued t = made zero9 t unit9 0 false 2 0

-- ---- numbers

-- a factor more, the product judged
unfoldable pub factor : Frame → List ℤ → Frame
factor s q = if (all_within (multiplied s.term q)) (termed s (multiplied s.term q)) over

-- the number is whole
unfoldable pub closed : Frame → Frame
closed s = if (eqb s.mode 1) (factor s (constant9 (pos s.number))) s

-- the terms with the last
unfoldable pub total : Frame → List ℤ
total s = if s.minus (sub_list s.sum s.term) (add_list s.sum s.term)

-- + and -: the sum is judged; a leading one has nothing before it
unfoldable pub on_sign : Frame → Bool → Frame
on_sign s m = if (eqb s.mode 0) (summed s s.sum m) (if (all_within (total s)) (summed s (total s) m) over)

-- < and >: the left side is judged
unfoldable pub on_compare : Frame → ℕ → Frame
on_compare s C = if (all_within (total s)) (sided (total s) C) over

-- "right less left for < and >=, else left less right"
unfoldable pub less : Frame → List ℤ → List ℤ
less s t = if (eqb s.compared 1) (sub_list t s.left) (if (eqb s.compared 4) (sub_list t s.left) (sub_list s.left t))

-- the whole sum t, and a comparison's difference
unfoldable pub compared_with : Frame → List ℤ → Frame
compared_with s t = if (eqb s.compared 0) (valued t) (if (all_within (less s t)) (idle 4) over)

-- what a frame comes to: a sum, or a condition
unfoldable pub finished : Frame → Frame
finished s = if (eqb s.mode 4) s (if (all_within (total s)) (compared_with s (total s)) over)

-- ---- bytes

-- what a byte that ends sums and conditions begins
abbrev pub behind : ℕ → ℕ
behind k = if (eqb k 67) 5 (if (eqb k 78) 5 (if (eqb k 34) 6 0))

unfoldable pub on_end : Frame → ℕ → Frame
on_end s k = if (finished s).beyond (finished s) (idle (behind k))

-- = right behind < or >, or another
unfoldable pub on_equals : Frame → Frame
on_equals s =
    if (eqb s.mode 0)
    (if (eqb s.compared 1) (made s.left s.sum s.term 0 s.minus 0 2) (if (eqb s.compared 3) (made s.left s.sum s.term 0 s.minus 0 4) (on_end s 61)))
    (on_end s 61)

unfoldable pub on_other : Frame → ℕ → Frame
on_other s k = if (eqb k 61) (on_equals s) (if (eqb k 60) (on_compare s 1) (if (eqb k 62) (on_compare s 3) (on_end s k)))

unfoldable pub on_mark : Frame → ℕ → Frame
on_mark s k =
    if (blank k) s (if (eqb k 42) (moded s 0) (if (eqb k 43) (on_sign s false) (if (eqb k 45) (on_sign s true) (if (eqb k 76) (moded s 3) (on_other s k)))))

-- a number goes on as long as it lies within 32 bits
unfoldable pub grown : Frame → ℕ → Frame
grown s n = if (leb n most) (numbered s n) over

unfoldable pub on_digit : Frame → ℕ → Frame
on_digit s k =
    if (eqb s.mode 1) (grown s (s.number * 10 + (k - 48)))
    (if (eqb s.mode 3) (factor s (level9 k)) (if (eqb s.mode 5) (idle 4) (numbered s (k - 48))))

abbrev pub unless_over : Frame → Frame → Frame
unless_over c d = if c.beyond c d

-- a byte that is no bracket
unfoldable pub step : Frame → ℕ → Frame
step s k =
    if (eqb s.mode 6) (if (eqb k 34) (idle 0) s)
    (if (digit k) (on_digit s k) (unless_over (closed s) (on_mark (closed s) k)))

-- a bracket in a frame that comes to f
unfoldable pub entered : Frame → Frame → Frame
entered o f = if (eqb f.mode 4) (idle 4) (factor o f.sum)

-- ")": the frame s closes in the frame o
unfoldable pub popped : Frame → Frame → Frame
popped o s = unless_over (closed s) (unless_over (finished (closed s)) (entered o (finished (closed s))))

-- ---- where a frame ends, and where a bracket opens another

-- a ")", or where only a sum is asked for what is no byte of one
abbrev pub stops : Bool → Frame → ℕ → Bool
stops only s k = if (eqb s.mode 6) false (if (eqb k 41) true (if (of_sum k) false only))

abbrev pub opens : Frame → ℕ → Bool
opens s k = if (eqb s.mode 6) false (eqb k 40)
